use Rattle.std.proofs.Common.{◌≡◌, ◌∙◌, ℕ, List, Some, length, string_bytes, sym, ap, subst, arith}
use Rattle.std.specs.Prelude.{◌==◌, true, false, String}
use Rattle.std.specs.declared.alloc.Global.{Global}
use Rattle.std.proofs.lemmas.List.{length-map}
use Rattle.bidi_handles.specs.Ids.{id_text}
use Rattle.bidi_handles.specs.declared.id.IdKind.TheVariants.{Subscription}
use Rattle.bidi_remote.specs.Machine.Outcome.{deeds}
use Rattle.bidi_names.specs.Asked.{Ends, ending_text}
use Rattle.bidi_names.specs.Replies.{AreNumbers}
use Rattle.bidi_names.specs.Subscriptions.{other_ids}
use Rattle.bidi_names.specs.View.{texts_of}
use Rattle.bidi_scripted.specs.Kept.{Hears, alone}
use Rattle.bidi_scripted.specs.View.{script_of}
use Rattle.bidi_scripted.proofs.KeptLemmas.{takes-as, ending-whole, ending-alone, ending-part, lengths-same, lengths-apart, none-of}
use Rattle.bidi_scripted.proofs.scripted_end.ScriptedEnd.end_ids.Goals as goal

-- numbers of ids, by other names of both
numbers_of : (s : ℕ) (xs ys : List (String Global)) (ns ms : List ℕ) → AreNumbers (id_text Subscription s) (texts_of xs) ms → xs ≡ ys → ns ≡ ms
    → AreNumbers (id_text Subscription s) (texts_of ys) ns
numbers_of s xs ys ns ms are same is =
    subst (λ zs. AreNumbers (id_text Subscription s) (texts_of zs) ns) same (subst (λ ks. AreNumbers (id_text Subscription s) (texts_of xs) ks) (sym is) are)

-- the ids of others, by another name of the ids
others_of : (ns : List ℕ) (s : ℕ) (xs ys os : List (String Global)) → texts_of os ≡ other_ids ns s (texts_of xs) → xs ≡ ys → texts_of os ≡ other_ids ns s (texts_of ys)
others_of ns s xs ys os are same = are ∙ ap (λ zs. other_ids ns s (texts_of zs)) same

pub returns-then-len-clause-takes : goal.returns-then-len-clause-takes
returns-then-len-clause-takes c = λ h s.
    let self = c.args.self.now in
    let new = c.cancel_by.new.self in
    let id = c.args.wanted.id.value in
    let ids = texts_of c.args.wanted.ids.items in
    let session = c.args.session in
    let owned = alone (deeds h) session (script_of self.script).named in
    let others = others_of owned session c.deref.result.now c.args.wanted.ids.items c.in_ok-others.others.items (c.in_ok-others.ensures h s) c.deref.ensures.value in
    let long = ap length (sym others) ∙ length-map c.in_ok-others.others.items string_bytes in
    let many = length-map c.args.wanted.ids.items string_bytes in
    let all : length (other_ids owned session ids) ≡ length ids =
    let a = c.len.ensures in let b = c.len-2.ensures in let is = c.if-len.true in omega (arith, long, many, a, b, is) in
    takes-as c.args.conn.value h session (Some (Ends id ids)) self.end (script_of self.script) c.cancel_by.result new.end (script_of new.script) _ _
    (ending-whole c.args.text.now id ids (other_ids owned session ids) (lengths-same _ _ all))
    (c.cancel_by.ensures.takes h id ids s
    (numbers_of session c.deref-2.result.now c.args.wanted.ids.items c.deref-then-len.result.now c.in_ok-numbers.numbers.items c.in_ok-numbers.ensures c.deref-2.ensures.value
    c.deref-then-len.ensures.value))

pub returns-then-is_empty-clause-takes : goal.returns-then-is_empty-clause-takes
returns-then-is_empty-clause-takes c = λ h s.
    let self = c.args.self.now in
    let new = c.cancel.new.self in
    let id = c.args.wanted.id.value in
    let ids = texts_of c.args.wanted.ids.items in
    let session = c.args.session in
    let owned = alone (deeds h) session (script_of self.script).named in
    let others = others_of owned session c.deref.result.now c.args.wanted.ids.items c.in_ok-others.others.items (c.in_ok-others.ensures h s) c.deref.ensures.value in
    let long = ap length (sym others) ∙ length-map c.in_ok-others.others.items string_bytes in
    let many = length-map c.args.wanted.ids.items string_bytes in
    let apart : length (other_ids owned session ids) ≡ length ids → ⊥ = λ e.
    let a = c.len.ensures in let b = c.len-2.ensures in c.if-len.false (omega (arith, long, many, a, b, e)) in
    let size = c.in_ok-others.others in
    let none = ap (λ zs. length zs == 0) (sym others)
    ∙ none-of string_bytes size.items _ true (omega arith) (sym c.is_empty.ensures ∙ c.if-is_empty.true) in
    takes-as c.args.conn.value h session (Some (Ends id ids)) self.end (script_of self.script) c.cancel.result new.end (script_of new.script) _ _
    (ending-alone c.args.text.now id ids (other_ids owned session ids) (lengths-apart _ _ apart) none)
    (c.cancel.ensures.takes h ids s
    (numbers_of session c.deref-2.result.now c.args.wanted.ids.items c.deref-then-is_empty.result.now c.in_ok-numbers.numbers.items c.in_ok-numbers.ensures c.deref-2.ensures.value
    c.deref-then-is_empty.ensures.value))

pub returns-clause-takes : goal.returns-clause-takes
returns-clause-takes c = λ h s.
    let self = c.args.self.now in
    let new = c.cancel_by-2.new.self in
    let id = c.args.wanted.id.value in
    let ids = texts_of c.args.wanted.ids.items in
    let session = c.args.session in
    let owned = alone (deeds h) session (script_of self.script).named in
    let others = others_of owned session c.deref.result.now c.args.wanted.ids.items c.in_ok-others.others.items (c.in_ok-others.ensures h s) c.deref.ensures.value in
    let long = ap length (sym others) ∙ length-map c.in_ok-others.others.items string_bytes in
    let many = length-map c.args.wanted.ids.items string_bytes in
    let apart : length (other_ids owned session ids) ≡ length ids → ⊥ = λ e.
    let a = c.len.ensures in let b = c.len-2.ensures in c.if-len.false (omega (arith, long, many, a, b, e)) in
    let size = c.in_ok-others.others in
    let some = ap (λ zs. length zs == 0) (sym others)
    ∙ none-of string_bytes size.items _ false (omega arith) (sym c.is_empty.ensures ∙ c.if-is_empty.false) in
    let text = c.as_str.ensures.value ∙ (c.in_ok-text.ensures ∙ (ap (λ xs. ending_text id (texts_of xs)) c.deref-3.ensures.value ∙ ap (ending_text id) others)) in
    takes-as c.args.conn.value h session (Some (Ends id ids)) self.end (script_of self.script) c.cancel_by-2.result new.end (script_of new.script) _ _
    (ap Hears text ∙ ending-part c.args.text.now id ids (other_ids owned session ids) (lengths-apart _ _ apart) some)
    (c.cancel_by-2.ensures.takes h id ids s
    (numbers_of session c.deref-2.result.now c.args.wanted.ids.items c.deref-4.result.now c.in_ok-numbers.numbers.items c.in_ok-numbers.ensures c.deref-2.ensures.value
    c.deref-4.ensures.value))
