use Rattle.std.proofs.Common.{◌≡◌, ◌∙◌, ◌+◌, ◌-◌, ◌<◌, ℕ, suc, List, [], ◌∷◌, map, drop, length, get_or, true, false, Some, None, Global, arith, rules, refl, sym, ap, subst, ltb-true}
use Rattle.std.proofs.lemmas.Bool.{and_parts}
use Rattle.std.proofs.lemmas.List.{drop_all}
use Rattle.std.proofs.lemmas.Result.{IfOk-weaker}
use Rattle.std.specs.Prelude.{◌≤◌, IfOk, nat_lt, string_bytes}
use Rattle.std.specs.Borrow.{Bor}
use Rattle.json.specs.Json as json
use Rattle.json.specs.Find.{get}
use Rattle.json.specs.Value.{value_view, items_view, members_view}
use Rattle.json.specs.declared.value.Value.{Value}
use Rattle.bidi_grammar.specs.Term as cddl
use Rattle.bidi_grammar.specs.Term.{names_of, term_at}
use Rattle.bidi_grammar.specs.Fits.{takes, without}
use Rattle.bidi_grammar.specs.Reason as step
use Rattle.bidi_grammar.specs.Reason.{Reason, missing, unknown, under, by, here, told, tags_with}
use Rattle.bidi_grammar.specs.Judges.{yes_left, no_left, gave_up, Judges, no_look, not_taken, in_first, out_in_first, in_second, of_rule}
use Rattle.bidi_grammar.specs.Judges.{ItemsJudge, all_asked, at_item, next_item, PartsJudge, parts_asked, at_part, next_part}
use Rattle.bidi_grammar.specs.Judges.{RowsJudge, at_row, row_met, is_absent, rows_met, OthersJudge, others_asked, is_unknown, at_other, next_other}
use Rattle.bidi_grammar.specs.View.{answer_of, are_within, draft_of, is_grounded, need_of, rest_is_within, row_of, rows_are_within, table, term_of}
use Rattle.bidi_grammar.proofs.LevelLemmas.{items_levels, members_levels, levels-get, array_levels, object_levels}
use Rattle.bidi_grammar.proofs.TableLemmas.{term_here, grounded_here, few_terms}
use Rattle.bidi_grammar.proofs.JudgeLemmas.{nth, number_at, item_here, row_at, rows_within_at, within_at, other_kept, other_gone, more_tags, plain_judged, list_judged, tuple_judged, map_judged, row_missing, same_long, one_less}
use Rattle.bidi_grammar.proofs.judging.+judge.Goals as goal
use Rattle.bidi_grammar.proofs.judging.+judge.Goals.{judge_rows-in-Some+in_ok-after-in-Some+in-Yes, judge_rows-in-None+in-Optional}

-- ---- one term

pub judge_term-returns-then-looks-eq0 : goal.judge_term-returns-then-looks-eq0
judge_term-returns-then-looks-eq0 t c =
    let g = table c.args.terms.now in
    let u = value_view c.args.value.now in
    let zero : c.args.looks ≡ 0 = omega (arith, c.if-looks-eq0.true) in
    subst (λ k. Judges g k u c.args.n (term_at g c.args.n) gave_up) (sym zero) (no_look u c.args.n (term_at g c.args.n))

pub judge_term-returns-then-not-takes : goal.judge_term-returns-then-not-takes
judge_term-returns-then-not-takes t c =
    let g = table c.args.terms.now in
    let u = value_view c.args.value.now in
    let n = c.args.n in
    let k = c.args.looks in
    let τ = term_at g n in
    let at : τ ≡ term_of c.index-terms-n.result = term_here c.args.terms.now n c.index-terms-n.result c.requires.there c.index-terms-n.is in
    let not : takes u τ ≡ false = ap (takes u) at ∙ sym c.takes.ensures ∙ c.if-not-takes.true in
    let one : suc (k - 1) ≡ k = one_less k (λ e. omega (arith, e, c.if-looks-eq0.false)) in
    let r = draft_of c.set_here.new.self in
    let said : r ≡ here n u = c.set_here.ensures in
    subst (λ j. Judges g j u n τ (no_left (k - 1) r)) one
    (subst (λ x. Judges g (suc (k - 1)) u n τ (no_left (k - 1) x)) (sym said) (not_taken (k - 1) u n τ not))

pub judge_term-judge_inside-requires : goal.judge_term-judge_inside-requires
judge_term-judge_inside-requires t c =
    let xs = c.args.terms.now in
    let n = c.args.n in
    let x = c.index-terms-n.result in
    let at : term_at (table xs) n ≡ term_of x = term_here xs n x c.requires.there c.index-terms-n.is in
    let inner = grounded_here xs n (term_of x) c.requires.grounded c.requires.there at in
    let taken : takes (value_view c.args.value.now) (term_of x) ≡ true = sym c.takes.ensures ∙ c.if-not-takes.false in
    (omega arith, (c.requires.grounded, (c.requires.there, (inner, taken))))

pub judge_term-returns : goal.judge_term-returns
judge_term-returns t c =
    let g = table c.args.terms.now in
    let u = value_view c.args.value.now in
    let n = c.args.n in
    let k = c.args.looks in
    let x = c.index-terms-n.result in
    let at : term_at g n ≡ term_of x = term_here c.args.terms.now n x c.requires.there c.index-terms-n.is in
    let one : suc (k - 1) ≡ k = one_less k (λ e. omega (arith, e, c.if-looks-eq0.false)) in
    let d = c.judge_inside.new.draft in
    let judged : IfOk c.judge_inside.result (λ a. Judges g (suc (k - 1)) u n (term_of x) (answer_of a d)) = c.judge_inside.ensures in
    IfOk-weaker c.judge_inside.result _ _ (λ a j. subst (λ i. Judges g i u n (term_at g n) (answer_of a d)) one (subst (λ τ. Judges g (suc (k - 1)) u n τ (answer_of a d)) (sym at) j)) judged

-- ---- inside: terms that name no other

pub judge_inside-returns-in-Exactly : goal.judge_inside-returns-in-Exactly
judge_inside-returns-in-Exactly t c =
    plain_judged (table c.args.terms.now) c.args.looks (value_view c.args.value.now) c.args.n (term_of c.args.term.now) _ (ap term_of c.in-Exactly.is) refl c.requires.taken

pub judge_inside-returns-in-Text : goal.judge_inside-returns-in-Text
judge_inside-returns-in-Text t c =
    plain_judged (table c.args.terms.now) c.args.looks (value_view c.args.value.now) c.args.n (term_of c.args.term.now) _ (ap term_of c.in-Text.is) refl c.requires.taken

pub judge_inside-returns-in-Bool : goal.judge_inside-returns-in-Bool
judge_inside-returns-in-Bool t c =
    plain_judged (table c.args.terms.now) c.args.looks (value_view c.args.value.now) c.args.n (term_of c.args.term.now) _ (ap term_of c.in-Bool.is) refl c.requires.taken

pub judge_inside-returns-in-Truth : goal.judge_inside-returns-in-Truth
judge_inside-returns-in-Truth t c =
    plain_judged (table c.args.terms.now) c.args.looks (value_view c.args.value.now) c.args.n (term_of c.args.term.now) _ (ap term_of c.in-Truth.is) refl c.requires.taken

pub judge_inside-returns-in-Null : goal.judge_inside-returns-in-Null
judge_inside-returns-in-Null t c =
    plain_judged (table c.args.terms.now) c.args.looks (value_view c.args.value.now) c.args.n (term_of c.args.term.now) _ (ap term_of c.in-Null.is) refl c.requires.taken

pub judge_inside-returns-in-Whole : goal.judge_inside-returns-in-Whole
judge_inside-returns-in-Whole t c =
    plain_judged (table c.args.terms.now) c.args.looks (value_view c.args.value.now) c.args.n (term_of c.args.term.now) _ (ap term_of c.in-Whole.is) refl c.requires.taken

pub judge_inside-returns-in-Number : goal.judge_inside-returns-in-Number
judge_inside-returns-in-Number t c =
    plain_judged (table c.args.terms.now) c.args.looks (value_view c.args.value.now) c.args.n (term_of c.args.term.now) _ (ap term_of c.in-Number.is) refl c.requires.taken

pub judge_inside-returns-in-Any : goal.judge_inside-returns-in-Any
judge_inside-returns-in-Any t c =
    plain_judged (table c.args.terms.now) c.args.looks (value_view c.args.value.now) c.args.n (term_of c.args.term.now) _ (ap term_of c.in-Any.is) refl c.requires.taken

-- ---- inside: terms that name others

pub judge_inside-judge_items-requires : goal.judge_inside-judge_items-requires
judge_inside-judge_items-requires t c =
    let xs = c.args.terms.now in
    let m = c.in-ListOf.item in
    let low : nat_lt m (length xs) ≡ true = subst (λ x. is_grounded (length xs) c.args.n (term_of x) ≡ true) c.in-ListOf.is c.requires.inner in
    let deep = array_levels (value_view c.args.value.now) (items_view c.in-Some.items.now) c.in-Some.ensures in
    (omega (arith, deep), (c.requires.grounded, ltb-true m (length xs) low))

pub judge_inside-returns-in-Some : goal.judge_inside-returns-in-Some
judge_inside-returns-in-Some t c =
    let g = table c.args.terms.now in
    let u = value_view c.args.value.now in
    let ts = items_view c.in-Some.items.now in
    let d = c.judge_items.new.draft in
    let judged : IfOk c.judge_items.result (λ a. ItemsJudge g c.args.looks 0 ts c.in-ListOf.item (answer_of a d)) = c.judge_items.ensures in
    IfOk-weaker c.judge_items.result _ _
    (λ a j. list_judged g c.args.looks u c.args.n (term_of c.args.term.now) c.in-ListOf.field-0 c.in-ListOf.item ts (answer_of a d) (ap term_of c.in-ListOf.is) c.in-Some.ensures c.requires.taken j) judged

pub judge_inside-judge_parts-requires : goal.judge_inside-judge_parts-requires
judge_inside-judge_parts-requires t c =
    let xs = c.args.terms.now in
    let u = value_view c.args.value.now in
    let ns = c.in-TupleOf.parts.items in
    let items = c.in-Some-as_items.items.now in
    let same : c.deref.result.now ≡ ns = search rules in
    let low : are_within (length xs) ns ≡ true = subst (λ x. is_grounded (length xs) c.args.n (term_of x) ≡ true) c.in-TupleOf.is c.requires.inner in
    let taken : takes u (cddl.tuple_of ns) ≡ true = subst (λ x. takes u (term_of x) ≡ true) c.in-TupleOf.is c.requires.taken in
    let long = same_long u ns items taken c.in-Some-as_items.ensures in
    let deep = array_levels u (items_view items) c.in-Some-as_items.ensures in
    (omega (arith, deep), (c.requires.grounded, (subst (λ ks. are_within (length xs) ks ≡ true) (sym same) low, long ∙ ap length (sym same))))

pub judge_inside-returns-in-Some-as_items : goal.judge_inside-returns-in-Some-as_items
judge_inside-returns-in-Some-as_items t c =
    let g = table c.args.terms.now in
    let u = value_view c.args.value.now in
    let ns = c.in-TupleOf.parts.items in
    let ts = items_view c.in-Some-as_items.items.now in
    let d = c.judge_parts.new.draft in
    let same : c.deref.result.now ≡ ns = search rules in
    let judged : IfOk c.judge_parts.result (λ a. PartsJudge g c.args.looks 0 ts c.deref.result.now (answer_of a d)) = c.judge_parts.ensures in
    IfOk-weaker c.judge_parts.result _ _
    (λ a j. tuple_judged g c.args.looks u c.args.n (term_of c.args.term.now) ns ts (answer_of a d) (ap term_of c.in-TupleOf.is) c.in-Some-as_items.ensures c.requires.taken
    (subst (λ ks. PartsJudge g c.args.looks 0 ts ks (answer_of a d)) same j)) judged

pub judge_inside-judge_rows-requires : goal.judge_inside-judge_rows-requires
judge_inside-judge_rows-requires t c =
    let xs = c.args.terms.now in
    let rows = map row_of c.in-MapOf.rows.items in
    let rest = c.in-MapOf.rest in
    let same : c.deref-in-Some-as_members.result.now ≡ c.in-MapOf.rows.items = search rules in
    let low = and_parts (rest_is_within (length xs) rest) (rows_are_within (length xs) rows) (subst (λ x. is_grounded (length xs) c.args.n (term_of x) ≡ true) c.in-MapOf.is c.requires.inner) in
    (omega arith, (c.requires.grounded, (subst (λ rs. rows_are_within (length xs) (map row_of rs) ≡ true) (sym same) low.1, (low.0, c.in-Some-as_members.ensures))))

pub judge_inside-returns-in-Some-as_members : goal.judge_inside-returns-in-Some-as_members
judge_inside-returns-in-Some-as_members t c =
    let g = table c.args.terms.now in
    let u = value_view c.args.value.now in
    let ms = members_view c.in-Some-as_members.members.now in
    let rest = c.in-MapOf.rest in
    let d = c.judge_rows.new.draft in
    let same : c.deref-in-Some-as_members.result.now ≡ c.in-MapOf.rows.items = search rules in
    let judged : IfOk c.judge_rows.result (λ a. RowsJudge g c.args.looks rest (without (names_of (map row_of c.deref-in-Some-as_members.result.now)) ms) 0 u (map row_of c.deref-in-Some-as_members.result.now) (answer_of a d)) = c.judge_rows.ensures in
    IfOk-weaker c.judge_rows.result _ _
    (λ a j. map_judged g c.args.looks u c.args.n (term_of c.args.term.now) (map row_of c.in-MapOf.rows.items) rest ms (answer_of a d) (ap term_of c.in-MapOf.is) c.in-Some-as_members.ensures
    (subst (λ rs. RowsJudge g c.args.looks rest (without (names_of (map row_of rs)) ms) 0 u (map row_of rs) (answer_of a d)) same j)) judged

pub judge_inside-judge_either-requires : goal.judge_inside-judge_either-requires
judge_inside-judge_either-requires t c =
    let xs = c.args.terms.now in
    let n = c.args.n in
    let l = c.in-Either.first in
    let m = c.in-Either.second in
    let low = and_parts (nat_lt l n) (nat_lt m n) (subst (λ x. is_grounded (length xs) n (term_of x) ≡ true) c.in-Either.is c.requires.inner) in
    let one : l < n = ltb-true l n low.0 in
    let two : m < n = ltb-true m n low.1 in
    let some : n < length xs = c.requires.there in
    (omega arith, (c.requires.grounded, (omega (arith, one, some), omega (arith, two, some))))

pub judge_inside-returns-in-Either : goal.judge_inside-returns-in-Either
judge_inside-returns-in-Either t c =
    let g = table c.args.terms.now in
    let u = value_view c.args.value.now in
    let d = c.judge_either.new.draft in
    let says : term_of c.args.term.now ≡ cddl.either c.in-Either.first c.in-Either.second = ap term_of c.in-Either.is in
    let judged : IfOk c.judge_either.result (λ a. Judges g (suc c.args.looks) u c.args.n (cddl.either c.in-Either.first c.in-Either.second) (answer_of a d)) = c.judge_either.ensures in
    subst (λ τ. IfOk c.judge_either.result (λ a. Judges g (suc c.args.looks) u c.args.n τ (answer_of a d))) (sym says) judged

pub judge_inside-judge_rule-requires : goal.judge_inside-judge_rule-requires
judge_inside-judge_rule-requires t c =
    let xs = c.args.terms.now in
    let n = c.args.n in
    let m = c.in-Rule.rule in
    let low : nat_lt m n ≡ true = subst (λ x. is_grounded (length xs) n (term_of x) ≡ true) c.in-Rule.is c.requires.inner in
    let one : m < n = ltb-true m n low in
    let some : n < length xs = c.requires.there in
    (omega arith, (c.requires.grounded, omega (arith, one, some)))

pub judge_inside-returns-in-Rule : goal.judge_inside-returns-in-Rule
judge_inside-returns-in-Rule t c =
    let g = table c.args.terms.now in
    let u = value_view c.args.value.now in
    let d = c.judge_rule.new.draft in
    let s = string_bytes c.in-Rule.field-0 in
    let says : term_of c.args.term.now ≡ cddl.rule s c.in-Rule.rule = ap term_of c.in-Rule.is in
    let judged : IfOk c.judge_rule.result (λ a. Judges g (suc c.args.looks) u c.args.n (cddl.rule s c.in-Rule.rule) (answer_of a d)) = c.judge_rule.ensures s in
    subst (λ τ. IfOk c.judge_rule.result (λ a. Judges g (suc c.args.looks) u c.args.n τ (answer_of a d))) (sym says) judged

-- ---- rules

pub judge_rule-judge_term-requires : goal.judge_rule-judge_term-requires
judge_rule-judge_term-requires t c = (omega arith, (c.requires.grounded, c.requires.there))

pub judge_rule-returns-in-Yes : goal.judge_rule-returns-in-Yes
judge_rule-returns-in-Yes t c =
    let g = table c.args.terms.now in
    let u = value_view c.args.value.now in
    let m = c.args.rule in
    let j : Judges g c.args.looks u m (term_at g m) (yes_left c.in-Yes.left) = subst (λ a. Judges g c.args.looks u m (term_at g m) (answer_of a c.judge_term.new.draft)) c.in-Yes.is c.in_ok-left.ensures in
    λ name. of_rule c.args.looks u c.args.n m name (yes_left c.in-Yes.left) j

pub judge_rule-returns-in-Over : goal.judge_rule-returns-in-Over
judge_rule-returns-in-Over t c =
    let g = table c.args.terms.now in
    let u = value_view c.args.value.now in
    let m = c.args.rule in
    let j : Judges g c.args.looks u m (term_at g m) gave_up = subst (λ a. Judges g c.args.looks u m (term_at g m) (answer_of a c.judge_term.new.draft)) c.in-Over.is c.in_ok-left.ensures in
    λ name. of_rule c.args.looks u c.args.n m name gave_up j

pub judge_rule-returns-in-No : goal.judge_rule-returns-in-No
judge_rule-returns-in-No t c =
    let g = table c.args.terms.now in
    let u = value_view c.args.value.now in
    let m = c.args.rule in
    let r = draft_of c.judge_term.new.draft in
    let k = c.in-No.left in
    let j : Judges g c.args.looks u m (term_at g m) (no_left k r) = subst (λ a. Judges g c.args.looks u m (term_at g m) (answer_of a c.judge_term.new.draft)) c.in-No.is c.in_ok-left.ensures in
    let said : draft_of c.set_name.new.self ≡ by c.args.n r = c.set_name.ensures in
    λ name. subst (λ x. Judges g (suc c.args.looks) u c.args.n (cddl.rule name m) (no_left k x)) (sym said) (of_rule c.args.looks u c.args.n m name (no_left k r) j)

-- ---- choices

pub judge_either-judge_term-requires : goal.judge_either-judge_term-requires
judge_either-judge_term-requires t c = (omega arith, (c.requires.grounded, c.requires.first))

pub judge_either-judge_second-requires : goal.judge_either-judge_second-requires
judge_either-judge_second-requires t c = (omega arith, (c.requires.grounded, c.requires.second))

pub judge_either-returns-in-Yes : goal.judge_either-returns-in-Yes
judge_either-returns-in-Yes t c =
    let g = table c.args.terms.now in
    let u = value_view c.args.value.now in
    let l = c.args.first in
    let j : Judges g c.args.looks u l (term_at g l) (yes_left c.in-Yes.left) = subst (λ a. Judges g c.args.looks u l (term_at g l) (answer_of a c.judge_term.new.draft)) c.in-Yes.is c.in_ok-left.ensures in
    in_first c.args.looks u c.args.n l c.args.second c.in-Yes.left j

pub judge_either-returns-in-Over : goal.judge_either-returns-in-Over
judge_either-returns-in-Over t c =
    let g = table c.args.terms.now in
    let u = value_view c.args.value.now in
    let l = c.args.first in
    let j : Judges g c.args.looks u l (term_at g l) gave_up = subst (λ a. Judges g c.args.looks u l (term_at g l) (answer_of a c.judge_term.new.draft)) c.in-Over.is c.in_ok-left.ensures in
    out_in_first c.args.looks u c.args.n l c.args.second j

pub judge_either-returns-in-No : goal.judge_either-returns-in-No
judge_either-returns-in-No t c =
    let g = table c.args.terms.now in
    let u = value_view c.args.value.now in
    let l = c.args.first in
    let j : Judges g c.args.looks u l (term_at g l) (no_left c.in-No.left (draft_of c.judge_term.new.draft)) = subst (λ a. Judges g c.args.looks u l (term_at g l) (answer_of a c.judge_term.new.draft)) c.in-No.is c.in_ok-left.ensures in
    c.judge_second.ensures c.args.looks l j

pub judge_second-judge_term-requires : goal.judge_second-judge_term-requires
judge_second-judge_term-requires t c = (omega arith, (c.requires.grounded, c.requires.second))

pub judge_second-returns-in-Yes : goal.judge_second-returns-in-Yes
judge_second-returns-in-Yes t c =
    let g = table c.args.terms.now in
    let u = value_view c.args.value.now in
    let m = c.args.second in
    let j : Judges g c.args.looks u m (term_at g m) (yes_left c.in-Yes.left) = subst (λ a. Judges g c.args.looks u m (term_at g m) (answer_of a c.judge_term.new.draft)) c.in-Yes.is c.in_ok-left.ensures in
    λ k l h. in_second k u c.args.n l m c.args.looks (draft_of c.args.draft.now) (yes_left c.in-Yes.left) h j

pub judge_second-returns-in-Over : goal.judge_second-returns-in-Over
judge_second-returns-in-Over t c =
    let g = table c.args.terms.now in
    let u = value_view c.args.value.now in
    let m = c.args.second in
    let j : Judges g c.args.looks u m (term_at g m) gave_up = subst (λ a. Judges g c.args.looks u m (term_at g m) (answer_of a c.judge_term.new.draft)) c.in-Over.is c.in_ok-left.ensures in
    λ k l h. in_second k u c.args.n l m c.args.looks (draft_of c.args.draft.now) gave_up h j

pub judge_second-returns-in_ok-choose-in-No : goal.judge_second-returns-in_ok-choose-in-No
judge_second-returns-in_ok-choose-in-No t c =
    let g = table c.args.terms.now in
    let u = value_view c.args.value.now in
    let m = c.args.second in
    let a = draft_of c.args.draft.now in
    let b = draft_of c.judge_term.new.draft in
    let left = c.in-No.left in
    let j : Judges g c.args.looks u m (term_at g m) (no_left left b) = subst (λ x. Judges g c.args.looks u m (term_at g m) (answer_of x c.judge_term.new.draft)) c.in-No.is c.in_ok-left.ensures in
    let said : draft_of c.choose.new.self ≡ told u c.args.n a b = c.in_ok-choose-in-No.ensures in
    λ k l h. subst (λ x. Judges g (suc k) u c.args.n (cddl.either l m) (no_left left x)) (sym said) (in_second k u c.args.n l m c.args.looks a (no_left left b) h j)

-- ---- items

pub judge_items-judge_term-requires : goal.judge_items-judge_term-requires
judge_items-judge_term-requires t c =
    let xs = c.args.items.now in
    let here = item_here xs c.items.i c.index-items-i.result (omega (arith, c.items-test.true, c.items.auto.i-end)) c.index-items-i.is in
    let less = ap items_levels here in
    let few = few_terms c.args.terms.now c.requires.grounded in
    (omega (arith, less, few, c.items.invariant.fewer, c.requires.there), (c.requires.grounded, c.requires.there))

pub judge_items-returns-in-No : goal.judge_items-returns-in-No
judge_items-returns-in-No t c =
    let g = table c.args.terms.now in
    let xs = c.args.items.now in
    let i = c.items.i in
    let n = c.args.n in
    let k = c.items.left in
    let x = c.index-items-i.result in
    let r = draft_of c.judge_term.new.draft in
    let left = c.in-No.after in
    let here = item_here xs i x (omega (arith, c.items-test.true, c.items.auto.i-end)) c.index-items-i.is in
    let j : Judges g k (value_view x) n (term_at g n) (no_left left r) = subst (λ a. Judges g k (value_view x) n (term_at g n) (answer_of a c.judge_term.new.draft)) c.in-No.is c.in_ok-after.ensures in
    let it = no_left left (under 0 (step.item i) r) in
    let said : draft_of c.go_under.new.self ≡ under 0 (step.item i) r = c.in_ok-go_under-in-No.ensures in
    subst (λ y. ItemsJudge g c.args.looks 0 (items_view xs) n (no_left left y)) (sym said)
    (c.items.invariant.so_far it (subst (λ ts. ItemsJudge g k i ts n it) (sym here) (at_item k i (value_view x) (items_view (drop (i + 1) xs)) n (no_left left r) j refl)))

pub judge_items-returns-in-Over : goal.judge_items-returns-in-Over
judge_items-returns-in-Over t c =
    let g = table c.args.terms.now in
    let xs = c.args.items.now in
    let i = c.items.i in
    let n = c.args.n in
    let k = c.items.left in
    let x = c.index-items-i.result in
    let here = item_here xs i x (omega (arith, c.items-test.true, c.items.auto.i-end)) c.index-items-i.is in
    let j : Judges g k (value_view x) n (term_at g n) gave_up = subst (λ a. Judges g k (value_view x) n (term_at g n) (answer_of a c.judge_term.new.draft)) c.in-Over.is c.in_ok-after.ensures in
    c.items.invariant.so_far gave_up (subst (λ ts. ItemsJudge g k i ts n gave_up) (sym here) (at_item k i (value_view x) (items_view (drop (i + 1) xs)) n gave_up j refl))

pub judge_items-items-preserved : goal.judge_items-items-preserved
judge_items-items-preserved t c =
    let g = table c.args.terms.now in
    let xs = c.args.items.now in
    let i = c.items.i in
    let n = c.args.n in
    let k = c.items.left in
    let x = c.index-items-i.result in
    let left = c.in-Yes.after in
    let here = item_here xs i x (omega (arith, c.items-test.true, c.items.auto.i-end)) c.index-items-i.is in
    let j : Judges g k (value_view x) n (term_at g n) (yes_left left) = subst (λ a. Judges g k (value_view x) n (term_at g n) (answer_of a c.judge_term.new.draft)) c.in-Yes.is c.in_ok-after.ensures in
    let less = ap items_levels here in
    record {
      so_far = λ a h. c.items.invariant.so_far a (subst (λ ts. ItemsJudge g k i ts n a) (sym here) (next_item k i (value_view x) (items_view (drop (i + 1) xs)) n left a j h));
      fewer = omega (arith, less, c.items.invariant.fewer);
    }

pub judge_items-returns : goal.judge_items-returns
judge_items-returns t c =
    let g = table c.args.terms.now in
    let xs = c.args.items.now in
    let i = c.items.i in
    let k = c.items.left in
    let long : length xs ≤ i = omega (arith, c.items-test.false) in
    let gone : items_view (drop i xs) ≡ json.no_items = ap items_view (drop_all i xs long) in
    c.items.invariant.so_far (yes_left k) (subst (λ ts. ItemsJudge g k i ts c.args.n (yes_left k)) (sym gone) (all_asked k i c.args.n))

-- ---- items, each by a term of its own

pub judge_parts-judge_term-requires : goal.judge_parts-judge_term-requires
judge_parts-judge_term-requires t c =
    let xs = c.args.items.now in
    let ns = c.args.parts.now in
    let i = c.items.i in
    let inside : i < length xs = omega (arith, c.items-test.true, c.items.auto.i-end) in
    let here = item_here xs i c.index-items-i.result inside c.index-items-i.is in
    let less = ap items_levels here in
    let few = few_terms c.args.terms.now c.requires.grounded in
    let low = within_at (length c.args.terms.now) ns i (omega (arith, inside, c.requires.same)) c.requires.parts in
    (omega (arith, less, few, c.items.invariant.fewer, low), (c.requires.grounded, low))

pub judge_parts-returns-in-No : goal.judge_parts-returns-in-No
judge_parts-returns-in-No t c =
    let g = table c.args.terms.now in
    let xs = c.args.items.now in
    let ns = c.args.parts.now in
    let i = c.items.i in
    let n = get_or ns i 0 in
    let k = c.items.left in
    let x = c.index-items-i.result in
    let r = draft_of c.judge_term.new.draft in
    let left = c.in-No.after in
    let inside : i < length xs = omega (arith, c.items-test.true, c.items.auto.i-end) in
    let here = item_here xs i x inside c.index-items-i.is in
    let part = number_at ns i (omega (arith, inside, c.requires.same)) in
    let j : Judges g k (value_view x) n (term_at g n) (no_left left r) = subst (λ a. Judges g k (value_view x) n (term_at g n) (answer_of a c.judge_term.new.draft)) c.in-No.is c.in_ok-after.ensures in
    let it = no_left left (under 0 (step.item i) r) in
    let said : draft_of c.go_under.new.self ≡ under 0 (step.item i) r = c.in_ok-go_under-in-No.ensures in
    subst (λ y. PartsJudge g c.args.looks 0 (items_view xs) ns (no_left left y)) (sym said)
    (c.items.invariant.so_far it (subst (λ ts. PartsJudge g k i ts (drop i ns) it) (sym here) (subst (λ ms. PartsJudge g k i (json.item (value_view x) (items_view (drop (i + 1) xs))) ms it) (sym part)
    (at_part k i (value_view x) (items_view (drop (i + 1) xs)) n (drop (i + 1) ns) (no_left left r) j refl))))

pub judge_parts-returns-in-Over : goal.judge_parts-returns-in-Over
judge_parts-returns-in-Over t c =
    let g = table c.args.terms.now in
    let xs = c.args.items.now in
    let ns = c.args.parts.now in
    let i = c.items.i in
    let n = get_or ns i 0 in
    let k = c.items.left in
    let x = c.index-items-i.result in
    let inside : i < length xs = omega (arith, c.items-test.true, c.items.auto.i-end) in
    let here = item_here xs i x inside c.index-items-i.is in
    let part = number_at ns i (omega (arith, inside, c.requires.same)) in
    let j : Judges g k (value_view x) n (term_at g n) gave_up = subst (λ a. Judges g k (value_view x) n (term_at g n) (answer_of a c.judge_term.new.draft)) c.in-Over.is c.in_ok-after.ensures in
    c.items.invariant.so_far gave_up (subst (λ ts. PartsJudge g k i ts (drop i ns) gave_up) (sym here) (subst (λ ms. PartsJudge g k i (json.item (value_view x) (items_view (drop (i + 1) xs))) ms gave_up) (sym part)
    (at_part k i (value_view x) (items_view (drop (i + 1) xs)) n (drop (i + 1) ns) gave_up j refl)))

pub judge_parts-items-preserved : goal.judge_parts-items-preserved
judge_parts-items-preserved t c =
    let g = table c.args.terms.now in
    let xs = c.args.items.now in
    let ns = c.args.parts.now in
    let i = c.items.i in
    let n = get_or ns i 0 in
    let k = c.items.left in
    let x = c.index-items-i.result in
    let left = c.in-Yes.after in
    let inside : i < length xs = omega (arith, c.items-test.true, c.items.auto.i-end) in
    let here = item_here xs i x inside c.index-items-i.is in
    let part = number_at ns i (omega (arith, inside, c.requires.same)) in
    let j : Judges g k (value_view x) n (term_at g n) (yes_left left) = subst (λ a. Judges g k (value_view x) n (term_at g n) (answer_of a c.judge_term.new.draft)) c.in-Yes.is c.in_ok-after.ensures in
    let less = ap items_levels here in
    record {
      so_far = λ a h. c.items.invariant.so_far a (subst (λ ts. PartsJudge g k i ts (drop i ns) a) (sym here) (subst (λ ms. PartsJudge g k i (json.item (value_view x) (items_view (drop (i + 1) xs))) ms a) (sym part)
          (next_part k i (value_view x) (items_view (drop (i + 1) xs)) n (drop (i + 1) ns) left a j h)));
      fewer = omega (arith, less, c.items.invariant.fewer);
    }

pub judge_parts-returns : goal.judge_parts-returns
judge_parts-returns t c =
    let g = table c.args.terms.now in
    let xs = c.args.items.now in
    let ns = c.args.parts.now in
    let i = c.items.i in
    let k = c.items.left in
    let long : length xs ≤ i = omega (arith, c.items-test.false) in
    let gone : items_view (drop i xs) ≡ json.no_items = ap items_view (drop_all i xs long) in
    let none : drop i ns ≡ [] = drop_all i ns (omega (arith, long, c.requires.same)) in
    c.items.invariant.so_far (yes_left k) (subst (λ ts. PartsJudge g k i ts (drop i ns) (yes_left k)) (sym gone)
    (subst (λ ms. PartsJudge g k i json.no_items ms (yes_left k)) (sym none) (parts_asked k i)))

-- ---- rows

pub judge_rows-judge_term-requires : goal.judge_rows-judge_term-requires
judge_rows-judge_term-requires t c =
    let xs = c.args.terms.now in
    let u = value_view c.args.value.now in
    let v = value_view c.in-Some.member.now in
    let r = c.row-item.result in
    let name : c.as_str-name.result.now ≡ string_bytes r.name = search rules in
    let found : get (string_bytes r.name) u ≡ Some v = subst (λ k. get k u ≡ Some v) name (sym c.in-Some.ensures) in
    let within = rows_within_at (length xs) c.args.rows.now c.rows.row-index r (omega (arith, c.rows-test.true)) c.row-item.is c.rows.invariant.within in
    let low = within.0 in
    let few = few_terms xs c.requires.grounded in
    let less = levels-get (string_bytes r.name) u v found in
    (omega (arith, less, few, low), (c.requires.grounded, low))

pub judge_rows-returns-in-No : goal.judge_rows-returns-in-No
judge_rows-returns-in-No t c =
    let g = table c.args.terms.now in
    let u = value_view c.args.value.now in
    let v = value_view c.in-Some.member.now in
    let rows = c.args.rows.now in
    let i = c.rows.row-index in
    let r = c.row-item.result in
    let s = string_bytes r.name in
    let n = r.term in
    let k = c.rows.left in
    let rest = c.args.rest.now in
    let others = without (names_of (map row_of rows)) (members_view c.args.members.now) in
    let tags = c.rows.tags in
    let b = draft_of c.judge_term.new.draft in
    let left = c.in-No.after in
    let name : c.as_str-name.result.now ≡ s = search rules in
    let found : get s u ≡ Some v = subst (λ x. get x u ≡ Some v) name (sym c.in-Some.ensures) in
    let here = row_at rows i r (omega (arith, c.rows-test.true)) c.row-item.is in
    let j : Judges g k v n (term_at g n) (no_left left b) = subst (λ a. Judges g k v n (term_at g n) (answer_of a c.judge_term.new.draft)) c.in-No.is c.in_ok-after-in-Some.ensures in
    let it = no_left left (under tags (step.member s) b) in
    let said : draft_of c.go_under.new.self ≡ under tags (step.member s) b = c.in_ok-go_under-in-No.ensures ∙ ap (λ x. under tags (step.member x) b) name in
    subst (λ y. RowsJudge g c.args.looks rest others 0 u (map row_of rows) (no_left left y)) (sym said)
    (c.rows.invariant.so_far it (subst (λ rs. RowsJudge g k rest others tags u rs it) (sym here)
    (at_row k rest others tags u s (need_of r.need) n (map row_of (drop (i + 1) rows)) v (no_left left b) found j refl)))

pub judge_rows-returns-in-Over : goal.judge_rows-returns-in-Over
judge_rows-returns-in-Over t c =
    let g = table c.args.terms.now in
    let u = value_view c.args.value.now in
    let v = value_view c.in-Some.member.now in
    let rows = c.args.rows.now in
    let i = c.rows.row-index in
    let r = c.row-item.result in
    let s = string_bytes r.name in
    let n = r.term in
    let k = c.rows.left in
    let rest = c.args.rest.now in
    let others = without (names_of (map row_of rows)) (members_view c.args.members.now) in
    let tags = c.rows.tags in
    let name : c.as_str-name.result.now ≡ s = search rules in
    let found : get s u ≡ Some v = subst (λ x. get x u ≡ Some v) name (sym c.in-Some.ensures) in
    let here = row_at rows i r (omega (arith, c.rows-test.true)) c.row-item.is in
    let j : Judges g k v n (term_at g n) gave_up = subst (λ a. Judges g k v n (term_at g n) (answer_of a c.judge_term.new.draft)) c.in-Over.is c.in_ok-after-in-Some.ensures in
    c.rows.invariant.so_far gave_up (subst (λ rs. RowsJudge g k rest others tags u rs gave_up) (sym here)
    (at_row k rest others tags u s (need_of r.need) n (map row_of (drop (i + 1) rows)) v gave_up found j refl))

pub judge_rows-returns-in-Required : goal.judge_rows-returns-in-Required
judge_rows-returns-in-Required t c =
    let g = table c.args.terms.now in
    let u = value_view c.args.value.now in
    let rows = c.args.rows.now in
    let i = c.rows.row-index in
    let r = c.row-item.result in
    let s = string_bytes r.name in
    let n = r.term in
    let k = c.rows.left in
    let rest = c.args.rest.now in
    let others = without (names_of (map row_of rows)) (members_view c.args.members.now) in
    let tags = c.rows.tags in
    let name : c.as_str-name.result.now ≡ s = search rules in
    let gone : get s u ≡ None = subst (λ x. get x u ≡ None) name (sym c.in-None.ensures) in
    let here = row_at rows i r (omega (arith, c.rows-test.true)) c.row-item.is in
    let it = no_left k (missing tags s n) in
    let said : draft_of c.set_missing.new.self ≡ missing tags s n = c.set_missing.ensures ∙ ap (λ x. missing tags x n) name in
    subst (λ y. RowsJudge g c.args.looks rest others 0 u (map row_of rows) (no_left k y)) (sym said)
    (c.rows.invariant.so_far it (subst (λ rs. RowsJudge g k rest others tags u rs it) (sym here)
    (row_missing g k rest others tags u s (need_of r.need) n (map row_of (drop (i + 1) rows)) (ap need_of c.in-Required.is) gone)))

pub judge_rows-rows-preserved : goal.judge_rows-rows-preserved
judge_rows-rows-preserved t c =
    let g = table c.args.terms.now in
    let u = value_view c.args.value.now in
    let rows = c.args.rows.now in
    let i = c.rows.row-index in
    let r = c.row-item.result in
    let s = string_bytes r.name in
    let n = r.term in
    let k = c.rows.left in
    let rest = c.args.rest.now in
    let others = without (names_of (map row_of rows)) (members_view c.args.members.now) in
    let tags = c.rows.tags in
    let more = map row_of (drop (i + 1) rows) in
    let inv = c.rows.invariant in
    let name : c.as_str-name.result.now ≡ s = search rules in
    let here = row_at rows i r (omega (arith, c.rows-test.true)) c.row-item.is in
    let within = rows_within_at (length c.args.terms.now) rows i r (omega (arith, c.rows-test.true)) c.row-item.is inv.within in
    let few = more_tags tags s in
    elim c.match-get.branch [
      | judge_rows-in-Some+in_ok-after-in-Some+in-Yes w ↦
          let v = value_view w.in-Some.member.now in
          let found : get s u ≡ Some v = subst (λ x. get x u ≡ Some v) name (sym w.in-Some.ensures) in
          let j : Judges g k v n (term_at g n) (yes_left w.in-Yes.after) = subst (λ a. Judges g k v n (term_at g n) (answer_of a w.judge_term.new.draft)) w.in-Yes.is w.in_ok-after-in-Some.ensures in
          let tagged : c.match-get.tags ≡ tags_with tags s = w.tags-is ∙ w.tags_with-tags.ensures ∙ ap (tags_with tags) name in
          record {
            so_far = λ a h. inv.so_far a (subst (λ rs. RowsJudge g k rest others tags u rs a) (sym here)
                (row_met k rest others tags u s (need_of r.need) n more v w.in-Yes.after a found j
                (subst (λ m. RowsJudge g w.in-Yes.after rest others m u more a) tagged (subst (λ m. RowsJudge g m rest others c.match-get.tags u more a) w.left-is h))));
            within = within.1;
            few = omega (arith, tagged, few, inv.few);
          }
      | judge_rows-in-None+in-Optional w ↦
          let gone : get s u ≡ None = subst (λ x. get x u ≡ None) name (sym w.in-None.ensures) in
          let may : need_of r.need ≡ cddl.optional = ap need_of w.in-Optional.is in
          record {
            so_far = λ a h. inv.so_far a (subst (λ rs. RowsJudge g k rest others tags u rs a) (sym here)
                (subst (λ y. RowsJudge g k rest others tags u ((cddl.row s y n) ∷ more) a) (sym may)
                (is_absent k rest others tags u s n more a gone
                (subst (λ m. RowsJudge g k rest others m u more a) w.tags-is (subst (λ m. RowsJudge g m rest others c.match-get.tags u more a) w.left-is h)))));
            within = within.1;
            few = omega (arith, w.tags-is, inv.few);
          }
    ]

pub judge_rows-judge_others-requires : goal.judge_rows-judge_others-requires
judge_rows-judge_others-requires t c =
    let deep = object_levels (value_view c.args.value.now) (members_view c.args.members.now) c.requires.members in
    (omega (arith, deep), (c.requires.grounded, c.requires.rest))

pub judge_rows-returns : goal.judge_rows-returns
judge_rows-returns t c =
    let g = table c.args.terms.now in
    let u = value_view c.args.value.now in
    let rows = c.args.rows.now in
    let i = c.rows.row-index in
    let k = c.rows.left in
    let rest = c.args.rest.now in
    let others = without (names_of (map row_of rows)) (members_view c.args.members.now) in
    let tags = c.rows.tags in
    let d = c.judge_others.new.draft in
    let long : length rows ≤ i = omega (arith, c.rows-test.false) in
    let gone : map row_of (drop i rows) ≡ [] = ap (map row_of) (drop_all i rows long) in
    let judged : IfOk c.judge_others.result (λ a. OthersJudge g k rest tags others (answer_of a d)) = c.judge_others.ensures in
    IfOk-weaker c.judge_others.result _ _
    (λ a j. c.rows.invariant.so_far (answer_of a d) (subst (λ rs. RowsJudge g k rest others tags u rs (answer_of a d)) (sym gone) (rows_met k rest others tags u (answer_of a d) j))) judged

-- ---- further members

pub judge_others-members-preserved-then-is_named : goal.judge_others-members-preserved-then-is_named
judge_others-members-preserved-then-is_named t c =
    let g = table c.args.terms.now in
    let names = names_of (map row_of c.args.rows.now) in
    let ms : List (Bor (List ℕ) × Value Global) = c.args.members.now in
    let i = c.members.member-index in
    let m : Bor (List ℕ) × Value Global = c.member-item.result in
    let few : i < length ms = omega (arith, c.members-test.true) in
    let gone = other_gone names ms i m few c.member-item.is (sym c.is_named.ensures ∙ c.if-is_named.true) in
    let less = ap (λ es. members_levels (members_view es)) (nth ms i m few c.member-item.is) in
    record {
      so_far = λ a h. c.members.invariant.so_far a (subst (λ us. OthersJudge g c.members.left c.args.rest.now c.args.tags us a) (sym gone) h);
      fewer = omega (arith, less, c.members.invariant.fewer);
    }

pub judge_others-returns-in-None : goal.judge_others-returns-in-None
judge_others-returns-in-None t c =
    let g = table c.args.terms.now in
    let names = names_of (map row_of c.args.rows.now) in
    let ms : List (Bor (List ℕ) × Value Global) = c.args.members.now in
    let i = c.members.member-index in
    let m : Bor (List ℕ) × Value Global = c.member-item.result in
    let u = value_view m.1 in
    let k = c.members.left in
    let tags = c.args.tags in
    let few : i < length ms = omega (arith, c.members-test.true) in
    let here = other_kept names ms i m few c.member-item.is (sym c.is_named.ensures ∙ c.if-is_named.false) in
    let rest = without names (members_view (drop (i + 1) ms)) in
    let it = no_left k (unknown tags m.0.now u) in
    subst (λ y. OthersJudge g c.args.looks c.args.rest.now tags (without names (members_view ms)) (no_left k y)) (sym c.set_unknown.ensures)
    (c.members.invariant.so_far it (subst (λ us. OthersJudge g k c.args.rest.now tags us it) (sym here)
    (subst (λ o. OthersJudge g k o tags (json.member m.0.now u rest) it) (sym c.in-None.is) (is_unknown k tags m.0.now u rest))))

pub judge_others-judge_term-requires : goal.judge_others-judge_term-requires
judge_others-judge_term-requires t c =
    let xs = c.args.terms.now in
    let ms : List (Bor (List ℕ) × Value Global) = c.args.members.now in
    let i = c.members.member-index in
    let m : Bor (List ℕ) × Value Global = c.member-item.result in
    let few : i < length ms = omega (arith, c.members-test.true) in
    let low : c.in-Some.n < length xs = ltb-true c.in-Some.n (length xs) (subst (λ o. rest_is_within (length xs) o ≡ true) c.in-Some.is c.requires.rest) in
    let less = ap (λ es. members_levels (members_view es)) (nth ms i m few c.member-item.is) in
    let all = few_terms xs c.requires.grounded in
    (omega (arith, less, all, low, c.members.invariant.fewer), (c.requires.grounded, low))

pub judge_others-returns-in-No : goal.judge_others-returns-in-No
judge_others-returns-in-No t c =
    let g = table c.args.terms.now in
    let names = names_of (map row_of c.args.rows.now) in
    let ms : List (Bor (List ℕ) × Value Global) = c.args.members.now in
    let i = c.members.member-index in
    let m : Bor (List ℕ) × Value Global = c.member-item.result in
    let u = value_view m.1 in
    let k = c.members.left in
    let tags = c.args.tags in
    let n = c.in-Some.n in
    let b = draft_of c.judge_term.new.draft in
    let left = c.in-No.after in
    let few : i < length ms = omega (arith, c.members-test.true) in
    let here = other_kept names ms i m few c.member-item.is (sym c.is_named.ensures ∙ c.if-is_named.false) in
    let rest = without names (members_view (drop (i + 1) ms)) in
    let j : Judges g k u n (term_at g n) (no_left left b) = subst (λ a. Judges g k u n (term_at g n) (answer_of a c.judge_term.new.draft)) c.in-No.is c.in_ok-after-in-Some.ensures in
    let it = no_left left (under tags (step.member m.0.now) b) in
    subst (λ y. OthersJudge g c.args.looks c.args.rest.now tags (without names (members_view ms)) (no_left left y)) (sym c.in_ok-go_under-in-No.ensures)
    (c.members.invariant.so_far it (subst (λ us. OthersJudge g k c.args.rest.now tags us it) (sym here)
    (subst (λ o. OthersJudge g k o tags (json.member m.0.now u rest) it) (sym c.in-Some.is) (at_other k n tags m.0.now u rest (no_left left b) j refl))))

pub judge_others-returns-in-Over : goal.judge_others-returns-in-Over
judge_others-returns-in-Over t c =
    let g = table c.args.terms.now in
    let names = names_of (map row_of c.args.rows.now) in
    let ms : List (Bor (List ℕ) × Value Global) = c.args.members.now in
    let i = c.members.member-index in
    let m : Bor (List ℕ) × Value Global = c.member-item.result in
    let u = value_view m.1 in
    let k = c.members.left in
    let tags = c.args.tags in
    let n = c.in-Some.n in
    let few : i < length ms = omega (arith, c.members-test.true) in
    let here = other_kept names ms i m few c.member-item.is (sym c.is_named.ensures ∙ c.if-is_named.false) in
    let rest = without names (members_view (drop (i + 1) ms)) in
    let j : Judges g k u n (term_at g n) gave_up = subst (λ a. Judges g k u n (term_at g n) (answer_of a c.judge_term.new.draft)) c.in-Over.is c.in_ok-after-in-Some.ensures in
    c.members.invariant.so_far gave_up (subst (λ us. OthersJudge g k c.args.rest.now tags us gave_up) (sym here)
    (subst (λ o. OthersJudge g k o tags (json.member m.0.now u rest) gave_up) (sym c.in-Some.is) (at_other k n tags m.0.now u rest gave_up j refl)))

pub judge_others-members-preserved : goal.judge_others-members-preserved
judge_others-members-preserved t c =
    let g = table c.args.terms.now in
    let names = names_of (map row_of c.args.rows.now) in
    let ms : List (Bor (List ℕ) × Value Global) = c.args.members.now in
    let i = c.members.member-index in
    let m : Bor (List ℕ) × Value Global = c.member-item.result in
    let u = value_view m.1 in
    let k = c.members.left in
    let tags = c.args.tags in
    let n = c.in-Some.n in
    let left = c.in-Yes.after in
    let few : i < length ms = omega (arith, c.members-test.true) in
    let here = other_kept names ms i m few c.member-item.is (sym c.is_named.ensures ∙ c.if-is_named.false) in
    let rest = without names (members_view (drop (i + 1) ms)) in
    let j : Judges g k u n (term_at g n) (yes_left left) = subst (λ a. Judges g k u n (term_at g n) (answer_of a c.judge_term.new.draft)) c.in-Yes.is c.in_ok-after-in-Some.ensures in
    let less = ap (λ es. members_levels (members_view es)) (nth ms i m few c.member-item.is) in
    record {
      so_far = λ a h. c.members.invariant.so_far a (subst (λ us. OthersJudge g k c.args.rest.now tags us a) (sym here)
          (subst (λ o. OthersJudge g k o tags (json.member m.0.now u rest) a) (sym c.in-Some.is)
          (next_other k n tags m.0.now u rest left a j (subst (λ o. OthersJudge g left o tags rest a) c.in-Some.is h))));
      fewer = omega (arith, less, c.members.invariant.fewer);
    }

pub judge_others-returns : goal.judge_others-returns
judge_others-returns t c =
    let g = table c.args.terms.now in
    let names = names_of (map row_of c.args.rows.now) in
    let ms : List (Bor (List ℕ) × Value Global) = c.args.members.now in
    let i = c.members.member-index in
    let k = c.members.left in
    let long : length ms ≤ i = omega (arith, c.members-test.false) in
    let gone : without names (members_view (drop i ms)) ≡ json.no_members = ap (λ es. without names (members_view es)) (drop_all i ms long) in
    c.members.invariant.so_far (yes_left k) (subst (λ us. OthersJudge g k c.args.rest.now c.args.tags us (yes_left k)) (sym gone) (others_asked k c.args.rest.now c.args.tags))
