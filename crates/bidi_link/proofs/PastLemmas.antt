-- The answer to each question about the past of both ends, after one more deed.
use Rattle.std.proofs.Common.{◌≡◌, ◌∙◌, ℕ, suc, Bool, true, false, true≢false, List, [], ◌∷◌, ◌++◌, refl, sym, ap, rules}
use Rattle.std.specs.Prelude.{◌==◌, ◌||◌, reverse}
use Rattle.std.specs.List.{list_any}
use Rattle.std.proofs.lemmas.List.{reverse-append, reverse-reverse}
use Rattle.bidi_remote.specs.Machine.History.{Input}
use Rattle.bidi_remote.specs.Machine.Sent.{out, answers, texts_on}
use Rattle.bidi_remote.proofs.RouteLemmas.{texts_on-append}
use Rattle.bidi_ledger.specs.Pairing.{Sending, Deed, Handed, Linked, Sent as SentOn, Unsent, TakenUp, TakenDown}
use Rattle.bidi_ledger.specs.Pairing.{Cut, history, links, is_link, commands, unsent, downs, texts}
use Rattle.bidi_ledger.specs.Link.{Link, link}
use Rattle.bidi_link.specs.Rows.{with_texts, with_up, with_cut}
use Rattle.bidi_remote.proofs.AnswerLemmas.{answers_more}

-- ---- numbers

pub same : (n : ℕ) → (n == n) ≡ true
same n = search rules

pub other : (l k : ℕ) → (l == k) ≡ false → (k == l) ≡ false
other l k e = search (rules, e)

-- ---- texts

-- the texts that are sent at one more input come last
pub texts-handed : (past : List Deed) (i : Input) (l : ℕ) → texts (Handed i ∷ past) l ≡ texts past l ++ texts_on l (out (history past) i)
texts-handed past i l =
    let h = history past in
    ap (λ xs. texts_on l (answers xs)) (reverse-append (i ∷ []) h)
    ∙ (ap (texts_on l) (answers_more (reverse h) i ∙ ap (λ g. answers (reverse h) ++ out g i) (reverse-reverse h))
    ∙ texts_on-append l (answers (reverse h)) (out h i))

pub link-handed : (past : List Deed) (i : Input) (l : ℕ) → link (Handed i ∷ past) l ≡ with_texts (link past l) (texts_on l (out (history past) i))
link-handed past i l = ap (λ ts. record (link past l) { texts = ts }) (texts-handed past i l)

-- ---- deeds of one link

-- the deed concerns only this link: the link has this state, all others are unchanged, and nothing is handed to the remote end
pub record IsOf (l : ℕ) (d : Deed) (past : List Deed) (v : Link) : Type 0 where
  pub own : link (d ∷ past) l ≡ v
  pub others : (k : ℕ) → (k == l) ≡ false → link (d ∷ past) k ≡ link past k
  pub history : history (d ∷ past) ≡ history past
  pub links : links (d ∷ past) ≡ links past
  pub is_link : (k : ℕ) → is_link (d ∷ past) k ≡ is_link past k

pub sent-of : (l : ℕ) (c : Sending) (past : List Deed) → IsOf l (SentOn l c) past (record (link past l) { commands = commands past l ++ c ∷ [] })
sent-of l c past = record {
  own = rw (same l) refl;
  others = λ k e. rw e refl;
  history = refl;
  links = refl;
  is_link = λ k. refl;
}

pub unsent-of : (l : ℕ) (past : List Deed) → IsOf l (Unsent l) past (record (link past l) { not_sent = suc (unsent past l) })
unsent-of l past = record {
  own = rw (same l) refl;
  others = λ k e. rw e refl;
  history = refl;
  links = refl;
  is_link = λ k. refl;
}

pub up-of : (l : ℕ) (past : List Deed) → IsOf l (TakenUp l) past (with_up (link past l))
up-of l past = record {
  own = rw (same l) refl;
  others = λ k e. rw e refl;
  history = refl;
  links = refl;
  is_link = λ k. refl;
}

pub down-of : (l : ℕ) (past : List Deed) → IsOf l (TakenDown l) past (record (link past l) { downs = suc (downs past l) })
down-of l past = record {
  own = rw (same l) refl;
  others = λ k e. rw e refl;
  history = refl;
  links = refl;
  is_link = λ k. refl;
}

pub cut-of : (l : ℕ) (past : List Deed) → IsOf l (Cut l) past (with_cut (link past l))
cut-of l past = record {
  own = rw (same l) refl;
  others = λ k e. rw e refl;
  history = refl;
  links = refl;
  is_link = λ k. refl;
}

-- ---- which numbers are links

-- a number is that of a link if it is among the links
pub is_link-links : (past : List Deed) (l : ℕ) → is_link past l ≡ list_any (λ k. l == k) (links past)
is_link-links [] l = refl
is_link-links (Linked k ∷ past) l = ap (λ b. l == k || b) (is_link-links past l) ∙ any-last (links past)
  where
    any-last : (ks : List ℕ) → (l == k || list_any (λ k. l == k) ks) ≡ list_any (λ k. l == k) (ks ++ k ∷ [])
    any-last [] = refl
    any-last (x ∷ ks) = swap (l == k) (l == x) (list_any (λ k. l == k) ks) ∙ ap (λ b. l == x || b) (any-last ks)
      where
        swap : (a b c : Bool) → (a || (b || c)) ≡ (b || (a || c))
        swap true true c = refl
        swap true false c = refl
        swap false true c = refl
        swap false false c = refl
is_link-links (Handed i ∷ past) l = is_link-links past l
is_link-links (SentOn k c ∷ past) l = is_link-links past l
is_link-links (Unsent k ∷ past) l = is_link-links past l
is_link-links (TakenUp k ∷ past) l = is_link-links past l
is_link-links (TakenDown k ∷ past) l = is_link-links past l
is_link-links (Cut k ∷ past) l = is_link-links past l

-- two numbers are different if only one of them is that of a link
pub apart : (past : List Deed) (l k : ℕ) → is_link past l ≡ true → is_link past k ≡ false → (k == l) ≡ false
apart past l k there none = of (k == l) refl
  where
    one : (k == l) ≡ true → k ≡ l
    one e = search (rules, e)

    of : (b : Bool) → (k == l) ≡ b → (k == l) ≡ false
    of false e = e
    of true e = absurd (true≢false (sym there ∙ (ap (is_link past) (sym (one e)) ∙ none)))
