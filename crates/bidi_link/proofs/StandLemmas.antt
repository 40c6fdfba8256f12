-- The state of both ends after one more deed.
use Rattle.std.proofs.Common.{◌≡◌, ◌∙◌, ℕ, Bool, true, false, nat_eq, List, [], ◌∷◌, ◌++◌, Option, Some, None, refl, sym, ap, subst}
use Rattle.std.specs.Prelude.{◌==◌, ◌&&◌, not, is_some, slice_get, if◌then◌else◌}
use Rattle.std.specs.List.{IsDistinct, list_any}
use Rattle.std.specs.Map.{lookup, set_value}
use Rattle.bidi_remote.specs.State.Stands as remote
use Rattle.bidi_remote.specs.Machine.History.{Input}
use Rattle.bidi_remote.specs.Machine.Sent.{Sent, out, texts_on}
use Rattle.bidi_link.specs.declared.ends.Ends.{Ends}
use Rattle.bidi_link.specs.declared.link_end.LinkEnd.{LinkEnd}
use Rattle.bidi_ledger.specs.Pairing.{Sending, Deed, Handed, Linked, history, is_link, is_cut, commands, ups}
use Rattle.bidi_ledger.specs.Link.{Link, link}
use Rattle.bidi_ledger.specs.Ledger.{is_whole, with_step, taken_up, Up}
use Rattle.bidi_link.specs.Rows.{Agrees, blank, with_texts, next_up}
use Rattle.bidi_link.specs.Stands.{StandsFor, RowsAgree, numbers}
use Rattle.bidi_link.proofs.PastLemmas.{IsOf, link-handed, is_link-links, other}
use Rattle.bidi_link.proofs.TableLemmas.{row-found, rows-same, rows-written, rows-added, numbers-added, found-numbers}

-- a number has a link of the code if it is that of a link of the past
pub found-link : (ends : Ends) (past : List Deed) (l : ℕ) → StandsFor ends past → is_some (lookup (nat_eq l) ends.links.entries) ≡ is_link past l
found-link ends past l s = found-numbers l ends.links.entries ∙ (ap (list_any (λ k. l == k)) s.numbers ∙ sym (is_link-links past l))

-- one that is found is one
pub is-link : (ends : Ends) (past : List Deed) (l : ℕ) (x : LinkEnd)
    → StandsFor ends past → Some x ≡ lookup (nat_eq l) ends.links.entries → is_link past l ≡ true
is-link ends past l x s found = sym (found-link ends past l s) ∙ ap is_some (sym found)

pub no-link : (ends : Ends) (past : List Deed) (l : ℕ) → StandsFor ends past → None ≡ lookup (nat_eq l) ends.links.entries → is_link past l ≡ false
no-link ends past l s none = sym (found-link ends past l s) ∙ ap is_some (sym none)

none-of : {A : Type 0} (o : Option A) → is_some o ≡ false → o ≡ None
none-of None e = refl
none-of (Some x) e = cc e

-- a number that is no link is not there
pub not-there : (ends : Ends) (past : List Deed) (l : ℕ) → StandsFor ends past → is_link past l ≡ false → lookup (nat_eq l) ends.links.entries ≡ None
not-there ends past l s none = none-of (lookup (nat_eq l) ends.links.entries) (found-link ends past l s ∙ none)

-- the link of the code has this state
pub found-agrees : (ends : Ends) (past : List Deed) (l : ℕ) (x : LinkEnd)
    → StandsFor ends past → Some x ≡ lookup (nat_eq l) ends.links.entries → Agrees x l (link past l)
found-agrees ends past l x s found = row-found l x (link past) ends.links.entries (sym found) s.rows

-- ---- one deed more

-- of one link, which is written
pub stands-written : (ends new : Ends) (past : List Deed) (l : ℕ) (d : Deed) (v : Link) (w : LinkEnd)
    → StandsFor ends past → IsOf l d past v → new.remote ≡ ends.remote → new.links.entries ≡ set_value (nat_eq l) ends.links.entries w
    → numbers new.links.entries ≡ numbers ends.links.entries → IsDistinct nat_eq (numbers ends.links.entries) → Agrees w l v → StandsFor new (d ∷ past)
stands-written ends new past l d v w s is same written kept distinct agree = record {
  remote = subst (remote.StandsFor new.remote) (sym is.history) (subst (λ r. remote.StandsFor r (history past)) (sym same) s.remote);
  numbers = kept ∙ (s.numbers ∙ sym is.links);
  rows = subst (λ rows. RowsAgree rows (link (d ∷ past))) (sym written)
      (rows-written l w (link past) (link (d ∷ past)) (subst (Agrees w l) (sym is.own) agree) (λ k e. is.others k (other l k e))
      ends.links.entries distinct s.rows);
}

-- the same past, if a link is written that keeps its state
pub stands-still : (ends new : Ends) (past : List Deed) (l : ℕ) (w : LinkEnd)
    → StandsFor ends past → new.remote ≡ ends.remote → new.links.entries ≡ set_value (nat_eq l) ends.links.entries w
    → numbers new.links.entries ≡ numbers ends.links.entries → IsDistinct nat_eq (numbers ends.links.entries) → Agrees w l (link past l) → StandsFor new past
stands-still ends new past l w s same written kept distinct agree = record {
  remote = subst (λ r. remote.StandsFor r (history past)) (sym same) s.remote;
  numbers = kept ∙ s.numbers;
  rows =
      subst (λ rows. RowsAgree rows (link past)) (sym written)
      (rows-written l w (link past) (link past) agree (λ k e. refl) ends.links.entries distinct s.rows);
}

-- the same past, if the tables are unchanged
pub stands-same : (ends new : Ends) (past : List Deed)
    → StandsFor ends past → new.remote ≡ ends.remote → new.links.entries ≡ ends.links.entries → StandsFor new past
stands-same ends new past s same kept = record {
  remote = subst (λ r. remote.StandsFor r (history past)) (sym same) s.remote;
  numbers = ap numbers kept ∙ s.numbers;
  rows = subst (λ rows. RowsAgree rows (link past)) (sym kept) s.rows;
}

-- an input is handed to the remote end, and its texts are delivered
pub stands-handed : (ends new : Ends) (past : List Deed) (i : Input) (sent : List Sent)
    → StandsFor ends past → remote.StandsFor new.remote (i ∷ history past) → sent ≡ out (history past) i
    → numbers new.links.entries ≡ numbers ends.links.entries
    → RowsAgree new.links.entries (λ l. with_texts (link past l) (texts_on l sent)) → StandsFor new (Handed i ∷ past)
stands-handed ends new past i sent s taken is kept rows = record {
  remote = taken;
  numbers = kept ∙ s.numbers;
  rows =
      rows-same (λ l. with_texts (link past l) (texts_on l sent)) (link (Handed i ∷ past))
      (λ l. ap (λ xs. with_texts (link past l) (texts_on l xs)) is ∙ sym (link-handed past i l)) new.links.entries rows;
}

-- a number becomes a link
pub stands-linked : (ends new : Ends) (past : List Deed) (l : ℕ) (w : LinkEnd) → StandsFor ends past
    → new.remote ≡ ends.remote → new.links.entries ≡ ends.links.entries ++ (l, w) ∷ [] → link past l ≡ blank → Agrees w l blank
    → StandsFor new (Linked l ∷ past)
stands-linked ends new past l w s same added nothing agree = record {
  remote = subst (λ r. remote.StandsFor r (history past)) (sym same) s.remote;
  numbers = ap numbers added ∙ (numbers-added l w ends.links.entries ∙ ap (λ ns. ns ++ l ∷ []) s.numbers);
  rows =
      subst (λ rows. RowsAgree rows (link (Linked l ∷ past))) (sym added) (rows-added l w (link (Linked l ∷ past)) ends.links.entries
      (rows-same (link past) (link (Linked l ∷ past)) (λ k. refl) ends.links.entries s.rows)
      (subst (Agrees w l) (sym nothing) agree));
}

-- ---- taking up

-- a link with nothing to take up stays as it is
pub up-nothing : (past : List Deed) (l : ℕ) → next_up (link past l) ≡ None → with_step past (Up l) ≡ past
up-nothing past l none = at (is_link past l) (is_cut past l) none
  where
    at : (b c : Bool) → (if c then None else slice_get (commands past l) (ups past l)) ≡ None
        → (if b && not c then taken_up past l (slice_get (commands past l) (ups past l)) else past) ≡ past
    at true true e = refl
    at true false e = rw e refl
    at false true e = refl
    at false false e = refl

pub up-none : (past : List Deed) (l : ℕ) → is_link past l ≡ false → with_step past (Up l) ≡ past
up-none past l none = rw none refl

-- a link that takes up a text was not cut
pub next-whole : (past : List Deed) (l : ℕ) (c : Sending) → is_link past l ≡ true
    → next_up (link past l) ≡ Some c → (is_whole past l ≡ true) × (slice_get (commands past l) (ups past l) ≡ Some c)
next-whole past l c there next = at (is_cut past l) next
  where
    at : (b : Bool) → (if b then None else slice_get (commands past l) (ups past l)) ≡ Some c
        → ((is_link past l && not b) ≡ true) × (slice_get (commands past l) (ups past l) ≡ Some c)
    at true e = cc e
    at false e = (rw there refl, e)
