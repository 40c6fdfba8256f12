-- A step that changes one link: the state of both ends corresponds to the past with that step.
use Rattle.std.proofs.Common.{◌≡◌, ◌∙◌, ◌<◌, ◌^◌, ℕ, suc, Bool, true, false, nat_eq, List, [], ◌∷◌, ◌++◌, length, Option}
use Rattle.std.proofs.Common.{Some, None, Result, Ok, Err, String, Global, string_bytes, append-nil, refl, sym, ap}
use Rattle.std.specs.Prelude.{◌&&◌, not, if◌then◌else◌, nat_lt, nat_le, OnOk, IfSome, IfNone}
use Rattle.std.specs.List.{IsDistinct}
use Rattle.std.specs.Map.{lookup, set_value}
use Rattle.std.proofs.lemmas.Bool.{ltb-true}
use Rattle.bidi_tree.specs.Text.{compact_text}
use Rattle.bidi_link.specs.declared.ends.Ends.{Ends}
use Rattle.bidi_link.specs.declared.link_end.LinkEnd.{LinkEnd}
use Rattle.bidi_ledger.specs.Pairing.{Sending, Deed, Sent, Unsent, TakenUp, TakenDown, Cut, is_link, is_cut, commands, downs, texts}
use Rattle.bidi_ledger.specs.Link.{Link, link, may_send, unsettled, tree_of_sending}
use Rattle.bidi_ledger.specs.Ledger.{Sends, Up, Down, with_step, is_whole}
use Rattle.bidi_link.specs.Spoken.{IsSound}
use Rattle.bidi_link.specs.Rows.{Agrees, IsUpward, sent_on, next_up, with_up, with_down, with_cut}
use Rattle.bidi_link.specs.Stands.{StandsFor, IsSane, Both, CanCount, IsNextUp, numbers}
use Rattle.bidi_link.proofs.PastLemmas.{IsOf, sent-of, unsent-of, up-of, down-of, cut-of}
use Rattle.bidi_link.proofs.SaneLemmas.{sane-of, sound-sent, sound-so}
use Rattle.bidi_link.proofs.StandLemmas.{is-link, no-link, found-agrees, stands-written, stands-still, stands-same, up-nothing, up-none, next-whole}

-- the link of that number was x, and w is written in its place
pub record IsWritten (ends new : Ends) (l : ℕ) (x w : LinkEnd) : Type 0 where
  pub found : Some x ≡ lookup (nat_eq l) ends.links.entries
  pub remote : new.remote ≡ ends.remote
  pub entries : new.links.entries ≡ set_value (nat_eq l) ends.links.entries w
  pub kept : numbers new.links.entries ≡ numbers ends.links.entries
  pub distinct : IsDistinct nat_eq (numbers ends.links.entries)

-- the link of that number is not there, and nothing is written
pub record IsKept (ends new : Ends) (l : ℕ) : Type 0 where
  pub none : None ≡ lookup (nat_eq l) ends.links.entries
  pub remote : new.remote ≡ ends.remote
  pub entries : new.links.entries ≡ ends.links.entries

module _ (ends new : Ends) (past : List Deed) (l : ℕ) (x w : LinkEnd) (written : IsWritten ends new l x w) (stands : StandsFor ends past) where
  there : is_link past l ≡ true
  there = is-link ends past l x stands written.found

  pub was : Agrees x l (link past l)
  was = found-agrees ends past l x stands written.found

  pub with-deed : (d : Deed) (v : Link) → IsOf l d past v → Agrees w l v → StandsFor new (d ∷ past)
  with-deed d v is agree = stands-written ends new past l d v w stands is written.remote written.entries written.kept written.distinct agree

  pub still : Agrees w l (link past l) → StandsFor new past
  still agree = stands-still ends new past l w stands written.remote written.entries written.kept written.distinct agree

  -- ---- sending

  third : (a b c : Bool) → (a && b && c) ≡ true → c ≡ true
  third true true c e = e
  third true false c e = cc e
  third false b c e = cc e

  fits : (c : Sending) → may_send (link past l) c ≡ true → suc (length (commands past l)) < 2 ^ 53
  fits c may =
      let v = link past l in
      let id = suc (length v.commands) in
      ltb-true id (2 ^ 53) (third (nat_lt (length (unsettled v)) 1024) (nat_le (length (compact_text (tree_of_sending id c))) 1048576) (nat_lt id (2 ^ 53)) may)

  sent : (c : Sending) → IsSane past → (b m : Bool) → may_send (link past l) c ≡ m → Agrees w l (if b then link past l else if m
      then record (link past l) { commands = commands past l ++ c ∷ [] } else record (link past l) { not_sent = suc (link past l).not_sent })
      → Both new (if not (is_link past l && not b) then past else if m then Sent l c ∷ past else Unsent l ∷ past)
  sent c sane true m may agree = rw there (still agree, sane)
  sent c sane false true may agree =
      rw there (
        with-deed (Sent l c) _ (sent-of l c past) agree,
        sane-of l (Sent l c) past _ (c ∷ []) (sent-of l c past) refl sane there (sound-sent (link past l) c (sane.sound l) (fits c may)),
      )
  sent c sane false false may agree =
      rw there (
        with-deed (Unsent l) _ (unsent-of l past) agree,
        sane-of l (Unsent l) past _ [] (unsent-of l past) (sym (append-nil (commands past l))) sane there
            (sound-so (link past l) _ refl refl refl (sane.sound l)),
      )

  pub send-row : {E : Type 0} (r : Result (Unit {0}) E) (c : Sending) → IsSane past
      → CanCount past → ((n : ℕ) (v : Link) → Agrees x n v → IsSound v → v.not_sent < 2 ^ 63 → OnOk r (Agrees w n (sent_on v c)))
      → OnOk r (Both new (with_step past (Sends l c)))
  send-row (Err e) c sane count row = tt
  send-row (Ok u) c sane count row = sent c sane (is_cut past l) (may_send (link past l) c) refl (row l (link past l) was (sane.sound l) (count l))

  -- ---- carrying down

  downed : IsSane past → (b m : Bool) → Agrees w l (if not b && m then record (link past l) { downs = suc (downs past l) } else link past l)
      → Both new (if (is_link past l && not b) && m then TakenDown l ∷ past else past)
  downed sane true m agree = rw there (still agree, sane)
  downed sane false true agree =
      rw there (
        with-deed (TakenDown l) _ (down-of l past) agree,
        sane-of l (TakenDown l) past _ [] (down-of l past) (sym (append-nil (commands past l))) sane there
            (sound-so (link past l) _ refl refl refl (sane.sound l)),
      )
  downed sane false false agree = rw there (still agree, sane)

  pub down-row : {E : Type 0} (r : Result (Unit {0}) E) → IsSane past
      → ((n : ℕ) (v : Link) → Agrees x n v → IsSound v → OnOk r (Agrees w n (with_down v))) → OnOk r (Both new (with_step past (Down l)))
  down-row (Err e) sane row = tt
  down-row (Ok u) sane row = downed sane (is_cut past l) (nat_lt (downs past l) (length (texts past l))) (row l (link past l) was (sane.sound l))

  -- ---- cutting

  whole-cut : (a b : Bool) → (a && not b) ≡ true → b ≡ false
  whole-cut true false e = refl
  whole-cut true true e = cc e
  whole-cut false b e = cc e

  pub cut-row : {E : Type 0} (r : Result (Unit {0}) E) → is_whole past l ≡ true
      → ((n : ℕ) (v : Link) → Agrees x n v → v.is_cut ≡ false → OnOk r (Agrees w n (with_cut v))) → OnOk r (StandsFor new (Cut l ∷ past))
  cut-row (Err e) whole row = tt
  cut-row (Ok u) whole row = with-deed (Cut l) _ (cut-of l past) (row l (link past l) was (whole-cut (is_link past l) (is_cut past l) whole))

  -- ---- carrying up

  pub up-row-none : (r : Option (String Global)) → ((n : ℕ) (v : Link) → Agrees x n v → IfNone r ((next_up v ≡ None) × Agrees w n v))
      → IfNone r ((with_step past (Up l) ≡ past) × StandsFor new past)
  up-row-none (Some s) row = tt
  up-row-none None row = (let row_is = row l (link past l) was in (up-nothing past l row_is.0, still row_is.1))

  pub up-row-some : (r : Option (String Global)) → ((n : ℕ) (v : Link) → Agrees x n v
      → IfSome r (λ s. (c : Sending) × (next_up v ≡ Some c) × IsUpward (suc v.ups) c (string_bytes s) × Agrees w n (with_up v)))
      → IfSome r (λ s. (c : Sending) × IsNextUp past l c (string_bytes s) × StandsFor new (TakenUp l ∷ past))
  up-row-some None row = tt
  up-row-some (Some s) row =
      let next = row l (link past l) was in
      let whole = next-whole past l next.0 there next.1 in
      (next.0, record { whole = whole.0; next = whole.1; upward = next.2 }, with-deed (TakenUp l) _ (up-of l past) next.3)

-- ---- a number that is no link

module _ (ends new : Ends) (past : List Deed) (l : ℕ) (kept : IsKept ends new l) (stands : StandsFor ends past) where
  none : is_link past l ≡ false
  none = no-link ends past l stands kept.none

  stays : StandsFor new past
  stays = stands-same ends new past stands kept.remote kept.entries

  pub send-none : (c : Sending) → IsSane past → Both new (with_step past (Sends l c))
  send-none c sane = rw none (stays, sane)

  pub down-none : IsSane past → Both new (with_step past (Down l))
  down-none sane = rw none (stays, sane)

  pub up-row-nothing : (with_step past (Up l) ≡ past) × StandsFor new past
  up-row-nothing = (up-none past l none, stays)

  pub cut-none : {P : Type 0} → is_whole past l ≡ true → P
  cut-none whole = absurd (of (is_link past l) (not (is_cut past l)) none whole)
    where
      of : (a b : Bool) → a ≡ false → (a && b) ≡ true → ⊥
      of true b e f = cc e
      of false b e f = cc f

-- ---- whether a link is whole

pub whole-found : (ends : Ends) (past : List Deed) (l : ℕ) (x : LinkEnd) (b : Bool)
    → StandsFor ends past → Some x ≡ lookup (nat_eq l) ends.links.entries → b ≡ x.is_cut → not b ≡ is_whole past l
whole-found ends past l x b stands found cut = rw (is-link ends past l x stands found) (ap not (cut ∙ (found-agrees ends past l x stands found).is_cut))

pub whole-none : (ends : Ends) (past : List Deed) (l : ℕ) → StandsFor ends past → None ≡ lookup (nat_eq l) ends.links.entries → false ≡ is_whole past l
whole-none ends past l stands none = rw (no-link ends past l stands none) refl
