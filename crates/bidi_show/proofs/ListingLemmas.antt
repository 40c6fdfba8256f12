-- Listing one more line, and stopping.
use Rattle.std.proofs.Common.{◌≡◌, ℕ, ◌+◌, Bool, true, false, List, [], ◌∷◌, ◌++◌, length}
use Rattle.std.proofs.Common.{length-append, append_assoc, append-nil, arith, refl, sym, ◌∙◌, ap, subst}
use Rattle.std.specs.Prelude.{codes, decimal, nat_lt, not, ◌||◌, ◌==◌}
use Rattle.std.proofs.lemmas.Bool.Decides.{nat_tests}
use Rattle.bidi_lines.specs.Feeds.{ended}
use Rattle.bidi_lines.specs.Answering.{AnswersAll, run_of}
use Rattle.bidi_lines.specs.declared.side.Side.{Side}
use Rattle.bidi_lines.proofs.AnsweringLemmas.{begins_badly}
use Rattle.bidi_lines.proofs.StopLemmas.{Implies}
use Rattle.bidi_show.specs.Listings.{Lists, ListsAll, ListsEach, listing_run}
use Rattle.bidi_show.specs.Listers.{HasListed, lister_answers}
use Rattle.bidi_show.specs.declared.showing.Listing.{Listing}
use Rattle.bidi_show.specs.declared.showing.Lister.{Lister}

-- ---- one line more

-- the listing of one more line comes after the rest
each_more : (listing : Listing) (side : Side) (n : ℕ) (lines : List (List ℕ)) (line wrote text : List ℕ) → ListsEach listing side n lines wrote
    → Lists listing side (n + length lines) line text → ListsEach listing side n (lines ++ line ∷ []) (wrote ++ text)
each_more listing side n [] line wrote text none lists =
    let first : n + 0 ≡ n = omega arith in
    (text, [], subst (λ (k : ℕ). Lists listing side k line text) first lists, refl, ap (λ (w : List ℕ). w ++ text) none ∙ sym (append-nil text))
each_more listing side n (y ∷ ys) line wrote text (front, more, first, rest, e) lists =
    let same : n + length (y ∷ ys) ≡ n + 1 + length ys = omega arith in (
      front,
      more ++ text,
      first,
      each_more listing side (n + 1) ys line more text rest (subst (λ (k : ℕ). Lists listing side k line text) same lists),
      ap (λ (w : List ℕ). w ++ text) e ∙ append_assoc front more text,
    )

-- something was written if something was written before
some_before : (wrote text : List ℕ) → true ≡ nat_lt 0 (length wrote) → true ≡ nat_lt 0 (length (wrote ++ text))
some_before wrote text e = let long = length-append wrote text in grind (arith, nat_tests, long, e)

-- something was written if the new text is not empty
some_now : (wrote text : List ℕ) → false ≡ nat_lt 0 (length wrote) → not (length text == 0) ≡ nat_lt 0 (length (wrote ++ text))
some_now wrote text e = let long = length-append wrote text in grind (arith, nat_tests, long, e)

some_more : (some : Bool) (wrote text : List ℕ) → some ≡ nat_lt 0 (length wrote) → (some || not (length text == 0)) ≡ nat_lt 0 (length (wrote ++ text))
some_more true wrote text e = some_before wrote text e
some_more false wrote text e = some_now wrote text e

-- a listing goes on by one line, whose text is known by another name
pub listed_more : (first before after : Lister) (lines : List (List ℕ)) (line text bytes shown : List ℕ) (number : ℕ) (p : HasListed first before lines text)
    → number ≡ length lines + 1 → shown ≡ bytes → after.listing ≡ before.listing → after.side ≡ before.side
    → Lists before.listing before.side number line bytes → after.has_written ≡ (before.has_written || not (length bytes == 0))
    → HasListed first after (lines ++ line ∷ []) (text ++ shown)
listed_more first before after lines line text bytes shown number p counted same listing side lists tells =
    let next : number ≡ 1 + length lines = omega (arith, counted) in
    let of_listing = subst (λ (l : Listing). Lists l before.side number line bytes) p.listing lists in
    let of_side = subst (λ (s : Side). Lists first.listing s number line bytes) p.side of_listing in
    let numbered = subst (λ (n : ℕ). Lists first.listing first.side n line bytes) next of_side in
    subst (λ (z : List ℕ). HasListed first after (lines ++ line ∷ []) (text ++ z)) (sym same) (record {
      listing = listing ∙ p.listing;
      side = side ∙ p.side;
      lists = each_more first.listing first.side 1 lines line text bytes p.lists numbered;
      tells = tells ∙ some_more before.has_written text bytes p.tells;
    })

-- the line of a refused line, grouped to the right
pub numbered_grouped : (n : ℕ) (t : List ℕ)
    → ended (codes "line " ++ decimal n ++ codes ": " ++ t) ≡ 108 ∷ 105 ∷ 110 ∷ 101 ∷ 32 ∷ (decimal n ++ 58 ∷ 32 ∷ (t ++ 10 ∷ []))
numbered_grouped n t =
    append_assoc ((codes "line " ++ decimal n) ++ codes ": ") t (10 ∷ []) ∙ append_assoc (codes "line " ++ decimal n) (codes ": ") (t ++ 10 ∷ [])

-- ---- all of them, and stops

-- all that was read was listed, and it is known whether anything was written
pub lists_all : (first lister : Lister) (read wrote : List ℕ) → AnswersAll (HasListed first lister) 1000000000 read wrote
    → ListsAll first.listing first.side read wrote × (lister.has_written ≡ nat_lt 0 (length wrote))
lists_all first lister read wrote (lines, b, p, few) = ((lines, b, p.lists, few), p.tells)

-- what a lister answers is a listing
pub lists_so : (first : Lister) → Implies (run_of lister_answers first 1000000000) (listing_run first.listing first.side)
lists_so first = record {
  is_line = λ line is. is;
  is_next = λ at_end line bytes next. next;
  refuses = λ at_end bytes bad. begins_badly at_end bytes bad.0 bad.1;
  answers = λ lines text done. done.1.lists;
  is_worn_out = λ lines rest worn. worn.1.2;
  few = λ lines text done few. few;
  all = λ lines text done all. all;
}
