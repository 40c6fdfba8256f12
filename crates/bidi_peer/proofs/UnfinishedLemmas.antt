-- Bytes without a line feed finish no head.
use Rattle.std.proofs.Common.{◌≡◌, ◌∙◌, ◌++◌, ◌∷◌, ◌⊎◌, ◌<◌, ◌≤◌, ℕ, List, [], Bool, true, false, ap, append-nil, append_assoc, arith, drop, inl, inr, length, length-append, min, refl, subst, sym}
use Rattle.std.specs.Prelude.{◌==◌, ◌||◌}
use Rattle.std.specs.List.{flat_map, list_any}
use Rattle.std.proofs.lemmas.List.{drop_at, drop_min}
use Rattle.httparse.specs.Grammar.{HasNoRequest, LineEnd, ReadsRequest, RequestHead, crlf, lf, print_blank, print_end, print_field, print_request, print_section, print_version}
use Rattle.httparse.proofs.GrammarLemmas.{ReadsRequest-append, print_request-append}
use Rattle.bidi_requests.specs.Requests.{HasPart, IsAskedBy, IsUnfinished, longest_head}
use Rattle.bidi_requests.specs.declared.asking.Asked.TheVariants as asked

-- some bytes end in a line feed
abbrev Ends : List ℕ → Type 0
Ends xs = (front : List ℕ) × (xs ≡ front ++ (10 ∷ []))

ends-behind : (a b : List ℕ) → Ends b → Ends (a ++ b)
ends-behind a b e = (a ++ e.0, ap (λ x. a ++ x) e.1 ∙ sym (append_assoc a e.0 (10 ∷ [])))

ends-cons : (x : ℕ) (b : List ℕ) → Ends b → Ends (x ∷ b)
ends-cons x b e = (x ∷ e.0, ap (λ l. x ∷ l) e.1)

ends-line : (end : LineEnd) → Ends (print_end end)
ends-line crlf = (13 ∷ [], refl)
ends-line lf = ([], refl)

-- a head ends in a line feed
request-ends : (h : RequestHead) → Ends (print_request h)
request-ends h =
    let section = print_section h.fields h.last in
    let last : Ends (section ++ []) = subst Ends (sym (append-nil section)) (ends-behind (flat_map print_field h.fields) (print_end h.last) (ends-line h.last)) in
    let line : Ends (print_version h.minor ++ (print_end h.line_end ++ (section ++ []))) =
    ends-behind (print_version h.minor) (print_end h.line_end ++ (section ++ [])) (ends-behind (print_end h.line_end) (section ++ []) last) in
    let whole : print_request h ≡ print_blank h.blank ++ (h.method ++ (32 ∷ (h.target ++ (32 ∷ (print_version h.minor ++ (print_end h.line_end ++ (section ++ [])))))))
    = sym (append-nil (print_request h)) ∙ print_request-append h [] in
    subst Ends (sym whole) (ends-behind (print_blank h.blank) _ (ends-behind h.method _ (ends-cons 32 _ (ends-behind h.target _ (ends-cons 32 _ line)))))

or-true : (b : Bool) → (b || true) ≡ true
or-true true = refl
or-true false = refl

any-behind : (front rest : List ℕ) → list_any (λ b. b == 10) (front ++ (10 ∷ rest)) ≡ true
any-behind [] rest = refl
any-behind (x ∷ front) rest = ap (λ b. (x == 10) || b) (any-behind front rest) ∙ or-true (x == 10)

-- bytes up to a line feed lie in front of more bytes that have none
within : (bytes more front rest : List ℕ) → bytes ++ more ≡ front ++ (10 ∷ rest) → list_any (λ b. b == 10) more ≡ false
    → (back : List ℕ) × (bytes ≡ front ++ (10 ∷ back))
within [] more front rest same none =
    let both : true ≡ false = sym (any-behind front rest) ∙ ap (list_any (λ b. b == 10)) (sym same) ∙ none in absurd (cc both)
within (x ∷ bytes) more [] rest same none = (bytes, let head : x ≡ 10 = cc same in ap (λ y. y ∷ bytes) head)
within (x ∷ bytes) more (y ∷ front) rest same none =
    let head : x ≡ y = cc same in
    let tail : bytes ++ more ≡ front ++ (10 ∷ rest) = cc same in
    let found = within bytes more front rest tail none in (found.0, λ i. head i ∷ found.1 i)

-- more bytes without a line feed bring no head
pub no_request_more : (bytes more : List ℕ) → HasNoRequest bytes → list_any (λ b. b == 10) more ≡ false → HasNoRequest (bytes ++ more)
no_request_more bytes more none no_line h rest reads =
    let ends = request-ends h in
    let split : bytes ++ more ≡ ends.0 ++ (10 ∷ rest) = reads.1 ∙ ap (λ x. x ++ rest) ends.1 ∙ append_assoc ends.0 (10 ∷ []) rest in
    let found = within bytes more ends.0 rest split no_line in
    none h found.0 (reads.0, found.1 ∙ sym (append_assoc ends.0 (10 ∷ []) found.0) ∙ ap (λ x. x ++ found.0) (sym ends.1))

-- a head is not empty
head-some : (bytes : List ℕ) (h : RequestHead) (rest : List ℕ) → ReadsRequest bytes h rest → 0 < length bytes
head-some bytes h rest reads =
    let ends = request-ends h in omega (arith, ap length reads.1, length-append (print_request h) rest, ap length ends.1, length-append ends.0 (10 ∷ []))

-- a call whose body is not whole is so still, when fewer bytes than it needs are here
body-still : (waited came left : List ℕ) (least : ℕ) → left ≡ waited ++ came → length left < least → IsAskedBy waited (asked.Body least) → IsAskedBy left (asked.Body least)
body-still waited came left least joins few was =
    let h = was.0 in
    let reads : ReadsRequest left h (was.1.0.0.0 ++ came) = subst (λ b. ReadsRequest b h (was.1.0.0.0 ++ came)) (sym joins) (ReadsRequest-append waited h was.1.0.0.0 came was.1.0.0.1) in
    (h, (((was.1.0.0.0 ++ came, reads), was.1.0.1), was.1.1), part h (was.1.0.0.0 ++ came) reads was.2)
  where
    part : (h : RequestHead) (rest : List ℕ) → ReadsRequest left h rest → HasPart waited h least → HasPart left h least
    part h rest reads (inl sized) = inl (sized.0, sized.1, sized.2, sized.3, few)
    part h rest reads (inr chunked) = absurd (omega (arith, few, chunked.1, head-some left h rest reads))

-- a body that is not whole needs a byte at least
needs-some : (waited : List ℕ) (least : ℕ) → least ≡ 0 → IsAskedBy waited (asked.Body least) → ⊥
needs-some waited least zero was = none was.0 was.2
  where
    none : (h : RequestHead) → HasPart waited h least → ⊥
    none h (inl sized) = omega (arith, zero, sized.4)
    none h (inr chunked) = omega (arith, zero, chunked.1)

-- what was unfinished is so still, when bytes without a line feed came, or fewer than a body needs
pub still_unfinished : (waited came left : List ℕ) (known least : ℕ) → left ≡ waited ++ came → known ≡ length waited
    → (length left < least) ⊎ ((least ≡ 0) × (length left ≤ longest_head) × (list_any (λ b. b == 10) (drop (min known (length left)) left) ≡ false))
    → IsUnfinished least waited → IsUnfinished least left
still_unfinished waited came left known least joins all (inl few) (inl was) = absurd (omega (arith, few, was.0))
still_unfinished waited came left known least joins all (inl few) (inr was) = inr (body-still waited came left least joins few was)
still_unfinished waited came left known least joins all (inr short) (inr was) = absurd (needs-some waited least short.0 was)
still_unfinished waited came left known least joins all (inr short) (inl was) =
    let rest : drop (min known (length left)) left ≡ came = drop_min known left ∙ ap (drop known) joins ∙ drop_at waited came known (sym all) in
    inl (was.0, (subst HasNoRequest (sym joins) (no_request_more waited came was.1.0 (ap (list_any (λ b. b == 10)) (sym rest) ∙ short.2)), short.1))
