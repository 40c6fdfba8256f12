-- What follows an authority is a text.
use Rattle.std.proofs.Common.{◌≡◌, ◌∙◌, ◌+◌, ◌<◌, ◌≤◌, ◌∷◌, ℕ, suc, List, [], Bool, true, false, IsUtf8, IsCharBoundary, ap, arith, drop, inl, inr, drop-drop, get_or, length, length-drop, refl, subst, sym}
use Rattle.std.specs.Prelude.{if◌then◌else◌}
use Rattle.std.proofs.lemmas.Bool.{cases_lt}
use Rattle.std.proofs.lemmas.Bool.Decides.{nat_tests}
use Rattle.std.proofs.lemmas.List.{drop_all, get_or-drop}
use Rattle.std.proofs.lemmas.Str.{IsUtf8-drop, IsUtf8-nil}
use Rattle.bidi_requests.specs.Targets.{after_authority, ends_authority, is_absolute, resource_of}

-- a byte that ends an authority is ASCII
ascii : (b : ℕ) → ends_authority b ≡ true → b < 128
ascii b ends = grind (arith, nat_tests)

-- what follows an authority begins at a place whose byte, if there is one, is ASCII
abbrev Begins : List ℕ → List ℕ → Type 0
Begins bytes rest = (n : ℕ) × (rest ≡ drop n bytes) × (n ≤ length bytes) × (n < length bytes → get_or bytes n 0 < 128)

begins-more : (b : ℕ) (bytes rest : List ℕ) → Begins bytes rest → Begins (b ∷ bytes) rest
begins-more b bytes rest x = (suc x.0, x.1, omega (arith, x.2), λ lt. x.3 (omega (arith, lt)))

begins-by : (b : ℕ) (bytes : List ℕ) (t : Bool) → ends_authority b ≡ t → Begins bytes (after_authority bytes) → Begins (b ∷ bytes) (if t then b ∷ bytes else after_authority bytes)
begins-by b bytes true ends x = (0, refl, omega arith, λ lt. ascii b ends)
begins-by b bytes false ends x = begins-more b bytes (after_authority bytes) x

pub authority-begins : (bytes : List ℕ) → Begins bytes (after_authority bytes)
authority-begins [] = (0, refl, omega arith, λ lt. absurd (omega (arith, lt)))
authority-begins (b ∷ bytes) = begins-by b bytes (ends_authority b) refl (authority-begins bytes)

utf8-from : (target rest : List ℕ) → IsUtf8 target → Begins (drop 7 target) rest → IsUtf8 rest
utf8-from target rest utf8 x = elim (cases_lt (length target) 7) [
  | inr long ↦
      let whole : rest ≡ drop (7 + x.0) target = x.1 ∙ drop-drop x.0 7 target in
      let inside : 7 + x.0 ≤ length target = omega (arith, x.2, length-drop 7 target, long) in
      let boundary : IsCharBoundary target (7 + x.0) = (inside, λ lt high. absurd (omega (arith, high, subst (λ b. b < 128) (get_or-drop 7 target x.0 0) (x.3 (omega (arith, lt, length-drop 7 target))))))
      in subst IsUtf8 (sym whole) (IsUtf8-drop target (7 + x.0) utf8 boundary)
  | inl short ↦ subst IsUtf8 (sym (x.1 ∙ drop_all x.0 (drop 7 target) (omega (arith, length-drop 7 target, short)))) IsUtf8-nil
]

by-form : (target : List ℕ) (t : Bool) → IsUtf8 target → IsUtf8 (if t then after_authority (drop 7 target) else target)
by-form target true utf8 = utf8-from target (after_authority (drop 7 target)) utf8 (authority-begins (drop 7 target))
by-form target false utf8 = utf8

-- the resource of a target that is a text is a text
pub resource-utf8 : (target : List ℕ) → IsUtf8 target → IsUtf8 (resource_of target)
unfolding resource_of
resource-utf8 target utf8 = by-form target (is_absolute target) utf8

-- a target in absolute form names what follows its authority
pub absolute-is : (target rest : List ℕ) → is_absolute target ≡ true → rest ≡ after_authority (drop 7 target) → rest ≡ resource_of target
unfolding resource_of
absolute-is target rest absolute is = is ∙ ap (λ t. if t then after_authority (drop 7 target) else target) (sym absolute)

-- any other target names itself
pub written-is : (target : List ℕ) → is_absolute target ≡ false → target ≡ resource_of target
unfolding resource_of
written-is target written = ap (λ t. if t then after_authority (drop 7 target) else target) (sym written)
