-- The tokens of some texts, computed.
use Rattle.std.proofs.Common.{◌≡◌, ◌∷◌, [], refl}
use Rattle.std.specs.Prelude.{Some, None, codes}
use Rattle.bidi_cddl.specs.Token.{a_name, a_number, a_string, a_control, a_sign}
use Rattle.bidi_cddl.specs.Tokens.{tokens}
use Rattle.bidi_cddl.specs.declared.token.Sign.TheVariants.{Equals, MoreGroups, TwoDots, ThreeDots, Slash}

-- a range right behind a number
pub range_row : tokens (codes "a = 0..1.5") ≡ Some (a_name (codes "a") ∷ a_sign Equals ∷ a_number (codes "0") ∷ a_sign TwoDots ∷ a_number (codes "1.5") ∷ [])
range_row = refl

-- a range right behind a name, and dots and dashes in names
pub name_row : tokens (codes "a-b.c...d") ≡ Some (a_name (codes "a-b.c") ∷ a_sign ThreeDots ∷ a_name (codes "d") ∷ [])
name_row = refl

-- a dash that does not belong to a name
pub dash_row : tokens (codes "a- b") ≡ None
dash_row = refl

-- numbers
pub number_row : tokens (codes "-1 2e5 3.0e-7") ≡ Some (a_number (codes "-1") ∷ a_number (codes "2e5") ∷ a_number (codes "3.0e-7") ∷ [])
number_row = refl

-- a control operator
pub control_row : tokens (codes "a .ge") ≡ Some (a_name (codes "a") ∷ a_control (codes ".ge") ∷ [])
control_row = refl

-- a string that has the beginning of a comment, and a comment
pub string_row : tokens (codes "\";\" ;a") ≡ Some (a_string (codes ";") ∷ [])
string_row = refl

-- the longer one of two signs that begin alike
pub sign_row : tokens (codes "a//=/b") ≡ Some (a_name (codes "a") ∷ a_sign MoreGroups ∷ a_sign Slash ∷ a_name (codes "b") ∷ [])
sign_row = refl

-- a string without its end
pub open_row : tokens (codes "\"a") ≡ None
open_row = refl
