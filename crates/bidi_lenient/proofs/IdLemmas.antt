-- The id of an eased command.
use Rattle.std.proofs.Common.{◌≡◌, ℕ, List, codes, Option, Some, None, refl, ap, true≢false, bytes_eq}
use Rattle.std.specs.Option.{option_map_or}
use Rattle.bidi_tree.specs.Node as tree
use Rattle.bidi_tree.specs.Node.{Node, null, boolean, whole, odd, text, list, get_of}
use Rattle.bidi_tree.proofs.MemberLemmas.{get_member-put_other}
use Rattle.bidi_lenient.specs.declared.method.Method.{Method}
use Rattle.bidi_lenient.specs.declared.method.Method.TheVariants.{New, Subscribe, Unsubscribe, Evaluate, CallFunction, Disown, Close}
use Rattle.bidi_lenient.specs.Members.{put_in, within}
use Rattle.bidi_lenient.specs.Methods.{method_in}
use Rattle.bidi_lenient.specs.Eased.{eased_by, eased}

-- another member of an object stays
other_put : (q k : List ℕ) (m t : Node) → (q ≡ k → ⊥) → get_of q (put_in k m t) ≡ get_of q t
other_put q k m null apart = refl
other_put q k m (boolean b) apart = refl
other_put q k m (whole z) apart = refl
other_put q k m odd apart = refl
other_put q k m (text s) apart = refl
other_put q k m (list ts) apart = refl
other_put q k m (tree.map ms) apart = get_member-put_other q k m ms apart

other_within : (q k : List ℕ) (f : Node → Node) (t : Node) (o : Option Node) → (q ≡ k → ⊥)
    → get_of q (option_map_or (λ m. put_in k (f m) t) o t) ≡ get_of q t
other_within q k f t None apart = refl
other_within q k f t (Some m) apart = other_put q k (f m) t apart

id_within : (f : Node → Node) (t : Node) → get_of (codes "id") (within (codes "params") f t) ≡ get_of (codes "id") t
id_within f t = other_within (codes "id") (codes "params") f t _ (λ e. true≢false (ap (bytes_eq (codes "id")) e))

id_by : (m : Method) (t : Node) → get_of (codes "id") (eased_by m t) ≡ get_of (codes "id") t
id_by New t = id_within _ t
id_by Subscribe t = refl
id_by Unsubscribe t = id_within _ t
id_by Evaluate t = id_within _ t
id_by CallFunction t = id_within _ t
id_by Disown t = id_within _ t
id_by Close t = other_put (codes "id") (codes "method") _ t (λ e. true≢false (ap (bytes_eq (codes "id")) e))

id_of : (o : Option Method) (t : Node) → get_of (codes "id") (option_map_or (λ m. eased_by m t) o t) ≡ get_of (codes "id") t
id_of None t = refl
id_of (Some m) t = id_by m t

-- it is the id of the command
pub id_eased : (t : Node) → get_of (codes "id") (eased t) ≡ get_of (codes "id") t
id_eased t = id_of (method_in t) t
