-- If a command can be written, so can the command without the left-out parts.
use Rattle.std.proofs.Common.{◌≡◌, ℕ, ◌-◌, Bool, true, false, cond, List, codes, Option, Some, None, is_some, Ordering, Less, Equal, Greater, refl, arith}
use Rattle.std.proofs.lemmas.Bool.{or_parts, or_from}
use Rattle.std.specs.Option.{option_map_or}
use Rattle.std.specs.Ordering.{match_ordering}
use Rattle.bidi_tree.specs.Node as tree
use Rattle.bidi_tree.specs.Node.{Node, null, boolean, whole, odd, text, list, Items, no_items, item, Members, no_members, member, put, get_member}
use Rattle.bidi_tree.specs.Node.{has_odd, items_have_odd, IsWhole, ItemsAreWhole, MembersAreWhole, IsWritable}
use Rattle.bidi_tree.proofs.WholeLemmas.{whole-more, whole-head, whole-rest, whole-put}
use Rattle.bidi_lenient.specs.declared.method.Method.{Method}
use Rattle.bidi_lenient.specs.declared.method.Method.TheVariants.{New, Subscribe, Unsubscribe, Evaluate, CallFunction, Disown, Close}
use Rattle.bidi_lenient.specs.Members.{put_in, within, members_kept, without}
use Rattle.bidi_lenient.specs.Names.{is_capability, is_sandbox}
use Rattle.bidi_lenient.specs.Eased.{request_eased, items_eased, requests_eased, capabilities_eased, new_eased, params_refused}
use Rattle.bidi_lenient.specs.Eased.{target_eased, source_eased, script_params_eased, script_eased, disown_eased, close_eased, eased_by}

-- ---- a member

found_whole : (o : Ordering) (rest : Option Node) (n m : Node) (l : ℕ)
    → IsWhole n l → (rest ≡ Some m → IsWhole m l) → match_ordering o rest (Some n) rest ≡ Some m → IsWhole m l
found_whole Less rest n m l w later e = later e
found_whole Equal rest n m l w later e = let same : n ≡ m = cc in rw (← same) w
found_whole Greater rest n m l w later e = later e

whole-get_member : (k : List ℕ) (ms : Members) (m : Node) (l : ℕ) → MembersAreWhole ms l → get_member k ms ≡ Some m → IsWhole m l
whole-get_member k no_members m l w e = absurd (cc)
whole-get_member k (member j n ms) m l w e =
    found_whole _ _ n m l (whole-head j n ms l w) (whole-get_member k ms m l (whole-rest j n ms l w)) e

-- f of a whole tree is whole within the same levels
abbrev Keeps : (Node → Node) → Type 0
Keeps f = (t : Node) (l : ℕ) → IsWhole t l → IsWhole (f t) l

put_whole : (k : List ℕ) (t : Node) (ms : Members) (l : ℕ) → IsWhole (tree.map ms) l → IsWhole t (l - 1) → IsWhole (tree.map (put k t ms)) l
put_whole k t ms l w h =
    let inner : MembersAreWhole ms (l - 1) = (w.0, omega (arith, w.1)) in
    let puts = whole-put k t ms (l - 1) inner h in
    (puts.0, omega (arith, puts.1, w.1))

within_found : (k : List ℕ) (f : Node → Node) (ms : Members) (l : ℕ) (o : Option Node) → Keeps f → IsWhole (tree.map ms) l → get_member k ms ≡ o
    → IsWhole (option_map_or (λ m. put_in k (f m) (tree.map ms)) o (tree.map ms)) l
within_found k f ms l None h w e = w
within_found k f ms l (Some m) h w e =
    put_whole k (f m) ms l w (h m (l - 1) (whole-get_member k ms m (l - 1) (w.0, omega (arith, w.1)) e))

Keeps-within : (k : List ℕ) (f : Node → Node) → Keeps f → Keeps (within k f)
Keeps-within k f h null l w = w
Keeps-within k f h (boolean b) l w = w
Keeps-within k f h (whole z) l w = w
Keeps-within k f h odd l w = w
Keeps-within k f h (text s) l w = w
Keeps-within k f h (list ts) l w = w
Keeps-within k f h (tree.map ms) l w = within_found k f ms l _ h w refl

-- ---- members that are left out

one_kept : (b : Bool) (k : List ℕ) (t : Node) (ms : Members) (l : ℕ) → IsWhole t l → MembersAreWhole ms l
    → MembersAreWhole (cond b ms (member k t ms)) l
one_kept true k t ms l w h = h
one_kept false k t ms l w h = whole-more k t ms l w h

kept_whole : (p : List ℕ → Node → Bool) (ms : Members) (l : ℕ) → MembersAreWhole ms l → MembersAreWhole (members_kept p ms) l
kept_whole p no_members l w = w
kept_whole p (member k t ms) l w =
    one_kept (p k t) k t (members_kept p ms) l (whole-head k t ms l w) (kept_whole p ms l (whole-rest k t ms l w))

Keeps-without : (p : List ℕ → Node → Bool) → Keeps (without p)
Keeps-without p null l w = w
Keeps-without p (boolean b) l w = w
Keeps-without p (whole z) l w = w
Keeps-without p odd l w = w
Keeps-without p (text s) l w = w
Keeps-without p (list ts) l w = w
Keeps-without p (tree.map ms) l w =
    let kept = kept_whole p ms (l - 1) (w.0, omega (arith, w.1)) in
    (kept.0, omega (arith, kept.1, w.1))

-- ---- `session.new`

item_more : (t : Node) (ts : Items) (l : ℕ) → IsWhole t l → ItemsAreWhole ts l → ItemsAreWhole (item t ts) l
item_more t ts l w h = (or_from (has_odd t) (items_have_odd ts) w.0 h.0, omega (arith, w.1, h.1))

item_head : (t : Node) (ts : Items) (l : ℕ) → ItemsAreWhole (item t ts) l → IsWhole t l
item_head t ts l w = ((or_parts (has_odd t) (items_have_odd ts) w.0).0, omega (arith, w.1))

item_rest : (t : Node) (ts : Items) (l : ℕ) → ItemsAreWhole (item t ts) l → ItemsAreWhole ts l
item_rest t ts l w = ((or_parts (has_odd t) (items_have_odd ts) w.0).1, omega (arith, w.1))

each_whole : (ts : Items) (l : ℕ) → ItemsAreWhole ts l → ItemsAreWhole (items_eased ts) l
each_whole no_items l w = w
each_whole (item t ts) l w =
    item_more (request_eased t) (items_eased ts) l (Keeps-without is_capability t l (item_head t ts l w)) (each_whole ts l (item_rest t ts l w))

Keeps-requests : Keeps requests_eased
Keeps-requests null l w = w
Keeps-requests (boolean b) l w = w
Keeps-requests (whole z) l w = w
Keeps-requests odd l w = w
Keeps-requests (text s) l w = w
Keeps-requests (list ts) l w =
    let each = each_whole ts (l - 1) (w.0, omega (arith, w.1)) in
    (each.0, omega (arith, each.1, w.1))
Keeps-requests (tree.map ms) l w = w

Keeps-capabilities : Keeps capabilities_eased
Keeps-capabilities t l w =
    Keeps-within (codes "firstMatch") requests_eased Keeps-requests _ l
    (Keeps-within (codes "alwaysMatch") request_eased (Keeps-without is_capability) t l w)

Keeps-new : Keeps new_eased
Keeps-new t l w = Keeps-within (codes "params") _ (Keeps-within (codes "capabilities") capabilities_eased Keeps-capabilities) t l w

-- ---- `session.unsubscribe`

refused_or_kept : (b : Bool) (ms : Members) (l : ℕ) → IsWhole (tree.map ms) l → IsWhole (cond b (tree.map no_members) (tree.map ms)) l
refused_or_kept true ms l w = (refl, omega (arith, w.1))
refused_or_kept false ms l w = w

Keeps-refused : Keeps params_refused
Keeps-refused null l w = w
Keeps-refused (boolean b) l w = w
Keeps-refused (whole z) l w = w
Keeps-refused odd l w = w
Keeps-refused (text s) l w = w
Keeps-refused (list ts) l w = w
Keeps-refused (tree.map ms) l w = refused_or_kept (is_some (get_member (codes "contexts") ms)) ms l w

-- ---- scripts

Keeps-source : Keeps source_eased
Keeps-source null l w = w
Keeps-source (boolean b) l w = w
Keeps-source (whole z) l w = w
Keeps-source odd l w = w
Keeps-source (text s) l w = (refl, omega arith)
Keeps-source (list ts) l w = w
Keeps-source (tree.map ms) l w = w

Keeps-script_params : (k : List ℕ) → Keeps (script_params_eased k)
Keeps-script_params k t l w =
    Keeps-within (codes "target") target_eased (Keeps-without is_sandbox) _ l (Keeps-within k source_eased Keeps-source t l w)

Keeps-script : (k : List ℕ) → Keeps (script_eased k)
Keeps-script k t l w = Keeps-within (codes "params") (script_params_eased k) (Keeps-script_params k) t l w

Keeps-disown : Keeps disown_eased
Keeps-disown t l w = Keeps-within (codes "params") _ (Keeps-within (codes "target") target_eased (Keeps-without is_sandbox)) t l w

-- ---- `browser.close`

Keeps-close : Keeps close_eased
Keeps-close null l w = w
Keeps-close (boolean b) l w = w
Keeps-close (whole z) l w = w
Keeps-close odd l w = w
Keeps-close (text s) l w = w
Keeps-close (list ts) l w = w
Keeps-close (tree.map ms) l w = put_whole (codes "method") (text (codes "session.end")) ms l w (refl, omega arith)

-- ---- a command

-- so is a command of one of these methods when it is eased
pub writable-eased : (m : Method) (t : Node) → IsWritable t → IsWritable (eased_by m t)
writable-eased New t w = Keeps-new t 100 w
writable-eased Subscribe t w = w
writable-eased Unsubscribe t w = Keeps-within (codes "params") params_refused Keeps-refused t 100 w
writable-eased Evaluate t w = Keeps-script (codes "expression") t 100 w
writable-eased CallFunction t w = Keeps-script (codes "functionDeclaration") t 100 w
writable-eased Disown t w = Keeps-disown t 100 w
writable-eased Close t w = Keeps-close t 100 w
