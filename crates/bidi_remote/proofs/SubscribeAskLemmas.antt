-- What the tree of a `session.subscribe` or a `session.unsubscribe` in hand asks.
use Rattle.std.proofs.Common.{◌≡◌, ◌≤◌, ℕ, suc, List, [], ◌∷◌, length, map, Bool, true, false, ◌&&◌, nat_lt}
use Rattle.std.proofs.Common.{true≢false, Option, Some, None, is_some, option_map, option_and_then, unwrap_or}
use Rattle.std.proofs.Common.{codes, bytes_eq, String, string_bytes, Global, refl, sym, ap, arith}
use Rattle.std.proofs.lemmas.Bool.{and_parts, lt-ltb, false_from_ne_true}
use Rattle.std.specs.Prelude.{if◌then◌else◌}
use Rattle.std.specs.List.{list_any, list_all}
use Rattle.bidi_tree.specs.Node as tree
use Rattle.bidi_tree.specs.Node.{Node, Items, no_items, item, Members, member, no_members, get_member, members_levels, IsWhole}
use Rattle.bidi_tree.specs.Kind.{text_in, list_in}
use Rattle.bidi_tree.specs.View.{items_of}
use Rattle.bidi_tree.proofs.MemberLemmas.{get_member-put}
use Rattle.bidi_shape.specs.Name.{subscribe_parameters, unsubscribe_by_id}
use Rattle.bidi_shape.specs.Term.{required, extensible, text, list_of, rule, row, no_more, names_of}
use Rattle.bidi_shape.specs.Profile.{term_of}
use Rattle.bidi_shape.specs.Fits.{Fits, fits_text, fits_list, fits_map, fits_rule, AllFit, no_item, an_item, no_row, without, OthersFit}
use Rattle.bidi_shape.specs.ListLaws.{list_tree}
use Rattle.bidi_shape.specs.MapLaws.{PartsAt-joined, unnamed}
use Rattle.bidi_shape.specs.Table.{rows_in}
use Rattle.bidi_shape.specs.ValueLaws.{others_of}
use Rattle.bidi_shape.specs.declared.lists.OneOrMore.{OneOrMore}
use Rattle.bidi_shape.proofs.FitsLemmas.{row_fits, RowFits, others_inside, others_fit}
use Rattle.bidi_params.specs.contracts.session.subscribe.SubscribeParametersShape.TheImpl as subscribe
use Rattle.bidi_params.specs.contracts.session.subscribe.UnsubscribeByEventsShape.TheImpl as by_events
use Rattle.bidi_params.specs.contracts.session.subscribe.UnsubscribeParametersShape.TheImpl as unsubscribe
use Rattle.bidi_params.specs.declared.session.subscribe.SubscribeParameters.{SubscribeParameters}
use Rattle.bidi_params.specs.declared.session.subscribe.UnsubscribeParameters.{UnsubscribeParameters}
use Rattle.bidi_params.specs.declared.session.subscribe.UnsubscribeParameters.TheVariants.{ById, ByEvents}
use Rattle.bidi_handles.specs.Params.{items_in, texts_among, has_texts_at}
use Rattle.bidi_remote.specs.Machine.Commands.{command_in}
use Rattle.bidi_remote.specs.State.Asked.{texts, subscribe_asked, unsubscribe_asked}

-- ---- lists of texts

-- the tree of a text
abbrev pub text_tree : String Global → Node
text_tree s = tree.text (string_bytes s)

-- the tree of a list of at least one
abbrev texts_tree : OneOrMore (String Global) → Node
texts_tree l = list_tree text_tree l.items.items

-- the texts of a list's tree
pub texts-list : (ss : List (String Global)) → texts_among (items_in (items_of (map text_tree ss))) ≡ texts ss
texts-list [] = refl
texts-list (s ∷ ss) = ap (λ ts. string_bytes s ∷ ts) (texts-list ss)

-- the same of a list that may be there
texts-optional : (o : Option (OneOrMore (String Global)))
    → option_map texts_among (option_map items_in (option_and_then list_in (option_map texts_tree o))) ≡ option_map (λ l. texts l.items.items) o
texts-optional None = refl
texts-optional (Some l) = ap Some (texts-list l.items.items)

-- each item of such a tree is a text
all_texts : (ss : List (String Global)) → list_all (λ t. is_some (text_in t)) (items_in (items_of (map text_tree ss))) ≡ true
all_texts [] = refl
all_texts (s ∷ ss) = all_texts ss

-- a member is there, and is a list of at least one text
abbrev has_texts : Option Node → Bool
has_texts o =
    let ts = unwrap_or (option_map items_in (option_and_then list_in o)) [] in
    nat_lt 0 (length ts) && list_all (λ t. is_some (text_in t)) ts

-- the tree of at least one text is one
has_texts-list : (ss : List (String Global)) → 1 ≤ length ss → has_texts (Some (list_tree text_tree ss)) ≡ true
has_texts-list [] h = absurd (omega arith)
has_texts-list (s ∷ ss) h = rw (lt-ltb 0 (suc (length (items_in (items_of (map text_tree ss))))) (omega arith)) (all_texts ss)

-- what is a text fits as one
pub text-fits : (t : Node) → is_some (text_in t) ≡ true → Fits t text
text-fits (tree.text s) e = fits_text s
text-fits t e = absurd (true≢false (sym e))

-- so do items of which each is a text
all_texts-fit : (ts : Items) → list_all (λ t. is_some (text_in t)) (items_in ts) ≡ true → AllFit ts text
all_texts-fit no_items e = no_item text
all_texts-fit (item t ts) e =
    let both = and_parts (is_some (text_in t)) (list_all (λ u. is_some (text_in u)) (items_in ts)) e in
    an_item t ts text (text-fits t both.0) (all_texts-fit ts both.1)

-- so does a member that is a list of at least one text
has_texts-fits : (o : Option Node) → has_texts o ≡ true → RowFits required (list_of 1 text) o
has_texts-fits None e = absurd (true≢false (sym e))
has_texts-fits (Some (tree.list no_items)) e = absurd (true≢false (sym e))
has_texts-fits (Some (tree.list (item t ts))) e =
    let both = and_parts (nat_lt 0 (suc (length (items_in ts)))) (list_all (λ u. is_some (text_in u)) (items_in (item t ts))) e in
    fits_list (item t ts) 1 text (omega arith) (all_texts-fit (item t ts) both.1)
has_texts-fits (Some t) e = absurd (true≢false (sym e))

-- ---- members of an open map

-- the other members of an open map still fit without one of them
without_one : (b : Bool) (k : List ℕ) (t : Node) (ms ns : Members) → OthersFit extensible (member k t ms) → OthersFit extensible ns
    → OthersFit extensible (if b then ns else member k t ns)
without_one true k t ms ns fit more = more
without_one false k t ms ns fit more = others_fit k t ns (others_inside k t ms fit).0 more

-- and without those of some names
pub others_fit-without : (ks : List (List ℕ)) (ms : Members) → OthersFit extensible ms → OthersFit extensible (without ks ms)
others_fit-without ks no_members fit = fit
others_fit-without ks (member k t ms) fit =
    without_one (list_any (bytes_eq k) ks) k t ms (without ks ms) fit (others_fit-without ks ms (others_inside k t ms fit).1)

-- the members of a map that is whole within 61 levels may stand in an open map
pub inside_whole : (ms : Members) → IsWhole (tree.map ms) 61 → OthersFit extensible ms
inside_whole ms w = let deep : suc (members_levels ms) ≤ 61 = w.1 in (w.0, omega arith)

-- ---- the two commands

-- a map of such members, with at least one text under `subscriptions`, is an unsubscribe by ids
by_id-fits : (ms : Members) → OthersFit extensible ms → has_texts_at "subscriptions" (tree.map ms) ≡ true → Fits (tree.map ms) (rule unsubscribe_by_id)
by_id-fits ms fit has =
    let k = codes "subscriptions" in
    let rows = row k required (list_of 1 text) no_more in
    fits_rule (tree.map ms) unsubscribe_by_id
    (fits_map ms rows extensible (row_fits ms k required (list_of 1 text) no_more (has_texts-fits (get_member k ms) has) (no_row ms))
    (others_fit-without (k ∷ []) ms fit))

-- a `session.subscribe` asks for its events, its contexts and its user contexts
pub subscribe-asks : (p : SubscribeParameters) → subscribe.ghosts.shape.well p
    → command_in (codes "session.subscribe") (subscribe.ghosts.shape.tree_of p) ≡ Some (subscribe_asked p)
subscribe-asks p w =
    let rs = rows_in (term_of subscribe_parameters) in
    let others = others_of p.ext in
    let at = PartsAt-joined rs (Some (texts_tree p.events) ∷ option_map texts_tree p.contexts ∷ option_map texts_tree p.user_contexts ∷ [])
    others refl tt (unnamed (names_of rs) others w.1.no_known) in
    rw (at.0, at.1.0, at.1.1.0, texts-list p.events.items.items, texts-optional p.contexts, texts-optional p.user_contexts)

-- a `session.unsubscribe` asks by its ids, or else by its events
pub unsubscribe-asks : (p : UnsubscribeParameters) → unsubscribe.ghosts.shape.well p
    → command_in (codes "session.unsubscribe") (unsubscribe.ghosts.shape.tree_of p) ≡ Some (unsubscribe_asked p)
unsubscribe-asks (ById p) w =
    rw (
      get_member-put (codes "subscriptions") (texts_tree p.subscriptions) (others_of p.ext),
      has_texts-list p.subscriptions.items.items w.0.0.0,
      texts-list p.subscriptions.items.items,
    )
unsubscribe-asks (ByEvents p) w =
    let ms = tree.put (codes "events") (texts_tree p.events) (others_of p.ext) in
    let by_id = false_from_ne_true (has_texts_at "subscriptions" (tree.map ms))
    (λ has. w.1 (by_id-fits ms (inside_whole ms (by_events.ghosts.shape.whole p w.0)) has)) in
    rw (by_id, get_member-put (codes "events") (texts_tree p.events) (others_of p.ext), texts-list p.events.items.items)
