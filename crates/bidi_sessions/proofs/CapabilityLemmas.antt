-- What the tree of requested capabilities asks for, name by name.
use Rattle.std.proofs.Common.{◌≡◌, ◌∙◌, ℕ, List, [], ◌∷◌, Bool, true, false, not, ◌&&◌, ◌||◌, if◌then◌else◌, Option, Some, None}
use Rattle.std.proofs.Common.{Ok, Err, codes, map, bytes_eq, string_bytes, String, Global, option_map, option_and_then}
use Rattle.std.proofs.Common.{unwrap_or, is_some, true≢false, Ordering, Less, Equal, Greater, nat_cmp, refl, sym, ap}
use Rattle.std.proofs.lemmas.Slice.Eq.{bytes_eq-Decides}
use Rattle.std.specs.Global.{Vec}
use Rattle.std.specs.List.{list_any, list_all}
use Rattle.std.specs.Cmp.Lexicographic.{slice_cmp}
use Rattle.std.specs.Ordering.{match_ordering}
use Rattle.bidi_tree.specs.Node.{Node, null, boolean, text, Members, no_members, member, put, get_member}
use Rattle.bidi_tree.specs.Kind.{list_in}
use Rattle.bidi_tree.specs.View.{node, items_of, members_node}
use Rattle.bidi_tree.proofs.TreeLemmas.{Entry}
use Rattle.bidi_tree.proofs.MemberLemmas.{get_member-put, same_text}
use Rattle.bidi_shape.specs.Name.{capability_request, capabilities_request}
use Rattle.bidi_shape.specs.Term.{Rows, no_more, row, names_of}
use Rattle.bidi_shape.specs.Profile.{term_of}
use Rattle.bidi_shape.specs.Parts.{put_part, joined, distinct}
use Rattle.bidi_shape.specs.MapLaws.{PartsAt-joined, at-joined_other, named_first, named_later, unnamed}
use Rattle.bidi_shape.specs.Table.{rows_in}
use Rattle.bidi_shape.specs.ListLaws.{list_tree}
use Rattle.bidi_shape.specs.ValueLaws.{others_of}
use Rattle.bidi_params.specs.declared.session.capabilities.CapabilityRequest.{CapabilityRequest}
use Rattle.bidi_params.specs.declared.session.capabilities.NewParameters.{NewParameters}
use Rattle.bidi_params.specs.contracts.session.capabilities.CapabilityRequestShape.TheImpl.{ghosts}
use Rattle.bidi_params.specs.contracts.session.capabilities.CapabilitiesRequestShape.TheImpl as inner
use Rattle.bidi_params.specs.contracts.session.capabilities.NewParametersShape.TheImpl as whole
use Rattle.bidi_params.specs.declared.error_code.ErrorCode.TheVariants.{InvalidArgument, SessionNotCreated}
use Rattle.bidi_handles.specs.Params.{items_in}
use Rattle.bidi_sessions.specs.Capabilities.{Capability, Request, has_colon, requested, requested_in}
use Rattle.bidi_sessions.specs.Capabilities.{request_in, request_of, is_known, are_apart, is_met, matching}

-- ---- truth values

both : (b c : Bool) → (b && c) ≡ true → (b ≡ true) × (c ≡ true)
both true c e = (refl, e)
both false c e = absurd (true≢false (sym e))

not_first : (b c : Bool) → (not b && c) ≡ true → (b ≡ false) × (c ≡ true)
not_first true c e = absurd (true≢false (sym e))
not_first false c e = (refl, e)

and_swap : (a b c : Bool) → (a && (b && c)) ≡ (b && (a && c))
and_swap true true c = refl
and_swap true false c = refl
and_swap false true c = refl
and_swap false false c = refl

and_true : (b : Bool) → (b && true) ≡ b
and_true true = refl
and_true false = refl

and_left : (a b c d : Bool) → (a && (b && (c && (d && true)))) ≡ (((a && b) && c) && d)
and_left true true true d = and_true d
and_left true true false d = refl
and_left true false c d = refl
and_left false b c d = refl

not_or : (b c d : Bool) → not c ≡ d → not (b || c) ≡ (not b && d)
not_or true c d e = refl
not_or false c d e = e

not_any : {X : Type 0} (f : X → Bool) (xs : List X) → not (list_any f xs) ≡ list_all (λ x. not (f x)) xs
not_any f [] = refl
not_any f (x ∷ xs) = not_or (f x) (list_any f xs) (list_all (λ y. not (f y)) xs) (not_any f xs)

-- ---- a test of all that is asked for

later_none : (o : Ordering) (r : Option Node) (t : Node) → match_ordering o r (Some t) r ≡ None → r ≡ None
later_none Less r t h = h
later_none Equal r t h = cc
later_none Greater r t h = h

all_behind : (f : Capability → Bool) (k l : List ℕ) (t u : Node) (ms ns : Members) (c : Bool) → has_colon l ≡ c
    → list_all f (requested ns) ≡ (f (k, t) && list_all f (requested ms))
    → list_all f (requested (member l u ns)) ≡ (f (k, t) && list_all f (requested (member l u ms)))
all_behind f k l t u ms ns true e later = rw e later
all_behind f k l t u ms ns false e later = rw e (ap (λ b. f (l, u) && b) later ∙ and_swap (f (l, u)) (f (k, t)) (list_all f (requested ms)))

all_put_at : (f : Capability → Bool) (k l : List ℕ) (t u : Node) (ms ns : Members) (o : Ordering) → slice_cmp nat_cmp k l ≡ o → has_colon k ≡ false
    → get_member k (member l u ms) ≡ None → list_all f (requested ns) ≡ (f (k, t) && list_all f (requested ms))
    → list_all f (requested (match_ordering o (member k t (member l u ms)) (member l t ms) (member l u ns)))
    ≡ (f (k, t) && list_all f (requested (member l u ms)))
all_put_at f k l t u ms ns Less is plain none later = rw plain
all_put_at f k l t u ms ns Equal is plain none later = let h : Some u ≡ None = rw is at none in cc
all_put_at f k l t u ms ns Greater is plain none later = all_behind f k l t u ms ns (has_colon l) refl later

-- a member that was not there, and whose name has no colon, is tested too
all-put : (f : Capability → Bool) (k : List ℕ) (t : Node) (ms : Members) → has_colon k ≡ false → get_member k ms ≡ None
    → list_all f (requested (put k t ms)) ≡ (f (k, t) && list_all f (requested ms))
all-put f k t no_members plain none = rw plain
all-put f k t (member l u ms) plain none =
    all_put_at f k l t u ms (put k t ms) (slice_cmp nat_cmp k l) refl plain none
    (all-put f k t ms plain (later_none (slice_cmp nat_cmp k l) (get_member k ms) u none))

-- the test of a part, if it is there
abbrev part_test : (Capability → Bool) → List ℕ → Option Node → Bool
part_test f k None = true
part_test f k (Some t) = f (k, t)

all-put_part : (f : Capability → Bool) (k : List ℕ) (p : Option Node) (ms : Members) → has_colon k ≡ false → get_member k ms ≡ None
    → list_all f (requested (put_part k p ms)) ≡ (part_test f k p && list_all f (requested ms))
all-put_part f k None ms plain none = refl
all-put_part f k (Some t) ms plain none = all-put f k t ms plain none

-- the tests of the parts, and then that of the others
abbrev parts_test : (Capability → Bool) → Rows → List (Option Node) → Bool → Bool
parts_test f no_more ps others = others
parts_test f (row k need τ rs) [] others = others
parts_test f (row k need τ rs) (p ∷ ps) others = part_test f k p && parts_test f rs ps others

abbrev is_named : List (List ℕ) → List ℕ → Bool
is_named ks q = list_any (bytes_eq q) ks

all-joined : (f : Capability → Bool) (rs : Rows) (ps : List (Option Node)) (others : Members)
    → distinct (names_of rs) ≡ true → list_all (λ k. not (has_colon k)) (names_of rs) ≡ true
    → ((q : List ℕ) → is_named (names_of rs) q ≡ true → get_member q others ≡ None)
    → list_all f (requested (joined rs ps others)) ≡ parts_test f rs ps (list_all f (requested others))
all-joined f no_more ps others once plain none = refl
all-joined f (row k need τ rs) [] others once plain none = refl
all-joined f (row k need τ rs) (p ∷ ps) others once plain none =
    let d = not_first (is_named (names_of rs) k) (distinct (names_of rs)) once in
    let c = not_first (has_colon k) (list_all (λ l. not (has_colon l)) (names_of rs)) plain in
    all-put_part f k p (joined rs ps others) c.0 (at-joined_other rs ps others k d.0 ∙ none k (named_first (names_of rs) k))
    ∙ ap (λ b. part_test f k p && b) (all-joined f rs ps others d.1 c.1 (λ q y. none q (named_later k (names_of rs) q y)))

-- ---- further members

abbrev names : List (List ℕ)
names = codes "acceptInsecureCerts" ∷ codes "browserName" ∷ codes "browserVersion" ∷ codes "platformName" ∷ []

-- none of the four names stands among the members
abbrev AreAbsent : Members → Type 0
AreAbsent ms = (q : List ℕ) → is_named names q ≡ true → get_member q ms ≡ None

-- each name has a colon
abbrev have_colons : List Entry → Bool
have_colons es = list_all (λ e. has_colon (string_bytes e.0)) es

turned : (j k : List ℕ) (b c : Bool) → bytes_eq j k ≡ b → bytes_eq k j ≡ c → b ≡ c
turned j k true true e f = refl
turned j k false false e f = refl
turned j k true false e f = absurd (true≢false (sym ((bytes_eq-Decides k j).1 (sym ((bytes_eq-Decides j k).0 e))) ∙ f))
turned j k false true e f = absurd (true≢false (sym ((bytes_eq-Decides j k).1 (sym ((bytes_eq-Decides k j).0 f))) ∙ e))

bytes_eq-turned : (j k : List ℕ) → bytes_eq j k ≡ bytes_eq k j
bytes_eq-turned j k = turned j k (bytes_eq j k) (bytes_eq k j) refl refl

is_known-is_named : (k : List ℕ) (t : Node) → is_known (k, t) ≡ is_named names k
is_known-is_named k t =
    rw (
      bytes_eq-turned (codes "acceptInsecureCerts") k,
      bytes_eq-turned (codes "browserName") k,
      bytes_eq-turned (codes "browserVersion") k,
      bytes_eq-turned (codes "platformName") k,
    )

absent_later : (k : List ℕ) (t : Node) (ms : Members) → AreAbsent (member k t ms) → AreAbsent ms
absent_later k t ms none q y = later_none (slice_cmp nat_cmp q k) (get_member q ms) t (none q y)

first_unnamed : (k : List ℕ) (t : Node) (ms : Members) (b : Bool) → AreAbsent (member k t ms) → is_named names k ≡ b → b ≡ false
first_unnamed k t ms true none e =
    let found : get_member k (member k t ms) ≡ Some t = rw (same_text k) in
    let h : Some t ≡ None = sym found ∙ none k e in
    cc
first_unnamed k t ms false none e = refl

known_first : (k : List ℕ) (t : Node) (ms : Members) (c rest : Bool) → has_colon k ≡ c → AreAbsent (member k t ms) → list_all is_known (requested ms) ≡ rest
    → list_all is_known (requested (member k t ms)) ≡ (has_colon k && rest)
known_first k t ms true rest e none later = rw e later
known_first k t ms false rest e none later =
    let h : is_known (k, t) ≡ false = is_known-is_named k t ∙ first_unnamed k t ms (is_named names k) none refl in
    rw (e, h)

-- where none has one of the four names, they are known where each has a colon
known_others : (es : List Entry) → AreAbsent (members_node es) → list_all is_known (requested (members_node es)) ≡ have_colons es
known_others [] none = refl
known_others (e ∷ es) none =
    let k = string_bytes e.0 in
    known_first k (node e.1) (members_node es) (has_colon k) (have_colons es) refl none (known_others es (absent_later k (node e.1) (members_node es) none))

-- and then nothing is asked for in them
nothing_others : (es : List Entry) → have_colons es ≡ true → requested (members_node es) ≡ []
nothing_others [] e = refl
nothing_others (x ∷ es) e =
    let h = both (has_colon (string_bytes x.0)) (have_colons es) e in
    rw h.0 (nothing_others es h.1)

-- ---- one request

-- what it asks for
abbrev pub asked : CapabilityRequest → List Capability
asked r = requested_in (ghosts.shape.tree_of r)

-- the same of a request that may not be there
abbrev pub asked_if_any : Option CapabilityRequest → List Capability
asked_if_any o = requested_in (unwrap_or (option_map ghosts.shape.tree_of o) null)

abbrev word_tree : String Global → Node
word_tree s = text (string_bytes s)

-- its tree's members of the four names
abbrev parts_of : CapabilityRequest → List (Option Node)
parts_of r =
    option_map boolean r.accept_insecure_certs
    ∷ option_map word_tree r.browser_name ∷ option_map word_tree r.browser_version ∷ option_map word_tree r.platform_name ∷ []

absent_others : (r : CapabilityRequest) → ghosts.shape.well r → AreAbsent (others_of r.ext)
absent_others r w = unnamed names (others_of r.ext) w.1.no_known

all_asked : (f : Capability → Bool) (r : CapabilityRequest) → ghosts.shape.well r
    → list_all f (asked r) ≡ parts_test f (rows_in (term_of capability_request)) (parts_of r) (list_all f (requested (others_of r.ext)))
all_asked f r w = all-joined f (rows_in (term_of capability_request)) (parts_of r) (others_of r.ext) refl refl (absent_others r w)

known_part : (k : List ℕ) (p : Option Node) → is_named names k ≡ true → part_test is_known k p ≡ true
known_part k None e = refl
known_part k (Some t) e = is_known-is_named k t ∙ e

-- all that it asks for is known where each further name has a colon
pub known_asked : (r : CapabilityRequest) → ghosts.shape.well r → list_all is_known (asked r) ≡ have_colons r.ext.members.entries
known_asked r w =
    all_asked is_known r w ∙ rw (
      known_part (codes "acceptInsecureCerts") (option_map boolean r.accept_insecure_certs) refl,
      known_part (codes "browserName") (option_map word_tree r.browser_name) refl,
      known_part (codes "browserVersion") (option_map word_tree r.browser_version) refl,
      known_part (codes "platformName") (option_map word_tree r.platform_name) refl,
    ) (known_others r.ext.members.entries (absent_others r w))

nothing_else : (r : CapabilityRequest) → ghosts.shape.well r → list_all is_known (asked r) ≡ true → requested (others_of r.ext) ≡ []
nothing_else r w known = nothing_others r.ext.members.entries (sym (known_asked r w) ∙ known)

-- a text is none, or that one
abbrev is_none_or : Option (String Global) → List ℕ → Bool
is_none_or o s = unwrap_or (option_map (λ t. bytes_eq (string_bytes t) s) o) true

flag_met : (o : Option Bool) → part_test is_met (codes "acceptInsecureCerts") (option_map boolean o) ≡ unwrap_or (option_map not o) true
flag_met None = refl
flag_met (Some true) = refl
flag_met (Some false) = refl

word_met : (k s : List ℕ) (o : Option (String Global))
    → ((t : List ℕ) → is_met (k, text t) ≡ bytes_eq t s) → part_test is_met k (option_map word_tree o) ≡ is_none_or o s
word_met k s None same = refl
word_met k s (Some t) same = same (string_bytes t)

-- it is met where each of the four is, if it is asked for
pub met_asked : (r : CapabilityRequest) → ghosts.shape.well r → list_all is_known (asked r) ≡ true
    → list_all is_met (asked r) ≡ (((unwrap_or (option_map not r.accept_insecure_certs) true && is_none_or r.browser_name (codes "memory-browser"))
    && is_none_or r.browser_version (codes "1.0")) && is_none_or r.platform_name (codes "none"))
met_asked r w known =
    all_asked is_met r w ∙ rw (
      nothing_else r w known,
      flag_met r.accept_insecure_certs,
      word_met (codes "browserName") (codes "memory-browser") r.browser_name (λ t. refl),
      word_met (codes "browserVersion") (codes "1.0") r.browser_version (λ t. refl),
      word_met (codes "platformName") (codes "none") r.platform_name (λ t. refl),
    ) (and_left (unwrap_or (option_map not r.accept_insecure_certs) true) (is_none_or r.browser_name (codes "memory-browser"))
    (is_none_or r.browser_version (codes "1.0")) (is_none_or r.platform_name (codes "none")))

-- ---- two requests

-- another name than k is asked for
abbrev is_other : List ℕ → Capability → Bool
is_other k b = not (bytes_eq k b.0)

another : (k l : List ℕ) (p : Option Node) → bytes_eq k l ≡ false → part_test (is_other k) l p ≡ true
another k l None e = refl
another k l (Some t) e = rw e

the_same : {X : Type 0} (g : X → Node) (k : List ℕ) (o : Option X) → bytes_eq k k ≡ true → part_test (is_other k) k (option_map g o) ≡ not (is_some o)
the_same g k None e = refl
the_same g k (Some x) e = rw e

certs_absent : (r : CapabilityRequest) → ghosts.shape.well r → list_all is_known (asked r) ≡ true
    → list_all (is_other (codes "acceptInsecureCerts")) (asked r) ≡ not (is_some r.accept_insecure_certs)
certs_absent r w known =
    let k = codes "acceptInsecureCerts" in
    all_asked (is_other k) r w ∙ rw (
      nothing_else r w known,
      the_same boolean k r.accept_insecure_certs refl,
      another k (codes "browserName") (option_map word_tree r.browser_name) refl,
      another k (codes "browserVersion") (option_map word_tree r.browser_version) refl,
      another k (codes "platformName") (option_map word_tree r.platform_name) refl,
    ) (and_true (not (is_some r.accept_insecure_certs)))

name_absent : (r : CapabilityRequest) → ghosts.shape.well r
    → list_all is_known (asked r) ≡ true → list_all (is_other (codes "browserName")) (asked r) ≡ not (is_some r.browser_name)
name_absent r w known =
    let k = codes "browserName" in
    all_asked (is_other k) r w ∙ rw (
      nothing_else r w known,
      another k (codes "acceptInsecureCerts") (option_map boolean r.accept_insecure_certs) refl,
      the_same word_tree k r.browser_name refl,
      another k (codes "browserVersion") (option_map word_tree r.browser_version) refl,
      another k (codes "platformName") (option_map word_tree r.platform_name) refl,
    ) (and_true (not (is_some r.browser_name)))

version_absent : (r : CapabilityRequest) → ghosts.shape.well r
    → list_all is_known (asked r) ≡ true → list_all (is_other (codes "browserVersion")) (asked r) ≡ not (is_some r.browser_version)
version_absent r w known =
    let k = codes "browserVersion" in
    all_asked (is_other k) r w ∙ rw (
      nothing_else r w known,
      another k (codes "acceptInsecureCerts") (option_map boolean r.accept_insecure_certs) refl,
      another k (codes "browserName") (option_map word_tree r.browser_name) refl,
      the_same word_tree k r.browser_version refl,
      another k (codes "platformName") (option_map word_tree r.platform_name) refl,
    ) (and_true (not (is_some r.browser_version)))

platform_absent : (r : CapabilityRequest) → ghosts.shape.well r
    → list_all is_known (asked r) ≡ true → list_all (is_other (codes "platformName")) (asked r) ≡ not (is_some r.platform_name)
platform_absent r w known =
    let k = codes "platformName" in
    all_asked (is_other k) r w ∙ rw (
      nothing_else r w known,
      another k (codes "acceptInsecureCerts") (option_map boolean r.accept_insecure_certs) refl,
      another k (codes "browserName") (option_map word_tree r.browser_name) refl,
      another k (codes "browserVersion") (option_map word_tree r.browser_version) refl,
      the_same word_tree k r.platform_name refl,
    ) (and_true (not (is_some r.platform_name)))

in_one : {X : Type 0} (g : X → Node) (f : Capability → Bool) (k : List ℕ) (o : Option X) (b : Bool)
    → ((t : Node) → f (k, t) ≡ not b) → part_test f k (option_map g o) ≡ not (is_some o && b)
in_one g f k None b same = refl
in_one g f k (Some x) b same = same (g x)

-- they are apart where none of the four is asked for in both
pub apart_asked : (a r : CapabilityRequest)
    → ghosts.shape.well a → ghosts.shape.well r → list_all is_known (asked a) ≡ true → list_all is_known (asked r) ≡ true
    → are_apart (asked a) (asked r)
    ≡ (((not (is_some a.accept_insecure_certs && is_some r.accept_insecure_certs) && not (is_some a.browser_name && is_some r.browser_name))
    && not (is_some a.browser_version && is_some r.browser_version)) && not (is_some a.platform_name && is_some r.platform_name))
apart_asked a r v w known known_too =
    let f : Capability → Bool = λ x. not (list_any (λ b. bytes_eq x.0 b.0) (asked r)) in
    let none = λ (k : List ℕ). not_any (λ b. bytes_eq k b.0) (asked r) in
    all_asked f a v ∙ rw (
      nothing_else a v known,
      in_one boolean f (codes "acceptInsecureCerts") a.accept_insecure_certs (is_some r.accept_insecure_certs)
          (λ t. none (codes "acceptInsecureCerts") ∙ certs_absent r w known_too),
      in_one word_tree f (codes "browserName") a.browser_name (is_some r.browser_name) (λ t. none (codes "browserName") ∙ name_absent r w known_too),
      in_one word_tree f (codes "browserVersion") a.browser_version (is_some r.browser_version)
          (λ t. none (codes "browserVersion") ∙ version_absent r w known_too),
      in_one word_tree f (codes "platformName") a.platform_name (is_some r.platform_name) (λ t. none (codes "platformName") ∙ platform_absent r w known_too),
    ) (and_left (not (is_some a.accept_insecure_certs && is_some r.accept_insecure_certs)) (not (is_some a.browser_name && is_some r.browser_name))
    (not (is_some a.browser_version && is_some r.browser_version)) (not (is_some a.platform_name && is_some r.platform_name)))

-- ---- one empty entry

nothing_shared : (xs : List Capability) → are_apart xs [] ≡ true
nothing_shared [] = refl
nothing_shared (x ∷ xs) = nothing_shared xs

-- the checks with one empty entry
pub one_empty : (xs : List Capability) (known met : Bool) → list_all is_known xs ≡ known → list_all is_met xs ≡ met
    → matching (record { always = xs; entries = [] ∷ [] }) ≡ (if known then (if met then Ok tt else Err SessionNotCreated) else Err InvalidArgument)
one_empty xs true true e f = rw (e, nothing_shared xs, f)
one_empty xs true false e f = rw (e, nothing_shared xs, f)
one_empty xs false met e f = rw e

-- ---- the request of a command

each_asked : (rs : List CapabilityRequest) → map requested_in (items_in (items_of (map ghosts.shape.tree_of rs))) ≡ map asked rs
each_asked [] = refl
each_asked (r ∷ rs) = ap (λ xs. asked r ∷ xs) (each_asked rs)

-- the entries of a list of choices, if there is one
abbrev entries : Option (Vec CapabilityRequest) → List (List Capability)
entries None = [] ∷ []
entries (Some v) = map asked v.items

abbrev choices_tree : Option (Vec CapabilityRequest) → Option Node
choices_tree o = option_map (λ v. list_tree ghosts.shape.tree_of v.items) o

entries_asked : (o : Option (Vec CapabilityRequest))
    → map requested_in (unwrap_or (option_map items_in (option_and_then list_in (choices_tree o))) (null ∷ [])) ≡ entries o
entries_asked None = refl
entries_asked (Some v) = each_asked v.items

-- the request that asks for these
abbrev requests : Option CapabilityRequest → Option (Vec CapabilityRequest) → Request
requests always choices = record { always = asked_if_any always; entries = entries choices }

request_asked : (p : NewParameters) → whole.ghosts.shape.well p
    → request_of (whole.ghosts.shape.tree_of p) ≡ requests p.capabilities.always_match p.capabilities.first_match
request_asked p w =
    let always = option_map ghosts.shape.tree_of p.capabilities.always_match in
    let choices = choices_tree p.capabilities.first_match in
    let rs = rows_in (term_of capabilities_request) in
    let others = others_of p.capabilities.ext in
    let at = PartsAt-joined rs (always ∷ choices ∷ []) others refl tt (unnamed (names_of rs) others w.0.0.1.no_known) in
    ap (λ o. request_in (unwrap_or o null)) (get_member-put (codes "capabilities") (inner.ghosts.shape.tree_of p.capabilities) (others_of p.ext))
    ∙ rw (at.0, at.1.0, entries_asked p.capabilities.first_match)

-- the checks of params, by the list of choices that they have
pub matching_asked : (p : NewParameters) (choices : Option (Vec CapabilityRequest)) → whole.ghosts.shape.well p → p.capabilities.first_match ≡ choices
    → matching (request_of (whole.ghosts.shape.tree_of p)) ≡ matching (requests p.capabilities.always_match choices)
matching_asked p choices w is = ap matching (request_asked p w) ∙ ap (λ o. matching (requests p.capabilities.always_match o)) is
