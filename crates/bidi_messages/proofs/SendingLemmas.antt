-- A message that a remote end sends may be written, and its tree fits the rule of messages.
use Rattle.std.proofs.Common.{◌≡◌, ◌∙◌, ◌≤◌, ◌⊎◌, inl, inr, ℕ, nat_le, nat_eq, Bool, true, false, true≢false}
use Rattle.std.proofs.Common.{bytes_eq, List, [], ◌∷◌, codes, Option, Some, None, option_map, Result, Ok, Err}
use Rattle.std.proofs.Common.{IfOk, String, Global, string_bytes, refl, sym, ap, ap₂, subst, zero-le, arith, ◌++◌, append_assoc}
use Rattle.std.specs.Prelude.{decimal}
use Rattle.std.proofs.lemmas.Bool.{leb-true}
use Rattle.json.specs.Print.{escape, escape_byte}
use Rattle.bidi_tree.specs.Node.{Node, Members, no_members, member, put, map, text, levels, IsSound, IsWhole, IsWritable, MembersAreWhole}
use Rattle.bidi_tree.specs.Text.{tree_of, compact_text}
use Rattle.bidi_tree.specs.declared.number.JsUint.{JsUint}
use Rattle.bidi_tree.proofs.MemberLemmas.{get_member-put}
use Rattle.bidi_tree.proofs.RoundTrip.{tree_of-compact_text}
use Rattle.bidi_shape.specs.Name.{Name, message, error_response, command_response, error_code}
use Rattle.bidi_shape.specs.Term as term
use Rattle.bidi_shape.specs.Term.{Rows, Openness, required, optional, extensible, exactly, null, js_uint, map_of, either, no_more, row, rule, names_of}
use Rattle.bidi_shape.specs.Profile.{term_of}
use Rattle.bidi_shape.specs.Fits.{Fits, fits_exactly, fits_text, fits_null, fits_js_uint, fits_map, fits_first, fits_second, fits_rule, no_row, without}
use Rattle.bidi_shape.specs.MapLaws.{apart}
use Rattle.bidi_shape.specs.ValueLaws.{others_of}
use Rattle.bidi_shape.specs.WholeLaws.{whole_within}
use Rattle.bidi_shape.specs.Table.{TableWell}
use Rattle.bidi_shape.specs.WordLaws.{word_fits}
use Rattle.bidi_shape.specs.Value.{ShapeOf}
use Rattle.bidi_shape.specs.declared.ext.Ext.{Ext}
use Rattle.bidi_shape.proofs.FitsLemmas.{exactly_kind, map_kind, map_inside, RowFits, row_inside, row_fits, either_inside, rule_inside}
use Rattle.bidi_methods.specs.Method.{result_of}
use Rattle.bidi_params.specs.ErrorCode.{error_code_text, error_code_words}
use Rattle.bidi_methods.specs.EventData.{event_of}
use Rattle.bidi_methods.specs.EventName.{event_name_text}
use Rattle.bidi_messages.specs.Reading.{IsEvent, IsMessageText}
use Rattle.bidi_messages.specs.Message.{id_tree, response_tree, error_tree, event_tree, event_text as told_text}
use Rattle.bidi_methods.specs.declared.event_data.EventName.{EventName}
use Rattle.bidi_methods.specs.declared.event_data.EventName.TheVariants.{ContextCreated, ContextDestroyed, NavigationStarted, DomContentLoaded, Load, RealmCreated, RealmDestroyed, EntryAdded}
use Rattle.bidi_methods.specs.declared.method.Method.{Method}
use Rattle.bidi_methods.specs.declared.method.Method.TheVariants.{ScriptEvaluate, ScriptCallFunction}
use Rattle.bidi_params.specs.declared.error_code.ErrorCode.{ErrorCode}
use Rattle.bidi_params.specs.declared.error_code.ErrorCode.TheVariants.{InvalidArgument, InvalidSelector, InvalidSessionId, MoveTargetOutOfBounds, NoSuchAlert, NoSuchElement, NoSuchFrame, NoSuchHandle, NoSuchHistoryEntry, NoSuchIntercept, NoSuchNode, NoSuchRequest, NoSuchScript, NoSuchStoragePartition, NoSuchUserContext, SessionNotCreated, UnableToCaptureScreen, UnableToCloseBrowser, UnableToSetCookie, UnableToSetFileInput, UnknownCommand, UnknownError, UnsupportedOperation}
use Rattle.bidi_methods.specs.declared.event_data.EventData.{EventData}
use Rattle.bidi_messages.specs.declared.message.Message.{Message}
use Rattle.bidi_messages.specs.declared.message.Message.TheVariants.{Event as AsEvent}
use Rattle.bidi_methods.specs.contracts.event_data.EventDataPayloadEventName.TheImpl as told
use Rattle.bidi_messages.specs.contracts.message.MessageShape.TheImpl as sent

-- the compact text of a tree that fits the rule of messages is one that a remote end sends
pub is_text : {E : Type 0} (shape : ShapeOf Message) (t : Node) → Fits t (rule message)
    → ((e : EventName) (params : Node) → compact_text t ≡ told_text e params → (m : Message) × shape.well m × IsEvent m × (shape.tree_of m ≡ t))
    → (r : Result (String Global) E) → IfOk r (λ s. string_bytes s ≡ compact_text t)
    → IfOk r (λ s. tree_of (string_bytes s) ≡ Some t) → IfOk r (λ s. IsMessageText shape (string_bytes s))
is_text shape t fits event (Ok s) written back = (t, fits, written, back, λ e params same. event e params (sym written ∙ same))
is_text shape t fits event (Err e) written back = tt

-- the third letter of the text is that one
has_third : ℕ → List ℕ → Bool
has_third n (a ∷ b ∷ c ∷ s) = nat_eq n c
has_third n s = false

-- a response begins with its id, and an event with its method
pub no_event-response : (id : ℕ) (result : Node) (e : EventName) (params : Node) → compact_text (response_tree id result) ≡ told_text e params → ⊥
unfolding has_third escape_byte
no_event-response id result e params same = true≢false (ap (has_third 105) same)

-- an error begins with its code
pub no_event-error : (id : Option ℕ) (code : ErrorCode) (e : EventName) (params : Node) → compact_text (error_tree id code) ≡ told_text e params → ⊥
unfolding has_third escape_byte
no_event-error id code e params same = true≢false (ap (has_third 101) same)

-- the tree of a well message may be written
pub writable : (shape : ShapeOf Message) → nat_le shape.deepest 100 ≡ true → (m : Message) (t : Node) → shape.well m → t ≡ shape.tree_of m → IsWritable t
writable shape shallow m t well is =
    subst IsWritable (sym is) (whole_within (shape.tree_of m) shape.deepest 100 (leb-true shape.deepest 100 shallow) (shape.whole m well))

-- so may that of a response with a result of few levels
pub response_writable : (id : ℕ) (r : Node) (n : ℕ) → IsWhole r n → levels r ≤ 61 → IsWritable (response_tree id r)
response_writable id r n w small = (rw w.0 refl, omega arith)

-- and that of an error
pub error_writable : (id : Option ℕ) (code : ErrorCode) → IsWritable (error_tree id code)
error_writable None code = (refl, omega arith)
error_writable (Some n) code = (refl, omega arith)

-- ---- results are maps

one_of_maps : {t : Node} {rs ss : Rows} {o p : Openness} → Fits t (map_of rs o) ⊎ Fits t (map_of ss p) → (ms : Members) × (t ≡ map ms)
one_of_maps (inl f) = map_kind f
one_of_maps (inr f) = map_kind f

-- a tree that fits the rule of a method's result is an object
result_is_map : (k : Method) (t : Node) → Fits t (rule (result_of k)) → (ms : Members) × (t ≡ map ms)
result_is_map ScriptEvaluate t fit = one_of_maps (either_inside (rule_inside fit))
result_is_map ScriptCallFunction t fit = one_of_maps (either_inside (rule_inside fit))
result_is_map k t fit = map_kind (rule_inside fit)

-- ---- the messages that are sent fit the rule of messages

-- the members of a map of few levels
inside : (ms : Members) (n : ℕ) → IsWhole (map ms) n → levels (map ms) ≤ 61 → MembersAreWhole ms 60
inside ms n w small = (w.0, omega arith)

-- no name takes no member
without-none : (ms : Members) → without [] ms ≡ ms
without-none no_members = refl
without-none (member k t ms) = ap (member k t) (without-none ms)

-- a response with a result of few levels
pub response_fits : (id : JsUint) (k : Method) (r : Node) (n : ℕ) → Fits r (rule (result_of k))
    → IsWhole r n → levels r ≤ 61 → Fits (response_tree id.value r) (rule message)
response_fits id k r n fit w small =
    let (ms, is) = result_is_map k r fit in
    let members = inside ms n (subst (λ u. IsWhole u n) is w) (subst (λ u. levels u ≤ 61) is small) in
    let result : Fits (map ms) (map_of no_more extensible) =
    fits_map ms no_more extensible (no_row ms) (subst (λ x. MembersAreWhole x 60) (sym (without-none ms)) members) in
    fits_rule _ message (fits_first _ _ _ (fits_rule _ command_response (fits_map _ _ extensible
    (row_fits _ (codes "type") required (exactly (codes "success")) _ (fits_exactly (codes "success"))
    (row_fits _ (codes "id") required js_uint _ (fits_js_uint id.value id.in_range)
    (row_fits _ (codes "result") required (map_of no_more extensible) no_more (subst (λ u. Fits u (map_of no_more extensible)) (sym is) result) (no_row _))))
    (refl, zero-le))))

-- an id, or null
id_fits : (id : Option JsUint) → Fits (id_tree (option_map (λ n. n.value) id)) (either js_uint null)
id_fits None = fits_second _ js_uint null fits_null
id_fits (Some n) = fits_first _ js_uint null (fits_js_uint n.value n.in_range)

-- an error
pub error_fits : (id : Option JsUint) (code : ErrorCode) → Fits (error_tree (option_map (λ n. n.value) id) code) (rule message)
error_fits id code =
    fits_rule _ message (fits_second _ _ _ (fits_first _ _ _ (fits_rule _ error_response (fits_map _ _ extensible
    (row_fits _ (codes "type") required (exactly (codes "error")) _ (fits_exactly (codes "error"))
    (row_fits _ (codes "id") required (either js_uint null) _ (id_fits id)
    (row_fits _ (codes "error") required (rule error_code) _ (word_fits error_code_words code)
    (row_fits _ (codes "message") required term.text _ (fits_text (error_code_text code))
    (row_fits _ (codes "stacktrace") optional term.text no_more tt (no_row _))))))
    (refl, zero-le)))))

-- ---- a response around the text of its result

-- five pieces, pushed one after another
appended : (s0 s1 s2 s3 s4 s5 a d b r e : List ℕ) → s0 ≡ [] → s1 ≡ s0 ++ a → s2 ≡ s1 ++ d → s3 ≡ s2 ++ b → s4 ≡ s3 ++ r → s5 ≡ s4 ++ e
    → s5 ≡ a ++ (d ++ (b ++ (r ++ e)))
appended s0 s1 s2 s3 s4 s5 a d b r e e0 e1 e2 e3 e4 e5 =
    e5
    ∙ (ap (λ x. x ++ e) (e4 ∙ ap (λ x. x ++ r) (e3 ∙ ap (λ x. x ++ b) (e2 ∙ ap (λ x. x ++ d) (e1 ∙ ap (λ x. x ++ a) e0))))
    ∙ (append_assoc ((a ++ d) ++ b) r e ∙ (append_assoc (a ++ d) b (r ++ e) ∙ append_assoc a d (b ++ (r ++ e)))))

pub around-text : (s0 s1 s2 s3 s4 s5 d r : List ℕ) (id : ℕ) (t : Node) → s0 ≡ [] → s1 ≡ s0 ++ codes "{\"id\":" → s2 ≡ s1 ++ d
    → s3 ≡ s2 ++ codes ",\"result\":" → s4 ≡ s3 ++ r → s5 ≡ s4 ++ codes ",\"type\":\"success\"}"
    → d ≡ decimal id → r ≡ compact_text t → s5 ≡ compact_text (response_tree id t)
unfolding escape_byte
around-text s0 s1 s2 s3 s4 s5 d r id t e0 e1 e2 e3 e4 e5 digits result =
    appended s0 s1 s2 s3 s4 s5 _ d _ r _ e0 e1 e2 e3 e4 e5
    ∙ ap₂ (λ x y. codes "{\"id\":" ++ (x ++ (codes ",\"result\":" ++ (y ++ codes ",\"type\":\"success\"}")))) digits result

-- it reads back if its result does
pub around-back : (s : List ℕ) (id : JsUint) (t : Node) → s ≡ compact_text (response_tree id.value t) → IsSound t → IsWhole t 61
    → tree_of s ≡ Some (response_tree id.value t)
around-back s id t is sound whole =
    let fits : IsSound (response_tree id.value t) = (((refl, (refl, tt)), ((refl, tt), (tt, tt))), (id.in_range, (sound, (tt, tt)))) in
    ap tree_of is ∙ tree_of-compact_text (response_tree id.value t) fits (response_writable id.value t 61 whole whole.1)

-- ---- an error

-- no code has a byte that is escaped
plain : (code : ErrorCode) → escape (error_code_text code) ≡ error_code_text code
unfolding escape_byte
plain InvalidArgument = refl
plain InvalidSelector = refl
plain InvalidSessionId = refl
plain MoveTargetOutOfBounds = refl
plain NoSuchAlert = refl
plain NoSuchElement = refl
plain NoSuchFrame = refl
plain NoSuchHandle = refl
plain NoSuchHistoryEntry = refl
plain NoSuchIntercept = refl
plain NoSuchNode = refl
plain NoSuchRequest = refl
plain NoSuchScript = refl
plain NoSuchStoragePartition = refl
plain NoSuchUserContext = refl
plain SessionNotCreated = refl
plain UnableToCaptureScreen = refl
plain UnableToCloseBrowser = refl
plain UnableToSetCookie = refl
plain UnableToSetFileInput = refl
plain UnknownCommand = refl
plain UnknownError = refl
plain UnsupportedOperation = refl

-- the text of an error, by what stands for the code between its quotes, and by the text of its id
abbrev written : (n i : List ℕ) → List ℕ
written n i =
    codes "{\"error\":\"" ++ ((n ++ 34 ∷ []) ++ (codes ",\"id\":" ++ (i ++ (codes ",\"message\":\"" ++ ((n ++ 34 ∷ []) ++ codes ",\"type\":\"error\"}")))))

-- seven pieces, pushed one after another
seven : (s0 s1 s2 s3 s4 s5 s6 s7 n i : List ℕ) → s0 ≡ [] → s1 ≡ s0 ++ codes "{\"error\":\"" → s2 ≡ s1 ++ n → s3 ≡ s2 ++ codes "\",\"id\":" → s4 ≡ s3 ++ i
    → s5 ≡ s4 ++ codes ",\"message\":\"" → s6 ≡ s5 ++ n → s7 ≡ s6 ++ codes "\",\"type\":\"error\"}" → s7 ≡ written n i
seven s0 s1 s2 s3 s4 s5 s6 s7 n i e0 e1 e2 e3 e4 e5 e6 e7 =
    let a = codes "{\"error\":\"" in
    let b = codes "\",\"id\":" in
    let c = codes ",\"message\":\"" in
    let d = codes "\",\"type\":\"error\"}" in
    let w = n ++ d in
    let five = appended s0 s1 s2 s3 s4 s5 a n b i c e0 e1 e2 e3 e4 e5 in
    let last : s7 ≡ s5 ++ w = e7 ∙ (ap (λ x. x ++ d) e6 ∙ append_assoc s5 n d) in
    let flat : (a ++ (n ++ (b ++ (i ++ c)))) ++ w ≡ a ++ (n ++ (b ++ (i ++ (c ++ w)))) =
    append_assoc a (n ++ (b ++ (i ++ c))) w
    ∙ ap (λ x. a ++ x) (append_assoc n (b ++ (i ++ c)) w ∙ ap (λ x. n ++ x) (append_assoc b (i ++ c) w ∙ ap (λ x. b ++ x) (append_assoc i c w))) in
    let inner : w ≡ (n ++ 34 ∷ []) ++ codes ",\"type\":\"error\"}" = sym (append_assoc n (34 ∷ []) (codes ",\"type\":\"error\"}")) in
    let outer : n ++ (b ++ (i ++ (c ++ w))) ≡ (n ++ 34 ∷ []) ++ (codes ",\"id\":" ++ (i ++ (c ++ w))) =
    sym (append_assoc n (34 ∷ []) (codes ",\"id\":" ++ (i ++ (c ++ w)))) in
    last ∙ (ap (λ x. x ++ w) five ∙ (flat ∙ (ap (λ x. a ++ x) outer
    ∙ ap (λ x. a ++ ((n ++ 34 ∷ []) ++ (codes ",\"id\":" ++ (i ++ (c ++ x))))) inner)))

pub error-text : (s0 s1 s2 s3 s4 s5 s6 s7 n i : List ℕ) (id : Option ℕ) (code : ErrorCode) → s0 ≡ [] → s1 ≡ s0 ++ codes "{\"error\":\"" → s2 ≡ s1 ++ n
    → s3 ≡ s2 ++ codes "\",\"id\":" → s4 ≡ s3 ++ i → s5 ≡ s4 ++ codes ",\"message\":\"" → s6 ≡ s5 ++ n → s7 ≡ s6 ++ codes "\",\"type\":\"error\"}"
    → n ≡ error_code_text code → i ≡ compact_text (id_tree id) → s7 ≡ compact_text (error_tree id code)
unfolding escape_byte
error-text s0 s1 s2 s3 s4 s5 s6 s7 n i id code e0 e1 e2 e3 e4 e5 e6 e7 name number =
    seven s0 s1 s2 s3 s4 s5 s6 s7 n i e0 e1 e2 e3 e4 e5 e6 e7 ∙ ap₂ written (name ∙ sym (plain code)) number

id_sound : (id : Option JsUint) → IsSound (id_tree (option_map (λ n. n.value) id))
id_sound None = tt
id_sound (Some n) = n.in_range

-- it reads back
pub error-back : (s : List ℕ) (id : Option JsUint) (code : ErrorCode) → s ≡ compact_text (error_tree (option_map (λ n. n.value) id) code)
    → tree_of s ≡ Some (error_tree (option_map (λ n. n.value) id) code)
error-back s id code is =
    let number = option_map (λ (n : JsUint). n.value) id in
    let fits : IsSound (error_tree number code) = (((refl, (refl, (refl, tt))), ((refl, (refl, tt)), ((refl, tt), (tt, tt)))), (tt, (id_sound id, (tt, (tt, tt))))) in
    ap tree_of is ∙ tree_of-compact_text (error_tree number code) fits (error_writable number code)

-- ---- an event

-- no name of an event has a byte that is escaped
plain-name : (e : EventName) → escape (event_name_text e) ≡ event_name_text e
unfolding escape_byte
plain-name ContextCreated = refl
plain-name ContextDestroyed = refl
plain-name NavigationStarted = refl
plain-name DomContentLoaded = refl
plain-name Load = refl
plain-name RealmCreated = refl
plain-name RealmDestroyed = refl
plain-name EntryAdded = refl

pub event-text : (s0 s1 s2 s3 s4 s5 n p : List ℕ) (e : EventName) (t : Node) → s0 ≡ [] → s1 ≡ s0 ++ codes "{\"method\":\"" → s2 ≡ s1 ++ n
    → s3 ≡ s2 ++ codes "\",\"params\":" → s4 ≡ s3 ++ p → s5 ≡ s4 ++ codes ",\"type\":\"event\"}"
    → n ≡ event_name_text e → p ≡ compact_text t → s5 ≡ compact_text (event_tree e t)
unfolding escape_byte
event-text s0 s1 s2 s3 s4 s5 n p e t e0 e1 e2 e3 e4 e5 name params =
    appended s0 s1 s2 s3 s4 s5 _ n _ p _ e0 e1 e2 e3 e4 e5
    ∙ (ap (λ x. codes "{\"method\":\"" ++ x) (sym (append_assoc n (34 ∷ []) (codes ",\"params\":" ++ (p ++ codes ",\"type\":\"event\"}"))))
    ∙ ap₂ (λ x y. codes "{\"method\":\"" ++ ((x ++ 34 ∷ []) ++ (codes ",\"params\":" ++ (y ++ codes ",\"type\":\"event\"}")))) (name ∙ sym (plain-name e)) params)

-- it reads back
pub event-back : (s : List ℕ) (e : EventName) (t : Node) → s ≡ compact_text (event_tree e t) → IsSound t → IsWritable (event_tree e t)
    → tree_of s ≡ Some (event_tree e t)
event-back s e t is sound fits =
    let all : IsSound (event_tree e t) = (((refl, (refl, tt)), ((refl, tt), (tt, tt))), (tt, (sound, (tt, tt)))) in
    ap tree_of is ∙ tree_of-compact_text (event_tree e t) all fits

-- ---- maps of one type are none of another

type_is : (o : Option Node) (s : List ℕ) → RowFits required (exactly s) o → o ≡ Some (text s)
type_is (Some t) s fit = ap Some (exactly_kind fit)
type_is None s fit = absurd fit

-- a map with one type does not fit a rule that asks for another
other_type : (n : Name) (s u : List ℕ) (rs : Rows) (o : Openness) (ms : Members)
    → term_of n ≡ map_of (row (codes "type") required (exactly s) rs) o → bytes_eq u s ≡ false
    → Fits (map (put (codes "type") (text u) ms)) (rule n) → ⊥
other_type n s u rs o ms of differ fit =
    let rows = map_inside (subst (Fits (map (put (codes "type") (text u) ms))) of (rule_inside fit)) in
    let there = sym (get_member-put (codes "type") (text u) ms) ∙ type_is _ s (row_inside rows.0).0 in
    let same : u ≡ s = cc there in
    apart u s differ same

-- ---- valid messages with only the members that their rules name

-- there are no further members
none_beside : (rs : Rows) (ms : Members) → ms ≡ no_members → TableWell rs extensible ms
none_beside rs ms none = record { no_known = ap (without (names_of rs)) none ∙ sym none; may = subst (λ x. MembersAreWhole x 60) (sym none) (refl, zero-le) }

abbrev pub an_event : EventData → Ext → Message
an_event d e = AsEvent (record { «data» = d; ext = e })

abbrev after_event : EventData → Ext → Members
after_event d e = put (codes "method") (text (event_name_text (event_of d))) (put (codes "params") (told.ghosts.payload.tree_of d) (others_of e))

-- its tree is that of its name and params
pub event-is : (d : EventData) (e : Ext) → others_of e ≡ no_members
    → event_tree (event_of d) (told.ghosts.payload.tree_of d) ≡ sent.ghosts.shape.tree_of (an_event d e)
event-is d e none = rw none refl

pub event_well : (d : EventData) (e : Ext) → told.ghosts.payload.well d → others_of e ≡ no_members → sent.ghosts.shape.well (an_event d e)
event_well d e well none = (
  (
    record { head = tt; payload = well; others = none_beside _ (others_of e) none },
    other_type error_response (codes "error") (codes "event") _ _ (after_event d e) refl refl,
  ),
  other_type command_response (codes "success") (codes "event") _ _ (after_event d e) refl refl,
)
