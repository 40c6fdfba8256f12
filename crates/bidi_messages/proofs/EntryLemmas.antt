-- Log entries of the console that are written straight: their texts, and that their trees are sound.
use Rattle.std.specs.Prelude.{decimal, OnOk, IfSome, ◌||◌}
use Rattle.std.proofs.Common.{◌≡◌, ◌∙◌, ◌++◌, ℕ, Bool, true, false, List, ◌∷◌, [], Option, Some, None, Result, Ok, Err, String, Global, pos, codes, refl, sym, ap, ap₂, subst, arith, string_bytes}
use Rattle.json.specs.Print.{escape, escape_byte}
use Rattle.bidi_tree.specs.Node.{Node, no_members, member, map, text, whole, has_odd, IsSound, IsWritable}
use Rattle.bidi_tree.specs.Text.{compact_text}
use Rattle.bidi_tree.proofs.PartLemmas.{behind}
use Rattle.bidi_shape.specs.ListLaws.{list_tree}
use Rattle.bidi_values.specs.Content.{content}
use Rattle.bidi_values.specs.NestedLaws.{nested_shape}
use Rattle.bidi_values.specs.contracts.remote_value.RemotePlainNestsRemoteListRemotePairs.TheImpl as remote
use Rattle.bidi_scripts.specs.Level.{level_text}
use Rattle.bidi_scripts.specs.declared.log_entry.ConsoleEntry.{ConsoleEntry}
use Rattle.bidi_scripts.specs.declared.log_entry.Level.{Level}
use Rattle.bidi_scripts.specs.declared.log_entry.Level.TheVariants.{Debug, Info, Warn, Error}
use Rattle.bidi_scripts.specs.declared.log_entry.Source.{Source}
use Rattle.bidi_scripts.specs.contracts.log_entry.ConsoleEntryShape.TheImpl as entries
use Rattle.bidi_scripts.specs.contracts.log_entry.SourceShape.TheImpl as sources
use Rattle.bidi_messages.proofs.StraightLemmas.{closed, nullable, nullable-sound}

-- what the console was given
abbrev args_of : ConsoleEntry → Node
args_of v = list_tree (nested_shape remote.ghosts.nesting content).tree_of v.args.items

-- the tree of an entry without a stack trace
abbrev tree_with : ConsoleEntry → Node
tree_with v =
    map (member (codes "args") (args_of v) (member (codes "level") (text (level_text v.base.level)) (member (codes "method") (text (string_bytes v.method))
    (member (codes "source") (sources.ghosts.shape.tree_of v.base.source) (member (codes "text") (nullable v.base.text)
    (member (codes "timestamp") (whole (pos v.base.timestamp.value)) (member (codes "type") (text (codes "console")) no_members)))))))

entry-is : (v : ConsoleEntry) → v.base.stack_trace ≡ None → entries.ghosts.shape.tree_of v ≡ tree_with v
entry-is v none = rw none refl

-- ---- a source

source-is : (v : Source) (c : String Global) → v.context ≡ Some c → codes "{\"context\":\"" ++ ((escape (string_bytes c) ++ 34 ∷ []) ++ (codes ",\"realm\":\""
    ++ ((escape (string_bytes v.realm) ++ 34 ∷ []) ++ codes "}"))) ≡ compact_text (sources.ghosts.shape.tree_of v)
unfolding escape_byte
source-is v c is = rw is refl

pub source-text : (v : Source) (c : String Global) (context realm : List ℕ) → v.context ≡ Some c → context ≡ string_bytes c → realm ≡ string_bytes v.realm
    → IfSome v.context (λ t. escape (string_bytes t) ≡ string_bytes t) → escape (string_bytes v.realm) ≡ string_bytes v.realm
    → codes "{\"context\":\"" ++ (context ++ (codes "\",\"realm\":\"" ++ (realm ++ codes "\"}"))) ≡ compact_text (sources.ghosts.shape.tree_of v)
source-text v c context realm is own number plain plain_realm =
    ap₂ (λ x y. codes "{\"context\":\"" ++ (x ++ (codes "\",\"realm\":\"" ++ (y ++ codes "\"}")))) own number
    ∙ (ap (λ x. codes "{\"context\":\"" ++ (string_bytes c ++ 34 ∷ x)) (closed (codes ",\"realm\":\"") (string_bytes v.realm) (codes "}") plain_realm)
    ∙ (closed (codes "{\"context\":\"") (string_bytes c) (codes ",\"realm\":\"" ++ ((escape (string_bytes v.realm) ++ 34 ∷ []) ++ codes "}"))
    (subst (λ o. IfSome o (λ t. escape (string_bytes t) ≡ string_bytes t)) is plain) ∙ source-is v c is))

lone-is : (v : Source) → v.context ≡ None → codes "{\"realm\":\"" ++ ((escape (string_bytes v.realm) ++ 34 ∷ []) ++ codes "}")
    ≡ compact_text (sources.ghosts.shape.tree_of v)
unfolding escape_byte
lone-is v is = rw is refl

pub lone-text : (v : Source) (realm : List ℕ) → v.context ≡ None → realm ≡ string_bytes v.realm → escape (string_bytes v.realm) ≡ string_bytes v.realm
    → codes "{\"realm\":\"" ++ (realm ++ codes "\"}") ≡ compact_text (sources.ghosts.shape.tree_of v)
lone-text v realm is number plain =
    ap (λ x. codes "{\"realm\":\"" ++ (x ++ codes "\"}")) number
    ∙ (closed (codes "{\"realm\":\"") (string_bytes v.realm) (codes "}") plain ∙ lone-is v is)

source-sound : (v : Source) (o : Option (String Global)) → v.context ≡ o → IsSound (sources.ghosts.shape.tree_of v)
source-sound v (Some c) is = rw is (((refl, tt), (tt, tt)), (tt, (tt, tt)))
source-sound v None is = rw is ((tt, tt), (tt, tt))

-- what is written if it is the same in other words
pub on-same : {E : Type 0} (r : Result (Unit {0}) E) (s0 s1 x y : List ℕ) → x ≡ y → OnOk r (s1 ≡ s0 ++ x) → OnOk r (s1 ≡ s0 ++ y)
on-same (Ok u) s0 s1 x y same is = is ∙ ap (λ z. s0 ++ z) same
on-same (Err e) s0 s1 x y same is = tt

-- three parts, pushed one after another, and five
pub three : (s0 s1 s2 s3 a b c : List ℕ) → s1 ≡ s0 ++ a → s2 ≡ s1 ++ b → s3 ≡ s2 ++ c → s3 ≡ s0 ++ (a ++ (b ++ c))
three s0 s1 s2 s3 a b c e1 e2 e3 = behind s0 a (b ++ c) e1 (behind s1 b c e2 e3)

pub five : (s0 s1 s2 s3 s4 s5 a b c d e : List ℕ) → s1 ≡ s0 ++ a → s2 ≡ s1 ++ b → s3 ≡ s2 ++ c → s4 ≡ s3 ++ d → s5 ≡ s4 ++ e
    → s5 ≡ s0 ++ (a ++ (b ++ (c ++ (d ++ e))))
five s0 s1 s2 s3 s4 s5 a b c d e e1 e2 e3 e4 e5 = behind s0 a _ e1 (behind s1 b _ e2 (three s2 s3 s4 s5 c d e e3 e4 e5))

-- ---- an entry

-- no level has a byte that is escaped
plain-level : (l : Level) → escape (level_text l) ≡ level_text l
unfolding escape_byte
plain-level Debug = refl
plain-level Info = refl
plain-level Warn = refl
plain-level Error = refl

-- what stands behind the method
abbrev later : ConsoleEntry → List ℕ
later v =
    codes ",\"source\":" ++ (compact_text (sources.ghosts.shape.tree_of v.base.source) ++ (codes ",\"text\":" ++ (compact_text (nullable v.base.text)
    ++ (codes ",\"timestamp\":" ++ (decimal v.base.timestamp.value ++ codes ",\"type\":\"console\"}")))))

form : (v : ConsoleEntry) → codes "{\"args\":" ++ (compact_text (args_of v) ++ (codes ",\"level\":\"" ++ ((escape (level_text v.base.level) ++ 34 ∷ [])
    ++ (codes ",\"method\":\"" ++ ((escape (string_bytes v.method) ++ 34 ∷ []) ++ later v))))) ≡ compact_text (tree_with v)
unfolding escape_byte
form v = refl

pub entry-text : (v : ConsoleEntry) (s0 s1 s2 s3 s4 s5 s6 s7 s8 s9 s10 s11 s12 s13 l m d : List ℕ) (args : Node) → v.base.stack_trace ≡ None
    → escape (string_bytes v.method) ≡ string_bytes v.method → s1 ≡ s0 ++ codes "{\"args\":" → s2 ≡ s1 ++ compact_text args
    → s3 ≡ s2 ++ codes ",\"level\":\"" → s4 ≡ s3 ++ l → s5 ≡ s4 ++ codes "\",\"method\":\"" → s6 ≡ s5 ++ m → s7 ≡ s6 ++ codes "\",\"source\":"
    → s8 ≡ s7 ++ compact_text (sources.ghosts.shape.tree_of v.base.source) → s9 ≡ s8 ++ codes ",\"text\":" → s10 ≡ s9 ++ compact_text (nullable v.base.text)
    → s11 ≡ s10 ++ codes ",\"timestamp\":" → s12 ≡ s11 ++ d → s13 ≡ s12 ++ codes ",\"type\":\"console\"}"
    → args ≡ args_of v → l ≡ level_text v.base.level → m ≡ string_bytes v.method → d ≡ decimal v.base.timestamp.value
    → s13 ≡ s0 ++ compact_text (entries.ghosts.shape.tree_of v)
entry-text v s0 s1 s2 s3 s4 s5 s6 s7 s8 s9 s10 s11 s12 s13 l m d args none plain e1 e2 e3 e4 e5 e6 e7 e8 e9 e10 e11 e12 e13 given level method digits =
    let lv = level_text v.base.level in
    let own = string_bytes v.method in
    let end = codes ",\"type\":\"console\"}" in
    let tail : s13 ≡ s6 ++ 34 ∷ later v =
    behind s6 (codes "\",\"source\":") _ e7 (five s7 s8 s9 s10 s11 s13 (compact_text (sources.ghosts.shape.tree_of v.base.source)) (codes ",\"text\":")
    (compact_text (nullable v.base.text)) (codes ",\"timestamp\":") (decimal v.base.timestamp.value ++ end) e8 e9 e10 e11
    (behind s11 (decimal v.base.timestamp.value) end (e12 ∙ ap (λ x. s11 ++ x) digits) e13)) in
    let middle : s13 ≡ s2 ++ (codes ",\"level\":\"" ++ (lv ++ 34 ∷ (codes ",\"method\":\"" ++ (own ++ 34 ∷ later v)))) =
    five s2 s3 s4 s5 s6 s13 (codes ",\"level\":\"") lv (codes "\",\"method\":\"") own (34 ∷ later v) e3 (e4 ∙ ap (λ x. s3 ++ x) level) e5 (e6 ∙ ap (λ x. s5 ++ x) method) tail in
    let all = three s0 s1 s2 s13 (codes "{\"args\":") (compact_text (args_of v)) _ e1 (e2 ∙ ap (λ t. s1 ++ compact_text t) given) middle in
    all ∙ ap (λ x. s0 ++ x) (ap (λ x. codes "{\"args\":" ++ (compact_text (args_of v) ++ x))
    (ap (λ x. codes ",\"level\":\"" ++ (lv ++ 34 ∷ x)) (closed (codes ",\"method\":\"") own (later v) plain)
    ∙ closed (codes ",\"level\":\"") lv (codes ",\"method\":\"" ++ ((escape own ++ 34 ∷ []) ++ later v)) (plain-level v.base.level))
    ∙ (form v ∙ ap compact_text (sym (entry-is v none))))

pub entry-sound : (v : ConsoleEntry) (args : Node) → v.base.stack_trace ≡ None → args ≡ args_of v → IsSound args → IsSound (entries.ghosts.shape.tree_of v)
entry-sound v args none given sound = subst IsSound (sym (entry-is v none)) (
  (
    (refl, (refl, (refl, (refl, (refl, (refl, tt)))))),
    (
      (refl, (refl, (refl, (refl, (refl, tt))))),
      ((refl, (refl, (refl, (refl, tt)))), ((refl, (refl, (refl, tt))), ((refl, (refl, tt)), ((refl, tt), (tt, tt))))),
    ),
  ),
  (
    subst IsSound given sound,
    (tt, (tt, (source-sound v.base.source v.base.source.context refl, (nullable-sound v.base.text, (v.base.timestamp.in_range, (tt, tt)))))),
  ),
)

first-false : (a b : Bool) → a || b ≡ false → a ≡ false
first-false true b is = absurd (cc)
first-false false b is = refl

-- what the console was given may be written if the entry may
pub args-writable : (v : ConsoleEntry) (args : Node) → v.base.stack_trace ≡ None → args ≡ args_of v → IsWritable (entries.ghosts.shape.tree_of v) → IsWritable args
args-writable v args none given may =
    let whole_tree : IsWritable (tree_with v) = subst IsWritable (entry-is v none) may in
    let few = whole_tree.1 in
    subst IsWritable (sym given) (first-false (has_odd (args_of v)) _ whole_tree.0, omega (arith, few))
