-- What a loaded grammar says.
use Rattle.std.specs.Prelude.{◌≡◌, ◌<◌, ◌↔◌, ⊤, ℕ, List, map, length, Option, All, IfSome, IsSome, IsNone, string_bytes}
use Rattle.std.specs.List.{AllZip}
use Rattle.json.specs.Json.{Json}
use Rattle.bidi_grammar.specs.Term.{term_at}
use Rattle.bidi_grammar.specs.Fits.{Fits}
use Rattle.bidi_grammar.specs.Source.{FitsWritten, name}
use Rattle.bidi_grammar.specs.View.{table}
use Rattle.bidi_grammar.specs.declared.term.Term as code_term
use Rattle.bidi_cddl.specs.declared.written.Body.{Body}
use Rattle.bidi_cddl.specs.declared.written.Body.TheVariants as body
use Rattle.bidi_cddl.specs.declared.written.Rule.{Rule}
use Rattle.bidi_cddl.specs.declared.written.Written as code
use Rattle.bidi_cddl.specs.Definition.{rule_of}
use Rattle.bidi_cddl.specs.Reading.{IsRead}
use Rattle.bidi_cddl.specs.Steps.{nodes_of}
use Rattle.bidi_loader.specs.declared.draft.Origin.{Origin}
use Rattle.bidi_loader.specs.declared.named.Loaded.{Loaded}
use Rattle.bidi_loader.specs.declared.named.Named.{Named}
use Rattle.bidi_loader.specs.declared.reading.Reading.{Reading}
use Rattle.bidi_loader.specs.Meaning.{rules_of}
use Rattle.bidi_loader.specs.Readings.{source_at}
use Rattle.bidi_grammar.specs.Source.{of_type}

-- the place of a rule, if it has one, is in the table
abbrev pub IsThere : List code_term.Term → Named → Type 0
IsThere terms named = IfSome named.place (λ n. n < length terms)

-- a value fits the term at a rule's place exactly if it fits the rule as it is written
abbrev pub Says : code.Written → List code_term.Term → Named → Type 0
Says w terms named = IfSome named.place (λ n. (t : Json) → Fits (table terms) t (term_at (table terms) n) ↔ FitsWritten (rules_of w) t (name (string_bytes named.name)))

-- a type has a place, and a group has none; `( x )` has one if x is a type
abbrev pub HasKind : Body → Option ℕ → Type 0
HasKind (body.Type i) place = IsSome place
HasKind (body.Group i) place = IsNone place
HasKind (body.Either i j) place = ⊤

-- the rule is listed by its name, with a place if it is a type
abbrev pub IsListed : Rule → Named → Type 0
IsListed rule named = (rule.name.now ≡ string_bytes named.name) × HasKind rule.body named.place

-- the rules that are written are all listed, in order
abbrev pub HasRules : code.Written → Loaded → Type 0
HasRules w loaded = AllZip IsListed w.rules.items loaded.rules.items

-- the rule is listed, and the place, if there is one, was made of it
abbrev pub IsNamed : code.Written → Reading → List Origin → Rule → Named → Type 0
IsNamed w reading origins rule named = IsListed rule named
    × IfSome named.place (λ n. (n < length origins) × (source_at w reading origins n ≡ of_type (name rule.name.now)))

-- the text is read as rules, which are all listed, and a value fits the term at a rule's place exactly if it fits the rule
abbrev pub IsLoaded : List ℕ → Loaded → Type 0
IsLoaded text loaded = (w : code.Written) × (IsRead text (nodes_of w.nodes.items) (map rule_of w.rules.items)
    × (HasRules w loaded × All (Says w loaded.terms.items) loaded.rules.items))
