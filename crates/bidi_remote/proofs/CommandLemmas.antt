-- Each tree that fits the rule of commands asks something.
use Rattle.std.proofs.Common.{◌≡◌, ℕ, List, [], ◌∷◌, Option, Some, None, refl, sym, subst, ap, ◌∙◌, inl, inr}
use Rattle.std.specs.Prelude.{codes, ⊤, unwrap_or, option_and_then}
use Rattle.bidi_tree.specs.Node.{Node, null, get_member}
use Rattle.bidi_tree.specs.Kind.{text_in}
use Rattle.bidi_shape.specs.Name.{command}
use Rattle.bidi_shape.specs.Term.{required, exactly, rule}
use Rattle.bidi_shape.specs.Profile.{CommandRow, command_map, one_of_commands, session_status_row, further_commands}
use Rattle.bidi_shape.specs.Fits.{Fits}
use Rattle.bidi_shape.proofs.FitsLemmas.{exactly_kind, map_kind, map_inside, RowFits, row_inside, either_inside, rule_inside}
use Rattle.bidi_handles.specs.Params.{text_at, tree_if_at}
use Rattle.bidi_remote.specs.Machine.Commands.{Command, command_in, command_of}

-- a required member of one text is read as that text
text-required : (o : Option Node) (s : List ℕ) → RowFits required (exactly s) o → unwrap_or (option_and_then text_in o) [] ≡ s
text-required None s fits = absurd fits
text-required (Some t) s fits = ap (λ u. unwrap_or (text_in u) []) (exactly_kind fits)

-- the method of a command is the text of its row
method-of_row : (c : CommandRow) (t : Node) → Fits t (command_map c) → text_at "method" t ≡ codes c.method
method-of_row c t fits =
    let (ms, same) = map_kind fits in
    let rows = (map_inside (subst (λ u. Fits u (command_map c)) same fits)).0 in
    let method = (row_inside (row_inside rows).1).0 in
    ap (text_at "method") same ∙ text-required (get_member (codes "method") ms) (codes c.method) method

-- a command of this method asks something, whatever its params
abbrev Asks : List ℕ → Type 0
Asks method = (params : Node) → (x : Command) × (command_in method params ≡ Some x)

-- so does each of these
abbrev AllAsk : List CommandRow → Type 0
AllAsk [] = ⊤
AllAsk (c ∷ cs) = Asks (codes c.method) × AllAsk cs

all_ask : AllAsk (session_status_row ∷ further_commands)
all_ask = (
  (λ p. (_, refl)),
  (
    (λ p. (_, refl)),
    (
      (λ p. (_, refl)),
      (
        (λ p. (_, refl)),
        (
          (λ p. (_, refl)),
          (
            (λ p. (_, refl)),
            (
              (λ p. (_, refl)),
              (
                (λ p. (_, refl)),
                (
                  (λ p. (_, refl)),
                  (
                    (λ p. (_, refl)),
                    (
                      (λ p. (_, refl)),
                      (
                        (λ p. (_, refl)),
                        (
                          (λ p. (_, refl)),
                          (
                            (λ p. (_, refl)),
                            (
                              (λ p. (_, refl)),
                              ((λ p. (_, refl)), ((λ p. (_, refl)), ((λ p. (_, refl)), ((λ p. (_, refl)), tt)))),
                            ),
                          ),
                        ),
                      ),
                    ),
                  ),
                ),
              ),
            ),
          ),
        ),
      ),
    ),
  ),
)

-- what a tree asks that fits the map of one command, and of one of several
asks-map : (c : CommandRow) (t : Node) → Asks (codes c.method) → Fits t (command_map c) → (x : Command) × (command_of t ≡ Some x)
asks-map c t ask fits =
    let params = unwrap_or (tree_if_at "params" t) null in
    subst (λ m. (x : Command) × (command_in m params ≡ Some x)) (sym (method-of_row c t fits)) (ask params)

asks-one_of : (c : CommandRow) (cs : List CommandRow) (t : Node) → AllAsk (c ∷ cs) → Fits t (one_of_commands c cs) → (x : Command) × (command_of t ≡ Some x)
asks-one_of c [] t ask fits = asks-map c t ask.0 fits
asks-one_of c (d ∷ cs) t ask fits = elim (either_inside fits) [ inl here ↦ asks-map c t ask.0 here | inr later ↦ asks-one_of d cs t ask.1 later ]

pub command_asks : (t : Node) → Fits t (rule command) → (x : Command) × (command_of t ≡ Some x)
command_asks t fits = asks-one_of session_status_row further_commands t all_ask (rule_inside fits)
