-- The reason that a reason of the code stands for, told or looked for.
use Rattle.std.specs.Prelude.{Bool, true, false, List, [], ◌∷◌, Option, Some, None, map, option_map}
use Rattle.bidi_tree.specs.Outline.{outline_node}
use Rattle.bidi_shape.specs.Term.{Term}
use Rattle.bidi_rules.specs.Grammar.{grammar, one_of}
use Rattle.bidi_rules.specs.Names.{name_of}
use Rattle.bidi_blame.specs.Reason as told
use Rattle.bidi_blame.specs.declared.draft.Draft.{Draft}
use Rattle.bidi_blame.specs.declared.few.Few.{Few}
use Rattle.bidi_blame.specs.declared.few.Few.TheVariants.{Nothing, One, Many}
use Rattle.bidi_blame.specs.declared.reason.PathStep.{PathStep}
use Rattle.bidi_blame.specs.declared.reason.PathStep.TheVariants.{Member, Item}
use Rattle.bidi_blame.specs.declared.reason.Want.{Want}
use Rattle.bidi_blame.specs.declared.reason.Reason.{Reason}

-- a step of the code
abbrev pub step_of : PathStep → told.PathStep
step_of (Member name) = told.member name.now
step_of (Item i) = told.item i

-- what the code says may be at a place: one of these rules
abbrev pub want_of : Want → Term
want_of w = one_of (grammar w.first.now) (map grammar w.rest.now)

-- a reason of the code
abbrev pub reason_of : Reason → told.Reason
reason_of r = record {
  steps = map step_of r.steps.items;
  wants = map want_of r.wants.items;
  found = option_map (λ t. outline_node t.now) r.found;
  named = option_map name_of r.named;
  tags = r.tags;
}

-- the values of a short list, in its order
abbrev pub listed : {X : Type 0} → Few X → List X
listed Nothing = []
listed (One x) = x ∷ []
listed (Many xs) = xs.items

-- a reason that the code is still looking for
abbrev pub draft_of : Draft → told.Reason
draft_of r = record {
  steps = map step_of (listed r.steps);
  wants = map want_of (listed r.wants);
  found = option_map (λ t. outline_node t.now) r.found;
  named = option_map name_of r.named;
  tags = r.tags;
}

-- the reason that a draft has where a tree does not fit
abbrev pub reason_if : Bool → Draft → Option told.Reason
reason_if true r = None
reason_if false r = Some (draft_of r)
