use Rattle.std.proofs.Common.{sym, subst}
use Rattle.bidi_handles.specs.Showing.{BeginsWithType}
use Rattle.bidi_handles.proofs.ShowingLemmas.{list-unnamed, pairs-unnamed, plain_tree, remote-list, remote-pairs, remote-plain}
use Rattle.bidi_handles.proofs.showing.is_unnamed.Goals as goal

pub returns-in-List-clause-unnamed : goal.returns-in-List-clause-unnamed
returns-in-List-clause-unnamed c = λ yes. list-unnamed c.args.value.now c.in-List.siblings c.in-List.field-1 c.in-List.is (c.are_absent.ensures yes)

pub returns-in-List-clause-handled : goal.returns-in-List-clause-handled
returns-in-List-clause-handled c = λ id sound takes. remote-list c.args.value.now c.in-List.siblings c.in-List.field-1 c.in-List.is id sound

pub returns-in-Pairs-clause-unnamed : goal.returns-in-Pairs-clause-unnamed
returns-in-Pairs-clause-unnamed c = λ yes. pairs-unnamed c.args.value.now c.in-Pairs.siblings c.in-Pairs.field-1 c.in-Pairs.is (c.are_absent-in-Pairs.ensures yes)

pub returns-in-Pairs-clause-handled : goal.returns-in-Pairs-clause-handled
returns-in-Pairs-clause-handled c = λ id sound takes. remote-pairs c.args.value.now c.in-Pairs.siblings c.in-Pairs.field-1 c.in-Pairs.is id sound

pub returns-in-Plain-clause-unnamed : goal.returns-in-Plain-clause-unnamed
returns-in-Plain-clause-unnamed c = λ yes. subst BeginsWithType (sym (plain_tree c.args.value.now c.in-Plain.plain c.in-Plain.is)) (c.is_plain_unnamed.ensures yes)

pub returns-in-Plain-clause-handled : goal.returns-in-Plain-clause-handled
returns-in-Plain-clause-handled c = λ id sound takes. remote-plain c.args.value.now c.in-Plain.plain c.in-Plain.is id sound takes
