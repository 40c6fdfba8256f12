use Rattle.std.proofs.Common.{◌∙◌, List, Vec, Global, map, string_bytes, sym, ap, ap₂, subst}
use Rattle.std.specs.Prelude.{option_map}
use Rattle.bidi_browser.specs.Asked.{arguments_asked}
use Rattle.bidi_handles.specs.Handles.{handles_seen, held_among}
use Rattle.bidi_contexts.specs.Realms.{realm_of}
use Rattle.bidi_browser.specs.Runs.{IsEnding}
use Rattle.bidi_handles.specs.declared.argument.Argument.{Argument}
use Rattle.bidi_handles.specs.Resolves.{stands_for, this_argument}
use Rattle.bidi_handles.specs.Values.{arguments}
use Rattle.bidi_handles.specs.ValuesInHand.{local_tree}
use Rattle.bidi_browser.proofs.CallLemmas.{arguments-refuse, this-refuses, call-ends, gives-code, passes-code}
use Rattle.bidi_browser.proofs.calling.called.Goals as goal

pub returns-in_err-arguments : goal.returns-in_err-arguments
returns-in_err-arguments c = λ past k stands at.
    let asked = arguments_asked c.args.params.now in
    let here = ap₂ arguments (ap held_among (c.handles-held.ensures ∙ ap (λ r. r.handles) at)) c.arguments_of-values.ensures in
    arguments-refuse c.from_residual.result c.in_err-arguments.field-0.0 past (realm_of past k)
    (string_bytes c.args.params.now.function_declaration) asked (option_map local_tree c.args.params.now.this) c.from_residual.ensures.1
    (λ code is. sym here ∙ gives-code (λ (all : Vec Argument Global). map stands_for all.items) c.in_err-arguments.field-0.0
    (arguments (held_among (handles_seen c.handles-held.result.now)) (map local_tree c.arguments_of-values.result.now)) c.in_err-arguments.ensures code is)

pub returns-in_err-check_this : goal.returns-in_err-check_this
returns-in_err-check_this c = λ past k stands at.
    let asked = arguments_asked c.args.params.now in
    let here = ap₂ arguments (ap held_among (c.handles-held.ensures ∙ ap (λ r. r.handles) at)) c.arguments_of-values.ensures in
    let own = option_map local_tree c.args.params.now.this in
    this-refuses c.from_residual-in_err-check_this.result c.in_err-check_this.field-0.0 past (realm_of past k)
    (string_bytes c.args.params.now.function_declaration) asked (map stands_for c.in_ok-arguments.arguments.items) own
    (sym here ∙ c.in_ok-arguments.ensures) c.from_residual-in_err-check_this.ensures.1
    (λ code is. sym (ap (λ held. this_argument held own) (ap held_among (c.handles-held.ensures ∙ ap (λ r. r.handles) at)))
    ∙ passes-code c.in_err-check_this.field-0.0 (this_argument (held_among (handles_seen c.handles-held.result.now)) own) c.in_err-check_this.ensures code is)

pub returns : goal.returns
returns c = λ past k stands at.
    let asked = arguments_asked c.args.params.now in
    let here = ap₂ arguments (ap held_among (c.handles-held.ensures ∙ ap (λ r. r.handles) at)) c.arguments_of-values.ensures in
    let own = option_map local_tree c.args.params.now.this in
    let taken = c.in_ok-check_this.ensures in
    let script = string_bytes c.args.params.now.function_declaration in
    call-ends c.ending_of.result past (realm_of past k) script asked (map stands_for c.in_ok-arguments.arguments.items) own taken.0
    (sym here ∙ c.in_ok-arguments.ensures) (sym (ap (λ held. this_argument held own) (ap held_among (c.handles-held.ensures ∙ ap (λ r. r.handles) at))) ∙ taken.1)
    (subst (λ (all : List Argument). IsEnding c.ending_of.result past script (map stands_for all)) c.deref.ensures.value (c.ending_of.ensures past stands))
