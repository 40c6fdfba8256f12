use Rattle.std.proofs.Common.{◌∙◌, sym, ap, ap₂}
use Rattle.std.specs.Prelude.{not, filter}
use Rattle.bidi_names.specs.Names.{is_foreign, is_module}
use Rattle.bidi_names.specs.Asked.{text_without}
use Rattle.bidi_names.specs.View.{texts_of, ids_seen}
use Rattle.bidi_names.proofs.AskLemmas.{same-wanted}
use Rattle.bidi_names.proofs.asking.wanted_of_names.Goals as goal

pub returns : goal.returns
returns c =
    let known = texts_of c.args.known.now in
    let names = texts_of c.args.names.now in
    let foreign = c.in_ok-foreign.ensures.foreign in
    let others = c.in_ok-foreign.ensures.others in
    let command = c.args.command.now in
    same-wanted _ _ _ _ _ _ _ _ _ _ _ foreign others
    (c.in_ok-modules.ensures ∙ ap (λ ns. filter (is_module known) ns) (ap texts_of c.deref.ensures.value ∙ others))
    (c.in_ok-part.ensures
    ∙ ap₂ (λ f o. text_without command.id.value command.method.now f o (ids_seen c.args.contexts) (ids_seen c.args.users))
    (ap texts_of c.deref-2.ensures.value ∙ foreign) (ap texts_of c.deref-3.ensures.value ∙ others))
