use Rattle.std.proofs.Common.{◌≡◌, ◌++◌, codes}
use Rattle.bidi_ledger.specs.Steps.{sending_of}
use Rattle.bidi_methods.specs.contracts.command_data.CommandDataPayloadMethod.TheImpl as asks
use Rattle.bidi_lines.proofs.ResultLemmas.{if_none_at, if_some_at}
use Rattle.bidi_pair_lines.proofs.WordLemmas.{if_none_in, link_first, sending_is, sends_at}
use Rattle.bidi_pair_lines.proofs.pair_lines.read_sending.Goals as goal

pub returns-in_default-clause-none : goal.returns-in_default-clause-none
returns-in_default-clause-none c l d well says =
    link_first c.args.rest.now (sending_of d).method says.0 l.value (λ xs ys. ⊥) c.in_default.ensures.first l.in_range says.1

pub returns-in_default-method_and_params-clause-none : goal.returns-in_default-method_and_params-clause-none
returns-in_default-method_and_params-clause-none c l d well says =
    let found = link_first c.args.rest.now (sending_of d).method says.0 l.value (λ xs ys. (c.in-Some.number.now ≡ xs) × (c.in-Some.command.now ≡ ys))
    c.in-Some.ensures.first l.in_range says.1 in
    c.in_default-method_and_params.ensures.none (asks.ghosts.payload.kind d) says.0 found.1

pub returns-in-None-clause-none : goal.returns-in-None-clause-none
returns-in-None-clause-none c l d well says =
    let found = link_first c.args.rest.now (sending_of d).method says.0 l.value (λ xs ys. (c.in-Some.number.now ≡ xs) × (c.in-Some.command.now ≡ ys))
    c.in-Some.ensures.first l.in_range says.1 in
    if_none_at c.read_number.result _ c.read_number.ensures.none c.in-None.is l.value l.in_range found.0

pub returns-in-Some-read_number-clause-none : goal.returns-in-Some-read_number-clause-none
returns-in-Some-read_number-clause-none c =
    let link = c.in-Some-read_number.link in
    let method = c.in-Some-method_and_params.method in
    let params = c.in-Some-method_and_params.params.now in
    let number = if_some_at c.read_number.result link _ c.read_number.ensures.some c.in-Some-read_number.is in
    let is = sending_is c.args.rest.now c.in-Some.number.now c.in-Some.command.now params link.value method c.in-Some.ensures.some number
    c.in-Some-method_and_params.ensures.some in
    if_none_in c.read_command.result _ _ (λ none l d well says. none d well (sends_at (codes "send " ++ c.args.rest.now) params method l link d is says))
    c.read_command.ensures.none
