use Rattle.bidi_remote.specs.Machine.Outcome.{deeds}
use Rattle.bidi_remote.proofs.state.State.take_turn.Goals as goal

pub returns-clause-ok : goal.returns-clause-ok
returns-clause-ok c = λ h i act short a is made messages.
    (c.in_ok-sent.ensures.told (deeds h) act a, c.in_ok-sent.ensures.reads_back messages, c.apply.ensures h i act short (c.make_room.ensures.kept h a) is made)

pub returns-clause-reads : goal.returns-clause-reads
returns-clause-reads c = c.in_ok-sent.ensures.reads
