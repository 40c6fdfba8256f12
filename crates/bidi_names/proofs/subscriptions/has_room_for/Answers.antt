use Rattle.bidi_names.proofs.SubscriptionLemmas.{room-left, no-room}
use Rattle.bidi_names.proofs.subscriptions.has_room_for.Goals as goal

pub returns-in-Some : goal.returns-in-Some
returns-in-Some c = room-left c.args.session c.args.subscriptions.now c.in-Some.left c.args.more c.in-Some.ensures

pub returns-in-None : goal.returns-in-None
returns-in-None c = no-room c.args.session c.args.subscriptions.now c.args.more c.in-None.ensures
