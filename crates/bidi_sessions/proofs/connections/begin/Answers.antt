use Rattle.std.proofs.Common.{◌≡◌, ◌∙◌, ◌<◌, false, length, map, set, refl, sym, ap, arith}
use Rattle.std.specs.Prelude.{◌==◌}
use Rattle.std.proofs.lemmas.Bool.Decides.{nat_tests}
use Rattle.std.proofs.lemmas.List.{map-set, length-map}
use Rattle.std.proofs.Math.ListN.{get_or-map}
use Rattle.bidi_sessions.specs.Attachment.{SpeaksFor}
use Rattle.bidi_sessions.specs.ConnectionRows.{row_of, begun}
use Rattle.bidi_sessions.proofs.BeginLemmas.{over-all, over-next, begun-same, begun-other}
use Rattle.bidi_sessions.proofs.connections.begin.Goals.{then-connection-number, else-connection-number}
use Rattle.bidi_sessions.proofs.connections.begin.Goals as goal

pub loop-connection-init : goal.loop-connection-init
loop-connection-init c = refl

pub loop-connection-preserved : goal.loop-connection-preserved
loop-connection-preserved c =
    let n = c.args.number.value in
    let s = c.args.session in
    let i = c.loop-connection.connection-index in
    let items = c.loop-connection.connections in
    let x = c.connection-item.result in
    let rows = map row_of c.args.connections.now in
    let long = length-map c.args.connections.now row_of in
    let less : i < length rows = let a = c.loop-connection-test.true in omega (arith, a, long) in
    let at = get_or-map row_of items i x ∙ ap row_of (sym c.connection-item.is) in
    let changed = sym (over-next (begun n s) i rows (map row_of items) (row_of x) less c.loop-connection.invariant at) in
    elim c.if-connection-number.branch [
      | then-connection-number w ↦
          ap (map row_of) w.connections-is ∙ (map-set row_of items i _
          ∙ (ap (set (map row_of items) i) (ap (λ z. (z.number.value, SpeaksFor s)) (sym c.connection-item.is)
          ∙ sym (begun-same n s (row_of x) (ap (λ z. z.number.value) c.connection-item.is ∙ w.if-connection-number.true))) ∙ changed))
      | else-connection-number w ↦
          let other : (x.number.value == n) ≡ false = let apart = w.if-connection-number.false in
          let is = ap (λ z. z.number.value) c.connection-item.is in grind (arith, nat_tests, apart, is) in
          ap (map row_of) w.connections-is ∙ (map-set row_of items i _
          ∙ (ap (set (map row_of items) i) (ap row_of (sym c.connection-item.is) ∙ sym (begun-other n s (row_of x) other)) ∙ changed))
    ]

pub returns : goal.returns
returns c =
    let long = length-map c.args.connections.now row_of in
    c.loop-connection.invariant ∙ over-all (begun c.args.number.value c.args.session) c.loop-connection.connection-index
    (map row_of c.args.connections.now) (let all = c.loop-connection-test.false in omega (arith, all, long))
