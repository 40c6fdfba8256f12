use Rattle.std.proofs.Common.{◌≡◌, ◌∙◌, ◌<◌, ℕ, true, false, length, map, set, refl, sym, ap, arith}
use Rattle.std.specs.Prelude.{◌==◌}
use Rattle.std.proofs.lemmas.Bool.Decides.{nat_tests}
use Rattle.std.proofs.lemmas.List.{map-set, length-map}
use Rattle.std.proofs.Math.ListN.{get_or-map}
use Rattle.bidi_sessions.proofs.BeginLemmas.{over-all, over-next}
use Rattle.bidi_scripted.specs.Script.{Held, lost_on}
use Rattle.bidi_scripted.specs.View.{held_of}
use Rattle.bidi_scripted.proofs.script.lose.Goals.{then-command-conn, else-command-conn}
use Rattle.bidi_scripted.proofs.script.lose.Goals as goal

-- a command of that connection is lost, and any other is as it was
lost_same : (n : ℕ) (h : Held) → h.conn ≡ n → lost_on n h ≡ record h { is_lost = true }
lost_same n h e = grind (arith, nat_tests, e)

lost_other : (n : ℕ) (h : Held) → (h.conn == n) ≡ false → lost_on n h ≡ h
lost_other n h e = rw e refl

pub loop-command-init : goal.loop-command-init
loop-command-init c = refl

pub loop-command-preserved : goal.loop-command-preserved
loop-command-preserved c =
    let n = c.args.conn.value in
    let i = c.loop-command.command-index in
    let items = c.loop-command.held in
    let x = c.command-item.result in
    let rows = map held_of c.args.held.now in
    let long = length-map c.args.held.now held_of in
    let less : i < length rows = let a = c.loop-command-test.true in omega (arith, a, long) in
    let at = get_or-map held_of items i x ∙ ap held_of (sym c.command-item.is) in
    let changed = sym (over-next (lost_on n) i rows (map held_of items) (held_of x) less c.loop-command.invariant at) in
    elim c.if-command-conn.branch [
      | then-command-conn w ↦
          ap (map held_of) w.held-is ∙ (map-set held_of items i _
          ∙ (ap (set (map held_of items) i) (ap (λ z. record (held_of z) { is_lost = true }) (sym c.command-item.is)
          ∙ sym (lost_same n (held_of x) (ap (λ z. z.conn.value) c.command-item.is ∙ w.if-command-conn.true))) ∙ changed))
      | else-command-conn w ↦
          let other : (x.conn.value == n) ≡ false = let apart = w.if-command-conn.false in
          let is = ap (λ z. z.conn.value) c.command-item.is in grind (arith, nat_tests, apart, is) in
          ap (map held_of) w.held-is ∙ (map-set held_of items i _
          ∙ (ap (set (map held_of items) i) (ap held_of (sym c.command-item.is) ∙ sym (lost_other n (held_of x) other)) ∙ changed))
    ]

pub returns : goal.returns
returns c =
    let long = length-map c.args.held.now held_of in
    c.loop-command.invariant ∙ over-all (lost_on c.args.conn.value) c.loop-command.command-index
    (map held_of c.args.held.now) (let all = c.loop-command-test.false in omega (arith, all, long))
