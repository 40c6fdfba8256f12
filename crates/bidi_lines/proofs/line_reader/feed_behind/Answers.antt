use Rattle.std.proofs.Common.{◌≡◌, ℕ, ◌-◌, List, length, take, drop, ◌∙◌, ap}
use Rattle.std.specs.Prelude.{position, ◌==◌}
use Rattle.bidi_lines.proofs.FeedLemmas.{feed_behind_none, feed_behind_some, rest_whole}
use Rattle.bidi_lines.proofs.ResultLemmas.{on_none}
use Rattle.bidi_lines.proofs.line_reader.feed_behind.Goals as goal

-- the search is for the first line feed of the rest
in_rest : (bs : List ℕ) (n : ℕ) → position (λ b. b == 10) (take (length bs - n) (drop n bs)) ≡ position (λ b. b == 10) (drop n bs)
in_rest bs n = ap (position (λ b. b == 10)) (rest_whole bs n)

pub returns-in_err-i-clause-none : goal.returns-in_err-i-clause-none
returns-in_err-i-clause-none c =
    on_none c.from_residual.result _
    (feed_behind_none c.args.bytes.now c.args.seen c.requires.none_seen (c.in_err-i.ensures ∙ in_rest c.args.bytes.now c.args.seen))

pub returns-clause-some : goal.returns-clause-some
returns-clause-some c =
    (feed_behind_some c.args.bytes.now c.args.seen c.in_ok-i.i c.requires.none_seen (c.in_ok-i.ensures ∙ in_rest c.args.bytes.now c.args.seen)).0

pub returns-clause-line : goal.returns-clause-line
returns-clause-line c =
    (feed_behind_some c.args.bytes.now c.args.seen c.in_ok-i.i c.requires.none_seen (c.in_ok-i.ensures ∙ in_rest c.args.bytes.now c.args.seen)).1
