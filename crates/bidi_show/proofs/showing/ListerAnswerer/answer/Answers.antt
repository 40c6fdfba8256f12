use Rattle.std.proofs.Common.{ℕ, Bool, ◌||◌, not, ◌==◌, refl, ◌∙◌, ap, string_bytes}
use Rattle.bidi_show.proofs.ListingLemmas.{listed_more}
use Rattle.bidi_show.proofs.showing.ListerAnswerer.answer.Goals as goal

pub returns-clause-ok : goal.returns-clause-ok
returns-clause-ok c first lines text p counted =
    let before = c.args.self.now in
    let written = c.in_ok-text.text in
    let empty = c.is_empty.ensures ∙ ap (λ (n : ℕ). n == 0) written.bytes.ok.0 in
    listed_more first before _ lines c.args.line.now text (string_bytes written) c.into_bytes.result.items c.args.number p counted
    (ap (λ v. v.items) c.into_bytes.ensures.value) refl refl c.in_ok-text.ensures (ap (λ (b : Bool). before.has_written || not b) empty)
