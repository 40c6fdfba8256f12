use Rattle.std.proofs.Common.{◌≡◌, length, vec_len, string_bytes, ◌∙◌, arith}
use Rattle.std.specs.Prelude.{option_map}
use Rattle.bidi_lenient.specs.Eased.{with_reports}
use Rattle.bidi_lenient.proofs.ReportLemmas.{some-reports}
use Rattle.bidi_lenient.proofs.easing.ease_with.Goals as goal

pub returns-clause-eased : goal.returns-clause-eased
returns-clause-eased c =
    let reports = c.in_ok-reports.reports in
    let n : vec_len reports ≡ length reports.items = omega arith in
    some-reports (option_map string_bytes c.in_ok-text.text) reports.items (vec_len reports) n c.if-is_empty.ensures
    ∙ (λ i. with_reports (c.in_ok-text.ensures.text i) (c.in_ok-reports.ensures i))
