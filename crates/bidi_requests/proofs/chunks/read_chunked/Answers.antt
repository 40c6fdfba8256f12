use Rattle.std.proofs.Common.{◌≡◌, ◌∙◌, ap, subst, take}
use Rattle.std.proofs.lemmas.List.{take_min}
use Rattle.bidi_requests.specs.Bodies.{IsReadAs, deciding, most_framed}
use Rattle.bidi_requests.proofs.BodyLemmas.{long-first, part-first, refused-first, whole-first}
use Rattle.bidi_requests.proofs.chunks.read_chunked.Goals as goal

pub returns-in-Part : goal.returns-in-Part
returns-in-Part c =
    let first : c.split_at.result.0.now ≡ deciding c.args.bytes.now = c.split_at.ensures.front ∙ ap (λ n. take n c.args.bytes.now) c.min.ensures ∙ take_min most_framed c.args.bytes.now in
    part-first c.args.bytes.now c.split_at.result.0.now first c.if-bytes-lt-MOST_FRAMED.true (subst (IsReadAs c.split_at.result.0.now) c.in-Part.is c.in_ok-read_all.ensures)

pub returns-in-Part-2 : goal.returns-in-Part-2
returns-in-Part-2 c =
    let first : c.split_at.result.0.now ≡ deciding c.args.bytes.now = c.split_at.ensures.front ∙ ap (λ n. take n c.args.bytes.now) c.min.ensures ∙ take_min most_framed c.args.bytes.now in
    long-first c.args.bytes.now c.split_at.result.0.now first c.if-bytes-lt-MOST_FRAMED.false (subst (IsReadAs c.split_at.result.0.now) c.in-Part-2.is c.in_ok-read_all.ensures)

pub returns-in-Whole : goal.returns-in-Whole
returns-in-Whole c =
    let first : c.split_at.result.0.now ≡ deciding c.args.bytes.now = c.split_at.ensures.front ∙ ap (λ n. take n c.args.bytes.now) c.min.ensures ∙ take_min most_framed c.args.bytes.now in
    let read = subst (IsReadAs c.split_at.result.0.now) c.in-Whole.is c.in_ok-read_all.ensures in
    let whole = whole-first c.args.bytes.now c.split_at.result.0.now first c.in-Whole.body.items c.in-Whole.length read.0 read.1 in
    ((whole.0, whole.1, read.2), whole.2)

pub returns-in-Refused : goal.returns-in-Refused
returns-in-Refused c =
    let first : c.split_at.result.0.now ≡ deciding c.args.bytes.now = c.split_at.ensures.front ∙ ap (λ n. take n c.args.bytes.now) c.min.ensures ∙ take_min most_framed c.args.bytes.now in
    refused-first c.args.bytes.now c.split_at.result.0.now first c.in-Refused.answer (subst (IsReadAs c.split_at.result.0.now) c.in-Refused.is c.in_ok-read_all.ensures)
