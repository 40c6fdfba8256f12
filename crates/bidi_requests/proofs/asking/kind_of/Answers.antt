use Rattle.std.proofs.Common.{rules, ◌≡◌, codes, arith}
use Rattle.std.specs.Prelude.{Some}
use Rattle.websocket.specs.Headers.{header_value}
use Rattle.bidi_requests.specs.Requests.{AreLetIn, AsksUpgrade, spanned_request}
use Rattle.bidi_requests.proofs.AskingLemmas.{key-decides}
use Rattle.bidi_requests.proofs.asking.kind_of.Goals as goal

pub returns : goal.returns
returns c =
    let r = spanned_request c.args.bytes.now c.args.spans.now c.args.request.now in
    let here : AreLetIn r.fields = c.names_only_local.ensures.0 (search rules) in
    let get : r.method ≡ codes "GET" = search rules in
    let minor : r.minor ≡ 1 = omega (arith, c.requires.version, c.if-request-eq0.false) in
    let version : header_value r.fields (codes "Sec-WebSocket-Version") ≡ Some (codes "13") = c.has_value.ensures.0 (search rules) in
    let upgrade : AsksUpgrade r.fields = c.asks_upgrade.ensures.0 (search rules) in
    key-decides r c.accepted.result here get minor upgrade version c.accepted.ensures
