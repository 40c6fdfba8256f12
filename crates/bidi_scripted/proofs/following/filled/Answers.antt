use Rattle.std.proofs.Common.{◌∙◌, [], Option, map, sym, ap}
use Rattle.std.specs.Prelude.{option_map, bytes_eq}
use Rattle.std.specs.Option.{option_map_or}
use Rattle.json.specs.Value.{value_view}
use Rattle.bidi_rows.specs.declared.template.Template as declared_template
use Rattle.bidi_rows.specs.Filling.{filling_of, filled_text, template_of}
use Rattle.bidi_remote.specs.Machine.Sent.{Text}
use Rattle.bidi_sessions.specs.View.{sent_of}
use Rattle.bidi_sessions.proofs.ListLemmas.{find-seen, map-twice}
use Rattle.bidi_scripted.specs.Script.{Follower}
use Rattle.bidi_scripted.specs.View.{follower_of}
use Rattle.bidi_scripted.proofs.FateLemmas.{if-ok}
use Rattle.bidi_scripted.proofs.following.filled.Goals as goal

pub returns-in-Some : goal.returns-in-Some
returns-in-Some c =
    let n = c.args.conn.value in
    let filling = filling_of (value_view c.args.params.now) in
    let items = c.in-Some.follower.now.events.items in
    let found = ap (option_map follower_of) c.in-Some.ensures ∙ sym (find-seen follower_of (λ (f : Follower). bytes_eq f.method c.args.method.now) c.args.followers.now) in
    if-ok c.fill_all.result
    (λ sent is. is
    ∙ (ap (map (λ (e : declared_template.Template). Text n (filled_text filling (template_of e)))) c.deref.ensures.value
    ∙ (sym (map-twice (λ t. Text n (filled_text filling t)) template_of items)
    ∙ (sym (map-twice (Text n) (filled_text filling) (map template_of items))
    ∙ ap (λ (o : Option Follower). map (Text n) (option_map_or (λ f. map (filled_text filling) f.events) o [])) found))))
    c.fill_all.ensures

pub returns-in-None : goal.returns-in-None
returns-in-None c =
    let n = c.args.conn.value in
    let filling = filling_of (value_view c.args.params.now) in
    let found = ap (option_map follower_of) c.in-None.ensures ∙ sym (find-seen follower_of (λ (f : Follower). bytes_eq f.method c.args.method.now) c.args.followers.now) in
    ap (map sent_of) c.new.ensures.items
    ∙ ap (λ (o : Option Follower). map (Text n) (option_map_or (λ f. map (filled_text filling) f.events) o [])) found
