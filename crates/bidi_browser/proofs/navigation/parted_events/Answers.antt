use Rattle.std.proofs.Common.{◌∙◌, ap, sym, subst}
use Rattle.bidi_browser.specs.Asked.{wait_of}
use Rattle.bidi_browser.specs.Navigations.{before_reply}
use Rattle.bidi_contexts.specs.View.{AreWell}
use Rattle.bidi_browser.proofs.NavigationLemmas.{told-parted, take-well, drop-well}
use Rattle.bidi_browser.proofs.navigation.parted_events.Goals as goal

pub returns-clause-told : goal.returns-clause-told
returns-clause-told c = λ past k move stands next is leads.
    let all = c.in_ok-before.before in
    let wait = wait_of c.args.wait in
    let told = c.in_ok-before.ensures.told past k move stands next is leads in
    told-parted past c.args.moment.value k move wait (record { before = c.split_off.new.self; after = c.in_ok-after.after }) all.items
    c.place_of_reply-place.result told (c.place_of_reply-place.ensures.place ∙ ap (before_reply wait) (c.len.ensures ∙ all.ok.0))
    c.in_ok-after.ensures.items c.in_ok-after.ensures.tail

pub returns-clause-well : goal.returns-clause-well
returns-clause-well c =
    let all = c.in_ok-before.before.items in
    let n = c.place_of_reply-place.result in
    let well = c.in_ok-before.ensures.well in
    (subst AreWell (sym c.in_ok-after.ensures.items) (take-well n all well), subst AreWell (sym c.in_ok-after.ensures.tail) (drop-well n all well))
