use Rattle.std.proofs.Common.{◌≡◌, ◌∙◌, ◌∷◌, refl, sym, ap, ap₂, subst}
use Rattle.std.specs.Prelude.{ℕ, string_bytes}
use Rattle.std.proofs.Common.{rules, arith}
use Rattle.bidi_tree.specs.Node.{Node}
use Rattle.bidi_contexts.specs.Acts.{Tabled}
use Rattle.bidi_handles.specs.declared.id.IdKind.TheVariants.{Handle}
use Rattle.bidi_browser.specs.TableInHand.{row_seen}
use Rattle.bidi_handles.specs.ValuesInHand.{handle_seen}
use Rattle.bidi_contexts.specs.declared.navigation.Navigation.{Navigation}
use Rattle.bidi_browser.specs.Plans.{EditMakes, EditHasRoom}
use Rattle.bidi_contexts.specs.Tables.{HasRoomIn, HasRoomForHandle}
use Rattle.bidi_browser.proofs.StandsLemmas.{kept-stands, row-stands, handle-stands, disowned-stands, user-made-stands, user-removed-stands}
use Rattle.bidi_contexts.proofs.UserLemmas.{users_born}
use Rattle.bidi_browser.specs.declared.browser.Browser.{Browser}
use Rattle.bidi_contexts.specs.Tables.{AreUsersOf}
use Rattle.bidi_browser.proofs.browser.Browser.apply.Goals as goal
use Rattle.bidi_browser.proofs.browser.Browser.apply.Goals.{then-opens_window, else-opens_window}

pub returns-in-Keep : goal.returns-in-Keep
returns-in-Keep c = λ past action act stands ids accepted makes.
    kept-stands c.args.self.now past action act (subst (λ e. EditMakes e past act) c.in-Keep.is makes) accepted stands

pub navigate-requires : goal.navigate-requires
navigate-requires c =
    subst (λ (n : Navigation). HasRoomIn c.args.self.now.contexts n.context n.to) (sym c.in-Navigate.navigation-is)
    (subst (EditHasRoom c.args.self.now) c.in-Navigate.is c.requires)

pub returns-in-SetRow : goal.returns-in-SetRow
returns-in-SetRow c = λ past action act stands ids accepted makes.
    let is = subst (λ e. EditMakes e past act) c.in-SetRow.is makes in
    row-stands c.args.self.now c.set.new.self past action act _ _
    (is ∙ ap₂ (λ t r. Tabled (string_bytes t) (row_seen r)) (sym c.in-SetRow.text-is) (sym c.in-SetRow.row-is)) accepted
    (c.set.ensures past stands.table) stands

pub hold-requires : goal.hold-requires
hold-requires c =
    subst (λ number. HasRoomForHandle c.args.self.now.contexts number) (sym c.in-Hold.number-is)
    (subst (EditHasRoom c.args.self.now) c.in-Hold.is c.requires)

pub returns-in-Hold : goal.returns-in-Hold
returns-in-Hold c = λ past action act stands ids accepted makes.
    let is = subst (λ e. EditMakes e past act) c.in-Hold.is makes in
    let number = ap (λ (held : ℕ × Node). held.0) is.3 in
    handle-stands c.args.self.now c.hold.new.self _ past action c.in-Hold.number is.0 act _ (handle_seen c.in-Hold.handle)
    (c.hold.ensures past stands.contexts (rw c.in-Hold.is (omega (arith, number)))) (rw c.in-Hold.is refl) is.3 is.2 is.1 accepted stands
    (let fits = ids Handle in let next = stands.next_handle in omega (arith, fits, next))

pub returns-in-Disown : goal.returns-in-Disown
returns-in-Disown c = λ past action act stands ids accepted makes.
    let is = subst (λ e. EditMakes e past act) c.in-Disown.is makes in
    disowned-stands c.args.self.now c.disown.new.self past action c.in-Disown.number is.0 act _ is.2 is.1
    (search (rules, c.in-Disown.handles-is, c.in-Disown.is, is.3)) accepted stands c.disown.ensures

pub returns-after-opens_window : goal.returns-after-opens_window
returns-after-opens_window c = λ past action act stands ids accepted makes.
    let is = subst (λ e. EditMakes e past act) c.in-Add.is makes in
    let same : c.if-opens_window.self.users ≡ c.args.self.now.users = elim c.if-opens_window.branch [
      | then-opens_window w ↦ ap (λ (b : Browser). b.users) w.self-is
      | else-opens_window w ↦ ap (λ (b : Browser). b.users) w.self-is
    ] in
    let users = subst (λ u. AreUsersOf u (act ∷ past)) (sym same) (users_born c.args.self.now.users past act is.0 stands.users) in
    search (rules, users)

pub returns-in-AddUser : goal.returns-in-AddUser
returns-in-AddUser c = λ past action act stands ids accepted makes.
    user-made-stands c.args.self.now c.add-in-AddUser.new.self past action act (subst (λ e. EditMakes e past act) c.in-AddUser.is makes) accepted
    (c.add-in-AddUser.ensures past stands.users ids stands.contexts.accepted) stands

pub returns-in-RemoveUser : goal.returns-in-RemoveUser
returns-in-RemoveUser c = λ past action act stands ids accepted makes.
    user-removed-stands c.args.self.now c.remove-in-RemoveUser.new.self c.remove_user.new.self past action act c.in-RemoveUser.user
    (subst (λ e. EditMakes e past act) c.in-RemoveUser.is makes) accepted (c.remove-in-RemoveUser.ensures past stands.users)
    (λ all. c.remove_user.ensures past stands.contexts all) stands
