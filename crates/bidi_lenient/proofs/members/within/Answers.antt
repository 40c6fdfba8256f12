use Rattle.std.proofs.Common.{◌≡◌, Ok, refl, ap, ◌∙◌, subst}
use Rattle.std.specs.Prelude.{IfOk}
use Rattle.std.specs.Option.{option_map_or}
use Rattle.bidi_tree.specs.View.{node}
use Rattle.bidi_lenient.specs.Members.{put_in}
use Rattle.bidi_lenient.proofs.members.within.Goals as goal

pub returns-in_ok-ease-in-Some : goal.returns-in_ok-ease-in-Some
returns-in_ok-ease-in-Some g c = λ f gives.
    let k = c.args.name.now in
    let t = node c.args.tree.now in
    let made = gives c.in-Some.member.now (Ok c.in_ok-ease-in-Some.field-0) (c.in-Some.member, c.in_ok-ease-in-Some.ensures, refl) in
    let put = ap (λ m. put_in k m t) made ∙ ap (λ o. option_map_or (λ m. put_in k (f m) t) o t) c.in-Some.ensures in
    subst (λ n. IfOk c.with_member.result (λ u. node u ≡ n)) put c.with_member.ensures
