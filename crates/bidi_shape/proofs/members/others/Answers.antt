use Rattle.std.proofs.Common.{◌≡◌, [], ◌∷◌, ◌++◌, true, false, map, string_bytes, string_cmp, bytes_eq, refl, sym, ap, ◌∙◌, subst, append_assoc, true≢false}
use Rattle.std.specs.List.{list_any}
use Rattle.std.specs.List.Sorted.{IsStrictlySortedBy}
use Rattle.std.specs.Map.{keys_of}
use Rattle.bidi_tree.specs.Node.{put, IsWhole, MembersAreWhole}
use Rattle.bidi_tree.specs.View.{node, members_node}
use Rattle.bidi_tree.proofs.TreeLemmas.{Entry}
use Rattle.bidi_shape.specs.Fits.{without}
use Rattle.bidi_tree.proofs.SoundLemmas.{AreAscending-members_node}
use Rattle.bidi_tree.proofs.WholeLemmas.{whole-put}
use Rattle.bidi_shape.specs.OthersLaws.{whole_each, gathered_skip, gathered_keep}
use Rattle.bidi_shape.proofs.members.others.Goals as goal
use Rattle.bidi_shape.proofs.members.others.Goals.{In-Some}

pub returns-clause-sorted : goal.returns-clause-sorted
returns-clause-sorted c = AreAscending-members_node c.args.members.now.entries c.iter-name-items.ensures.ordered

pub loop-name-preserved-then-is_listed : goal.loop-name-preserved-then-is_listed
loop-name-preserved-then-is_listed c =
    let inv = c.loop-name.invariant in
    let done = inv.0 in
    let e : Entry = (c.in-Some.name.now, c.in-Some.member.now) in
    let left = c.next.new.self in
    let ks = map (λ s. s.now) c.args.names.now in
    let all : c.args.members.now.entries ≡ done ++ e ∷ left = inv.1 ∙ ap (λ es. done ++ es) c.in-Some.ensures.steps in
    let sorted = subst (λ es. IsStrictlySortedBy string_cmp (keys_of es)) all c.iter-name-items.ensures.ordered in
    let listed : list_any (bytes_eq (string_bytes e.0)) ks ≡ true = rw (← c.as_str.ensures.value) (sym c.if-is_listed.ensures) in (
      done ++ e ∷ [],
      all ∙ sym (append_assoc done (e ∷ []) left),
      inv.2 ∙ sym (gathered_skip ks done e left sorted listed),
      inv.3,
    )

pub returns-then-not-fits_any-clause-no_fit : goal.returns-then-not-fits_any-clause-no_fit
returns-then-not-fits_any-clause-no_fit c = λ w.
    let inv = c.loop-name.invariant in
    let done = inv.0 in
    let e : Entry = (c.in-Some.name.now, c.in-Some.member.now) in
    let left = c.next.new.self in
    let ks = map (λ s. s.now) c.args.names.now in
    let all : c.args.members.now.entries ≡ done ++ e ∷ left = inv.1 ∙ ap (λ es. done ++ es) c.in-Some.ensures.steps in
    let listed : list_any (bytes_eq (string_bytes e.0)) ks ≡ false = rw (← c.as_str.ensures.value) (sym c.if-is_listed.ensures) in
    let good : MembersAreWhole (without ks (members_node (done ++ e ∷ left))) 60 = subst (λ es. MembersAreWhole (without ks (members_node es)) 60) all w in
    true≢false (sym (c.fits_any.ensures.1 (whole_each 60 ks done e left listed good)) ∙ c.if-not-fits_any.true)

pub loop-name-preserved : goal.loop-name-preserved
loop-name-preserved c =
    let inv = c.loop-name.invariant in
    let done = inv.0 in
    let e : Entry = (c.in-Some.name.now, c.in-Some.member.now) in
    let left = c.next.new.self in
    let ks = map (λ s. s.now) c.args.names.now in
    let all : c.args.members.now.entries ≡ done ++ e ∷ left = inv.1 ∙ ap (λ es. done ++ es) c.in-Some.ensures.steps in
    let sorted = subst (λ es. IsStrictlySortedBy string_cmp (keys_of es)) all c.iter-name-items.ensures.ordered in
    let listed : list_any (bytes_eq (string_bytes e.0)) ks ≡ false = rw (← c.as_str.ensures.value) (sym c.if-is_listed.ensures) in
    let same = c.in_ok-clone-2.ensures.cases.0 in
    let whole : IsWhole (node e.1) 60 = c.fits_any.ensures.0 c.if-not-fits_any.false in
    let added : members_node c.put_member.new.members.entries ≡ put (string_bytes e.0) (node e.1) (members_node c.loop-name.rest.entries) =
    c.in_ok-put_member.ensures.ok ∙ rw (c.in_ok-clone.ensures.cases, same) refl in (
      done ++ e ∷ [],
      all ∙ sym (append_assoc done (e ∷ []) left),
      added ∙ ap (put (string_bytes e.0) (node e.1)) inv.2 ∙ gathered_keep ks done e left sorted listed,
      subst (λ ms. MembersAreWhole ms 60) (sym added) (whole-put (string_bytes e.0) (node e.1) (members_node c.loop-name.rest.entries) 60 inv.3 whole),
    )
