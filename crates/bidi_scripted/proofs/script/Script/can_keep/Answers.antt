use Rattle.std.proofs.Common.{◌≡◌, ◌∙◌, List, map, length, sym, ap}
use Rattle.bidi_sessions.proofs.ListLemmas.{map-twice}
use Rattle.bidi_rows.specs.Rows.{Row}
use Rattle.bidi_rows.specs.View.{row_of}
use Rattle.bidi_rows.specs.declared.row.Row as declared_row
use Rattle.bidi_scripted.specs.declared.script.HeldCommand as declared_held
use Rattle.bidi_scripted.specs.declared.script.Follower as declared_follower
use Rattle.bidi_scripted.specs.Script.{Held, Follower, most_kept}
use Rattle.bidi_names.specs.Sums.{total}
use Rattle.bidi_scripted.specs.View.{held_of, follower_of}
use Rattle.bidi_scripted.proofs.RoomLemmas.{room-some, room-none, room-rows}
use Rattle.bidi_scripted.proofs.script.Script.can_keep.Goals as goal

-- what rows, held commands and followers have, in the code and in the script
rows : (xs ys : List declared_row.Row) → xs ≡ ys → total (map (λ r. (row_of r).bytes) xs) ≡ total (map (λ (r : Row). r.bytes) (map row_of ys))
rows xs ys e = ap (λ zs. total (map (λ r. (row_of r).bytes) zs)) e ∙ ap total (sym (map-twice (λ (r : Row). r.bytes) row_of ys))

helds : (xs ys : List declared_held.HeldCommand) → xs ≡ ys
    → total (map (λ h. length (held_of h).text) xs) ≡ total (map (λ (h : Held). length h.text) (map held_of ys))
helds xs ys e = ap (λ zs. total (map (λ h. length (held_of h).text) zs)) e ∙ ap total (sym (map-twice (λ (h : Held). length h.text) held_of ys))

followers : (xs ys : List declared_follower.Follower) → xs ≡ ys
    → total (map (λ f. (follower_of f).bytes) xs) ≡ total (map (λ (f : Follower). f.bytes) (map follower_of ys))
followers xs ys e = ap (λ zs. total (map (λ f. (follower_of f).bytes) zs)) e ∙ ap total (sym (map-twice (λ (f : Follower). f.bytes) follower_of ys))

pub returns-in-Some-left_by_held : goal.returns-in-Some-left_by_held
returns-in-Some-left_by_held c =
    c.is_some.ensures
    ∙ room-some c.args.bytes most_kept _ _ _ _ _ _ c.in-Some.left c.in-Some-left_by_held.left c.left_by_followers.result c.if-bytes-gt-MOST_KEPT.false
    c.in-Some.ensures c.in-Some-left_by_held.ensures c.left_by_followers.ensures (rows _ _ c.deref.ensures.value) (helds _ _ c.deref-in-Some.ensures.value)
    (followers _ _ c.deref-in-Some-left_by_held.ensures.value)

pub returns-in-None-left_by_held : goal.returns-in-None-left_by_held
returns-in-None-left_by_held c =
    room-none c.args.bytes most_kept _ _ _ _ _ c.in-Some.left c.if-bytes-gt-MOST_KEPT.false
    c.in-Some.ensures c.in-None-left_by_held.ensures (rows _ _ c.deref.ensures.value) (helds _ _ c.deref-in-Some.ensures.value)

pub returns-in-None : goal.returns-in-None
returns-in-None c =
    room-rows c.args.bytes most_kept _ _ _ _ c.if-bytes-gt-MOST_KEPT.false c.in-None.ensures (rows _ _ c.deref.ensures.value)
