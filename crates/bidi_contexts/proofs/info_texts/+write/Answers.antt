use Rattle.std.proofs.Common.{◌≡◌, ◌≤◌, ◌∙◌, ◌++◌, ◌-◌, ◌*◌, ◌+◌, ◌∷◌, [], suc, Some, map, ap, ap₂, refl, sym, arith}
use Rattle.bidi_contexts.specs.ContextRows.{row_of, shown_info}
use Rattle.bidi_contexts.specs.Contexts.{level_of, children_of}
use Rattle.bidi_contexts.specs.Info.{children_tree, depth_below, info_within}
use Rattle.bidi_contexts.specs.InfosWritten.{parent_at}
use Rattle.bidi_handles.specs.Maps.{listed}
use Rattle.bidi_contexts.proofs.InfoTextLemmas.{on-ok, on-each, wrote-none, wrote-more, wrote-same, wrote-info, wrote-list, wrote-null, children-same, some-same, none-some}
use Rattle.bidi_contexts.proofs.SubtreeLemmas.{left-ones, left-next, left-end, info-made, none-left, some-children, two-more}
use Rattle.bidi_contexts.proofs.info_texts.+write.Goals as goal

pub write_info-returns : goal.write_info-returns
write_info-returns t c =
    let few : c.args.levels ≤ 16 = c.requires in
    on-each c.write_own.result c.write_own.ensures.before c.write_own.ensures.tokens
    (λ before tokens. wrote-info c.args.is_root (row_of c.args.context.now) (2 * c.args.levels + 1) (2 * c.args.levels + 2)
    c.args.out.now c.begin_object.new.self c.key.new.self c.write_children.new.out c.write_own.new.out _ _
    c.in_ok-begin_object.ensures.room.0 c.in_ok-begin_object.ensures.ok c.in_ok-key.ensures.room.0 c.in_ok-key.ensures.ok
    c.in_ok-write_children.ensures (omega (arith, few)) (omega arith) before tokens
    (λ children is. λ past k row below enough.
    ap₂ (λ r x. shown_info (parent_at c.args.is_root r) r x ∷ []) row (is past (suc (level_of past k)) (children_of past k) below enough)))

pub write_children-returns-in-Some-eq0 : goal.write_children-returns-in-Some-eq0
write_children-returns-in-Some-eq0 t c =
    let zero : c.in-Some-eq0.field-0 ≡ 0 = omega (arith, c.in-Some-eq0.field-0-test) in
    let flat : c.args.depth ≡ Some 0 = c.in-Some-eq0.is ∙ ap Some zero in
    on-ok c.null.result c.null.ensures.ok
    (λ tokens. wrote-null (2 * c.args.levels + 1) c.args.out.now c.null.new.self _ c.null.ensures.room.0 tokens
    (λ past l cs below enough. ap (λ d. children_tree d (map (info_within 16 past (depth_below d)) cs)) (sym flat)))

pub write_children-returns-in-Some : goal.write_children-returns-in-Some
write_children-returns-in-Some t c =
    let depth = c.in-Some.depth in
    let some : depth ≡ 0 → ⊥ = rw c.in-Some.is at c.in-Some.depth-test.1 in
    on-ok c.write_list.result c.write_list.ensures
    (λ is. children-same c.args.out.now c.write_list.new.out (2 * c.args.levels + 1) _ _ is
    (λ list told. λ past l cs below enough.
    told past l cs (below (λ none. some (some-same depth 0 (sym c.in-Some.is ∙ none)))) enough
    ∙ (sym (some-children depth (map (info_within 16 past (Some (depth - 1))) cs) some)
    ∙ ap (λ d. children_tree d (map (info_within 16 past (depth_below d)) cs)) (sym c.in-Some.is))))

pub write_children-returns-in-None : goal.write_children-returns-in-None
write_children-returns-in-None t c =
    on-ok c.write_list-in-None.result c.write_list-in-None.ensures
    (λ is. children-same c.args.out.now c.write_list-in-None.new.out (2 * c.args.levels + 1) _ _ is
    (λ list told. λ past l cs below enough.
    told past l cs (below (λ none. none-some 0 (sym c.in-None.is ∙ none))) enough
    ∙ ap (λ d. children_tree d (map (info_within 16 past (depth_below d)) cs)) (sym c.in-None.is)))

pub write_list-returns : goal.write_list-returns
write_list-returns t c =
    on-ok c.end_array.result c.end_array.ensures.ok
    (λ last. wrote-list (2 * c.args.levels) c.args.out.now c.begin_array.new.self c.write_infos.new.out c.end_array.new.self _ _
    c.in_ok-begin_array.ensures.room.0 c.in_ok-begin_array.ensures.ok c.in_ok-write_infos.ensures c.end_array.ensures.room.0 last
    (λ ts told. λ past l cs s enough. ap listed (told past l cs s enough)))

pub write_infos-returns-then-levels-eq0 : goal.write_infos-returns-then-levels-eq0
write_infos-returns-then-levels-eq0 t c =
    let none = c.if-levels-eq0.true in
    wrote-none c.args.out.now (2 * c.args.levels) _
    (λ past l cs s enough. ap (map (info_within 16 past c.args.depth)) (sym (none-left past l c.args.contexts.now cs s (omega (arith, none, enough)))))

pub write_infos-loop-context-init : goal.write_infos-loop-context-init
write_infos-loop-context-init t c =
    wrote-none c.args.out.now (2 * c.args.levels) _
    (λ past l cs s enough. left-ones (info_within 16 past c.args.depth) c.args.contexts.now past l cs [] refl s)

pub write_infos-loop-context-preserved : goal.write_infos-loop-context-preserved
write_infos-loop-context-preserved t c =
    let held = c.loop-context in
    let depth = c.args.depth in
    let some = c.if-levels-eq0.false in
    wrote-more c.args.out.now held.out c.write_info.new.out (2 * (c.args.levels - 1) + 2) (2 * c.args.levels) _ _ _
    held.invariant c.in_ok-write_info.ensures (two-more c.args.levels some)
    (λ ts us first second. λ past l cs s enough.
    left-next (λ k. info_within 16 past depth k ∷ []) held.rest.now c.split_at.result.0.now c.split_at.result.1.now c.in-Some.behind.now c.in-Some.context.now
    c.len_below.result past l ts (ts ++ us) _ c.in-Some.ensures.cases.0 c.len_below.ensures.is c.split_at.ensures.front c.split_at.ensures.back
    (first past l cs s enough)
    (λ k level row below. ap (λ xs. ts ++ xs)
    (second past k row (λ deep. below) (omega (arith, enough, level, some)) ∙ ap (λ t. t ∷ []) (info-made past depth k s.accepted))))

pub write_infos-returns : goal.write_infos-returns
write_infos-returns t c =
    wrote-same c.args.out.now c.loop-context.out (2 * c.args.levels) _ _ c.loop-context.invariant
    (λ ts left. λ past l cs s enough.
    left-end (λ k. info_within 16 past c.args.depth k ∷ []) c.loop-context.rest.now past l ts (map (info_within 16 past c.args.depth) cs)
    c.in_default.ensures.cases (left past l cs s enough))
