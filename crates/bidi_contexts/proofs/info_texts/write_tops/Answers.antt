use Rattle.std.proofs.Common.{◌++◌, ◌∷◌, [], map, ap, refl, arith}
use Rattle.bidi_contexts.specs.Info.{info_of}
use Rattle.bidi_contexts.proofs.InfoTextLemmas.{wrote-none, wrote-more, wrote-same}
use Rattle.bidi_contexts.proofs.SubtreeLemmas.{left-ones, left-next, left-end}
use Rattle.bidi_contexts.proofs.info_texts.write_tops.Goals as goal

pub loop-context-init : goal.loop-context-init
loop-context-init c = wrote-none c.args.out.now 34 _ (λ past cs s. left-ones (info_of past c.args.depth) c.args.contexts.now past 1 cs [] refl s)

pub loop-context-preserved : goal.loop-context-preserved
loop-context-preserved c =
    let held = c.loop-context in
    let depth = c.args.depth in
    wrote-more c.args.out.now held.out c.write_info.new.out 34 34 _ _ _ held.invariant c.in_ok-write_info.ensures refl
    (λ ts us first second. λ past cs s.
    left-next (λ k. info_of past depth k ∷ []) held.rest.now c.split_at.result.0.now c.split_at.result.1.now c.in-Some.behind.now c.in-Some.context.now
    c.len_below.result past 1 ts (ts ++ us) _ c.in-Some.ensures.cases.0 c.len_below.ensures.is c.split_at.ensures.front c.split_at.ensures.back
    (first past cs s)
    (λ k level row below. ap (λ xs. ts ++ xs) (second past k row (λ deep. below) (omega arith))))

pub returns : goal.returns
returns c =
    wrote-same c.args.out.now c.loop-context.out 34 _ _ c.loop-context.invariant
    (λ ts left. λ past cs s.
    left-end (λ k. info_of past c.args.depth k ∷ []) c.loop-context.rest.now past 1 ts (map (info_of past c.args.depth) cs)
    c.in_default.ensures.cases (left past cs s))
