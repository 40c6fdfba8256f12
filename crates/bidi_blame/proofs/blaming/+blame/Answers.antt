use Rattle.std.proofs.Common.{◌≡◌, ◌∙◌, ◌+◌, ◌<◌, List, [], ◌∷◌, map, drop, length, get_or, slice_index_or, true, arith, sym, ap, subst}
use Rattle.std.proofs.lemmas.List.{drop_all}
use Rattle.std.proofs.lemmas.Result.{IfOk-weaker}
use Rattle.std.specs.Prelude.{◌≤◌, IfOk}
use Rattle.bidi_tree.specs.Node as tree
use Rattle.bidi_tree.specs.Node.{Node, Items, levels, items_levels, members_levels}
use Rattle.bidi_tree.specs.Outline.{outline_node, outline_items, outline_members, named_outlines}
use Rattle.bidi_tree.proofs.OutlineLemmas.{OutlineMember, nth}
use Rattle.bidi_shape.specs.Term.{any, rule, pair_of, list_of, map_of, capped, exactly, text, bool, null, js_uint, js_int}
use Rattle.bidi_shape.specs.Term as cddl
use Rattle.bidi_shape.specs.Term.{names_of}
use Rattle.bidi_shape.specs.Fits.{Fits, fits_second, AllFit, no_item, an_item, RowsFit, OthersFit, without}
use Rattle.bidi_shape.specs.Fits.{no_row as no_row_fits, there, absent}
use Rattle.bidi_shape.proofs.FitsLemmas.{others_fit}
use Rattle.bidi_rules.specs.declared.term.Need.TheVariants.{Required}
use Rattle.bidi_rules.specs.declared.term.Term.TheVariants.{Exactly}
use Rattle.bidi_blame.specs.Blames.{takes, Blames, Judged, ItemsJudged, RowsJudged, OthersJudged, ItemsBlame, RowsBlame, OthersBlame, of_both, in_member, in_others, is_there, is_absent, is_unknown, in_other, later_other, not_taken, this_item, later_item}
use Rattle.bidi_rules.specs.Grammar.{grammar, grammar_rows, one_of, need_of, openness_of}
use Rattle.bidi_rules.specs.Names.{name_of}
use Rattle.bidi_blame.specs.Reason as step
use Rattle.bidi_blame.specs.Reason.{Reason, here, missing, unknown, under, by, told, tags_with}
use Rattle.bidi_blame.specs.View.{draft_of, reason_if}
use Rattle.bidi_rules.specs.Weight.{weight, height_of, is_ready}
use Rattle.bidi_blame.proofs.PlainLemmas.{exactly_taken, text_taken, bool_taken, null_taken, js_uint_taken, js_int_taken}
use Rattle.bidi_rules.proofs.GrammarLemmas.{grammar-Exactly, grammar-Text, grammar-Bool, grammar-Null, grammar-JsUint, grammar-JsInt, grammar-Any, grammar-ListOf, grammar-PairOf, grammar-MapOf, grammar-Capped}
use Rattle.bidi_rules.proofs.GrammarLemmas.{ready-PairOf, ready-MapOf, ready-OneOf, height-OneOf, chosen-first, Row, row_at, ready_at, height-ready}
use Rattle.bidi_blame.proofs.JudgeLemmas.{judged_any_list, judged_any_map, any_plain, judged_list, judged_map, judged_capped, list_levels, map_levels, first_of}
use Rattle.bidi_blame.proofs.JudgeLemmas.{judged_rule, blames_rule, first_blamed, second_blamed, pair_fits, two_long, item_here, rows_judged, row_missing, more_tags, list_of_first, list_of_two, other_here}
use Rattle.bidi_blame.proofs.LevelLemmas.{levels-get_member}
use Rattle.bidi_blame.proofs.blaming.+blame.Goals as goal
use Rattle.bidi_blame.proofs.blaming.+blame.Goals.{fit_rows-in-Some+in_ok-fits_term-in-Some+else-not-branch, fit_rows-in-None+in-Optional}

-- what stands where there is no row
abbrev no_row : Row
no_row = (record { ref_ptr = (0, 0); now = [] }, Required, Exactly (record { ref_ptr = (0, 0); now = [] }))

-- ---- any

pub fits_any-returns-in-Some : goal.fits_any-returns-in-Some
fits_any-returns-in-Some t c =
    let ts = outline_items c.in-Some.items.now in
    let judged : IfOk c.fit_items.result (λ o. ItemsJudged ts any (reason_if o c.fit_items.new.draft)) = simp grammar-Any at c.fit_items.ensures in
    IfOk-weaker c.fit_items.result _ _ (λ o j. judged_any_list (outline_node c.args.tree.now) ts (reason_if o c.fit_items.new.draft) c.requires.taken c.in-Some.ensures j) judged

pub fits_any-returns-in-Some-as_map : goal.fits_any-returns-in-Some-as_map
fits_any-returns-in-Some-as_map t c =
    let ms = outline_members c.in-Some-as_map.members.now in
    let judged : IfOk c.fit_others.result (λ o. OthersJudged cddl.extensible 0 (without [] ms) (reason_if o c.fit_others.new.draft)) = c.fit_others.ensures in
    IfOk-weaker c.fit_others.result _ _ (λ o j. judged_any_map (outline_node c.args.tree.now) ms (reason_if o c.fit_others.new.draft) c.requires.taken c.in-Some-as_map.ensures j) judged

pub fits_any-returns-in-None : goal.fits_any-returns-in-None
fits_any-returns-in-None t c = any_plain (outline_node c.args.tree.now) c.requires.taken (sym c.in_default.ensures) (sym c.in-None.ensures)

-- ---- choices

pub fits_choice-fits_term-requires : goal.fits_choice-fits_term-requires
fits_choice-fits_term-requires t c =
    let h = chosen-first (weight c.args.first.now) (map weight c.args.rest.now) in
    (omega arith, c.requires.first)

pub fits_choice-returns-then-branch : goal.fits_choice-returns-then-branch
fits_choice-returns-then-branch t c =
    first_of (outline_node c.args.tree.now) (grammar c.args.first.now) (map grammar c.args.rest.now) (rw c.if-branch.true at c.in_ok-fits_term.ensures)

pub fits_choice-returns-then-branch-2 : goal.fits_choice-returns-then-branch-2
fits_choice-returns-then-branch-2 t c =
    let σ = grammar c.args.first.now in
    let rest = one_of (grammar c.in-Some.next.now) (map grammar c.in-Some.more.now) in
    let split : c.args.rest.now ≡ c.in-Some.next.now ∷ c.in-Some.more.now = c.in-Some.ensures.cases.0 in
    let fits : Fits (outline_node c.args.tree.now) rest = rw c.if-branch-2.true at c.in_ok-fits_choice.ensures in
    subst (λ xs. Fits (outline_node c.args.tree.now) (one_of σ (map grammar xs))) (sym split) (fits_second (outline_node c.args.tree.now) σ rest fits)

pub fits_choice-returns : goal.fits_choice-returns
fits_choice-returns t c =
    let u = outline_node c.args.tree.now in
    let σ = grammar c.args.first.now in
    let τ = grammar c.in-Some.next.now in
    let τs = map grammar c.in-Some.more.now in
    let one = draft_of c.fits_term.new.draft in
    let other = draft_of c.fits_choice.new.draft in
    let split : c.args.rest.now ≡ c.in-Some.next.now ∷ c.in-Some.more.now = c.in-Some.ensures.cases.0 in
    let all : one_of σ (map grammar c.args.rest.now) ≡ one_of σ (τ ∷ τs) = ap (λ xs. one_of σ (map grammar xs)) split in
    let a : Blames u σ one = rw c.if-branch.false at c.in_ok-fits_term.ensures in
    let b : Blames u (one_of τ τs) other = rw c.if-branch-2.false at c.in_ok-fits_choice.ensures in
    let told_of : draft_of c.choose.new.self ≡ told u (one_of σ (map grammar c.args.rest.now)) one other = c.in_ok-choose.ensures in
    subst (λ r. Blames u (one_of σ (map grammar c.args.rest.now)) r) (sym told_of)
    (subst (λ x. Blames u x (told u x one other)) (sym all) (of_both u σ (one_of τ τs) one other a b))

-- ---- inside

pub fits_inside-returns-in-Exactly : goal.fits_inside-returns-in-Exactly
fits_inside-returns-in-Exactly t c =
    let says : grammar c.args.term.now ≡ exactly c.in-Exactly.field-0.now = ap grammar c.in-Exactly.is ∙ grammar-Exactly c.in-Exactly.field-0 in
    subst (λ τ. Fits (outline_node c.args.tree.now) τ) (sym says)
    (exactly_taken (outline_node c.args.tree.now) c.in-Exactly.field-0.now (subst (λ τ. takes (outline_node c.args.tree.now) τ ≡ true) says c.requires.taken))

pub fits_inside-returns-in-Text : goal.fits_inside-returns-in-Text
fits_inside-returns-in-Text t c =
    let says : grammar c.args.term.now ≡ text = ap grammar c.in-Text.is ∙ grammar-Text in
    subst (λ τ. Fits (outline_node c.args.tree.now) τ) (sym says) (text_taken (outline_node c.args.tree.now) (subst (λ τ. takes (outline_node c.args.tree.now) τ ≡ true) says c.requires.taken))

pub fits_inside-returns-in-Bool : goal.fits_inside-returns-in-Bool
fits_inside-returns-in-Bool t c =
    let says : grammar c.args.term.now ≡ bool = ap grammar c.in-Bool.is ∙ grammar-Bool in
    subst (λ τ. Fits (outline_node c.args.tree.now) τ) (sym says) (bool_taken (outline_node c.args.tree.now) (subst (λ τ. takes (outline_node c.args.tree.now) τ ≡ true) says c.requires.taken))

pub fits_inside-returns-in-Null : goal.fits_inside-returns-in-Null
fits_inside-returns-in-Null t c =
    let says : grammar c.args.term.now ≡ null = ap grammar c.in-Null.is ∙ grammar-Null in
    subst (λ τ. Fits (outline_node c.args.tree.now) τ) (sym says) (null_taken (outline_node c.args.tree.now) (subst (λ τ. takes (outline_node c.args.tree.now) τ ≡ true) says c.requires.taken))

pub fits_inside-returns-in-JsUint : goal.fits_inside-returns-in-JsUint
fits_inside-returns-in-JsUint t c =
    let says : grammar c.args.term.now ≡ js_uint = ap grammar c.in-JsUint.is ∙ grammar-JsUint in
    subst (λ τ. Fits (outline_node c.args.tree.now) τ) (sym says) (js_uint_taken (outline_node c.args.tree.now) (subst (λ τ. takes (outline_node c.args.tree.now) τ ≡ true) says c.requires.taken))

pub fits_inside-returns-in-JsInt : goal.fits_inside-returns-in-JsInt
fits_inside-returns-in-JsInt t c =
    let says : grammar c.args.term.now ≡ js_int = ap grammar c.in-JsInt.is ∙ grammar-JsInt in
    subst (λ τ. Fits (outline_node c.args.tree.now) τ) (sym says) (js_int_taken (outline_node c.args.tree.now) (subst (λ τ. takes (outline_node c.args.tree.now) τ ≡ true) says c.requires.taken))

pub fits_inside-fit_pair-requires : goal.fits_inside-fit_pair-requires
fits_inside-fit_pair-requires t c =
    let says : grammar c.args.term.now ≡ pair_of (grammar c.in-PairOf.first.now) (grammar c.in-PairOf.second.now) = ap grammar c.in-PairOf.is ∙ grammar-PairOf c.in-PairOf.first c.in-PairOf.second in
    let ready = ready-PairOf c.in-PairOf.first c.in-PairOf.second (subst (λ τ. is_ready τ ≡ true) c.in-PairOf.is c.requires.ready) in
    let deep = list_levels (outline_node c.args.tree.now) (outline_items c.in-Some-as_items.items.now) c.in-Some-as_items.ensures in
    let two = two_long outline_node (outline_node c.args.tree.now) (grammar c.in-PairOf.first.now) (grammar c.in-PairOf.second.now) c.in-Some-as_items.items.now
    (subst (λ τ. takes (outline_node c.args.tree.now) τ ≡ true) says c.requires.taken) c.in-Some-as_items.ensures in
    (omega arith, (ready.0, (ready.1, two)))

pub fits_inside-fit_rows-requires : goal.fits_inside-fit_rows-requires
fits_inside-fit_rows-requires t c =
    let ready = ready-MapOf c.in-MapOf.rows c.in-MapOf.openness (subst (λ τ. is_ready τ ≡ true) c.in-MapOf.is c.requires.ready) in
    let deep = map_levels (outline_node c.args.tree.now) (outline_members c.in-Some-as_map.members.now) c.in-Some-as_map.ensures in
    (omega arith, ready)

pub fits_inside-fits_choice-requires : goal.fits_inside-fits_choice-requires
fits_inside-fits_choice-requires t c =
    let ready = ready-OneOf c.in-OneOf.first c.in-OneOf.rest (subst (λ τ. is_ready τ ≡ true) c.in-OneOf.is c.requires.ready) in
    let high = ap height_of c.in-OneOf.is ∙ height-OneOf c.in-OneOf.first c.in-OneOf.rest in
    (omega arith, (ready.0, ready.1))

pub fits_inside-returns-in-Capped : goal.fits_inside-returns-in-Capped
fits_inside-returns-in-Capped t c =
    let u = outline_node c.args.tree.now in
    let τ = grammar c.in-Capped.capped.now in
    let says : grammar c.args.term.now ≡ capped τ = ap grammar c.in-Capped.is ∙ grammar-Capped c.in-Capped.capped in
    let low = subst (λ x. takes u x ≡ true) says c.requires.taken in
    IfOk-weaker c.fits_term.result _ _ (λ o j. subst (λ x. Judged u x (reason_if o c.fits_term.new.draft)) (sym says) (judged_capped u τ (reason_if o c.fits_term.new.draft) low j)) c.fits_term.ensures

pub fits_inside-returns-in-Some : goal.fits_inside-returns-in-Some
fits_inside-returns-in-Some t c =
    let u = outline_node c.args.tree.now in
    let least = c.in-ListOf.field-0 in
    let τ = grammar c.in-ListOf.item.now in
    let ts = outline_items c.in-Some.items.now in
    let says : grammar c.args.term.now ≡ list_of least τ = ap grammar c.in-ListOf.is ∙ grammar-ListOf least c.in-ListOf.item in
    let taken = subst (λ x. takes u x ≡ true) says c.requires.taken in
    let judged : IfOk c.fit_items.result (λ o. ItemsJudged ts τ (reason_if o c.fit_items.new.draft)) = c.fit_items.ensures in
    IfOk-weaker c.fit_items.result _ _ (λ o j. subst (λ x. Judged u x (reason_if o c.fit_items.new.draft)) (sym says) (judged_list u least τ ts (reason_if o c.fit_items.new.draft) taken c.in-Some.ensures j)) judged

pub fits_inside-returns-in-Some-as_map : goal.fits_inside-returns-in-Some-as_map
fits_inside-returns-in-Some-as_map t c =
    let u = outline_node c.args.tree.now in
    let rows = grammar_rows c.in-MapOf.rows.now in
    let op = openness_of c.in-MapOf.openness in
    let ms = outline_members c.in-Some-as_map.members.now in
    let says : grammar c.args.term.now ≡ map_of rows op = ap grammar c.in-MapOf.is ∙ grammar-MapOf c.in-MapOf.rows c.in-MapOf.openness in
    let judged : IfOk c.fit_rows.result (λ o. RowsJudged ms rows op (reason_if o c.fit_rows.new.draft)) = c.fit_rows.ensures in
    IfOk-weaker c.fit_rows.result _ _ (λ o j. subst (λ x. Judged u x (reason_if o c.fit_rows.new.draft)) (sym says) (judged_map u rows op ms (reason_if o c.fit_rows.new.draft) c.in-Some-as_map.ensures j)) judged

-- ---- items

pub fit_items-returns-then-not-branch : goal.fit_items-returns-then-not-branch
fit_items-returns-then-not-branch t c =
    let xs = c.args.items.now in
    let i = c.items.i in
    let x = c.index-items-i.result in
    let τ = grammar c.args.term.now in
    let r = draft_of c.fits_term.new.draft in
    let at : drop i xs ≡ x ∷ drop (i + 1) xs = nth xs i x (omega (arith, c.items-test.true, c.items.auto.i-end)) c.index-items-i.is in
    let b : Blames (outline_node x) τ r = rw c.if-not-branch.true at c.in_ok-fits_term.ensures in
    subst (λ r. ItemsBlame 0 (outline_items xs) τ r) (sym c.in_ok-go_under.ensures)
    (c.items.invariant.blames (under 0 (step.item i) r)
    (subst (λ ts. ItemsBlame i ts τ (under 0 (step.item i) r)) (sym (item_here outline_node xs i x at))
    (this_item i (outline_node x) (outline_items (drop (i + 1) xs)) τ r b)))

pub fit_items-items-preserved : goal.fit_items-items-preserved
fit_items-items-preserved t c =
    let xs = c.args.items.now in
    let i = c.items.i in
    let x = c.index-items-i.result in
    let τ = grammar c.args.term.now in
    let at : drop i xs ≡ x ∷ drop (i + 1) xs = nth xs i x (omega (arith, c.items-test.true, c.items.auto.i-end)) c.index-items-i.is in
    let here : outline_items (drop i xs) ≡ tree.item (outline_node x) (outline_items (drop (i + 1) xs)) = item_here outline_node xs i x at in
    let fit : Fits (outline_node x) τ = rw c.if-not-branch.false at c.in_ok-fits_term.ensures in
    let less = ap items_levels here in
    record {
      fits = λ f. c.items.invariant.fits (subst (λ ts. AllFit ts τ) (sym here) (an_item (outline_node x) (outline_items (drop (i + 1) xs)) τ fit f));
      blames = λ r b. c.items.invariant.blames r (subst (λ ts. ItemsBlame i ts τ r) (sym here) (later_item i (outline_node x) (outline_items (drop (i + 1) xs)) τ r fit b));
      fewer = omega (arith, less, c.items.invariant.fewer);
    }

pub fit_items-returns : goal.fit_items-returns
fit_items-returns t c =
    let xs = c.args.items.now in
    let long : length xs ≤ c.items.i = omega arith in
    let gone : outline_items (drop c.items.i xs) ≡ tree.no_items = ap outline_items (drop_all c.items.i xs long) in
    c.items.invariant.fits (subst (λ ts. AllFit ts (grammar c.args.term.now)) (sym gone) (no_item (grammar c.args.term.now)))

-- ---- rules and terms

pub fits_rule-returns-then-branch : goal.fits_rule-returns-then-branch
fits_rule-returns-then-branch t c =
    judged_rule (outline_node c.args.tree.now) (name_of c.args.name) (grammar c.term.result.now) c.term.ensures.says (rw c.if-branch.true at c.in_ok-fits_term.ensures)

pub fits_rule-returns : goal.fits_rule-returns
fits_rule-returns t c =
    let u = outline_node c.args.tree.now in
    let n = name_of c.args.name in
    let r = draft_of c.fits_term.new.draft in
    let b : Blames u (grammar c.term.result.now) r = rw c.if-branch.false at c.in_ok-fits_term.ensures in
    subst (λ r. Blames u (rule n) r) (sym c.set_name.ensures) (blames_rule u n (grammar c.term.result.now) r c.term.ensures.says b)

pub fits_term-returns : goal.fits_term-returns
fits_term-returns t c =
    let u = outline_node c.args.tree.now in
    let τ = grammar c.args.term.now in
    let is : draft_of c.set_here.new.self ≡ here τ u = c.set_here.ensures ∙ ap (λ x. here x u) c.term.ensures in
    subst (λ r. Blames u τ r) (sym is) (not_taken u τ (sym c.takes.ensures ∙ c.if-takes.false))

-- ---- pairs

pub fit_pair-returns-then-not-branch : goal.fit_pair-returns-then-not-branch
fit_pair-returns-then-not-branch t c =
    let xs = c.args.items.now in
    let x = c.index-items-0.result in
    let σ = grammar c.args.first.now in
    let τ = grammar c.args.second.now in
    let r = draft_of c.fits_term.new.draft in
    let is = list_of_first outline_node xs x c.requires.two c.index-items-0.is in
    let b : Blames (outline_node x) σ r = rw c.if-not-branch.true at c.in_ok-fits_term.ensures in
    subst (λ r. Blames (tree.list (outline_items xs)) (pair_of σ τ) r) (sym c.in_ok-go_under.ensures)
    (first_blamed (tree.list (outline_items xs)) (outline_node x) (outline_node (get_or xs 1 x)) σ τ r is b)

pub fit_pair-returns-then-not-branch-2 : goal.fit_pair-returns-then-not-branch-2
fit_pair-returns-then-not-branch-2 t c =
    let xs = c.args.items.now in
    let x = c.index-items-0.result in
    let y = c.index-items-1.result in
    let σ = grammar c.args.first.now in
    let τ = grammar c.args.second.now in
    let r = draft_of c.fits_term-2.new.draft in
    let is = list_of_two outline_node xs x y c.requires.two c.index-items-0.is c.index-items-1.is in
    let f : Fits (outline_node x) σ = rw c.if-not-branch.false at c.in_ok-fits_term.ensures in
    let b : Blames (outline_node y) τ r = rw c.if-not-branch-2.true at c.in_ok-fits_term-2.ensures in
    subst (λ r. Blames (tree.list (outline_items xs)) (pair_of σ τ) r) (sym c.in_ok-go_under-2.ensures)
    (second_blamed (tree.list (outline_items xs)) (outline_node x) (outline_node y) σ τ r is f b)

pub fit_pair-returns : goal.fit_pair-returns
fit_pair-returns t c =
    let xs = c.args.items.now in
    let x = c.index-items-0.result in
    let y = c.index-items-1.result in
    let σ = grammar c.args.first.now in
    let τ = grammar c.args.second.now in
    let is = list_of_two outline_node xs x y c.requires.two c.index-items-0.is c.index-items-1.is in
    let f : Fits (outline_node x) σ = rw c.if-not-branch.false at c.in_ok-fits_term.ensures in
    let g : Fits (outline_node y) τ = rw c.if-not-branch-2.false at c.in_ok-fits_term-2.ensures in
    pair_fits (tree.list (outline_items xs)) (outline_node x) (outline_node y) σ τ is f g

-- ---- rows

pub fit_rows-fits_term-requires : goal.fit_rows-fits_term-requires
fit_rows-fits_term-requires t c =
    let rows = c.args.rows.now in
    let i = c.rows.row-index in
    let ready = ready_at rows i no_row c.rows-test.true c.rows.invariant.ready in
    let low = height-ready (get_or rows i no_row).2 ready.0 in
    let less = levels-get_member (get_or rows i no_row).0.now (outline_members c.args.members.now) (outline_node c.in-Some.member.now) (sym c.in-Some.ensures) in
    (omega arith, ready.0)

pub fit_rows-returns-then-not-branch : goal.fit_rows-returns-then-not-branch
fit_rows-returns-then-not-branch t c =
    let rows = c.args.rows.now in
    let i = c.rows.row-index in
    let r = get_or rows i no_row in
    let ms = outline_members c.args.members.now in
    let o = openness_of c.args.openness in
    let others = without (names_of (grammar_rows rows)) ms in
    let n = c.rows.tags in
    let left = grammar_rows (drop (i + 1) rows) in
    let here : grammar_rows (drop i rows) ≡ cddl.row r.0.now (need_of r.1) (grammar r.2) left = ap grammar_rows (row_at rows i no_row c.rows-test.true) in
    let b : Blames (outline_node c.in-Some.member.now) (grammar r.2) (draft_of c.fits_term.new.draft) = rw c.if-not-branch.true at c.in_ok-fits_term-in-Some.ensures in
    let at = under n (step.member r.0.now) (draft_of c.fits_term.new.draft) in
    subst (λ x. RowsBlame o others 0 ms (grammar_rows rows) x) (sym c.in_ok-go_under-in-Some.ensures)
    (c.rows.invariant.blames at (subst (λ rs. RowsBlame o others n ms rs at) (sym here)
    (in_member o others n ms r.0.now (need_of r.1) (grammar r.2) left (outline_node c.in-Some.member.now) (draft_of c.fits_term.new.draft) (sym c.in-Some.ensures) b)))

pub fit_rows-returns-in-Required : goal.fit_rows-returns-in-Required
fit_rows-returns-in-Required t c =
    let rows = c.args.rows.now in
    let i = c.rows.row-index in
    let r = get_or rows i no_row in
    let ms = outline_members c.args.members.now in
    let o = openness_of c.args.openness in
    let others = without (names_of (grammar_rows rows)) ms in
    let n = c.rows.tags in
    let left = grammar_rows (drop (i + 1) rows) in
    let here : grammar_rows (drop i rows) ≡ cddl.row r.0.now (need_of r.1) (grammar r.2) left = ap grammar_rows (row_at rows i no_row c.rows-test.true) in
    let at = missing n r.0.now (grammar r.2) in
    subst (λ x. RowsBlame o others 0 ms (grammar_rows rows) x) (sym c.set_missing.ensures)
    (c.rows.invariant.blames at (subst (λ rs. RowsBlame o others n ms rs at) (sym here)
    (row_missing o others n ms r.0.now (need_of r.1) (grammar r.2) left (ap need_of c.in-Required.is) (sym c.in-None.ensures))))

pub fit_rows-rows-preserved : goal.fit_rows-rows-preserved
fit_rows-rows-preserved t c =
    let rows = c.args.rows.now in
    let i = c.rows.row-index in
    let r = get_or rows i no_row in
    let k = r.0.now in
    let τ = grammar r.2 in
    let ms = outline_members c.args.members.now in
    let op = openness_of c.args.openness in
    let others = without (names_of (grammar_rows rows)) ms in
    let n = c.rows.tags in
    let left = grammar_rows (drop (i + 1) rows) in
    let inv = c.rows.invariant in
    let here : grammar_rows (drop i rows) ≡ cddl.row k (need_of r.1) τ left = ap grammar_rows (row_at rows i no_row c.rows-test.true) in
    let ready = ready_at rows i no_row c.rows-test.true inv.ready in
    let few = more_tags n k in
    elim c.match-find_outline.branch [
      | fit_rows-in-Some+in_ok-fits_term-in-Some+else-not-branch w ↦
          let u = outline_node w.in-Some.member.now in
          let fit : Fits u τ = rw w.if-not-branch.false at w.in_ok-fits_term-in-Some.ensures in
          let more : c.match-find_outline.tags ≡ tags_with n k = w.tags-is ∙ w.tags_with-tags.ensures in
          record {
            fits = λ f. inv.fits (subst (λ rs. RowsFit ms rs) (sym here) (there ms k (need_of r.1) τ left u (sym w.in-Some.ensures) fit f));
            blames = λ x b. inv.blames x (subst (λ rs. RowsBlame op others n ms rs x) (sym here)
                (is_there op others n ms k (need_of r.1) τ left u x (sym w.in-Some.ensures) fit (subst (λ m. RowsBlame op others m ms left x) more b)));
            ready = ready.1;
            few = omega (arith, more, few, inv.few);
          }
      | fit_rows-in-None+in-Optional w ↦
          let may : need_of r.1 ≡ cddl.optional = ap need_of w.in-Optional.is in
          record {
            fits = λ f. inv.fits (subst (λ rs. RowsFit ms rs) (sym here) (subst (λ x. RowsFit ms (cddl.row k x τ left)) (sym may) (absent ms k τ left (sym w.in-None.ensures) f)));
            blames = λ x b. inv.blames x (subst (λ rs. RowsBlame op others n ms rs x) (sym here)
                (subst (λ y. RowsBlame op others n ms (cddl.row k y τ left) x) (sym may)
                (is_absent op others n ms k τ left x (sym w.in-None.ensures) (subst (λ m. RowsBlame op others m ms left x) w.tags-is b))));
            ready = ready.1;
            few = omega (arith, w.tags-is, inv.few);
          }
    ]

pub fit_rows-returns : goal.fit_rows-returns
fit_rows-returns t c =
    let rows = c.args.rows.now in
    let i = c.rows.row-index in
    let ms = outline_members c.args.members.now in
    let op = openness_of c.args.openness in
    let others = without (names_of (grammar_rows rows)) ms in
    let n = c.rows.tags in
    let gone : grammar_rows (drop i rows) ≡ cddl.no_more = ap grammar_rows (drop_all i rows c.rows-test.false) in
    let fits : OthersFit op others → RowsFit ms (grammar_rows rows) × OthersFit op others = λ f. (c.rows.invariant.fits (subst (λ rs. RowsFit ms rs) (sym gone) (no_row_fits ms)), f) in
    let blames : (r : Reason) → OthersBlame op n others r → RowsBlame op others 0 ms (grammar_rows rows) r = λ r b. c.rows.invariant.blames r (subst (λ rs. RowsBlame op others n ms rs r) (sym gone) (in_others op others n ms r b)) in
    let judged : IfOk c.fit_others.result (λ x. OthersJudged op n others (reason_if x c.fit_others.new.draft)) = c.fit_others.ensures in
    IfOk-weaker c.fit_others.result _ _ (λ x j. rows_judged ms (grammar_rows rows) op n (reason_if x c.fit_others.new.draft) fits blames j) judged

-- ---- others

pub fit_others-returns-in-Closed : goal.fit_others-returns-in-Closed
fit_others-returns-in-Closed t c =
    let names = names_of (grammar_rows c.args.rows.now) in
    let ms : List OutlineMember = c.args.members.now.entries.items in
    let i = c.members.member-index in
    let m : OutlineMember = c.member-item.result in
    let u = outline_node m.1 in
    let rest = without names (named_outlines (drop (i + 1) ms)) in
    let op = openness_of c.args.openness in
    let n = c.args.tags in
    let few : i < length ms = omega (arith, c.members-test.true, c.members.auto.member-index-end, ap length c.as_slice-member-items.ensures) in
    let at : m ≡ slice_index_or ms i m = c.member-item.is ∙ ap (λ xs. slice_index_or xs i m) c.as_slice-member-items.ensures in
    let here = other_here names ms i m few at (sym c.is_named.ensures ∙ c.if-is_named.false) in
    let it = unknown n m.0.now u in
    subst (λ x. OthersBlame op n (without names (named_outlines ms)) x) (sym c.set_unknown.ensures) (c.members.invariant.blames it (subst (λ us. OthersBlame op n us it) (sym here)
    (subst (λ o. OthersBlame (openness_of o) n (tree.member m.0.now u rest) it) (sym c.in-Closed.is) (is_unknown n m.0.now u rest))))

pub fit_others-returns-then-not-branch : goal.fit_others-returns-then-not-branch
fit_others-returns-then-not-branch t c =
    let names = names_of (grammar_rows c.args.rows.now) in
    let ms : List OutlineMember = c.args.members.now.entries.items in
    let i = c.members.member-index in
    let m : OutlineMember = c.member-item.result in
    let u = outline_node m.1 in
    let rest = without names (named_outlines (drop (i + 1) ms)) in
    let op = openness_of c.args.openness in
    let n = c.args.tags in
    let few : i < length ms = omega (arith, c.members-test.true, c.members.auto.member-index-end, ap length c.as_slice-member-items.ensures) in
    let at : m ≡ slice_index_or ms i m = c.member-item.is ∙ ap (λ xs. slice_index_or xs i m) c.as_slice-member-items.ensures in
    let here = other_here names ms i m few at (sym c.is_named.ensures ∙ c.if-is_named.false) in
    let r = draft_of c.fits_term.new.draft in
    let it = under n (step.member m.0.now) r in
    let judged : Judged u any (reason_if c.in_ok-fits_term-in-Extensible.field-0 c.fits_term.new.draft) = simp grammar-Any at c.in_ok-fits_term-in-Extensible.ensures in
    let b : Blames u any r = rw c.if-not-branch.true at judged in
    subst (λ x. OthersBlame op n (without names (named_outlines ms)) x) (sym c.in_ok-go_under-in-Extensible.ensures) (c.members.invariant.blames it (subst (λ us. OthersBlame op n us it) (sym here)
    (subst (λ o. OthersBlame (openness_of o) n (tree.member m.0.now u rest) it) (sym c.in-Extensible.is) (in_other n m.0.now u rest r b))))

pub fit_others-members-preserved : goal.fit_others-members-preserved
fit_others-members-preserved t c =
    let names = names_of (grammar_rows c.args.rows.now) in
    let ms : List OutlineMember = c.args.members.now.entries.items in
    let i = c.members.member-index in
    let m : OutlineMember = c.member-item.result in
    let u = outline_node m.1 in
    let rest = without names (named_outlines (drop (i + 1) ms)) in
    let op = openness_of c.args.openness in
    let n = c.args.tags in
    let few : i < length ms = omega (arith, c.members-test.true, c.members.auto.member-index-end, ap length c.as_slice-member-items.ensures) in
    let at : m ≡ slice_index_or ms i m = c.member-item.is ∙ ap (λ xs. slice_index_or xs i m) c.as_slice-member-items.ensures in
    let here = other_here names ms i m few at (sym c.is_named.ensures ∙ c.if-is_named.false) in
    let judged : Judged u any (reason_if c.in_ok-fits_term-in-Extensible.field-0 c.fits_term.new.draft) = simp grammar-Any at c.in_ok-fits_term-in-Extensible.ensures in
    let fit : Fits u any = rw c.if-not-branch.false at judged in
    let inv = c.members.invariant in
    let less = ap (λ es. members_levels (named_outlines es)) (nth ms i m few at) in
    record {
      fits = λ f. inv.fits (subst (λ us. OthersFit op us) (sym here) (subst (λ o. OthersFit (openness_of o) (tree.member m.0.now u rest)) (sym c.in-Extensible.is)
          (others_fit m.0.now u rest fit (subst (λ o. OthersFit (openness_of o) rest) c.in-Extensible.is f))));
      blames = λ r b. inv.blames r (subst (λ us. OthersBlame op n us r) (sym here) (subst (λ o. OthersBlame (openness_of o) n (tree.member m.0.now u rest) r) (sym c.in-Extensible.is)
          (later_other n m.0.now u rest r fit (subst (λ o. OthersBlame (openness_of o) n rest r) c.in-Extensible.is b))));
      fewer = omega (arith, less, inv.fewer);
    }
