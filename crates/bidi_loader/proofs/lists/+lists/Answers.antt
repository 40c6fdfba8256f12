use Rattle.std.proofs.Common.{ap, subst, ◌∙◌}
use Rattle.bidi_cddl.specs.declared.written.Node.TheVariants as node
use Rattle.bidi_loader.specs.Meaning.{bare_group, group_at, rule_named, rules_of, type_at, written_trees}
use Rattle.bidi_loader.specs.Readings.{IsNode, lists_view}
use Rattle.bidi_loader.proofs.NodeLemmas.{group-is, both-is, choice-is, inside-is, bare-is}
use Rattle.bidi_loader.proofs.AlternativeLemmas.{nothing_ok, both_ok, choice_ok, some_ok, named_lists}
use Rattle.bidi_loader.proofs.lists.+lists.Goals as goal

pub lists_at-returns-in-Empty : goal.lists_at-returns-in-Empty
lists_at-returns-in-Empty t c = λ e h.
    let w = c.args.written.now in
    let k = c.args.group in
    nothing_ok c.list_of_nothing.result (rules_of w) (written_trees w) (group_at (written_trees w) k)
    (group-is w k node.Empty (subst (λ n. IsNode w k n) c.in-Empty.is h)) c.list_of_nothing.ensures

pub lists_at-returns-in_ok-seconds-in-Both : goal.lists_at-returns-in_ok-seconds-in-Both
lists_at-returns-in_ok-seconds-in-Both t c = λ e h.
    let w = c.args.written.now in
    let trees = written_trees w in
    let k = c.args.group in
    let b = c.in-Both in
    let first = c.in_ok-firsts-in-Both.ensures e in
    let second = c.in_ok-seconds-in-Both.ensures e in
    both_ok c.pairs.result (rules_of w) trees (group_at trees k) (group_at trees b.first) (group_at trees b.second) c.in_ok-firsts-in-Both.firsts c.in_ok-seconds-in-Both.seconds
    (both-is w k b.first b.second (subst (λ n. IsNode w k n) b.is h) first.0 second.0) first.1 second.1 c.pairs.ensures

pub lists_at-returns-in_ok-seconds-in-Choice : goal.lists_at-returns-in_ok-seconds-in-Choice
lists_at-returns-in_ok-seconds-in-Choice t c = λ e h.
    let w = c.args.written.now in
    let trees = written_trees w in
    let k = c.args.group in
    let b = c.in-Choice in
    let first = c.in_ok-firsts-in-Choice.ensures e in
    let second = c.in_ok-seconds-in-Choice.ensures e in
    choice_ok c.one_or_other.result (rules_of w) trees (group_at trees k) (group_at trees b.first) (group_at trees b.second) c.in_ok-firsts-in-Choice.firsts c.in_ok-seconds-in-Choice.seconds
    (choice-is w k b.first b.second (subst (λ n. IsNode w k n) b.is h) first.0 second.0) first.1 second.1 c.one_or_other.ensures

pub lists_at-returns-in_ok-found-in-Inside : goal.lists_at-returns-in_ok-found-in-Inside
lists_at-returns-in_ok-found-in-Inside t c = λ e h.
    let w = c.args.written.now in
    let trees = written_trees w in
    let k = c.args.group in
    let b = c.in-Inside in
    let inner = c.in_ok-found-in-Inside.ensures e in
    some_ok c.maybe.result (rules_of w) trees (group_at trees k) (group_at trees b.inner) b.occurs c.in_ok-found-in-Inside.found
    (inside-is w k b.inner b.occurs (subst (λ n. IsNode w k n) b.is h) inner.0) inner.1 c.maybe.ensures

pub lists_at-returns-in_ok-found-in-Bare : goal.lists_at-returns-in_ok-found-in-Bare
lists_at-returns-in_ok-found-in-Bare t c = λ e h.
    let w = c.args.written.now in
    let trees = written_trees w in
    let k = c.args.group in
    let b = c.in-Bare in
    let inner = c.in_ok-found-in-Bare.ensures e in
    some_ok c.maybe-in-Bare.result (rules_of w) trees (group_at trees k) (bare_group (type_at trees b.node)) b.occurs c.in_ok-found-in-Bare.found
    (bare-is w k b.node b.occurs (subst (λ n. IsNode w k n) b.is h) inner.0) inner.1 c.maybe-in-Bare.ensures

pub lists_named-returns : goal.lists_named-returns
lists_named-returns t c = λ e.
    let w = c.args.written.now in
    let trees = written_trees w in
    let name = c.in-Some.name in
    let found = c.in_ok-found.ensures e in (
      c.in-Some.ensures.0,
      named_lists w c.args.node c.in-Some-group_in.group name c.in-Some-rule_named.rule.now (lists_view trees c.in_ok-found.found) c.in-Some.ensures.1
          (c.in-Some-rule_named.ensures ∙ ap (λ rs. rule_named name.now rs) c.deref.ensures.value) (c.in-Some-group_in.ensures trees) found.1,
    )
