use Rattle.std.proofs.Common.{rules, not, string_bytes, ap, ◌∙◌}
use Rattle.std.proofs.lemmas.Map.Entries.{filter_from_retain_pairs}
use Rattle.bidi_tree.specs.View.{node, members_node}
use Rattle.bidi_tree.proofs.TreeLemmas.{Entry}
use Rattle.bidi_lenient.specs.Names.{is_capability}
use Rattle.bidi_lenient.proofs.KeptLemmas.{members_kept-filter}
use Rattle.bidi_lenient.proofs.capabilities.keep_members.Goals as goal

pub returns : goal.returns
returns c =
    let kept = filter_from_retain_pairs _ (λ _. Unit {0}) (λ (e : Entry). not (is_capability (string_bytes e.0) (node e.1)))
    (λ g k v b w h _ s. search rules) _ _ _ tt c.retain.ensures.filtered in
    ap members_node kept ∙ members_kept-filter is_capability c.args.members.now.entries
