use Rattle.std.proofs.Common.{◌≡◌, ◌++◌, drop, false}
use Rattle.bidi_tree.specs.Node.{items_have_odd, members_have_odd}
use Rattle.bidi_tree.specs.Data.{items_tokens, members_tokens}
use Rattle.bidi_tree.specs.Outline.{outline_items, outline_members, named_outlines}
use Rattle.bidi_tree.proofs.writing.+write.Given as goal

abbrev pub invariant-write_items-loop-item : goal.invariant-write_items-loop-item
invariant-write_items-loop-item l = record {
  before : l.out.before ≡ l.fn.out.before;
  tokens : l.fn.out.tokens ++ items_tokens (outline_items l.items.items) ≡ l.out.tokens ++ items_tokens (outline_items (drop l.item-index l.items.items));
  no_odd : items_have_odd (outline_items (drop l.item-index l.items.items)) ≡ false;
}

abbrev pub invariant-write_members-loop-member : goal.invariant-write_members-loop-member
invariant-write_members-loop-member l = record {
  before : l.out.before ≡ l.fn.out.before;
  tokens : l.fn.out.tokens ++ members_tokens (outline_members l.members)
      ≡ l.out.tokens ++ members_tokens (named_outlines (drop l.member-index l.members.entries.items));
  no_odd : members_have_odd (named_outlines (drop l.member-index l.members.entries.items)) ≡ false;
}
