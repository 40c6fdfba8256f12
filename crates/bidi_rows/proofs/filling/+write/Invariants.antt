use Rattle.std.proofs.Common.{◌≡◌, ◌++◌, drop}
use Rattle.json.specs.Tree.{items_tokens, members_tokens, ItemsHaveNumbers, MembersHaveNumbers}
use Rattle.bidi_rows.specs.Part.{parts_of, members_of}
use Rattle.bidi_rows.specs.Filling.{filled_items, filled_members, filling_in}
use Rattle.bidi_rows.proofs.filling.+write.Given as goal

abbrev pub invariant-write_items-loop-part : goal.invariant-write_items-loop-part
invariant-write_items-loop-part l = record {
  before : l.out.before ≡ l.fn.out.before;
  tokens : l.fn.out.tokens ++ items_tokens (filled_items (filling_in l.filling) (parts_of l.parts.items))
      ≡ l.out.tokens ++ items_tokens (filled_items (filling_in l.filling) (parts_of (drop l.part-index l.parts.items)));
  numbers : ItemsHaveNumbers (parts_of (drop l.part-index l.parts.items));
}

abbrev pub invariant-write_members-loop-part : goal.invariant-write_members-loop-part
invariant-write_members-loop-part l = record {
  before : l.out.before ≡ l.fn.out.before;
  tokens : l.fn.out.tokens ++ members_tokens (filled_members (filling_in l.filling) (members_of l.parts.items))
      ≡ l.out.tokens ++ members_tokens (filled_members (filling_in l.filling) (members_of (drop l.part-index l.parts.items)));
  numbers : MembersHaveNumbers (members_of (drop l.part-index l.parts.items));
}
