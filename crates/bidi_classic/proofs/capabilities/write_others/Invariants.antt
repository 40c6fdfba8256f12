use Rattle.std.proofs.Common.{◌≡◌, ◌++◌, drop}
use Rattle.json.specs.Tree.{MembersHaveNumbers, members_tokens}
use Rattle.json.specs.Value.{members_view}
use Rattle.bidi_classic.specs.Replies.{address_name, without}
use Rattle.bidi_classic.proofs.capabilities.write_others.Given as goal

-- what is written, and the other properties that are left, are all that is to be written
abbrev pub invariant-loop-member : goal.invariant-loop-member
invariant-loop-member l = record {
  written : l.out.tokens ++ members_tokens (without address_name (members_view (drop l.member-index l.members.items)))
      ≡ l.fn.out.tokens ++ members_tokens (without address_name (members_view l.members.items));
  numbers : MembersHaveNumbers (members_view (drop l.member-index l.members.items));
  before : l.out.before ≡ l.fn.out.before;
}
