-- The value of a command's text, read with the limits of rows, is what the text is read as with the limits of commands.
use Rattle.std.proofs.Common.{◌≡◌, ◌∙◌, ◌≤◌, ◌<◌, ◌-◌, ℕ, zero, suc, Bool, true, false, ◌&&◌, max, is_some, List, [], ◌++◌, length, Option, Some, None, refl, sym, ap, arith}
use Rattle.std.specs.Prelude.{nat_le, nat_lt, option_and_then}
use Rattle.std.proofs.lemmas.Bool.Decides.{nat_tests}
use Rattle.std.proofs.lemmas.List.{append-nil}
use Rattle.json.specs.Json as json
use Rattle.json.specs.Json.{document}
use Rattle.json.specs.Lex.{tokens}
use Rattle.json.specs.Token.{Token}
use Rattle.json.specs.Tree.{depth, items_depth, members_depth, json_tokens}
use Rattle.json.proofs.Printed.Trees.{value-json_tokens}
use Rattle.json.proofs.Unique.Spelling.{tokens-document}
use Rattle.bidi_tree.specs.Kind.{whole_in}
use Rattle.bidi_tree.specs.Node.{Node}
use Rattle.bidi_tree.specs.Json.{number_in, json_node, is_readable, are_readable, members_are_readable, stands_whole, items_stand_whole, members_stand_whole}
use Rattle.bidi_tree.proofs.JsonLemmas.{tree_of-parsed, within}
use Rattle.bidi_shape.specs.Limits.{most_bytes}
use Rattle.bidi_messages.specs.Verdict.{command_tree}

both : (b c : Bool) → (b && c) ≡ true → (b ≡ true) × (c ≡ true)
both true true h = (refl, refl)
both true false h = cc
both false c h = cc

and-true : (b c : Bool) → b ≡ true → c ≡ true → (b && c) ≡ true
and-true true true b c = refl
and-true true false b c = cc
and-true false c b d = cc

some-whole : {A : Type 0} (f : Option A → Node) → is_some (whole_in (f None)) ≡ false → (o : Option A) → is_some (whole_in (f o)) ≡ true → is_some o ≡ true
some-whole f none None h = sym none ∙ h
some-whole f none (Some n) h = refl

-- a value of whole numbers is readable
mutual
  readable : (j : json.Json) (n : ℕ) → stands_whole j n ≡ true → is_readable j ≡ true
  readable json.null n h = refl
  readable (json.boolean b) n h = refl
  readable (json.number s) n h = some-whole number_in refl _ h
  readable (json.string s) n h = refl
  readable (json.array js) n h = items_readable js (n - 1) (both (nat_lt 0 n) (items_stand_whole js (n - 1)) h).1
  readable (json.object ms) n h = members_readable ms (n - 1) (both (nat_lt 0 n) (members_stand_whole ms (n - 1)) h).1

  items_readable : (js : json.Items) (n : ℕ) → items_stand_whole js n ≡ true → are_readable js ≡ true
  items_readable json.no_items n h = refl
  items_readable (json.item j js) n h =
      let parts = both (stands_whole j n) (items_stand_whole js n) h in and-true (is_readable j) (are_readable js) (readable j n parts.0) (items_readable js n parts.1)

  members_readable : (ms : json.Members) (n : ℕ) → members_stand_whole ms n ≡ true → members_are_readable ms ≡ true
  members_readable json.no_members n h = refl
  members_readable (json.member k j ms) n h =
      let parts = both (stands_whole j n) (members_stand_whole ms n) h in and-true (is_readable j) (members_are_readable ms) (readable j n parts.0) (members_readable ms n parts.1)

above : (n d : ℕ) → nat_lt 0 n ≡ true → d ≤ n - 1 → suc d ≤ n
above n d h le = let less : 0 < n = grind (arith, nat_tests) in omega (arith, less, le)

most : (a b n : ℕ) → a ≤ n → b ≤ n → max a b ≤ n
most a b n p q = omega (arith, p, q)

-- and it nests no deeper than it may
mutual
  shallow : (j : json.Json) (n : ℕ) → stands_whole j n ≡ true → depth j ≤ n
  shallow json.null n h = omega arith
  shallow (json.boolean b) n h = omega arith
  shallow (json.number s) n h = omega arith
  shallow (json.string s) n h = omega arith
  shallow (json.array js) n h =
      let parts = both (nat_lt 0 n) (items_stand_whole js (n - 1)) h in above n (items_depth js) parts.0 (items_shallow js (n - 1) parts.1)
  shallow (json.object ms) n h =
      let parts = both (nat_lt 0 n) (members_stand_whole ms (n - 1)) h in above n (members_depth ms) parts.0 (members_shallow ms (n - 1) parts.1)

  items_shallow : (js : json.Items) (n : ℕ) → items_stand_whole js n ≡ true → items_depth js ≤ n
  items_shallow json.no_items n h = omega arith
  items_shallow (json.item j js) n h =
      let parts = both (stands_whole j n) (items_stand_whole js n) h in most (depth j) (items_depth js) n (shallow j n parts.0) (items_shallow js n parts.1)

  members_shallow : (ms : json.Members) (n : ℕ) → members_stand_whole ms n ≡ true → members_depth ms ≤ n
  members_shallow json.no_members n h = omega arith
  members_shallow (json.member k j ms) n h =
      let parts = both (stands_whole j n) (members_stand_whole ms n) h in most (depth j) (members_depth ms) n (shallow j n parts.0) (members_shallow ms n parts.1)

-- the text of a command is read as the value that it has
pub read_as : (s : List ℕ) (j : json.Json) → document s ≡ Some j → (nat_le (length s) most_bytes && stands_whole j 127) ≡ true
    → command_tree s ≡ Some (json_node j)
read_as s j is fits =
    let parts = both (nat_le (length s) most_bytes) (stands_whole j 127) fits in
    let same : tokens s ≡ json_tokens j ++ [] = tokens-document s j is ∙ sym (append-nil (json_tokens j)) in
    let found : json.value 127 (tokens s) ≡ Some (j, []) = ap (json.value 127) same ∙ value-json_tokens j 127 [] (shallow j 127 parts.1) in
    within (Some most_bytes) s (json_node j) parts.0
    (tree_of-parsed s j (ap (option_and_then (λ p. json.if_last p.0 p.1)) found) (readable j 127 parts.1))
