-- What has told of the lines of an input one by one, and what it has told.
use Rattle.std.specs.Prelude.{◌≡◌, ℕ, List, [], length, map, nat_lt, string_bytes, Option, Some, None}
use Rattle.bidi_local.specs.View.{waiting_in}
use Rattle.bidi_remarks.specs.declared.telling.Told.{Told}
use Rattle.bidi_why.specs.Summary.{Entry, any_fault}
use Rattle.bidi_why.specs.Telling.{TellsEach}
use Rattle.bidi_why.specs.Conversing.{Converses, Kept, Standing, Unanswered, any_id, no_id, of_command, of_id}
use Rattle.bidi_why.specs.declared.ids.Kept as code
use Rattle.bidi_why.specs.declared.ids.Kept.TheVariants.{Any, Command, Id, Null}
use Rattle.bidi_why.specs.declared.unanswered.Unanswered as code_unanswered
use Rattle.bidi_why.specs.declared.one_side.OneSide.{OneSide}
use Rattle.bidi_why.specs.declared.conversation.Conversation.{Conversation}

-- the text that is told
abbrev pub text_in : Option Told → List ℕ
text_in None = []
text_in (Some t) = t.text.items

-- Since it was the first it has told of these lines of its end by this text.
pub record HasExplained (first : OneSide) (now : OneSide) (lines : List (List ℕ)) (text : List ℕ) (told : List Entry) : Type 0 where
  pub form : now.form ≡ first.form
  pub side : now.side ≡ first.side
  pub only : now.profile_only ≡ first.profile_only
  pub tells : TellsEach first.form first.side first.profile_only 1 lines text told
  pub is_some : any_fault told ≡ nat_lt 0 (length text)

-- an answer that the code keeps
abbrev pub kept_in : code.Kept → Kept
kept_in Any = any_id
kept_in Null = no_id
kept_in (Id id) = of_id id
kept_in (Command id method n) = of_command id (string_bytes method) n

-- the answers that the code keeps
abbrev pub all_kept_in : List code.Kept → List Kept
all_kept_in answers = map kept_in answers

-- what stands behind the lines that it was told
abbrev pub standing_of : Conversation → Standing
standing_of c = record { waiting = waiting_in c.end; lines = c.lines.items; refused = all_kept_in c.refused.items }

-- a command that was never answered, in the code
abbrev pub unanswered_in : code_unanswered.Unanswered → Unanswered
unanswered_in c = record { id = c.id; method = c.method.now; line = c.line }

-- Since it was the first it has told of these lines, which are the beginning of a conversation, by this text.
pub record HasConversed (first : Conversation) (now : Conversation) (lines : List (List ℕ)) (text : List ℕ) (told : List Entry) : Type 0 where
  pub form : now.form ≡ first.form
  pub only : now.profile_only ≡ first.profile_only
  pub tells : Converses first.form first.profile_only lines text told (standing_of now)
