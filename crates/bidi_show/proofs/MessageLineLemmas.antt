-- The line of a message is that of its tree.
use Rattle.std.proofs.Common.{◌≡◌, ◌∙◌, ℕ, List, ◌∷◌, ◌++◌, codes, decimal, String, Global, string_bytes, Result, Ok, Err, IfOk}
use Rattle.std.proofs.Common.{◌⊎◌, inl, inr, true, true≢false, is_some, IfErr, Option, option_map, unwrap_or, Some, None, refl, sym, ap, ap₂, subst}
use Rattle.std.specs.Prelude.{IfSome}
use Rattle.std.specs.Result.{result_err}
use Rattle.bidi_tree.specs.Node.{Node}
use Rattle.bidi_tree.specs.declared.number.JsUint.{JsUint}
use Rattle.bidi_tree.specs.Text.{compact_text}
use Rattle.bidi_shape.specs.Name.{message as message_name, command_response, error_response, event as event_name}
use Rattle.bidi_shape.specs.Term.{rule, ◌or◌}
use Rattle.bidi_shape.specs.Fits.{Fits}
use Rattle.bidi_shape.proofs.FitsLemmas.{either_inside, rule_inside}
use Rattle.bidi_methods.specs.Method.{method_text}
use Rattle.bidi_methods.specs.CommandData.{method_of}
use Rattle.bidi_methods.specs.EventName.{event_name_text}
use Rattle.bidi_methods.specs.EventData.{event_of}
use Rattle.bidi_messages.specs.Reading.{IsMisfit}
use Rattle.bidi_messages.specs.declared.text.MessageFault.{MessageFault}
use Rattle.bidi_messages.specs.declared.text.MessageFault.TheVariants.{NoFit}
use Rattle.bidi_messages.specs.Verdict as judged
use Rattle.bidi_messages.specs.Verdict.{echoed_id}
use Rattle.bidi_messages.specs.contracts.command.CommandShape.TheImpl as command
use Rattle.bidi_messages.specs.contracts.message.ResponseShape.TheImpl as response
use Rattle.bidi_messages.specs.contracts.message.ErrorResponseShape.TheImpl as error
use Rattle.bidi_messages.specs.contracts.event.EventShape.TheImpl as event
use Rattle.bidi_messages.specs.contracts.message.MessageShape.TheImpl as message
use Rattle.bidi_messages.specs.declared.message.Message.{Message}
use Rattle.bidi_messages.specs.declared.message.Message.TheVariants.{Response as AsResponse, Error as AsError, Event as AsEvent}
use Rattle.bidi_messages.specs.declared.command.Command.{Command}
use Rattle.bidi_messages.specs.declared.message.Response.{Response}
use Rattle.bidi_messages.specs.declared.message.ErrorResponse.{ErrorResponse}
use Rattle.bidi_messages.specs.declared.event.Event.{Event}
use Rattle.bidi_messages.proofs.CommandLemmas.{id_in-tree, method_in-tree}
use Rattle.bidi_messages.proofs.MessageLemmas.{echoed_id-response, echoed_id-error, method_in-event}
use Rattle.bidi_show.specs.MessageLines.{Taken, HasTree, HasVerdict, Refuses, refused, verdict_shown}
use Rattle.bidi_show.specs.MessageLines.{id_text, IsMessageLine, of_response, of_error, of_event, is_message}
use Rattle.bidi_lines.specs.declared.side.Side.TheVariants.{Local, Remote}
use Rattle.bidi_lines.specs.declared.side.Side.{Side}

pub accepted_shown : (c : Command) (line : List ℕ)
    → line ≡ codes "accepted " ++ decimal c.id.value ++ 32 ∷ method_text (method_of c.«data») ++ 32 ∷ compact_text (command.ghosts.shape.tree_of c)
    → Taken line ≡ verdict_shown (judged.Accepted (command.ghosts.shape.tree_of c))
accepted_shown c line is =
    let t = command.ghosts.shape.tree_of c in
    ap Taken (is ∙ ap₂ (λ n m. codes "accepted " ++ decimal n ++ 32 ∷ m ++ 32 ∷ compact_text t) (sym (id_in-tree c)) (sym (method_in-tree c)))

pub response_shown : (r : Response) (line : List ℕ) → response.ghosts.shape.well r
    → line ≡ codes "response " ++ decimal r.id.value ++ 32 ∷ compact_text (response.ghosts.shape.tree_of r)
    → IsMessageLine (response.ghosts.shape.tree_of r) line
response_shown r line well is =
    let t = response.ghosts.shape.tree_of r in
    let id = ap (λ o. unwrap_or o 0) (echoed_id-response r) in
    subst (IsMessageLine t) (sym (is ∙ ap (λ n. codes "response " ++ decimal n ++ 32 ∷ compact_text t) (sym id)))
    (of_response (response.ghosts.shape.fits r well))

pub error_shown : (e : ErrorResponse) (line : List ℕ) → error.ghosts.shape.well e
    → line ≡ codes "error " ++ id_text (option_map (λ n. n.value) e.id) ++ 32 ∷ compact_text (error.ghosts.shape.tree_of e)
    → IsMessageLine (error.ghosts.shape.tree_of e) line
error_shown e line well is =
    let t = error.ghosts.shape.tree_of e in
    subst (IsMessageLine t) (sym (is ∙ ap (λ o. codes "error " ++ id_text o ++ 32 ∷ compact_text t) (sym (echoed_id-error e))))
    (of_error (error.ghosts.shape.fits e well))

pub event_shown : (e : Event) (line : List ℕ) → event.ghosts.shape.well e
    → line ≡ codes "event " ++ event_name_text (event_of e.«data») ++ 32 ∷ compact_text (event.ghosts.shape.tree_of e)
    → IsMessageLine (event.ghosts.shape.tree_of e) line
event_shown e line well is =
    let t = event.ghosts.shape.tree_of e in
    subst (IsMessageLine t) (sym (is ∙ ap (λ m. codes "event " ++ m ++ 32 ∷ compact_text t) (sym (method_in-event e))))
    (of_event (event.ghosts.shape.fits e well))

-- ---- of a message that is one of the three

told : {E : Type 0} {m n : Message} {P : String Global → Type 0} (r : Result (String Global) E)
    → ((s : String Global) → P s → IsMessageLine (message.ghosts.shape.tree_of n) (string_bytes s)) → m ≡ n
    → IfOk r P → IfOk r (λ s. IsMessageLine (message.ghosts.shape.tree_of m) (string_bytes s))
told (Ok s) go is h = subst (λ x. IsMessageLine (message.ghosts.shape.tree_of x) (string_bytes s)) (sym is) (go s h)
told (Err e) go is h = tt

module _ {E : Type 0} (r : Result (String Global) E) (m : Message) (well : message.ghosts.shape.well m) where
  pub response_told : (v : Response) → m ≡ AsResponse v
      → IfOk r (λ s. string_bytes s ≡ codes "response " ++ decimal v.id.value ++ 32 ∷ compact_text (response.ghosts.shape.tree_of v))
      → IfOk r (λ s. IsMessageLine (message.ghosts.shape.tree_of m) (string_bytes s))
  response_told v is h = told r (λ s. response_shown v (string_bytes s) (subst message.ghosts.shape.well is well)) is h

  pub error_told : (v : ErrorResponse) → m ≡ AsError v
      → IfOk r (λ s. string_bytes s ≡ codes "error " ++ id_text (option_map (λ n. n.value) v.id) ++ 32 ∷ compact_text (error.ghosts.shape.tree_of v))
      → IfOk r (λ s. IsMessageLine (message.ghosts.shape.tree_of m) (string_bytes s))
  error_told v is h = told r (λ s. error_shown v (string_bytes s) (subst message.ghosts.shape.well is well).0) is h

  pub event_told : (v : Event) → m ≡ AsEvent v
      → IfOk r (λ s. string_bytes s ≡ codes "event " ++ event_name_text (event_of v.«data») ++ 32 ∷ compact_text (event.ghosts.shape.tree_of v))
      → IfOk r (λ s. IsMessageLine (message.ghosts.shape.tree_of m) (string_bytes s))
  event_told v is h = told r (λ s. event_shown v (string_bytes s) (subst message.ghosts.shape.well is well).0.0) is h

-- ---- a value that fits a message has a line

has_line : (t : Node) → Fits t (rule command_response) ⊎ Fits t (rule error_response or rule event_name) → (text : List ℕ) × IsMessageLine t text
has_line t (inl f) = (_, of_response f)
has_line t (inr f) = elim (either_inside f) [ inl g ↦ (_, of_error g) | inr g ↦ (_, of_event g) ]

-- so nothing is refused of the text that has its tree
pub nothing_refused : (t : Node) → Fits t (rule message_name) → (line : List ℕ) → HasTree line t → Refuses Remote line None
nothing_refused t f line read =
    let p = has_line t (either_inside (rule_inside f)) in
    (Taken p.0, is_message t p.0 read p.1, refl)

-- nor is anything of one that is known as a response
pub known_refused : (t : Node) (o : Option JsUint) → is_some o ≡ true → IfSome o (λ id. Fits t (rule command_response))
    → (line : List ℕ) → HasTree line t → Refuses Remote line None
known_refused t None is f line read = absurd (true≢false (sym is))
known_refused t (Some id) is f line read = (Taken _, is_message t _ read (of_response f), refl)

-- nor of one that a message was made of
pub read_refused : (t : Node) (r : Result Message MessageFault) → IfOk r (λ m. (message.ghosts.shape.tree_of m ≡ t) × message.ghosts.shape.well m)
    → result_err r ≡ None → (line : List ℕ) → HasTree line t → Refuses Remote line None
read_refused t (Ok m) h is = nothing_refused t (subst (λ u. Fits u (rule message_name)) h.0 (message.ghosts.shape.fits m h.1))
read_refused t (Err e) h is = absurd cc

-- if no message was made, the value fits none
pub no_message : (t : Node) (r : Result Message MessageFault) (e : MessageFault)
    → IfErr r (λ f. IsMisfit f t) → result_err r ≡ Some e → e ≡ NoFit → Fits t (rule message_name) → ⊥
no_message t (Ok m) e h is same = absurd cc
no_message t (Err f) e h is same = let fault : f ≡ NoFit = cc in subst (λ x. IsMisfit x t) fault h

-- the line of a response by its id
pub known_shown : (t : Node) (n : ℕ) (line : List ℕ) → Fits t (rule command_response) → echoed_id t ≡ Some n
    → line ≡ codes "response " ++ decimal n ++ 32 ∷ compact_text t → IsMessageLine t line
known_shown t n line f id is =
    subst (IsMessageLine t) (sym (is ∙ ap (λ o. codes "response " ++ decimal (unwrap_or o 0) ++ 32 ∷ compact_text t) (sym id))) (of_response f)

-- a refusal of a verdict is that of the line that has the verdict
pub verdict_refused : {E : Type 0} (side : Side) (line : List ℕ) (v : judged.Verdict) (r : Result (Option (String Global)) E) → side ≡ Local → HasVerdict line v
    → IfOk r (λ o. option_map string_bytes o ≡ refused (verdict_shown v)) → IfOk r (λ o. Refuses side line (option_map string_bytes o))
verdict_refused side line v (Ok o) is h e = subst (λ s. Refuses s line (option_map string_bytes o)) (sym is) (verdict_shown v, (v, h, refl), e)
verdict_refused side line v (Err x) is h e = tt
