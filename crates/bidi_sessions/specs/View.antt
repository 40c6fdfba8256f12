-- What contracts see of a step and of what is sent: numbers, and the bytes of strings.
use Rattle.std.specs.Prelude.{ℕ, List, [], ◌∷◌, Option, Some, None, string_bytes}
use Rattle.bidi_sessions.specs.declared.step.Step as declared_step
use Rattle.bidi_sessions.specs.declared.step.Step.TheVariants as step_in_code
use Rattle.bidi_sessions.specs.declared.step.PageStep as declared_page
use Rattle.bidi_sessions.specs.declared.step.PageStep.TheVariants as page_in_code
use Rattle.bidi_sessions.specs.declared.step.SentText as declared_text
use Rattle.bidi_sessions.specs.declared.step.SentText.TheVariants as text_in_code
use Rattle.bidi_sessions.specs.declared.step.Sent as declared_sent
use Rattle.bidi_sessions.specs.declared.step.Sent.TheVariants as sent_in_code
use Rattle.bidi_sessions.specs.Step as step
use Rattle.bidi_sessions.specs.Sent as sent

-- the step of a page, with the bytes of its strings
abbrev pub page_of : declared_page.PageStep → step.PageStep
page_of (page_in_code.Frame context url) = step.Frame (string_bytes context) (string_bytes url)
page_of (page_in_code.Unframe context) = step.Unframe (string_bytes context)
page_of (page_in_code.Log context level text) = step.Log (string_bytes context) level (string_bytes text)
page_of (page_in_code.TableRow text) = step.TableRow (string_bytes text)

-- the step, with the bytes of its strings
abbrev pub step_of : declared_step.Step → step.Step
step_of (step_in_code.At n) = step.At n.value
step_of (step_in_code.Open c resource) = step.Open c.value (string_bytes resource)
step_of (step_in_code.Drop c) = step.Drop c.value
step_of (step_in_code.Text c text) = step.Text c.value (string_bytes text)
step_of (step_in_code.NotText c) = step.NotText c.value
step_of (step_in_code.Page page) = step.Page (page_of page)

-- the bytes of the text of a message
abbrev pub text_of : declared_text.SentText → List ℕ
text_of (text_in_code.Own text) = string_bytes text
text_of (text_in_code.Shared text) = string_bytes text.value

-- what is sent, with the bytes of its text
abbrev pub sent_of : declared_sent.Sent → sent.Sent
sent_of (sent_in_code.Text c text) = sent.Text c.value (text_of text)
sent_of (sent_in_code.Close c) = sent.Close c.value
sent_of (sent_in_code.Opened c) = sent.Opened c.value
sent_of (sent_in_code.Denied c) = sent.Denied c.value
sent_of (sent_in_code.Lost c) = sent.Lost c.value
sent_of sent_in_code.NoEffect = sent.NoEffect

-- the one thing that is sent, or nothing
abbrev pub sent_if : Option declared_sent.Sent → List sent.Sent
sent_if None = []
sent_if (Some x) = sent_of x ∷ []
