-- The causes for which steps of a page have no effect. Defined by this project.
use Rattle.bidi_params.specs.declared.error_code.ErrorCode.{ErrorCode}
use Rattle.bidi_params.specs.declared.error_code.ErrorCode.TheVariants.{InvalidArgument, NoSuchFrame, UnknownError}
use Rattle.bidi_sessions.specs.Step.{PageStep, Frame, Unframe, Log, TableRow}
use Rattle.bidi_page.specs.declared.cause.Cause.{Cause}
use Rattle.bidi_page.specs.declared.cause.Cause.TheVariants.{UnknownContext, NotAbsoluteUrl, NoRoom, TopLevel, NoRow, FullTable}

-- the cause for the error code with which the browser refuses this step
-- example: `frame` with `no such frame` has the cause: an unknown context
abbrev pub cause_of : PageStep → ErrorCode → Cause
cause_of (Frame id url) NoSuchFrame = UnknownContext
cause_of (Frame id url) InvalidArgument = NotAbsoluteUrl
cause_of (Frame id url) code = NoRoom
cause_of (Unframe id) NoSuchFrame = UnknownContext
cause_of (Unframe id) code = TopLevel
cause_of (Log id level text) code = UnknownContext
cause_of (TableRow text) UnknownError = FullTable
cause_of (TableRow text) code = NoRow
