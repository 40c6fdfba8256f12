-- The texts of the error codes. After WebDriver BiDi, "Errors"; the list is the profile's.
use Rattle.std.specs.Prelude.{◌≡◌, ℕ, List, [], ◌∷◌, Some, codes, refl}
use Rattle.bidi_shape.specs.Name.{error_code}
use Rattle.bidi_shape.specs.Term.{rule}
use Rattle.bidi_shape.specs.WordLaws.{Word, Words, word, value_named}
use Rattle.bidi_params.specs.declared.error_code.ErrorCode.{ErrorCode}
use Rattle.bidi_params.specs.declared.error_code.ErrorCode.TheVariants.{InvalidArgument, InvalidSelector, InvalidSessionId}
use Rattle.bidi_params.specs.declared.error_code.ErrorCode.TheVariants.{MoveTargetOutOfBounds, NoSuchAlert, NoSuchElement, NoSuchFrame}
use Rattle.bidi_params.specs.declared.error_code.ErrorCode.TheVariants.{NoSuchHandle, NoSuchHistoryEntry, NoSuchIntercept, NoSuchNode}
use Rattle.bidi_params.specs.declared.error_code.ErrorCode.TheVariants.{NoSuchRequest, NoSuchScript, NoSuchStoragePartition}
use Rattle.bidi_params.specs.declared.error_code.ErrorCode.TheVariants.{NoSuchUserContext, SessionNotCreated, UnableToCaptureScreen}
use Rattle.bidi_params.specs.declared.error_code.ErrorCode.TheVariants.{UnableToCloseBrowser, UnableToSetCookie, UnableToSetFileInput}
use Rattle.bidi_params.specs.declared.error_code.ErrorCode.TheVariants.{UnknownCommand, UnknownError, UnsupportedOperation}

-- the string of each error code
abbrev pub error_code_text : ErrorCode → List ℕ
error_code_text InvalidArgument = codes "invalid argument"
error_code_text InvalidSelector = codes "invalid selector"
error_code_text InvalidSessionId = codes "invalid session id"
error_code_text MoveTargetOutOfBounds = codes "move target out of bounds"
error_code_text NoSuchAlert = codes "no such alert"
error_code_text NoSuchElement = codes "no such element"
error_code_text NoSuchFrame = codes "no such frame"
error_code_text NoSuchHandle = codes "no such handle"
error_code_text NoSuchHistoryEntry = codes "no such history entry"
error_code_text NoSuchIntercept = codes "no such intercept"
error_code_text NoSuchNode = codes "no such node"
error_code_text NoSuchRequest = codes "no such request"
error_code_text NoSuchScript = codes "no such script"
error_code_text NoSuchStoragePartition = codes "no such storage partition"
error_code_text NoSuchUserContext = codes "no such user context"
error_code_text SessionNotCreated = codes "session not created"
error_code_text UnableToCaptureScreen = codes "unable to capture screen"
error_code_text UnableToCloseBrowser = codes "unable to close browser"
error_code_text UnableToSetCookie = codes "unable to set cookie"
error_code_text UnableToSetFileInput = codes "unable to set file input"
error_code_text UnknownCommand = codes "unknown command"
error_code_text UnknownError = codes "unknown error"
error_code_text UnsupportedOperation = codes "unsupported operation"

-- the error codes after the first, each with its string
abbrev pub error_code_rest : List (Word ErrorCode)
error_code_rest =
    word error_code_text InvalidSelector
    ∷ word error_code_text InvalidSessionId
    ∷ word error_code_text MoveTargetOutOfBounds
    ∷ word error_code_text NoSuchAlert
    ∷ word error_code_text NoSuchElement
    ∷ word error_code_text NoSuchFrame
    ∷ word error_code_text NoSuchHandle
    ∷ word error_code_text NoSuchHistoryEntry
    ∷ word error_code_text NoSuchIntercept
    ∷ word error_code_text NoSuchNode
    ∷ word error_code_text NoSuchRequest
    ∷ word error_code_text NoSuchScript
    ∷ word error_code_text NoSuchStoragePartition
    ∷ word error_code_text NoSuchUserContext
    ∷ word error_code_text SessionNotCreated
    ∷ word error_code_text UnableToCaptureScreen
    ∷ word error_code_text UnableToCloseBrowser
    ∷ word error_code_text UnableToSetCookie
    ∷ word error_code_text UnableToSetFileInput
    ∷ word error_code_text UnknownCommand
    ∷ word error_code_text UnknownError
    ∷ word error_code_text UnsupportedOperation
    ∷ []

-- the string of each error code names it
pub error_code_named : (c : ErrorCode) → value_named (word error_code_text InvalidArgument) error_code_rest (error_code_text c) ≡ Some c
error_code_named InvalidArgument = refl
error_code_named InvalidSelector = refl
error_code_named InvalidSessionId = refl
error_code_named MoveTargetOutOfBounds = refl
error_code_named NoSuchAlert = refl
error_code_named NoSuchElement = refl
error_code_named NoSuchFrame = refl
error_code_named NoSuchHandle = refl
error_code_named NoSuchHistoryEntry = refl
error_code_named NoSuchIntercept = refl
error_code_named NoSuchNode = refl
error_code_named NoSuchRequest = refl
error_code_named NoSuchScript = refl
error_code_named NoSuchStoragePartition = refl
error_code_named NoSuchUserContext = refl
error_code_named SessionNotCreated = refl
error_code_named UnableToCaptureScreen = refl
error_code_named UnableToCloseBrowser = refl
error_code_named UnableToSetCookie = refl
error_code_named UnableToSetFileInput = refl
error_code_named UnknownCommand = refl
error_code_named UnknownError = refl
error_code_named UnsupportedOperation = refl

-- the error codes as a table of their strings
abbrev pub error_code_words : Words ErrorCode
error_code_words = record {
  rule = rule error_code;
  first = word error_code_text InvalidArgument;
  rest = error_code_rest;
  text_of = error_code_text;
  is_rule = refl;
  has_texts = (refl, (refl, (refl, (refl, (refl, (refl, (refl, (refl, (refl, (refl, (refl, (refl, (refl, (refl, (refl, (refl, (refl, (refl, (refl, (refl, (refl, (refl, refl))))))))))))))))))))));
  names_it = error_code_named;
}
