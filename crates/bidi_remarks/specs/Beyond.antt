-- What the W3C's draft of WebDriver BiDi has and the profile lacks, by the rule that speaks of it. A line that is refused for one of these is no fault
-- of its sender: the profile is smaller than the draft.
use Rattle.std.specs.Prelude.{ℕ, List, [], ◌∷◌, Bool, true, false, ◌&&◌, ◌||◌, ◌==◌, Option, Some, None, option_and_then, codes, nat_lt, length}
use Rattle.std.specs.List.{list_any}
use Rattle.std.specs.Str.{bytes_eq}
use Rattle.bidi_tree.specs.Node as node
use Rattle.bidi_tree.specs.Node.{Node}
use Rattle.bidi_tree.specs.Kind.{text_in}
use Rattle.bidi_shape.specs.Name.{Name, command, message, event, error_code, realm_info, local_value, remote_value, opaque, primitive, source}
use Rattle.bidi_blame.specs.Reason.{Reason, PathStep, member, item}
use Rattle.bidi_blame.specs.Words.{choices, is_only}

-- the commands of the draft that the profile lacks
abbrev pub draft_commands : List (List ℕ)
draft_commands =
    codes "browser.close" ∷ codes "browser.getClientWindows" ∷ codes "browser.setClientWindowState" ∷ codes "browser.setDownloadBehavior"
    ∷ codes "browsingContext.captureScreenshot" ∷ codes "browsingContext.handleUserPrompt" ∷ codes "browsingContext.locateNodes"
    ∷ codes "browsingContext.print" ∷ codes "browsingContext.setViewport"
    ∷ codes "emulation.setForcedColorsModeThemeOverride" ∷ codes "emulation.setGeolocationOverride" ∷ codes "emulation.setLocaleOverride"
    ∷ codes "emulation.setNetworkConditions" ∷ codes "emulation.setScreenOrientationOverride" ∷ codes "emulation.setScreenSettingsOverride"
    ∷ codes "emulation.setScriptingEnabled" ∷ codes "emulation.setTimezoneOverride" ∷ codes "emulation.setTouchOverride"
    ∷ codes "emulation.setUserAgentOverride"
    ∷ codes "input.performActions" ∷ codes "input.releaseActions" ∷ codes "input.setFiles"
    ∷ codes "network.addDataCollector" ∷ codes "network.addIntercept" ∷ codes "network.continueRequest" ∷ codes "network.continueResponse"
    ∷ codes "network.continueWithAuth" ∷ codes "network.disownData" ∷ codes "network.failRequest" ∷ codes "network.getData"
    ∷ codes "network.provideResponse" ∷ codes "network.removeDataCollector" ∷ codes "network.removeIntercept" ∷ codes "network.setCacheBehavior"
    ∷ codes "network.setExtraHeaders"
    ∷ codes "script.addPreloadScript" ∷ codes "script.removePreloadScript"
    ∷ codes "storage.deleteCookies" ∷ codes "storage.getCookies" ∷ codes "storage.setCookie"
    ∷ codes "webExtension.install" ∷ codes "webExtension.uninstall" ∷ []

-- the events of the draft that the profile lacks
abbrev pub draft_events : List (List ℕ)
draft_events =
    codes "browsingContext.downloadEnd" ∷ codes "browsingContext.downloadWillBegin" ∷ codes "browsingContext.fragmentNavigated"
    ∷ codes "browsingContext.historyUpdated" ∷ codes "browsingContext.navigationAborted" ∷ codes "browsingContext.navigationCommitted"
    ∷ codes "browsingContext.navigationFailed" ∷ codes "browsingContext.userPromptClosed" ∷ codes "browsingContext.userPromptOpened"
    ∷ codes "input.fileDialogOpened"
    ∷ codes "network.authRequired" ∷ codes "network.beforeRequestSent" ∷ codes "network.fetchError" ∷ codes "network.responseCompleted"
    ∷ codes "network.responseStarted"
    ∷ codes "script.message" ∷ []

-- the error codes of the draft that the profile lacks
abbrev pub draft_errors : List (List ℕ)
draft_errors =
    codes "invalid web extension" ∷ codes "no such client window" ∷ codes "no such network collector" ∷ codes "no such network data"
    ∷ codes "no such web extension" ∷ codes "unavailable network data" ∷ codes "underspecified storage partition" ∷ []

-- the kinds of realms, of local values and of remote values of the draft that the profile lacks
abbrev pub draft_realms : List (List ℕ)
draft_realms =
    codes "dedicated-worker" ∷ codes "shared-worker" ∷ codes "service-worker" ∷ codes "worker"
    ∷ codes "paint-worklet" ∷ codes "audio-worklet" ∷ codes "worklet" ∷ []

-- the types of local values that only the draft has
abbrev pub draft_local_values : List (List ℕ)
draft_local_values = codes "channel" ∷ []

-- the types of remote values that only the draft has
abbrev pub draft_remote_values : List (List ℕ)
draft_remote_values = codes "node" ∷ codes "nodelist" ∷ codes "htmlcollection" ∷ codes "window" ∷ []

-- a member of a rule, and the texts that only the draft takes there
abbrev pub draft_texts : Option Name → List ℕ × List (List ℕ)
draft_texts (Some command) = (codes "method", draft_commands)
draft_texts (Some message) = (codes "method", draft_events)
draft_texts (Some event) = (codes "method", draft_events)
draft_texts (Some error_code) = (codes "error", draft_errors)
draft_texts (Some realm_info) = (codes "type", draft_realms)
draft_texts (Some local_value) = (codes "type", draft_local_values)
draft_texts (Some remote_value) = (codes "type", draft_remote_values)
draft_texts (Some opaque) = (codes "type", draft_remote_values)
draft_texts n = ([], [])

-- the last step leads to a member of this name
abbrev pub ends_in : List ℕ → List PathStep → Bool
ends_in k (member l ∷ ss) = bytes_eq l k
ends_in k ss = false

-- the text is one of these
abbrev pub is_one_of : List (List ℕ) → List ℕ → Bool
is_one_of texts s = list_any (λ t. bytes_eq t s) texts

-- the name is a vendor's: it has a colon, and the draft leaves such names to browsers
abbrev pub is_vendor_name : List ℕ → Bool
is_vendor_name s = list_any (λ b. b == 58) s

-- the rule is one of commands or of events
abbrev pub has_method : Option Name → Bool
has_method (Some command) = true
has_method (Some message) = true
has_method (Some event) = true
has_method n = false

-- the text is one that only the draft takes there: one of its own, or a vendor's name of a command or an event
abbrev pub is_of_draft : Option Name → List PathStep → Option (List ℕ) → Bool
is_of_draft named steps None = false
is_of_draft named steps (Some s) = ends_in (draft_texts named).0 steps && (is_one_of (draft_texts named).1 s || has_method named && is_vendor_name s)

-- a text stands there that only the draft takes
abbrev pub is_draft_text : Option Name → List PathStep → Option Node → Bool
is_draft_text named steps o = is_of_draft named steps (option_and_then text_in o)

-- the last step leads to the user context of a source
abbrev pub is_user_context : Option Name → List PathStep → Bool
is_user_context (Some source) steps = ends_in (codes "userContext") steps
is_user_context named steps = false

-- the last step leads to a member with a vendor's name
abbrev pub is_vendor_member : List PathStep → Bool
is_vendor_member (member k ∷ ss) = is_vendor_name k
is_vendor_member ss = false

-- no member of this name may stand there, but in the draft it may: a source has a user context, and a vendor adds members
abbrev pub is_draft_member : Option Name → List PathStep → Bool → Bool
is_draft_member named steps wants_nothing = wants_nothing && (is_user_context named steps || is_vendor_member steps)

-- the draft takes any value there, of these alternatives: the profile no number with a fraction, and no more than 60 levels of nesting
abbrev pub is_any : List (List ℕ) → Bool
is_any ws = is_only (codes "whole numbers in range and at most 60 levels") ws || is_only (codes "at most 60 levels") ws

-- a number stands there that is not whole, or out of range
abbrev pub is_odd : Option Node → Bool
is_odd (Some node.odd) = true
is_odd o = false

-- the draft takes any number there: in the value of a number, for which texts may stand, too
abbrev pub is_draft_number : Option Name → List PathStep → Option Node → ℕ → Bool
is_draft_number (Some primitive) steps o count = is_odd o && ends_in (codes "value") steps && nat_lt 1 count
is_draft_number named steps o count = false

-- what stands there is wrong for the profile and not for the draft
abbrev pub is_beyond : Reason → Bool
is_beyond r =
    is_draft_text r.named r.steps r.found || is_draft_member r.named r.steps (length (choices r.wants) == 0)
    || is_any (choices r.wants) || is_draft_number r.named r.steps r.found (length (choices r.wants))
