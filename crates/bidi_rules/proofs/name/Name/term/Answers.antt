use Rattle.bidi_rules.proofs.GrammarLemmas.{grammar-Exactly, grammar-Text, grammar-Bool, grammar-Null, grammar-JsUint, grammar-JsInt, grammar-Any, grammar-ListOf, grammar-PairOf, grammar-MapOf, grammar-OneOf, grammar-Rule, grammar-Capped}
use Rattle.bidi_rules.proofs.GrammarLemmas.{weight-Exactly, weight-Text, weight-Bool, weight-Null, weight-JsUint, weight-JsInt, weight-Any, weight-ListOf, weight-PairOf, weight-MapOf, weight-OneOf, weight-Rule, weight-Capped}
use Rattle.bidi_rules.proofs.name.Name.term.Goals as goal

pub returns-in-ActivateParameters-clause-says : goal.returns-in-ActivateParameters-clause-says
returns-in-ActivateParameters-clause-says c = rw c.in-ActivateParameters.is (simp (grammar-Exactly, grammar-Text, grammar-Bool, grammar-Null, grammar-JsUint, grammar-JsInt, grammar-Any, grammar-ListOf, grammar-PairOf, grammar-MapOf, grammar-OneOf, grammar-Rule, grammar-Capped))

pub returns-in-CallFunctionParameters-clause-says : goal.returns-in-CallFunctionParameters-clause-says
returns-in-CallFunctionParameters-clause-says c = rw c.in-CallFunctionParameters.is (simp (grammar-Exactly, grammar-Text, grammar-Bool, grammar-Null, grammar-JsUint, grammar-JsInt, grammar-Any, grammar-ListOf, grammar-PairOf, grammar-MapOf, grammar-OneOf, grammar-Rule, grammar-Capped))

pub returns-in-Capabilities-clause-says : goal.returns-in-Capabilities-clause-says
returns-in-Capabilities-clause-says c = rw c.in-Capabilities.is (simp (grammar-Exactly, grammar-Text, grammar-Bool, grammar-Null, grammar-JsUint, grammar-JsInt, grammar-Any, grammar-ListOf, grammar-PairOf, grammar-MapOf, grammar-OneOf, grammar-Rule, grammar-Capped))

pub returns-in-CapabilitiesRequest-clause-says : goal.returns-in-CapabilitiesRequest-clause-says
returns-in-CapabilitiesRequest-clause-says c = rw c.in-CapabilitiesRequest.is (simp (grammar-Exactly, grammar-Text, grammar-Bool, grammar-Null, grammar-JsUint, grammar-JsInt, grammar-Any, grammar-ListOf, grammar-PairOf, grammar-MapOf, grammar-OneOf, grammar-Rule, grammar-Capped))

pub returns-in-CapabilityRequest-clause-says : goal.returns-in-CapabilityRequest-clause-says
returns-in-CapabilityRequest-clause-says c = rw c.in-CapabilityRequest.is (simp (grammar-Exactly, grammar-Text, grammar-Bool, grammar-Null, grammar-JsUint, grammar-JsInt, grammar-Any, grammar-ListOf, grammar-PairOf, grammar-MapOf, grammar-OneOf, grammar-Rule, grammar-Capped))

pub returns-in-CloseParameters-clause-says : goal.returns-in-CloseParameters-clause-says
returns-in-CloseParameters-clause-says c = rw c.in-CloseParameters.is (simp (grammar-Exactly, grammar-Text, grammar-Bool, grammar-Null, grammar-JsUint, grammar-JsInt, grammar-Any, grammar-ListOf, grammar-PairOf, grammar-MapOf, grammar-OneOf, grammar-Rule, grammar-Capped))

pub returns-in-Command-clause-rank : goal.returns-in-Command-clause-rank
returns-in-Command-clause-rank c = simp (c.in-Command.is, weight-Exactly, weight-Text, weight-Bool, weight-Null, weight-JsUint, weight-JsInt, weight-Any, weight-ListOf, weight-PairOf, weight-MapOf, weight-OneOf, weight-Rule, weight-Capped)

pub returns-in-Command-clause-ready : goal.returns-in-Command-clause-ready
returns-in-Command-clause-ready c = simp (weight-Exactly, weight-Text, weight-Bool, weight-Null, weight-JsUint, weight-JsInt, weight-Any, weight-ListOf, weight-PairOf, weight-MapOf, weight-OneOf, weight-Rule, weight-Capped)

pub returns-in-Command-clause-says : goal.returns-in-Command-clause-says
returns-in-Command-clause-says c = rw c.in-Command.is (simp (grammar-Exactly, grammar-Text, grammar-Bool, grammar-Null, grammar-JsUint, grammar-JsInt, grammar-Any, grammar-ListOf, grammar-PairOf, grammar-MapOf, grammar-OneOf, grammar-Rule, grammar-Capped))

pub returns-in-CommandResponse-clause-says : goal.returns-in-CommandResponse-clause-says
returns-in-CommandResponse-clause-says c = rw c.in-CommandResponse.is (simp (grammar-Exactly, grammar-Text, grammar-Bool, grammar-Null, grammar-JsUint, grammar-JsInt, grammar-Any, grammar-ListOf, grammar-PairOf, grammar-MapOf, grammar-OneOf, grammar-Rule, grammar-Capped))

pub returns-in-ConsoleEntry-clause-says : goal.returns-in-ConsoleEntry-clause-says
returns-in-ConsoleEntry-clause-says c = rw c.in-ConsoleEntry.is (simp (grammar-Exactly, grammar-Text, grammar-Bool, grammar-Null, grammar-JsUint, grammar-JsInt, grammar-Any, grammar-ListOf, grammar-PairOf, grammar-MapOf, grammar-OneOf, grammar-Rule, grammar-Capped))

pub returns-in-ContextTarget-clause-says : goal.returns-in-ContextTarget-clause-says
returns-in-ContextTarget-clause-says c = rw c.in-ContextTarget.is (simp (grammar-Exactly, grammar-Text, grammar-Bool, grammar-Null, grammar-JsUint, grammar-JsInt, grammar-Any, grammar-ListOf, grammar-PairOf, grammar-MapOf, grammar-OneOf, grammar-Rule, grammar-Capped))

pub returns-in-CreateParameters-clause-says : goal.returns-in-CreateParameters-clause-says
returns-in-CreateParameters-clause-says c = rw c.in-CreateParameters.is (simp (grammar-Exactly, grammar-Text, grammar-Bool, grammar-Null, grammar-JsUint, grammar-JsInt, grammar-Any, grammar-ListOf, grammar-PairOf, grammar-MapOf, grammar-OneOf, grammar-Rule, grammar-Capped))

pub returns-in-CreateResult-clause-says : goal.returns-in-CreateResult-clause-says
returns-in-CreateResult-clause-says c = rw c.in-CreateResult.is (simp (grammar-Exactly, grammar-Text, grammar-Bool, grammar-Null, grammar-JsUint, grammar-JsInt, grammar-Any, grammar-ListOf, grammar-PairOf, grammar-MapOf, grammar-OneOf, grammar-Rule, grammar-Capped))

pub returns-in-DisownParameters-clause-says : goal.returns-in-DisownParameters-clause-says
returns-in-DisownParameters-clause-says c = rw c.in-DisownParameters.is (simp (grammar-Exactly, grammar-Text, grammar-Bool, grammar-Null, grammar-JsUint, grammar-JsInt, grammar-Any, grammar-ListOf, grammar-PairOf, grammar-MapOf, grammar-OneOf, grammar-Rule, grammar-Capped))

pub returns-in-EmptyParams-clause-says : goal.returns-in-EmptyParams-clause-says
returns-in-EmptyParams-clause-says c = rw c.in-EmptyParams.is (simp (grammar-Exactly, grammar-Text, grammar-Bool, grammar-Null, grammar-JsUint, grammar-JsInt, grammar-Any, grammar-ListOf, grammar-PairOf, grammar-MapOf, grammar-OneOf, grammar-Rule, grammar-Capped))

pub returns-in-EmptyResult-clause-says : goal.returns-in-EmptyResult-clause-says
returns-in-EmptyResult-clause-says c = rw c.in-EmptyResult.is (simp (grammar-Exactly, grammar-Text, grammar-Bool, grammar-Null, grammar-JsUint, grammar-JsInt, grammar-Any, grammar-ListOf, grammar-PairOf, grammar-MapOf, grammar-OneOf, grammar-Rule, grammar-Capped))

pub returns-in-ErrorCode-clause-rank : goal.returns-in-ErrorCode-clause-rank
returns-in-ErrorCode-clause-rank c = simp (c.in-ErrorCode.is, weight-Exactly, weight-Text, weight-Bool, weight-Null, weight-JsUint, weight-JsInt, weight-Any, weight-ListOf, weight-PairOf, weight-MapOf, weight-OneOf, weight-Rule, weight-Capped)

pub returns-in-ErrorCode-clause-says : goal.returns-in-ErrorCode-clause-says
returns-in-ErrorCode-clause-says c = rw c.in-ErrorCode.is (simp (grammar-Exactly, grammar-Text, grammar-Bool, grammar-Null, grammar-JsUint, grammar-JsInt, grammar-Any, grammar-ListOf, grammar-PairOf, grammar-MapOf, grammar-OneOf, grammar-Rule, grammar-Capped))

pub returns-in-ErrorResponse-clause-says : goal.returns-in-ErrorResponse-clause-says
returns-in-ErrorResponse-clause-says c = rw c.in-ErrorResponse.is (simp (grammar-Exactly, grammar-Text, grammar-Bool, grammar-Null, grammar-JsUint, grammar-JsInt, grammar-Any, grammar-ListOf, grammar-PairOf, grammar-MapOf, grammar-OneOf, grammar-Rule, grammar-Capped))

pub returns-in-EvaluateParameters-clause-says : goal.returns-in-EvaluateParameters-clause-says
returns-in-EvaluateParameters-clause-says c = rw c.in-EvaluateParameters.is (simp (grammar-Exactly, grammar-Text, grammar-Bool, grammar-Null, grammar-JsUint, grammar-JsInt, grammar-Any, grammar-ListOf, grammar-PairOf, grammar-MapOf, grammar-OneOf, grammar-Rule, grammar-Capped))

pub returns-in-EvaluateResult-clause-rank : goal.returns-in-EvaluateResult-clause-rank
returns-in-EvaluateResult-clause-rank c = simp (c.in-EvaluateResult.is, weight-Exactly, weight-Text, weight-Bool, weight-Null, weight-JsUint, weight-JsInt, weight-Any, weight-ListOf, weight-PairOf, weight-MapOf, weight-OneOf, weight-Rule, weight-Capped)

pub returns-in-EvaluateResult-clause-says : goal.returns-in-EvaluateResult-clause-says
returns-in-EvaluateResult-clause-says c = rw c.in-EvaluateResult.is (simp (grammar-Exactly, grammar-Text, grammar-Bool, grammar-Null, grammar-JsUint, grammar-JsInt, grammar-Any, grammar-ListOf, grammar-PairOf, grammar-MapOf, grammar-OneOf, grammar-Rule, grammar-Capped))

pub returns-in-Event-clause-rank : goal.returns-in-Event-clause-rank
returns-in-Event-clause-rank c = simp (c.in-Event.is, weight-Exactly, weight-Text, weight-Bool, weight-Null, weight-JsUint, weight-JsInt, weight-Any, weight-ListOf, weight-PairOf, weight-MapOf, weight-OneOf, weight-Rule, weight-Capped)

pub returns-in-Event-clause-says : goal.returns-in-Event-clause-says
returns-in-Event-clause-says c = rw c.in-Event.is (simp (grammar-Exactly, grammar-Text, grammar-Bool, grammar-Null, grammar-JsUint, grammar-JsInt, grammar-Any, grammar-ListOf, grammar-PairOf, grammar-MapOf, grammar-OneOf, grammar-Rule, grammar-Capped))

pub returns-in-ExceptionDetails-clause-says : goal.returns-in-ExceptionDetails-clause-says
returns-in-ExceptionDetails-clause-says c = rw c.in-ExceptionDetails.is (simp (grammar-Exactly, grammar-Text, grammar-Bool, grammar-Null, grammar-JsUint, grammar-JsInt, grammar-Any, grammar-ListOf, grammar-PairOf, grammar-MapOf, grammar-OneOf, grammar-Rule, grammar-Capped))

pub returns-in-GenericLogEntry-clause-says : goal.returns-in-GenericLogEntry-clause-says
returns-in-GenericLogEntry-clause-says c = rw c.in-GenericLogEntry.is (simp (grammar-Exactly, grammar-Text, grammar-Bool, grammar-Null, grammar-JsUint, grammar-JsInt, grammar-Any, grammar-ListOf, grammar-PairOf, grammar-MapOf, grammar-OneOf, grammar-Rule, grammar-Capped))

pub returns-in-GetRealmsParameters-clause-says : goal.returns-in-GetRealmsParameters-clause-says
returns-in-GetRealmsParameters-clause-says c = rw c.in-GetRealmsParameters.is (simp (grammar-Exactly, grammar-Text, grammar-Bool, grammar-Null, grammar-JsUint, grammar-JsInt, grammar-Any, grammar-ListOf, grammar-PairOf, grammar-MapOf, grammar-OneOf, grammar-Rule, grammar-Capped))

pub returns-in-GetRealmsResult-clause-says : goal.returns-in-GetRealmsResult-clause-says
returns-in-GetRealmsResult-clause-says c = rw c.in-GetRealmsResult.is (simp (grammar-Exactly, grammar-Text, grammar-Bool, grammar-Null, grammar-JsUint, grammar-JsInt, grammar-Any, grammar-ListOf, grammar-PairOf, grammar-MapOf, grammar-OneOf, grammar-Rule, grammar-Capped))

pub returns-in-GetTreeParameters-clause-says : goal.returns-in-GetTreeParameters-clause-says
returns-in-GetTreeParameters-clause-says c = rw c.in-GetTreeParameters.is (simp (grammar-Exactly, grammar-Text, grammar-Bool, grammar-Null, grammar-JsUint, grammar-JsInt, grammar-Any, grammar-ListOf, grammar-PairOf, grammar-MapOf, grammar-OneOf, grammar-Rule, grammar-Capped))

pub returns-in-GetTreeResult-clause-says : goal.returns-in-GetTreeResult-clause-says
returns-in-GetTreeResult-clause-says c = rw c.in-GetTreeResult.is (simp (grammar-Exactly, grammar-Text, grammar-Bool, grammar-Null, grammar-JsUint, grammar-JsInt, grammar-Any, grammar-ListOf, grammar-PairOf, grammar-MapOf, grammar-OneOf, grammar-Rule, grammar-Capped))

pub returns-in-GetUserContextsResult-clause-says : goal.returns-in-GetUserContextsResult-clause-says
returns-in-GetUserContextsResult-clause-says c = rw c.in-GetUserContextsResult.is (simp (grammar-Exactly, grammar-Text, grammar-Bool, grammar-Null, grammar-JsUint, grammar-JsInt, grammar-Any, grammar-ListOf, grammar-PairOf, grammar-MapOf, grammar-OneOf, grammar-Rule, grammar-Capped))

pub returns-in-Info-clause-says : goal.returns-in-Info-clause-says
returns-in-Info-clause-says c = rw c.in-Info.is (simp (grammar-Exactly, grammar-Text, grammar-Bool, grammar-Null, grammar-JsUint, grammar-JsInt, grammar-Any, grammar-ListOf, grammar-PairOf, grammar-MapOf, grammar-OneOf, grammar-Rule, grammar-Capped))

pub returns-in-JavascriptEntry-clause-says : goal.returns-in-JavascriptEntry-clause-says
returns-in-JavascriptEntry-clause-says c = rw c.in-JavascriptEntry.is (simp (grammar-Exactly, grammar-Text, grammar-Bool, grammar-Null, grammar-JsUint, grammar-JsInt, grammar-Any, grammar-ListOf, grammar-PairOf, grammar-MapOf, grammar-OneOf, grammar-Rule, grammar-Capped))

pub returns-in-LocalPair-clause-says : goal.returns-in-LocalPair-clause-says
returns-in-LocalPair-clause-says c = rw c.in-LocalPair.is (simp (grammar-Exactly, grammar-Text, grammar-Bool, grammar-Null, grammar-JsUint, grammar-JsInt, grammar-Any, grammar-ListOf, grammar-PairOf, grammar-MapOf, grammar-OneOf, grammar-Rule, grammar-Capped))

pub returns-in-LocalValue-clause-rank : goal.returns-in-LocalValue-clause-rank
returns-in-LocalValue-clause-rank c = simp (c.in-LocalValue.is, weight-Exactly, weight-Text, weight-Bool, weight-Null, weight-JsUint, weight-JsInt, weight-Any, weight-ListOf, weight-PairOf, weight-MapOf, weight-OneOf, weight-Rule, weight-Capped)

pub returns-in-LocalValue-clause-says : goal.returns-in-LocalValue-clause-says
returns-in-LocalValue-clause-says c = rw c.in-LocalValue.is (simp (grammar-Exactly, grammar-Text, grammar-Bool, grammar-Null, grammar-JsUint, grammar-JsInt, grammar-Any, grammar-ListOf, grammar-PairOf, grammar-MapOf, grammar-OneOf, grammar-Rule, grammar-Capped))

pub returns-in-LogEntry-clause-rank : goal.returns-in-LogEntry-clause-rank
returns-in-LogEntry-clause-rank c = simp (c.in-LogEntry.is, weight-Exactly, weight-Text, weight-Bool, weight-Null, weight-JsUint, weight-JsInt, weight-Any, weight-ListOf, weight-PairOf, weight-MapOf, weight-OneOf, weight-Rule, weight-Capped)

pub returns-in-LogEntry-clause-says : goal.returns-in-LogEntry-clause-says
returns-in-LogEntry-clause-says c = rw c.in-LogEntry.is (simp (grammar-Exactly, grammar-Text, grammar-Bool, grammar-Null, grammar-JsUint, grammar-JsInt, grammar-Any, grammar-ListOf, grammar-PairOf, grammar-MapOf, grammar-OneOf, grammar-Rule, grammar-Capped))

pub returns-in-Message-clause-rank : goal.returns-in-Message-clause-rank
returns-in-Message-clause-rank c = simp (c.in-Message.is, weight-Exactly, weight-Text, weight-Bool, weight-Null, weight-JsUint, weight-JsInt, weight-Any, weight-ListOf, weight-PairOf, weight-MapOf, weight-OneOf, weight-Rule, weight-Capped)

pub returns-in-Message-clause-says : goal.returns-in-Message-clause-says
returns-in-Message-clause-says c = rw c.in-Message.is (simp (grammar-Exactly, grammar-Text, grammar-Bool, grammar-Null, grammar-JsUint, grammar-JsInt, grammar-Any, grammar-ListOf, grammar-PairOf, grammar-MapOf, grammar-OneOf, grammar-Rule, grammar-Capped))

pub returns-in-NavigateParameters-clause-says : goal.returns-in-NavigateParameters-clause-says
returns-in-NavigateParameters-clause-says c = rw c.in-NavigateParameters.is (simp (grammar-Exactly, grammar-Text, grammar-Bool, grammar-Null, grammar-JsUint, grammar-JsInt, grammar-Any, grammar-ListOf, grammar-PairOf, grammar-MapOf, grammar-OneOf, grammar-Rule, grammar-Capped))

pub returns-in-NavigateResult-clause-says : goal.returns-in-NavigateResult-clause-says
returns-in-NavigateResult-clause-says c = rw c.in-NavigateResult.is (simp (grammar-Exactly, grammar-Text, grammar-Bool, grammar-Null, grammar-JsUint, grammar-JsInt, grammar-Any, grammar-ListOf, grammar-PairOf, grammar-MapOf, grammar-OneOf, grammar-Rule, grammar-Capped))

pub returns-in-NavigationInfo-clause-says : goal.returns-in-NavigationInfo-clause-says
returns-in-NavigationInfo-clause-says c = rw c.in-NavigationInfo.is (simp (grammar-Exactly, grammar-Text, grammar-Bool, grammar-Null, grammar-JsUint, grammar-JsInt, grammar-Any, grammar-ListOf, grammar-PairOf, grammar-MapOf, grammar-OneOf, grammar-Rule, grammar-Capped))

pub returns-in-NewParameters-clause-says : goal.returns-in-NewParameters-clause-says
returns-in-NewParameters-clause-says c = rw c.in-NewParameters.is (simp (grammar-Exactly, grammar-Text, grammar-Bool, grammar-Null, grammar-JsUint, grammar-JsInt, grammar-Any, grammar-ListOf, grammar-PairOf, grammar-MapOf, grammar-OneOf, grammar-Rule, grammar-Capped))

pub returns-in-NewResult-clause-says : goal.returns-in-NewResult-clause-says
returns-in-NewResult-clause-says c = rw c.in-NewResult.is (simp (grammar-Exactly, grammar-Text, grammar-Bool, grammar-Null, grammar-JsUint, grammar-JsInt, grammar-Any, grammar-ListOf, grammar-PairOf, grammar-MapOf, grammar-OneOf, grammar-Rule, grammar-Capped))

pub returns-in-Opaque-clause-rank : goal.returns-in-Opaque-clause-rank
returns-in-Opaque-clause-rank c = simp (c.in-Opaque.is, weight-Exactly, weight-Text, weight-Bool, weight-Null, weight-JsUint, weight-JsInt, weight-Any, weight-ListOf, weight-PairOf, weight-MapOf, weight-OneOf, weight-Rule, weight-Capped)

pub returns-in-Opaque-clause-says : goal.returns-in-Opaque-clause-says
returns-in-Opaque-clause-says c = rw c.in-Opaque.is (simp (grammar-Exactly, grammar-Text, grammar-Bool, grammar-Null, grammar-JsUint, grammar-JsInt, grammar-Any, grammar-ListOf, grammar-PairOf, grammar-MapOf, grammar-OneOf, grammar-Rule, grammar-Capped))

pub returns-in-Ownership-clause-rank : goal.returns-in-Ownership-clause-rank
returns-in-Ownership-clause-rank c = simp (c.in-Ownership.is, weight-Exactly, weight-Text, weight-Bool, weight-Null, weight-JsUint, weight-JsInt, weight-Any, weight-ListOf, weight-PairOf, weight-MapOf, weight-OneOf, weight-Rule, weight-Capped)

pub returns-in-Ownership-clause-says : goal.returns-in-Ownership-clause-says
returns-in-Ownership-clause-says c = rw c.in-Ownership.is (simp (grammar-Exactly, grammar-Text, grammar-Bool, grammar-Null, grammar-JsUint, grammar-JsInt, grammar-Any, grammar-ListOf, grammar-PairOf, grammar-MapOf, grammar-OneOf, grammar-Rule, grammar-Capped))

pub returns-in-Primitive-clause-rank : goal.returns-in-Primitive-clause-rank
returns-in-Primitive-clause-rank c = simp (c.in-Primitive.is, weight-Exactly, weight-Text, weight-Bool, weight-Null, weight-JsUint, weight-JsInt, weight-Any, weight-ListOf, weight-PairOf, weight-MapOf, weight-OneOf, weight-Rule, weight-Capped)

pub returns-in-Primitive-clause-says : goal.returns-in-Primitive-clause-says
returns-in-Primitive-clause-says c = rw c.in-Primitive.is (simp (grammar-Exactly, grammar-Text, grammar-Bool, grammar-Null, grammar-JsUint, grammar-JsInt, grammar-Any, grammar-ListOf, grammar-PairOf, grammar-MapOf, grammar-OneOf, grammar-Rule, grammar-Capped))

pub returns-in-RealmDestroyedParameters-clause-says : goal.returns-in-RealmDestroyedParameters-clause-says
returns-in-RealmDestroyedParameters-clause-says c = rw c.in-RealmDestroyedParameters.is (simp (grammar-Exactly, grammar-Text, grammar-Bool, grammar-Null, grammar-JsUint, grammar-JsInt, grammar-Any, grammar-ListOf, grammar-PairOf, grammar-MapOf, grammar-OneOf, grammar-Rule, grammar-Capped))

pub returns-in-RealmInfo-clause-says : goal.returns-in-RealmInfo-clause-says
returns-in-RealmInfo-clause-says c = rw c.in-RealmInfo.is (simp (grammar-Exactly, grammar-Text, grammar-Bool, grammar-Null, grammar-JsUint, grammar-JsInt, grammar-Any, grammar-ListOf, grammar-PairOf, grammar-MapOf, grammar-OneOf, grammar-Rule, grammar-Capped))

pub returns-in-RealmTarget-clause-says : goal.returns-in-RealmTarget-clause-says
returns-in-RealmTarget-clause-says c = rw c.in-RealmTarget.is (simp (grammar-Exactly, grammar-Text, grammar-Bool, grammar-Null, grammar-JsUint, grammar-JsInt, grammar-Any, grammar-ListOf, grammar-PairOf, grammar-MapOf, grammar-OneOf, grammar-Rule, grammar-Capped))

pub returns-in-RealmType-clause-rank : goal.returns-in-RealmType-clause-rank
returns-in-RealmType-clause-rank c = simp (c.in-RealmType.is, weight-Exactly, weight-Text, weight-Bool, weight-Null, weight-JsUint, weight-JsInt, weight-Any, weight-ListOf, weight-PairOf, weight-MapOf, weight-OneOf, weight-Rule, weight-Capped)

pub returns-in-RealmType-clause-says : goal.returns-in-RealmType-clause-says
returns-in-RealmType-clause-says c = rw c.in-RealmType.is (simp (grammar-Exactly, grammar-Text, grammar-Bool, grammar-Null, grammar-JsUint, grammar-JsInt, grammar-Any, grammar-ListOf, grammar-PairOf, grammar-MapOf, grammar-OneOf, grammar-Rule, grammar-Capped))

pub returns-in-Reference-clause-rank : goal.returns-in-Reference-clause-rank
returns-in-Reference-clause-rank c = simp (c.in-Reference.is, weight-Exactly, weight-Text, weight-Bool, weight-Null, weight-JsUint, weight-JsInt, weight-Any, weight-ListOf, weight-PairOf, weight-MapOf, weight-OneOf, weight-Rule, weight-Capped)

pub returns-in-Reference-clause-says : goal.returns-in-Reference-clause-says
returns-in-Reference-clause-says c = rw c.in-Reference.is (simp (grammar-Exactly, grammar-Text, grammar-Bool, grammar-Null, grammar-JsUint, grammar-JsInt, grammar-Any, grammar-ListOf, grammar-PairOf, grammar-MapOf, grammar-OneOf, grammar-Rule, grammar-Capped))

pub returns-in-RegExpValue-clause-says : goal.returns-in-RegExpValue-clause-says
returns-in-RegExpValue-clause-says c = rw c.in-RegExpValue.is (simp (grammar-Exactly, grammar-Text, grammar-Bool, grammar-Null, grammar-JsUint, grammar-JsInt, grammar-Any, grammar-ListOf, grammar-PairOf, grammar-MapOf, grammar-OneOf, grammar-Rule, grammar-Capped))

pub returns-in-ReloadParameters-clause-says : goal.returns-in-ReloadParameters-clause-says
returns-in-ReloadParameters-clause-says c = rw c.in-ReloadParameters.is (simp (grammar-Exactly, grammar-Text, grammar-Bool, grammar-Null, grammar-JsUint, grammar-JsInt, grammar-Any, grammar-ListOf, grammar-PairOf, grammar-MapOf, grammar-OneOf, grammar-Rule, grammar-Capped))

pub returns-in-RemoteObjectReference-clause-says : goal.returns-in-RemoteObjectReference-clause-says
returns-in-RemoteObjectReference-clause-says c = rw c.in-RemoteObjectReference.is (simp (grammar-Exactly, grammar-Text, grammar-Bool, grammar-Null, grammar-JsUint, grammar-JsInt, grammar-Any, grammar-ListOf, grammar-PairOf, grammar-MapOf, grammar-OneOf, grammar-Rule, grammar-Capped))

pub returns-in-RemotePair-clause-says : goal.returns-in-RemotePair-clause-says
returns-in-RemotePair-clause-says c = rw c.in-RemotePair.is (simp (grammar-Exactly, grammar-Text, grammar-Bool, grammar-Null, grammar-JsUint, grammar-JsInt, grammar-Any, grammar-ListOf, grammar-PairOf, grammar-MapOf, grammar-OneOf, grammar-Rule, grammar-Capped))

pub returns-in-RemoteValue-clause-rank : goal.returns-in-RemoteValue-clause-rank
returns-in-RemoteValue-clause-rank c = simp (c.in-RemoteValue.is, weight-Exactly, weight-Text, weight-Bool, weight-Null, weight-JsUint, weight-JsInt, weight-Any, weight-ListOf, weight-PairOf, weight-MapOf, weight-OneOf, weight-Rule, weight-Capped)

pub returns-in-RemoteValue-clause-says : goal.returns-in-RemoteValue-clause-says
returns-in-RemoteValue-clause-says c = rw c.in-RemoteValue.is (simp (grammar-Exactly, grammar-Text, grammar-Bool, grammar-Null, grammar-JsUint, grammar-JsInt, grammar-Any, grammar-ListOf, grammar-PairOf, grammar-MapOf, grammar-OneOf, grammar-Rule, grammar-Capped))

pub returns-in-RemoveUserContextParameters-clause-says : goal.returns-in-RemoveUserContextParameters-clause-says
returns-in-RemoveUserContextParameters-clause-says c = rw c.in-RemoveUserContextParameters.is (simp (grammar-Exactly, grammar-Text, grammar-Bool, grammar-Null, grammar-JsUint, grammar-JsInt, grammar-Any, grammar-ListOf, grammar-PairOf, grammar-MapOf, grammar-OneOf, grammar-Rule, grammar-Capped))

pub returns-in-SerializationOptions-clause-says : goal.returns-in-SerializationOptions-clause-says
returns-in-SerializationOptions-clause-says c = rw c.in-SerializationOptions.is (simp (grammar-Exactly, grammar-Text, grammar-Bool, grammar-Null, grammar-JsUint, grammar-JsInt, grammar-Any, grammar-ListOf, grammar-PairOf, grammar-MapOf, grammar-OneOf, grammar-Rule, grammar-Capped))

pub returns-in-SharedReference-clause-says : goal.returns-in-SharedReference-clause-says
returns-in-SharedReference-clause-says c = rw c.in-SharedReference.is (simp (grammar-Exactly, grammar-Text, grammar-Bool, grammar-Null, grammar-JsUint, grammar-JsInt, grammar-Any, grammar-ListOf, grammar-PairOf, grammar-MapOf, grammar-OneOf, grammar-Rule, grammar-Capped))

pub returns-in-Source-clause-says : goal.returns-in-Source-clause-says
returns-in-Source-clause-says c = rw c.in-Source.is (simp (grammar-Exactly, grammar-Text, grammar-Bool, grammar-Null, grammar-JsUint, grammar-JsInt, grammar-Any, grammar-ListOf, grammar-PairOf, grammar-MapOf, grammar-OneOf, grammar-Rule, grammar-Capped))

pub returns-in-StackFrame-clause-says : goal.returns-in-StackFrame-clause-says
returns-in-StackFrame-clause-says c = rw c.in-StackFrame.is (simp (grammar-Exactly, grammar-Text, grammar-Bool, grammar-Null, grammar-JsUint, grammar-JsInt, grammar-Any, grammar-ListOf, grammar-PairOf, grammar-MapOf, grammar-OneOf, grammar-Rule, grammar-Capped))

pub returns-in-StackTrace-clause-says : goal.returns-in-StackTrace-clause-says
returns-in-StackTrace-clause-says c = rw c.in-StackTrace.is (simp (grammar-Exactly, grammar-Text, grammar-Bool, grammar-Null, grammar-JsUint, grammar-JsInt, grammar-Any, grammar-ListOf, grammar-PairOf, grammar-MapOf, grammar-OneOf, grammar-Rule, grammar-Capped))

pub returns-in-StatusResult-clause-says : goal.returns-in-StatusResult-clause-says
returns-in-StatusResult-clause-says c = rw c.in-StatusResult.is (simp (grammar-Exactly, grammar-Text, grammar-Bool, grammar-Null, grammar-JsUint, grammar-JsInt, grammar-Any, grammar-ListOf, grammar-PairOf, grammar-MapOf, grammar-OneOf, grammar-Rule, grammar-Capped))

pub returns-in-SubscribeParameters-clause-says : goal.returns-in-SubscribeParameters-clause-says
returns-in-SubscribeParameters-clause-says c = rw c.in-SubscribeParameters.is (simp (grammar-Exactly, grammar-Text, grammar-Bool, grammar-Null, grammar-JsUint, grammar-JsInt, grammar-Any, grammar-ListOf, grammar-PairOf, grammar-MapOf, grammar-OneOf, grammar-Rule, grammar-Capped))

pub returns-in-SubscribeResult-clause-says : goal.returns-in-SubscribeResult-clause-says
returns-in-SubscribeResult-clause-says c = rw c.in-SubscribeResult.is (simp (grammar-Exactly, grammar-Text, grammar-Bool, grammar-Null, grammar-JsUint, grammar-JsInt, grammar-Any, grammar-ListOf, grammar-PairOf, grammar-MapOf, grammar-OneOf, grammar-Rule, grammar-Capped))

pub returns-in-TableRow-clause-rank : goal.returns-in-TableRow-clause-rank
returns-in-TableRow-clause-rank c = simp (c.in-TableRow.is, weight-Exactly, weight-Text, weight-Bool, weight-Null, weight-JsUint, weight-JsInt, weight-Any, weight-ListOf, weight-PairOf, weight-MapOf, weight-OneOf, weight-Rule, weight-Capped)

pub returns-in-TableRow-clause-says : goal.returns-in-TableRow-clause-says
returns-in-TableRow-clause-says c = rw c.in-TableRow.is (simp (grammar-Exactly, grammar-Text, grammar-Bool, grammar-Null, grammar-JsUint, grammar-JsInt, grammar-Any, grammar-ListOf, grammar-PairOf, grammar-MapOf, grammar-OneOf, grammar-Rule, grammar-Capped))

pub returns-in-Target-clause-rank : goal.returns-in-Target-clause-rank
returns-in-Target-clause-rank c = simp (c.in-Target.is, weight-Exactly, weight-Text, weight-Bool, weight-Null, weight-JsUint, weight-JsInt, weight-Any, weight-ListOf, weight-PairOf, weight-MapOf, weight-OneOf, weight-Rule, weight-Capped)

pub returns-in-Target-clause-says : goal.returns-in-Target-clause-says
returns-in-Target-clause-says c = rw c.in-Target.is (simp (grammar-Exactly, grammar-Text, grammar-Bool, grammar-Null, grammar-JsUint, grammar-JsInt, grammar-Any, grammar-ListOf, grammar-PairOf, grammar-MapOf, grammar-OneOf, grammar-Rule, grammar-Capped))

pub returns-in-TraverseHistoryParameters-clause-says : goal.returns-in-TraverseHistoryParameters-clause-says
returns-in-TraverseHistoryParameters-clause-says c = rw c.in-TraverseHistoryParameters.is (simp (grammar-Exactly, grammar-Text, grammar-Bool, grammar-Null, grammar-JsUint, grammar-JsInt, grammar-Any, grammar-ListOf, grammar-PairOf, grammar-MapOf, grammar-OneOf, grammar-Rule, grammar-Capped))

pub returns-in-UnsubscribeByEvents-clause-says : goal.returns-in-UnsubscribeByEvents-clause-says
returns-in-UnsubscribeByEvents-clause-says c = rw c.in-UnsubscribeByEvents.is (simp (grammar-Exactly, grammar-Text, grammar-Bool, grammar-Null, grammar-JsUint, grammar-JsInt, grammar-Any, grammar-ListOf, grammar-PairOf, grammar-MapOf, grammar-OneOf, grammar-Rule, grammar-Capped))

pub returns-in-UnsubscribeById-clause-says : goal.returns-in-UnsubscribeById-clause-says
returns-in-UnsubscribeById-clause-says c = rw c.in-UnsubscribeById.is (simp (grammar-Exactly, grammar-Text, grammar-Bool, grammar-Null, grammar-JsUint, grammar-JsInt, grammar-Any, grammar-ListOf, grammar-PairOf, grammar-MapOf, grammar-OneOf, grammar-Rule, grammar-Capped))

pub returns-in-UnsubscribeParameters-clause-rank : goal.returns-in-UnsubscribeParameters-clause-rank
returns-in-UnsubscribeParameters-clause-rank c = simp (c.in-UnsubscribeParameters.is, weight-Exactly, weight-Text, weight-Bool, weight-Null, weight-JsUint, weight-JsInt, weight-Any, weight-ListOf, weight-PairOf, weight-MapOf, weight-OneOf, weight-Rule, weight-Capped)

pub returns-in-UnsubscribeParameters-clause-says : goal.returns-in-UnsubscribeParameters-clause-says
returns-in-UnsubscribeParameters-clause-says c = rw c.in-UnsubscribeParameters.is (simp (grammar-Exactly, grammar-Text, grammar-Bool, grammar-Null, grammar-JsUint, grammar-JsInt, grammar-Any, grammar-ListOf, grammar-PairOf, grammar-MapOf, grammar-OneOf, grammar-Rule, grammar-Capped))

pub returns-in-UserContextInfo-clause-says : goal.returns-in-UserContextInfo-clause-says
returns-in-UserContextInfo-clause-says c = rw c.in-UserContextInfo.is (simp (grammar-Exactly, grammar-Text, grammar-Bool, grammar-Null, grammar-JsUint, grammar-JsInt, grammar-Any, grammar-ListOf, grammar-PairOf, grammar-MapOf, grammar-OneOf, grammar-Rule, grammar-Capped))

pub returns-in-Wait-clause-rank : goal.returns-in-Wait-clause-rank
returns-in-Wait-clause-rank c = simp (c.in-Wait.is, weight-Exactly, weight-Text, weight-Bool, weight-Null, weight-JsUint, weight-JsInt, weight-Any, weight-ListOf, weight-PairOf, weight-MapOf, weight-OneOf, weight-Rule, weight-Capped)

pub returns-in-Wait-clause-says : goal.returns-in-Wait-clause-says
returns-in-Wait-clause-says c = rw c.in-Wait.is (simp (grammar-Exactly, grammar-Text, grammar-Bool, grammar-Null, grammar-JsUint, grammar-JsInt, grammar-Any, grammar-ListOf, grammar-PairOf, grammar-MapOf, grammar-OneOf, grammar-Rule, grammar-Capped))
