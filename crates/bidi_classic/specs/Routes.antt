-- What a call asks for. After W3C WebDriver, "Routing requests" and "Endpoints".
use Rattle.std.specs.Prelude.{◌≡◌, ◌≢◌, ℕ, List, codes}
use Rattle.bidi_requests.specs.Targets.{IsOfSession}
use Rattle.bidi_requests.specs.declared.answering.AllowedMethods.TheVariants as allowed
use Rattle.bidi_requests.specs.declared.calling.Method.{Method}
use Rattle.bidi_requests.specs.declared.calling.Method.TheVariants as method
use Rattle.bidi_classic.specs.declared.routes.Route.{Route}
use Rattle.bidi_classic.specs.declared.routes.Route.TheVariants as route

-- What a call asks for.
abbrev pub IsRouted : Method → List ℕ → Route → Type 0
-- POST /session asks for a new session
IsRouted m resource route.New = (resource ≡ codes "/session") × (m ≡ method.Post)
-- DELETE /session/ID asks for the end of that session
IsRouted m resource route.End = IsOfSession resource × (m ≡ method.Delete)
-- these three resources are called only by their own methods
IsRouted m resource (route.NotAllowed allowed.GetAndPost) = (resource ≡ codes "/session") × (m ≢ method.Post)
IsRouted m resource (route.NotAllowed allowed.GetAndDelete) = IsOfSession resource × (m ≢ method.Delete)
IsRouted m resource (route.NotAllowed allowed.Get) = resource ≡ codes "/status"
-- any other resource is no command
IsRouted m resource route.Unknown = (resource ≢ codes "/session") × (resource ≢ codes "/status") × ¬ (IsOfSession resource)
