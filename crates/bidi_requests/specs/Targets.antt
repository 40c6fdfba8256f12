-- The resource that a request target names: RFC 9112, 3.2.1 and 3.2.2.
use Rattle.std.specs.Prelude.{◌≡◌, ◌⊎◌, ◌==◌, ◌||◌, Bool, false, ℕ, List, [], ◌∷◌, ◌++◌, codes, drop, if◌then◌else◌, take}
use Rattle.std.specs.List.{list_any}
use Rattle.websocket.specs.Headers.{eq_ignore_case}

-- whether a byte ends an authority (RFC 3986, 3.2): a slash, a question mark or a number sign
abbrev pub ends_authority : ℕ → Bool
ends_authority b = b == 47 || (b == 63 || b == 35)

-- what follows the authority at the front of some bytes
abbrev pub after_authority : List ℕ → List ℕ
after_authority [] = []
after_authority (b ∷ bytes) = if ends_authority b then b ∷ bytes else after_authority bytes

-- whether a target is in absolute form, by the scheme http in any case
unfoldable pub is_absolute : List ℕ → Bool
is_absolute target = eq_ignore_case (take 7 target) (codes "http://")

-- the resource that a target names: in absolute form what follows the authority, else the target as it was written
unfoldable pub resource_of : List ℕ → List ℕ
resource_of target = if is_absolute target then after_authority (drop 7 target) else target

-- whether some bytes have a slash
abbrev pub has_slash : List ℕ → Bool
has_slash bytes = list_any (λ b. b == 47) bytes

-- A resource is that of a session: /session/ and an id, which has no slash.
abbrev pub IsOfSession : List ℕ → Type 0
IsOfSession resource = (id : List ℕ) × (resource ≡ codes "/session/" ++ id) × (has_slash id ≡ false)

-- WebSockets are opened at a resource: /session, /page, or that of a session.
abbrev pub IsSocketResource : List ℕ → Type 0
IsSocketResource resource = (resource ≡ codes "/session") ⊎ ((resource ≡ codes "/page") ⊎ IsOfSession resource)
