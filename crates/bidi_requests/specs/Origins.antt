-- Which origins a request may name: only those of this machine. Own; after RFC 6455, 10.2.
use Rattle.std.specs.Prelude.{◌≡◌, ◌<◌, ◌⊎◌, ℕ, List, [], ◌∷◌, ◌++◌, length, All, IsTrue, codes, ⊤}
use Rattle.std.specs.Char.{is_ascii_digit}

-- The bytes are empty, or a colon and digits.
abbrev pub IsPort : List ℕ → Type 0
IsPort [] = ⊤
IsPort (first ∷ digits) = (first ∷ [] ≡ codes ":") × (0 < length digits) × All (λ b. IsTrue (is_ascii_digit b)) digits

-- A place is this host, with or without a port.
abbrev pub IsAtHost : List ℕ → List ℕ → Type 0
IsAtHost host place = (port : List ℕ) × (place ≡ host ++ port) × IsPort port

-- A place is this machine: 127.0.0.1 or localhost.
abbrev pub IsThisMachine : List ℕ → Type 0
IsThisMachine place = IsAtHost (codes "127.0.0.1") place ⊎ IsAtHost (codes "localhost") place

-- An origin has this scheme and is this machine.
abbrev pub IsLocalBy : List ℕ → List ℕ → Type 0
IsLocalBy scheme origin = (place : List ℕ) × (origin ≡ scheme ++ place) × IsThisMachine place

-- An origin is this machine, by http or https.
abbrev pub IsLocal : List ℕ → Type 0
IsLocal origin = IsLocalBy (codes "http://") origin ⊎ IsLocalBy (codes "https://") origin
