-- The types of realms: each type's text, and the table of them. After WebDriver BiDi, "The script.RealmType Type".
use Rattle.std.specs.Prelude.{◌≡◌, ℕ, List, [], ◌∷◌, Some, codes, refl}
use Rattle.bidi_shape.specs.Name as name
use Rattle.bidi_shape.specs.Term.{rule}
use Rattle.bidi_shape.specs.WordLaws.{Words, word, value_named}
use Rattle.bidi_scripts.specs.declared.realms.RealmType.{RealmType}
use Rattle.bidi_scripts.specs.declared.realms.RealmType.TheVariants.{Window, DedicatedWorker, SharedWorker, ServiceWorker, Worker}
use Rattle.bidi_scripts.specs.declared.realms.RealmType.TheVariants.{PaintWorklet, AudioWorklet, Worklet}

-- the string of each type of realm
abbrev pub realm_type_text : RealmType → List ℕ
realm_type_text Window = codes "window"
realm_type_text DedicatedWorker = codes "dedicated-worker"
realm_type_text SharedWorker = codes "shared-worker"
realm_type_text ServiceWorker = codes "service-worker"
realm_type_text Worker = codes "worker"
realm_type_text PaintWorklet = codes "paint-worklet"
realm_type_text AudioWorklet = codes "audio-worklet"
realm_type_text Worklet = codes "worklet"

-- the string of each type of realm names it
pub realm_type_named : (v : RealmType) → value_named (word realm_type_text Window)
    (word realm_type_text DedicatedWorker ∷ word realm_type_text SharedWorker ∷ word realm_type_text ServiceWorker ∷ word realm_type_text Worker
    ∷ word realm_type_text PaintWorklet ∷ word realm_type_text AudioWorklet ∷ word realm_type_text Worklet ∷ []) (realm_type_text v) ≡ Some v
realm_type_named Window = refl
realm_type_named DedicatedWorker = refl
realm_type_named SharedWorker = refl
realm_type_named ServiceWorker = refl
realm_type_named Worker = refl
realm_type_named PaintWorklet = refl
realm_type_named AudioWorklet = refl
realm_type_named Worklet = refl

-- the types of realms as a table of their strings
abbrev pub realm_type_words : Words RealmType
realm_type_words = record {
  rule = rule name.realm_type;
  first = word realm_type_text Window;
  rest =
      word realm_type_text DedicatedWorker ∷ word realm_type_text SharedWorker ∷ word realm_type_text ServiceWorker
      ∷ word realm_type_text Worker ∷ word realm_type_text PaintWorklet ∷ word realm_type_text AudioWorklet ∷ word realm_type_text Worklet ∷ [];
  text_of = realm_type_text;
  is_rule = refl;
  has_texts = (refl, (refl, (refl, (refl, (refl, (refl, (refl, refl)))))));
  names_it = realm_type_named;
}
