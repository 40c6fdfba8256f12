-- The output of `show` and `check` for their input, and the reasons to stop early. Defined by this project.
use Rattle.std.specs.Prelude.{◌≡◌, ℕ, ◌+◌, List, [], ◌∷◌, ◌++◌, Option, Some, None, codes, decimal}
use Rattle.bidi_lines.specs.Answering.{AnswersAll, HasFirst}
use Rattle.bidi_lines.specs.Feeds.{ended}
use Rattle.bidi_lines.specs.InputLines.{IsLine, BeginsBadly, most_lines}
use Rattle.bidi_lines.specs.Stops.{Run}
use Rattle.bidi_lines.specs.declared.side.Side.{Side}
use Rattle.bidi_show.specs.MessageLines.{Shown, Shows, refused, text_of}
use Rattle.bidi_show.specs.declared.showing.Listing.{Listing}
use Rattle.bidi_show.specs.declared.showing.Listing.TheVariants.{All, RefusedAlone}

-- `line N: TEXT` with its line feed, or nothing if there is no text
abbrev pub numbered : ℕ → Option (List ℕ) → List ℕ
numbered n None = []
numbered n (Some text) = ended (codes "line " ++ decimal n ++ codes ": " ++ text)

-- the listing of one line: what is shown for it, or, if only refused lines are listed, that together with the line's number
-- example: `line 2: no fit`
abbrev pub listed : Listing → ℕ → Shown → List ℕ
listed All n shown = ended (text_of shown)
listed RefusedAlone n shown = numbered n (refused shown)

-- the text is the listing of the line with this number
abbrev pub Lists : Listing → Side → ℕ → List ℕ → List ℕ → Type 0
Lists listing side n line text = (shown : Shown) × Shows side line shown × (text ≡ listed listing n shown)

-- the text is the listing of these lines, the first of which has this number
abbrev pub ListsEach : Listing → Side → ℕ → List (List ℕ) → List ℕ → Type 0
ListsEach listing side n [] wrote = wrote ≡ []
ListsEach listing side n (line ∷ lines) wrote =
    (text : List ℕ) × (more : List ℕ) × Lists listing side n line text × ListsEach listing side (n + 1) lines more × (wrote ≡ text ++ more)

-- the text is the listing of these bytes, which are whole lines only, at most 1,000,000,000
abbrev pub ListsAll : Listing → Side → List ℕ → List ℕ → Type 0
ListsAll listing side bytes wrote = AnswersAll (ListsEach listing side 1) most_lines bytes wrote

-- a listing as a run over lines: it refuses only a line that is too long or has no line feed
abbrev pub listing_run : Listing → Side → Run
listing_run listing side = record {
  is_line = IsLine;
  is_next = λ at_end line bytes. HasFirst line bytes;
  refuses = λ at_end bytes. BeginsBadly at_end bytes;
  answers = λ lines text. ListsEach listing side 1 lines text;
  is_worn_out = λ lines rest. ⊥;
  most = most_lines;
}
