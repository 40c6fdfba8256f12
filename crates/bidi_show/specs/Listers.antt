-- The listing of an input line by line. Defined by this project.
use Rattle.std.specs.Prelude.{◌≡◌, ℕ, List, length, nat_lt}
use Rattle.bidi_lines.specs.Answering.{AnswersOf}
use Rattle.bidi_show.specs.Listings.{ListsEach}
use Rattle.bidi_show.specs.declared.showing.Lister.{Lister}

-- since its first state, the lister has listed these lines with this text, and it knows whether the text is empty
pub record HasListed (first : Lister) (lister : Lister) (lines : List (List ℕ)) (text : List ℕ) : Type 0 where
  pub listing : lister.listing ≡ first.listing
  pub side : lister.side ≡ first.side
  pub lists : ListsEach first.listing first.side 1 lines text
  pub tells : lister.has_written ≡ nat_lt 0 (length text)

-- the answers of a lister: it lists every line, and refuses none
abbrev pub lister_answers : AnswersOf Lister
lister_answers = record {
  has_answered = HasListed;
  refuses = λ line. ⊥;
  is_worn_out = λ lines line. ⊥;
}
