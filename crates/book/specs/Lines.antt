-- The lines of a book.
use Rattle.std.specs.Prelude.{◌≡◌, ℕ, ◌<◌, ◌⊎◌, List, [], ◌∷◌, ◌++◌, map, length, ◌≢◌, slice_index}
use Rattle.std.specs.List.{flat_map}
use Rattle.book.specs.declared.line.Ending.{Ending}
use Rattle.book.specs.declared.line.Ending.TheVariants.{Feed, ReturnFeed, End, ReturnEnd}
use Rattle.book.specs.declared.line.Line.{Line}

-- the bytes of a line feed and of a carriage return
abbrev pub LF : ℕ
LF = 10

abbrev pub CR : ℕ
CR = 13

-- the bytes of an ending: at most one carriage return, then at most one line feed
abbrev pub mark : Ending → List ℕ
mark Feed = LF ∷ []
mark ReturnFeed = CR ∷ LF ∷ []
mark End = []
mark ReturnEnd = CR ∷ []

-- a line as it stands in the book, with its ending
abbrev pub whole : Line → List ℕ
whole l = l.text.now ++ mark l.ending

-- the ending is a line feed
abbrev pub Fed : Ending → Type 0
Fed Feed = Unit {0}
Fed ReturnFeed = Unit {0}
Fed End = ⊥
Fed ReturnEnd = ⊥

-- a carriage return was dropped
abbrev pub Returned : Ending → Type 0
Returned Feed = ⊥
Returned ReturnFeed = Unit {0}
Returned End = ⊥
Returned ReturnEnd = Unit {0}

-- a line has no line feed in it; and if it still ends in a carriage return, then another one was dropped after that
pub record IsLine (l : Line) : Type 0 where
  pub unbroken : (k : ℕ) → k < length l.text.now → slice_index l.text.now k ≢ LF
  pub stripped : (front : List ℕ) → l.text.now ≡ front ++ CR ∷ [] → Returned l.ending

-- lines one after the other: each but the last ends in a line feed; the last may end with the book, and then is not nothing
abbrev pub WellEnded : List Line → Type 0
WellEnded [] = Unit {0}
WellEnded (l ∷ []) = IsLine l × (Fed l.ending ⊎ (0 < length (whole l)))
WellEnded (l ∷ m ∷ ls) = IsLine l × Fed l.ending × WellEnded (m ∷ ls)

-- these are the lines of the book: put together again with their endings, they are the book
pub record LinesOf (book : List ℕ) (ls : List Line) : Type 0 where
  pub together : flat_map whole ls ≡ book
  pub well_ended : WellEnded ls

-- a line's text and ending, wherever it lies
abbrev pub plain : Line → List ℕ × Ending
plain l = (l.text.now, l.ending)

-- ls are the lines of the book, and there are no others
abbrev pub TheLines : List ℕ → List Line → Type 0
TheLines book ls = LinesOf book ls × ((ms : List Line) → LinesOf book ms → map plain ms ≡ map plain ls)

-- l is the first line of the book, and rest is what comes after it
pub record FirstLine (book : List ℕ) (l : Line) (rest : List ℕ) : Type 0 where
  pub together : whole l ++ rest ≡ book
  pub is_line : IsLine l
  pub some : 0 < length (whole l)
  pub ends : Fed l.ending ⊎ (rest ≡ [])

-- l is the first line of the book and rest what comes after it, and there is no other way to cut it off
abbrev pub TheFirstLine : List ℕ → Line → List ℕ → Type 0
TheFirstLine book l rest = FirstLine book l rest × ((m : Line) (others : List ℕ) → FirstLine book m others → (plain m ≡ plain l) × (others ≡ rest))
