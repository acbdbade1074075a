-- The rule of the log of marks, and what its one step tells.
use Rattle.std.specs.Prelude.{ℕ, ◌≡◌, ◌⊎◌, ◌==◌, true, List, [], ◌∷◌, ◌++◌, length, MatchBool}
use Rattle.logbook.specs.Pages.{Cell, Step, View, Book, Named}
use Rattle.snapshots.specs.declared.entry.Mark.{Mark}

-- A book has three words. The first is the length of the log; the two others stay at 0, and are the
-- rights to show versions: a book has one word of each key, so there are two rights.
abbrev pub HoldLength : List Cell → List Mark → Type 0
HoldLength cells log = cells ≡ (length log, true) ∷ (0, true) ∷ (0, true) ∷ []

-- the word of this key
abbrev pub word_of : ℕ → Book → Named
word_of key b = record { tracked = true; key = key; book = b }

-- the word of a book that has the length of its log
abbrev pub end_of : Book → Named
end_of b = word_of 0 b

-- the word is one of the two rights of its book to show versions
abbrev pub IsRight : Named → Type 0
IsRight w = (w ≡ word_of 1 w.book) ⊎ (w ≡ word_of 2 w.book)

-- the mark was added to all that had been seen, or the log was longer
abbrev pub Adds : Step Mark → View Mark ℕ → ℕ → View Mark ℕ → Type 0
Adds s v found w = MatchBool (found == s.old) (w.0 ≡ v.0 ++ s.ask ∷ []) (length w.0 ≡ found)
