-- What a call answered, against what reading gives. Readers of other crates say it by these words,
-- each over an error of its own.
use Rattle.std.specs.Prelude.{◌≡◌, ◌++◌, ⊤, ℕ, Bool, List, MatchBool, Result, Ok, Err}
use Rattle.std.specs.List.Sorted.{IsPermutation}

infixl 10 ◌>>=◌
-- the next check, where none has failed
abbrev pub ◌>>=◌ : {A B E : Type 0} → Result A E → (A → Result B E) → Result B E
(Ok x) >>= f = f x
(Err e) >>= f = Err e

-- a field, whose refusal is that of the check which reads it
abbrev pub or_refused : {A E F : Type 0} → E → Result A F → Result A E
or_refused e (Ok x) = Ok x
or_refused e (Err f) = Err e

-- what a function returned, seen by view, is what reading gives
abbrev pub Answers : {X Y E : Type 0} → (X → Y) → Result X E → Result Y E → Type 0
Answers view (Ok x) read = read ≡ Ok (view x)
Answers view (Err e) read = read ≡ Err e

-- the refusal is that of reading; a want of memory says nothing of it
abbrev pub Fails : {Y E : Type 0} → (E → Bool) → E → Result Y E → Type 0
Fails is_memory e read = MatchBool (is_memory e) ⊤ (read ≡ Err e)

-- what a function returned, seen by view, is what reading gives, unless memory ran out
abbrev pub Gives : {X Y E : Type 0} → (E → Bool) → (X → Y) → Result X E → Result Y E → Type 0
Gives is_memory view (Ok x) read = read ≡ Ok (view x)
Gives is_memory view (Err e) read = Fails is_memory e read

-- what was returned holds all that reading gives, in an order of its own, unless memory ran out
abbrev pub GivesAll : {A E : Type 0} → (E → Bool) → Result (List A) E → Result (List A) E → Type 0
GivesAll {A} is_memory (Ok held) read =
    (all : List A) × (read ≡ Ok all) × IsPermutation all held
GivesAll is_memory (Err e) read = Fails is_memory e read

-- the bytes began with this text, and those after it are left
abbrev pub Takes : List ℕ → List ℕ → List ℕ → Type 0
Takes text old new = old ≡ text ++ new

-- what was read and the bytes after it, or the refusal and the bytes as they were
abbrev pub Reads : {X Y E : Type 0}
    → (X → Y) → Result (Y × List ℕ) E → Result X E → List ℕ → List ℕ → Type 0
Reads view read (Ok x) old new = read ≡ Ok (view x, new)
Reads view read (Err e) old new = (read ≡ Err e) × (new ≡ old)

-- where bytes begin with the text of some value that fits, this value is read
abbrev pub ReadsEach : {A E : Type 0} → (A → Type 0) → (A → List ℕ) → List ℕ → Result A E → Type 0
ReadsEach {A} fits text_of bytes result =
    (a : A) (rest : List ℕ) → fits a → bytes ≡ text_of a ++ rest → result ≡ Ok a
