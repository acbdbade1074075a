-- A message: fields one after another, each a number and a value of one of four kinds.
use Rattle.std.specs.Prelude.{◌≡◌, ℕ, ◌+◌, ◌*◌, ◌^◌, ◌<◌, List, [], ◌∷◌, ◌++◌, length, ◌==◌}
use Rattle.std.specs.Prelude.{if◌then◌else◌, Bool, true, ⊤}
use Rattle.byteorder.specs.Endian.{little_bytes}
use Rattle.varints.specs.Varint.{IsVarint}

-- a field: its number, and a number, eight bytes or four of one, or a text
pub data Value : Type 0 where
  Number : ℕ → ℕ → Value
  Eight : ℕ → ℕ → Value
  Text : ℕ → List ℕ → Value
  Four : ℕ → ℕ → Value

abbrev pub number_of : Value → ℕ
number_of (Number n v) = n
number_of (Eight n v) = n
number_of (Text n v) = n
number_of (Four n v) = n

-- how the kind is told
abbrev pub kind_of : Value → ℕ
kind_of (Number n v) = 0
kind_of (Eight n v) = 1
kind_of (Text n v) = 2
kind_of (Four n v) = 5

-- what stands behind the key
abbrev pub IsBody : Value → List ℕ → Type 0
IsBody (Number n v) body = IsVarint body v
IsBody (Eight n v) body = (v < 256 ^ 8) × (body ≡ little_bytes 8 v)
IsBody (Text n text) body = (front : List ℕ) × IsVarint front (length text) × (body ≡ front ++ text)
IsBody (Four n v) body = (v < 256 ^ 4) × (body ≡ little_bytes 4 v)

-- the bytes are this field
pub record IsField (bytes : List ℕ) (value : Value) : Type 0 where
  pub key : List ℕ
  pub body : List ℕ
  pub parts : bytes ≡ key ++ body
  pub key_is : IsVarint key (8 * number_of value + kind_of value)
  pub some : 0 < number_of value
  pub few : number_of value < 2 ^ 29
  pub body_is : IsBody value body

-- the bytes are these fields
abbrev pub AreFields : List ℕ → List Value → Type 0
AreFields bytes [] = bytes ≡ []
AreFields bytes (v ∷ vs) =
    (front rest : List ℕ) × IsField front v × (bytes ≡ front ++ rest) × AreFields rest vs

-- the values of the fields of one number, in order
abbrev pub texts : ℕ → List Value → List (List ℕ)
texts n [] = []
texts n (Text m v ∷ vs) = if m == n then v ∷ texts n vs else texts n vs
texts n (Number m v ∷ vs) = texts n vs
texts n (Eight m v ∷ vs) = texts n vs
texts n (Four m v ∷ vs) = texts n vs

abbrev pub numbers : ℕ → List Value → List ℕ
numbers n [] = []
numbers n (Number m v ∷ vs) = if m == n then v ∷ numbers n vs else numbers n vs
numbers n (Text m v ∷ vs) = numbers n vs
numbers n (Eight m v ∷ vs) = numbers n vs
numbers n (Four m v ∷ vs) = numbers n vs

abbrev pub eights : ℕ → List Value → List ℕ
eights n [] = []
eights n (Eight m v ∷ vs) = if m == n then v ∷ eights n vs else eights n vs
eights n (Text m v ∷ vs) = eights n vs
eights n (Number m v ∷ vs) = eights n vs
eights n (Four m v ∷ vs) = eights n vs

-- the last of them, or another value where there is none: of a field that is not repeated the last
-- counts
abbrev pub last_or : {A : Type 0} → A → List A → A
last_or a [] = a
last_or a (x ∷ xs) = last_or x xs

-- each field that is known is of its kind
abbrev pub AreKnown : (ℕ → ℕ → Bool) → List Value → Type 0
AreKnown allows [] = ⊤
AreKnown allows (v ∷ vs) = (allows (number_of v) (kind_of v) ≡ true) × AreKnown allows vs

-- one by one
abbrev pub EachIs : {A B : Type 0} → (A → B → Type 0) → List A → List B → Type 0
EachIs R [] [] = ⊤
EachIs R [] (y ∷ ys) = ⊥
EachIs R (x ∷ xs) [] = ⊥
EachIs R (x ∷ xs) (y ∷ ys) = R x y × EachIs R xs ys
