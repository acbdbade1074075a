-- Forms: how the values of a kind are spelled as bytes.
use Rattle.std.specs.Prelude.{◌≡◌, ◌<◌, ◌^◌, ℕ, ℤ, Bool, true, List, [], ◌∷◌, ◌++◌, length}
use Rattle.std.specs.List.{flat_map, AllByRecursion}
use Rattle.std.specs.Str.{is_utf8}
use Rattle.wire.specs.Spelling.{uvarint, varint, zigzag}

-- the bytes of each value, and which values have any
pub record Form (A : Type 0) : Type 1 where
  pub text : A → List ℕ
  pub fits : A → Type 0

-- one byte
abbrev pub octet : Form ℕ
octet = record { text = λ n. n ∷ []; fits = λ n. n < 256 }

-- a number that has no sign, of at most 64 bits
abbrev pub number : Form ℕ
number = record { text = uvarint; fits = λ n. n < 2 ^ 64 }

-- a number that may have a sign
abbrev pub signed : Form ℤ
signed = record { text = varint; fits = λ z. zigzag z < 2 ^ 64 }

-- a text: how many bytes it has, and these, which are UTF-8
abbrev pub string : Form (List ℕ)
string = record {
  text = λ s. uvarint (length s) ++ s;
  fits = λ s. (length s < 2 ^ 64) × (is_utf8 s ≡ true);
}

-- one after the other
abbrev pub both : {A B : Type 0} → Form A → Form B → Form (A × B)
both f g = record { text = λ x. f.text x.0 ++ g.text x.1; fits = λ x. f.fits x.0 × g.fits x.1 }

-- how many, and each in its order
abbrev pub list : {A : Type 0} → Form A → Form (List A)
list f = record {
  text = λ xs. uvarint (length xs) ++ flat_map f.text xs;
  fits = λ xs. (length xs < 2 ^ 64) × AllByRecursion f.fits xs;
}

-- those that pass a test
abbrev pub such : {A : Type 0} → (A → Bool) → Form A → Form A
such test f = record { text = f.text; fits = λ x. f.fits x × (test x ≡ true) }

-- by another kind of value, of which one stands for each
abbrev pub shown : {A B : Type 0} → (B → A) → Form A → Form B
shown parts f = record { text = λ b. f.text (parts b); fits = λ b. f.fits (parts b) }
