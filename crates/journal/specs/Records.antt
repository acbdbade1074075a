-- A journal: a header, and records. What a crash leaves of one, and what is damage.
use Rattle.std.specs.Prelude.{◌≡◌, ◌≢◌, ◌⊎◌, ◌<◌, ◌+◌, ◌-◌, ℕ, Bool, ◌==◌, ◌&&◌, nat_lt, nat_le}
use Rattle.std.specs.Prelude.{List, [], ◌∷◌, ◌++◌, length, true, false, if◌then◌else◌}
use Rattle.std.specs.List.{AllByRecursion, list_all, flat_map}
use Rattle.byteorder.specs.Endian.{big_bytes}
use Rattle.wire.specs.Checksum.{checked, crc32c}
use Rattle.wire.specs.Spelling.{IsBytes}

-- whether a content may have so many bytes: 1 to 2^26
abbrev pub is_length : ℕ → Bool
is_length n = nat_lt 0 n && nat_le n 67108864

-- 1 to 2^26 bytes
pub record IsContent (content : List ℕ) : Type 0 where
  pub bytes : IsBytes content
  pub sized : is_length (length content) ≡ true

-- how many bytes a content has: in four bytes, and their checksum in four more
abbrev pub length_text : ℕ → List ℕ
length_text n = checked (big_bytes 4 n)

-- a record: how many bytes the content has, the content, and its checksum
unfoldable pub record_of : List ℕ → List ℕ
record_of content = length_text (length content) ++ checked content

unfoldable pub records_of : List (List ℕ) → List ℕ
records_of contents = flat_map record_of contents

-- "FZLJ"
abbrev pub magic : List ℕ
magic = 0x46 ∷ 0x5A ∷ 0x4C ∷ 0x4A ∷ []

-- the magic, and the version 1
abbrev pub header : List ℕ
header = 0x46 ∷ 0x5A ∷ 0x4C ∷ 0x4A ∷ 1 ∷ []

-- the whole file
unfoldable pub file_of : List (List ℕ) → List ℕ
file_of contents = header ++ records_of contents

-- the bytes begin with this text, or they do not
abbrev pub Begins : List ℕ → List ℕ → Type 0
Begins text bytes = (rest : List ℕ) × (bytes ≡ text ++ rest)

abbrev pub BeginsOtherwise : List ℕ → List ℕ → Type 0
BeginsOtherwise text bytes = Begins text bytes → ⊥

-- only zeros: a file that was made longer, and whose bytes never came
abbrev pub is_blank : List ℕ → Bool
is_blank bytes = list_all (λ (b : ℕ). b == 0) bytes

-- a length stands in front, and the record does not end within the bytes
pub record IsCutShort (bytes : List ℕ) : Type 0 where
  pub len : ℕ
  pub part : List ℕ
  pub sized : is_length len ≡ true
  pub parts : bytes ≡ length_text len ++ part
  pub short : length part < len + 4

-- a record in front whose checksum is not its content's, and the bytes after it
pub record HasWrongSum (bytes after : List ℕ) : Type 0 where
  pub content : List ℕ
  pub sum : List ℕ
  pub sized : is_length (length content) ≡ true
  pub four : length sum ≡ 4
  pub wrong : sum ≢ big_bytes 4 (crc32c content)
  pub parts : bytes ≡ length_text (length content) ++ (content ++ (sum ++ after))

-- what a crash may leave after the last whole record: not even a length, a record that is cut
-- short, a record up to the end of the file whose checksum is wrong, or zeros
abbrev pub IsTorn : List ℕ → Type 0
IsTorn rest =
    (length rest < 8) ⊎ (IsCutShort rest ⊎ (HasWrongSum rest [] ⊎ (is_blank rest ≡ true)))

-- damage: a record with a wrong checksum and more bytes after it
pub record IsDamaged (rest : List ℕ) : Type 0 where
  pub after : List ℕ
  pub more : 0 < length after
  pub wrong : HasWrongSum rest after

-- damage: eight bytes that are the text of no length, and not zeros to the end
pub record HasBadLength (rest : List ℕ) : Type 0 where
  pub front : List ℕ
  pub after : List ℕ
  pub eight : length front ≡ 8
  pub no_length : (len : ℕ) → is_length len ≡ true → front ≢ length_text len
  pub parts : rest ≡ front ++ after
  pub not_blank : is_blank rest ≡ false

-- the file is these records, and then bytes of which a test holds
pub record Splits (P : List ℕ → Type 0) (file : List ℕ) (contents : List (List ℕ)) : Type 0 where
  pub rest : List ℕ
  pub whole : file ≡ file_of contents ++ rest
  pub each : AllByRecursion IsContent contents
  pub ends : P rest

-- what a file that a crash left stands for: its whole records, before a torn end
abbrev pub Recovers : List ℕ → List (List ℕ) → Type 0
Recovers file contents = Splits IsTorn file contents

-- the contents whose records lie wholly in the first n bytes after the header
abbrev pub whole_in : ℕ → List (List ℕ) → List (List ℕ)
whole_in n [] = []
whole_in n (content ∷ contents) =
    if nat_le (length content + 12) n
    then content ∷ whole_in (n - (length content + 12)) contents
    else []
