-- Which files a sweep leaves.
use Rattle.std.specs.Prelude.{◌≡◌, ◌&&◌, ◌||◌, ℕ, Bool, true, false, not, List, [], ◌∷◌, Option}
use Rattle.std.specs.Prelude.{None, Some, codes, drop, if◌then◌else◌, length, map, string_bytes}
use Rattle.std.specs.Prelude.{take}
use Rattle.std.specs.Char.{is_ascii_digit}
use Rattle.std.specs.declared.alloc.Global.{Global}
use Rattle.std.specs.declared.string.String.{String}
use Rattle.std.specs.List.{AllByRecursion, list_any}
use Rattle.std.specs.Str.{bytes_eq}
use Rattle.data_folder.specs.Folders.{Left, LeavesOnly}
use Rattle.data_folder.specs.JournalFile.{journal_name, next_name}
use Rattle.data_folder.specs.Rolls.{Keeps}
use Rattle.data_folder.specs.States.{AreThere, HasFiles, HasStore, Named}

-- names without where they lie in memory
abbrev pub names_in : List (String Global) → List (List ℕ)
names_in names = map (λ (name : String Global). string_bytes name) names

-- whether a name is one of these
abbrev pub is_among : List (List ℕ) → List ℕ → Bool
is_among names name = list_any (λ (other : List ℕ). bytes_eq other name) names

-- what follows a text that a name begins with
abbrev pub after : List ℕ → List ℕ → Option (List ℕ)
after front name =
    if bytes_eq (take (length front) name) front then Some (drop (length front) name) else None

-- what follows digits
abbrev pub after_digits : List ℕ → List ℕ
after_digits [] = []
after_digits (byte ∷ bytes) = if is_ascii_digit byte then after_digits bytes else byte ∷ bytes

-- whether this follows the number of a block in the name of its folder, of a file of it, or of the
-- folder of its chunks
abbrev pub ends_block : List ℕ → Bool
ends_block rest =
    bytes_eq rest (codes "") || bytes_eq rest (codes "/meta.json")
    || bytes_eq rest (codes "/index") || bytes_eq rest (codes "/chunks")
    || bytes_eq rest (codes "/chunks/000001") || bytes_eq rest (codes "/tombstones")

-- whether this is the number of a block, which has a digit at least, and such an end
abbrev pub is_numbered : List ℕ → Bool
is_numbered [] = false
is_numbered (byte ∷ bytes) = is_ascii_digit byte && ends_block (after_digits bytes)

-- whether there is something behind `blocks/`, and it is such a number and end
abbrev pub is_block_path : Option (List ℕ) → Bool
is_block_path None = false
is_block_path (Some path) = is_numbered path

-- whether a name is that of a file of a block, or of a folder of one, as `blocks/7/index`
abbrev pub is_of_block : List ℕ → Bool
is_of_block name = is_block_path (after (codes "blocks/") name)

-- whether a name is neither of a block nor that of the journal in the making: what stands under it,
-- as the journal, is never written or removed beside a store
abbrev pub is_lasting : List ℕ → Bool
is_lasting name = not (is_of_block name) && not (bytes_eq name next_name)

-- whether a name is lasting, or is one of these
abbrev pub is_kept : List (List ℕ) → List ℕ → Bool
is_kept names name = is_lasting name || is_among names name

-- whether a name is none of the store's, as `lock`, or `blocks/notes`
abbrev pub is_foreign : List ℕ → Bool
is_foreign name = is_lasting name && not (bytes_eq name journal_name)

-- what is none of the store's has what it had, as much of it for good
pub record KeepsForeign {F : Type 0} (shows : F → List ℕ → Option (List ℕ) → Type 0)
    (kept : F → List ℕ → ℕ → Type 0) (old new : F) : Type 0 where
  pub same : (name : List ℕ) (x : Option (List ℕ)) → is_foreign name ≡ true → shows old name x
      → shows new name x
  pub durable : (name : List ℕ) (n : ℕ) → is_foreign name ≡ true → kept old name n
      → kept new name n

-- the files have names among these
abbrev pub AreAmong : List (List ℕ) → List Named → Type 0
AreAmong names files = AllByRecursion (λ (file : Named). is_among names file.0 ≡ true) files

-- the files have lasting names, or names among these
abbrev pub AreKept : List (List ℕ) → List Named → Type 0
AreKept names files = AllByRecursion (λ (file : Named). is_kept names file.0 ≡ true) files

-- A journal and the files of these names stay, and so does all that has a lasting name, also a
-- journal whose end is torn. A crash at any moment since old leaves them, and nothing under a
-- lasting name that has nothing.
pub record KeepsStore {F : Type 0} (shows : F → List ℕ → Option (List ℕ) → Type 0)
    (kept : F → List ℕ → ℕ → Type 0) (sound : F → Bool) (moment : F → ℕ)
    (left_since : F → ℕ → Left → Type 0) (names : List (List ℕ)) (old new : F) : Type 0 where
  pub journal : (contents : List (List ℕ)) (len : ℕ) → Keeps shows kept sound contents old len
      → Keeps shows kept sound contents new len
  pub files : (files : List Named) → AreAmong names files → AreThere shows kept files old
      → AreThere shows kept files new
  pub any_moment : (contents : List (List ℕ)) (files : List Named) (len : ℕ)
      → Keeps shows kept sound contents old len → AreAmong names files
      → AreThere shows kept files old
      → LeavesOnly moment left_since old new (HasStore files contents)
  pub lasting : (name : List ℕ) (x : Option (List ℕ)) → is_lasting name ≡ true → shows old name x
      → shows new name x
  pub durable : (name : List ℕ) (n : ℕ) → is_lasting name ≡ true → kept old name n
      → kept new name n
  pub left : (files : List Named) → AreKept names files → AreThere shows kept files old
      → LeavesOnly moment left_since old new (HasFiles files)
  pub absent : (name : List ℕ) → is_lasting name ≡ true → shows old name None → kept old name 0
      → LeavesOnly moment left_since old new (λ (left : Left). left name ≡ None)
