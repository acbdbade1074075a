-- The names of the files of a store.
use Rattle.std.specs.Prelude.{◌≡◌, ◌==◌, ◌&&◌, ℕ, Bool, not, List, [], ◌∷◌, ◌++◌, codes, length}
use Rattle.std.specs.Char.{is_ascii_digit}
use Rattle.std.specs.List.{list_all, list_any}
use Rattle.head_record.specs.Saved.{Place}
use Rattle.store_folder.specs.Blocks.{name_in}

abbrev pub names_of : Place → List (List ℕ)
names_of p =
    name_in p.0 (codes "meta.json")
    ∷ name_in p.0 (codes "index")
    ∷ name_in p.0 (codes "chunks/000001")
    ∷ name_in p.0 (codes "tombstones")
    ∷ []

-- the names of the files of the blocks at these places
abbrev pub names_at : List Place → List (List ℕ)
names_at [] = []
names_at (p ∷ places) = names_of p ++ names_at places

-- whether a name is that of a number
abbrev pub is_number : List ℕ → Bool
is_number name = not (length name == 0) && list_all is_ascii_digit name

-- whether one of these names is that of a number
abbrev pub has_number : List (List ℕ) → Bool
has_number names = list_any is_number names

-- these names stand in the folder of blocks, and one of them is that of a number, or none is
abbrev pub ListsNumber : {F : Type 0} → (F → List ℕ → List (List ℕ) → Type 0) → F → Bool → Type 0
ListsNumber lists f has =
    (names : List (List ℕ)) × lists f (codes "blocks") names × (has ≡ has_number names)
