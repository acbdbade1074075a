-- A folder after a crash.
use Rattle.std.specs.Prelude.{◌≡◌, ℕ, List, Option, Some}
use Rattle.data_folder.specs.Folders.{HasFile, Left}

-- the folder has all that is left, and has it for good
abbrev pub HasLeft : {F : Type 0} → (F → List ℕ → Option (List ℕ) → Type 0)
    → (F → List ℕ → ℕ → Type 0) → F → Left → Type 0
HasLeft shows kept f left =
    (name bytes : List ℕ) → left name ≡ Some bytes → HasFile shows kept name bytes f
