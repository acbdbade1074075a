-- The files of a store.
use Rattle.std.specs.Prelude.{◌≡◌, ℕ, List, [], Option, None, Some, codes}
use Rattle.data_folder.specs.Folders.{Left}

-- the journal: the one file that decides what the store is
abbrev pub journal_name : List ℕ
journal_name = codes "journal"

-- the journal in the making
abbrev pub next_name : List ℕ
next_name = codes "journal.next"

-- the bytes of what is found under the journal's name: none if it is not there
abbrev pub bytes_in : Option (List ℕ) → List ℕ
bytes_in None = []
bytes_in (Some bytes) = bytes

-- What a crash since a moment might have left of the journal. So a journal of which something has
-- to be left has to be there.
abbrev pub JournalLeft : {F : Type 0} → (F → ℕ → Left → Type 0) → F → ℕ → List ℕ → Type 0
JournalLeft left_since f t bytes =
    (left : Left) × left_since f t left × (bytes_in (left journal_name) ≡ bytes)
