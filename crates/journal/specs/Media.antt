-- What a medium that grows does to its bytes, and what a crash may leave of them.
use Rattle.std.specs.Prelude.{◌≡◌, ◌⊎◌, ◌≤◌, ◌++◌, ℕ, Bool, true, false, List, [], ◌∷◌, length}
use Rattle.std.specs.Prelude.{take}
use Rattle.std.specs.List.{AllByRecursion}
use Rattle.journal.specs.Records.{file_of, IsContent, Recovers}

-- A crash leaves a front of the bytes: all that is on the medium for good, and some of the rest.
pub record MayLeave (synced : ℕ) (bytes left : List ℕ) : Type 0 where
  pub n : ℕ
  pub kept : synced ≤ n
  pub front : left ≡ take n bytes

-- Time goes on: a crash since t might have left what it might have left before, or what it may
-- leave during this call.
pub record Elapses (before now : ℕ) (past since : ℕ → List ℕ → Type 0)
    (may_leave : List ℕ → Type 0) : Type 0 where
  pub later : before ≤ now
  pub nothing_else : (t : ℕ) (left : List ℕ) → t ≤ before → since t left
      → past t left ⊎ may_leave left
  pub keeps : (t : ℕ) (left : List ℕ) → t ≤ before → past t left → since t left

-- A crash at any moment since old leaves a file that has P.
pub record LeavesOnly {M : Type 0} (moment : M → ℕ) (left_since : M → ℕ → List ℕ → Type 0)
    (old new : M) (P : List ℕ → Type 0) : Type 0 where
  pub later : moment old ≤ moment new
  pub each : (left : List ℕ) → left_since new (moment old) left → P left
  -- for a run that began earlier
  pub before : (t : ℕ) (left : List ℕ) → t ≤ moment old → left_since new t left
      → left_since old t left ⊎ P left

-- the medium has exactly these bytes, all of them for good
pub record HasAll {M : Type 0} (shows : M → List ℕ → Type 0) (kept : M → ℕ → Type 0)
    (sound : M → Bool) (bytes : List ℕ) (m : M) : Type 0 where
  pub all : shows m bytes
  pub durable : kept m (length bytes)
  pub is_sound : sound m ≡ true

-- a journal of these contents: the medium has exactly their file, all of it for good
pub record Keeps {M : Type 0} (shows : M → List ℕ → Type 0) (kept : M → ℕ → Type 0)
    (sound : M → Bool) (contents : List (List ℕ)) (medium : M) (len : ℕ) : Type 0 where
  pub each : AllByRecursion IsContent contents
  pub has : HasAll shows kept sound (file_of contents) medium
  pub counted : len ≡ length (file_of contents)

-- the file stands for these contents, or for these and one more
abbrev pub IsBeforeOrAfter : List (List ℕ) → List ℕ → List ℕ → Type 0
IsBeforeOrAfter contents content file =
    Recovers file contents ⊎ Recovers file (contents ++ content ∷ [])

-- a journal is closed, or has some contents
abbrev pub IsJournal : {M : Type 0} → (M → List ℕ → Type 0) → (M → ℕ → Type 0) → (M → Bool)
    → M → ℕ → Bool → Type 0
IsJournal shows kept sound medium len closed =
    closed ≡ false → (contents : List (List ℕ)) × Keeps shows kept sound contents medium len
