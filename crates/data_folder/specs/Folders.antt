-- Files by their names, and what a crash leaves of them.
use Rattle.std.specs.Prelude.{◌≡◌, ◌≢◌, ◌⊎◌, ◌≤◌, ℕ, List, Option, None, Some, Vec, length}
use Rattle.std.specs.declared.alloc.Global.{Global}
use Rattle.journal.specs.Media.{MayLeave}

-- what is found under each name
abbrev pub Left : Type 0
Left = List ℕ → Option (List ℕ)

-- a crash leaves nothing where nothing is, and of a file a front of its bytes, no shorter than what
-- is there for good
abbrev pub MayLeaveOf : ℕ → Option (List ℕ) → Option (List ℕ) → Type 0
MayLeaveOf n None found = found ≡ None
MayLeaveOf n (Some bytes) found =
    (left : List ℕ) × (found ≡ Some left) × MayLeave n bytes left

-- Time goes on: a crash since t might have left what it might have left before, or it comes during
-- this call, and leaves what it may leave then.
pub record Elapses (before now : ℕ) (past since : ℕ → Left → Type 0)
    (may_leave : Left → Type 0) : Type 0 where
  pub later : before ≤ now
  pub nothing_else : (t : ℕ) (left : Left) → t ≤ before → since t left
      → past t left ⊎ (since before left × may_leave left)
  pub keeps : (t : ℕ) (left : Left) → t ≤ before → past t left → since t left

-- A crash at any moment since old leaves files that have P.
pub record LeavesOnly {F : Type 0} (moment : F → ℕ) (left_since : F → ℕ → Left → Type 0)
    (old new : F) (P : Left → Type 0) : Type 0 where
  pub later : moment old ≤ moment new
  pub each : (left : Left) → left_since new (moment old) left → P left
  -- for a run that began earlier
  pub before : (t : ℕ) (left : Left) → t ≤ moment old → left_since new t left
      → left_since old t left ⊎ P left

-- names other than these two have what they had, as much of it for good
pub record KeepsOthers {F : Type 0} (shows : F → List ℕ → Option (List ℕ) → Type 0)
    (kept : F → List ℕ → ℕ → Type 0) (a b : List ℕ) (old new : F) : Type 0 where
  pub same : (name : List ℕ) (x : Option (List ℕ)) → name ≢ a → name ≢ b → shows old name x
      → shows new name x
  pub durable : (name : List ℕ) (n : ℕ) → name ≢ a → name ≢ b → kept old name n
      → kept new name n

-- all names have what they had, as much of it for good
pub record KeepsAll {F : Type 0} (shows : F → List ℕ → Option (List ℕ) → Type 0)
    (kept : F → List ℕ → ℕ → Type 0) (old new : F) : Type 0 where
  pub same : (name : List ℕ) (x : Option (List ℕ)) → shows old name x → shows new name x
  pub durable : (name : List ℕ) (n : ℕ) → kept old name n → kept new name n

-- a crash leaves of all names what it may leave
abbrev pub LeavesAll : {F : Type 0} → (F → List ℕ → Option (List ℕ) → Type 0)
    → (F → List ℕ → ℕ → Type 0) → F → Left → Type 0
LeavesAll shows kept old left =
    (name : List ℕ) (x : Option (List ℕ)) (n : ℕ) → shows old name x → kept old name n
    → MayLeaveOf n x (left name)

-- Nothing is changed: all names have what they had, and a crash at any moment since old leaves of
-- each what it might have left of it then.
pub record Untouched {F : Type 0} (shows : F → List ℕ → Option (List ℕ) → Type 0)
    (kept : F → List ℕ → ℕ → Type 0) (moment : F → ℕ) (left_since : F → ℕ → Left → Type 0)
    (old new : F) : Type 0 where
  pub all : KeepsAll shows kept old new
  pub time : Elapses (moment old) (moment new) (left_since old) (left_since new)
      (LeavesAll shows kept old)

-- a crash leaves of names other than these two what it may leave, and what it leaves has P
pub record LeavesOthers {F : Type 0} (shows : F → List ℕ → Option (List ℕ) → Type 0)
    (kept : F → List ℕ → ℕ → Type 0) (a b : List ℕ) (old : F) (P : Left → Type 0)
    (left : Left) : Type 0 where
  pub others : (name : List ℕ) (x : Option (List ℕ)) (n : ℕ) → name ≢ a → name ≢ b
      → shows old name x → kept old name n → MayLeaveOf n x (left name)
  pub own : P left

-- the name has exactly this file, all of it for good
pub record HasFile {F : Type 0} (shows : F → List ℕ → Option (List ℕ) → Type 0)
    (kept : F → List ℕ → ℕ → Type 0) (name bytes : List ℕ) (f : F) : Type 0 where
  pub shown : shows f name (Some bytes)
  pub durable : kept f name (length bytes)

-- the name has what was found under it, all of it for good
abbrev pub IsFound : {F : Type 0} → (F → List ℕ → Option (List ℕ) → Type 0)
    → (F → List ℕ → ℕ → Type 0) → List ℕ → Option (Vec ℕ Global) → F → Type 0
IsFound shows kept name None f = shows f name None × kept f name 0
IsFound shows kept name (Some bytes) f = HasFile shows kept name bytes.items f

-- during a write at the end of a file
abbrev pub MayGrow : {F : Type 0} → (F → List ℕ → Option (List ℕ) → Type 0)
    → (F → List ℕ → ℕ → Type 0) → F → List ℕ → (List ℕ → List ℕ) → (ℕ → ℕ) → Left → Type 0
MayGrow shows kept old name bytes_after count left =
    (bytes : List ℕ) (n : ℕ) → shows old name (Some bytes) → kept old name n
    → MayLeaveOf (count n) (Some (bytes_after bytes)) (left name)

-- during a replacement a crash leaves under the name what it had, or the file that replaces it
abbrev pub IsOneOf : {F : Type 0} → (F → List ℕ → Option (List ℕ) → Type 0)
    → (F → List ℕ → ℕ → Type 0) → F → List ℕ → List ℕ → Left → Type 0
IsOneOf shows kept old from to left =
    (x : Option (List ℕ)) (n : ℕ) (bytes : List ℕ) → shows old to x → kept old to n
    → HasFile shows kept from bytes old
    → MayLeaveOf n x (left to) ⊎ (left to ≡ Some bytes)
