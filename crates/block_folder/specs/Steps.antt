-- The steps by which a block's directory is written.
use Rattle.std.specs.Prelude.{◌≡◌, ℕ, Bool, true, false, List, Vec, [], ◌∷◌, ◌++◌, map}
use Rattle.std.specs.List.{flat_map}
use Rattle.block_folder.specs.declared.step.Step.{Step}
use Rattle.block_folder.specs.declared.step.Step.TheVariants as step

-- a call of a disk: a directory is made, a file is written and synced, a directory is synced, or a
-- directory gets another name
pub data Call : Type 0 where
  Make : List ℕ → Call
  Write : List ℕ → List ℕ → Call
  Sync : List ℕ → Call
  Rename : List ℕ → List ℕ → Call

-- the bytes of pieces, laid end to end
abbrev pub whole : {Z : Type 0} → List (Vec ℕ Z) → List ℕ
whole pieces = flat_map (λ piece. piece.items) pieces

-- the call that a step asks for
abbrev pub call_of : Step → Call
call_of (step.Make path) = Make path.now
call_of (step.Write path bytes) = Write path.now bytes.now
call_of (step.WritePieces path pieces) = Write path.now (whole pieces.now)
call_of (step.Sync path) = Sync path.now
call_of (step.Rename from to) = Rename from.now to.now

-- a call, and whether it was done
abbrev pub Did : Type 0
Did = Call × Bool

-- these calls were done
abbrev pub all_done : List Call → List Did
all_done calls = map (λ (c : Call). (c, true)) calls

-- of these calls, in their order, all up to one were done, that one failed, and none was made after
pub record FailsWithin (calls : List Call) (log : List Did) : Type 0 where
  pub before : List Call
  pub call : Call
  pub after : List Call
  pub order : calls ≡ before ++ call ∷ after
  pub told : log ≡ all_done before ++ (call, false) ∷ []

-- what was called after some calls: these, all of them done
abbrev pub DoesAll : {D : Type 0} → (D → List Did → Type 0) → List Call → D → D → Type 0
DoesAll did calls old new =
    (log : List Did) → did old log → did new (log ++ all_done calls)

-- what was called after some calls: these up to one that failed
abbrev pub DoesUpToOne : {D : Type 0} → (D → List Did → Type 0) → List Call → D → D → Type 0
DoesUpToOne did calls old new = (log : List Did) → did old log
    → (more : List Did) × did new (log ++ more) × FailsWithin calls more
