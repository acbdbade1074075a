-- Blocks that are to be joined, and the refusals of that.
use Rattle.std.proofs.Common.{◌≡◌, ℕ, List, length, map, take, drop, refl, sym, ap, subst, ◌∙◌}
use Rattle.std.proofs.lemmas.List.{drop-map, take-map}
use Rattle.block.specs.Blocks.{Shown}
use Rattle.head.specs.Blocks.{part_in}
use Rattle.head.specs.Heads.{BlockPart}
use Rattle.head.specs.declared.error.CommitError.{CommitError}
use Rattle.head.specs.declared.error.CommitError.TheVariants as commit
use Rattle.snapshots.specs.declared.error.JoinError.TheVariants as join
use Rattle.snapshots.specs.Refusals.{join_refusal}

-- it is the journal's for no other refusal
pub join_journal : (e : CommitError) → join_refusal e ≡ join.Journal → e ≡ commit.Journal
join_journal (commit.OutOfBounds at) is = absurd (cc is)
join_journal (commit.OutOfOrder at) is = absurd (cc is)
join_journal (commit.Duplicate at) is = absurd (cc is)
join_journal commit.Limit is = absurd (cc is)
join_journal commit.CutTooLow is = absurd (cc is)
join_journal commit.TooManyParts is = absurd (cc is)
join_journal commit.Seat is = absurd (cc is)
join_journal commit.Journal is = refl
join_journal commit.Memory is = absurd (cc is)

-- and the seat's for no other
pub join_seat : (e : CommitError) → join_refusal e ≡ join.Seat → e ≡ commit.Seat
join_seat (commit.OutOfBounds at) is = absurd (cc is)
join_seat (commit.OutOfOrder at) is = absurd (cc is)
join_seat (commit.Duplicate at) is = absurd (cc is)
join_seat commit.Limit is = absurd (cc is)
join_seat commit.CutTooLow is = absurd (cc is)
join_seat commit.TooManyParts is = absurd (cc is)
join_seat commit.Seat is = refl
join_seat commit.Journal is = absurd (cc is)
join_seat commit.Memory is = absurd (cc is)

-- the blocks that stand at a place of a snapshot are these, if they are the same
pub run_stands : (blocks others was : List Shown) (parts : List BlockPart) (at n : ℕ)
    → map part_in blocks ≡ parts → others ≡ was → n ≡ length others
    → take (length others) (drop at blocks) ≡ others → take n (drop at parts) ≡ map part_in was
run_stands blocks others was parts at n shown same long stand =
    subst (λ (k : ℕ). take k (drop at parts) ≡ map part_in was) (sym long)
    (ap (λ (bs : List BlockPart). take (length others) (drop at bs)) (sym shown)
    ∙ (ap (take (length others)) (drop-map part_in at blocks)
    ∙ (take-map part_in (length others) (drop at blocks) ∙ ap (map part_in) (stand ∙ same))))
