use Rattle.std.specs.Ordering.{is_lt, nat_cmp}
use Rattle.std.specs.Cmp.Lexicographic.{slice_cmp}
use Rattle.pages.specs.Sorted.{entries_of, place_of}
use Rattle.head.proofs.NameRuns.{names_below}
use Rattle.head.proofs.Listing.{side_split, side_boundary, side_no_hit}
use Rattle.head.proofs.index.first_of.Goals as goal

pub returns-in-Ok-clause-place : goal.returns-in-Ok-clause-place
returns-in-Ok-clause-place c =
    side_no_hit (λ n. is_lt (slice_cmp nat_cmp n c.args.name.now)) (entries_of c.args.lists.now) (place_of c.args.lists.now c.in-Ok.spot)
    (c.in-Ok.ensures.found (side_split (λ p. is_lt (slice_cmp nat_cmp p.0 c.args.name.now)) (entries_of c.args.lists.now) c.requires (names_below c.args.name.now)))

pub returns-in-Err-clause-place : goal.returns-in-Err-clause-place
returns-in-Err-clause-place c =
    side_boundary (λ n. is_lt (slice_cmp nat_cmp n c.args.name.now)) (entries_of c.args.lists.now) (place_of c.args.lists.now c.in-Err.spot)
    (c.in-Err.ensures.absent (side_split (λ p. is_lt (slice_cmp nat_cmp p.0 c.args.name.now)) (entries_of c.args.lists.now) c.requires (names_below c.args.name.now)))
