use Rattle.std.proofs.Common.{◌-◌, ◌≤◌, length}
use Rattle.postings.proofs.slice_list.place_past.Given as goal

abbrev pub invariant-loop-place : goal.invariant-loop-place
invariant-loop-place l = l.place ≤ length l.list

abbrev pub decreases-loop-place : goal.decreases-loop-place
decreases-loop-place l = length l.list - l.place
