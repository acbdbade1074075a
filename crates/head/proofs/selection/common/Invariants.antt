use Rattle.std.proofs.Common.{◌≡◌, ◌<◌, ◌≤◌, ℕ, length, take, get_or}
use Rattle.std.specs.List.{filter}
use Rattle.block.specs.Fewer.{is_among}
use Rattle.head.proofs.selection.common.Given as goal

-- of the references to come, the list has those that it had
abbrev pub invariant-loop-reference : goal.invariant-loop-reference
invariant-loop-reference g l = record {
  kept : l.found.items ≡ filter (is_among (g.P.Postings.remaining l.initial.list)) (take l.reference-index l.references);
  rest : (k : ℕ) → l.reference-index ≤ k → k < length l.references → is_among (g.P.Postings.remaining l.list) (get_or l.references k 0) ≡ is_among (g.P.Postings.remaining l.initial.list) (get_or l.references k 0);
}
