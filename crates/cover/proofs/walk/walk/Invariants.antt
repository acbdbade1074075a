use Rattle.std.proofs.Common.{◌-◌, ◌≡◌, ℕ, ◌<◌, ◌≤◌, length, slice_index_or}
use Rattle.std.specs.List.{Contains}
use Rattle.labels.specs.Ascending.{not_below}
use Rattle.cover.specs.Walking.{asked_in_walk, accepted_by, alive, AllMovedAtMost}
use Rattle.cover.proofs.Greedy.{Sofar}
use Rattle.cover.proofs.walk.walk.Given as goal

abbrev pub invariant-loop-next : goal.invariant-loop-next
invariant-loop-next g l = record {
  so : Sofar (asked_in_walk g.P.Postings.remaining g.Q.Postings.remaining g.L.Postings.remaining
      l.initial.all l.initial.lists l.initial.live) l.certificate.items l.next;
  stands : l.next < 4294967296
      → Contains (g.P.Postings.remaining l.initial.all.0) l.next × (g.P.Postings.remaining l.all.0
      ≡ not_below l.next (g.P.Postings.remaining l.initial.all.0));
  lists : (j : ℕ) (d : _) → j < length l.lists
      → (b : ℕ) × ((b ≤ l.next) × (g.Q.Postings.remaining (slice_index_or l.lists j d).0
      ≡ not_below b (accepted_by (asked_in_walk g.P.Postings.remaining g.Q.Postings.remaining g.L.Postings.remaining
      l.initial.all l.initial.lists l.initial.live) j)));
  living : (b : ℕ) × ((b ≤ l.next) × (g.L.Postings.remaining l.live.0
      ≡ not_below b (alive (asked_in_walk g.P.Postings.remaining g.Q.Postings.remaining g.L.Postings.remaining
      l.initial.all l.initial.lists l.initial.live))));
  count : l.all.1 ≤ length l.certificate.items;
  each : AllMovedAtMost (length l.certificate.items) l.lists;
  live_count : l.live.1 ≤ length l.certificate.items;
  within : l.next ≤ 4294967296;
}

-- proposed from the loop's first test
abbrev pub decreases-loop-next : goal.decreases-loop-next
decreases-loop-next g l = 4294967296 - l.next
