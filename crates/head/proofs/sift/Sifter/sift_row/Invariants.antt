use Rattle.std.specs.Prelude.{◌≡◌, ◌≤◌, ◌+◌, ◌*◌, ◌++◌}
use Rattle.std.proofs.Common.{drop}
use Rattle.head.specs.Worlds.{Batch}
use Rattle.head.specs.BatchRows.{pairs_with}
use Rattle.head.specs.Heads.{IsSoundSnapshot}
use Rattle.head.specs.OnWay.{IsSiftedTo, with_slots}
use Rattle.head.specs.Orders.{IsOrderOf}
use Rattle.head.specs.Slots.{series_in_each, owned}
use Rattle.head.specs.Taking.{place_from}
use Rattle.head.specs.Telling.{total}
use Rattle.head.proofs.sift.Sifter.sift_row.Given as goal

abbrev pub invariant-loop-sample : goal.invariant-loop-sample
invariant-loop-sample l = record {
  sound : IsSoundSnapshot (with_slots l.at l.self.draft);
  ordered : IsOrderOf l.self.order (series_in_each l.self.draft);
  place : l.place ≡ place_from l.labels 0 (series_in_each l.self.draft);
  few : total l.self.left ≤ total l.fn.self.left + l.sample-index;
  copied : l.copied ≤ 119 * l.sample-index;
  counted : l.copied + 119 * owned l.fn.self.draft ≤ 119 * owned l.self.draft;
  sifted :
      (all rest kept : Batch) → IsSiftedTo l.at all l.fn.self.draft (pairs_with l.fn.row.0 l.fn.row.1 ++ rest) (kept ++ pairs_with l.fn.row.0 l.fn.mine.items) l.fn.self.left
      → IsSiftedTo l.at all l.self.draft (pairs_with l.fn.row.0 (drop l.sample-index l.fn.row.1) ++ rest) (kept ++ pairs_with l.fn.row.0 l.mine.items) l.self.left;
}
