use Rattle.std.proofs.Common.{List, sym, ap, ◌∙◌}
use Rattle.std.specs.List.{list_all}
use Rattle.tombstones.specs.declared.deletion.Deletion.{Deletion}
use Rattle.block_walk.specs.BlockFiles.Reading.{is_known}
use Rattle.block_walk.proofs.BlockFiles.Refusals.{deleted_unknown, deleted_known}
use Rattle.block_walk.proofs.deletions.known_deletions.Goals as goal

pub returns-then-not-are_known : goal.returns-then-not-are_known
returns-then-not-are_known c =
    let x = c.in_ok-tombstones.ensures.exact in
    deleted_unknown c.args.file.now c.args.entries.now x.0 c.in_ok-tombstones.tombstones x.1 x.2
    (ap (λ (ds : List Deletion). list_all (is_known c.args.entries.now) ds)
    (sym c.deletions.ensures)
    ∙ sym c.are_known.ensures
    ∙ c.if-not-are_known.true)

pub returns : goal.returns
returns c =
    let x = c.in_ok-tombstones.ensures.exact in (
      x.0,
      deleted_known c.args.file.now c.args.entries.now x.0 c.in_ok-tombstones.tombstones x.1 x.2
          (ap (λ (ds : List Deletion). list_all (is_known c.args.entries.now) ds)
          (sym c.deletions.ensures)
          ∙ sym c.are_known.ensures
          ∙ c.if-not-are_known.false),
      x.2,
    )
