use Rattle.std.proofs.Common.{ℕ, ◌≡◌, ◌∙◌, sym, ap, arith, rules, ◌-◌, to_z, of_z, w64, get_or, pos}
use Rattle.std.specs.Prelude.{int_le}
use Rattle.std.specs.Int.{int_max}
use Rattle.tombstones.specs.Order.{deletion_at}
use Rattle.tombstones.proofs.Reaches.{first_reach, next_reach}
use Rattle.tombstones.proofs.tombstones.reach_at.Goals.{else-at-gt0-via-then-at-gt0+else-deletions-at}
use Rattle.tombstones.proofs.tombstones.reach_at.Goals.{else-at-gt0-via-else-at-gt0}
use Rattle.tombstones.proofs.tombstones.reach_at.Goals as goal

pub returns-then-deletions-at : goal.returns-then-deletions-at
returns-then-deletions-at c t b =
    let x : to_z w64 (of_z w64 (deletion_at c.args.deletions.now c.args.at).to)
    ≡ (deletion_at c.args.deletions.now c.args.at).to = search rules in
    let y : to_z w64 (of_z w64 (get_or c.args.reaches.now (c.args.at - 1) (pos 0)))
    ≡ get_or c.args.reaches.now (c.args.at - 1) (pos 0) = search rules in
    let r : to_z w64 (of_z w64 c.max.result) ≡ c.max.result = search rules in
    next_reach c.args.deletions.now (c.args.at - 1) c.args.at
    (get_or c.args.reaches.now (c.args.at - 1) (pos 0)) c.requires.in_order c.requires.inside
    (omega arith) c.if-deletions-at.true (c.requires.before (c.args.at - 1) (omega arith)) t b
    ∙ ap (int_le t) (sym (r ∙ c.max.ensures.value ∙ (λ j. int_max (x j) (y j))))

pub returns : goal.returns
returns c t b =
    let x : to_z w64 (of_z w64 (deletion_at c.args.deletions.now c.args.at).to)
    ≡ (deletion_at c.args.deletions.now c.args.at).to = search rules in
    first_reach c.args.deletions.now c.args.at c.requires.in_order c.requires.inside
    (elim c.else-at-gt0.branch [
      | else-at-gt0-via-then-at-gt0+else-deletions-at w ↦ (λ j e f. w.if-deletions-at.false
          (ap (λ (n : ℕ). (deletion_at c.args.deletions.now n).reference) (omega (arith, e)) ∙ f))
      | else-at-gt0-via-else-at-gt0 w ↦ (λ j e f. omega (arith, e))
    ]) t b
    ∙ ap (int_le t) (sym x)
