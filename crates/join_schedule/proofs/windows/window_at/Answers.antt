use Rattle.std.proofs.Common.{◌≡◌, ◌+◌, rules, arith, subst, sym, get_or, take, List}
use Rattle.std.specs.Prelude.{ℤ, pos, ◌+ℤ◌, ◌≤ℤ◌, ◌<ℤ◌, FitsSigned, Some, slice_get, All}
use Rattle.std.proofs.lemmas.Int.{ints, to_z-of_z}
use mir.Syntax.{w64}
use mir.Val.{to_z, of_z}
use Rattle.join_schedule.specs.declared.blocks.Shape.{Shape}
use Rattle.join_schedule.specs.Windows.{IsMultiple, LiesIn}
use Rattle.join_schedule.proofs.Sums.{no_block}
use Rattle.join_schedule.proofs.Runs.{none_closed, none_begun, none_single, same_count, is_window}
use Rattle.join_schedule.proofs.Runs.{behind_rest, within_rest}
use Rattle.join_schedule.proofs.windows.window_at.Goals as goal

pub returns-in_err-end-clause-none : goal.returns-in_err-end-clause-none
returns-in_err-end-clause-none c =
    let from = (get_or c.args.blocks.now c.args.at no_block).from in
    let fits : FitsSigned w64 from = search rules in
    rw c.from_residual.ensures
    (none_closed c.args.floor c.args.blocks.now c.args.span c.args.at no_block
    (λ end multiple behind near closed.
    c.in_err-end.ensures.none end multiple (omega (arith, ints, behind, fits.sfits))
    (omega (arith, ints, near, fits.sfits))
    (omega (arith, ints, closed, c.ranges.floor.sfits))))

pub returns-then-begins_before-clause-none : goal.returns-then-begins_before-clause-none
returns-then-begins_before-clause-none c =
    let from = (get_or c.args.blocks.now c.args.at no_block).from in
    let fits : FitsSigned w64 from = search rules in
    let end = c.in_ok-end.end in
    let end_fits : FitsSigned w64 end = search rules in
    let shown = to_z w64 (of_z w64 end) in
    let same : shown ≡ end = to_z-of_z w64 end end_fits in
    let multiple : IsMultiple c.args.span shown =
    subst (λ (e : ℤ). IsMultiple c.args.span e) (sym same) c.in_ok-end.ensures.multiple in
    let behind : from <ℤ shown =
    omega (arith, ints, c.in_ok-end.ensures.next.0, fits.sfits, end_fits.sfits) in
    let near : shown ≤ℤ (from +ℤ pos c.args.span) =
    omega (arith, ints, c.in_ok-end.ensures.next.1, fits.sfits, end_fits.sfits) in
    let one = c.begins_before.ensures.yes c.if-begins_before.true in
    none_begun c.args.floor c.args.blocks.now c.args.span c.args.at no_block shown multiple behind
    near one.0 one.1 one.2 one.3 one.4

pub returns-then-count-gt1-clause-window : goal.returns-then-count-gt1-clause-window
returns-then-count-gt1-clause-window c =
    let from = (get_or c.args.blocks.now c.args.at no_block).from in
    let fits : FitsSigned w64 from = search rules in
    let end = c.in_ok-end.end in
    let end_fits : FitsSigned w64 end = search rules in
    let shown = to_z w64 (of_z w64 end) in
    let same : shown ≡ end = to_z-of_z w64 end end_fits in
    let multiple : IsMultiple c.args.span shown =
    subst (λ (e : ℤ). IsMultiple c.args.span e) (sym same) c.in_ok-end.ensures.multiple in
    let behind : from <ℤ shown =
    omega (arith, ints, c.in_ok-end.ensures.next.0, fits.sfits, end_fits.sfits) in
    let near : shown ≤ℤ (from +ℤ pos c.args.span) =
    omega (arith, ints, c.in_ok-end.ensures.next.1, fits.sfits, end_fits.sfits) in
    let rest = c.blocks_from.result.now in
    let count = c.count_in-count.result in
    let none : (b : Shape) → slice_get c.args.blocks.now (c.args.at + count) ≡ Some b
    → LiesIn c.args.span shown b → ⊥ =
    behind_rest c.args.blocks.now rest c.args.span c.args.at count shown c.blocks_from.ensures
    c.count_in-count.ensures.behind in
    let closed : shown ≤ℤ c.args.floor =
    omega (arith, ints, c.in_ok-end.ensures.closed, c.ranges.floor.sfits, end_fits.sfits) in (
      shown,
      is_window c.args.floor c.args.blocks.now rest c.args.span c.args.at count shown
          c.blocks_from.ensures (omega (arith, c.requires.at)) multiple closed
          (omega (arith, c.if-count-gt1.true)) c.count_in-count.ensures.within
          c.count_in-count.ensures.inside (c.begins_before.ensures.no c.if-begins_before.false) none,
    )

pub returns-then-count-gt1-clause-only : goal.returns-then-count-gt1-clause-only
returns-then-count-gt1-clause-only c =
    let from = (get_or c.args.blocks.now c.args.at no_block).from in
    let fits : FitsSigned w64 from = search rules in
    let end = c.in_ok-end.end in
    let end_fits : FitsSigned w64 end = search rules in
    let shown = to_z w64 (of_z w64 end) in
    let same : shown ≡ end = to_z-of_z w64 end end_fits in
    let multiple : IsMultiple c.args.span shown =
    subst (λ (e : ℤ). IsMultiple c.args.span e) (sym same) c.in_ok-end.ensures.multiple in
    let behind : from <ℤ shown =
    omega (arith, ints, c.in_ok-end.ensures.next.0, fits.sfits, end_fits.sfits) in
    let near : shown ≤ℤ (from +ℤ pos c.args.span) =
    omega (arith, ints, c.in_ok-end.ensures.next.1, fits.sfits, end_fits.sfits) in
    let rest = c.blocks_from.result.now in
    let count = c.count_in-count.result in
    let none : (b : Shape) → slice_get c.args.blocks.now (c.args.at + count) ≡ Some b
    → LiesIn c.args.span shown b → ⊥ =
    behind_rest c.args.blocks.now rest c.args.span c.args.at count shown c.blocks_from.ensures
    c.count_in-count.ensures.behind in
    same_count c.args.floor c.args.blocks.now c.args.span c.args.at no_block shown multiple behind
    near count none
    (within_rest c.args.blocks.now rest c.args.at count c.blocks_from.ensures
    (omega (arith, c.requires.at)) c.count_in-count.ensures.within)
    (subst (λ (s : List Shape). All (LiesIn c.args.span shown) (take count s))
    c.blocks_from.ensures c.count_in-count.ensures.inside)

pub returns-else-count-gt1-clause-none : goal.returns-else-count-gt1-clause-none
returns-else-count-gt1-clause-none c =
    let from = (get_or c.args.blocks.now c.args.at no_block).from in
    let fits : FitsSigned w64 from = search rules in
    let end = c.in_ok-end.end in
    let end_fits : FitsSigned w64 end = search rules in
    let shown = to_z w64 (of_z w64 end) in
    let same : shown ≡ end = to_z-of_z w64 end end_fits in
    let multiple : IsMultiple c.args.span shown =
    subst (λ (e : ℤ). IsMultiple c.args.span e) (sym same) c.in_ok-end.ensures.multiple in
    let behind : from <ℤ shown =
    omega (arith, ints, c.in_ok-end.ensures.next.0, fits.sfits, end_fits.sfits) in
    let near : shown ≤ℤ (from +ℤ pos c.args.span) =
    omega (arith, ints, c.in_ok-end.ensures.next.1, fits.sfits, end_fits.sfits) in
    let rest = c.blocks_from.result.now in
    let count = c.count_in-count.result in
    let none : (b : Shape) → slice_get c.args.blocks.now (c.args.at + count) ≡ Some b
    → LiesIn c.args.span shown b → ⊥ =
    behind_rest c.args.blocks.now rest c.args.span c.args.at count shown c.blocks_from.ensures
    c.count_in-count.ensures.behind in
    none_single c.args.floor c.args.blocks.now c.args.span c.args.at no_block shown multiple behind
    near count none (omega (arith, c.if-count-gt1.false))
