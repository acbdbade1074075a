use Rattle.std.proofs.Common.{◌≡◌, ◌+◌, ◌-◌, ◌<◌, length, get_or, arith, ap, subst, sym, ◌∙◌}
use Rattle.std.specs.Prelude.{slice_get, Some, true, false, List, ℕ, ℤ}
use Rattle.std.proofs.lemmas.Int.{to_z-of_z}
use mir.Syntax.{w64}
use Rattle.std.proofs.lemmas.Option.{slice_get-get_or, get_or_from_slice_get}
use Rattle.join_schedule.specs.declared.blocks.Shape.{Shape}
use Rattle.join_schedule.specs.Windows.{LiesIn}
use Rattle.join_schedule.proofs.Sums.{no_block}
use Rattle.join_schedule.proofs.windows.begins_before.Goals as goal

-- the one block before a place
the_one : (blocks : List Shape) (at before : ℕ) (b : Shape) → before + 1 ≡ at
    → slice_get blocks before ≡ Some b → get_or blocks (at - 1) no_block ≡ b
the_one blocks at before b next is =
    let same : at - 1 ≡ before = omega (arith, next) in
    ap (λ (k : ℕ). get_or blocks k no_block) same ∙ get_or_from_slice_get blocks before b no_block is

not_so : (b : true ≡ false) → ⊥
not_so b = cc

pub returns-then-at-gt0-clause-yes : goal.returns-then-at-gt0-clause-yes
returns-then-at-gt0-clause-yes c =
    let some : 0 < c.args.at = omega (arith, c.if-at-gt0.true) in
    let inside : c.args.at - 1 < length c.args.blocks.now = omega (arith, c.requires) in
    λ t. (
      c.args.at - 1,
      get_or c.args.blocks.now (c.args.at - 1) no_block,
      omega (arith, some),
      slice_get-get_or c.args.blocks.now (c.args.at - 1) no_block inside,
      subst (λ (e : ℤ). LiesIn c.args.span e (get_or c.args.blocks.now (c.args.at - 1) no_block))
          (to_z-of_z w64 c.args.end c.ranges.end) (c.lies_in.ensures.0 t),
    )

pub returns-then-at-gt0-clause-no : goal.returns-then-at-gt0-clause-no
returns-then-at-gt0-clause-no c =
    λ no before b next is lies.
    let here : LiesIn c.args.span c.args.end (get_or c.args.blocks.now (c.args.at - 1) no_block) =
    subst (λ (s : Shape). LiesIn c.args.span c.args.end s)
    (sym (the_one c.args.blocks.now c.args.at before b next is)) lies in
    not_so
    (sym (c.lies_in.ensures.1 (subst (λ (e : ℤ). LiesIn c.args.span e
    (get_or c.args.blocks.now (c.args.at - 1) no_block))
    (sym (to_z-of_z w64 c.args.end c.ranges.end)) here)) ∙ no)

pub returns-else-at-gt0-clause-no : goal.returns-else-at-gt0-clause-no
returns-else-at-gt0-clause-no c = λ no before b next is lies. omega (arith, next, c.if-at-gt0.false)
