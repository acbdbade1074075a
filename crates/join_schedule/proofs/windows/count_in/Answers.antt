use Rattle.std.proofs.Common.{◌≡◌, length, get_or, arith, subst, sym, ◌∙◌}
use Rattle.std.specs.Prelude.{ℤ, List, true, false, All}
use Rattle.std.proofs.lemmas.Int.{to_z-of_z}
use Rattle.std.proofs.lemmas.List.{take_all}
use Rattle.std.proofs.lemmas.List.Elements.{All-more, All-nil}
use Rattle.std.proofs.lemmas.Option.{slice_get_within, get_or_from_slice_get}
use mir.Syntax.{w64}
use mir.Val.{to_z, of_z}
use Rattle.join_schedule.specs.declared.blocks.Shape.{Shape}
use Rattle.join_schedule.specs.Windows.{LiesIn}
use Rattle.join_schedule.proofs.Sums.{no_block}
use Rattle.join_schedule.proofs.windows.count_in.Goals as goal

not_so : (b : true ≡ false) → ⊥
not_so b = cc

pub loop-at-init : goal.loop-at-init
loop-at-init c = All-nil (LiesIn c.args.span (to_z w64 (of_z w64 c.args.end)))

pub returns-then-not-lies_in-clause-behind : goal.returns-then-not-lies_in-clause-behind
returns-then-not-lies_in-clause-behind c =
    λ b is lies.
    let here : LiesIn c.args.span c.args.end (get_or c.args.blocks.now c.loop-at.at no_block) =
    subst (λ (s : Shape). LiesIn c.args.span c.args.end s)
    (sym (get_or_from_slice_get c.args.blocks.now c.loop-at.at b no_block is)) lies in
    not_so
    (sym (c.lies_in.ensures.1 (subst (λ (e : ℤ). LiesIn c.args.span e
    (get_or c.args.blocks.now c.loop-at.at no_block))
    (sym (to_z-of_z w64 c.args.end c.ranges.end)) here)) ∙ c.if-not-lies_in.true)

pub loop-at-preserved : goal.loop-at-preserved
loop-at-preserved c =
    All-more (LiesIn c.args.span (to_z w64 (of_z w64 c.args.end))) c.args.blocks.now c.loop-at.at
    no_block c.loop-at-test.true c.loop-at.invariant
    (c.lies_in.ensures.0 c.if-not-lies_in.false)

pub returns-clause-inside : goal.returns-clause-inside
returns-clause-inside c =
    rw (← to_z-of_z w64 c.args.end c.ranges.end)
    (subst (λ (s : List Shape). All (LiesIn c.args.span (to_z w64 (of_z w64 c.args.end))) s)
    (take_all c.loop-at.at c.args.blocks.now c.loop-at-test.false
    ∙ sym (take_all (length c.args.blocks.now) c.args.blocks.now (omega arith)))
    c.loop-at.invariant)

pub returns-clause-behind : goal.returns-clause-behind
returns-clause-behind c =
    λ b is lies.
    omega (arith, slice_get_within c.args.blocks.now (length c.args.blocks.now) b is)
