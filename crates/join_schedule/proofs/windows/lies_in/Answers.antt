use Rattle.std.proofs.Common.{rules, arith}
use Rattle.std.specs.Prelude.{◌≤ℤ◌, ◌<ℤ◌, FitsSigned}
use Rattle.std.proofs.lemmas.Int.{ints}
use mir.Syntax.{w64}
use Rattle.join_schedule.proofs.Multiples.{not_before_start, before_start}
use Rattle.join_schedule.proofs.windows.lies_in.Goals as goal

pub returns-then-block-start : goal.returns-then-block-start
returns-then-block-start c =
    let from = c.args.block.now.from in
    let start = c.saturating_sub_unsigned-start.result in
    let fits : FitsSigned w64 from = search rules in
    let of_start : FitsSigned w64 start = search rules in
    let early : from <ℤ start = grind (arith, ints, c.if-block-start.true) in (
      λ t. absurd cc,
      λ lies.
          absurd (before_start start _ c.args.end from c.args.span
          c.saturating_sub_unsigned-start.ensures (omega (arith, ints, c.ranges.end.sfits)) fits early
          lies.begins),
    )

pub returns-then-block-end : goal.returns-then-block-end
returns-then-block-end c =
    let from = c.args.block.now.from in
    let fits : FitsSigned w64 from = search rules in
    let late : c.args.end ≤ℤ from = grind (arith, ints, c.if-block-end.true) in
    (λ t. absurd cc, λ lies. absurd (omega (arith, ints, late, lies.before)))

pub returns : goal.returns
returns c =
    let from = c.args.block.now.from in
    let to = c.args.block.now.to in
    let start = c.saturating_sub_unsigned-start.result in
    let fits : FitsSigned w64 from = search rules in
    let of_to : FitsSigned w64 to = search rules in
    let of_start : FitsSigned w64 start = search rules in
    let late : start ≤ℤ from = grind (arith, ints, c.if-block-start.false) in
    let early : from <ℤ c.args.end = grind (arith, ints, c.if-block-end.false) in (
      λ t. record {
        begins =
            not_before_start start _ c.args.end from c.args.span
            c.saturating_sub_unsigned-start.ensures (omega (arith, ints, c.ranges.end.sfits))
            c.ranges.end fits late;
        before = early;
        ends = grind (arith, ints, t);
      },
      λ lies. let ends : to ≤ℤ c.args.end = lies.ends in grind (arith, ints, ends),
    )
