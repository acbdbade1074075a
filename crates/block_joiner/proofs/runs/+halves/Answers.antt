use Rattle.std.proofs.Common.{◌≡◌, ◌++◌, [], ◌∷◌, List, Option, IfSome, OnOk, Result, Ok}
use Rattle.std.proofs.Common.{Err, append_assoc, ap, arith, length, length-append, map, subst}
use Rattle.std.proofs.Common.{sym, take, ◌∙◌, ◌/◌}
use Rattle.std.proofs.lemmas.List.{map-append, take-append-drop}
use Rattle.block.specs.Blocks.{Shown}
use Rattle.head.specs.Blocks.{part_in}
use Rattle.head.specs.Heads.{BlockPart}
use Rattle.head.specs.Joins.{HoldSame}
use Rattle.block_joiner.proofs.Held.{both_hold}
use Rattle.block_joiner.proofs.runs.+halves.Goals as goal

on_ok : {V E P Q : Type 0} (r : Result V E) → (P → Q) → OnOk r P → OnOk r Q
on_ok (Ok v) f h = f h
on_ok (Err e) f h = tt

pub returns-in-Some : goal.returns-in-Some
returns-in-Some t c =
    let b = c.in-Some.block in
    let blocks = c.args.blocks.now in
    let holds =
    subst (λ (o : Option Shown). IfSome o (λ (x : Shown). HoldSame (map part_in blocks) (part_in x ∷
    []))) c.in-Some.is c.in_ok-block.ensures in (
      part_in b ∷ [],
      ap (map part_in) c.in_ok-push.ensures.items ∙ map-append part_in c.args.joined.now.items (b ∷ []),
      holds,
      omega (arith, c.if-blocks-lt2.false),
    )

pub returns : goal.returns
returns t c =
    let blocks = c.args.blocks.now in
    let half = length blocks / 2 in
    let front = c.split_at.result.0.now in
    let back = c.split_at.result.1.now in
    let whole : front ++ back ≡ blocks =
    ap (λ (xs : List Shown). xs ++ back) c.split_at.ensures.front
    ∙ ap (λ (xs : List Shown). take half blocks ++ xs) c.split_at.ensures.back
    ∙ take-append-drop half blocks in
    let parts : map part_in front ++ map part_in back ≡ map part_in blocks =
    sym (map-append part_in front back) ∙ ap (map part_in) whole in
    let one = c.in_ok-join_into.ensures in
    on_ok c.join_into-2.result
    (λ two. (
      one.0 ++ two.0,
      two.1 ∙ ap (λ (xs : List BlockPart). xs ++ two.0) one.1
          ∙ append_assoc (map part_in c.args.joined.now.items) one.0 two.0,
      subst (λ (xs : List BlockPart). HoldSame xs (one.0 ++ two.0)) parts
          (both_hold (map part_in front) (map part_in back) one.0 two.0 one.2 two.2),
      omega (
        arith,
        one.3,
        two.3,
        length-append one.0 two.0,
        ap length whole,
        length-append front back,
      ),
    ))
    c.join_into-2.ensures
