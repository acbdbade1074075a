use Rattle.std.proofs.Common.{◌≡◌, List, [], ◌∷◌, Option, None, Some, Result, Ok, Err, IfOk, IfSome}
use Rattle.std.proofs.Common.{map, subst, sym, ◌∙◌}
use Rattle.block.specs.Blocks.{Shown}
use Rattle.block_outputs.specs.Joined.{IsJoined}
use Rattle.block_outputs.proofs.Within.{rows_within}
use Rattle.block_writer.specs.SpellRows.{AreWithin}
use Rattle.head.specs.Blocks.{part_in}
use Rattle.labels.specs.Parts.{rows_in}
use Rattle.labels.specs.Rows.{Row}
use Rattle.head.specs.Joins.{HoldSame, parts_in}
use Rattle.block_joiner.proofs.Held.{one_holds}
use Rattle.block_joiner.proofs.runs.one_block.Goals as goal

made_so : {E : Type 0} (r : Result (Option Shown) E) (P Q : Shown → Type 0)
    → ((b : Shown) → P b → Q b) → IfOk r (λ made. IfSome made P) → IfOk r (λ made. IfSome made Q)
made_so (Ok (Some b)) P Q f h = f b h
made_so (Ok None) P Q f h = tt
made_so (Err e) P Q f h = tt

pub block_of-requires-clause-within : goal.block_of-requires-clause-within
block_of-requires-clause-within c =
    let range = c.in-Some.range in
    subst (AreWithin range) c.rows-2.ensures.shown
    (rows_within range c.rows-2.result.now (sym c.are_within.ensures ∙ c.if-not-are_within.false))

pub returns : goal.returns
returns c =
    let old = map part_in c.args.blocks.now in
    let rows = c.in-Some-2.rows in
    let joined : IsJoined (map rows_in (parts_in old)) rows =
    subst (λ (o : Option (List Row)). IfSome o (λ (rs : List Row). IsJoined (map rows_in (parts_in
    old)) rs)) c.in-Some-2.is c.in_ok-rows.ensures in
    made_so c.block_of.result (λ b. rows_in b.part ≡ rows) (λ b. HoldSame old (part_in b ∷ []))
    (λ b is. one_holds old rows (part_in b) joined is) c.block_of.ensures.rows
