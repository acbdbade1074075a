use Rattle.std.proofs.Common.{rules, ◌≡◌, ℤ, List, Result, Ok, Err, IfOk, ap, length, map, subst, sym}
use Rattle.std.proofs.Common.{◌∙◌}
use Rattle.block.specs.Blocks.{Shown}
use Rattle.head.specs.Blocks.{part_in}
use Rattle.head.specs.Heads.{BlockPart, HeadSeries, SnapshotParts, world_of}
use Rattle.head.specs.Resuming.{resumed}
use Rattle.head_record.specs.Saved.{Saved}
use Rattle.store_folder.specs.States.{started}
use Rattle.head.specs.Joins.{HoldSame}
use Rattle.store_joiner.specs.Joins.{with_blocks}
use Rattle.store_joiner.proofs.Joins.{joined_world}
use Rattle.store_joiner.proofs.joined.joined_snapshot.Goals as goal

if_made : {E : Type 0} (r : Result SnapshotParts E) (saved : Saved) (old new : List BlockPart)
    (floor : ℤ) (head : List HeadSeries) → HoldSame old new
    → IfOk r (λ s. s ≡ resumed new floor head) → floor ≡ saved.floor → head ≡ saved.head
    → IfOk r (λ s. world_of s ≡ with_blocks (length s.blocks) (world_of (started saved old)))
if_made (Ok s) saved old new floor head same made at is =
    let whole : s ≡ resumed new saved.floor saved.head =
    made ∙ ap (λ (f : ℤ). resumed new f head) at
    ∙ ap (λ (h : List HeadSeries). resumed new saved.floor h) is in
    subst (λ (x : SnapshotParts). world_of x ≡ with_blocks (length x.blocks) (world_of (started saved
    old))) (sym whole) (joined_world (started saved old) new same)
if_made (Err e) saved old new floor head same made at is = tt

pub returns-clause-world : goal.returns-clause-world
returns-clause-world c =
    let new = map part_in c.in-Ok.blocks.items in
    let same : HoldSame (map part_in c.args.store.now.blocks.items) new =
    subst (λ (bs : List Shown). HoldSame (map part_in bs) new) c.deref.ensures.value
    c.in-Ok.ensures.same in
    if_made c.resumed.result c.args.store.now.journal.head
    (map part_in c.args.store.now.blocks.items) new _ _ same c.resumed.ensures.made (search rules)
    c.series.ensures
