use Rattle.std.proofs.Common.{rules, ◌≡◌, ◌++◌, List, ap, map, ◌∙◌}
use Rattle.block.specs.Blocks.{Shown}
use Rattle.head.specs.Blocks.{part_in}
use Rattle.head.specs.Heads.{BlockPart, world_of}
use Rattle.store_folder.specs.States.{started}
use Rattle.store_joiner.specs.Adds.{beneath, with_beneath}
use Rattle.store_joiner.proofs.Adds.{beneath_world, denied_so, if_beneath, made_so}
use Rattle.store_joiner.proofs.added.added_snapshot.Goals as goal

behind : (first : List Shown) (parts : List BlockPart) (more own : List Shown)
    → map part_in first ≡ parts → more ≡ own
    → map part_in first ++ map part_in more ≡ parts ++ map part_in own
behind first parts more own one two =
    ap (λ (x : List BlockPart). x ++ map part_in more) one
    ∙ ap (λ (x : List Shown). parts ++ map part_in x) two

pub returns-clause-made : goal.returns-clause-made
returns-clause-made c =
    made_so c.resumed.result _ _ _ _ _ _ c.resumed.ensures.made
    (c.in-Ok.ensures ∙ behind c.blocks-2.result.now c.args.opening.now.blocks c.deref.result.now
    c.args.store.now.blocks.items c.blocks-2.ensures c.deref.ensures.value)
    (search rules) c.series.ensures

pub returns-clause-world : goal.returns-clause-world
returns-clause-world c =
    let others = c.args.opening.now.blocks in
    let floor = c.args.opening.now.floor in
    let head = c.args.store.now.journal.head in
    let own = map part_in c.args.store.now.blocks.items in
    if_beneath c.resumed.result (beneath others floor head own)
    (with_beneath others floor (world_of (started head own)))
    (beneath_world others floor head own) (returns-clause-made c)

pub returns-clause-refused : goal.returns-clause-refused
returns-clause-refused c =
    denied_so c.resumed.result _ _ _ _ _ _ c.resumed.ensures.refused
    (c.in-Ok.ensures ∙ behind c.blocks-2.result.now c.args.opening.now.blocks c.deref.result.now
    c.args.store.now.blocks.items c.blocks-2.ensures c.deref.ensures.value)
    (search rules) c.series.ensures
