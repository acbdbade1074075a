use Rattle.std.proofs.Common.{List, sym, subst}
use Rattle.auditor.specs.Auditing.{IsSoundAnswer}
use Rattle.head.specs.Blocks.{part_in}
use Rattle.head.specs.Heads.{HeadSeries, head_part}
use Rattle.head.specs.Shown.{part_of}
use Rattle.audit_laws.proofs.Flawless.{sound_passes}
use Rattle.audit_laws.proofs.Named.{head_sound, block_sound, no_such_block}
use Rattle.audit_laws.proofs.auditing.audit_named.Goals as goal

pub returns-in-Head : goal.returns-in-Head
returns-in-Head c =
    let query = c.args.query.now in
    let answer = c.args.answer.now in
    sound_passes (part_of c.head.result.now) query answer c.audit_head.result
    (subst (λ (hs : List HeadSeries). IsSoundAnswer (head_part hs) query answer)
    (sym c.head.ensures.series)
    (head_sound query c.args.snapshot.now answer c.requires c.in-Head.is))
    c.audit_head.ensures.flawed

pub returns-in-Some : goal.returns-in-Some
returns-in-Some c =
    let query = c.args.query.now in
    let answer = c.args.answer.now in
    let part = (part_in c.in-Some.block.now).part in
    sound_passes part query answer c.audit_block.result
    (block_sound query c.args.snapshot.now answer c.in-Block.n
    (part_in c.in-Some.block.now) c.requires c.in-Block.is c.in-Some.ensures.some)
    c.audit_block.ensures.flawed

pub unreachable-requires : goal.unreachable-requires
unreachable-requires c =
    no_such_block c.args.query.now c.args.snapshot.now c.args.answer.now c.in-Block.n c.requires
    c.in-Block.is c.in-None.ensures.none
