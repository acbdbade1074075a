use Rattle.std.proofs.Common.{◌/◌, ◌<◌, Vec, Global, length, map, arith}
use Rattle.std.proofs.lemmas.Result.{err_from_is_err_and, IfOk-at_ok, IfErr-at_err}
use Rattle.block.specs.Blocks.{Shown}
use Rattle.head.specs.Blocks.{part_in}
use Rattle.commands.specs.Opening.{AreBlocksAt, IsFirstFault}
use Rattle.commands.specs.Reading.{paths_of}
use Rattle.commands.specs.declared.fault.Fault.{Fault}
use Rattle.commands.proofs.Openings.{both_opened, fault_in_front, fault_in_back, fault_at_first}
use Rattle.commands.proofs.opening.+halves.Goals as goal

pub returns-in_err-blocks-clause-err : goal.returns-in_err-blocks-clause-err
returns-in_err-blocks-clause-err g t c =
    let reads = g.F.ReadFiles.may_read c.args.files.now in
    let texts = c.args.directories.now in
    let half = length texts / 2 in
    let fault =
    IfErr-at_err (λ (fault : Fault). IsFirstFault reads (paths_of c.split_at.result.0.now) fault)
    c.in_err-blocks.was c.join-first.ensures.first.1 in
    let p = err_from_is_err_and c.from_residual.result c.from_residual.ensures.1 in
    rw (p.1, p.2) (fault_in_front reads texts half _ (rw c.split_at.ensures.front at fault))

pub returns-in_err-more-clause-err : goal.returns-in_err-more-clause-err
returns-in_err-more-clause-err g t c =
    let reads = g.F.ReadFiles.may_read c.args.files.now in
    let texts = c.args.directories.now in
    let half = length texts / 2 in
    let opened =
    IfOk-at_ok (λ (blocks : Vec Shown Global). AreBlocksAt reads (paths_of c.split_at.result.0.now)
    (map part_in blocks.items)) c.in_ok-blocks.was c.join-first.ensures.first.0 in
    let fault =
    IfErr-at_err (λ (fault : Fault). IsFirstFault reads (paths_of c.split_at.result.1.now) fault)
    c.in_err-more.was c.join-first.ensures.second.1 in
    let p =
    err_from_is_err_and c.from_residual-in_err-more.result c.from_residual-in_err-more.ensures.1 in
    rw (p.1, p.2) (fault_in_back reads texts half c.in_ok-blocks.blocks.items _
    (rw c.split_at.ensures.front at opened) (rw c.split_at.ensures.back at fault))

pub returns-in_err-append-clause-err : goal.returns-in_err-append-clause-err
returns-in_err-append-clause-err g t c =
    let reads = g.F.ReadFiles.may_read c.args.files.now in
    let texts = c.args.directories.now in
    let some : 0 < length texts = omega (arith, c.if-count-lt2.false) in
    let p =
    err_from_is_err_and c.from_residual-in_err-append.result
    c.from_residual-in_err-append.ensures.1 in
    rw (p.1, p.2) (fault_at_first reads texts some)

pub returns-clause-ok : goal.returns-clause-ok
returns-clause-ok g t c =
    let reads = g.F.ReadFiles.may_read c.args.files.now in
    let texts = c.args.directories.now in
    let half = length texts / 2 in
    let front =
    IfOk-at_ok (λ (blocks : Vec Shown Global). AreBlocksAt reads (paths_of c.split_at.result.0.now)
    (map part_in blocks.items)) c.in_ok-blocks.was c.join-first.ensures.first.0 in
    let back =
    IfOk-at_ok (λ (blocks : Vec Shown Global). AreBlocksAt reads (paths_of c.split_at.result.1.now)
    (map part_in blocks.items)) c.in_ok-more.was c.join-first.ensures.second.0 in
    rw c.in_ok-append.ensures.items
    (both_opened reads texts half c.in_ok-blocks.blocks.items c.in_ok-more.more.items
    (rw c.split_at.ensures.front at front) (rw c.split_at.ensures.back at back))
