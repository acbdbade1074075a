use Rattle.std.proofs.lemmas.Result.{err_from_is_err_and}
use Rattle.commands.specs.Reading.{paths_of}
use Rattle.commands.specs.ServingRuns.{by_guard, by_keep, by_watch}
use Rattle.commands.proofs.LineEnds.{unused}
use Rattle.commands.proofs.Servings.{folder_fault, folder_told, directories_fault, directories_told}
use Rattle.commands.proofs.serve.serve.Goals as goal

pub returns-in_err-check_upkeep-clause-err : goal.returns-in_err-check_upkeep-clause-err
returns-in_err-check_upkeep-clause-err g c =
    let p = err_from_is_err_and c.from_residual.result c.from_residual.ensures.1 in
    rw (p.1, p.2)
    (by_keep c.in_err-check_upkeep.ensures.err (unused _ (g.W.Write.contents c.args.out.now)))

pub returns-in_err-rules-clause-err : goal.returns-in_err-rules-clause-err
returns-in_err-rules-clause-err g c =
    let p =
    err_from_is_err_and c.from_residual-in_err-rules.result
    c.from_residual-in_err-rules.ensures.1 in
    rw (p.1, p.2)
    (by_guard c.in_err-rules.ensures.err (unused _ (g.W.Write.contents c.args.out.now)))

pub returns-in_err-listener-clause-err : goal.returns-in_err-listener-clause-err
returns-in_err-listener-clause-err g c =
    let p =
    err_from_is_err_and c.from_residual-in_err-listener.result
    c.from_residual-in_err-listener.ensures.1 in
    rw (p.1, p.2)
    (by_watch c.in_err-listener.ensures (unused _ (g.W.Write.contents c.args.out.now)))

pub returns-in-Some-clause-ok : goal.returns-in-Some-clause-ok
returns-in-Some-clause-ok g c =
    folder_told (g.F.ReadFiles.may_read c.args.files.now) (paths_of c.args.directories.now)
    c.args.serving (g.W.Write.contents c.args.out.now)
    (g.W.Write.contents c.serve_data.new.out) c.in-Some.folder c.serve_data.result c.in-Some.is
    c.in_ok-rules.rules c.in_ok-rules.ensures.ok c.serve_data.ensures.ok

pub returns-in-Some-clause-err : goal.returns-in-Some-clause-err
returns-in-Some-clause-err g c =
    folder_fault (g.F.ReadFiles.may_read c.args.files.now) (paths_of c.args.directories.now)
    c.args.serving (g.W.Write.contents c.args.out.now)
    (g.W.Write.contents c.serve_data.new.out) c.in-Some.folder c.serve_data.result c.in-Some.is
    c.serve_data.ensures.err

pub returns-clause-ok : goal.returns-clause-ok
returns-clause-ok g c =
    directories_told (g.F.ReadFiles.may_read c.args.files.now) (paths_of c.args.directories.now)
    c.args.serving (g.W.Write.contents c.args.out.now)
    (g.W.Write.contents c.serve_directories.new.out) c.serve_directories.result c.in-None.is
    c.serve_directories.ensures.ok

pub returns-clause-err : goal.returns-clause-err
returns-clause-err g c =
    directories_fault (g.F.ReadFiles.may_read c.args.files.now) (paths_of c.args.directories.now)
    c.args.serving (g.W.Write.contents c.args.out.now)
    (g.W.Write.contents c.serve_directories.new.out) c.serve_directories.result c.in-None.is
    c.serve_directories.ensures.err

pub returns-in_err-door-clause-err : goal.returns-in_err-door-clause-err
returns-in_err-door-clause-err g c =
    let p =
    err_from_is_err_and c.from_residual-in_err-door.result
    c.from_residual-in_err-door.ensures.1 in
    rw (p.1, p.2)
    (by_watch c.in_err-door.ensures (unused _ (g.W.Write.contents c.args.out.now)))
