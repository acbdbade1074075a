use Rattle.std.proofs.lemmas.Result.{err_from_is_err_and}
use Rattle.commands.proofs.Hosts.{found_in_each}
use Rattle.commands.proofs.Meanings.{run_fault}
use Rattle.commands.proofs.keeping.serve_data.Goals as goal

pub serve_folder-requires-after_bounds : goal.serve_folder-requires-after_bounds
serve_folder-requires-after_bounds g c κs within = record {
  has = found_in_each c.new-disk.result tt c.in_ok-found.found c.in_ok-found.ensures.read;
  is_sound = c.new-disk.ensures;
}

pub returns-in_err-counts-clause-err : goal.returns-in_err-counts-clause-err
returns-in_err-counts-clause-err g c =
    let p =
    err_from_is_err_and c.from_residual-in_err-counts.result
    c.from_residual-in_err-counts.ensures.1 in
    rw (p.1, p.2)
    (run_fault c.in_ok-found.found _ _ _ _ _ c.in_err-counts.ensures.err)
