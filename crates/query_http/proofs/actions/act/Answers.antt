use Rattle.query_http.proofs.Fitting.{rows_are_batch}
use Rattle.query_http.proofs.actions.act.Goals as goal

pub write-requires : goal.write-requires
write-requires g c =
    let fit = rw c.in-Write.is at c.requires in
    rows_are_batch c.in-Write.rows.items fit.0 fit.1
