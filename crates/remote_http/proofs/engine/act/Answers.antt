use Rattle.remote_http.proofs.engine.act.Goals as goal

pub write-requires : goal.write-requires
write-requires g c = rw c.in-Write.is at c.requires
