use Rattle.store_laws.proofs.Again.{store_again}
use Rattle.store_laws.proofs.starts.found_again.Goals as goal

pub returns : goal.returns
returns g c f left saved parts events all state =
    let m = g.F.Folder in store_again m.shows m.kept f left saved parts events all state
