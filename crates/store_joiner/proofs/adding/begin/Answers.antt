use Rattle.std.proofs.Common.{[], map}
use Rattle.data_folder.proofs.Foreign.{foreign_beside}
use Rattle.head.specs.Blocks.{part_in}
use Rattle.store_joiner.proofs.Changing.{has_begun}
use Rattle.store_folder.specs.Starting.{nothing_saved}
use Rattle.store_joiner.proofs.Stores.{has_these}
use Rattle.store_joiner.proofs.adding.begin.Goals as goal

pub returns-clause-has : goal.returns-clause-has
returns-clause-has g c =
    let f = g.F.Folder in
    let met = g.met.F.Folder in
    let x = c.in-Ok.begun in
    let j = x.keeper.store.events.journal in
    has_begun f.shows f.kept f.sound f.moment f.left_since met.only_now met.earlier
    g.N.Beginning.first j.medium j.len j.closed x.journal.events.items x.keeper.places.items
    (map part_in x.keeper.blocks.items) x.snapshot c.in-Ok.ensures.events c.in-Ok.ensures.begun

pub returns-in-Err-clause-foreign : goal.returns-in-Err-clause-foreign
returns-in-Err-clause-foreign g c =
    let f = g.F.Folder in
    foreign_beside f.shows f.kept c.args.folder c.in-Err.folder c.in-Err.ensures.others

pub returns-clause-foreign : goal.returns-clause-foreign
returns-clause-foreign g c =
    let f = g.F.Folder in
    foreign_beside f.shows f.kept c.args.folder
    c.in-Ok.begun.keeper.store.events.journal.medium.folder c.in-Ok.ensures.others

pub returns-clause-nothing : goal.returns-clause-nothing
returns-clause-nothing g c =
    let f = g.F.Folder in
    let met = g.met.F.Folder in
    let j = c.in-Ok.begun.keeper.store.events.journal in
    has_these f.shows f.kept f.sound f.moment f.left_since met.only_now met.earlier
    g.N.Beginning.first j.medium j.len j.closed [] nothing_saved [] [] c.in-Ok.ensures.alone
    c.in-Ok.ensures.open
