use Rattle.std.proofs.Common.{map}
use Rattle.head.specs.Blocks.{part_in}
use Rattle.keeper.specs.Finding.{AreAllAndSome}
use Rattle.store_folder.proofs.Kept.{before_kept, each_kept, last_given_up, last_leaves}
use Rattle.store_folder.proofs.keeping.StoreKeeperKeeper.close.Goals as goal

pub returns-clause-held : goal.returns-clause-held
returns-clause-held g c events more last =
    let f = g.F.Folder in
    let old = c.args.self.now.store.events.journal in
    let new = c.close.new.self.journal in
    let k = c.args.self.now in
    last_given_up f.shows f.kept f.sound f.moment f.left_since g.met.F.Folder.only_now
    g.N.Beginning.first old.medium new.medium old.len new.len old.closed new.closed events more
    k.places.items (map part_in k.blocks.items) last c.close.ensures.beside.0
    c.close.ensures.closed
    (λ front late behind h. c.close.ensures.held front
    old.medium.names new.medium.names late behind h)

pub returns-clause-any_moment : goal.returns-clause-any_moment
returns-clause-any_moment g c events more last =
    let f = g.F.Folder in
    let old = c.args.self.now.store.events.journal in
    let new = c.close.new.self.journal in
    let k = c.args.self.now in
    let found = last_leaves f.shows f.kept f.sound f.moment f.left_since g.met.F.Folder.only_now
    g.N.Beginning.first old.medium new.medium old.len old.closed events more k.places.items
    (map part_in k.blocks.items) last c.close.ensures.beside.0
    (λ front late behind h. c.close.ensures.any_moment front
    old.medium.names late behind h) in
    record {
      later = found.later;
      each = λ left had. each_kept f.moment f.left_since g.N.Beginning.first old.medium.folder
          new.medium.folder (AreAllAndSome events more) found left had;
      before = λ t left le had. before_kept f.moment f.left_since g.N.Beginning.first
          old.medium.folder new.medium.folder (AreAllAndSome events more) found t left le had;
    }

pub returns-clause-beside : goal.returns-clause-beside
returns-clause-beside g c = c.close.ensures.beside.0
