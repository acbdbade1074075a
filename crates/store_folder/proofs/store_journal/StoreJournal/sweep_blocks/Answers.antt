use Rattle.std.proofs.Common.{refl}
use Rattle.data_folder.proofs.Foreign.{foreign_kept}
use Rattle.store_folder.specs.Sweeps.{names_at}
use Rattle.store_folder.proofs.Swept.{holds_swept, swept_finds, these_leave}
use Rattle.store_folder.proofs.store_journal.StoreJournal.sweep_blocks.Goals as goal

pub sweep_apart-requires : goal.sweep_apart-requires
sweep_apart-requires g c =
    (c.requires.held.2.0.journal.keeps c.requires.open).has.is_sound

pub returns-clause-held : goal.returns-clause-held
returns-clause-held g c events parts at =
    let f = g.F.Folder in
    let met = g.met.F.Folder in
    let old = c.args.self.now.events.journal in
    holds_swept f.shows f.kept f.sound f.moment f.left_since met.only_now met.earlier
    g.N.Beginning.first old.medium (record (old.medium) { folder = c.sweep_apart.new.folder })
    old.len old.closed events c.args.places.now parts (names_at c.args.places.now) at
    c.requires.open refl refl c.sweep_apart.ensures.kept

pub returns-clause-any_moment : goal.returns-clause-any_moment
returns-clause-any_moment g c events parts at =
    let f = g.F.Folder in
    let met = g.met.F.Folder in
    let old = c.args.self.now.events.journal in
    swept_finds f.shows f.kept f.sound f.moment f.left_since met.only_now met.earlier
    g.N.Beginning.first old.medium (record (old.medium) { folder = c.sweep_apart.new.folder })
    old.len old.closed events c.args.places.now parts (names_at c.args.places.now) at
    c.requires.open refl c.sweep_apart.ensures.kept

pub returns-clause-foreign : goal.returns-clause-foreign
returns-clause-foreign g c =
    let f = g.F.Folder in
    foreign_kept f.shows f.kept f.sound f.moment f.left_since (names_at c.args.places.now)
    c.args.self.now.events.journal.medium.folder c.sweep_apart.new.folder c.sweep_apart.ensures.kept

pub returns-clause-kept : goal.returns-clause-kept
returns-clause-kept g c = c.sweep_apart.ensures.kept

pub returns-clause-leaves : goal.returns-clause-leaves
returns-clause-leaves g c events saved parts late t is =
    let f = g.F.Folder in
    let met = g.met.F.Folder in
    let old = c.args.self.now.events.journal in
    these_leave f.shows f.kept f.sound f.moment f.left_since met.only_now met.earlier
    g.N.Beginning.first old.medium c.sweep_apart.new.folder old.len old.closed events saved parts late
    c.args.places.now t c.requires.open is c.sweep_apart.ensures.kept
