use Rattle.std.proofs.Common.{inl, map, refl}
use Rattle.data_folder.proofs.Foreign.{foreign_rests}
use Rattle.head.specs.Blocks.{part_in}
use Rattle.keeper.specs.Finding.{AreAll}
use Rattle.store_folder.specs.KeeperLaws.{as_store}
use Rattle.store_folder.proofs.Kept.{before_kept, each_kept, these_alone}
use Rattle.data_folder.proofs.Moments.{weaker}
use Rattle.store_folder.specs.Saving.{IsOldOrSaved}
use Rattle.store_folder.specs.States.{IsState}
use Rattle.store_folder.proofs.Rolls.{state_rests, stays_so}
use Rattle.store_folder.proofs.keeping.StoreKeeperKeeper.roll_if_due.Goals as goal

pub roll-requires : goal.roll-requires
roll-requires g c =
    let made = c.requires.made refl in
    (made.0, made.0, made.1, made.2)

pub returns-then-not-are_met-clause-any_moment : goal.returns-then-not-are_met-clause-any_moment
returns-then-not-are_met-clause-any_moment g c events held world opened =
    let f = g.F.Folder in
    let met = g.met.F.Folder in
    let self = c.args.self.now in
    let j = self.store.events.journal in
    let found = stays_so f.shows f.kept f.sound f.moment f.left_since met.only_now met.earlier
    g.N.Beginning.first j.medium j.len j.closed events
    (as_store f.shows f.kept f.sound f.moment f.left_since met.only_now g.N.Beginning.first j.medium
    j.len j.closed events self.places.items (map part_in self.blocks.items) held) opened in
    record {
      later = found.later;
      each = λ left had. each_kept f.moment f.left_since g.N.Beginning.first j.medium.folder
          j.medium.folder (AreAll events)
          (these_alone f.moment f.left_since g.N.Beginning.first events j.medium.folder j.medium.folder found) left had;
      before = λ t left le had. before_kept f.moment f.left_since g.N.Beginning.first
          j.medium.folder j.medium.folder (AreAll events)
          (these_alone f.moment f.left_since g.N.Beginning.first events j.medium.folder j.medium.folder found) t left le had;
    }

pub returns-in-Ok-clause-any_moment : goal.returns-in-Ok-clause-any_moment
returns-in-Ok-clause-any_moment g c events held world opened =
    let f = g.F.Folder in
    let found = c.in-Ok.ensures.any_moment events held (world refl) opened in
    record {
      later = found.later;
      each = λ left had. each_kept f.moment f.left_since g.N.Beginning.first c.args.self.now.store.events.journal.medium.folder
          c.roll.new.self.store.events.journal.medium.folder (AreAll events)
          (these_alone f.moment f.left_since g.N.Beginning.first events c.args.self.now.store.events.journal.medium.folder c.roll.new.self.store.events.journal.medium.folder found) left had;
      before = λ t left le had. before_kept f.moment f.left_since g.N.Beginning.first
          c.args.self.now.store.events.journal.medium.folder c.roll.new.self.store.events.journal.medium.folder (AreAll events)
          (these_alone f.moment f.left_since g.N.Beginning.first events c.args.self.now.store.events.journal.medium.folder c.roll.new.self.store.events.journal.medium.folder found) t left le had;
    }

pub returns-in-Err-clause-any_moment : goal.returns-in-Err-clause-any_moment
returns-in-Err-clause-any_moment g c events held world opened =
    let f = g.F.Folder in
    let found = c.in-Err.ensures.any_moment events held (world refl) opened in
    record {
      later = found.later;
      each = λ left had. each_kept f.moment f.left_since g.N.Beginning.first c.args.self.now.store.events.journal.medium.folder
          c.roll.new.self.store.events.journal.medium.folder (AreAll events)
          (these_alone f.moment f.left_since g.N.Beginning.first events c.args.self.now.store.events.journal.medium.folder c.roll.new.self.store.events.journal.medium.folder found) left had;
      before = λ t left le had. before_kept f.moment f.left_since g.N.Beginning.first
          c.args.self.now.store.events.journal.medium.folder c.roll.new.self.store.events.journal.medium.folder (AreAll events)
          (these_alone f.moment f.left_since g.N.Beginning.first events c.args.self.now.store.events.journal.medium.folder c.roll.new.self.store.events.journal.medium.folder found) t left le had;
    }

-- what is left is the store as it was, or what is saved

pub returns-then-not-are_met-clause-leaves : goal.returns-then-not-are_met-clause-leaves
returns-then-not-are_met-clause-leaves g c events h world opened =
    let f = g.F.Folder in
    let met = g.met.F.Folder in
    let j = c.args.self.now.store.events.journal in
    let folder = j.medium.folder in
    weaker f.moment f.left_since folder folder (IsState h.0.saved h.0.parts h.0.late)
    (IsOldOrSaved h.0.saved h.0.parts h.0.late g.N.Beginning.first.values c.args.snapshot.now)
    (λ left state. inl state)
    (state_rests f.shows f.kept f.sound f.moment f.left_since met.only_now met.earlier
    g.N.Beginning.first j.medium j.len j.closed events h.0 opened)

pub returns-in-Ok-clause-leaves : goal.returns-in-Ok-clause-leaves
returns-in-Ok-clause-leaves g c events h world opened =
    c.in-Ok.ensures.leaves events events h world opened

pub returns-in-Err-clause-leaves : goal.returns-in-Err-clause-leaves
returns-in-Err-clause-leaves g c events h world opened =
    c.in-Err.ensures.leaves events events h world opened

-- what is none of the store's

pub returns-then-self-clause-foreign : goal.returns-then-self-clause-foreign
returns-then-self-clause-foreign g c =
    let f = g.F.Folder in
    foreign_rests f.shows f.kept c.args.self.now.store.events.journal.medium.folder

pub returns-then-not-are_met-clause-foreign : goal.returns-then-not-are_met-clause-foreign
returns-then-not-are_met-clause-foreign g c =
    let f = g.F.Folder in
    foreign_rests f.shows f.kept c.args.self.now.store.events.journal.medium.folder

pub returns-in-Ok-clause-foreign : goal.returns-in-Ok-clause-foreign
returns-in-Ok-clause-foreign g c = c.in-Ok.ensures.foreign

pub returns-in-Err-clause-foreign : goal.returns-in-Err-clause-foreign
returns-in-Err-clause-foreign g c = c.in-Err.ensures.foreign

-- what was saved

pub returns-in-Ok-clause-len : goal.returns-in-Ok-clause-len
returns-in-Ok-clause-len g c = c.in-Ok.ensures.len

pub returns-in-Ok-clause-file : goal.returns-in-Ok-clause-file
returns-in-Ok-clause-file g c = c.in-Ok.ensures.file

pub returns-in-Ok-clause-stands : goal.returns-in-Ok-clause-stands
returns-in-Ok-clause-stands g c = c.in-Ok.ensures.stands

pub returns-in-Ok-clause-counted : goal.returns-in-Ok-clause-counted
returns-in-Ok-clause-counted g c = c.in-Ok.ensures.counted

-- what the meta.json of blocks says

pub returns-then-self-clause-says : goal.returns-then-self-clause-says
returns-then-self-clause-says g c says = says

pub returns-then-not-are_met-clause-says : goal.returns-then-not-are_met-clause-says
returns-then-not-are_met-clause-says g c says = says

pub returns-in-Ok-clause-says : goal.returns-in-Ok-clause-says
returns-in-Ok-clause-says g c says = c.roll.ensures.says says

pub returns-in-Err-clause-says : goal.returns-in-Err-clause-says
returns-in-Err-clause-says g c says = c.roll.ensures.says says
