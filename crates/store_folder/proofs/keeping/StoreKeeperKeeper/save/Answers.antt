use Rattle.std.proofs.Common.{◌≡◌, ◌++◌, inl, inr, map, refl, Result, Err, ℕ}
use Rattle.data_folder.specs.declared.rolling.RollError.TheVariants as rolls
use Rattle.head.specs.Blocks.{part_in}
use Rattle.keeper.specs.Finding.{AreAllAndSome}
use Rattle.keeper.specs.declared.error.KeepError.TheVariants as keep
use Rattle.store_folder.specs.declared.error.RollFault.{RollFault}
use Rattle.store_folder.specs.declared.error.RollFault.TheVariants as roll
use Rattle.store_folder.proofs.Fronts.{more_between}
use Rattle.store_folder.proofs.Kept.{before_kept, each_kept, none_or_all}
use Rattle.store_folder.proofs.keeping.StoreKeeperKeeper.save.Goals as goal

same_fault : (r : Result ℕ RollFault) (a b : RollFault) → r ≡ Err a → r ≡ Err b → a ≡ b
same_fault r a b one two = cc

pub roll-requires : goal.roll-requires
roll-requires g c =
    let made = c.requires.made refl in
    (made.0, made.0 ++ made.1, made.2, made.4)

-- it was saved

pub returns-in-Ok-clause-ok : goal.returns-in-Ok-clause-ok
returns-in-Ok-clause-ok g c events more held world =
    inl (c.in-Ok.ensures.saved events (events ++ more) held (world refl))

pub returns-in-Ok-clause-last : goal.returns-in-Ok-clause-last
returns-in-Ok-clause-last g c events more held world =
    inr (c.in-Ok.ensures.saved events (events ++ more) held (world refl))

-- it was not

pub returns-in-Err-clause-err : goal.returns-in-Err-clause-err
returns-in-Err-clause-err g c events more held world =
    let f = g.F.Folder in
    let now = c.roll.new.self in
    let j = now.store.events.journal in
    more_between f.shows f.kept f.sound f.moment f.left_since g.N.Beginning.first j.medium j.len
    j.closed events more now.places.items (map part_in now.blocks.items)
    (c.in-Err.ensures.unsaved events (events ++ more) held (world refl))

pub returns-in-Err-clause-closed : goal.returns-in-Err-clause-closed
returns-in-Err-clause-closed g c shut =
    let said = c.roll.ensures.closed shut in
    let told : c.save_error.result ≡ keep.Closed =
    c.save_error.ensures.told
    (same_fault c.roll.result c.in-Err.fault (roll.Folder rolls.Closed) c.in-Err.is said.0) in
    (cc, said.1)

pub returns-in-Err-clause-told : goal.returns-in-Err-clause-told
returns-in-Err-clause-told g c said =
    let f = g.F.Folder in
    let is : c.save_error.result ≡ keep.Closed = cc in
    c.save_error.ensures.closed c.args.self.now.store.events.journal.closed
    (f.failed c.roll.new.self.store.events.journal.medium.folder) c.in-Err.ensures.cause is

pub returns-in-Err-clause-failed : goal.returns-in-Err-clause-failed
returns-in-Err-clause-failed g c said =
    let f = g.F.Folder in
    let is : c.save_error.result ≡ keep.Failed = cc in
    c.save_error.ensures.failed c.args.self.now.store.events.journal.closed
    (f.failed c.roll.new.self.store.events.journal.medium.folder) c.in-Err.ensures.cause is

-- whatever a crash leaves

pub returns-in-Ok-clause-any_moment : goal.returns-in-Ok-clause-any_moment
returns-in-Ok-clause-any_moment g c events more held world opened =
    let f = g.F.Folder in
    let first = g.N.Beginning.first in
    let old = c.args.self.now.store.events.journal.medium.folder in
    let new = c.roll.new.self.store.events.journal.medium.folder in
    let found = none_or_all f.moment f.left_since first events more old new
    (c.in-Ok.ensures.finds events (events ++ more) held (world refl) opened) in
    record {
      later = found.later;
      each = λ left had. each_kept f.moment f.left_since first old new
          (AreAllAndSome events more) found left had;
      before = λ t left le had. before_kept f.moment f.left_since first old new
          (AreAllAndSome events more) found t left le had;
    }

pub returns-in-Err-clause-any_moment : goal.returns-in-Err-clause-any_moment
returns-in-Err-clause-any_moment g c events more held world opened =
    let f = g.F.Folder in
    let first = g.N.Beginning.first in
    let old = c.args.self.now.store.events.journal.medium.folder in
    let new = c.roll.new.self.store.events.journal.medium.folder in
    let found = none_or_all f.moment f.left_since first events more old new
    (c.in-Err.ensures.finds events (events ++ more) held (world refl) opened) in
    record {
      later = found.later;
      each = λ left had. each_kept f.moment f.left_since first old new
          (AreAllAndSome events more) found left had;
      before = λ t left le had. before_kept f.moment f.left_since first old new
          (AreAllAndSome events more) found t left le had;
    }

pub returns-in-Ok-clause-leaves : goal.returns-in-Ok-clause-leaves
returns-in-Ok-clause-leaves g c events more h world opened =
    c.in-Ok.ensures.leaves events (events ++ more) h world opened

pub returns-in-Err-clause-leaves : goal.returns-in-Err-clause-leaves
returns-in-Err-clause-leaves g c events more h world opened =
    c.in-Err.ensures.leaves events (events ++ more) h world opened

-- what was saved

pub returns-in-Ok-clause-len : goal.returns-in-Ok-clause-len
returns-in-Ok-clause-len g c = c.in-Ok.ensures.len

pub returns-in-Ok-clause-file : goal.returns-in-Ok-clause-file
returns-in-Ok-clause-file g c = c.in-Ok.ensures.file

pub returns-in-Ok-clause-stands : goal.returns-in-Ok-clause-stands
returns-in-Ok-clause-stands g c = c.in-Ok.ensures.stands

-- what is none of the store's, and what the meta.json of blocks says

pub returns-in-Ok-clause-foreign : goal.returns-in-Ok-clause-foreign
returns-in-Ok-clause-foreign g c = c.in-Ok.ensures.foreign

pub returns-in-Err-clause-foreign : goal.returns-in-Err-clause-foreign
returns-in-Err-clause-foreign g c = c.in-Err.ensures.foreign

pub returns-in-Ok-clause-says : goal.returns-in-Ok-clause-says
returns-in-Ok-clause-says g c says = c.roll.ensures.says says

pub returns-in-Err-clause-says : goal.returns-in-Err-clause-says
returns-in-Err-clause-says g c says = c.roll.ensures.says says
