use Rattle.std.proofs.Common.{◌≡◌, List, ap, inl, length, map, subst, subst₂, sym}
use Rattle.head.specs.Blocks.{part_in}
use Rattle.store_folder.specs.declared.journals.FoundJournal.{FoundJournal}
use Rattle.store_folder.specs.Starting.{GoesOn}
use Rattle.store_folder.proofs.Rolls.{finds_on}
use Rattle.store_joiner.proofs.Stores.{has_open}
use Rattle.data_folder.proofs.Foreign.{foreign_beside, foreign_then}
use Rattle.store_folder.proofs.Says.{says_on, there_beside}
use Rattle.store_folder.proofs.Found.{found_of}
use Rattle.store_folder.proofs.Fronts.{open_like}
use Rattle.store_folder.specs.Writing.{AreLike, EachSays}
use Rattle.store_folder.specs.Rolls.{head_file}
use Rattle.store_folder.specs.Origins.{Origin}
use Rattle.store_folder.specs.Holding.{AreAt}
use Rattle.head_record.specs.Saved.{Place, save}
use Rattle.head.specs.Heads.{BlockPart}
use Rattle.block_folder.specs.declared.values.Values.{Values}
use Rattle.store_joiner.proofs.Says.{head_says, left_says}
use Rattle.store_joiner.specs.declared.error.ChangeFault.TheVariants as faults
use Rattle.store_joiner.specs.declared.error.ChangeFault.{ChangeFault}
use Rattle.store_folder.specs.declared.error.RollFault.{RollFault}
use Rattle.head.specs.Resuming.{MayStand}
use Rattle.head_record.specs.Saved.{Saved}
use Rattle.store_folder.specs.States.{started}
use Rattle.store_joiner.proofs.Starting.{saved_starts, starts_of, starts_on}
use Rattle.store_joiner.specs.Joins.{AreRolled}
use Rattle.store_joiner.proofs.opened.save_events.Goals as goal

abbrev rolled : RollFault → ChangeFault
rolled fault = faults.Roll fault

pub roll-requires : goal.roll-requires
roll-requires g c =
    let f = g.F.Folder in
    let first = g.N.Beginning.first in
    let kept = c.in-Ok.kept in
    let store = kept.keeper.store.events.journal in
    let events = c.args.found.store.journal.events.items in
    let goes : GoesOn f.shows f.kept f.sound f.moment f.left_since first store.medium store.len
    store.closed events kept.keeper.places.items (map part_in kept.keeper.blocks.items)
    kept.snapshot =
    subst (λ (j : FoundJournal). GoesOn f.shows f.kept f.sound f.moment f.left_since first
    store.medium store.len store.closed j.events.items kept.keeper.places.items
    (map part_in kept.keeper.blocks.items) kept.snapshot) c.in-Ok.ensures.journal
    c.in-Ok.ensures.resumed in
    (events, events, inl goes.holds, goes.world)

pub returns-in-Ok-roll-clause-any_moment : goal.returns-in-Ok-roll-clause-any_moment
returns-in-Ok-roll-clause-any_moment g c =
    let f = g.F.Folder in
    let first = g.N.Beginning.first in
    let kept = c.in-Ok.kept in
    let store = kept.keeper.store.events.journal in
    let goes : GoesOn f.shows f.kept f.sound f.moment f.left_since first store.medium store.len
    store.closed c.args.found.store.journal.events.items kept.keeper.places.items
    (map part_in kept.keeper.blocks.items) kept.snapshot =
    subst (λ (j : FoundJournal). GoesOn f.shows f.kept f.sound f.moment f.left_since first
    store.medium store.len store.closed j.events.items kept.keeper.places.items
    (map part_in kept.keeper.blocks.items) kept.snapshot) c.in-Ok.ensures.journal
    c.in-Ok.ensures.resumed in
    finds_on f.moment f.left_since first c.args.found.store.journal.events.items
    c.args.found.folder store.medium.folder
    c.roll.new.self.store.events.journal.medium.folder c.in-Ok.ensures.any_moment
    (c.roll.ensures.any_moment c.args.found.store.journal.events.items (inl goes.holds)
    goes.world goes.is_open)

pub returns-clause-any_moment : goal.returns-clause-any_moment
returns-clause-any_moment g c =
    let f = g.F.Folder in
    let first = g.N.Beginning.first in
    let kept = c.in-Ok.kept in
    let store = kept.keeper.store.events.journal in
    let goes : GoesOn f.shows f.kept f.sound f.moment f.left_since first store.medium store.len
    store.closed c.args.found.store.journal.events.items kept.keeper.places.items
    (map part_in kept.keeper.blocks.items) kept.snapshot =
    subst (λ (j : FoundJournal). GoesOn f.shows f.kept f.sound f.moment f.left_since first
    store.medium store.len store.closed j.events.items kept.keeper.places.items
    (map part_in kept.keeper.blocks.items) kept.snapshot) c.in-Ok.ensures.journal
    c.in-Ok.ensures.resumed in
    finds_on f.moment f.left_since first c.args.found.store.journal.events.items
    c.args.found.folder store.medium.folder
    c.roll.new.self.store.events.journal.medium.folder c.in-Ok.ensures.any_moment
    (c.roll.ensures.any_moment c.args.found.store.journal.events.items (inl goes.holds)
    goes.world goes.is_open)

pub returns-in-Ok-roll-clause-has : goal.returns-in-Ok-roll-clause-has
returns-in-Ok-roll-clause-has g c =
    let f = g.F.Folder in
    let met = g.met.F.Folder in
    let first = g.N.Beginning.first in
    let kept = c.in-Ok.kept in
    let store = kept.keeper.store.events.journal in
    let rolled = c.roll.new.self in
    let j = rolled.store.events.journal in
    let goes : GoesOn f.shows f.kept f.sound f.moment f.left_since first store.medium store.len
    store.closed c.args.found.store.journal.events.items kept.keeper.places.items
    (map part_in kept.keeper.blocks.items) kept.snapshot =
    subst (λ (x : FoundJournal). GoesOn f.shows f.kept f.sound f.moment f.left_since first
    store.medium store.len store.closed x.events.items kept.keeper.places.items
    (map part_in kept.keeper.blocks.items) kept.snapshot) c.in-Ok.ensures.journal
    c.in-Ok.ensures.resumed in
    has_open f.shows f.kept f.sound f.moment f.left_since met.only_now met.earlier first j.medium
    j.len j.closed c.args.found.store.journal.events.items rolled.places.items
    (map part_in rolled.blocks.items)
    (c.roll.ensures.held c.args.found.store.journal.events.items (inl goes.holds) goes.world)
    c.in-Ok-roll.ensures.open

pub returns-in-Err-clause-foreign : goal.returns-in-Err-clause-foreign
returns-in-Err-clause-foreign g c =
    let f = g.F.Folder in
    foreign_beside f.shows f.kept c.args.found.folder c.in-Err.folder c.in-Err.ensures.others

pub returns-in-Ok-roll-clause-foreign : goal.returns-in-Ok-roll-clause-foreign
returns-in-Ok-roll-clause-foreign g c =
    let f = g.F.Folder in
    foreign_then f.shows f.kept c.args.found.folder
    c.in-Ok.kept.keeper.store.events.journal.medium.folder
    c.roll.new.self.store.events.journal.medium.folder
    (foreign_beside f.shows f.kept c.args.found.folder
    c.in-Ok.kept.keeper.store.events.journal.medium.folder c.in-Ok.ensures.others)
    c.roll.ensures.foreign

pub returns-clause-foreign : goal.returns-clause-foreign
returns-clause-foreign g c =
    let f = g.F.Folder in
    foreign_then f.shows f.kept c.args.found.folder
    c.in-Ok.kept.keeper.store.events.journal.medium.folder
    c.roll.new.self.store.events.journal.medium.folder
    (foreign_beside f.shows f.kept c.args.found.folder
    c.in-Ok.kept.keeper.store.events.journal.medium.folder c.in-Ok.ensures.others)
    c.roll.ensures.foreign

-- what the meta.json of its blocks says

pub returns-in-Ok-roll-clause-stands : goal.returns-in-Ok-roll-clause-stands
returns-in-Ok-roll-clause-stands g c =
    let f = g.F.Folder in
    let first = g.N.Beginning.first in
    let found = c.args.found in
    let events = found.store.journal.events.items in
    let head = found.store.journal.head in
    let kept = c.in-Ok.kept in
    let store = kept.keeper.store.events.journal in
    let mid = store.medium.folder in
    let rolled = c.roll.new.self in
    let j = rolled.store.events.journal in
    let goes : GoesOn f.shows f.kept f.sound f.moment f.left_since first store.medium store.len
    store.closed events kept.keeper.places.items (map part_in kept.keeper.blocks.items) kept.snapshot =
    subst (λ (x : FoundJournal). GoesOn f.shows f.kept f.sound f.moment f.left_since first
    store.medium store.len store.closed x.events.items kept.keeper.places.items
    (map part_in kept.keeper.blocks.items) kept.snapshot) c.in-Ok.ensures.journal
    c.in-Ok.ensures.resumed in
    let like = open_like f.shows f.kept f.sound f.moment f.left_since first j.medium j.len j.closed
    events rolled.places.items (map part_in rolled.blocks.items)
    (c.roll.ensures.held events (inl goes.holds) goes.world) c.in-Ok-roll.ensures.open in
    let saved = save first.values kept.snapshot rolled.places.items in
    let alone = c.in-Ok-roll.ensures.file in (
      saved,
      like.0.parts,
      record {
        file = head_file saved;
        has = alone.file;
        journal = alone.is;
        blocks = subst (λ (ps : List Place). AreAt f.shows f.kept ps like.0.parts j.medium.folder)
            like.1 like.0.blocks;
      },
      c.in-Ok-roll.ensures.stands like.0.parts
          (subst (λ (bs : List BlockPart). AreLike bs like.0.parts) c.in-Ok-roll.ensures.blocks
          like.2),
      λ says. c.roll.ensures.says (subst₂ (λ (v : Values) (ps : List Place).
          EachSays f.shows f.kept v ps mid)
          (sym (ap (λ (o : Origin). o.values) c.requires.first)) (sym c.in-Ok.ensures.places)
          (says_on f.shows f.kept head.values head.places found.folder mid
          (λ files among there. there_beside f.shows f.kept head.places files found.folder mid
          c.in-Ok.ensures.others among there) says)),
      (let n = c.in-Ok-roll.ensures.numbers in
          subst (λ (ps : List Place). AreRolled ps rolled.places.items) c.in-Ok.ensures.places (
            n.0,
            found_of (λ (block part : BlockPart). block ≡ part) kept.keeper.places.items
                (map part_in kept.keeper.blocks.items) n.0 kept.snapshot.blocks n.5,
            n.1,
            length kept.snapshot.blocks,
            (n.2, n.3, n.4),
            n.6,
          )),
    )

pub returns-in-Err-clause-says_stays : goal.returns-in-Err-clause-says_stays
returns-in-Err-clause-says_stays g c says unless =
    let f = g.F.Folder in
    let met = g.met.F.Folder in
    let found = c.args.found in
    let head = found.store.journal.head in
    left_says f.shows f.kept f.sound f.moment f.left_since met.only_now met.earlier head
    (map part_in found.store.blocks.items) found.store.journal.events.items found.folder
    c.in-Err.folder c.in-Err.ensures.leaves
    (says_on f.shows f.kept head.values head.places found.folder c.in-Err.folder
    (λ files among there. there_beside f.shows f.kept head.places files found.folder
    c.in-Err.folder c.in-Err.ensures.others among there) says)

pub returns-clause-says_stays : goal.returns-clause-says_stays
returns-clause-says_stays g c says unless =
    let f = g.F.Folder in
    let met = g.met.F.Folder in
    let first = g.N.Beginning.first in
    let found = c.args.found in
    let events = found.store.journal.events.items in
    let head = found.store.journal.head in
    let kept = c.in-Ok.kept in
    let store = kept.keeper.store.events.journal in
    let mid = store.medium.folder in
    let failed = c.roll.new.self in
    let j = failed.store.events.journal in
    let goes : GoesOn f.shows f.kept f.sound f.moment f.left_since first store.medium store.len
    store.closed events kept.keeper.places.items (map part_in kept.keeper.blocks.items) kept.snapshot =
    subst (λ (x : FoundJournal). GoesOn f.shows f.kept f.sound f.moment f.left_since first
    store.medium store.len store.closed x.events.items kept.keeper.places.items
    (map part_in kept.keeper.blocks.items) kept.snapshot) c.in-Ok.ensures.journal
    c.in-Ok.ensures.resumed in
    let opened = c.in-Err-roll.ensures.goes_on (λ e. unless (ap rolled e)) goes.is_open in
    let like = open_like f.shows f.kept f.sound f.moment f.left_since first j.medium j.len j.closed
    events failed.places.items (map part_in failed.blocks.items)
    (c.roll.ensures.held events (inl goes.holds) goes.world) opened in
    head_says f.shows f.kept f.sound f.moment f.left_since met.only_now met.earlier first j.medium j.len
    j.closed events failed.places.items like.0 like.1 opened
    (c.roll.ensures.says (subst₂ (λ (v : Values) (ps : List Place).
    EachSays f.shows f.kept v ps mid)
    (sym (ap (λ (o : Origin). o.values) c.requires.first)) (sym c.in-Ok.ensures.places)
    (says_on f.shows f.kept head.values head.places found.folder mid
    (λ files among there. there_beside f.shows f.kept head.places files found.folder mid
    c.in-Ok.ensures.others among there) says)))

-- the folder is sound
pub returns-in-Ok-roll-clause-sound : goal.returns-in-Ok-roll-clause-sound
returns-in-Ok-roll-clause-sound g c =
    let f = g.F.Folder in
    let first = g.N.Beginning.first in
    let found = c.args.found in
    let events = found.store.journal.events.items in
    let kept = c.in-Ok.kept in
    let store = kept.keeper.store.events.journal in
    let rolled = c.roll.new.self in
    let j = rolled.store.events.journal in
    let goes : GoesOn f.shows f.kept f.sound f.moment f.left_since first store.medium store.len
    store.closed events kept.keeper.places.items (map part_in kept.keeper.blocks.items) kept.snapshot =
    subst (λ (x : FoundJournal). GoesOn f.shows f.kept f.sound f.moment f.left_since first
    store.medium store.len store.closed x.events.items kept.keeper.places.items
    (map part_in kept.keeper.blocks.items) kept.snapshot) c.in-Ok.ensures.journal
    c.in-Ok.ensures.resumed in
    let like = open_like f.shows f.kept f.sound f.moment f.left_since first j.medium j.len j.closed
    events rolled.places.items (map part_in rolled.blocks.items)
    (c.roll.ensures.held events (inl goes.holds) goes.world) c.in-Ok-roll.ensures.open in
    (like.0.journal.keeps c.in-Ok-roll.ensures.open).has.is_sound

-- what a start takes

pub returns-in-Err-clause-starts : goal.returns-in-Err-clause-starts
returns-in-Err-clause-starts g c may =
    let f = g.F.Folder in
    let found = c.args.found in
    starts_of f.moment f.left_since found.store.journal.head (map part_in found.store.blocks.items)
    found.store.journal.events.items found.folder c.in-Err.folder c.in-Err.ensures.leaves may

pub returns-in-Ok-roll-clause-starts : goal.returns-in-Ok-roll-clause-starts
returns-in-Ok-roll-clause-starts g c may =
    let f = g.F.Folder in
    let first = g.N.Beginning.first in
    let found = c.args.found in
    let parts = map part_in found.store.blocks.items in
    let events = found.store.journal.events.items in
    let head = found.store.journal.head in
    let kept = c.in-Ok.kept in
    let store = kept.keeper.store.events.journal in
    let mid = store.medium.folder in
    let new = c.roll.new.self.store.events.journal.medium.folder in
    let goes : GoesOn f.shows f.kept f.sound f.moment f.left_since first store.medium store.len
    store.closed events kept.keeper.places.items (map part_in kept.keeper.blocks.items) kept.snapshot =
    subst (λ (x : FoundJournal). GoesOn f.shows f.kept f.sound f.moment f.left_since first
    store.medium store.len store.closed x.events.items kept.keeper.places.items
    (map part_in kept.keeper.blocks.items) kept.snapshot) c.in-Ok.ensures.journal
    c.in-Ok.ensures.resumed in
    let held = c.in-Ok.ensures.head in
    let h = held.0.0 in
    starts_on f.moment f.left_since found.folder mid new
    (starts_of f.moment f.left_since head parts events found.folder mid c.in-Ok.ensures.leaves may)
    (saved_starts f.moment f.left_since h.saved h.parts h.late first.values kept.snapshot mid new
    (c.roll.ensures.leaves events events held.0 goes.world goes.is_open)
    (subst₂ (λ (x : Saved) (bs : List BlockPart). MayStand (started x bs)) (sym held.1) (sym held.2)
    may))

pub returns-clause-starts : goal.returns-clause-starts
returns-clause-starts g c may =
    let f = g.F.Folder in
    let first = g.N.Beginning.first in
    let found = c.args.found in
    let parts = map part_in found.store.blocks.items in
    let events = found.store.journal.events.items in
    let head = found.store.journal.head in
    let kept = c.in-Ok.kept in
    let store = kept.keeper.store.events.journal in
    let mid = store.medium.folder in
    let new = c.roll.new.self.store.events.journal.medium.folder in
    let goes : GoesOn f.shows f.kept f.sound f.moment f.left_since first store.medium store.len
    store.closed events kept.keeper.places.items (map part_in kept.keeper.blocks.items) kept.snapshot =
    subst (λ (x : FoundJournal). GoesOn f.shows f.kept f.sound f.moment f.left_since first
    store.medium store.len store.closed x.events.items kept.keeper.places.items
    (map part_in kept.keeper.blocks.items) kept.snapshot) c.in-Ok.ensures.journal
    c.in-Ok.ensures.resumed in
    let held = c.in-Ok.ensures.head in
    let h = held.0.0 in
    starts_on f.moment f.left_since found.folder mid new
    (starts_of f.moment f.left_since head parts events found.folder mid c.in-Ok.ensures.leaves may)
    (saved_starts f.moment f.left_since h.saved h.parts h.late first.values kept.snapshot mid new
    (c.roll.ensures.leaves events events held.0 goes.world goes.is_open)
    (subst₂ (λ (x : Saved) (bs : List BlockPart). MayStand (started x bs)) (sym held.1) (sym held.2)
    may))
