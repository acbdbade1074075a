use Rattle.std.proofs.Common.{◌≡◌, ◌⊎◌, List, ap, inl, map, refl, subst, subst₂, sym}
use Rattle.head.specs.Blocks.{part_in}
use Rattle.head.specs.Heads.{world_of}
use Rattle.store_folder.specs.Holding.{HoldsAt}
use Rattle.store_folder.specs.Origins.{Origin}
use Rattle.store_folder.specs.declared.error.RollFault.{RollFault}
use Rattle.store_joiner.specs.declared.error.ChangeFault.{ChangeFault}
use Rattle.store_joiner.specs.declared.error.ChangeFault.TheVariants as faults
use Rattle.store_joiner.proofs.Stores.{finds_all, now_first, replaced}
use Rattle.data_folder.proofs.Foreign.{foreign_beside, foreign_rests, foreign_then}
use Rattle.store_folder.proofs.Starts.{stays_found}
use Rattle.store_joiner.proofs.Says.{found_says, left_says}
use Rattle.store_folder.proofs.Says.{says_on, there_beside}
use Rattle.store_folder.specs.Writing.{EachSays}
use Rattle.head_record.specs.Saved.{Place}
use Rattle.block_folder.specs.declared.values.Values.{Values}
use Rattle.head.specs.Worlds.{Event}
use Rattle.store_folder.specs.Holding.{HoldsThese}
use Rattle.store_joiner.proofs.Starting.{found_starts, starts_of, starts_on}
use Rattle.store_joiner.specs.Joins.{AreAbove}
use Rattle.store_joiner.proofs.replacing.replace.Goals as goal

abbrev rolled : RollFault → ChangeFault
rolled fault = faults.Roll fault

pub resume-requires-clause-values : goal.resume-requires-clause-values
resume-requires-clause-values g c = sym (ap (λ (x : Origin). x.values) c.requires.first)

pub replace_store-requires-clause-held : goal.replace_store-requires-clause-held
replace_store-requires-clause-held g c =
    let f = g.F.Folder in
    let first = g.N.Beginning.first in
    let store = c.args.found.store in
    let parts = map part_in store.blocks.items in
    let j = c.in-Ok-resume.journal.events.journal in (
      parts,
      subst (λ events. HoldsAt f.shows f.kept f.sound f.moment f.left_since first j.medium j.len
          j.closed events c.places.result.now parts) c.requires.saved
          (subst (λ places. HoldsAt f.shows f.kept f.sound f.moment f.left_since first j.medium
          j.len j.closed store.journal.events.items places parts) (sym c.places.ensures)
          (c.in-Ok-resume.ensures.holds parts c.requires.found c.requires.first)),
    )

-- no memory was left

pub returns-in_default-clause-any_moment : goal.returns-in_default-clause-any_moment
returns-in_default-clause-any_moment g c =
    let f = g.F.Folder in
    let store = c.args.found.store in
    let folder = c.args.found.folder in
    let first = g.N.Beginning.first in
    finds_all f.moment f.left_since folder folder first
    store.journal.events.items (λ v. (v ≡ first.world) ⊎ (v ≡ world_of c.args.next.now))
    c.requires.saved (inl refl)
    (stays_found f.shows f.kept f.sound f.moment f.left_since g.met.F.Folder.only_now first folder
    store.journal (map part_in store.blocks.items) c.requires.found c.requires.first)

pub returns-in_default-clause-stays : goal.returns-in_default-clause-stays
returns-in_default-clause-stays g c unless =
    let f = g.F.Folder in
    let met = g.met.F.Folder in
    let store = c.args.found.store in
    let folder = c.args.found.folder in
    let first = g.N.Beginning.first in
    now_first f.shows f.kept f.sound f.moment f.left_since met.only_now met.earlier
    folder folder first store.journal.events.items c.requires.saved
    (stays_found f.shows f.kept f.sound f.moment f.left_since met.only_now first folder
    store.journal (map part_in store.blocks.items) c.requires.found c.requires.first)

pub returns-in_default-clause-foreign : goal.returns-in_default-clause-foreign
returns-in_default-clause-foreign g c =
    let f = g.F.Folder in
    foreign_rests f.shows f.kept c.args.found.folder

-- where the journal does not go on

pub returns-in-Err-clause-any_moment : goal.returns-in-Err-clause-any_moment
returns-in-Err-clause-any_moment g c =
    let f = g.F.Folder in
    let store = c.args.found.store in
    let first = g.N.Beginning.first in
    finds_all f.moment f.left_since c.args.found.folder c.in-Err.folder first
    store.journal.events.items (λ v. (v ≡ first.world) ⊎ (v ≡ world_of c.args.next.now))
    c.requires.saved (inl refl)
    (c.in-Err.ensures.any_moment (map part_in store.blocks.items) c.requires.found
    c.requires.first)

pub returns-in-Err-clause-stays : goal.returns-in-Err-clause-stays
returns-in-Err-clause-stays g c unless =
    let f = g.F.Folder in
    let met = g.met.F.Folder in
    let store = c.args.found.store in
    now_first f.shows f.kept f.sound f.moment f.left_since met.only_now met.earlier
    c.args.found.folder c.in-Err.folder g.N.Beginning.first store.journal.events.items
    c.requires.saved
    (c.in-Err.ensures.any_moment (map part_in store.blocks.items) c.requires.found
    c.requires.first)

-- where it does

pub returns-in-Ok-replace_store-clause-any_moment : goal.returns-in-Ok-replace_store-clause-any_moment
returns-in-Ok-replace_store-clause-any_moment g c =
    let f = g.F.Folder in
    let store = c.args.found.store in
    let first = g.N.Beginning.first in
    replaced f.moment f.left_since c.args.found.folder
    c.in-Ok-resume.journal.events.journal.medium.folder c.in-Ok-replace_store.replaced.folder first
    (world_of c.args.next.now) store.journal.events.items c.requires.saved
    (c.in-Ok-resume.ensures.any_moment (map part_in store.blocks.items) c.requires.found
    c.requires.first) c.in-Ok-replace_store.ensures.any_moment

pub returns-clause-any_moment : goal.returns-clause-any_moment
returns-clause-any_moment g c =
    let f = g.F.Folder in
    let store = c.args.found.store in
    let first = g.N.Beginning.first in
    replaced f.moment f.left_since c.args.found.folder
    c.in-Ok-resume.journal.events.journal.medium.folder c.in-Err-replace_store.folder first
    (world_of c.args.next.now) store.journal.events.items c.requires.saved
    (c.in-Ok-resume.ensures.any_moment (map part_in store.blocks.items) c.requires.found
    c.requires.first) c.in-Err-replace_store.ensures.any_moment

pub returns-clause-stays : goal.returns-clause-stays
returns-clause-stays g c unless =
    c.in-Err-replace_store.ensures.stays
    (λ e. unless (ap (λ (x : RollFault). rolled x) e))

pub returns-in-Err-clause-foreign : goal.returns-in-Err-clause-foreign
returns-in-Err-clause-foreign g c =
    let f = g.F.Folder in
    foreign_beside f.shows f.kept c.args.found.folder c.in-Err.folder c.in-Err.ensures.others

pub returns-in-Ok-replace_store-clause-foreign : goal.returns-in-Ok-replace_store-clause-foreign
returns-in-Ok-replace_store-clause-foreign g c =
    let f = g.F.Folder in
    foreign_then f.shows f.kept c.args.found.folder c.in-Ok-resume.journal.events.journal.medium.folder
    c.in-Ok-replace_store.replaced.folder
    (foreign_beside f.shows f.kept c.args.found.folder c.in-Ok-resume.journal.events.journal.medium.folder
    c.in-Ok-resume.ensures.others) c.in-Ok-replace_store.ensures.foreign

pub returns-clause-foreign : goal.returns-clause-foreign
returns-clause-foreign g c =
    let f = g.F.Folder in
    foreign_then f.shows f.kept c.args.found.folder c.in-Ok-resume.journal.events.journal.medium.folder
    c.in-Err-replace_store.folder
    (foreign_beside f.shows f.kept c.args.found.folder c.in-Ok-resume.journal.events.journal.medium.folder
    c.in-Ok-resume.ensures.others) c.in-Err-replace_store.ensures.foreign

pub returns-in-Ok-replace_store-clause-says : goal.returns-in-Ok-replace_store-clause-says
returns-in-Ok-replace_store-clause-says g c = (
  g.N.Beginning.first.values,
  c.in-Ok-replace_store.replaced.places.items,
  c.in-Ok-replace_store.ensures.says,
)

pub returns-in-Ok-replace_store-clause-numbers : goal.returns-in-Ok-replace_store-clause-numbers
returns-in-Ok-replace_store-clause-numbers g c =
    let places = c.in-Ok-replace_store.replaced.places.items in (
      g.N.Beginning.first.values,
      places,
      subst (λ (held : List Place). AreAbove held places) c.places.ensures
          c.in-Ok-replace_store.ensures.numbers,
      c.in-Ok-replace_store.ensures.says,
    )

pub returns-in_default-clause-says_stays : goal.returns-in_default-clause-says_stays
returns-in_default-clause-says_stays g c says unless =
    let f = g.F.Folder in
    let met = g.met.F.Folder in
    let store = c.args.found.store in
    found_says f.shows f.kept f.sound f.moment f.left_since met.only_now met.earlier c.args.found.folder
    store.journal (map part_in store.blocks.items) c.requires.found says

pub returns-in-Err-clause-says_stays : goal.returns-in-Err-clause-says_stays
returns-in-Err-clause-says_stays g c says unless =
    let f = g.F.Folder in
    let met = g.met.F.Folder in
    let store = c.args.found.store in
    let head = store.journal.head in
    let parts = map part_in store.blocks.items in
    left_says f.shows f.kept f.sound f.moment f.left_since met.only_now met.earlier head parts
    store.journal.events.items c.args.found.folder c.in-Err.folder
    (c.in-Err.ensures.leaves parts c.requires.found)
    (says_on f.shows f.kept head.values head.places c.args.found.folder c.in-Err.folder
    (λ files among there. there_beside f.shows f.kept head.places files c.args.found.folder
    c.in-Err.folder c.in-Err.ensures.others among there) says)

pub returns-clause-says_stays : goal.returns-clause-says_stays
returns-clause-says_stays g c says unless =
    let f = g.F.Folder in
    let head = c.args.found.store.journal.head in
    let mid = c.in-Ok-resume.journal.events.journal.medium.folder in
    c.in-Err-replace_store.ensures.says_stays
    (subst₂ (λ (v : Values) (ps : List Place). EachSays f.shows f.kept v ps mid)
    (sym (ap (λ (x : Origin). x.values) c.requires.first)) (sym c.places.ensures)
    (says_on f.shows f.kept head.values head.places c.args.found.folder mid
    (λ files among there. there_beside f.shows f.kept head.places files c.args.found.folder mid
    c.in-Ok-resume.ensures.others among there) says))
    (λ e. unless (ap (λ (x : RollFault). rolled x) e))

-- what a start takes

pub returns-in_default-clause-starts : goal.returns-in_default-clause-starts
returns-in_default-clause-starts g c may =
    let f = g.F.Folder in
    let met = g.met.F.Folder in
    let store = c.args.found.store in
    found_starts f.shows f.kept f.sound f.moment f.left_since met.only_now met.earlier
    c.args.found.folder store.journal (map part_in store.blocks.items) c.requires.found may

pub returns-in-Err-clause-starts : goal.returns-in-Err-clause-starts
returns-in-Err-clause-starts g c may =
    let f = g.F.Folder in
    let store = c.args.found.store in
    let parts = map part_in store.blocks.items in
    starts_of f.moment f.left_since store.journal.head parts store.journal.events.items
    c.args.found.folder c.in-Err.folder (c.in-Err.ensures.leaves parts c.requires.found) may

pub returns-in-Ok-replace_store-clause-starts : goal.returns-in-Ok-replace_store-clause-starts
returns-in-Ok-replace_store-clause-starts g c may =
    let f = g.F.Folder in
    let first = g.N.Beginning.first in
    let store = c.args.found.store in
    let head = store.journal.head in
    let parts = map part_in store.blocks.items in
    let events = store.journal.events.items in
    let j = c.in-Ok-resume.journal.events.journal in
    starts_on f.moment f.left_since c.args.found.folder j.medium.folder c.in-Ok-replace_store.replaced.folder
    (starts_of f.moment f.left_since head parts events c.args.found.folder j.medium.folder
    (c.in-Ok-resume.ensures.leaves parts c.requires.found) may)
    (c.in-Ok-replace_store.ensures.starts head parts events
    (subst (λ (es : List Event). HoldsThese f.shows f.kept f.sound f.moment f.left_since first j.medium
    j.len j.closed es head parts events) c.requires.saved
    (c.in-Ok-resume.ensures.head parts c.requires.found c.requires.first)) (sym c.places.ensures) may)

pub returns-clause-starts : goal.returns-clause-starts
returns-clause-starts g c may =
    let f = g.F.Folder in
    let first = g.N.Beginning.first in
    let store = c.args.found.store in
    let head = store.journal.head in
    let parts = map part_in store.blocks.items in
    let events = store.journal.events.items in
    let j = c.in-Ok-resume.journal.events.journal in
    starts_on f.moment f.left_since c.args.found.folder j.medium.folder c.in-Err-replace_store.folder
    (starts_of f.moment f.left_since head parts events c.args.found.folder j.medium.folder
    (c.in-Ok-resume.ensures.leaves parts c.requires.found) may)
    (c.in-Err-replace_store.ensures.starts head parts events
    (subst (λ (es : List Event). HoldsThese f.shows f.kept f.sound f.moment f.left_since first j.medium
    j.len j.closed es head parts events) c.requires.saved
    (c.in-Ok-resume.ensures.head parts c.requires.found c.requires.first)) (sym c.places.ensures) may)
