use Rattle.std.proofs.Common.{ap, map, subst, sym}
use Rattle.head.specs.Blocks.{part_in}
use Rattle.store_folder.specs.Holding.{HoldsAt}
use Rattle.store_folder.specs.Origins.{Origin}
use Rattle.store_folder.proofs.Rolls.{finds_on}
use Rattle.data_folder.proofs.Foreign.{foreign_beside, foreign_rests, foreign_then}
use Rattle.store_folder.proofs.Says.{says_on, there_beside}
use Rattle.store_folder.proofs.Starts.{stays_found}
use Rattle.store_joiner.proofs.Says.{found_says, left_says, swept_rests, swept_says}
use Rattle.store_joiner.proofs.Starting.{found_starts, starts_of, starts_on}
use Rattle.store_joiner.proofs.joining.sweep.Goals as goal

pub resume-requires-clause-values : goal.resume-requires-clause-values
resume-requires-clause-values g c = sym (ap (λ (x : Origin). x.values) c.requires.first)

pub sweep_blocks-requires-clause-held : goal.sweep_blocks-requires-clause-held
sweep_blocks-requires-clause-held g c =
    let f = g.F.Folder in
    let store = c.args.found.store in
    let parts = map part_in store.blocks.items in
    let j = c.in-Ok-resume.journal.events.journal in (
      store.journal.events.items,
      parts,
      subst (λ places. HoldsAt f.shows f.kept f.sound f.moment f.left_since g.N.Beginning.first
          j.medium j.len j.closed store.journal.events.items places parts) (sym c.places.ensures)
          (c.in-Ok-resume.ensures.holds parts c.requires.found c.requires.first),
    )

-- no memory was left

pub returns-in_default-clause-any_moment : goal.returns-in_default-clause-any_moment
returns-in_default-clause-any_moment g c =
    let f = g.F.Folder in
    let store = c.args.found.store in
    stays_found f.shows f.kept f.sound f.moment f.left_since g.met.F.Folder.only_now
    g.N.Beginning.first c.args.found.folder store.journal (map part_in store.blocks.items)
    c.requires.found c.requires.first

pub returns-in_default-clause-foreign : goal.returns-in_default-clause-foreign
returns-in_default-clause-foreign g c =
    let f = g.F.Folder in
    foreign_rests f.shows f.kept c.args.found.folder

pub returns-in-Err-clause-any_moment : goal.returns-in-Err-clause-any_moment
returns-in-Err-clause-any_moment g c =
    c.in-Err.ensures.any_moment (map part_in c.args.found.store.blocks.items) c.requires.found
    c.requires.first

pub returns-clause-any_moment : goal.returns-clause-any_moment
returns-clause-any_moment g c =
    let f = g.F.Folder in
    let store = c.args.found.store in
    let parts = map part_in store.blocks.items in
    let j = c.in-Ok-resume.journal.events.journal in
    finds_on f.moment f.left_since g.N.Beginning.first store.journal.events.items
    c.args.found.folder j.medium.folder c.sweep_blocks.new.self.events.journal.medium.folder
    (c.in-Ok-resume.ensures.any_moment parts c.requires.found c.requires.first)
    (c.sweep_blocks.ensures.any_moment store.journal.events.items parts
    (subst (λ places. HoldsAt f.shows f.kept f.sound f.moment f.left_since g.N.Beginning.first
    j.medium j.len j.closed store.journal.events.items places parts) (sym c.places.ensures)
    (c.in-Ok-resume.ensures.holds parts c.requires.found c.requires.first)))

pub returns-in-Err-clause-foreign : goal.returns-in-Err-clause-foreign
returns-in-Err-clause-foreign g c =
    let f = g.F.Folder in
    foreign_beside f.shows f.kept c.args.found.folder c.in-Err.folder c.in-Err.ensures.others

pub returns-clause-foreign : goal.returns-clause-foreign
returns-clause-foreign g c =
    let f = g.F.Folder in
    foreign_then f.shows f.kept c.args.found.folder
    c.in-Ok-resume.journal.events.journal.medium.folder
    c.sweep_blocks.new.self.events.journal.medium.folder
    (foreign_beside f.shows f.kept c.args.found.folder
    c.in-Ok-resume.journal.events.journal.medium.folder c.in-Ok-resume.ensures.others)
    c.sweep_blocks.ensures.foreign

pub returns-clause-rests : goal.returns-clause-rests
returns-clause-rests g c none =
    let f = g.F.Folder in
    let met = g.met.F.Folder in
    let store = c.args.found.store in
    let parts = map part_in store.blocks.items in
    let j = c.in-Ok-resume.journal.events.journal in
    let held = c.in-Ok-resume.ensures.head parts c.requires.found c.requires.first in
    swept_rests f.shows f.kept f.sound f.moment f.left_since met.only_now met.earlier
    g.N.Beginning.first j.medium j.len j.closed store.journal.events.items store.journal.head parts
    c.places.result.now c.sweep_blocks.new.self.events.journal.medium.folder held.0 held.1 held.2
    held.3 c.in-Ok-resume.ensures.open none c.places.ensures c.sweep_blocks.ensures.kept

pub returns-clause-says : goal.returns-clause-says
returns-clause-says g c none says may =
    let f = g.F.Folder in
    let met = g.met.F.Folder in
    let store = c.args.found.store in
    let parts = map part_in store.blocks.items in
    let j = c.in-Ok-resume.journal.events.journal in
    let new = c.sweep_blocks.new.self.events.journal.medium.folder in
    let held = c.in-Ok-resume.ensures.head parts c.requires.found c.requires.first in
    let head = store.journal.head in
    swept_says f.shows f.kept f.sound f.moment f.left_since met.only_now met.earlier head parts
    c.places.result.now j.medium.folder new c.places.ensures c.sweep_blocks.ensures.kept
    (swept_rests f.shows f.kept f.sound f.moment f.left_since met.only_now met.earlier
    g.N.Beginning.first j.medium j.len j.closed store.journal.events.items head parts
    c.places.result.now new held.0 held.1 held.2 held.3 c.in-Ok-resume.ensures.open none
    c.places.ensures c.sweep_blocks.ensures.kept) may
    (says_on f.shows f.kept head.values head.places c.args.found.folder j.medium.folder
    (λ files among there. there_beside f.shows f.kept head.places files c.args.found.folder
    j.medium.folder c.in-Ok-resume.ensures.others among there) says)

pub returns-in_default-clause-says_stays : goal.returns-in_default-clause-says_stays
returns-in_default-clause-says_stays g c says =
    let f = g.F.Folder in
    let met = g.met.F.Folder in
    let store = c.args.found.store in
    found_says f.shows f.kept f.sound f.moment f.left_since met.only_now met.earlier c.args.found.folder
    store.journal (map part_in store.blocks.items) c.requires.found says

pub returns-in-Err-clause-says_stays : goal.returns-in-Err-clause-says_stays
returns-in-Err-clause-says_stays g c says =
    let f = g.F.Folder in
    let met = g.met.F.Folder in
    let store = c.args.found.store in
    let head = store.journal.head in
    let parts = map part_in store.blocks.items in
    left_says f.shows f.kept f.sound f.moment f.left_since met.only_now met.earlier head parts
    store.journal.events.items c.args.found.folder c.in-Err.folder
    (c.in-Err.ensures.leaves parts c.requires.found)
    (says_on f.shows f.kept head.values head.places c.args.found.folder c.in-Err.folder
    (λ files among there. there_beside f.shows f.kept head.places files c.args.found.folder
    c.in-Err.folder c.in-Err.ensures.others among there) says)

-- what a start takes

pub returns-in_default-clause-starts : goal.returns-in_default-clause-starts
returns-in_default-clause-starts g c may =
    let f = g.F.Folder in
    let met = g.met.F.Folder in
    let store = c.args.found.store in
    found_starts f.shows f.kept f.sound f.moment f.left_since met.only_now met.earlier
    c.args.found.folder store.journal (map part_in store.blocks.items) c.requires.found may

pub returns-in-Err-clause-starts : goal.returns-in-Err-clause-starts
returns-in-Err-clause-starts g c may =
    let f = g.F.Folder in
    let store = c.args.found.store in
    let parts = map part_in store.blocks.items in
    starts_of f.moment f.left_since store.journal.head parts store.journal.events.items
    c.args.found.folder c.in-Err.folder (c.in-Err.ensures.leaves parts c.requires.found) may

pub returns-clause-starts : goal.returns-clause-starts
returns-clause-starts g c may =
    let f = g.F.Folder in
    let store = c.args.found.store in
    let head = store.journal.head in
    let parts = map part_in store.blocks.items in
    let events = store.journal.events.items in
    let mid = c.in-Ok-resume.journal.events.journal.medium.folder in
    let new = c.sweep_blocks.new.self.events.journal.medium.folder in
    starts_on f.moment f.left_since c.args.found.folder mid new
    (starts_of f.moment f.left_since head parts events c.args.found.folder mid
    (c.in-Ok-resume.ensures.leaves parts c.requires.found) may)
    (starts_of f.moment f.left_since head parts events mid new
    (c.sweep_blocks.ensures.leaves events head parts events
    (c.in-Ok-resume.ensures.head parts c.requires.found c.requires.first) (sym c.places.ensures)) may)
