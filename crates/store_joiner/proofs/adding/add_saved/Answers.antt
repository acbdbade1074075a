use Rattle.std.proofs.Common.{◌≡◌, ◌⊎◌, ap, inl, map, refl, sym, ◌∙◌}
use Rattle.head.specs.Blocks.{part_in}
use Rattle.head.specs.Heads.{world_of}
use Rattle.head.specs.Worlds.{World}
use Rattle.store_folder.specs.Origins.{Origin}
use Rattle.store_folder.proofs.Starts.{stays_found}
use Rattle.store_joiner.specs.Adds.{with_beneath}
use Rattle.store_joiner.specs.Finds.{other_of}
use Rattle.store_joiner.proofs.Adds.{counted}
use Rattle.store_joiner.proofs.Stores.{finds_all, found_as, now_first}
use Rattle.data_folder.proofs.Foreign.{foreign_rests}
use Rattle.store_joiner.proofs.Says.{found_says}
use Rattle.store_joiner.proofs.Starting.{found_starts}
use Rattle.store_joiner.proofs.adding.add_saved.Goals as goal

-- no snapshot was made

pub returns-in-Err-clause-any_moment : goal.returns-in-Err-clause-any_moment
returns-in-Err-clause-any_moment g c =
    let f = g.F.Folder in
    let s = c.args.found.store in
    let o = c.args.opening.now in
    let first = g.N.Beginning.first in
    finds_all f.moment f.left_since c.args.found.folder c.args.found.folder first
    s.journal.events.items
    (λ (v : World). (v ≡ first.world) ⊎ (v ≡ with_beneath o.blocks o.floor first.world))
    c.requires.saved
    (inl refl)
    (stays_found f.shows f.kept f.sound f.moment f.left_since g.met.F.Folder.only_now first
    c.args.found.folder s.journal (map part_in s.blocks.items) c.requires.found c.requires.first)

pub returns-in-Err-clause-stays : goal.returns-in-Err-clause-stays
returns-in-Err-clause-stays g c unless =
    let f = g.F.Folder in
    let met = g.met.F.Folder in
    let s = c.args.found.store in
    let first = g.N.Beginning.first in
    now_first f.shows f.kept f.sound f.moment f.left_since met.only_now met.earlier
    c.args.found.folder c.args.found.folder first s.journal.events.items c.requires.saved
    (stays_found f.shows f.kept f.sound f.moment f.left_since met.only_now first
    c.args.found.folder s.journal (map part_in s.blocks.items) c.requires.found c.requires.first)

pub returns-in-Ok-replace-clause-finds : goal.returns-in-Ok-replace-clause-finds
returns-in-Ok-replace-clause-finds g c =
    let f = g.F.Folder in
    let o = c.args.opening.now in
    found_as f.moment f.left_since c.in-Ok-replace.folder
    (other_of g.N.Beginning.first (world_of c.in-Ok.next))
    (with_beneath o.blocks o.floor g.N.Beginning.first.world)
    (c.in-Ok.ensures.world
    ∙ ap (λ (x : Origin). with_beneath o.blocks o.floor x.world) (sym c.requires.first))
    c.in-Ok-replace.ensures.finds

pub returns-in-Err-clause-foreign : goal.returns-in-Err-clause-foreign
returns-in-Err-clause-foreign g c =
    let f = g.F.Folder in
    foreign_rests f.shows f.kept c.args.found.folder

pub returns-in-Ok-replace-clause-counted : goal.returns-in-Ok-replace-clause-counted
returns-in-Ok-replace-clause-counted g c =
    let s = c.args.found.store in
    let o = c.args.opening.now in
    counted o.blocks (map part_in s.blocks.items) o.floor g.N.Beginning.first s.journal.head
    c.in-Ok.next c.count_of-total.result c.count_of-total.ensures c.in-Ok.ensures.world c.requires.first

-- what the meta.json of its blocks says

pub returns-in-Err-clause-says_stays : goal.returns-in-Err-clause-says_stays
returns-in-Err-clause-says_stays g c says unless =
    let f = g.F.Folder in
    let met = g.met.F.Folder in
    let store = c.args.found.store in
    found_says f.shows f.kept f.sound f.moment f.left_since met.only_now met.earlier c.args.found.folder
    store.journal (map part_in store.blocks.items) c.requires.found says

pub returns-clause-says_stays : goal.returns-clause-says_stays
returns-clause-says_stays g c says unless = c.in-Err-replace.ensures.says_stays says unless

-- what a start takes

pub returns-in-Err-clause-starts : goal.returns-in-Err-clause-starts
returns-in-Err-clause-starts g c may =
    let f = g.F.Folder in
    let met = g.met.F.Folder in
    let store = c.args.found.store in
    found_starts f.shows f.kept f.sound f.moment f.left_since met.only_now met.earlier
    c.args.found.folder store.journal (map part_in store.blocks.items) c.requires.found may

pub returns-in-Ok-replace-clause-starts : goal.returns-in-Ok-replace-clause-starts
returns-in-Ok-replace-clause-starts g c may = c.in-Ok-replace.ensures.starts may

pub returns-clause-starts : goal.returns-clause-starts
returns-clause-starts g c may = c.in-Err-replace.ensures.starts may
