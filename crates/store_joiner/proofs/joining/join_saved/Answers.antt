use Rattle.std.proofs.Common.{◌≡◌, ℕ, ap, arith, map, refl, sym, ◌∙◌}
use Rattle.head.specs.Blocks.{part_in}
use Rattle.head.specs.Heads.{world_of}
use Rattle.store_folder.specs.Origins.{Origin}
use Rattle.store_folder.specs.States.{started}
use Rattle.store_folder.proofs.Starts.{stays_found}
use Rattle.store_joiner.specs.Finds.{other_of}
use Rattle.store_joiner.specs.Joins.{with_blocks}
use Rattle.store_joiner.specs.Stores.{IsJoinedTo}
use Rattle.store_joiner.proofs.Stores.{as_many, either_so, finds_all, found_as, found_blocks}
use Rattle.store_joiner.proofs.Stores.{joined_to, now_first}
use Rattle.data_folder.proofs.Foreign.{foreign_rests}
use Rattle.store_joiner.proofs.Says.{found_says}
use Rattle.store_joiner.proofs.Starting.{found_starts}
use Rattle.store_joiner.proofs.joining.join_saved.Goals as goal

-- no snapshot was made

pub returns-in-Err-clause-any_moment : goal.returns-in-Err-clause-any_moment
returns-in-Err-clause-any_moment g c =
    let f = g.F.Folder in
    let s = c.args.found.store in
    let first = g.N.Beginning.first in
    finds_all f.moment f.left_since c.args.found.folder c.args.found.folder first
    s.journal.events.items (IsJoinedTo first.world) c.requires.saved refl
    (stays_found f.shows f.kept f.sound f.moment f.left_since g.met.F.Folder.only_now first
    c.args.found.folder s.journal (map part_in s.blocks.items) c.requires.found c.requires.first)

pub returns-in-Err-clause-stays : goal.returns-in-Err-clause-stays
returns-in-Err-clause-stays g c unless =
    let f = g.F.Folder in
    let met = g.met.F.Folder in
    let s = c.args.found.store in
    let first = g.N.Beginning.first in
    now_first f.shows f.kept f.sound f.moment f.left_since met.only_now met.earlier
    c.args.found.folder c.args.found.folder first s.journal.events.items c.requires.saved
    (stays_found f.shows f.kept f.sound f.moment f.left_since met.only_now first
    c.args.found.folder s.journal (map part_in s.blocks.items) c.requires.found c.requires.first)

-- no fewer blocks

pub returns-in-Ok-sweep-clause-any_moment : goal.returns-in-Ok-sweep-clause-any_moment
returns-in-Ok-sweep-clause-any_moment g c =
    let f = g.F.Folder in
    let s = c.args.found.store in
    let first = g.N.Beginning.first in
    finds_all f.moment f.left_since c.args.found.folder c.in-Ok-sweep.folder first
    s.journal.events.items (IsJoinedTo first.world) c.requires.saved refl c.in-Ok-sweep.ensures.any_moment

pub returns-in-Ok-sweep-clause-before : goal.returns-in-Ok-sweep-clause-before
returns-in-Ok-sweep-clause-before g c =
    c.counts_of-counts.ensures.before
    ∙ found_blocks g.N.Beginning.first c.args.found.store.journal.head
    c.args.found.store.blocks.items c.requires.first

pub returns-in-Ok-sweep-clause-finds : goal.returns-in-Ok-sweep-clause-finds
returns-in-Ok-sweep-clause-finds g c =
    let f = g.F.Folder in
    let met = g.met.F.Folder in
    let s = c.args.found.store in
    let first = g.N.Beginning.first in
    let before = c.counts_of-counts.result.before in
    let after = c.counts_of-counts.result.after in
    let same : after ≡ before = omega (arith, c.if-after-before.true) in
    found_as f.moment f.left_since c.in-Ok-sweep.folder first (with_blocks after first.world)
    (as_many first.world after
    (same ∙ (c.counts_of-counts.ensures.before ∙ found_blocks first s.journal.head s.blocks.items
    c.requires.first)))
    (now_first f.shows f.kept f.sound f.moment f.left_since met.only_now met.earlier
    c.args.found.folder c.in-Ok-sweep.folder first s.journal.events.items c.requires.saved
    c.in-Ok-sweep.ensures.any_moment)

pub returns-then-after-before-clause-any_moment : goal.returns-then-after-before-clause-any_moment
returns-then-after-before-clause-any_moment g c =
    let f = g.F.Folder in
    let s = c.args.found.store in
    let first = g.N.Beginning.first in
    finds_all f.moment f.left_since c.args.found.folder c.in-Err-sweep.fault.1 first
    s.journal.events.items (IsJoinedTo first.world) c.requires.saved refl c.in-Err-sweep.ensures.any_moment

pub returns-then-after-before-clause-stays : goal.returns-then-after-before-clause-stays
returns-then-after-before-clause-stays g c unless =
    let f = g.F.Folder in
    let met = g.met.F.Folder in
    let s = c.args.found.store in
    now_first f.shows f.kept f.sound f.moment f.left_since met.only_now met.earlier
    c.args.found.folder c.in-Err-sweep.fault.1 g.N.Beginning.first s.journal.events.items
    c.requires.saved c.in-Err-sweep.ensures.any_moment

-- fewer

pub returns-in-Ok-replace-clause-any_moment : goal.returns-in-Ok-replace-clause-any_moment
returns-in-Ok-replace-clause-any_moment g c =
    let f = g.F.Folder in
    let first = g.N.Beginning.first in
    let next = world_of c.in-Ok.snapshot in
    either_so f.moment f.left_since c.args.found.folder c.in-Ok-replace.folder first next
    (IsJoinedTo first.world) refl (joined_to first.world _ next _ (ap (λ (x : Origin). x.world) c.requires.first)
    c.in-Ok.ensures.world)
    c.in-Ok-replace.ensures.any_moment

pub returns-in-Ok-replace-clause-before : goal.returns-in-Ok-replace-clause-before
returns-in-Ok-replace-clause-before g c =
    c.counts_of-counts.ensures.before
    ∙ found_blocks g.N.Beginning.first c.args.found.store.journal.head
    c.args.found.store.blocks.items c.requires.first

pub returns-in-Ok-replace-clause-finds : goal.returns-in-Ok-replace-clause-finds
returns-in-Ok-replace-clause-finds g c =
    let f = g.F.Folder in
    let s = c.args.found.store in
    let w = world_of (started s.journal.head (map part_in s.blocks.items)) in
    let after = c.counts_of-counts.result.after in
    found_as f.moment f.left_since c.in-Ok-replace.folder
    (other_of g.N.Beginning.first (world_of c.in-Ok.snapshot))
    (with_blocks after g.N.Beginning.first.world)
    (c.in-Ok.ensures.world
    ∙ (ap (λ (k : ℕ). with_blocks k w) (sym c.counts_of-counts.ensures.after)
    ∙ ap (λ (x : Origin). with_blocks after x.world) (sym c.requires.first)))
    c.in-Ok-replace.ensures.finds

pub returns-clause-any_moment : goal.returns-clause-any_moment
returns-clause-any_moment g c =
    let f = g.F.Folder in
    let first = g.N.Beginning.first in
    let next = world_of c.in-Ok.snapshot in
    either_so f.moment f.left_since c.args.found.folder c.in-Err-replace.fault.1 first next
    (IsJoinedTo first.world) refl (joined_to first.world _ next _ (ap (λ (x : Origin). x.world) c.requires.first)
    c.in-Ok.ensures.world)
    c.in-Err-replace.ensures.any_moment

pub returns-in-Err-clause-foreign : goal.returns-in-Err-clause-foreign
returns-in-Err-clause-foreign g c =
    let f = g.F.Folder in
    foreign_rests f.shows f.kept c.args.found.folder

pub returns-in-Ok-sweep-clause-says : goal.returns-in-Ok-sweep-clause-says
returns-in-Ok-sweep-clause-says g c fewer =
    absurd (fewer (omega (arith, c.if-after-before.true)))

pub returns-in-Ok-replace-clause-says : goal.returns-in-Ok-replace-clause-says
returns-in-Ok-replace-clause-says g c fewer = c.in-Ok-replace.ensures.says

pub returns-in-Ok-sweep-clause-says_still : goal.returns-in-Ok-sweep-clause-says_still
returns-in-Ok-sweep-clause-says_still g c says may =
    c.in-Ok-sweep.ensures.says c.requires.saved says may

pub returns-in-Ok-replace-clause-says_still : goal.returns-in-Ok-replace-clause-says_still
returns-in-Ok-replace-clause-says_still g c says may = c.in-Ok-replace.ensures.says

pub returns-in-Err-clause-says_stays : goal.returns-in-Err-clause-says_stays
returns-in-Err-clause-says_stays g c says unless =
    let f = g.F.Folder in
    let met = g.met.F.Folder in
    let store = c.args.found.store in
    found_says f.shows f.kept f.sound f.moment f.left_since met.only_now met.earlier c.args.found.folder
    store.journal (map part_in store.blocks.items) c.requires.found says

pub returns-then-after-before-clause-says_stays : goal.returns-then-after-before-clause-says_stays
returns-then-after-before-clause-says_stays g c says unless =
    c.in-Err-sweep.ensures.says_stays says

pub returns-clause-says_stays : goal.returns-clause-says_stays
returns-clause-says_stays g c says unless = c.in-Err-replace.ensures.says_stays says unless

-- what a start takes

pub returns-in-Err-clause-starts : goal.returns-in-Err-clause-starts
returns-in-Err-clause-starts g c may =
    let f = g.F.Folder in
    let met = g.met.F.Folder in
    let store = c.args.found.store in
    found_starts f.shows f.kept f.sound f.moment f.left_since met.only_now met.earlier
    c.args.found.folder store.journal (map part_in store.blocks.items) c.requires.found may

pub returns-in-Ok-sweep-clause-starts : goal.returns-in-Ok-sweep-clause-starts
returns-in-Ok-sweep-clause-starts g c may = c.in-Ok-sweep.ensures.starts may

pub returns-then-after-before-clause-starts : goal.returns-then-after-before-clause-starts
returns-then-after-before-clause-starts g c may = c.in-Err-sweep.ensures.starts may

pub returns-in-Ok-replace-clause-starts : goal.returns-in-Ok-replace-clause-starts
returns-in-Ok-replace-clause-starts g c may = c.in-Ok-replace.ensures.starts may

pub returns-clause-starts : goal.returns-clause-starts
returns-clause-starts g c may = c.in-Err-replace.ensures.starts may

-- where the blocks lie

pub returns-in-Ok-sweep-clause-numbers : goal.returns-in-Ok-sweep-clause-numbers
returns-in-Ok-sweep-clause-numbers g c fewer =
    absurd (fewer (omega (arith, c.if-after-before.true)))

pub returns-in-Ok-replace-clause-numbers : goal.returns-in-Ok-replace-clause-numbers
returns-in-Ok-replace-clause-numbers g c fewer = c.in-Ok-replace.ensures.numbers

pub returns-in-Ok-sweep-clause-rests : goal.returns-in-Ok-sweep-clause-rests
returns-in-Ok-sweep-clause-rests g c same = c.in-Ok-sweep.ensures.rests c.requires.saved

pub returns-in-Ok-replace-clause-rests : goal.returns-in-Ok-replace-clause-rests
returns-in-Ok-replace-clause-rests g c same =
    absurd (omega (arith, same, c.if-after-before.false))
