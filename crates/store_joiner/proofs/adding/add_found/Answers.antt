use Rattle.std.proofs.Common.{◌≡◌, inl, inr, map, refl, rules}
use Rattle.head.specs.Blocks.{part_in}
use Rattle.head.specs.Heads.{world_of}
use Rattle.store_folder.specs.States.{origin_of, started}
use Rattle.store_joiner.specs.Adds.{with_beneath}
use Rattle.store_joiner.specs.Stores.{IsAddedTo}
use Rattle.store_joiner.proofs.Stores.{either_so, finds_then, if_both, if_err, match_so, means_so}
use Rattle.store_folder.proofs.Starts.{stays_found}
use Rattle.store_joiner.proofs.Stores.{stays, stays_now, then_finds}
use Rattle.data_folder.proofs.Foreign.{foreign_rests, foreign_then}
use Rattle.store_joiner.proofs.Says.{found_says, numbered}
use Rattle.store_joiner.proofs.Starting.{each_starts, found_starts}
use Rattle.store_joiner.proofs.adding.add_found.Goals as goal

pub returns-in-Ok-clause-any_moment : goal.returns-in-Ok-clause-any_moment
returns-in-Ok-clause-any_moment g c tells =
    let f = g.F.Folder in
    let o = c.args.opening.now in
    let s = c.args.found.store in
    let first = origin_of s.journal.head (map part_in s.blocks.items) in
    let x = c.in-Ok.saved in
    let head = x.store.journal.head in
    let parts = map part_in x.store.blocks.items in
    let w = world_of (started head parts) in
    let P = IsAddedTo c.args.values o.blocks o.floor first in
    let means : s.journal.head.values ≡ c.args.values = search rules in
    match_so c.add_saved.result _ _ _ _
    (λ y leaves. then_finds f.moment f.left_since c.args.found.folder x.folder y.1 first head parts
    s.journal.events.items P c.in-Ok.ensures.any_moment (c.in-Ok.ensures.after tells)
    (either_so f.moment f.left_since x.folder y.1 (origin_of head parts)
    (with_beneath o.blocks o.floor w) (P w) (inl refl) (inr (means, refl)) leaves))
    (λ e leaves. then_finds f.moment f.left_since c.args.found.folder x.folder e.1 first head parts
    s.journal.events.items P c.in-Ok.ensures.any_moment (c.in-Ok.ensures.after tells)
    (either_so f.moment f.left_since x.folder e.1 (origin_of head parts)
    (with_beneath o.blocks o.floor w) (P w) (inl refl) (inr (means, refl)) leaves))
    c.add_saved.ensures.any_moment

pub returns-in-Ok-clause-finds : goal.returns-in-Ok-clause-finds
returns-in-Ok-clause-finds g c tells =
    let f = g.F.Folder in
    let x = c.in-Ok.saved in
    let w = world_of (started x.store.journal.head (map part_in x.store.blocks.items)) in
    let after = c.in-Ok.ensures.after tells in
    if_both c.add_saved.result _ _ _
    (λ y counted finds. (
      w,
      after.world,
      counted,
      means_so f.moment f.left_since y.1
          (with_beneath c.args.opening.now.blocks c.args.opening.now.floor w)
          c.args.found.store.journal.head.values x.store.journal.head.values after.values finds,
    ))
    c.add_saved.ensures.counted c.add_saved.ensures.finds

pub returns-in-Ok-clause-stays : goal.returns-in-Ok-clause-stays
returns-in-Ok-clause-stays g c tells =
    let f = g.F.Folder in
    let met = g.met.F.Folder in
    let s = c.args.found.store in
    let first = origin_of s.journal.head (map part_in s.blocks.items) in
    let x = c.in-Ok.saved in
    let head = x.store.journal.head in
    let parts = map part_in x.store.blocks.items in
    if_err c.add_saved.result _ _
    (λ e found unless. finds_then f.shows f.kept f.sound f.moment f.left_since met.only_now
    met.earlier e.1 first head parts s.journal.events.items (c.in-Ok.ensures.after tells) (found unless))
    c.add_saved.ensures.stays

pub returns-in-Ok-clause-foreign : goal.returns-in-Ok-clause-foreign
returns-in-Ok-clause-foreign g c =
    let f = g.F.Folder in
    match_so c.add_saved.result _ _ _ _
    (λ y k. foreign_then f.shows f.kept c.args.found.folder c.in-Ok.saved.folder y.1
    c.in-Ok.ensures.foreign k)
    (λ e k. foreign_then f.shows f.kept c.args.found.folder c.in-Ok.saved.folder e.1
    c.in-Ok.ensures.foreign k) c.add_saved.ensures.foreign

-- the values mean something else

pub returns-then-not-has_values-clause-any_moment : goal.returns-then-not-has_values-clause-any_moment
returns-then-not-has_values-clause-any_moment g c tells =
    let f = g.F.Folder in
    let s = c.args.found.store in
    let parts = map part_in s.blocks.items in
    stays f.moment f.left_since c.args.found.folder c.args.found.folder (origin_of s.journal.head parts)
    s.journal.events.items
    (IsAddedTo c.args.values c.args.opening.now.blocks c.args.opening.now.floor
    (origin_of s.journal.head parts))
    (stays_found f.shows f.kept f.sound f.moment f.left_since g.met.F.Folder.only_now
    (origin_of s.journal.head parts) c.args.found.folder s.journal parts c.requires.found refl)

pub returns-then-not-has_values-clause-stays : goal.returns-then-not-has_values-clause-stays
returns-then-not-has_values-clause-stays g c tells unless =
    let f = g.F.Folder in
    let met = g.met.F.Folder in
    let s = c.args.found.store in
    let parts = map part_in s.blocks.items in
    stays_now f.shows f.kept f.sound f.moment f.left_since met.only_now met.earlier
    c.args.found.folder c.args.found.folder (origin_of s.journal.head parts) s.journal.events.items
    (stays_found f.shows f.kept f.sound f.moment f.left_since met.only_now
    (origin_of s.journal.head parts) c.args.found.folder s.journal parts c.requires.found refl)

pub returns-then-not-has_values-clause-foreign : goal.returns-then-not-has_values-clause-foreign
returns-then-not-has_values-clause-foreign g c =
    let f = g.F.Folder in
    foreign_rests f.shows f.kept c.args.found.folder

-- what the meta.json of its blocks says

pub returns-in-Ok-clause-says_stays : goal.returns-in-Ok-clause-says_stays
returns-in-Ok-clause-says_stays g c tells says =
    c.add_saved.ensures.says_stays (c.in-Ok.ensures.says tells says)

pub returns-in-Err-clause-says_stays : goal.returns-in-Err-clause-says_stays
returns-in-Err-clause-says_stays g c tells says unless = c.in-Err.ensures.says_stays says unless

pub returns-then-not-has_values-clause-says_stays : goal.returns-then-not-has_values-clause-says_stays
returns-then-not-has_values-clause-says_stays g c tells says unless =
    let f = g.F.Folder in
    let met = g.met.F.Folder in
    let store = c.args.found.store in
    found_says f.shows f.kept f.sound f.moment f.left_since met.only_now met.earlier c.args.found.folder
    store.journal (map part_in store.blocks.items) c.requires.found says

-- what a start takes

pub returns-in-Ok-clause-starts : goal.returns-in-Ok-clause-starts
returns-in-Ok-clause-starts g c tells may =
    let f = g.F.Folder in
    each_starts f.moment f.left_since c.add_saved.result (λ y. y.1) (λ e. e.1) c.args.found.folder
    c.in-Ok.saved.folder (c.in-Ok.ensures.starts may)
    (c.add_saved.ensures.starts (c.in-Ok.ensures.may tells (λ none. may)))

pub returns-in-Err-clause-starts : goal.returns-in-Err-clause-starts
returns-in-Err-clause-starts g c tells may = c.in-Err.ensures.starts may

pub returns-then-not-has_values-clause-starts : goal.returns-then-not-has_values-clause-starts
returns-then-not-has_values-clause-starts g c tells may =
    let f = g.F.Folder in
    let met = g.met.F.Folder in
    let store = c.args.found.store in
    found_starts f.shows f.kept f.sound f.moment f.left_since met.only_now met.earlier
    c.args.found.folder store.journal (map part_in store.blocks.items) c.requires.found may

-- what was found was not saved

pub returns-in-Err-clause-any_moment : goal.returns-in-Err-clause-any_moment
returns-in-Err-clause-any_moment g c tells =
    let f = g.F.Folder in
    let s = c.args.found.store in
    stays f.moment f.left_since c.args.found.folder c.in-Err.fault.1
    (origin_of s.journal.head (map part_in s.blocks.items)) s.journal.events.items
    (IsAddedTo c.args.values c.args.opening.now.blocks c.args.opening.now.floor
    (origin_of s.journal.head (map part_in s.blocks.items))) c.in-Err.ensures.any_moment

-- where the blocks lie

pub returns-in-Ok-clause-numbers : goal.returns-in-Ok-clause-numbers
returns-in-Ok-clause-numbers g c tells =
    let f = g.F.Folder in
    let held = c.args.found.store.journal.head.places in
    let x = c.in-Ok.saved in
    let parts = map part_in x.store.blocks.items in
    if_both c.add_saved.result _ _ _
    (λ y counted above. (
      (world_of (started x.store.journal.head parts)).blocks,
      counted,
      numbered f.shows f.kept f.sound f.moment f.left_since held x.store.journal.head parts x.folder
          y.1 (c.in-Ok.ensures.numbers tells) c.in-Ok.ensures.found.blocks above,
    )) c.add_saved.ensures.counted c.add_saved.ensures.numbers
