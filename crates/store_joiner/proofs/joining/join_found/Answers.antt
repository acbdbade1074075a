use Rattle.std.proofs.Common.{ℕ, map, subst, sym}
use Rattle.head.specs.Blocks.{part_in}
use Rattle.head.specs.Heads.{world_of}
use Rattle.store_folder.specs.States.{origin_of, started}
use Rattle.store_joiner.specs.Joins.{with_blocks}
use Rattle.store_joiner.specs.Stores.{IsJoinedTo, SaysNumbered, StaysNumbered}
use Rattle.store_joiner.proofs.Stores.{finds_then, if_both, if_err, match_so, means_so, stays}
use Rattle.store_joiner.proofs.Stores.{stays_now, then_finds}
use Rattle.data_folder.proofs.Foreign.{foreign_then}
use Rattle.store_joiner.proofs.Says.{numbered, numbered_still}
use Rattle.store_joiner.proofs.Starting.{each_starts}
use Rattle.store_joiner.proofs.joining.join_found.Goals as goal

pub returns-in-Ok-clause-any_moment : goal.returns-in-Ok-clause-any_moment
returns-in-Ok-clause-any_moment g c tells =
    let f = g.F.Folder in
    let s = c.args.found.store in
    let first = origin_of s.journal.head (map part_in s.blocks.items) in
    let x = c.in-Ok.saved in
    let head = x.store.journal.head in
    let parts = map part_in x.store.blocks.items in
    match_so c.join_saved.result _ _ _ _
    (λ y leaves. then_finds f.moment f.left_since c.args.found.folder x.folder y.1 first head
    parts s.journal.events.items IsJoinedTo c.in-Ok.ensures.any_moment (c.in-Ok.ensures.after tells)
    leaves)
    (λ e leaves. then_finds f.moment f.left_since c.args.found.folder x.folder e.1 first head
    parts s.journal.events.items IsJoinedTo c.in-Ok.ensures.any_moment (c.in-Ok.ensures.after tells)
    leaves) c.join_saved.ensures.any_moment

pub returns-in-Ok-clause-finds : goal.returns-in-Ok-clause-finds
returns-in-Ok-clause-finds g c tells =
    let f = g.F.Folder in
    let x = c.in-Ok.saved in
    let w = world_of (started x.store.journal.head (map part_in x.store.blocks.items)) in
    let after = c.in-Ok.ensures.after tells in
    if_both c.join_saved.result _ _ _
    (λ y before finds. (
      w,
      after.world,
      before,
      means_so f.moment f.left_since y.1 (with_blocks y.0.after w)
          c.args.found.store.journal.head.values x.store.journal.head.values after.values finds,
    ))
    c.join_saved.ensures.before c.join_saved.ensures.finds

pub returns-in-Ok-clause-stays : goal.returns-in-Ok-clause-stays
returns-in-Ok-clause-stays g c tells =
    let f = g.F.Folder in
    let met = g.met.F.Folder in
    let s = c.args.found.store in
    let first = origin_of s.journal.head (map part_in s.blocks.items) in
    let x = c.in-Ok.saved in
    let head = x.store.journal.head in
    let parts = map part_in x.store.blocks.items in
    if_err c.join_saved.result _ _
    (λ e found unless. finds_then f.shows f.kept f.sound f.moment f.left_since met.only_now
    met.earlier e.1 first head parts s.journal.events.items (c.in-Ok.ensures.after tells) (found unless))
    c.join_saved.ensures.stays

pub returns-in-Ok-clause-foreign : goal.returns-in-Ok-clause-foreign
returns-in-Ok-clause-foreign g c =
    let f = g.F.Folder in
    match_so c.join_saved.result _ _ _ _
    (λ y k. foreign_then f.shows f.kept c.args.found.folder c.in-Ok.saved.folder y.1
    c.in-Ok.ensures.foreign k)
    (λ e k. foreign_then f.shows f.kept c.args.found.folder c.in-Ok.saved.folder e.1
    c.in-Ok.ensures.foreign k) c.join_saved.ensures.foreign

pub returns-in-Ok-clause-says_still : goal.returns-in-Ok-clause-says_still
returns-in-Ok-clause-says_still g c tells says may =
    c.join_saved.ensures.says_still (c.in-Ok.ensures.says tells says) (c.in-Ok.ensures.may tells may)

pub returns-in-Ok-clause-says_stays : goal.returns-in-Ok-clause-says_stays
returns-in-Ok-clause-says_stays g c tells says =
    c.join_saved.ensures.says_stays (c.in-Ok.ensures.says tells says)

pub returns-in-Err-clause-says_stays : goal.returns-in-Err-clause-says_stays
returns-in-Err-clause-says_stays g c tells says unless = c.in-Err.ensures.says_stays says unless

-- what a start takes

pub returns-in-Ok-clause-starts : goal.returns-in-Ok-clause-starts
returns-in-Ok-clause-starts g c tells may =
    let f = g.F.Folder in
    each_starts f.moment f.left_since c.join_saved.result (λ y. y.1) (λ e. e.1) c.args.found.folder
    c.in-Ok.saved.folder (c.in-Ok.ensures.starts may)
    (c.join_saved.ensures.starts (c.in-Ok.ensures.may tells (λ none. may)))

pub returns-in-Err-clause-starts : goal.returns-in-Err-clause-starts
returns-in-Err-clause-starts g c tells may = c.in-Err.ensures.starts may

-- what was found was not saved

pub returns-in-Err-clause-any_moment : goal.returns-in-Err-clause-any_moment
returns-in-Err-clause-any_moment g c tells =
    let f = g.F.Folder in
    let s = c.args.found.store in
    stays f.moment f.left_since c.args.found.folder c.in-Err.fault.1
    (origin_of s.journal.head (map part_in s.blocks.items)) s.journal.events.items IsJoinedTo
    c.in-Err.ensures.any_moment

pub returns-in-Err-clause-stays : goal.returns-in-Err-clause-stays
returns-in-Err-clause-stays g c tells unless =
    let f = g.F.Folder in
    let met = g.met.F.Folder in
    let s = c.args.found.store in
    stays_now f.shows f.kept f.sound f.moment f.left_since met.only_now met.earlier
    c.args.found.folder c.in-Err.fault.1 (origin_of s.journal.head (map part_in s.blocks.items))
    s.journal.events.items c.in-Err.ensures.any_moment

-- where the blocks lie

pub returns-in-Ok-clause-numbers : goal.returns-in-Ok-clause-numbers
returns-in-Ok-clause-numbers g c tells =
    let f = g.F.Folder in
    let held = c.args.found.store.journal.head.places in
    let x = c.in-Ok.saved in
    if_both c.join_saved.result _ _ _
    (λ y before above fewer. subst (λ (n : ℕ). SaysNumbered f.shows f.kept held n y.1) (sym before)
    (numbered f.shows f.kept f.sound f.moment f.left_since held x.store.journal.head
    (map part_in x.store.blocks.items) x.folder y.1 (c.in-Ok.ensures.numbers tells)
    c.in-Ok.ensures.found.blocks (above fewer)))
    c.join_saved.ensures.before c.join_saved.ensures.numbers

pub returns-in-Ok-clause-numbers_still : goal.returns-in-Ok-clause-numbers_still
returns-in-Ok-clause-numbers_still g c tells =
    let f = g.F.Folder in
    let held = c.args.found.store.journal.head.places in
    let x = c.in-Ok.saved in
    if_both c.join_saved.result _ _ _
    (λ y before rests same. subst (λ (n : ℕ). StaysNumbered f.shows f.kept held n y.1) (sym before)
    (numbered_still f.shows f.kept f.sound f.moment f.left_since held x.store.journal.head
    (map part_in x.store.blocks.items) y.1 (c.in-Ok.ensures.numbers tells) (rests same)))
    c.join_saved.ensures.before c.join_saved.ensures.rests
