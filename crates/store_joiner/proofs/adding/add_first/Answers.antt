use Rattle.std.proofs.Common.{List, length, map, subst}
use Rattle.block_folder.specs.declared.values.Values.TheVariants.{Whole}
use Rattle.data_folder.proofs.Foreign.{foreign_rests, foreign_then}
use Rattle.data_folder.proofs.Moments.{untouched}
use Rattle.head.specs.Blocks.{part_in}
use Rattle.head_record.specs.Saved.{Place}
use Rattle.store_folder.specs.Origins.{beginning}
use Rattle.store_folder.specs.States.{origin_of}
use Rattle.store_joiner.specs.Adds.{with_beneath}
use Rattle.store_joiner.specs.Stores.{IsAddedTo, IsSame, SaysAdded}
use Rattle.store_joiner.proofs.Changing.{counts_first, finds_first, first_changed, first_rests}
use Rattle.store_joiner.proofs.Changing.{first_same, none_left, origin_again}
use Rattle.store_joiner.proofs.Stores.{if_err, if_ok, match_so, now_in}
use Rattle.store_joiner.proofs.Starting.{each_starts, none_starts}
use Rattle.store_joiner.proofs.adding.add_first.Goals as goal

pub returns-in-Ok-clause-any_moment : goal.returns-in-Ok-clause-any_moment
returns-in-Ok-clause-any_moment g c tells =
    let f = g.F.Folder in
    let o = c.args.opening.now in
    let x = c.in-Ok.found in
    let head = x.store.journal.head in
    let parts = map part_in x.store.blocks.items in
    let is = origin_again (beginning Whole) head parts (c.in-Ok.ensures.after tells) in
    match_so c.add_found.result _ _ _ _
    (λ y leaves. first_changed f.moment f.left_since c.args.folder x.folder y.1
    (IsAddedTo c.args.values o.blocks o.floor) (origin_of head parts) x.store.journal.events.items
    c.in-Ok.ensures.any_moment is c.in-Ok.ensures.saved leaves)
    (λ e leaves. first_changed f.moment f.left_since c.args.folder x.folder e.1
    (IsAddedTo c.args.values o.blocks o.floor) (origin_of head parts) x.store.journal.events.items
    c.in-Ok.ensures.any_moment is c.in-Ok.ensures.saved leaves)
    (c.add_found.ensures.any_moment tells)

pub returns-in-Ok-clause-finds : goal.returns-in-Ok-clause-finds
returns-in-Ok-clause-finds g c tells =
    let f = g.F.Folder in
    let o = c.args.opening.now in
    let x = c.in-Ok.found in
    let head = x.store.journal.head in
    let parts = map part_in x.store.blocks.items in
    let is = origin_again (beginning Whole) head parts (c.in-Ok.ensures.after tells) in
    if_ok c.add_found.result _ _
    (λ y z. (
      counts_first (origin_of head parts) x.store.journal.events.items z.0 y.0 (length o.blocks) is
          c.in-Ok.ensures.saved z.1 z.2,
      finds_first f.moment f.left_since y.1 (with_beneath o.blocks o.floor) (origin_of head parts)
          x.store.journal.events.items z.0 is c.in-Ok.ensures.saved z.1 z.3,
    ))
    (c.add_found.ensures.finds tells)

pub returns-in-Ok-clause-stays : goal.returns-in-Ok-clause-stays
returns-in-Ok-clause-stays g c tells =
    let f = g.F.Folder in
    let x = c.in-Ok.found in
    let head = x.store.journal.head in
    let parts = map part_in x.store.blocks.items in
    let is = origin_again (beginning Whole) head parts (c.in-Ok.ensures.after tells) in
    if_err c.add_found.result _ _
    (λ e stays unless. first_same f.moment f.left_since e.1 (origin_of head parts)
    x.store.journal.events.items is c.in-Ok.ensures.saved (stays unless))
    (c.add_found.ensures.stays tells)

pub returns-in-Err-clause-stays : goal.returns-in-Err-clause-stays
returns-in-Err-clause-stays g c tells unless =
    let f = g.F.Folder in
    let met = g.met.F.Folder in
    let old = c.args.folder in
    now_in f.shows f.kept f.sound f.moment f.left_since met.only_now met.earlier old c.in-Err.fault.1 _
    (first_rests f.moment f.left_since old c.in-Err.fault.1 IsSame c.in-Err.ensures.any_moment)

pub returns-in-Ok-clause-blocks : goal.returns-in-Ok-clause-blocks
returns-in-Ok-clause-blocks g c has = absurd (c.in-Ok.ensures.blocks has)

pub returns-in-Ok-clause-foreign : goal.returns-in-Ok-clause-foreign
returns-in-Ok-clause-foreign g c =
    let f = g.F.Folder in
    match_so c.add_found.result _ _ _ _
    (λ y k. foreign_then f.shows f.kept c.args.folder c.in-Ok.found.folder y.1
    c.in-Ok.ensures.foreign k)
    (λ e k. foreign_then f.shows f.kept c.args.folder c.in-Ok.found.folder e.1
    c.in-Ok.ensures.foreign k) c.add_found.ensures.foreign

-- the values mean something else

pub returns-then-not-is_same-clause-any_moment : goal.returns-then-not-is_same-clause-any_moment
returns-then-not-is_same-clause-any_moment g c tells =
    let f = g.F.Folder in
    let old = c.args.folder in
    first_rests f.moment f.left_since old old
    (IsAddedTo c.args.values c.args.opening.now.blocks c.args.opening.now.floor (beginning Whole))
    (none_left f.shows f.kept f.moment f.left_since g.met.F.Folder.only_now old old c.requires.none.0
    c.requires.none.1 (untouched f.shows f.kept f.moment f.left_since old))

pub returns-then-not-is_same-clause-stays : goal.returns-then-not-is_same-clause-stays
returns-then-not-is_same-clause-stays g c tells unless =
    let f = g.F.Folder in
    let met = g.met.F.Folder in
    let old = c.args.folder in
    now_in f.shows f.kept f.sound f.moment f.left_since met.only_now met.earlier old old _
    (first_rests f.moment f.left_since old old IsSame
    (none_left f.shows f.kept f.moment f.left_since met.only_now old old c.requires.none.0
    c.requires.none.1 (untouched f.shows f.kept f.moment f.left_since old)))

pub returns-then-not-is_same-clause-blocks : goal.returns-then-not-is_same-clause-blocks
returns-then-not-is_same-clause-blocks g c has =
    let f = g.F.Folder in
    untouched f.shows f.kept f.moment f.left_since c.args.folder

pub returns-then-not-is_same-clause-foreign : goal.returns-then-not-is_same-clause-foreign
returns-then-not-is_same-clause-foreign g c =
    let f = g.F.Folder in
    foreign_rests f.shows f.kept c.args.folder

-- what a start takes

pub returns-in-Ok-clause-starts : goal.returns-in-Ok-clause-starts
returns-in-Ok-clause-starts g c tells =
    let f = g.F.Folder in
    each_starts f.moment f.left_since c.add_found.result (λ y. y.1) (λ e. e.1) c.args.folder
    c.in-Ok.found.folder c.in-Ok.ensures.starts
    (c.add_found.ensures.starts tells (c.in-Ok.ensures.may tells))

pub returns-in-Err-clause-starts : goal.returns-in-Err-clause-starts
returns-in-Err-clause-starts g c tells = c.in-Err.ensures.starts

pub returns-then-not-is_same-clause-starts : goal.returns-then-not-is_same-clause-starts
returns-then-not-is_same-clause-starts g c tells =
    let f = g.F.Folder in
    let old = c.args.folder in
    none_starts f.shows f.kept f.moment f.left_since g.met.F.Folder.only_now old old c.requires.none.0
    c.requires.none.1 (untouched f.shows f.kept f.moment f.left_since old)

-- where the blocks lie

pub returns-in-Ok-clause-numbers : goal.returns-in-Ok-clause-numbers
returns-in-Ok-clause-numbers g c tells =
    let f = g.F.Folder in
    let added = length c.args.opening.now.blocks in
    if_ok c.add_found.result _ _
    (λ x says. subst (λ (places : List Place). SaysAdded f.shows f.kept places added x.0 x.1)
    (c.in-Ok.ensures.fresh tells) says) (c.add_found.ensures.numbers tells)
