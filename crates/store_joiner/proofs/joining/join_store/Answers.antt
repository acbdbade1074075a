use Rattle.std.proofs.Common.{Some, subst}
use Rattle.head.specs.Worlds.{Event}
use Rattle.data_folder.specs.Folders.{LeavesOnly}
use Rattle.std.specs.Prelude.{List, Ok, Option, Result}
use Rattle.store_folder.specs.Faults.{GivesStore, IsStoreOf}
use Rattle.store_folder.specs.Origins.{Origin}
use Rattle.store_folder.specs.Plain.{DeniesFolder}
use Rattle.store_folder.specs.States.{origin_of, started}
use Rattle.store_folder.specs.declared.error.StartError.{StartError}
use Rattle.store_folder.specs.declared.reading.FoundStore.{FoundStore}
use Rattle.store_joiner.specs.Stores.{IsJoinedHere, IsJoinedTo, StandsOrFinds, StaysNow}
use Rattle.store_joiner.proofs.Stores.{as_found, has_for, if_err, match_so, now_in, stays, stays_now}
use Rattle.store_joiner.proofs.Stores.{then_stays, untouched_finds}
use Rattle.std.proofs.Common.{◌≡◌, [], inl, inr, map, rules, subst₂, sym, ◌∙◌}
use Rattle.head.specs.Blocks.{part_in}
use Rattle.head.specs.Worlds.{replayed}
use Rattle.store_folder.specs.Starting.{nothing_saved}
use Rattle.store_folder.specs.Finding.{IsFoundStore}
use Rattle.store_joiner.specs.Finds.{FindsNow, other_of}
use Rattle.store_joiner.specs.Joins.{with_blocks}
use Rattle.data_folder.proofs.Foreign.{foreign_beside, foreign_then}
use Rattle.store_joiner.proofs.Stores.{if_ok}
use Rattle.store_joiner.proofs.Changing.{changes_found, plain_changed, plain_denied, plain_found}
use Rattle.store_joiner.proofs.Changing.{plain_rests, plain_same, some_of}
use Rattle.store_joiner.specs.Stores.{IsSame, SaysNumbered, StaysNumbered}
use Rattle.head.specs.Worlds.{World}
use Rattle.head_record.specs.Saved.{Saved}
use Rattle.head.specs.Heads.{BlockPart}
use Rattle.head.specs.Resuming.{MayStand}
use Rattle.store_folder.specs.Writing.{EachSays}
use Rattle.store_joiner.proofs.Says.{has_all, say_now, says_all}
use Rattle.block_folder.specs.declared.values.Values.TheVariants.{Whole}
use Rattle.store_folder.specs.States.{started}
use Rattle.store_folder.proofs.Standing.{nothing_stands}
use Rattle.store_joiner.proofs.Starting.{each_starts, plain_starts, plain_waits, so_and_starts}
use Rattle.store_joiner.proofs.Starting.{untouched_starts}
use Rattle.store_joiner.proofs.joining.join_store.Goals as goal

abbrev found : Option FoundStore → Result (Option FoundStore) StartError
found o = Ok o

-- a store was found

pub returns-in-Some-clause-any_moment : goal.returns-in-Some-clause-any_moment
returns-in-Some-clause-any_moment g c tells saved parts events h plain =
    let f = g.F.Folder in
    let met = g.met.F.Folder in
    let first = origin_of saved parts in
    let old = c.args.folder in
    let mid = c.open_store.new.folder in
    let is : IsStoreOf saved parts events c.in-Some.store =
    subst (λ (o : Option FoundStore). GivesStore (f.failed c.open_store.new.folder) saved parts
    events (found o)) c.in-Some.is
    (c.in-Ok.ensures.only tells h.file saved parts events h.has plain h.journal h.blocks) in
    let before = untouched_finds f.shows f.kept f.sound f.moment f.left_since met.only_now
    met.earlier first events old mid (has_for f.shows f.kept saved parts events old h)
    (c.open_store.ensures.whole tells (Some h.file) h.has.shown plain) in
    match_so c.join_found.result _ _ _ _
    (λ x leaves. then_stays f.moment f.left_since old mid x.1 first events IsJoinedTo before
    (as_found (λ (w : Origin) (es : List Event). LeavesOnly f.moment f.left_since mid x.1
    (StandsOrFinds w es IsJoinedTo)) saved parts events c.in-Some.store is leaves))
    (λ e leaves. then_stays f.moment f.left_since old mid e.1 first events IsJoinedTo before
    (as_found (λ (w : Origin) (es : List Event). LeavesOnly f.moment f.left_since mid e.1
    (StandsOrFinds w es IsJoinedTo)) saved parts events c.in-Some.store is leaves))
    (c.join_found.ensures.any_moment tells)

pub returns-in-Some-clause-stays : goal.returns-in-Some-clause-stays
returns-in-Some-clause-stays g c tells saved parts events h plain =
    let f = g.F.Folder in
    let is : IsStoreOf saved parts events c.in-Some.store =
    subst (λ (o : Option FoundStore). GivesStore (f.failed c.open_store.new.folder) saved parts
    events (found o)) c.in-Some.is
    (c.in-Ok.ensures.only tells h.file saved parts events h.has plain h.journal h.blocks) in
    if_err c.join_found.result _ _
    (λ e found unless. as_found (λ (w : Origin) (es : List Event).
    StaysNow f.moment f.left_since e.1 w es) saved parts events c.in-Some.store is
    (found unless)) (c.join_found.ensures.stays tells)

-- it was not opened

pub returns-in-Err-clause-any_moment : goal.returns-in-Err-clause-any_moment
returns-in-Err-clause-any_moment g c tells saved parts events h plain =
    let f = g.F.Folder in
    let met = g.met.F.Folder in
    let first = origin_of saved parts in
    let old = c.args.folder in
    let new = c.open_store.new.folder in
    stays f.moment f.left_since old new first events IsJoinedTo
    (untouched_finds f.shows f.kept f.sound f.moment f.left_since met.only_now met.earlier first
    events old new (has_for f.shows f.kept saved parts events old h)
    (c.open_store.ensures.whole tells (Some h.file) h.has.shown plain))

pub returns-in-Err-clause-stays : goal.returns-in-Err-clause-stays
returns-in-Err-clause-stays g c tells saved parts events h plain unless =
    let f = g.F.Folder in
    let met = g.met.F.Folder in
    let old = c.args.folder in
    let new = c.open_store.new.folder in
    stays_now f.shows f.kept f.sound f.moment f.left_since met.only_now met.earlier old new
    (origin_of saved parts) events
    (untouched_finds f.shows f.kept f.sound f.moment f.left_since met.only_now met.earlier
    (origin_of saved parts) events old new
    (has_for f.shows f.kept saved parts events old h)
    (c.open_store.ensures.whole tells (Some h.file) h.has.shown plain))

pub returns-in-Err-clause-refused : goal.returns-in-Err-clause-refused
returns-in-Err-clause-refused g c cause is =
    let f = g.F.Folder in
    let same : c.in-Err.error ≡ cause = cc in
    subst (λ (e : StartError). DeniesFolder f.shows f.kept f.failed c.open_store.new.folder e) same
    c.in-Err.ensures.refused

pub returns-in-Some-clause-foreign : goal.returns-in-Some-clause-foreign
returns-in-Some-clause-foreign g c =
    let f = g.F.Folder in
    match_so c.join_found.result _ _ _ _
    (λ y k. foreign_then f.shows f.kept c.args.folder c.open_store.new.folder y.1
    (foreign_beside f.shows f.kept c.args.folder c.open_store.new.folder c.open_store.ensures.others) k)
    (λ e k. foreign_then f.shows f.kept c.args.folder c.open_store.new.folder e.1
    (foreign_beside f.shows f.kept c.args.folder c.open_store.new.folder c.open_store.ensures.others) k)
    c.join_found.ensures.foreign

pub returns-in-Err-clause-foreign : goal.returns-in-Err-clause-foreign
returns-in-Err-clause-foreign g c =
    let f = g.F.Folder in
    foreign_beside f.shows f.kept c.args.folder c.open_store.new.folder c.open_store.ensures.others

-- what is changed is a store that was there

pub returns-in-Some-clause-safe : goal.returns-in-Some-clause-safe
returns-in-Some-clause-safe g c tells x shown other =
    let f = g.F.Folder in
    let old = c.args.folder in
    let mid = c.open_store.new.folder in
    let s = c.in-Some.store in
    let parts = map part_in s.blocks.items in
    let is : IsFoundStore f.shows f.kept s.journal parts mid = search rules in
    let before = c.open_store.ensures.whole tells x shown other in
    so_and_starts f.moment f.left_since c.join_found.result (MayStand (started s.journal.head parts))
    (λ y. y.1) (λ e. e.1) mid _ _ _ _
    (λ y leaves starts. changes_found f.shows f.kept f.moment f.left_since
    IsJoinedHere old mid y.1 s.journal parts before is leaves starts)
    (λ e leaves starts. inr (changes_found f.shows f.kept f.moment f.left_since
    IsJoinedHere old mid e.1 s.journal parts before is leaves starts))
    (c.join_found.ensures.any_moment tells) (c.join_found.ensures.starts tells)

pub returns-in-Err-clause-safe : goal.returns-in-Err-clause-safe
returns-in-Err-clause-safe g c tells x shown other =
    inl (c.open_store.ensures.whole tells x shown other)

-- a journal of events alone

pub returns-in-Some-clause-plain : goal.returns-in-Some-clause-plain
returns-in-Some-clause-plain g c tells file has plain =
    let f = g.F.Folder in
    let old = c.args.folder in
    let mid = c.open_store.new.folder in
    let s = c.in-Some.store in
    let is : IsFoundStore f.shows f.kept s.journal (map part_in s.blocks.items) mid =
    search rules in
    let found = some_of c.in-Ok.opened s _ c.in-Some.is
    (c.in-Ok.ensures.plain tells file has.shown plain) in
    let store = plain_found f.shows f.kept mid s is found.1 in
    let before = c.open_store.ensures.any_moment tells file has in
    match_so c.join_found.result _ _ _ _
    (λ y leaves. plain_changed f.moment f.left_since old mid y.1 file s
    IsJoinedHere before found.0 store leaves)
    (λ e leaves. plain_changed f.moment f.left_since old mid e.1 file s
    IsJoinedHere before found.0 store leaves)
    (c.join_found.ensures.any_moment tells)

pub returns-in-Err-clause-plain : goal.returns-in-Err-clause-plain
returns-in-Err-clause-plain g c tells file has plain =
    let f = g.F.Folder in
    plain_rests f.moment f.left_since c.args.folder c.open_store.new.folder file
    IsJoinedTo
    (c.open_store.ensures.any_moment tells file has)

pub returns-in-Some-clause-plain_stays : goal.returns-in-Some-clause-plain_stays
returns-in-Some-clause-plain_stays g c tells file has plain =
    let f = g.F.Folder in
    let mid = c.open_store.new.folder in
    let s = c.in-Some.store in
    let is : IsFoundStore f.shows f.kept s.journal (map part_in s.blocks.items) mid =
    search rules in
    let found = some_of c.in-Ok.opened s _ c.in-Some.is
    (c.in-Ok.ensures.plain tells file has.shown plain) in
    let store = plain_found f.shows f.kept mid s is found.1 in
    if_err c.join_found.result _ _
    (λ e stays unless. plain_same f.moment f.left_since e.1 file s found.0 store (stays unless))
    (c.join_found.ensures.stays tells)

pub returns-in-Err-clause-plain_stays : goal.returns-in-Err-clause-plain_stays
returns-in-Err-clause-plain_stays g c tells file has plain unless =
    let f = g.F.Folder in
    let met = g.met.F.Folder in
    let old = c.args.folder in
    let new = c.open_store.new.folder in
    now_in f.shows f.kept f.sound f.moment f.left_since met.only_now met.earlier old new _
    (plain_rests f.moment f.left_since old new file IsSame
    (c.open_store.ensures.any_moment tells file has))

pub returns-in-Some-clause-plain_safe : goal.returns-in-Some-clause-plain_safe
returns-in-Some-clause-plain_safe g c tells file shown plain =
    let s = c.in-Some.store in
    let found = some_of c.in-Ok.opened s _ c.in-Some.is
    (c.in-Ok.ensures.plain tells file shown plain) in
    let admitted = some_of c.in-Ok.opened s _ c.in-Some.is
    (c.in-Ok.ensures.admitted tells file shown plain) in
    if_err c.join_found.result _ _
    (λ e stays. inr (inl (s.journal.events.items, found.0, admitted)))
    c.join_found.ensures.later

pub returns-in-Err-clause-plain_safe : goal.returns-in-Err-clause-plain_safe
returns-in-Err-clause-plain_safe g c tells file shown plain =
    let f = g.F.Folder in
    plain_denied f.shows f.kept f.moment f.left_since file c.args.folder c.open_store.new.folder
    c.in-Err.error _ (c.in-Err.ensures.plain_refused tells file shown plain)
    c.in-Err.ensures.unchanged c.open_store.ensures.others

pub returns-in-Some-clause-plain_finds : goal.returns-in-Some-clause-plain_finds
returns-in-Some-clause-plain_finds g c tells file shown plain =
    let f = g.F.Folder in
    let mid = c.open_store.new.folder in
    let s = c.in-Some.store in
    let is : IsFoundStore f.shows f.kept s.journal (map part_in s.blocks.items) mid =
    search rules in
    let found = some_of c.in-Ok.opened s _ c.in-Some.is
    (c.in-Ok.ensures.plain tells file shown plain) in
    let store = plain_found f.shows f.kept mid s is found.1 in
    if_ok c.join_found.result _ _
    (λ x y. (let r = as_found (λ (o : Origin) (es : List Event). (replayed o.world es ≡ Ok y.0)
    × (x.0.before ≡ y.0.blocks)
    × FindsNow f.moment f.left_since x.1 (other_of o (with_blocks x.0.after y.0)))
    nothing_saved [] s.journal.events.items s store (y.1, y.2, y.3) in
    (s.journal.events.items, y.0, found.0, r.0, r.1, r.2)))
    (c.join_found.ensures.finds tells)

pub returns-in-Some-clause-finds : goal.returns-in-Some-clause-finds
returns-in-Some-clause-finds g c tells saved parts events h plain =
    let f = g.F.Folder in
    let is : IsStoreOf saved parts events c.in-Some.store =
    subst (λ (o : Option FoundStore). GivesStore (f.failed c.open_store.new.folder) saved parts
    events (found o)) c.in-Some.is
    (c.in-Ok.ensures.only tells h.file saved parts events h.has plain h.journal h.blocks) in
    if_ok c.join_found.result _ _
    (λ x finds. as_found (λ (o : Origin) (es : List Event). (w : World)
    × (replayed o.world es ≡ Ok w) × (x.0.before ≡ w.blocks)
    × FindsNow f.moment f.left_since x.1 (other_of o (with_blocks x.0.after w)))
    saved parts events c.in-Some.store is finds)
    (c.join_found.ensures.finds tells)

-- what the meta.json of its blocks says

pub returns-in-Some-clause-says_still : goal.returns-in-Some-clause-says_still
returns-in-Some-clause-says_still g c tells saved parts events h plain says may =
    let f = g.F.Folder in
    let old = c.args.folder in
    let mid = c.open_store.new.folder in
    let s = c.in-Some.store in
    let is : IsStoreOf saved parts events s =
    subst (λ (o : Option FoundStore). GivesStore (f.failed c.open_store.new.folder) saved parts
    events (found o)) c.in-Some.is
    (c.in-Ok.ensures.only tells h.file saved parts events h.has plain h.journal h.blocks) in
    let before = c.open_store.ensures.whole tells (Some h.file) h.has.shown plain in
    c.join_found.ensures.says_still tells
    (subst (λ (x : Saved). EachSays f.shows f.kept x.values x.places mid) (sym is.head)
    (says_all f.shows f.kept saved.values saved.places old mid before.all says))
    (λ none. subst₂ (λ (x : Saved) (bs : List BlockPart). MayStand (started x bs)) (sym is.head)
    (sym is.blocks) (may (sym is.events ∙ none)))

pub returns-in-Some-clause-plain_says : goal.returns-in-Some-clause-plain_says
returns-in-Some-clause-plain_says g c tells file shown plain =
    let f = g.F.Folder in
    let mid = c.open_store.new.folder in
    let s = c.in-Some.store in
    let alone = some_of c.in-Ok.opened s _ c.in-Some.is
    (c.in-Ok.ensures.plain tells file shown plain) in
    c.join_found.ensures.says_still tells
    (subst (λ (x : Saved). EachSays f.shows f.kept x.values x.places mid) (sym alone.1) tt)
    (λ none. absurd (alone.0.1 none))

pub returns-in-Some-clause-says_stays : goal.returns-in-Some-clause-says_stays
returns-in-Some-clause-says_stays g c tells saved parts events h plain says =
    let f = g.F.Folder in
    let old = c.args.folder in
    let mid = c.open_store.new.folder in
    let is : IsStoreOf saved parts events c.in-Some.store =
    subst (λ (o : Option FoundStore). GivesStore (f.failed c.open_store.new.folder) saved parts
    events (found o)) c.in-Some.is
    (c.in-Ok.ensures.only tells h.file saved parts events h.has plain h.journal h.blocks) in
    let before = c.open_store.ensures.whole tells (Some h.file) h.has.shown plain in
    c.join_found.ensures.says_stays tells
    (subst (λ (x : Saved). EachSays f.shows f.kept x.values x.places mid) (sym is.head)
    (says_all f.shows f.kept saved.values saved.places old mid before.all says))

pub returns-in-Err-clause-says_stays : goal.returns-in-Err-clause-says_stays
returns-in-Err-clause-says_stays g c tells saved parts events h plain says unless =
    let f = g.F.Folder in
    let met = g.met.F.Folder in
    let old = c.args.folder in
    let new = c.open_store.new.folder in
    let before = c.open_store.ensures.whole tells (Some h.file) h.has.shown plain in
    say_now f.shows f.kept f.sound f.moment f.left_since met.only_now met.earlier saved parts events new
    (has_all f.shows f.kept saved parts events old new before.all h)
    (says_all f.shows f.kept saved.values saved.places old new before.all says)

pub returns-in-None-clause-says_stays : goal.returns-in-None-clause-says_stays
returns-in-None-clause-says_stays g c tells saved parts events h plain says unless =
    let f = g.F.Folder in
    let met = g.met.F.Folder in
    let old = c.args.folder in
    let new = c.open_store.new.folder in
    let before = c.open_store.ensures.whole tells (Some h.file) h.has.shown plain in
    say_now f.shows f.kept f.sound f.moment f.left_since met.only_now met.earlier saved parts events new
    (has_all f.shows f.kept saved parts events old new before.all h)
    (says_all f.shows f.kept saved.values saved.places old new before.all says)

-- what a start takes

pub returns-in-Some-clause-starts : goal.returns-in-Some-clause-starts
returns-in-Some-clause-starts g c tells saved parts events h plain may =
    let f = g.F.Folder in
    let met = g.met.F.Folder in
    let old = c.args.folder in
    let mid = c.open_store.new.folder in
    let is : IsStoreOf saved parts events c.in-Some.store =
    subst (λ (o : Option FoundStore). GivesStore (f.failed c.open_store.new.folder) saved parts
    events (found o)) c.in-Some.is
    (c.in-Ok.ensures.only tells h.file saved parts events h.has plain h.journal h.blocks) in
    let before = c.open_store.ensures.whole tells (Some h.file) h.has.shown plain in
    each_starts f.moment f.left_since c.join_found.result (λ y. y.1) (λ e. e.1) old mid
    (untouched_starts f.shows f.kept f.sound f.moment f.left_since met.only_now met.earlier saved parts
    events old mid h may before)
    (c.join_found.ensures.starts tells
    (subst₂ (λ (x : Saved) (bs : List BlockPart). MayStand (started x bs)) (sym is.head)
    (sym is.blocks) may))

pub returns-in-Err-clause-starts : goal.returns-in-Err-clause-starts
returns-in-Err-clause-starts g c tells saved parts events h plain may =
    let f = g.F.Folder in
    let met = g.met.F.Folder in
    let old = c.args.folder in
    let new = c.open_store.new.folder in
    untouched_starts f.shows f.kept f.sound f.moment f.left_since met.only_now met.earlier saved parts
    events old new h may (c.open_store.ensures.whole tells (Some h.file) h.has.shown plain)

pub returns-in-Some-clause-plain_starts : goal.returns-in-Some-clause-plain_starts
returns-in-Some-clause-plain_starts g c tells file has plain =
    let f = g.F.Folder in
    let old = c.args.folder in
    let mid = c.open_store.new.folder in
    let s = c.in-Some.store in
    let is : IsFoundStore f.shows f.kept s.journal (map part_in s.blocks.items) mid =
    search rules in
    let found = some_of c.in-Ok.opened s _ c.in-Some.is
    (c.in-Ok.ensures.plain tells file has.shown plain) in
    let store = plain_found f.shows f.kept mid s is found.1 in
    let before = c.open_store.ensures.any_moment tells file has in
    let may = subst₂ (λ (x : Saved) (bs : List BlockPart). MayStand (started x bs)) (sym store.head)
    (sym store.blocks) (nothing_stands Whole) in
    match_so c.join_found.result _ _ _ _
    (λ y starts. plain_starts f.moment f.left_since old mid y.1 file before starts)
    (λ e starts. plain_starts f.moment f.left_since old mid e.1 file before starts)
    (c.join_found.ensures.starts tells may)

pub returns-in-Err-clause-plain_starts : goal.returns-in-Err-clause-plain_starts
returns-in-Err-clause-plain_starts g c tells file has plain =
    let f = g.F.Folder in
    plain_waits f.moment f.left_since c.args.folder c.open_store.new.folder file
    (c.open_store.ensures.any_moment tells file has)

pub returns-in-None-clause-starts : goal.returns-in-None-clause-starts
returns-in-None-clause-starts g c tells saved parts events h plain may =
    let f = g.F.Folder in
    let met = g.met.F.Folder in
    let old = c.args.folder in
    let new = c.open_store.new.folder in
    untouched_starts f.shows f.kept f.sound f.moment f.left_since met.only_now met.earlier saved parts
    events old new h may (c.open_store.ensures.whole tells (Some h.file) h.has.shown plain)

-- where the blocks lie

pub returns-in-Some-clause-numbers : goal.returns-in-Some-clause-numbers
returns-in-Some-clause-numbers g c tells saved parts events h plain =
    let f = g.F.Folder in
    let is : IsStoreOf saved parts events c.in-Some.store =
    subst (λ (o : Option FoundStore). GivesStore (f.failed c.open_store.new.folder) saved parts
    events (found o)) c.in-Some.is
    (c.in-Ok.ensures.only tells h.file saved parts events h.has plain h.journal h.blocks) in
    if_ok c.join_found.result _ _
    (λ x says fewer. subst (λ (y : Saved). SaysNumbered f.shows f.kept y.places x.0.before x.1)
    is.head (says fewer)) (c.join_found.ensures.numbers tells)

pub returns-in-Some-clause-plain_numbers : goal.returns-in-Some-clause-plain_numbers
returns-in-Some-clause-plain_numbers g c tells file shown plain =
    let f = g.F.Folder in
    let alone = some_of c.in-Ok.opened c.in-Some.store _ c.in-Some.is
    (c.in-Ok.ensures.plain tells file shown plain) in
    if_ok c.join_found.result _ _
    (λ x says fewer. subst (λ (y : Saved). SaysNumbered f.shows f.kept y.places x.0.before x.1)
    alone.1 (says fewer)) (c.join_found.ensures.numbers tells)

pub returns-in-Some-clause-numbers_still : goal.returns-in-Some-clause-numbers_still
returns-in-Some-clause-numbers_still g c tells saved parts events h plain =
    let f = g.F.Folder in
    let is : IsStoreOf saved parts events c.in-Some.store =
    subst (λ (o : Option FoundStore). GivesStore (f.failed c.open_store.new.folder) saved parts
    events (found o)) c.in-Some.is
    (c.in-Ok.ensures.only tells h.file saved parts events h.has plain h.journal h.blocks) in
    if_ok c.join_found.result _ _
    (λ x lies same. subst (λ (y : Saved). StaysNumbered f.shows f.kept y.places x.0.before x.1)
    is.head (lies same)) (c.join_found.ensures.numbers_still tells)

pub returns-in-Some-clause-plain_numbers_still : goal.returns-in-Some-clause-plain_numbers_still
returns-in-Some-clause-plain_numbers_still g c tells file shown plain =
    let f = g.F.Folder in
    let alone = some_of c.in-Ok.opened c.in-Some.store _ c.in-Some.is
    (c.in-Ok.ensures.plain tells file shown plain) in
    if_ok c.join_found.result _ _
    (λ x lies same. subst (λ (y : Saved). StaysNumbered f.shows f.kept y.places x.0.before x.1)
    alone.1 (lies same)) (c.join_found.ensures.numbers_still tells)
