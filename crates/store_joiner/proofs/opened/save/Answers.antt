use Rattle.std.proofs.Common.{map}
use Rattle.head.specs.Blocks.{part_in}
use Rattle.store_folder.specs.States.{origin_of, started}
use Rattle.store_folder.proofs.Rolls.{finds_on}
use Rattle.store_folder.proofs.Starts.{stays_found}
use Rattle.std.proofs.Common.{[], List, arith, inl, inr, refl, subst, subst₂, sym}
use Rattle.std.proofs.lemmas.Grind.{common_steps}
use Rattle.store_joiner.proofs.Stores.{if_both, if_ok, match_so, untouched_finds}
use Rattle.store_joiner.proofs.Stores.{world_again}
use Rattle.data_folder.proofs.Foreign.{foreign_all, foreign_rests, foreign_then}
use Rattle.store_joiner.proofs.Says.{err_match, has_all, if_match, say_now, says_all}
use Rattle.store_folder.specs.Writing.{EachSays}
use Rattle.head_record.specs.Saved.{Saved}
use Rattle.head.specs.Resuming.{MayStand}
use Rattle.head.specs.Heads.{BlockPart}
use Rattle.store_joiner.proofs.Starting.{found_starts, starts_on, untouched_starts}
use Rattle.store_joiner.specs.Joins.{AreRolled}
use Rattle.store_joiner.proofs.opened.save.Goals as goal

pub returns-then-is_empty-clause-any_moment : goal.returns-then-is_empty-clause-any_moment
returns-then-is_empty-clause-any_moment g c =
    let f = g.F.Folder in
    let s = c.args.found.store in
    let parts = map part_in s.blocks.items in
    stays_found f.shows f.kept f.sound f.moment f.left_since g.met.F.Folder.only_now
    (origin_of s.journal.head parts) c.args.found.folder s.journal parts
    c.requires.found refl

pub returns-in-Ok-clause-any_moment : goal.returns-in-Ok-clause-any_moment
returns-in-Ok-clause-any_moment g c =
    let f = g.F.Folder in
    let met = g.met.F.Folder in
    let s = c.args.found.store in
    let first = origin_of s.journal.head (map part_in s.blocks.items) in
    let events = s.journal.events.items in
    let mid = c.in-Ok.folder in
    match_so c.read_again.result _ _ _ _
    (λ x u. finds_on f.moment f.left_since first events c.args.found.folder mid x.folder
    c.in-Ok.ensures.any_moment
    (untouched_finds f.shows f.kept f.sound f.moment f.left_since met.only_now met.earlier first
    events mid x.folder c.in-Ok.ensures.has u))
    (λ e u. finds_on f.moment f.left_since first events c.args.found.folder mid e.1
    c.in-Ok.ensures.any_moment
    (untouched_finds f.shows f.kept f.sound f.moment f.left_since met.only_now met.earlier first
    events mid e.1 c.in-Ok.ensures.has u)) c.read_again.ensures.untouched

pub returns-in-Ok-clause-after : goal.returns-in-Ok-clause-after
returns-in-Ok-clause-after g c tells =
    let f = g.F.Folder in
    let s = c.args.found.store in
    let first = origin_of s.journal.head (map part_in s.blocks.items) in
    let h = c.in-Ok.ensures.has in
    if_both c.read_again.result _ _ _
    (λ x is none. world_again f.shows f.kept first s.journal.events.items c.in-Ok.folder x.store h
    is none) (c.read_again.ensures.only tells h.saved h.parts h.late h.store)
    c.read_again.ensures.saved

pub returns-then-is_empty-clause-foreign : goal.returns-then-is_empty-clause-foreign
returns-then-is_empty-clause-foreign g c =
    let f = g.F.Folder in
    foreign_rests f.shows f.kept c.args.found.folder

pub returns-in-Ok-clause-foreign : goal.returns-in-Ok-clause-foreign
returns-in-Ok-clause-foreign g c =
    let f = g.F.Folder in
    match_so c.read_again.result _ _ _ _
    (λ x u. foreign_then f.shows f.kept c.args.found.folder c.in-Ok.folder x.folder
    c.in-Ok.ensures.foreign (foreign_all f.shows f.kept c.in-Ok.folder x.folder u.all))
    (λ e u. foreign_then f.shows f.kept c.args.found.folder c.in-Ok.folder e.1
    c.in-Ok.ensures.foreign (foreign_all f.shows f.kept c.in-Ok.folder e.1 u.all))
    c.read_again.ensures.untouched

-- what the meta.json of its blocks says

pub returns-then-is_empty-clause-says : goal.returns-then-is_empty-clause-says
returns-then-is_empty-clause-says g c tells says = says

pub returns-then-is_empty-clause-may : goal.returns-then-is_empty-clause-may
returns-then-is_empty-clause-may g c tells may =
    may (grind (arith, common_steps))

pub returns-in-Ok-clause-says : goal.returns-in-Ok-clause-says
returns-in-Ok-clause-says g c tells says =
    let f = g.F.Folder in
    let w = c.in-Ok.ensures.stands in
    if_match c.read_again.result _ _ _ _
    (λ x is u. subst (λ (head : Saved). EachSays f.shows f.kept head.values head.places x.folder)
    (sym is.head)
    (says_all f.shows f.kept w.0.values w.0.places c.in-Ok.folder x.folder u.all (w.4 says)))
    (c.read_again.ensures.only tells w.0 w.1 [] w.2) c.read_again.ensures.untouched

pub returns-in-Ok-clause-may : goal.returns-in-Ok-clause-may
returns-in-Ok-clause-may g c tells may =
    let w = c.in-Ok.ensures.stands in
    if_ok c.read_again.result _ _
    (λ x is. subst₂ (λ (head : Saved) (bs : List BlockPart). MayStand (started head bs))
    (sym is.head) (sym is.blocks) w.3) (c.read_again.ensures.only tells w.0 w.1 [] w.2)

pub returns-in-Ok-clause-says_stays : goal.returns-in-Ok-clause-says_stays
returns-in-Ok-clause-says_stays g c says =
    let f = g.F.Folder in
    let met = g.met.F.Folder in
    let w = c.in-Ok.ensures.stands in
    let mid = c.in-Ok.folder in
    err_match c.read_again.result _ _ _
    (λ e u unless. say_now f.shows f.kept f.sound f.moment f.left_since met.only_now met.earlier w.0 w.1
    [] e.1 (has_all f.shows f.kept w.0 w.1 [] mid e.1 u.all w.2)
    (says_all f.shows f.kept w.0.values w.0.places mid e.1 u.all (w.4 says)))
    c.read_again.ensures.untouched

pub returns-in-Err-clause-says_stays : goal.returns-in-Err-clause-says_stays
returns-in-Err-clause-says_stays g c says unless = c.in-Err.ensures.says_stays says unless

-- what a start takes

pub returns-then-is_empty-clause-starts : goal.returns-then-is_empty-clause-starts
returns-then-is_empty-clause-starts g c may =
    let f = g.F.Folder in
    let met = g.met.F.Folder in
    let store = c.args.found.store in
    found_starts f.shows f.kept f.sound f.moment f.left_since met.only_now met.earlier
    c.args.found.folder store.journal (map part_in store.blocks.items) c.requires.found may

pub returns-in-Ok-clause-starts : goal.returns-in-Ok-clause-starts
returns-in-Ok-clause-starts g c may =
    let f = g.F.Folder in
    let met = g.met.F.Folder in
    let w = c.in-Ok.ensures.stands in
    let old = c.args.found.folder in
    let mid = c.in-Ok.folder in
    let before = c.in-Ok.ensures.starts may in
    match_so c.read_again.result _ _ _ _
    (λ x u. starts_on f.moment f.left_since old mid x.folder before
    (untouched_starts f.shows f.kept f.sound f.moment f.left_since met.only_now met.earlier w.0 w.1 [] mid
    x.folder w.2 w.3 u))
    (λ e u. starts_on f.moment f.left_since old mid e.1 before
    (untouched_starts f.shows f.kept f.sound f.moment f.left_since met.only_now met.earlier w.0 w.1 [] mid
    e.1 w.2 w.3 u))
    c.read_again.ensures.untouched

pub returns-in-Err-clause-starts : goal.returns-in-Err-clause-starts
returns-in-Err-clause-starts g c may = c.in-Err.ensures.starts may

-- where its blocks lie

pub returns-then-is_empty-clause-numbers : goal.returns-then-is_empty-clause-numbers
returns-then-is_empty-clause-numbers g c tells = inl refl

pub returns-in-Ok-clause-numbers : goal.returns-in-Ok-clause-numbers
returns-in-Ok-clause-numbers g c tells =
    let held = c.args.found.store.journal.head.places in
    let w = c.in-Ok.ensures.stands in
    if_ok c.read_again.result _ _
    (λ x is. inr (subst (λ (head : Saved). AreRolled held head.places) (sym is.head) w.5))
    (c.read_again.ensures.only tells w.0 w.1 [] w.2)
