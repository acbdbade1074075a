use Rattle.std.proofs.Common.{[], ap}
use Rattle.block_folder.specs.declared.values.Values.TheVariants.{Whole}
use Rattle.data_folder.proofs.Foreign.{foreign_all, foreign_then}
use Rattle.data_folder.proofs.Moments.{joined}
use Rattle.store_folder.specs.Origins.{beginning}
use Rattle.store_joiner.specs.Stores.{NoneOrStands}
use Rattle.store_joiner.proofs.Changing.{begun_stands, stands_on}
use Rattle.store_joiner.proofs.Stores.{if_both, match_so, untouched_finds, world_again}
use Rattle.std.proofs.Common.{List, subst₂, sym}
use Rattle.head.specs.Heads.{BlockPart}
use Rattle.head.specs.Resuming.{MayStand}
use Rattle.head_record.specs.Saved.{Saved}
use Rattle.store_folder.specs.Starting.{nothing_saved}
use Rattle.store_folder.specs.States.{started}
use Rattle.store_folder.proofs.Standing.{nothing_stands}
use Rattle.store_joiner.proofs.Starting.{begun_starts, starts_on, untouched_starts}
use Rattle.store_joiner.proofs.Stores.{if_ok}
use Rattle.store_joiner.proofs.adding.begin_again.Goals as goal

pub returns-in-Ok-clause-any_moment : goal.returns-in-Ok-clause-any_moment
returns-in-Ok-clause-any_moment g c =
    let f = g.F.Folder in
    let met = g.met.F.Folder in
    let old = c.args.folder in
    let mid = c.in-Ok.folder in
    let begun = begun_stands f.moment f.left_since old mid c.in-Ok.ensures.any_moment in
    match_so c.read_again.result _ _ _ _
    (λ x u. joined f.moment f.left_since old mid x.folder NoneOrStands begun
    (stands_on f.moment f.left_since mid x.folder
    (untouched_finds f.shows f.kept f.sound f.moment f.left_since met.only_now met.earlier
    (beginning Whole) [] mid x.folder c.in-Ok.ensures.has u)))
    (λ e u. joined f.moment f.left_since old mid e.1 NoneOrStands begun
    (stands_on f.moment f.left_since mid e.1
    (untouched_finds f.shows f.kept f.sound f.moment f.left_since met.only_now met.earlier
    (beginning Whole) [] mid e.1 c.in-Ok.ensures.has u)))
    c.read_again.ensures.untouched

pub returns-in-Ok-clause-after : goal.returns-in-Ok-clause-after
returns-in-Ok-clause-after g c tells =
    let f = g.F.Folder in
    let h = c.in-Ok.ensures.has in
    if_both c.read_again.result _ _ _
    (λ x is none. world_again f.shows f.kept (beginning Whole) [] c.in-Ok.folder x.store h is none)
    (c.read_again.ensures.only tells h.saved h.parts h.late h.store) c.read_again.ensures.saved

pub returns-in-Ok-clause-foreign : goal.returns-in-Ok-clause-foreign
returns-in-Ok-clause-foreign g c =
    let f = g.F.Folder in
    match_so c.read_again.result _ _ _ _
    (λ x u. foreign_then f.shows f.kept c.args.folder c.in-Ok.folder x.folder
    c.in-Ok.ensures.foreign (foreign_all f.shows f.kept c.in-Ok.folder x.folder u.all))
    (λ e u. foreign_then f.shows f.kept c.args.folder c.in-Ok.folder e.1
    c.in-Ok.ensures.foreign (foreign_all f.shows f.kept c.in-Ok.folder e.1 u.all))
    c.read_again.ensures.untouched

-- what a start takes

pub returns-in-Ok-clause-starts : goal.returns-in-Ok-clause-starts
returns-in-Ok-clause-starts g c =
    let f = g.F.Folder in
    let met = g.met.F.Folder in
    let old = c.args.folder in
    let mid = c.in-Ok.folder in
    let begun = begun_starts f.moment f.left_since old mid Whole c.in-Ok.ensures.any_moment in
    match_so c.read_again.result _ _ _ _
    (λ x u. starts_on f.moment f.left_since old mid x.folder begun
    (untouched_starts f.shows f.kept f.sound f.moment f.left_since met.only_now met.earlier
    nothing_saved [] [] mid x.folder c.in-Ok.ensures.nothing (nothing_stands Whole) u))
    (λ e u. starts_on f.moment f.left_since old mid e.1 begun
    (untouched_starts f.shows f.kept f.sound f.moment f.left_since met.only_now met.earlier
    nothing_saved [] [] mid e.1 c.in-Ok.ensures.nothing (nothing_stands Whole) u))
    c.read_again.ensures.untouched

pub returns-in-Err-clause-starts : goal.returns-in-Err-clause-starts
returns-in-Err-clause-starts g c =
    let f = g.F.Folder in
    begun_starts f.moment f.left_since c.args.folder c.in-Err.fault.1 Whole c.in-Err.ensures.any_moment

pub returns-in-Ok-clause-may : goal.returns-in-Ok-clause-may
returns-in-Ok-clause-may g c tells =
    if_ok c.read_again.result _ _
    (λ x is. subst₂ (λ (y : Saved) (bs : List BlockPart). MayStand (started y bs)) (sym is.head)
    (sym is.blocks) (nothing_stands Whole))
    (c.read_again.ensures.only tells nothing_saved [] [] c.in-Ok.ensures.nothing)

pub returns-in-Ok-clause-fresh : goal.returns-in-Ok-clause-fresh
returns-in-Ok-clause-fresh g c tells =
    if_ok c.read_again.result _ _ (λ x is. ap (λ (y : Saved). y.places) is.head)
    (c.read_again.ensures.only tells nothing_saved [] [] c.in-Ok.ensures.nothing)
