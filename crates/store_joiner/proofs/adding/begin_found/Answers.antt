use Rattle.data_folder.proofs.Foreign.{foreign_all, foreign_then}
use Rattle.data_folder.proofs.Moments.{joined}
use Rattle.store_joiner.specs.Stores.{NoneOrStands}
use Rattle.store_joiner.proofs.Changing.{none_left}
use Rattle.store_joiner.proofs.Stores.{match_so}
use Rattle.store_joiner.proofs.Starting.{each_starts, none_starts}
use Rattle.store_joiner.proofs.adding.begin_found.Goals as goal

pub returns-in-Ok-false-clause-any_moment : goal.returns-in-Ok-false-clause-any_moment
returns-in-Ok-false-clause-any_moment g c =
    let f = g.F.Folder in
    let old = c.args.folder in
    let mid = c.has_blocks.new.folder in
    let before = none_left f.shows f.kept f.moment f.left_since g.met.F.Folder.only_now old mid
    c.requires.none.0 c.requires.none.1 c.has_blocks.ensures.untouched in
    match_so c.begin_again.result _ _ _ _
    (λ x k. joined f.moment f.left_since old mid x.folder NoneOrStands before k)
    (λ e k. joined f.moment f.left_since old mid e.1 NoneOrStands before k)
    c.begin_again.ensures.any_moment

pub returns-in-Ok-false-clause-foreign : goal.returns-in-Ok-false-clause-foreign
returns-in-Ok-false-clause-foreign g c =
    let f = g.F.Folder in
    let old = c.args.folder in
    let mid = c.has_blocks.new.folder in
    let before = foreign_all f.shows f.kept old mid c.has_blocks.ensures.untouched.all in
    match_so c.begin_again.result _ _ _ _
    (λ x k. foreign_then f.shows f.kept old mid x.folder before k)
    (λ e k. foreign_then f.shows f.kept old mid e.1 before k)
    c.begin_again.ensures.foreign

pub returns-in-Ok-true-clause-any_moment : goal.returns-in-Ok-true-clause-any_moment
returns-in-Ok-true-clause-any_moment g c =
    let f = g.F.Folder in
    none_left f.shows f.kept f.moment f.left_since g.met.F.Folder.only_now c.args.folder
    c.has_blocks.new.folder c.requires.none.0 c.requires.none.1 c.has_blocks.ensures.untouched

-- what a start takes

pub returns-in-Ok-false-clause-starts : goal.returns-in-Ok-false-clause-starts
returns-in-Ok-false-clause-starts g c =
    let f = g.F.Folder in
    let old = c.args.folder in
    let mid = c.has_blocks.new.folder in
    each_starts f.moment f.left_since c.begin_again.result (λ x. x.folder) (λ e. e.1) old mid
    (none_starts f.shows f.kept f.moment f.left_since g.met.F.Folder.only_now old mid
    c.requires.none.0 c.requires.none.1 c.has_blocks.ensures.untouched) c.begin_again.ensures.starts

pub returns-in-Ok-true-clause-starts : goal.returns-in-Ok-true-clause-starts
returns-in-Ok-true-clause-starts g c =
    let f = g.F.Folder in
    none_starts f.shows f.kept f.moment f.left_since g.met.F.Folder.only_now c.args.folder
    c.has_blocks.new.folder c.requires.none.0 c.requires.none.1 c.has_blocks.ensures.untouched
