use Rattle.std.proofs.Common.{◌≡◌, List, [], ap, map, rules}
use Rattle.block.specs.Blocks.{Shown}
use Rattle.data_folder.specs.JournalFile.{journal_name, next_name}
use Rattle.data_folder.proofs.Moments.{nothing_changed}
use Rattle.head.specs.Blocks.{opening_of, part_in}
use Rattle.store_folder.proofs.Starts.{begun_goes_on, none_yet}
use Rattle.store_folder.proofs.starting.begin_store.Goals as goal

pub returns-in-Ok-create-clause-begun : goal.returns-in-Ok-create-clause-begun
returns-in-Ok-create-clause-begun g c =
    let f = g.F.Folder in
    let j = c.in-Ok-create.store.events.journal in
    let opened : c.in-Ok.snapshot ≡ opening_of [] = search rules in
    begun_goes_on f.shows f.kept f.sound f.moment f.left_since g.met.F.Folder.only_now
    g.met.F.Folder.earlier g.N.Beginning.first c.args.values j.medium j.len j.closed _ _ _ c.in-Ok.snapshot
    c.requires.first opened c.new-in-Ok-create.ensures.items
    c.new-in-Ok-create-3.ensures.items
    (ap (λ (bs : List Shown). map part_in bs) c.new-in-Ok-create-4.ensures.items)
    c.in-Ok-create.ensures.open c.in-Ok-create.ensures.places

pub returns-in-Ok-create-clause-alone : goal.returns-in-Ok-create-clause-alone
returns-in-Ok-create-clause-alone g c = c.in-Ok-create.ensures.head

pub returns-in-Ok-create-clause-open : goal.returns-in-Ok-create-clause-open
returns-in-Ok-create-clause-open g c = c.in-Ok-create.ensures.open

-- nothing was done
pub returns-in-Err-clause-any_moment : goal.returns-in-Err-clause-any_moment
returns-in-Err-clause-any_moment g c =
    let f = g.F.Folder in
    none_yet f.moment f.left_since c.args.values f.shows f.kept g.met.F.Folder.only_now c.args.folder
    c.requires.none.0 c.requires.none.1

pub returns-in-Err-clause-others : goal.returns-in-Err-clause-others
returns-in-Err-clause-others g c =
    let f = g.F.Folder in
    nothing_changed f.shows f.kept next_name journal_name c.args.folder
