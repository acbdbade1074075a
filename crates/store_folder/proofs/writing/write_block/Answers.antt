use Rattle.std.proofs.Common.{refl}
use Rattle.data_folder.specs.Sweeping.{names_in}
use Rattle.data_folder.proofs.Moments.{on_ok}
use Rattle.data_folder.proofs.Sweeps.{nothing_removed, then_kept}
use Rattle.head.specs.Heads.{BlockPart}
use Rattle.store_folder.specs.Blocks.{named_files}
use Rattle.store_folder.specs.Writing.{Wrote, files_in_memory}
use Rattle.store_folder.proofs.writing.write_block.Goals as goal

pub returns-in-Err-clause-stays : goal.returns-in-Err-clause-stays
returns-in-Err-clause-stays g c =
    let f = g.F.Folder in
    nothing_removed f.shows f.kept f.sound f.moment f.left_since g.met.F.Folder.only_now
    (names_in c.args.kept.now.items) c.args.folder.now

pub returns-clause-there : goal.returns-clause-there
returns-clause-there g c =
    let f = g.F.Folder in
    let old = c.args.block.now in
    let made = c.in-Ok.ensures.spelled in
    let part : BlockPart = record { min = old.range.0; max = old.range.1; part = made.part } in
    let files = files_in_memory c.in-Ok.files in
    on_ok c.write_files.result
    (Wrote f.shows f.kept f.sound f.moment f.left_since (named_files (c.args.number, 0) files)
    (names_in c.args.kept.now.items) (names_in c.write_files.new.kept.items)
    c.make_folders.new.folder c.write_files.new.folder) _
    (λ wrote. (
      part,
      record { min = refl; max = refl; rows = made.exactly },
      (
        (files, record { range = c.in-Ok.ensures.said; block = made.spelled }, wrote.there),
        tt,
      ),
    ))
    c.write_files.ensures.wrote

pub returns-clause-names : goal.returns-clause-names
returns-clause-names g c =
    let f = g.F.Folder in
    on_ok c.write_files.result
    (Wrote f.shows f.kept f.sound f.moment f.left_since
    (named_files (c.args.number, 0) (files_in_memory c.in-Ok.files))
    (names_in c.args.kept.now.items) (names_in c.write_files.new.kept.items)
    c.make_folders.new.folder c.write_files.new.folder) _
    (λ wrote. wrote.names) c.write_files.ensures.wrote

pub returns-clause-stays : goal.returns-clause-stays
returns-clause-stays g c =
    let f = g.F.Folder in
    let names = names_in c.args.kept.now.items in
    then_kept f.shows f.kept f.sound f.moment f.left_since g.met.F.Folder.only_now names
    c.args.folder.now c.make_folders.new.folder c.write_files.new.folder
    (c.make_folders.ensures.stays names) c.write_files.ensures.stays

pub returns-clause-says : goal.returns-clause-says
returns-clause-says g c =
    let f = g.F.Folder in
    let files = files_in_memory c.in-Ok.files in
    on_ok c.write_files.result
    (Wrote f.shows f.kept f.sound f.moment f.left_since (named_files (c.args.number, 0) files)
    (names_in c.args.kept.now.items) (names_in c.write_files.new.kept.items)
    c.make_folders.new.folder c.write_files.new.folder) _
    (λ wrote. (files.meta, wrote.there.0, c.in-Ok.ensures.values))
    c.write_files.ensures.wrote
