use Rattle.store_folder.specs.Blocks.{files_in}
use Rattle.store_folder.proofs.Faults.{no_files}
use Rattle.store_folder.specs.Blocks.{named_files}
use Rattle.store_folder.proofs.Told.{all_stay, may_fail, spelled_too}
use Rattle.store_folder.proofs.blocks.read_block.Goals as goal

pub returns-in-Ok-open_block-clause-found : goal.returns-in-Ok-open_block-clause-found
returns-in-Ok-open_block-clause-found g c =
    (files_in c.in-Ok.files, c.in-Ok-open_block.ensures.found, c.in-Ok.ensures.found)

pub returns-in-Err-open_block-clause-refused : goal.returns-in-Err-open_block-clause-refused
returns-in-Err-open_block-clause-refused g c =
    (files_in c.in-Ok.files, c.in-Ok.ensures.found, c.in-Err-open_block.ensures.exact)

pub returns-in-Err-clause-refused : goal.returns-in-Err-clause-refused
returns-in-Err-clause-refused g c =
    let f = g.F.Folder in
    no_files f.shows f.failed f.kept c.read_files.new.folder c.args.place c.in-Err.fault
    c.in-Err.ensures.refused

pub returns-in-Ok-open_block-clause-only : goal.returns-in-Ok-open_block-clause-only
returns-in-Ok-open_block-clause-only g c tells part files s there =
    let f = g.F.Folder in
    let new = c.read_files.new.folder in
    let p = c.args.place in
    c.in-Ok-open_block.ensures.only part
    (spelled_too f.shows f.kept tells new p (files_in c.in-Ok.files) files part c.in-Ok.ensures.found
    (all_stay f.shows f.kept (named_files p files) c.args.folder.now new c.read_files.ensures.untouched.all
    there) s)

pub returns-in-Err-open_block-clause-only : goal.returns-in-Err-open_block-clause-only
returns-in-Err-open_block-clause-only g c tells part files s there =
    let f = g.F.Folder in
    let new = c.read_files.new.folder in
    let p = c.args.place in
    c.in-Err-open_block.ensures.only part
    (spelled_too f.shows f.kept tells new p (files_in c.in-Ok.files) files part c.in-Ok.ensures.found
    (all_stay f.shows f.kept (named_files p files) c.args.folder.now new c.read_files.ensures.untouched.all
    there) s)

pub returns-in-Err-clause-only : goal.returns-in-Err-clause-only
returns-in-Err-clause-only g c tells part files s there =
    let f = g.F.Folder in
    let new = c.read_files.new.folder in
    let p = c.args.place in
    may_fail f.shows f.kept tells f.failed new p files c.in-Err.fault
    (all_stay f.shows f.kept (named_files p files) c.args.folder.now new c.read_files.ensures.untouched.all
    there) c.in-Err.ensures.refused
