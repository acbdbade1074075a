use Rattle.std.proofs.Common.{[], ◌∷◌}
use Rattle.std.specs.Prelude.{codes}
use Rattle.data_folder.specs.States.{Named}
use Rattle.data_folder.specs.Sweeping.{names_in}
use Rattle.data_folder.proofs.Moments.{on_ok}
use Rattle.store_folder.specs.Blocks.{name_in}
use Rattle.store_folder.specs.Writing.{Wrote, files_in_memory}
use Rattle.store_folder.proofs.Writes.{four_wrote, still, then_wrote}
use Rattle.store_folder.proofs.writing.write_files.Goals as goal

pub returns-in_err-write_in-2-clause-stays : goal.returns-in_err-write_in-2-clause-stays
returns-in_err-write_in-2-clause-stays g c =
    let f = g.F.Folder in
    still f.shows f.kept f.sound f.moment f.left_since g.met.F.Folder.only_now
    ((name_in c.args.number (codes "meta.json"), c.as_bytes.result.now) ∷ [])
    (names_in c.args.kept.now.items) (names_in c.write_in.new.kept.items) c.args.folder.now
    c.write_in.new.folder c.write_in-2.new.folder c.in_ok-write_in.ensures.wrote
    c.write_in-2.ensures.stays

pub returns-in_err-write_in-3-clause-stays : goal.returns-in_err-write_in-3-clause-stays
returns-in_err-write_in-3-clause-stays g c =
    let f = g.F.Folder in
    let first : Named = (name_in c.args.number (codes "meta.json"), c.as_bytes.result.now) in
    let second : Named = (name_in c.args.number (codes "index"), c.deref.result.now) in
    still f.shows f.kept f.sound f.moment f.left_since g.met.F.Folder.only_now
    (first ∷ second ∷ []) (names_in c.args.kept.now.items) (names_in c.write_in-2.new.kept.items)
    c.args.folder.now c.write_in-2.new.folder c.write_in-3.new.folder
    (then_wrote f.shows f.kept f.sound f.moment f.left_since g.met.F.Folder.only_now (first ∷ [])
    (second ∷ []) (names_in c.args.kept.now.items) (names_in c.write_in.new.kept.items)
    (names_in c.write_in-2.new.kept.items) c.args.folder.now c.write_in.new.folder
    c.write_in-2.new.folder c.in_ok-write_in.ensures.wrote c.in_ok-write_in-2.ensures.wrote)
    c.write_in-3.ensures.stays

pub returns-clause-stays : goal.returns-clause-stays
returns-clause-stays g c =
    let f = g.F.Folder in
    let first : Named = (name_in c.args.number (codes "meta.json"), c.as_bytes.result.now) in
    let second : Named = (name_in c.args.number (codes "index"), c.deref.result.now) in
    let third : Named = (name_in c.args.number (codes "chunks/000001"), c.deref-2.result.now) in
    still f.shows f.kept f.sound f.moment f.left_since g.met.F.Folder.only_now
    (first ∷ second ∷ third ∷ []) (names_in c.args.kept.now.items)
    (names_in c.write_in-3.new.kept.items) c.args.folder.now c.write_in-3.new.folder
    c.write_in-4.new.folder
    (then_wrote f.shows f.kept f.sound f.moment f.left_since g.met.F.Folder.only_now
    (first ∷ second ∷ []) (third ∷ []) (names_in c.args.kept.now.items)
    (names_in c.write_in-2.new.kept.items) (names_in c.write_in-3.new.kept.items)
    c.args.folder.now c.write_in-2.new.folder c.write_in-3.new.folder
    (then_wrote f.shows f.kept f.sound f.moment f.left_since g.met.F.Folder.only_now (first ∷ [])
    (second ∷ []) (names_in c.args.kept.now.items) (names_in c.write_in.new.kept.items)
    (names_in c.write_in-2.new.kept.items) c.args.folder.now c.write_in.new.folder
    c.write_in-2.new.folder c.in_ok-write_in.ensures.wrote c.in_ok-write_in-2.ensures.wrote)
    c.in_ok-write_in-3.ensures.wrote)
    c.write_in-4.ensures.stays

pub returns-clause-wrote : goal.returns-clause-wrote
returns-clause-wrote g c =
    let f = g.F.Folder in
    let last : Named = (name_in c.args.number (codes "tombstones"), c.deref-3.result.now) in
    on_ok c.write_in-4.result
    (Wrote f.shows f.kept f.sound f.moment f.left_since (last ∷ [])
    (names_in c.write_in-3.new.kept.items) (names_in c.write_in-4.new.kept.items)
    c.write_in-3.new.folder c.write_in-4.new.folder) _
    (λ wrote. four_wrote f.shows f.kept f.sound f.moment f.left_since g.met.F.Folder.only_now
    c.args.number (files_in_memory c.args.files.now) c.as_bytes.result.now c.deref.result.now
    c.deref-2.result.now c.deref-3.result.now (names_in c.args.kept.now.items)
    (names_in c.write_in.new.kept.items) (names_in c.write_in-2.new.kept.items)
    (names_in c.write_in-3.new.kept.items) (names_in c.write_in-4.new.kept.items)
    c.args.folder.now c.write_in.new.folder c.write_in-2.new.folder c.write_in-3.new.folder
    c.write_in-4.new.folder c.as_bytes.ensures.value c.deref.ensures.value c.deref-2.ensures.value
    c.deref-3.ensures.value c.in_ok-write_in.ensures.wrote c.in_ok-write_in-2.ensures.wrote
    c.in_ok-write_in-3.ensures.wrote wrote)
    c.write_in-4.ensures.wrote
