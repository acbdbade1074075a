use Rattle.std.proofs.Common.{◌≡◌, ◌∙◌, rules}
use Rattle.data_folder.proofs.Sweeps.{nothing_removed}
use Rattle.head_record.specs.Saved.{save}
use Rattle.store_folder.specs.Sweeps.{names_at}
use Rattle.store_folder.proofs.Standing.{saved_stands}
use Rattle.store_folder.proofs.saving.write_saved.Goals as goal

pub returns-in_default-clause-stays : goal.returns-in_default-clause-stays
returns-in_default-clause-stays g c =
    let f = g.F.Folder in
    nothing_removed f.shows f.kept f.sound f.moment f.left_since g.met.F.Folder.only_now
    (names_at c.args.held.now) c.args.folder.now

pub returns-clause-stands : goal.returns-clause-stands
returns-clause-stands g c made like =
    let s = c.args.snapshot.now in
    let places = c.in-Ok-write_blocks.places.items in
    let is : c.new.result ≡ save c.args.values s places = search rules in
    saved_stands c.args.values s places c.in-Ok-saved.series.items c.new.result is
    (c.in-Ok-saved.ensures.all ∙ c.head.ensures.series) c.floor.ensures.sound
    c.in-Ok-saved.ensures.few made like
