use Rattle.std.proofs.Common.{List, ℕ, ap, ◌∙◌, subst}
use Rattle.data_folder.specs.Sweeping.{KeepsStore, names_in}
use Rattle.data_folder.proofs.Sweeps.{nothing_removed, then_kept}
use Rattle.store_folder.specs.Sweeps.{names_at}
use Rattle.store_folder.proofs.stale_blocks.sweep_apart.Goals as goal

pub returns-clause-kept : goal.returns-clause-kept
returns-clause-kept g c =
    let f = g.F.Folder in
    let names = names_at c.args.places.now in
    then_kept f.shows f.kept f.sound f.moment f.left_since g.met.F.Folder.only_now names
    c.args.folder.now c.list_names.new.folder c.sweep.new.folder (c.list_names.ensures.kept names)
    (subst (λ (x : List (List ℕ)). KeepsStore f.shows f.kept f.sound f.moment f.left_since x
    c.list_names.new.folder c.sweep.new.folder)
    (ap names_in c.deref-3.ensures.value ∙ c.in-Ok.ensures) c.sweep.ensures.kept)

pub returns-in_default-clause-kept : goal.returns-in_default-clause-kept
returns-in_default-clause-kept g c =
    let f = g.F.Folder in
    nothing_removed f.shows f.kept f.sound f.moment f.left_since g.met.F.Folder.only_now
    (names_at c.args.places.now) c.args.folder.now
