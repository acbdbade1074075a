use Rattle.std.proofs.Common.{sym, ◌∙◌}
use Rattle.data_folder.specs.Folders.{Left}
use Rattle.data_folder.specs.Sweeping.{names_in}
use Rattle.data_folder.proofs.Sweeps.{nothing_removed, one_changed}
use Rattle.data_folder.proofs.sweeping.remove_litter.Goals as goal

pub returns-then-is_kept-clause-kept : goal.returns-then-is_kept-clause-kept
returns-then-is_kept-clause-kept g c =
    let f = g.F.Folder in
    nothing_removed f.shows f.kept f.sound f.moment f.left_since g.met.F.Folder.only_now
    (names_in c.args.kept.now) c.args.folder.now

pub returns-in-Ok-clause-kept : goal.returns-in-Ok-clause-kept
returns-in-Ok-clause-kept g c =
    let f = g.F.Folder in
    one_changed f.shows f.kept f.sound f.moment f.left_since g.met.F.Folder.only_now
    c.args.name.now (names_in c.args.kept.now) c.args.folder.now c.remove.new.self
    (λ (left : Left). Unit {0}) (sym c.is_kept.ensures ∙ c.if-is_kept.false)
    c.remove.ensures.others c.remove.ensures.sound c.remove.ensures.time

pub returns-in-Err-clause-kept : goal.returns-in-Err-clause-kept
returns-in-Err-clause-kept g c =
    let f = g.F.Folder in
    one_changed f.shows f.kept f.sound f.moment f.left_since g.met.F.Folder.only_now
    c.args.name.now (names_in c.args.kept.now) c.args.folder.now c.remove.new.self
    (λ (left : Left). Unit {0}) (sym c.is_kept.ensures ∙ c.if-is_kept.false)
    c.remove.ensures.others c.remove.ensures.sound c.remove.ensures.time
