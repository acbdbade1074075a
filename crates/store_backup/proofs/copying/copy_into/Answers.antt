use Rattle.std.proofs.Common.{map}
use Rattle.std.proofs.lemmas.Result.{IfErr-weaker}
use Rattle.data_folder.proofs.Moments.{untouched}
use Rattle.head.specs.Blocks.{part_in}
use Rattle.store_folder.specs.Starting.{DeniesStart}
use Rattle.store_backup.proofs.Sources.{not_of_found, of_found}
use Rattle.store_backup.proofs.copying.copy_into.Goals as goal

pub returns-in-Ok-clause-told : goal.returns-in-Ok-clause-told
returns-in-Ok-clause-told g c =
    let f = g.F.Folder in
    IfErr-weaker c.copy_found.result _ _
    (λ e h. of_found f.shows f.kept c.in-Ok.store c.read_settled.new.source e.0 c.in-Ok.ensures.found
    h) c.copy_found.ensures.refused

pub returns-in-Ok-clause-changed : goal.returns-in-Ok-clause-changed
returns-in-Ok-clause-changed g c =
    let j = c.in-Ok.store.journal in
    IfErr-weaker c.copy_found.result _ _
    (λ e h is. not_of_found (DeniesStart j.head (map part_in c.in-Ok.store.blocks.items)
    j.events.items) e.0 h is) c.copy_found.ensures.refused

pub returns-in-Err-clause-changed : goal.returns-in-Err-clause-changed
returns-in-Err-clause-changed g c is =
    let f = g.G.Folder in
    (c.requires.sound, untouched f.shows f.kept f.moment f.left_since c.args.target)
