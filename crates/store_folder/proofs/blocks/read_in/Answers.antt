use Rattle.std.proofs.Common.{ℕ, List, Vec, subst, ◌∙◌}
use Rattle.std.specs.declared.alloc.Global.{Global}
use Rattle.std.specs.Prelude.{IfOk, IfErr}
use Rattle.data_folder.specs.Folders.{HasFile}
use Rattle.data_folder.proofs.Moments.{untouched}
use Rattle.store_folder.specs.declared.error.BlockFault.{BlockFault}
use Rattle.store_folder.specs.Faults.{DeniesName}
use Rattle.store_folder.proofs.blocks.read_in.Goals as goal

pub returns-in-Ok-clause-found : goal.returns-in-Ok-clause-found
returns-in-Ok-clause-found g c =
    let f = g.F.Folder in
    subst (λ (n : List ℕ). IfOk c.read_file.result (λ (bytes : Vec ℕ Global).
    HasFile f.shows f.kept n bytes.items c.read_file.new.folder))
    (c.as_str.ensures.value ∙ c.in-Ok.ensures) c.read_file.ensures.found

pub returns-in-Err-clause-untouched : goal.returns-in-Err-clause-untouched
returns-in-Err-clause-untouched g c =
    let f = g.F.Folder in
    untouched f.shows f.kept f.moment f.left_since c.args.folder.now

pub returns-in-Ok-clause-refused : goal.returns-in-Ok-clause-refused
returns-in-Ok-clause-refused g c =
    let f = g.F.Folder in
    subst (λ (n : List ℕ). IfErr c.read_file.result (λ (e : BlockFault).
    DeniesName f.shows f.failed c.read_file.new.folder n e))
    (c.as_str.ensures.value ∙ c.in-Ok.ensures) c.read_file.ensures.refused
