use Rattle.std.proofs.Common.{◌≡◌, false, List, sym, ap, ◌∙◌}
use Rattle.std.specs.declared.alloc.Global.{Global}
use Rattle.std.specs.declared.string.String.{String}
use Rattle.data_folder.specs.Sweeping.{is_kept, names_in}
use Rattle.data_folder.proofs.Sweeps.{nothing_removed}
use Rattle.data_folder.proofs.apart.write_apart.Goals as goal

pub returns-then-is_kept-clause-stays : goal.returns-then-is_kept-clause-stays
returns-then-is_kept-clause-stays g c =
    let f = g.F.Folder in
    nothing_removed f.shows f.kept f.sound f.moment f.left_since g.met.F.Folder.only_now
    (names_in c.args.kept.now.items) c.args.folder.now

pub returns-in-Err-clause-stays : goal.returns-in-Err-clause-stays
returns-in-Err-clause-stays g c =
    let f = g.F.Folder in
    nothing_removed f.shows f.kept f.sound f.moment f.left_since g.met.F.Folder.only_now
    (names_in c.args.kept.now.items) c.args.folder.now

pub returns-after-push-clause-stays : goal.returns-after-push-clause-stays
returns-after-push-clause-stays g c =
    let names = names_in c.args.kept.now.items in
    let is : is_kept names c.args.name.now ≡ false =
    sym (c.is_kept.ensures ∙ ap (λ (ns : List (String Global)). is_kept (names_in ns) c.args.name.now)
    c.as_slice.ensures.value) ∙ c.if-is_kept.false in
    c.add.ensures.kept names is

pub returns-in-Err-add-clause-stays : goal.returns-in-Err-add-clause-stays
returns-in-Err-add-clause-stays g c =
    let names = names_in c.args.kept.now.items in
    let is : is_kept names c.args.name.now ≡ false =
    sym (c.is_kept.ensures ∙ ap (λ (ns : List (String Global)). is_kept (names_in ns) c.args.name.now)
    c.as_slice.ensures.value) ∙ c.if-is_kept.false in
    c.add.ensures.kept names is
