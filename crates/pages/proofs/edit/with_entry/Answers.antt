use Rattle.std.proofs.Common.{◌∙◌, map, ap}
use Rattle.std.specs.List.{insert}
use Rattle.pages.proofs.Clones.{zip_items}
use Rattle.pages.proofs.Inserts.{map_insert}
use Rattle.pages.proofs.edit.with_entry.Goals as goal

pub returns : goal.returns
returns g c =
    ap (map g.E.Entry.item) c.in_ok-insert.ensures.items
    ∙ (map_insert g.E.Entry.item c.in_ok-long.long.items c.args.at c.args.x
    ∙ ap (λ l. insert l c.args.at (g.E.Entry.item c.args.x)) (zip_items g.E.Entry.item g.E.Clone.is_clone g.met.E.Entry.same c.args.page.now.items c.in_ok-long.long.items c.in_ok-long.ensures.cases.0))
