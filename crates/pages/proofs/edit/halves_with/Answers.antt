use Rattle.std.proofs.Common.{◌++◌, map, ap, ◌∙◌}
use Rattle.pages.proofs.Inserts.{kept_halves, whole_halves}
use Rattle.pages.proofs.edit.halves_with.Goals as goal

pub returns-clause-whole : goal.returns-clause-whole
returns-clause-whole g c =
    ap (λ xs. map g.E.Entry.item xs ++ map g.E.Entry.item c.in_ok-right.right.items) c.shrink_to_fit.ensures.items
    ∙ whole_halves g.E.Entry.item c.in_ok-left.left.items c.split_off.new.self.items c.in_ok-right.right.items 64 c.in_ok-right.ensures.items c.in_ok-right.ensures.tail ∙ c.in_ok-left.ensures

pub returns-clause-fits : goal.returns-clause-fits
returns-clause-fits g c =
    rw (c.shrink_to_fit.ensures.items, c.in_ok-right.ensures.items, c.in_ok-right.ensures.tail)
    (kept_halves g.E.Entry.item c.args.page.now.items c.in_ok-left.left.items c.args.at (g.E.Entry.item c.args.x) c.requires.inside c.requires.full c.in_ok-left.ensures)
