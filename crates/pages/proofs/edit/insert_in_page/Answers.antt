use Rattle.std.proofs.Common.{◌∙◌, Vec, Global, map, ap}
use Rattle.std.proofs.lemmas.Result.{IfErr-at_err}
use Rattle.std.specs.List.{insert}
use Rattle.pages.proofs.Inserts.{map_insert}
use Rattle.std.specs.Arc.{arc_value}
use Rattle.pages.proofs.Clones.{clone_items, on_err, is_ok_from}
use Rattle.pages.proofs.edit.insert_in_page.Goals as goal

pub returns-in_err-own-clause-err : goal.returns-in_err-own-clause-err
returns-in_err-own-clause-err g c =
    on_err c.from_residual.result (clone_items g.E.Entry.item g.E.Clone.is_clone g.met.E.Entry.same _ _ _ (IfErr-at_err _ c.in_err-own.was c.make_mut.follows.holds-at-none))

pub returns-in_err-insert-clause-err : goal.returns-in_err-insert-clause-err
returns-in_err-insert-clause-err g c =
    on_err c.from_residual-in_err-insert.result
    (ap (λ (v : Vec _ Global). map g.E.Entry.item v.items) (c.make_mut.follows.holds c.insert.new.self (is_ok_from _ _ c.in_ok-own.was))
    ∙ (ap (λ l. map g.E.Entry.item l) c.in_err-insert.ensures.items ∙ clone_items g.E.Entry.item g.E.Clone.is_clone g.met.E.Entry.same (arc_value c.args.page.now) _ _ c.in_ok-own.ensures.value))

pub returns-clause-ok : goal.returns-clause-ok
returns-clause-ok g c =
    ap (λ (v : Vec _ Global). map g.E.Entry.item v.items) (c.make_mut.follows.holds c.insert.new.self (is_ok_from _ _ c.in_ok-own.was))
    ∙ (ap (λ l. map g.E.Entry.item l) c.in_ok-insert.ensures.items
    ∙ (map_insert g.E.Entry.item c.in_ok-own.own.now.items c.args.at c.args.x
    ∙ ap (λ l. insert l c.args.at (g.E.Entry.item c.args.x)) (clone_items g.E.Entry.item g.E.Clone.is_clone g.met.E.Entry.same (arc_value c.args.page.now) _ _ c.in_ok-own.ensures.value)))
