use Rattle.std.proofs.Common.{rules}
use Rattle.std.proofs.lemmas.Fn.{always_returns_same}
use Rattle.pages.proofs.Searched.{searched}
use Rattle.pages.proofs.search.search_page.Goals as goal

pub returns-clause-found : goal.returns-clause-found
returns-clause-found g c rise =
    (searched g.E.Entry.item (g.P.Probe.order c.args.probe.now) c.args.page.now c.binary_search_by.result rise c.binary_search_by.ensures.bound
    (c.binary_search_by.ensures.position (λ e. g.P.Probe.order c.args.probe.now (g.E.Entry.item e)) (always_returns_same _ _ _ (λ a r f' k. search rules)))).found

pub returns-clause-absent : goal.returns-clause-absent
returns-clause-absent g c rise =
    (searched g.E.Entry.item (g.P.Probe.order c.args.probe.now) c.args.page.now c.binary_search_by.result rise c.binary_search_by.ensures.bound
    (c.binary_search_by.ensures.position (λ e. g.P.Probe.order c.args.probe.now (g.E.Entry.item e)) (always_returns_same _ _ _ (λ a r f' k. search rules)))).absent
