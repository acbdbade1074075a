use Rattle.std.proofs.Common.{◌<◌, ◌∙◌, ◌-◌, List, map, length, arith, sym, ap, subst}
use Rattle.std.proofs.lemmas.List.{length-map}
use Rattle.std.specs.List.Sorted.{IsNonDecreasingBy}
use Rattle.std.specs.Ordering.{ordering_index}
use Rattle.pages.specs.Pages.{leaf_list}
use Rattle.pages.specs.Sorted.{IsHit, IsGap}
use Rattle.pages.proofs.Pieces.{part_at}
use Rattle.pages.proofs.Spots.{some_kept, rises_in, gap_first}
use Rattle.pages.proofs.Searched.{found_in, absent_in}
use Rattle.pages.proofs.search.find_in_pages.Goals as goal

pub returns-then-count-eq0-clause-absent : goal.returns-then-count-eq0-clause-absent
returns-then-count-eq0-clause-absent g c split =
    gap_first (g.P.Probe.order c.args.probe.now) (map (leaf_list g.E.Entry.item) c.args.pages.now) (some_kept _ c.requires) split
    (λ j l b. (c.pages_before-count.ensures.starts split).high j (omega arith) b)

pub returns-in-Ok-clause-found : goal.returns-in-Ok-clause-found
returns-in-Ok-clause-found g c split =
    found_in (leaf_list g.E.Entry.item) (g.P.Probe.order c.args.probe.now) c.args.pages.now (c.pages_before-count.result - 1) c.index-pages-page.result (omega (arith, c.pages_before-count.ensures.inside)) c.index-pages-page.is c.in-Ok.at
    (subst (λ (l : List _). IsHit (g.P.Probe.order c.args.probe.now) (map g.E.Entry.item l) c.in-Ok.at) (c.as_slice.ensures.value ∙ ap (λ v. v.items) c.deref.ensures) (c.in-Ok.ensures.found (subst (λ l. IsNonDecreasingBy (λ y. ordering_index (g.P.Probe.order c.args.probe.now y)) l)
    (part_at (leaf_list g.E.Entry.item) c.args.pages.now (c.pages_before-count.result - 1) c.index-pages-page.result (omega (arith, c.pages_before-count.ensures.inside)) c.index-pages-page.is ∙ ap (map g.E.Entry.item) (sym (c.as_slice.ensures.value ∙ ap (λ v. v.items) c.deref.ensures)))
    (rises_in (g.P.Probe.order c.args.probe.now) (map (leaf_list g.E.Entry.item) c.args.pages.now) (c.pages_before-count.result - 1) split (omega (arith, c.pages_before-count.ensures.inside, length-map c.args.pages.now (leaf_list g.E.Entry.item)))))))

pub returns-in-Err-clause-absent : goal.returns-in-Err-clause-absent
returns-in-Err-clause-absent g c split =
    absent_in (leaf_list g.E.Entry.item) (g.P.Probe.order c.args.probe.now) c.args.pages.now (c.pages_before-count.result - 1) c.index-pages-page.result (omega (arith, c.pages_before-count.ensures.inside)) c.index-pages-page.is c.in-Err.at
    (some_kept _ c.requires) split
    ((c.pages_before-count.ensures.starts split).low (c.pages_before-count.result - 1) (omega arith))
    (λ j l b. (c.pages_before-count.ensures.starts split).high j (omega arith) b)
    (subst (λ (l : List _). IsGap (g.P.Probe.order c.args.probe.now) (map g.E.Entry.item l) c.in-Err.at) (c.as_slice.ensures.value ∙ ap (λ v. v.items) c.deref.ensures) (c.in-Err.ensures.absent (subst (λ l. IsNonDecreasingBy (λ y. ordering_index (g.P.Probe.order c.args.probe.now y)) l)
    (part_at (leaf_list g.E.Entry.item) c.args.pages.now (c.pages_before-count.result - 1) c.index-pages-page.result (omega (arith, c.pages_before-count.ensures.inside)) c.index-pages-page.is ∙ ap (map g.E.Entry.item) (sym (c.as_slice.ensures.value ∙ ap (λ v. v.items) c.deref.ensures)))
    (rises_in (g.P.Probe.order c.args.probe.now) (map (leaf_list g.E.Entry.item) c.args.pages.now) (c.pages_before-count.result - 1) split (omega (arith, c.pages_before-count.ensures.inside, length-map c.args.pages.now (leaf_list g.E.Entry.item)))))))

pub returns-in-Ok-clause-entry : goal.returns-in-Ok-clause-entry
returns-in-Ok-clause-entry g c =
    let within : c.pages_before-count.result - 1 < length c.args.pages.now = omega (arith, c.pages_before-count.ensures.inside) in
    let inside : c.in-Ok.at < length (leaf_list g.E.Entry.item c.index-pages-page.result) =
    subst (λ (l : List _). c.in-Ok.at < length (map g.E.Entry.item l)) (c.as_slice.ensures.value ∙ ap (λ v. v.items) c.deref.ensures) (omega (arith, c.in-Ok.ensures.inside, length-map c.as_slice.result.now g.E.Entry.item)) in
    subst (λ l. c.in-Ok.at < length l) (sym (part_at (leaf_list g.E.Entry.item) c.args.pages.now (c.pages_before-count.result - 1) c.index-pages-page.result within c.index-pages-page.is)) inside
