use Rattle.std.proofs.Common.{ℕ, List, SFits, w64, rules, refl, subst, arith}
use Rattle.std.proofs.lemmas.Int.{to_z-of_z}
use Rattle.std.proofs.lemmas.Result.{err_from_is_err_and}
use Rattle.remote_requests.specs.Asking.{AreSelected}
use Rattle.remote_requests.proofs.ListingTurns.{fault_turn, selected_turn}
use Rattle.remote_requests.proofs.Lists.{map_end}
use Rattle.remote_requests.proofs.listings.selected.Goals as goal

pub returns-in_err-add_selected : goal.returns-in_err-add_selected
returns-in_err-add_selected c =
    let p = err_from_is_err_and c.from_residual-in_err-add_selected.result
    c.from_residual-in_err-add_selected.ensures.1 in
    rw (p.1, p.2) (fault_turn (λ t. t.now) c.args.texts.now c.loop-text.text-index
    _ _ _ _ c.loop-text.queries.items _
    c.loop-text-test.true refl c.loop-text.invariant c.in_err-add_selected.ensures)

pub loop-text-preserved : goal.loop-text-preserved
loop-text-preserved c =
    selected_turn (λ t. t.now) c.args.texts.now c.loop-text.text-index
    _ _ _ _ c.loop-text.queries.items c.add_selected.new.queries.items
    c.loop-text-test.true refl c.loop-text.invariant c.in_ok-add_selected.ensures

pub returns : goal.returns
returns c =
    let s : SFits w64 c.args.start = search rules in
    let e : SFits w64 c.args.end = search rules in
    let all = rw (to_z-of_z w64 c.args.start s, to_z-of_z w64 c.args.end e)
    at c.loop-text.invariant in
    subst (λ (texts : List (List ℕ)). AreSelected texts c.args.start c.args.end
    c.loop-text.queries.items)
    (map_end (λ t. t.now) c.args.texts.now c.loop-text.text-index (omega arith)) all
