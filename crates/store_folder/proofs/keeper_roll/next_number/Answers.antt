use Rattle.std.proofs.Common.{◌≡◌, ◌≤◌, ℕ, arith, subst, sym}
use Rattle.store_folder.specs.Saving.{IsAbove}
use Rattle.store_folder.proofs.Numbers.{above, at_end, least, next_from, no_lower}
use Rattle.store_folder.proofs.keeper_roll.next_number.Goals as goal

pub returns-clause-some : goal.returns-clause-some
returns-clause-some c =
    let places = c.args.places.now in
    let is : c.loop-place.next ≡ next_from 1 places =
    at_end c.loop-place.next c.loop-place.place-index places c.loop-place-test.false
    c.loop-place.invariant in
    let low : 1 ≤ next_from 1 places = no_lower 1 places in
    omega (arith, is, low)

pub returns-clause-above : goal.returns-clause-above
returns-clause-above c =
    let places = c.args.places.now in
    subst (λ (n : ℕ). IsAbove n places)
    (sym (at_end c.loop-place.next c.loop-place.place-index places c.loop-place-test.false
    c.loop-place.invariant)) (above 1 places)

pub returns-clause-least : goal.returns-clause-least
returns-clause-least c n some below =
    let places = c.args.places.now in
    subst (λ (k : ℕ). k ≤ n)
    (sym (at_end c.loop-place.next c.loop-place.place-index places c.loop-place-test.false
    c.loop-place.invariant)) (least 1 n places some below)
