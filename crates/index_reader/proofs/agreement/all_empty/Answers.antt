use Rattle.std.proofs.Common.{ℕ, List, [], get_or, sym, ◌∙◌, arith}
use Rattle.std.specs.Borrow.{Bor}
use Rattle.std.proofs.lemmas.Bool.{eqb-true, eqb-false}
use Rattle.std.proofs.lemmas.List.{nil_from_length, length-map}
use Rattle.index_reader.specs.References.{references_in}
use Rattle.index_reader.specs.Seen.{references_in_each}
use Rattle.index_reader.proofs.Draining.{empty_step, empty_stops, empty_done, list_at, is_cons}
use Rattle.index_reader.proofs.agreement.all_empty.Goals as goal

abbrev none : Bor (List ℕ)
none = record { ref_ptr = (0, 0); now = [] }

pub loop-rest-preserved : goal.loop-rest-preserved
loop-rest-preserved c =
    let xs = c.args.rests.now in
    let i = c.loop-rest.rest-index in
    let same = length-map xs (λ (x : Bor (List ℕ)). references_in x.now) in
    let h = eqb-true _ 0 (sym c.is_empty.ensures ∙ c.if-not-is_empty.false) in
    empty_step (references_in_each xs) i _ (omega (arith, same, c.loop-rest-test.true))
    (list_at xs i none c.loop-rest-test.true ∙ nil_from_length _ h) c.loop-rest.invariant

pub returns-then-not-is_empty : goal.returns-then-not-is_empty
returns-then-not-is_empty c =
    let xs = c.args.rests.now in
    let i = c.loop-rest.rest-index in
    let same = length-map xs (λ (x : Bor (List ℕ)). references_in x.now) in
    let h = eqb-false _ 0 (sym c.is_empty.ensures ∙ c.if-not-is_empty.true) in
    let p = is_cons (references_in (get_or xs i none).now) (omega (arith, h)) in
    empty_stops (references_in_each xs) i p.0 p.1 _ (omega (arith, same, c.loop-rest-test.true))
    (list_at xs i none c.loop-rest-test.true ∙ p.2) c.loop-rest.invariant

pub returns : goal.returns
returns c =
    let xs = c.args.rests.now in
    let same = length-map xs (λ (x : Bor (List ℕ)). references_in x.now) in
    empty_done (references_in_each xs) c.loop-rest.rest-index _
    (omega (arith, same, c.loop-rest-test.false)) c.loop-rest.invariant
