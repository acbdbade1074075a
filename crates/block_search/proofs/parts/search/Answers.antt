use Rattle.std.proofs.Common.{ℕ, List, Result, map, sym, subst, ap, ◌∙◌, IfOk}
use Rattle.std.specs.List.{AllZip}
use Rattle.std.specs.declared.alloc.AllocError.{AllocError}
use Rattle.std.proofs.lemmas.Result.{IfOk-weaker}
use Rattle.cover.specs.declared.part_cover.PartAnswer.{PartAnswer}
use Rattle.block_search.specs.Skipping.{AskedPart}
use Rattle.block_search.specs.Places.{part_at}
use Rattle.block_search.specs.Answers.{IsAnswerOf}
use Rattle.block_search.proofs.Gathered.{none_missing}
use Rattle.block_search.proofs.Zips.{AllZip-map}
use Rattle.block_search.proofs.PlaceLaws.{parts_at_places}
use Rattle.block_search.proofs.parts.search.Goals as goal

pub returns-clause-each : goal.returns-clause-each
returns-clause-each g c =
    let query = c.args.query.now in
    let snapshot = c.args.snapshot.now in
    let places : List ℕ = c.as_slice.result.now in
    let Is = λ (p : ℕ) (a : PartAnswer). IsAnswerOf query (part_at query snapshot p) a in
    IfOk-weaker c.all_of.result _ _
    (λ answers e.
    subst (λ (parts : List AskedPart). AllZip (IsAnswerOf query) parts answers.items)
    (ap (map (part_at query snapshot)) (c.as_slice.ensures.value ∙ c.in_ok-places.ensures.places)
    ∙ parts_at_places query snapshot)
    (AllZip-map (IsAnswerOf query) (part_at query snapshot) places answers.items
    (none_missing Is places answers.items
    (subst (λ (found : List (Result PartAnswer AllocError)). AllZip (λ p r. IfOk r (Is p)) places
    found) (sym e) c.in_ok-found.ensures))))
    c.all_of.ensures
