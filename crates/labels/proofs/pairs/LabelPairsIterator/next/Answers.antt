use Rattle.std.proofs.Common.{◌≡◌, ◌+◌, ◌∷◌, ap, ◌∙◌, arith}
use Rattle.std.proofs.Math.Seq.{drop-cons}
use Rattle.std.proofs.lemmas.Option.{slice_get_within, get_or_from_slice_get}
use Rattle.std.specs.Prelude.{suc, drop}
use Rattle.labels.specs.Pairs.{text_pair}
use Rattle.labels.proofs.pairs.LabelPairsIterator.next.Goals as goal

pub returns-clause-steps : goal.returns-clause-steps
returns-clause-steps c =
    let ps = c.args.self.now.pairs.now in
    let at = c.args.self.now.at in
    let pair = text_pair c.pair-pair.result in
    let next : suc at ≡ at + 1 = omega arith in
    drop-cons ps at pair (slice_get_within ps at pair c.pair-pair.ensures)
    ∙ ap (λ y. y ∷ drop (suc at) ps) (get_or_from_slice_get ps at pair pair c.pair-pair.ensures)
    ∙ ap (λ n. pair ∷ drop n ps) next
