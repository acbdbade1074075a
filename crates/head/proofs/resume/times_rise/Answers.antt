use Rattle.std.proofs.Common.{◌≡◌, rules}
use Rattle.std.specs.Ordering.{int_cmp, is_lt}
use Rattle.std.proofs.lemmas.Cmp.{int_cmp_total}
use Rattle.std.proofs.lemmas.Fn.{always_returns_same}
use Rattle.block_writer.proofs.Neighbours.{rise_from_pairs}
use Rattle.head.proofs.resume.times_rise.Goals as goal

pub returns : goal.returns
returns c =
    rise_from_pairs int_cmp int_cmp_total c.args.samples.now c.is_sorted_by.result
    (c.is_sorted_by.ensures.cases (λ x y. is_lt (int_cmp x.0 y.0)) (always_returns_same _
    (λ a r. r ≡ is_lt (int_cmp a.0.now.0 a.1.0.now.0)) _ (λ a r q k. search rules)))
