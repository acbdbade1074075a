use Rattle.std.proofs.Common.{◌≡◌, ◌-◌, ◌<◌, ℤ, length, ap, ◌∙◌, arith, rules, to_z, of_z, w64}
use Rattle.std.specs.Prelude.{int_lt}
use Rattle.head.specs.ChunkEnds.{ends_before}
use Rattle.head.proofs.ChunkSearch.{ends_at}
use Rattle.head.proofs.series.Chunk.ends_before.Goals as goal

pub returns-else-is_empty : goal.returns-else-is_empty
returns-else-is_empty c =
    let x : to_z w64 (of_z w64 c.last_time.result) ≡ c.last_time.result = search rules in
    let y : to_z w64 (of_z w64 c.args.time) ≡ c.args.time = search rules in
    let n = length c.samples-samples.result in
    let some : 0 < n = search rules in
    (λ j. int_lt (x j) (y j))
    ∙ ap (λ (t : ℤ). int_lt t c.args.time) c.last_time.ensures
    ∙ ends_at c.args.time c.samples-samples.result (n - 1) (omega (arith, some))
    ∙ ap (ends_before c.args.time) c.samples-samples.ensures
