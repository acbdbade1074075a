use Rattle.std.proofs.Common.{◌≡◌, ℕ, ◌<◌, ℤ, false, not, sym, ap, ◌∙◌, arith, rules, to_z, of_z, w64, get_or}
use Rattle.std.specs.Prelude.{int_lt, nat_lt}
use Rattle.std.specs.Int.Signed.{le_z}
use Rattle.std.proofs.lemmas.List.Sorted.{IsPartitionPoint-from_clause}
use Rattle.std.proofs.lemmas.Bool.Decides.{nat_tests}
use Rattle.head.proofs.Sampling.{le_is, sampled, sampled_none, times_parted}
use Rattle.head.proofs.series.has_sample_in.Goals as goal

pub returns-then-place-samples : goal.returns-then-place-samples
returns-then-place-samples c =
    let ss = c.args.samples.now in
    let i = c.partition_point-place.result in
    let p = IsPartitionPoint-from_clause (λ s. int_lt s.0 c.args.from) ss i c.partition_point-place.ensures.partitioned (times_parted c.args.from ss c.requires) (λ a r f' k. search rules) in
    let x : to_z w64 (of_z w64 c.t.result) ≡ c.t.result = search rules in
    let y : to_z w64 (of_z w64 c.args.to) ≡ c.args.to = search rules in
    let at : c.t.result ≡ (get_or ss i c.index-samples-place.result).0 = c.t.ensures ∙ ap (λ (s : ℤ × ℤ). s.0) c.index-samples-place.is in
    (λ j. le_z (x j) (y j))
    ∙ le_is c.t.result c.args.to
    ∙ ap (λ t. not (int_lt c.args.to t)) at
    ∙ sampled c.args.from c.args.to ss i c.index-samples-place.result c.requires c.if-place-samples.true
    (λ k e l. p.0 k e (omega arith) l) (p.1 i c.index-samples-place.result (omega arith) c.if-place-samples.true)

past_end : (i n : ℕ) → (i < n → ⊥) → nat_lt i n ≡ false
past_end i n h = grind (arith, nat_tests)

pub returns-else-place-samples : goal.returns-else-place-samples
returns-else-place-samples c =
    let ss = c.args.samples.now in
    let i = c.partition_point-place.result in
    let p = IsPartitionPoint-from_clause (λ s. int_lt s.0 c.args.from) ss i c.partition_point-place.ensures.partitioned (times_parted c.args.from ss c.requires) (λ a r f' k. search rules) in
    past_end i _ (λ l. omega (arith, l, c.if-place-samples.false))
    ∙ sym (sampled_none c.args.from c.args.to ss (λ k e l. p.0 k e (omega arith) (omega (arith, l, c.if-place-samples.false))))
