use Rattle.std.proofs.Common.{◌≡◌, ℕ, ◌<◌, ℤ, false, not, sym, ap, subst, ◌∙◌, arith, rules, length, to_z, of_z, w64}
use Rattle.std.specs.Prelude.{T, List, int_lt, nat_lt}
use Rattle.std.specs.Int.Signed.{le_z}
use Rattle.std.specs.Ordering.{int_cmp}
use Rattle.std.specs.FinMap.Entries.{is_sorted}
use Rattle.std.proofs.lemmas.Bool.Decides.{nat_tests}
use Rattle.labels.specs.Parts.{has_sample}
use Rattle.head.proofs.Sampling.{le_is, sampled, sampled_none}
use Rattle.head.proofs.PackedReads.{ascends, before_each, from_here}
use Rattle.head.proofs.series.Chunk.has_sample_in.Goals as goal

pub place_from-place-requires : goal.place_from-place-requires
place_from-place-requires c =
    ascends c.samples-samples.result (subst (λ (ss : List (ℤ × ℤ)). T (is_sorted int_cmp ss)) (sym c.samples-samples.ensures) c.requires)

pub returns-then-place-len : goal.returns-then-place-len
returns-then-place-len c =
    let ss = c.samples-samples.result in
    let i = c.place_from-place.result in
    let sorted = subst (λ (ss : List (ℤ × ℤ)). T (is_sorted int_cmp ss)) (sym c.samples-samples.ensures) c.requires in
    let inside : i < length ss = omega (arith, c.if-place-len.true, c.len.ensures) in
    let z : to_z w64 (of_z w64 c.args.from) ≡ c.args.from = search rules in
    let x : to_z w64 (of_z w64 c.time_at.result) ≡ c.time_at.result = search rules in
    let y : to_z w64 (of_z w64 c.args.to) ≡ c.args.to = search rules in
    (λ j. le_z (x j) (y j))
    ∙ le_is c.time_at.result c.args.to
    ∙ ap (λ t. not (int_lt c.args.to t)) c.time_at.ensures
    ∙ sampled c.args.from c.args.to ss i _ sorted inside
    (before_each ss c.args.from _ i z c.place_from-place.ensures.within c.place_from-place.ensures.before)
    (from_here ss c.args.from _ i z (c.place_from-place.ensures.from i (omega arith) inside))
    ∙ ap (has_sample c.args.from c.args.to) c.samples-samples.ensures

past_end : (i n : ℕ) → (i < n → ⊥) → nat_lt i n ≡ false
past_end i n h = grind (arith, nat_tests)

pub returns-else-place-len : goal.returns-else-place-len
returns-else-place-len c =
    let ss = c.samples-samples.result in
    let i = c.place_from-place.result in
    let z : to_z w64 (of_z w64 c.args.from) ≡ c.args.from = search rules in
    past_end i c.len.result (λ l. omega (arith, l, c.if-place-len.false))
    ∙ sym (sampled_none c.args.from c.args.to ss (λ k e l.
    before_each ss c.args.from _ i z c.place_from-place.ensures.within c.place_from-place.ensures.before k e (omega (arith, l, c.len.ensures, c.if-place-len.false))))
    ∙ ap (has_sample c.args.from c.args.to) c.samples-samples.ensures
