use Rattle.std.proofs.Common.{ℤ, List, sym, ap, ◌∙◌, arith, rules, to_z, of_z, w64}
use Rattle.std.specs.Int.{int_min, int_max}
use Rattle.std.specs.List.{Contains, fold}
use Rattle.std.proofs.lemmas.List.{take_all}
use Rattle.labels.specs.Labels.{Labels}
use Rattle.block_writer.proofs.Held.{in_map}
use Rattle.commands.specs.Listing.{times_in}
use Rattle.commands.proofs.Listings.{fold_next, span_of}
use Rattle.commands.proofs.listing.times_of.Goals as goal

pub loop-sample-preserved : goal.loop-sample-preserved
loop-sample-preserved c =
    let xs = c.args.samples.now in
    let i = c.loop-sample.sample-index in
    let x = c.sample-item.result in
    let a = to_z w64 (of_z w64 c.t-first.result) in
    let low = fold_next int_min a xs i x (omega (arith, c.loop-sample-test.true)) c.sample-item.is in
    let high = fold_next int_max a xs i x (omega (arith, c.loop-sample-test.true)) c.sample-item.is in
    search rules

pub returns : goal.returns
returns c =
    let xs = c.args.samples.now in
    let i = c.loop-sample.sample-index in
    let a = to_z w64 (of_z w64 c.t-first.result) in
    let all = take_all i xs (omega (arith, c.loop-sample-test.false)) in
    let there : Contains (times_in xs) c.index-samples-0.result.1.0 =
    in_map (λ (y : Labels × (ℤ × ℤ)). y.1.0) xs c.index-samples-0.result
    (0, c.requires, sym c.index-samples-0.is) in
    let has : Contains (times_in xs) a = search rules in
    span_of xs a (to_z w64 c.loop-sample.from-bits) (to_z w64 c.loop-sample.to-bits) has
    (c.loop-sample.invariant.0 ∙ ap (λ (ys : List (Labels × (ℤ × ℤ))). fold int_min a (times_in ys)) all)
    (c.loop-sample.invariant.1 ∙ ap (λ (ys : List (Labels × (ℤ × ℤ))). fold int_max a (times_in ys)) all)
