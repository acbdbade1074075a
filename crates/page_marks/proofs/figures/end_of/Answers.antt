use Rattle.std.proofs.Common.{ℤ, FitsSigned, length, rules, refl, subst, ◌∙◌, w64}
use Rattle.std.proofs.lemmas.Int.{to_z-of_z}
use Rattle.std.proofs.lemmas.Option.{slice_get_read}
use Rattle.page_text.specs.Values.{AreBitsOf}
use Rattle.page_marks.proofs.Ends.{first_none, first_next, first_all}
use Rattle.page_marks.proofs.figures.end_of.Goals as goal

pub loop-sample-init : goal.loop-sample-init
loop-sample-init c =
    let samples = c.args.samples.now in
    let found = c.place_of-found in
    let few : FitsSigned w64 c.v.result = search rules in
    first_none c.args.end samples found.result
    (record {
      at = 0;
      sample = c.index-samples-0.result;
      there = slice_get_read samples (length samples) 0 _ refl c.requires c.index-samples-0.is;
      value = found.ensures.same ∙ (to_z-of_z w64 c.v.result few ∙ c.v.ensures);
    })
    (λ bits are. found.ensures.ranked bits
    (subst (λ (n : ℤ). AreBitsOf n bits) found.ensures.same are))

pub loop-sample-preserved : goal.loop-sample-preserved
loop-sample-preserved c =
    let samples = c.args.samples.now in
    let at = c.loop-sample.sample-index in
    let value = c.v-in-loop-sample in
    let few : FitsSigned w64 value.result = search rules in
    first_next c.args.end samples at c.sample-item.result c.loop-sample.found c.place_of.result
    c.first_of-found.result
    (slice_get_read samples (length samples) at _ refl c.loop-sample-test.true c.sample-item.is)
    (c.place_of.ensures.same ∙ (to_z-of_z w64 value.result few ∙ value.ensures))
    (λ bits are. c.place_of.ensures.ranked bits
    (subst (λ (n : ℤ). AreBitsOf n bits) c.place_of.ensures.same are))
    c.first_of-found.ensures.one c.first_of-found.ensures.before_a c.first_of-found.ensures.before_b
    c.loop-sample.invariant

pub returns : goal.returns
returns c =
    let found = c.loop-sample.found in
    let few : FitsSigned w64 found.number = search rules in
    rw (to_z-of_z w64 found.number few)
    (first_all c.args.end c.args.samples.now c.loop-sample.sample-index found
    c.loop-sample-test.false c.loop-sample.invariant)
