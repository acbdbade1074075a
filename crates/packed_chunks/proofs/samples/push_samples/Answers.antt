use Rattle.std.proofs.Common.{◌≡◌, ◌∙◌, ◌++◌, ◌∷◌, ◌+◌, ◌*◌, ◌<◌, [], ℕ, ℤ, List, Some, refl, sym, ap, arith, append_assoc, take}
use Rattle.std.proofs.lemmas.List.{take_all}
use Rattle.packed_chunks.specs.Packed.{samples_in, sample_in, sample_of, word_at}
use Rattle.packed_chunks.proofs.RowLaws.{get_sample, length_samples, take_next, line_goes_on, on_lines}
use Rattle.packed_chunks.proofs.samples.push_samples.Goals as goal

module _ (c : goal.In_ok-push) where
  sample_is : c.sample_on.result ≡ sample_in c.args.form c.args.rows.now c.loop.counter
  sample_is =
      let f = c.args.form in
      let i = c.loop.counter in
      let rows = c.args.rows.now in
      let time : c.word_at-time.result ≡ word_at rows (i * f.width) =
      c.word_at-time.ensures ∙ ap (word_at rows) c.loop.invariant.place in
      let value : c.word_at-value.result ≡ word_at rows (i * f.width + f.value_place) =
      c.word_at-value.ensures ∙ ap (λ (p : ℕ). word_at rows (p + f.value_place)) c.loop.invariant.place in
      c.sample_on.ensures
      ∙ on_lines f i c.loop.times c.loop.values c.word_at-time.result c.word_at-value.result c.loop.invariant.times c.loop.invariant.values
      ∙ ap (λ (x : ℕ). sample_of f i x c.word_at-value.result) time
      ∙ ap (λ (y : ℕ). sample_of f i (word_at rows (i * f.width)) y) value

  found_is : c.push.new.self.items ≡ c.args.found.now.items ++ take (c.loop.counter + 1) (samples_in c.args.form c.args.rows.now)
  found_is =
      let all = samples_in c.args.form c.args.rows.now in
      let i = c.loop.counter in
      let within : i < c.args.form.count = omega (arith, c.loop-test.true) in
      c.in_ok-push.ensures.items
      ∙ ap (λ (front : List (ℤ × ℤ)). front ++ c.sample_on.result ∷ []) c.loop.invariant.found
      ∙ append_assoc c.args.found.now.items (take i all) (c.sample_on.result ∷ [])
      ∙ ap (λ (back : List (ℤ × ℤ)). c.args.found.now.items ++ back) (sym (take_next all i c.sample_on.result
      (get_sample c.args.form c.args.rows.now i within ∙ ap (λ (s : ℤ × ℤ). Some s) (sym sample_is))))

pub loop-preserved : goal.loop-preserved
loop-preserved c = record {
  found = found_is c;
  times = line_goes_on _ _ c.loop.counter c.loop.times _ c.loop.invariant.times refl;
  values = line_goes_on _ _ c.loop.counter c.loop.values _ c.loop.invariant.values refl;
  place = ap (λ (p : ℕ). p + c.args.form.width) c.loop.invariant.place ∙ one_more c.loop.counter c.args.form.width;
}
  where
    one_more : (i w : ℕ) → i * w + w ≡ (i + 1) * w
    one_more i w = grind arith

pub returns : goal.returns
returns c =
    let all = samples_in c.args.form c.args.rows.now in
    c.loop.invariant.found
    ∙ ap (λ (back : List (ℤ × ℤ)). c.args.found.now.items ++ back)
    (take_all c.loop.counter all (omega (arith, length_samples c.args.form c.args.rows.now, c.loop-test.false)))
