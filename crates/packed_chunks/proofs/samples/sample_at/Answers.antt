use Rattle.std.proofs.Common.{◌∙◌, ◌*◌, ap, ℕ}
use Rattle.packed_chunks.specs.Packed.{sample_of, word_at}
use Rattle.packed_chunks.proofs.samples.sample_at.Goals as goal

pub returns : goal.returns
returns c =
    let f = c.args.form.now in
    c.sample_of.ensures
    ∙ ap (λ (x : ℕ). sample_of f c.args.i x c.word_at-value.result) c.word_at-time.ensures
    ∙ ap (λ (y : ℕ). sample_of f c.args.i (word_at c.args.rows.now (c.args.i * f.width)) y) c.word_at-value.ensures
