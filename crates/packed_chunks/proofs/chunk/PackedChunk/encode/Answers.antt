use Rattle.std.proofs.Common.{◌≡◌, ◌∙◌, ◌++◌, ap, ℕ, List}
use Rattle.packed_chunks.specs.Packed.{samples_in}
use Rattle.packed_chunks.proofs.chunk.PackedChunk.encode.Goals as goal

pub returns : goal.returns
returns c =
    let written : c.extend_from_slice.new.self.items ≡ c.write_rows.new.rows.items =
    c.in_ok-extend_from_slice.ensures.items
    ∙ ap (λ (l : List ℕ). l ++ c.as_slice.result.now) c.in_ok-rows.ensures.items
    ∙ c.as_slice.ensures.value in
    ap (samples_in c.in_ok-form.form) (c.in_ok-extend_from_slice-2.ensures.items ∙ ap (λ (l : List ℕ). l ++ _) written)
    ∙ c.in_ok-form.ensures.means _
