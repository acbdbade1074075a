use Rattle.std.proofs.Common.{◌≡◌, ◌∙◌, ◌++◌, ◌∷◌, ◌+◌, ◌*◌, [], ℕ, ℤ, List, length, ap, sym, subst, append_assoc, rules}
use Rattle.std.proofs.lemmas.List.{length-append}
use Rattle.packed_chunks.specs.declared.chunks.Placed.{Placed}
use Rattle.packed_chunks.specs.Packed.{samples_in}
use Rattle.packed_chunks.specs.Chunks.{chunk_in, chunks_in, IsPlaced, ArePlaced}
use Rattle.packed_chunks.proofs.Placing.{grown, same_chunks, added, placed_last, chunks_last}
use Rattle.packed_chunks.proofs.chunks.PackedChunks.push.Goals as goal

module _ (c : goal.In_ok-push) where
  written : c.as_slice.result.now ≡ c.write_rows.new.rows.items ++ (0 ∷ 0 ∷ 0 ∷ 0 ∷ 0 ∷ 0 ∷ 0 ∷ 0 ∷ [])
  written = c.as_slice.ensures.value ∙ c.in_ok-extend_from_slice.ensures.items

  all_is : c.extend_from_slice-2.new.self.items ≡ c.self.inside.rows.items ++ c.as_slice.result.now
  all_is = c.in_ok-extend_from_slice-2.ensures.items

  abbrev last : Placed
  last = record { form = c.in_ok-form.form; start = c.len-start.result }

  one : IsPlaced c.extend_from_slice-2.new.self.items last × (chunk_in c.extend_from_slice-2.new.self.items last ≡ c.args.samples.now)
  one =
      let rows = c.write_rows.new.rows.items in
      let pad : List ℕ = 0 ∷ 0 ∷ 0 ∷ 0 ∷ 0 ∷ 0 ∷ 0 ∷ 0 ∷ [] in
      let whole : length c.as_slice.result.now ≡ c.in_ok-form.form.count * c.in_ok-form.form.width + 8 =
      ap length written ∙ length-append rows pad
      ∙ ap (λ (n : ℕ). n + 8) (c.in_ok-form.ensures.length ∙ ap (λ (n : ℕ). n * c.in_ok-form.form.width) (sym c.in_ok-form.ensures.count)) in
      added c.self.inside.rows.items c.as_slice.result.now c.extend_from_slice-2.new.self.items c.in_ok-form.form c.len-start.result
      c.args.samples.now c.in_ok-form.ensures.form (search rules) all_is whole
      (λ more. ap (λ (l : List ℕ). samples_in c.in_ok-form.form (l ++ more)) written
      ∙ ap (λ (l : List ℕ). samples_in c.in_ok-form.form l) (append_assoc rows pad more)
      ∙ c.in_ok-form.ensures.means (pad ++ more))

  places_is : c.push.new.self.items ≡ c.self.inside.places.items ++ last ∷ []
  places_is = c.in_ok-push.ensures.items ∙ ap (λ (l : List Placed). l ++ last ∷ []) c.in_ok-reserve.ensures.items

pub invariant_of-self-2 : goal.invariant_of-self-2
invariant_of-self-2 c =
    let all = c.extend_from_slice-2.new.self.items in
    subst (λ (l : List Placed). ArePlaced all l) (sym (places_is c))
    (placed_last all c.self.inside.places.items (last c) (grown c.self.inside.rows.items c.as_slice.result.now all c.self.inside.places.items (all_is c) c.self.invariant) (one c).0)

pub returns-clause-ok : goal.returns-clause-ok
returns-clause-ok c =
    let all = c.extend_from_slice-2.new.self.items in
    let old = c.self.inside.places.items in
    ap (λ (l : List Placed). chunks_in all l) (places_is c)
    ∙ chunks_last all old (last c)
    ∙ ap (λ (l : List (List (ℤ × ℤ))). l ++ chunk_in all (last c) ∷ []) (same_chunks c.self.inside.rows.items c.as_slice.result.now all old (all_is c) c.self.invariant)
    ∙ ap (λ (l : List (List (ℤ × ℤ))). l ++ chunk_in all (last c) ∷ []) c.self.view_is
    ∙ ap (λ (x : List (ℤ × ℤ)). c.args.self.now ++ x ∷ []) (one c).1
