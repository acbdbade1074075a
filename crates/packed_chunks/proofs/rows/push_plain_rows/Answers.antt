use Rattle.std.proofs.Common.{◌∙◌, ap, arith, subst, ℤ}
use mir.Val.{SFits}
use Rattle.std.specs.Int.{w64, cast_unsigned}
use Rattle.std.proofs.lemmas.Int.{to_z-of_z}
use Rattle.std.proofs.lemmas.List.{get_or_default}
use Rattle.packed_chunks.proofs.RowLaws.{none_written, one_written, plain_sample}
use Rattle.packed_chunks.proofs.rows.push_plain_rows.Goals as goal

pub loop-place-init : goal.loop-place-init
loop-place-init c = none_written _ _ _ c.requires.none

pub loop-place-preserved : goal.loop-place-preserved
loop-place-preserved c =
    let time = to_z-of_z w64 c.t.result (record { sfits = c.t.type_inv }) in
    let value = to_z-of_z w64 c.v.result (record { sfits = c.v.type_inv }) in
    one_written c.args.form.now c.loop-place.place c.cast_unsigned.result c.cast_unsigned-in-loop-place.result
    c.loop-place.rows.items _ c.args.samples.now c.requires.form c.loop-place.invariant
    (λ zero. absurd (omega (arith, zero, c.requires.plain.value_place)))
    (plain_sample c.args.form.now c.loop-place.place _ _ c.index-samples-place.result c.requires.plain
    (subst (λ (z : ℤ). SFits w64 z) c.t.ensures (record { sfits = c.t.type_inv }))
    (subst (λ (z : ℤ). SFits w64 z) c.v.ensures (record { sfits = c.v.type_inv }))
    (c.cast_unsigned.ensures ∙ ap (cast_unsigned w64) (time ∙ c.t.ensures))
    (c.cast_unsigned-in-loop-place.ensures ∙ ap (cast_unsigned w64) (value ∙ c.v.ensures))
    ∙ c.index-samples-place.is ∙ get_or_default c.args.samples.now c.loop-place.place _ _ (omega arith))
    c.in_ok-push_row.ensures
