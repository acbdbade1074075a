use Rattle.std.proofs.Common.{ℤ, ap, subst, ◌∙◌}
use Rattle.std.specs.Int.{w64, cast_unsigned}
use Rattle.std.specs.Int.RustNames.{FitsSigned}
use Rattle.std.proofs.lemmas.Int.{to_z-of_z}
use Rattle.block_writer.proofs.Spelled.{two_words}
use Rattle.block_writer.proofs.chunk.put_sample.Goals as goal

pub returns-clause-text : goal.returns-clause-text
returns-clause-text c =
    two_words c.args.out.now.items c.put_be64.new.out.items c.put_be64-2.new.out.items
    c.cast_unsigned.result c.cast_unsigned-2.result (cast_unsigned w64 c.args.sample.0)
    (cast_unsigned w64 c.args.sample.1)
    c.in_ok-put_be64.ensures.ok c.in_ok-put_be64-2.ensures.ok
    (c.cast_unsigned.ensures
    ∙ ap (λ (z : ℤ). cast_unsigned w64 z)
    (to_z-of_z w64 c.t.result (record { sfits = c.t.type_inv }) ∙ c.t.ensures))
    (c.cast_unsigned-2.ensures
    ∙ ap (λ (z : ℤ). cast_unsigned w64 z)
    (to_z-of_z w64 c.v.result (record { sfits = c.v.type_inv }) ∙ c.v.ensures))

pub returns-clause-typed : goal.returns-clause-typed
returns-clause-typed c = subst (FitsSigned w64) c.v.ensures (record { sfits = c.v.type_inv })
