use Rattle.std.proofs.Common.{◌≡◌, codes, inl, inr, sym, ◌∙◌}
use Rattle.std.specs.Prelude.{◌⊎◌}
use Rattle.std.proofs.lemmas.Slice.Eq.{bytes_eq-Decides}
use Rattle.server.proofs.status.asked_of.Goals as goal
use Rattle.server.proofs.status.asked_of.Goals.{then-eq, else-eq}

pub returns-then-eq-2 : goal.returns-then-eq-2
returns-then-eq-2 c =
    let taken : (c.args.method.now ≡ codes "GET") ⊎ (c.args.method.now ≡ codes "HEAD") =
    elim c.if-eq.branch [
      | then-eq w ↦
          let told = rw c.as_slice.ensures at c.eq.ensures in
          inl ((bytes_eq-Decides c.args.method.now (codes "GET")).0 (sym told ∙ w.if-eq.true))
      | else-eq w ↦
          let told = rw w.as_slice-else-eq.ensures at w.eq-else-eq.ensures in
          inr ((bytes_eq-Decides c.args.method.now (codes "HEAD")).0
          (sym told ∙ sym w.value-is ∙ c.if-eq-2.true))
    ] in
    λ bytes request. c.asked_at.ensures bytes
    (c.args.method.now, c.args.target.now, request, taken, c.path_in.ensures)
