use Rattle.std.proofs.Common.{rules, sym, FitsSigned, w64, ◌∙◌}
use Rattle.std.proofs.lemmas.Int.{to_z-of_z}
use Rattle.stored_doubles.proofs.swap.restored_is_stored.Goals as goal

pub returns : goal.returns
returns c =
    let few : FitsSigned w64 c.stored.result = search rules in
    let fits : FitsSigned w64 c.args.number = search rules in
    to_z-of_z w64 c.stored.result few
    ∙ sym (c.stored.ensures.only c.args.number fits (rw (to_z-of_z w64 c.args.number fits) at c.restored.ensures.is))
