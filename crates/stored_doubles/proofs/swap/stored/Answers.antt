use Rattle.std.proofs.Common.{rules, FitsSigned, w64, ◌∙◌, sym}
use Rattle.std.proofs.lemmas.Int.{to_z-of_z}
use Rattle.stored_doubles.proofs.Numbers.{one_number}
use Rattle.stored_doubles.proofs.swap.stored.Goals as goal

pub returns-clause-only : goal.returns-clause-only
returns-clause-only c number fits s =
    let few : FitsSigned w64 c.number_for.result = search rules in
    one_number c.args.bits number c.number_for.result fits few s c.number_for.ensures ∙ sym (to_z-of_z w64 c.number_for.result few)
