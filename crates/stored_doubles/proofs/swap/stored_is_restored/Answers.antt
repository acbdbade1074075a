use Rattle.std.proofs.Common.{rules, sym, FitsSigned, w64}
use Rattle.std.proofs.lemmas.Int.{to_z-of_z}
use Rattle.stored_doubles.proofs.swap.stored_is_restored.Goals as goal

pub returns : goal.returns
returns c =
    let few : FitsSigned w64 c.stored.result = search rules in
    sym (rw (to_z-of_z w64 c.stored.result few) at c.restored.ensures.only c.args.bits (search rules) c.stored.ensures.is)
