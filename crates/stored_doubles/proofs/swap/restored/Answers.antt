use Rattle.std.proofs.Common.{rules, ◌≡◌, of_z, w64, FitsSigned}
use Rattle.std.proofs.lemmas.Int.{to_z-of_z}
use Rattle.stored_doubles.specs.Stored.{IsStoredFor}
use Rattle.stored_doubles.proofs.Numbers.{one_pattern, pattern_fits}
use Rattle.stored_doubles.proofs.swap.restored.Goals as goal

pub returns-clause-only : goal.returns-clause-only
returns-clause-only c bits lt s =
    let other = c.swapped.result in
    let few : FitsSigned w64 other = search rules in
    let p : c.cast_unsigned.result ≡ of_z w64 other =
    rw (to_z-of_z w64 other few) at c.cast_unsigned.ensures in
    let fits : FitsSigned w64 c.args.number = search rules in
    let back : IsStoredFor (of_z w64 other) c.args.number =
    rw (to_z-of_z w64 c.args.number fits) at c.swapped.ensures.back in
    rw p (one_pattern bits (of_z w64 other) c.args.number lt (pattern_fits other few) s back)
