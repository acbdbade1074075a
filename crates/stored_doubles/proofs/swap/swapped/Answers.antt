use Rattle.std.proofs.Common.{rules, ◌≡◌, of_z, w64, FitsSigned}
use Rattle.std.proofs.lemmas.Int.{to_z-of_z}
use Rattle.stored_doubles.specs.Stored.{IsStoredFor}
use Rattle.stored_doubles.proofs.Numbers.{both_ways, pattern_fits}
use Rattle.stored_doubles.proofs.swap.swapped.Goals as goal

pub returns-clause-back : goal.returns-clause-back
returns-clause-back c =
    let number = c.args.number in
    let other = c.stored.result in
    let fits : FitsSigned w64 number = search rules in
    let few : FitsSigned w64 other = search rules in
    let p : c.cast_unsigned.result ≡ of_z w64 number =
    rw (to_z-of_z w64 number fits) at c.cast_unsigned.ensures in
    let is : IsStoredFor (of_z w64 number) other = rw p at c.stored.ensures.is in
    let back = both_ways (of_z w64 number) other (pattern_fits number fits) is in
    rw (to_z-of_z w64 other few) (rw (to_z-of_z w64 number fits) at back)
