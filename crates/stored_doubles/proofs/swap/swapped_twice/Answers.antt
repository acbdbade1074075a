use Rattle.std.proofs.Common.{rules, of_z, sym, w64, FitsSigned, ◌∙◌}
use Rattle.std.proofs.lemmas.Int.{to_z-of_z}
use Rattle.stored_doubles.specs.Stored.{IsStoredFor}
use Rattle.stored_doubles.proofs.Numbers.{one_number}
use Rattle.stored_doubles.proofs.swap.swapped_twice.Goals as goal

pub returns : goal.returns
returns c =
    let other = c.swapped.result in
    let again = c.swapped-2.result in
    let fits : FitsSigned w64 c.args.number = search rules in
    let few : FitsSigned w64 again = search rules in
    let mid : FitsSigned w64 other = search rules in
    let back : IsStoredFor (of_z w64 other) c.args.number =
    rw (to_z-of_z w64 c.args.number fits) at c.swapped.ensures.back in
    let is : IsStoredFor (of_z w64 other) again =
    rw (to_z-of_z w64 other mid) at c.swapped-2.ensures.is in
    to_z-of_z w64 again few
    ∙ sym (one_number (of_z w64 other) c.args.number again fits few back is)
