use Rattle.std.proofs.Common.{◌∙◌, rules}
use Rattle.std.proofs.lemmas.Int.{to_z-of_z}
use Rattle.std.specs.Int.RustNames.{FitsSigned}
use Rattle.std.specs.Int.{w64}
use Rattle.wire.proofs.Signed.{spelled_as}
use Rattle.wire.proofs.cut.varint_of.Goals as goal

pub returns-clause-found : goal.returns-clause-found
returns-clause-found c =
    let fits : FitsSigned w64 c.unzigzag.result = search rules in
    spelled_as c.in_ok-n.n _ c.args.bytes.now c.in_ok-n.after.now
    (to_z-of_z w64 c.unzigzag.result fits ∙ c.unzigzag.ensures) c.in_ok-n.ensures.found
