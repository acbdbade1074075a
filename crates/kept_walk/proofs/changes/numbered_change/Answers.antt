use Rattle.std.proofs.Common.{arith, inr, refl}
use Rattle.kept_walk.proofs.ByNumber.{numbered_found}
use Rattle.kept_walk.proofs.FromNames.{none_numbered}
use Rattle.kept_walk.proofs.changes.numbered_change.Goals as goal

pub returns-in-Ok-clause-found : goal.returns-in-Ok-clause-found
returns-in-Ok-clause-found c =
    let names = c.args.names.now in
    let found = numbered_found names c.args.fields.now
    (c.in-Ok.runs.items, c.numbered_of.new.names) c.requires
    (λ i. omega (arith, c.type_inv.fields i)) c.in-Ok.ensures in
    inr (c.in-Ok.runs.items, refl, found.0)

pub returns-in-Ok-clause-bytes : goal.returns-in-Ok-clause-bytes
returns-in-Ok-clause-bytes c =
    (numbered_found c.args.names.now c.args.fields.now
    (c.in-Ok.runs.items, c.numbered_of.new.names) c.requires
    (λ i. omega (arith, c.type_inv.fields i)) c.in-Ok.ensures).1

pub returns-in-Err-Form-clause-found : goal.returns-in-Err-Form-clause-found
returns-in-Err-Form-clause-found c =
    none_numbered c.args.names.now c.args.fields.now
    (rw c.in-Err-Form.field-0-is at c.in-Err-Form.ensures)
