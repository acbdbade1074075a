use Rattle.std.proofs.Common.{◌≡◌, Some, sym, ◌∙◌, ap}
use Rattle.std.specs.Prelude.{nat_eq}
use Rattle.labels.specs.Ascending.{first_of, not_below}
use Rattle.head.proofs.Selecting.{sought, sought_none}
use Rattle.head.proofs.selection.reaches.Goals as goal

pub returns-clause-found : goal.returns-clause-found
returns-clause-found g c =
    let xs = g.P.Postings.remaining c.args.list.now in
    let first : first_of (not_below c.args.reference xs) ≡ Some c.in-Some.next = ap first_of (sym c.seek.ensures) ∙ sym c.in-Some.ensures in
    (λ i. nat_eq (c.number.ensures i) (c.number-2.ensures i))
    ∙ sought xs c.args.reference c.in-Some.next (g.met.P.Postings.ascending c.args.list.now) first

pub returns-in_default-clause-found : goal.returns-in_default-clause-found
returns-in_default-clause-found g c =
    let xs = g.P.Postings.remaining c.args.list.now in
    sought_none xs c.args.reference (g.met.P.Postings.ascending c.args.list.now) (ap first_of (sym c.seek.ensures) ∙ sym c.in_default.ensures)
