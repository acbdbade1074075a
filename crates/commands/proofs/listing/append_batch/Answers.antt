use Rattle.std.proofs.Common.{◌≡◌, length, arith}
use Rattle.std.proofs.lemmas.Bool.Decides.{nat_tests}
use Rattle.commands.proofs.Listings.{batch_added}
use Rattle.commands.proofs.listing.append_batch.Goals as goal

pub returns : goal.returns
returns c =
    let count = length c.args.samples.now in
    batch_added c.append_batch_line.result c.args.number c.args.samples.now c.args.out.now.items
    c.append_batch_line.new.out.items (λ (none : count ≡ 0). grind (arith, nat_tests))
    c.append_batch_line.ensures
