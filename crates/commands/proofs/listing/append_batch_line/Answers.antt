use Rattle.std.proofs.Common.{◌∙◌, rules, to_z, of_z, w64}
use Rattle.commands.specs.Listing.{IsSpan}
use Rattle.commands.proofs.Listings.{parts_added}
use Rattle.commands.proofs.listing.append_batch_line.Goals as goal

pub returns : goal.returns
returns c =
    let from = to_z w64 (of_z w64 c.times_of-from.result.0) in
    let to = to_z w64 (of_z w64 c.times_of-from.result.1) in
    let span : IsSpan c.args.samples.now from to = search rules in
    parts_added c.extend_from_slice-2.result c.args.number
    c.in_ok-series.series c.args.samples.now from to c.args.out.now.items
    c.extend_from_slice.new.self.items c.extend_from_slice-2.new.self.items
    c.as_bytes.result.now c.as_bytes-2.result.now c.in_ok-series.ensures span
    c.in_ok-extend_from_slice.ensures.items
    (c.as_bytes.ensures.value ∙ c.in_ok-start.ensures) (c.as_bytes-2.ensures.value ∙ c.in_ok-end.ensures)
    c.extend_from_slice-2.ensures.items
