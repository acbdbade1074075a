use Rattle.std.proofs.Common.{ap, ◌∙◌}
use Rattle.labels.specs.Pairs.{pairs_of}
use Rattle.remote_requests.specs.Parameters.{wanted_seen}
use Rattle.remote_requests.proofs.ListingTurns.{told_listing}
use Rattle.remote_requests.proofs.listings.listing.Goals as goal

pub returns : goal.returns
returns c =
    told_listing c.args.path c.args.target.now c.args.body.now (wanted_seen c.in_ok-wanted.wanted)
    (pairs_of c.as_slice.result.now) c.in_ok-wanted.ensures
    (ap pairs_of c.as_slice.ensures.value ∙ c.in_ok-pairs.ensures) c.list.result c.list.ensures
