use Rattle.std.proofs.Common.{◌≡◌, true, refl, rules}
use Rattle.serde_json.specs.View.{view}
use Rattle.requests.specs.Json.{has_members}
use Rattle.requests.proofs.RowTexts.{row_when}
use Rattle.requests.proofs.write.row_in.Goals as goal

pub returns : goal.returns
returns c =
    let two : has_members 2 (view c.args.value.now) ≡ true = search rules in
    let pairs = rw c.in-Some.is at c.in_ok-pairs.ensures in
    let made = rw c.in-Some-2.is at c.in_ok-labels.ensures in
    let samples = rw c.in-Some-3.is at c.in_ok-samples.ensures in (
      _,
      row_when (view c.args.value.now) _ _ two pairs made.0 samples,
      rw c.new.ensures
          (record { labels = made.1; samples = refl }),
    )
