use Rattle.std.proofs.Common.{◌≡◌, ◌++◌, drop, option_map}
use Rattle.serde_json.specs.View.{items_view}
use Rattle.requests.specs.Rows.{samples_in}
use Rattle.requests.proofs.write.samples_in.Given as goal

abbrev pub invariant-loop-item : goal.invariant-loop-item
invariant-loop-item l =
    samples_in (items_view l.items) ≡ option_map (λ ss. l.samples.items ++ ss)
    (samples_in (items_view (drop l.item-index l.items)))
