use Rattle.std.proofs.Common.{◌≡◌, ◌++◌, drop}
use Rattle.std.specs.Prelude.{flat_map}
use Rattle.remote_listings.specs.Texts.{labels_tokens}
use Rattle.remote_listings.proofs.writing.put_sets.Given as goal

abbrev pub invariant-loop-labels : goal.invariant-loop-labels
invariant-loop-labels l = record {
  before : l.out.before ≡ l.fn.out.before;
  tokens : l.out.tokens ++ flat_map labels_tokens (drop l.labels-index l.sets)
      ≡ l.fn.out.tokens ++ flat_map labels_tokens l.sets;
}
