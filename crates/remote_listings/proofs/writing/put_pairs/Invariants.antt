use Rattle.std.proofs.Common.{◌≡◌, ◌++◌, drop}
use Rattle.std.specs.Prelude.{flat_map}
use Rattle.remote_listings.specs.Texts.{pair_tokens}
use Rattle.remote_listings.proofs.writing.put_pairs.Given as goal

abbrev pub invariant-loop-at : goal.invariant-loop-at
invariant-loop-at l = record {
  before : l.out.before ≡ l.fn.out.before;
  tokens : l.out.tokens ++ flat_map pair_tokens (drop l.at l.labels)
      ≡ l.fn.out.tokens ++ flat_map pair_tokens l.labels;
}
