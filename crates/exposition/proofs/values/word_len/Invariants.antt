use Rattle.std.proofs.Common.{◌≡◌, ◌+◌, drop}
use Rattle.open_metrics.specs.declared.tokens.Class.TheVariants.{Word}
use Rattle.open_metrics.specs.Tokens.{count_front}
use Rattle.exposition.proofs.values.word_len.Given as goal

abbrev pub invariant-loop-c : goal.invariant-loop-c
invariant-loop-c l = record {
  same : l.n ≡ l.c-index;
  so_far : l.n + count_front Word (drop l.c-index l.bytes) ≡ count_front Word l.bytes;
}
