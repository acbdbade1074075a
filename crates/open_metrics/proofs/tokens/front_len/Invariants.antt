use Rattle.std.proofs.Common.{◌≡◌, ◌+◌, drop}
use Rattle.open_metrics.specs.Tokens.{count_front}
use Rattle.open_metrics.proofs.tokens.front_len.Given as goal

abbrev pub invariant-loop-c : goal.invariant-loop-c
invariant-loop-c l = record {
  same : l.n ≡ l.c-index;
  so_far : l.n + count_front l.class (drop l.c-index l.bytes) ≡ count_front l.class l.bytes;
}
