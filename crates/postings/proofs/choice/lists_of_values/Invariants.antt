use Rattle.std.proofs.Common.{◌≡◌, ◌+◌, ℕ, Some, map, slice_get}
use denote.Shadow.{shadow}
use denote.Text.{Utf8}
use Rattle.labels.specs.Sets.{union_all}
use Rattle.postings.specs.Differing.{differs}
use Rattle.postings.proofs.Choosing.{Gathered}
use Rattle.postings.proofs.choice.lists_of_values.Given as goal

abbrev pub invariant-loop-i : goal.invariant-loop-i
invariant-loop-i g l = record {
  same : l.tester ≡ l.initial.tester;
  text : shadow (Utf8 l.value);
  before : (k : ℕ) → k + 1 ≡ l.i → slice_get (g.S.Source.values l.source l.name) k ≡ Some l.value;
  gathered : Gathered (g.S.Source.part l.source) l.name (differs l.initial.tester)
      (g.S.Source.values l.source l.name) l.i
      (union_all (map g.S.List.Postings.remaining l.lists.items));
}
