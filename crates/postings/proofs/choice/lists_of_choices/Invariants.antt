use Rattle.std.proofs.Common.{map}
use Rattle.labels.specs.Sets.{union_all}
use Rattle.postings.specs.Differing.{differs}
use Rattle.postings.proofs.Choosing.{Gathered}
use Rattle.postings.proofs.choice.lists_of_choices.Given as goal

abbrev pub invariant-loop-choice : goal.invariant-loop-choice
invariant-loop-choice g l = record {
  gathered : Gathered (g.S.Source.part l.source) l.matcher.name (differs l.matcher) (map (λ choice. choice.now) l.choices) l.choice-index (union_all (map g.S.List.Postings.remaining l.lists.items));
}
