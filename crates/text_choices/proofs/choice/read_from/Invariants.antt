use Rattle.std.proofs.Common.{◌≡◌, [], chars, map, IsUtf8}
use Rattle.std.specs.Str.Iter.{chars_rest}
use Rattle.text_choices.specs.Alternatives.{spelled_from}
use Rattle.text_choices.specs.Shared.{AreShared}
use Rattle.text_choices.specs.declared.reading.Place.TheVariants.{Inside}
use Rattle.text_choices.proofs.Steps.{glue}
use Rattle.text_choices.proofs.choice.read_from.Given as goal

abbrev pub invariant-loop-c : goal.invariant-loop-c
invariant-loop-c l = record {
  same : glue (map (λ one. one.atoms.items) l.alternatives.items) l.atoms.items (spelled_from l.grouped l.place (chars (chars_rest l.c-iterator)))
      ≡ spelled_from l.grouped Inside (chars l.rest);
  utf8 : IsUtf8 (chars_rest l.c-iterator);
  shared : AreShared [] l.alternatives.items;
}
