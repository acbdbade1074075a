use Rattle.std.proofs.Common.{◌≡◌, ◌+◌, ◌≤◌, take}
use Rattle.exposition.specs.Reading.{AddAll, exemplars_in, said_in, texts_in, unsaid}
use Rattle.exposition.proofs.text.gather.Given as goal

abbrev pub invariant-loop-line : goal.invariant-loop-line
invariant-loop-line l = record {
  number : l.number ≡ l.line-index + 1;
  adds : AddAll l.format l.places l.reading 1 (texts_in (take l.line-index l.lines)) unsaid
      (said_in l.gathered);
  few : l.exemplars ≤ l.line-index;
  counted : l.exemplars ≡ exemplars_in l.format l.places (texts_in (take l.line-index l.lines));
}
