use Rattle.std.proofs.Common.{take}
use Rattle.kept_world.specs.Sound.{IsMapOf, AreApart, label_sets}
use Rattle.kept_world.proofs.places.places_of.Given as goal

abbrev pub invariant-loop-place : goal.invariant-loop-place
invariant-loop-place l = record {
  maps : IsMapOf l.places (label_sets (take l.place l.series));
  apart : AreApart (label_sets (take l.place l.series));
}
