-- The label set of a number that one has.
use Rattle.std.proofs.Common.{◌≡◌, ℕ, ◌<◌, true, List, [], length, get_or, Ok, Err, refl, sym, ap}
use Rattle.std.proofs.Common.{◌∙◌, ltb}
use Rattle.std.proofs.lemmas.Bool.{lt-ltb}
use Rattle.wire.specs.Outcome.{Fails}
use Rattle.labels.specs.Labels.{Labels}
use Rattle.kept_walk.specs.declared.fault.Fault.{Fault}
use Rattle.kept_walk.specs.declared.fault.Fault.TheVariants.{Memory, Form}
use Rattle.kept_walk.specs.Numbered.{Names}
use Rattle.kept_walk.specs.NumberedReading.{known_at, numbered_at}
use Rattle.kept_walk.specs.Outcome.{is_memory}
use Rattle.kept_walk.specs.Reading.{all_of, labels_at}

module _ (number : ℕ) (names : Names) (bytes text : List ℕ) (given : number < length names)
    (is : text ≡ get_or names number []) where
  pub known_read : (l : Labels) → all_of labels_at text ≡ Ok l
      → numbered_at number names bytes ≡ Ok ((l, names), bytes)
  unfolding known_at
  known_read l read =
      let low : ltb number (length names) ≡ true = lt-ltb _ _ given in
      let found : all_of labels_at (get_or names number []) ≡ Ok l =
      ap (all_of labels_at) (sym is) ∙ read in
      rw (low, found) refl

  not_read : all_of labels_at text ≡ Err Form → numbered_at number names bytes ≡ Err Form
  unfolding known_at
  not_read read =
      let low : ltb number (length names) ≡ true = lt-ltb _ _ given in
      let found : all_of labels_at (get_or names number []) ≡ Err Form =
      ap (all_of labels_at) (sym is) ∙ read in
      rw (low, found) refl

  pub known_fails : (e : Fault) → Fails is_memory e (all_of labels_at text)
      → Fails is_memory e (numbered_at number names bytes)
  known_fails Memory h = tt
  known_fails Form h = not_read h
