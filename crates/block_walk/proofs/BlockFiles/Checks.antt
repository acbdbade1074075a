-- What a check of a list says of each element.
use Rattle.std.proofs.Common.{◌≡◌, ℕ, Bool, true, false, ◌&&◌, ◌||◌, ◌⊎◌, eqb, List, [], ◌∷◌, Result, Ok, inl, inr, refl, subst}
use Rattle.std.specs.List.{AllByRecursion, Contains, list_all}
use Rattle.std.proofs.lemmas.Bool.{eq-eqb, eqb-true}
use Rattle.labels.proofs.Lists.{here, there, Contains-cases, none_in_nil}
use Rattle.chunk_reader.specs.declared.error.ChunkError.{ChunkError}
use Rattle.wire.proofs.Steps.{bind_ok}
use Rattle.block_walk.specs.IndexFile.Series.{Series, references}
use Rattle.tombstones.specs.declared.deletion.Deletion.{Deletion}
use Rattle.block_walk.specs.BlockFiles.Reading.{each_check, is_known}

both_hold : (a b : Bool) → (a && b) ≡ true → (a ≡ true) × (b ≡ true)
both_hold true b h = (refl, h)
both_hold false b h = absurd cc

pub all_pass : {X : Type 0} (p : X → Bool) (xs : List X) → list_all p xs ≡ true
    → AllByRecursion (λ x. p x ≡ true) xs
all_pass p [] h = tt
all_pass p (x ∷ xs) h = let a = both_hold (p x) (list_all p xs) h in (a.0, all_pass p xs a.1)

pub pass_all : {X : Type 0} (p : X → Bool) (xs : List X) → AllByRecursion (λ x. p x ≡ true) xs
    → list_all p xs ≡ true
pass_all p [] a = refl
pass_all p (x ∷ xs) a = rw (a.0) (pass_all p xs a.1)

pub weaken : {X : Type 0} (P Q : X → Type 0) → ((x : X) → P x → Q x) → (xs : List X)
    → AllByRecursion P xs → AllByRecursion Q xs
weaken P Q h [] a = tt
weaken P Q h (x ∷ xs) a = (h x a.0, weaken P Q h xs a.1)

-- the checks of all, one after the other

pub each_pass : {A : Type 0} (check : A → Result (Unit {0}) ChunkError) (xs : List A)
    → each_check check xs ≡ Ok tt → AllByRecursion (λ x. check x ≡ Ok tt) xs
unfolding each_check
each_pass check [] h = tt
each_pass check (x ∷ xs) h =
    let a = bind_ok (check x) (λ _. each_check check xs) tt h in (a.1, each_pass check xs a.2)

pub pass_each : {A : Type 0} (check : A → Result (Unit {0}) ChunkError) (xs : List A)
    → AllByRecursion (λ x. check x ≡ Ok tt) xs → each_check check xs ≡ Ok tt
unfolding each_check
pass_each check [] a = refl
pass_each check (x ∷ xs) a = rw (a.0) (pass_each check xs a.1)

-- references that there are

either_holds : (a b : Bool) → (a || b) ≡ true → (a ≡ true) ⊎ (b ≡ true)
either_holds true b h = inl refl
either_holds false b h = inr h

pub known_in : (d : Deletion) (ss : List Series) → is_known ss d ≡ true
    → Contains (references ss) d.reference
known_in d [] h = absurd cc
known_in d (s ∷ ss) h =
    elim (either_holds (eqb s.reference d.reference) (is_known ss d) h) [
      | inl e ↦
          subst (λ (r : ℕ). Contains (s.reference ∷ references ss) r)
          (eqb-true s.reference d.reference e) (here s.reference (references ss))
      | inr rest ↦ there s.reference d.reference (references ss) (known_in d ss rest)
    ]

or_left : (a b : Bool) → a ≡ true → (a || b) ≡ true
or_left true b h = refl
or_left false b h = absurd cc

or_right : (a b : Bool) → b ≡ true → (a || b) ≡ true
or_right true b h = refl
or_right false b h = h

pub in_known : (d : Deletion) (ss : List Series) → Contains (references ss) d.reference
    → is_known ss d ≡ true
in_known d [] c = absurd (none_in_nil d.reference c)
in_known d (s ∷ ss) c =
    elim (Contains-cases s.reference (references ss) d.reference c) [
      | inl e ↦
          or_left (eqb s.reference d.reference) (is_known ss d) (eq-eqb s.reference d.reference e)
      | inr rest ↦ or_right (eqb s.reference d.reference) (is_known ss d) (in_known d ss rest)
    ]
