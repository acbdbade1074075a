-- Numbers that are picked from a part are references of it, and separators where no neighbours share
-- a run.
use Rattle.std.proofs.Common.{◌≡◌, ℕ, zero, suc, ◌<◌, Bool, true, false, not, is_some, List, [], ◌∷◌, Option, None, Some, refl, sym, ◌∙◌, ap}
use Rattle.std.specs.List.{Contains}
use Rattle.std.specs.List.Sorted.{IsStrictlyIncreasing}
use Rattle.labels.specs.Parts.{Part, references}
use Rattle.labels.proofs.Lists.{here, there, rising-tail, rising-head}
use Rattle.labels.proofs.Times.{true_not_false}
use Rattle.matchers.specs.Views.{QueryView}
use Rattle.cover.specs.Asking.{asked}
use Rattle.cover.specs.Certificates.{Asked, IsFittingRun, AreSeparators}
use Rattle.auditor.specs.Auditing.{ShareAt}
use Rattle.auditor.specs.Looking.{are_picked, shared_at}
use Rattle.auditor.proofs.Separating.{AreIn, picked_are, are_picked-of, some_shared, none_shared, separators_of}
use Rattle.whole_audit.specs.Showing.{AreReferences}

module _ (part : Part) (rises : IsStrictlyIncreasing (references part)) where
  pub references_of_picked : (ns : List ℕ) → are_picked ns part ≡ true → AreReferences part ns
  references_of_picked ns h =
      let k : IsStrictlyIncreasing ns × AreIn (references part) ns = picked_are ns part rises h in
      record { ascending = k.0; of_part = k.1 }

  pub picked_of_references : (ns : List ℕ) → AreReferences part ns → are_picked ns part ≡ true
  picked_of_references ns are = are_picked-of ns part rises are.ascending are.of_part

-- no two of these share a fitting run
abbrev AreApart : Asked → List ℕ → Type 0
AreApart a seps =
    (r s : ℕ) → Contains seps r → Contains seps s → r < s → (run : List ℕ) → IsFittingRun a run
    → Contains run r → Contains run s → ⊥

shared_not : (a : Asked) (seps : List ℕ) (at : ℕ) → ShareAt a seps at → IsStrictlyIncreasing seps
    → AreApart a seps → ⊥
shared_not a [] at h up apart = h
shared_not a (r ∷ []) at h up apart = h
shared_not a (r ∷ s ∷ ss) zero h up apart =
    apart r s (here r (s ∷ ss)) (there r s (s ∷ ss) (here s ss))
    (rising-head r (s ∷ ss) up s (here s ss)) h.run h.fitting h.has_first h.has_second
shared_not a (r ∷ s ∷ ss) (suc at) h up apart =
    shared_not a (s ∷ ss) at h (rising-tail r (s ∷ ss) up) (λ x y cx cy.
    apart x y (there r x (s ∷ ss) cx) (there r y (s ∷ ss) cy))

module _ (part : Part) (query : QueryView) (rises : IsStrictlyIncreasing (references part)) where
  pub separators_picked : (ns : List ℕ) → are_picked ns part ≡ true → shared_at query ns part ≡ None
      → AreSeparators (asked part query) ns
  separators_picked [] h none =
      let k : IsStrictlyIncreasing [] × AreIn (references part) [] = picked_are [] part rises h in
      separators_of part query rises [] k.0 k.1 (λ j share. share)
  separators_picked (r ∷ ss) h none =
      let k : IsStrictlyIncreasing (r ∷ ss) × AreIn (references part) (r ∷ ss) =
      picked_are (r ∷ ss) part rises h in
      separators_of part query rises (r ∷ ss) k.0 k.1
      (none_shared part query rises r ss 0 k.0 k.1 none)

  pub picked_separators : (ns : List ℕ) → AreSeparators (asked part query) ns
      → are_picked ns part ≡ true
  picked_separators ns are = are_picked-of ns part rises are.ascending are.of_part

  pub apart_separators : (ns : List ℕ) → AreSeparators (asked part query) ns
      → shared_at query ns part ≡ None
  apart_separators [] are = refl
  apart_separators (r ∷ ss) are = go (shared_at query (r ∷ ss) part) refl
    where
      go : (o : Option ℕ) → shared_at query (r ∷ ss) part ≡ o → o ≡ None
      go None e = refl
      go (Some at) e =
          let found = some_shared part query rises r ss 0 at are.ascending are.of_part e in
          absurd (shared_not (asked part query) (r ∷ ss) found.0 found.1.1.shared are.ascending
          are.apart)

pub none_of : (o : Option ℕ) (b : Bool) → is_some o ≡ not b → b ≡ true → o ≡ None
none_of None b e h = refl
none_of (Some x) b e h = absurd (true_not_false (e ∙ ap not h))

pub of_none : (o : Option ℕ) (b : Bool) → is_some o ≡ not b → o ≡ None → b ≡ true
of_none o true e h = refl
of_none o false e h = absurd (true_not_false (sym e ∙ ap is_some h))
