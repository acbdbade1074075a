-- A sound answer has no flaw.
use Rattle.std.proofs.Common.{ℕ, zero, suc, ◌<◌, inl, inr, List, [], ◌∷◌, sym, ◌∙◌}
use Rattle.std.specs.List.{Contains}
use Rattle.std.specs.List.Sorted.{IsStrictlyIncreasing}
use Rattle.labels.specs.Parts.{Part}
use Rattle.labels.proofs.Lists.{here, there, rising-tail, rising-head}
use Rattle.labels.proofs.Times.{true_not_false}
use Rattle.matchers.specs.Views.{QueryView}
use Rattle.cover.specs.declared.certificate.Interval.{Interval}
use Rattle.cover.specs.declared.certificate.Verdict.{Verdict}
use Rattle.cover.specs.declared.certificate.Verdict.TheVariants.{Match, NoSample, Rejected}
use Rattle.cover.specs.declared.part_cover.PartAnswer.{PartAnswer}
use Rattle.cover.specs.Asking.{asked}
use Rattle.cover.specs.Certificates.{Asked, IsFittingRun}
use Rattle.auditor.specs.declared.flaw.Flaw.{Flaw}
use Rattle.auditor.specs.declared.flaw.Flaw.TheVariants.{NotAPartition, NotMatching, NotRejected, SeparatorCount, SeparatorsFit, WrongRows, UnknownMatcher, NotSilent, Hidden, WrongMerge, Memory}
use Rattle.auditor.specs.Auditing.{AllFit, IsFirstMisfit, ShareAt, IsSoundAnswer, IsFlaw}

misfits_not : (a : Asked) (c : List Interval) (v : Verdict) → IsFirstMisfit a c v → AllFit a c → ⊥
misfits_not a [] v h fit = h
misfits_not a (i ∷ is) v h fit = elim h [
  | inl first ↦ first.0 (fit i (here i is))
  | inr later ↦ misfits_not a is v later.1 (λ k m. fit k (there i k is m))
]

-- no two of these share a fitting run
abbrev AreApart : Asked → List ℕ → Type 0
AreApart a seps =
    (r s : ℕ) → Contains seps r → Contains seps s → r < s → (run : List ℕ) → IsFittingRun a run
    → Contains run r → Contains run s → ⊥

shared_not : (a : Asked) (seps : List ℕ) (at : ℕ) → ShareAt a seps at → IsStrictlyIncreasing seps
    → AreApart a seps → ⊥
shared_not a [] at h up apart = h
shared_not a (r ∷ []) at h up apart = h
shared_not a (r ∷ s ∷ ss) zero h up apart =
    apart r s (here r (s ∷ ss)) (there r s (s ∷ ss) (here s ss))
    (rising-head r (s ∷ ss) up s (here s ss)) h.run h.fitting h.has_first h.has_second
shared_not a (r ∷ s ∷ ss) (suc at) h up apart =
    shared_not a (s ∷ ss) at h (rising-tail r (s ∷ ss) up) (λ x y cx cy.
    apart x y (there r x (s ∷ ss) cx) (there r y (s ∷ ss) cy))

pub sound_not : (part : Part) (q : QueryView) (answer : PartAnswer) (flaw : Flaw)
    → IsSoundAnswer part q answer → IsFlaw part q answer flaw → ⊥
sound_not part q answer UnknownMatcher sound h = true_not_false (sym sound.known ∙ h)
sound_not part q answer NotAPartition sound h = h.1 (record {
  partition = sound.valid.partition;
  begins = sound.valid.begins;
  chained = sound.valid.chained;
})
sound_not part q answer NotMatching sound h =
    misfits_not (asked part q) answer.cover.certificate.items Match h.1 sound.valid.fits
sound_not part q answer (NotRejected matcher) sound h =
    misfits_not (asked part q) answer.cover.certificate.items (Rejected matcher)
    h.1 sound.valid.fits
sound_not part q answer NotSilent sound h =
    misfits_not (asked part q) answer.cover.certificate.items NoSample h.1 sound.valid.fits
sound_not part q answer SeparatorCount sound h = h.2 (record {
  ascending = sound.separated.ascending;
  of_part = sound.separated.of_part;
  as_many = sound.as_many;
})
sound_not part q answer (SeparatorsFit at) sound h =
    shared_not (asked part q) answer.cover.separators.items at h.3.shared sound.separated.ascending
    sound.separated.apart
sound_not part q answer WrongRows sound h = h.4 sound.rows
sound_not part q answer Hidden sound h = h
sound_not part q answer WrongMerge sound h = h
sound_not part q answer Memory sound h = h
