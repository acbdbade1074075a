-- One slot more, and parts after parts.
use Rattle.std.proofs.Common.{◌≡◌, ℕ, zero, suc, ◌+◌, ◌≤◌, ◌<◌, List, [], ◌∷◌, ◌++◌, length, take}
use Rattle.std.proofs.Common.{drop, get_or, refl, sym, ap, subst, ◌∙◌, append_assoc, arith}
use Rattle.std.proofs.lemmas.List.{take-append-drop, append-nil}
use Rattle.std.specs.Prelude.{true, ◌==◌}
use Rattle.std.proofs.lemmas.Bool.{eqb-true}
use Rattle.time_cuts.specs.declared.slot.Slot.{Slot}
use Rattle.time_cuts.specs.declared.slot.Limits.{Limits}
use Rattle.time_cuts.specs.Parts.{begun_in, most_in, carried_into, IsWithin, AreParts}

begun_next : (slots : List Slot) (k : ℕ) (d : Slot) → k < length slots
    → begun_in (take (suc k) slots) ≡ begun_in (take k slots) + (get_or slots k d).begun
begun_next [] k d lt = absurd (omega (arith, lt))
begun_next (x ∷ slots) zero d lt = omega arith
begun_next (x ∷ slots) (suc k) d lt = omega (arith, begun_next slots k d (omega (arith, lt)))

most_next : (slots : List Slot) (k : ℕ) (d : Slot) → k < length slots
    → most_in (take (suc k) slots) ≡ most_in (take k slots) + (get_or slots k d).most
most_next [] k d lt = absurd (omega (arith, lt))
most_next (x ∷ slots) zero d lt = omega arith
most_next (x ∷ slots) (suc k) d lt = omega (arith, most_next slots k d (omega (arith, lt)))

carried_of_some : (slots : List Slot) (k : ℕ)
    → carried_into (take (suc k) slots) ≡ carried_into slots
carried_of_some [] k = refl
carried_of_some (x ∷ slots) k = refl

-- what the loop has added up before a slot
pub record AreSums (slots : List Slot) (k samples series : ℕ) : Type 0 where
  pub samples_are : samples ≡ carried_into slots + begun_in (take k slots)
  pub series_are : series ≡ most_in (take k slots)

pub sums_next : (slots : List Slot) (k : ℕ) (d : Slot) (samples series more most : ℕ)
    → k < length slots → AreSums slots k samples series
    → more ≡ samples + (get_or slots k d).begun → most ≡ series + (get_or slots k d).most
    → AreSums slots (suc k) more most
sums_next slots k d samples series more most lt sums p q = record {
  samples_are = omega (arith, begun_next slots k d lt, sums.samples_are, p);
  series_are = omega (arith, most_next slots k d lt, sums.series_are, q);
}

pub within_of_sums : (limits : Limits) (slots : List Slot) (k samples series : ℕ)
    → AreSums slots (suc k) samples series
    → samples ≤ limits.samples → series ≤ limits.series → IsWithin limits (take (suc k) slots)
within_of_sums limits slots k samples series sums few short = record {
  samples = omega (arith, carried_of_some slots k, sums.samples_are, few);
  series = omega (arith, sums.series_are, short);
}

pub not_within : (limits : Limits) (slots : List Slot) (k : ℕ) (d : Slot) (samples series : ℕ)
    → k < length slots → AreSums slots k samples series
    → (samples + (get_or slots k d).begun ≤ limits.samples
    → series + (get_or slots k d).most ≤ limits.series → ⊥)
    → IsWithin limits (take (suc k) slots) → ⊥
not_within limits slots k d samples series lt sums none w =
    none
    (omega (arith, carried_of_some slots k, begun_next slots k d lt, sums.samples_are, w.samples))
    (omega (arith, most_next slots k d lt, sums.series_are, w.series))

pub parts_next : (limits : Limits) (slots rest left : List Slot) (counts pushed : List ℕ) (n : ℕ)
    → ((more : List ℕ) → AreParts limits rest more → AreParts limits slots (counts ++ more))
    → (n ≡ 0 → ⊥) → n ≤ length rest → IsWithin limits (take n rest) → left ≡ drop n rest
    → pushed ≡ counts ++ n ∷ [] → (more : List ℕ) → AreParts limits left more
    → AreParts limits slots (pushed ++ more)
parts_next limits slots rest left counts pushed n goes_on some inside within e p more parts =
    let back : AreParts limits (drop n rest) more =
    subst (λ (x : List Slot). AreParts limits x more) e parts in
    let joined : pushed ++ more ≡ counts ++ n ∷ more =
    ap (λ (x : List ℕ). x ++ more) p ∙ append_assoc counts (n ∷ []) more in
    subst (λ (x : List ℕ). AreParts limits slots x) (sym joined)
    (goes_on (n ∷ more) (omega (arith, some), inside, within, back))

pub rest_next : (slots rest left : List Slot) (n : ℕ)
    → ((before : List Slot) × (slots ≡ before ++ rest)) → left ≡ drop n rest
    → (before : List Slot) × (slots ≡ before ++ left)
rest_next slots rest left n end e = (
  end.0 ++ take n rest,
  end.1 ∙ (ap (λ (x : List Slot). end.0 ++ x) (sym (take-append-drop n rest)
      ∙ ap (λ (x : List Slot). take n rest ++ x) (sym e))
      ∙ sym (append_assoc end.0 (take n rest) left)),
)

pub parts_end : (limits : Limits) (slots rest : List Slot) (counts : List ℕ)
    → ((more : List ℕ) → AreParts limits rest more → AreParts limits slots (counts ++ more))
    → rest ≡ [] → AreParts limits slots counts
parts_end limits slots rest counts goes_on none =
    subst (λ (x : List ℕ). AreParts limits slots x) (append-nil counts) (goes_on [] none)

pub none_left : (rest : List Slot) → true ≡ (length rest == 0) → rest ≡ []
none_left [] h = refl
none_left (s ∷ rest) h = absurd (omega (arith, eqb-true (length (s ∷ rest)) 0 (sym h)))
