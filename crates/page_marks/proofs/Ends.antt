-- The first of doubles from an end, found one by one.
use Rattle.std.proofs.Common.{◌≡◌, ◌<◌, ◌≤◌, ◌+◌, ℕ, ℤ, List, length, ◌⊎◌, inl, inr, arith}
use Rattle.std.proofs.Common.{ap, sym, subst, ◌∙◌}
use Rattle.std.specs.Prelude.{Some, slice_get}
use Rattle.std.proofs.lemmas.Bool.{cases_order}
use Rattle.std.proofs.lemmas.Option.{slice_get_within}
use Rattle.page_text.specs.Values.{AreBitsOf}
use Rattle.page_marks.specs.declared.figures.End.{End}
use Rattle.page_marks.specs.declared.figures.Placed.{Placed}
use Rattle.page_marks.specs.Figures.{rank_of, HasValue, IsEnd}

-- where the double of a number stands
abbrev pub IsRanked : End → Placed → Type 0
IsRanked end p = (bits : ℕ) → AreBitsOf p.number bits → p.rank ≡ rank_of end bits

-- the first from an end of the first samples, and of another that is one of all
pub record IsFirst (end : End) (samples : List (ℤ × ℤ)) (i : ℕ) (p : Placed) : Type 0 where
  pub among : HasValue samples p.number
  pub ranked : IsRanked end p
  pub lowest : (at : ℕ) (s : ℤ × ℤ) (bits : ℕ) → at < i → slice_get samples at ≡ Some s
      → AreBitsOf s.1 bits → p.rank ≤ rank_of end bits

pub first_none : (end : End) (samples : List (ℤ × ℤ)) (p : Placed) → HasValue samples p.number
    → IsRanked end p → IsFirst end samples 0 p
first_none end samples p among ranked = record {
  among = among;
  ranked = ranked;
  lowest = λ at s bits h there are. omega (arith, h);
}

same_sample : (samples : List (ℤ × ℤ)) (at i : ℕ) (s t : ℤ × ℤ) → at ≡ i
    → slice_get samples at ≡ Some s → slice_get samples i ≡ Some t → s ≡ t
same_sample samples at i s t e there here =
    let same : Some s ≡ Some t =
    sym there ∙ (ap (λ (k : ℕ). slice_get samples k) e ∙ here) in
    cc

pub first_next : (end : End) (samples : List (ℤ × ℤ)) (i : ℕ) (s : ℤ × ℤ) (p q r : Placed)
    → slice_get samples i ≡ Some s → q.number ≡ s.1 → IsRanked end q → (r ≡ p) ⊎ (r ≡ q)
    → r.rank ≤ p.rank → r.rank ≤ q.rank → IsFirst end samples i p → IsFirst end samples (i + 1) r
first_next end samples i s p q r here number ranked one before_p before_q first = record {
  among = among one;
  ranked = is_ranked one;
  lowest = λ at t bits h there are. lowest at t bits h there are (cases_order at i);
}
  where
    among : (r ≡ p) ⊎ (r ≡ q) → HasValue samples r.number
    among (inl e) = subst (λ (x : Placed). HasValue samples x.number) (sym e) first.among
    among (inr e) =
        subst (λ (x : Placed). HasValue samples x.number) (sym e)
        (record { at = i; sample = s; there = here; value = number })

    is_ranked : (r ≡ p) ⊎ (r ≡ q) → IsRanked end r
    is_ranked (inl e) = subst (λ (x : Placed). IsRanked end x) (sym e) first.ranked
    is_ranked (inr e) = subst (λ (x : Placed). IsRanked end x) (sym e) ranked

    lowest : (at : ℕ) (t : ℤ × ℤ) (bits : ℕ) → at < i + 1 → slice_get samples at ≡ Some t
        → AreBitsOf t.1 bits → (at ≡ i) ⊎ ((at < i) ⊎ (i < at)) → r.rank ≤ rank_of end bits
    lowest at t bits h there are (inl e) =
        let same : t ≡ s = same_sample samples at i t s e there here in
        let of : AreBitsOf q.number bits =
        subst (λ (n : ℤ). AreBitsOf n bits) (ap (λ (x : ℤ × ℤ). x.1) same ∙ sym number) are in
        let rank : q.rank ≡ rank_of end bits = ranked bits of in
        omega (arith, before_q, rank)
    lowest at t bits h there are (inr (inl below)) =
        let its : p.rank ≤ rank_of end bits = first.lowest at t bits below there are in
        omega (arith, before_p, its)
    lowest at t bits h there are (inr (inr above)) = omega (arith, h, above)

pub first_all : (end : End) (samples : List (ℤ × ℤ)) (i : ℕ) (p : Placed) → length samples ≤ i
    → IsFirst end samples i p → IsEnd end samples p.number
first_all end samples i p all first = record {
  among = first.among;
  none_before = λ at s a b there of_s of_p.
      let within : at < length samples = slice_get_within samples at s there in
      let low : p.rank ≤ rank_of end a = first.lowest at s a (omega (arith, within, all)) there of_s in
      let rank : p.rank ≡ rank_of end b = first.ranked b of_p in
      omega (arith, low, rank);
}
