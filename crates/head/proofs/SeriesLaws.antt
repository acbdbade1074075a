-- A series stays sound with one sample more.
use Rattle.std.specs.Prelude.{◌≡◌, ◌<◌, ℕ, ℤ, true, false, not, List, [], ◌∷◌, refl, int_lt, length}
use Rattle.std.specs.declared.cmp.Ordering.TheVariants.{Equal}
use Rattle.std.specs.Cmp.{tied_itself}
use Rattle.std.proofs.Common.{ap, arith, length-append}
use Rattle.std.proofs.lemmas.Cmp.{int_cmp_total}
use Rattle.labels.proofs.Times.{both_T, T_of, less_of, not_lt_of, is_sorted-++, all_above-++, all_upto-++}
use Rattle.head.specs.Heads.{HeadSeries, IsSoundSeries}
use Rattle.head.specs.Taking.{grown}

pub IsSoundSeries-grown : (floor : ℤ) (s : ℤ × ℤ) (h : HeadSeries) → int_lt s.0 floor ≡ false → int_lt h.newest.0 s.0 ≡ true → length h.samples < 1048576 → IsSoundSeries floor h → IsSoundSeries floor (grown s h)
IsSoundSeries-grown floor s h above less room sound = record {
  few = let size = length-append h.samples (s ∷ []) in omega (arith, size, room);
  ascending = is_sorted-++ h.newest.0 s h.samples (less_of h.newest.0 s.0 less) sound.upto sound.ascending;
  above = all_above-++ floor s h.samples above sound.above;
  upto = all_upto-++ h.newest.0 s h.samples (less_of h.newest.0 s.0 less) sound.upto;
}

pub IsSoundSeries-new : (floor : ℤ) (l : List (List ℕ × List ℕ)) (s : ℤ × ℤ) → int_lt s.0 floor ≡ false → IsSoundSeries floor (record { labels = l; samples = s ∷ []; newest = s })
IsSoundSeries-new floor l s above = record {
  few = omega arith;
  ascending = tt;
  above = both_T _ _ (T_of _ (ap not above)) tt;
  upto = both_T _ _ (T_of _ (ap not (not_lt_of s.0 s.0 Equal (tied_itself int_cmp_total s.0) refl))) tt;
}
