use Rattle.std.proofs.Common.{◌≡◌, true, Decides, subst, arith}
use Rattle.std.proofs.lemmas.Bool.Decides.{nat_tests}
use Rattle.std.proofs.lemmas.Slice.Eq.{slice_eq-Decides}
use Rattle.index_reader.specs.declared.series.Series.{Series}
use Rattle.index_reader.specs.contracts.series.SeriesPartialEq.TheImpl as own
use Rattle.index_reader.proofs.series.are_same_series.Goals as goal

told : (a b : Series) → own.eq-value.it a b ≡ true → a ≡ b
told a b e = grind (arith, nat_tests)

itself : (a : Series) → own.eq-value.it a a ≡ true
itself a = grind (arith, nat_tests)

decided : (a b : Series) → Decides (own.eq-value.it a b) (a ≡ b)
decided a b = (told a b, λ same. subst (λ (x : Series). own.eq-value.it a x ≡ true) same (itself a))

pub returns : goal.returns
returns c = (slice_eq-Decides decided _ _ _ c.eq.ensures).0
