-- Points and numbers that are the same.
use Rattle.std.specs.Prelude.{◌≡◌, ℤ, true, int_lt}
use Rattle.std.specs.Ordering.{int_eq, is_eq, eq_by_cmp}
use Rattle.std.specs.Cmp.{tied_itself, Equal-is}
use Rattle.std.proofs.lemmas.Cmp.{int_cmp_total}
use Rattle.std.proofs.lemmas.Bool.Decides.{Decides-int_eq}
use Rattle.std.proofs.Common.{ap, refl}
use Rattle.labels.specs.Labels.{Point, point_cmp}
use Rattle.labels.proofs.OrderLaws.{point_total, point_exact}
use Rattle.labels.proofs.Times.{less_of, lt_of}

pub point_path : (a b : Point) → eq_by_cmp point_cmp a b ≡ true → a ≡ b
point_path a b e = point_exact a b ((Equal-is (point_cmp a b)).0 e)

pub point_self : (a : Point) → eq_by_cmp point_cmp a a ≡ true
point_self a = ap is_eq (tied_itself point_total a)

pub int_path : (a b : ℤ) → int_eq a b ≡ true → a ≡ b
int_path a b e = (Decides-int_eq a b).0 e

pub int_self : (a : ℤ) → int_eq a a ≡ true
int_self a = (Decides-int_eq a a).1 refl

pub lt_trans : (a b c : ℤ) → int_lt a b ≡ true → int_lt b c ≡ true → int_lt a c ≡ true
lt_trans a b c e f = lt_of a c (int_cmp_total.trans a b c (less_of a b e) (less_of b c f))
