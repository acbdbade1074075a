-- The order of texts and of pairs of texts, and equal bytes.
use Rattle.std.proofs.Common.{◌≡◌, true, List, ℕ, sym, ◌∙◌, ap}
use Rattle.std.specs.Str.{bytes_eq}
use Rattle.std.specs.Ordering.{is_eq}
use Rattle.std.specs.declared.cmp.Ordering.TheVariants.{Equal}
use Rattle.std.specs.Cmp.{IsTotalOrder, tied_itself, Equal-is, eq_by_cmp_equiv}
use Rattle.std.specs.Cmp.Lexicographic.{texts_ties}
use Rattle.std.specs.FinMap.{IsAntisymmetric, slice_cmp-IsAntisymmetric, nat_cmp-IsAntisymmetric}
use Rattle.std.proofs.lemmas.Cmp.{nat_list_cmp_total, on_total, then_total}
use Rattle.std.proofs.lemmas.Map.Lookups.{exact_pairs}
use Rattle.labels.specs.Labels.{text_cmp, pair_cmp}

pub text_total : IsTotalOrder text_cmp
text_total = nat_list_cmp_total

pub text_exact : IsAntisymmetric text_cmp
text_exact = slice_cmp-IsAntisymmetric nat_cmp-IsAntisymmetric

pub pair_total : IsTotalOrder pair_cmp
pair_total = then_total (on_total (λ p. p.0) text_total) (on_total (λ p. p.1) text_total)

pub pair_exact : IsAntisymmetric pair_cmp
pair_exact = exact_pairs text_cmp text_cmp text_exact text_exact

pub text_self : (a : List ℕ) → text_cmp a a ≡ Equal
text_self a = tied_itself text_total a

-- equal bytes are one text
pub bytes_exact : (a b : List ℕ) → bytes_eq a b ≡ true → a ≡ b
bytes_exact a b e = text_exact a b ((Equal-is (text_cmp a b)).0 (sym (texts_ties a b) ∙ e))

pub bytes_self : (a : List ℕ) → bytes_eq a a ≡ true
bytes_self a = texts_ties a a ∙ ap is_eq (text_self a)

pub bytes_turn : (a b : List ℕ) → bytes_eq a b ≡ bytes_eq b a
bytes_turn a b = texts_ties a b ∙ (eq_by_cmp_equiv text_total).symm a b ∙ sym (texts_ties b a)
