-- The pairs of a sample that is read of a line that was written.
use Rattle.std.proofs.Common.{◌≡◌, ℕ, ◌≤◌, Bool, true, false, eqb, ltb, ◌||◌, List, []}
use Rattle.std.proofs.Common.{◌∷◌, length, None, refl, sym, ap, subst, ◌∙◌}
use Rattle.std.proofs.Common.{inl, inr, arith}
use Rattle.std.specs.Prelude.{◌≢◌, IsPermutation}
use Rattle.std.specs.List.{AllByRecursion, list_any}
use Rattle.std.specs.Str.{bytes_eq}
use Rattle.std.proofs.lemmas.Bool.{cases_Bool, eqb-true, ltb-true}
use Rattle.std.proofs.lemmas.List.Elements.{recursion_from_All}
use Rattle.std.proofs.lemmas.List.Sorted.{IsPermutation-cons, IsPermutation-middle}
use Rattle.std.proofs.lemmas.List.Sorted.{IsPermutation-refl, IsPermutation-sym}
use Rattle.std.proofs.lemmas.List.Sorted.{IsPermutation-trans, All-permutation, length_permutation}
use Rattle.std.proofs.lemmas.List.Sums.{AllPass-from_list_all, list_all-from_AllPass}
use Rattle.labels.specs.Labels.{Labels}
use Rattle.labels.specs.LabelSets.{IsLabelSet, IsMadeOf, are_named, has_value, refusal_of, repeats}
use Rattle.labels.specs.LabelSets.{same_name, with_values}
use Rattle.labels.specs.Names.{is_name}
use Rattle.labels.proofs.NamedPairs.{IsMadeOf-with_values, repeats-IsPermutation, repeats-by_name}
use Rattle.labels.proofs.Permutations.{IsPermutation-filter}
use Rattle.labels.proofs.Texts.{bytes_exact}
use Rattle.metrics_writer.specs.Series.{is_metric, is_name_label, metric_of}
use Rattle.open_metrics.specs.Labels.{Pair}
use Rattle.exposition.specs.Faults.{are_utf8, is_utf8_pair, name_label, pairs_fault}
use Rattle.metrics_laws.specs.Read.{others_of}

-- the name of the metric, and the other labels
abbrev pub named : Labels → Labels
named labels = (name_label, metric_of labels) ∷ others_of labels

neither : (a b : Bool) → (a || b) ≡ false → (a ≡ false) × (b ≡ false)
neither true b h = absurd cc
neither false b h = (refl, h)

-- where no other label has the name, none is left out
others_all : (p : Pair) (ps : Labels) → bytes_eq p.0 name_label ≡ true
    → list_any (same_name p) ps ≡ false → others_of ps ≡ ps
others_all p [] is none = refl
others_all p (q ∷ ps) is none =
    let apart = neither (same_name p q) (list_any (same_name p) ps) none in
    let e : p.0 ≡ name_label = bytes_exact p.0 name_label is in
    let differs : bytes_eq name_label q.0 ≡ false =
    subst (λ (n : List ℕ). bytes_eq n q.0 ≡ false) e apart.0 in
    elim (cases_Bool (is_name_label q)) [
      | inl f ↦ absurd (let g : q.0 ≡ name_label = bytes_exact q.0 name_label f in
          let h : bytes_eq name_label name_label ≡ false =
          subst (λ (n : List ℕ). bytes_eq name_label n ≡ false) g differs in cc)
      | inr f ↦ rw f (ap (λ (x : Labels). q ∷ x) (others_all p ps is apart.1))
    ]

-- a label set with a metric is its name and the other labels, in another order
pub named_permuted : (labels : Labels) → repeats labels ≡ false → metric_of labels ≢ []
    → IsPermutation (named labels) labels
named_permuted [] once some = absurd (some refl)
named_permuted (p ∷ ps) once some =
    let apart = neither (list_any (same_name p) ps) (repeats ps) once in
    elim (cases_Bool (is_name_label p)) [
      | inl e ↦
          let others = others_all p ps e apart.0 in
          let name = bytes_exact p.0 name_label e in
          rw (e, others)
          (subst (λ (n : List ℕ). IsPermutation ((n, p.1) ∷ ps) (p ∷ ps)) name
          (IsPermutation-refl (p ∷ ps)))
      | inr e ↦
          let rest = named_permuted ps apart.1 (rw e at some) in
          rw e
          (IsPermutation-trans ((name_label, metric_of ps) ∷ p ∷ others_of ps)
          (p ∷ named ps) (p ∷ ps)
          (IsPermutation-middle ((name_label, metric_of ps) ∷ []) p (others_of ps))
          (IsPermutation-cons p (named ps) ps rest))
    ]

has_it : (p : Pair) → p.1 ≢ [] → has_value p ≡ true
has_it (n, []) some = absurd (some refl)
has_it (n, x ∷ xs) some =
    elim (cases_Bool (eqb (length (x ∷ xs)) 0)) [
      | inl e ↦ absurd (omega (arith, eqb-true (length (x ∷ xs)) 0 e))
      | inr e ↦ rw e refl
    ]

with_all : (ps : Labels) → AllByRecursion (λ (p : Pair). p.1 ≢ []) ps → with_values ps ≡ ps
with_all [] all = refl
with_all (p ∷ ps) all = rw (has_it p all.0) (ap (λ (x : Labels). p ∷ x) (with_all ps all.1))

not_more : (n : ℕ) → n ≤ 64 → ltb 64 n ≡ false
not_more n le =
    elim (cases_Bool (ltb 64 n)) [
      | inl e ↦ absurd (omega (arith, ltb-true 64 n e, le))
      | inr e ↦ e
    ]

some_metric : (name : List ℕ) → is_metric name ≡ true → name ≢ []
some_metric [] h = absurd cc
some_metric (c ∷ cs) h = λ e. cc

-- what is so of the pairs
pub record Pairs (labels : Labels) : Type 0 where
  pub made : IsMadeOf labels (named labels)
  pub allowed : refusal_of (named labels) ≡ None

pub pairs_are : (labels : Labels) → IsLabelSet labels → is_metric (metric_of labels) ≡ true
    → Pairs labels
pairs_are labels set metric =
    let unlike = repeats-by_name labels set.by_name in
    let some = some_metric (metric_of labels) metric in
    let same = named_permuted labels unlike some in
    let back = IsPermutation-sym (named labels) labels same in
    let names : are_named (named labels) ≡ true =
    list_all-from_AllPass (λ (p : Pair). is_name p.0) (named labels)
    (All-permutation (λ (p : Pair). is_name p.0 ≡ true) labels (named labels) back set.named) in
    let once : repeats (named labels) ≡ false =
    sym (repeats-IsPermutation (named labels) labels same) ∙ unlike in
    let whole = with_all labels (recursion_from_All _ labels set.valued) in
    let long =
    length_permutation (with_values (named labels)) (with_values labels)
    (IsPermutation-filter has_value (named labels) labels same) in
    let short = ap (λ (ps : Labels). length ps) whole in
    let few =
    not_more (length (with_values (named labels))) (omega (arith, long, short, set.few)) in
    record {
      made =
          IsMadeOf-with_values (named labels) labels labels names same set.by_name (sym whole)
          set.few;
      allowed = rw (names, once, few) refl;
    }

pub no_pairs_fault : (labels : Labels) → IsLabelSet labels → is_metric (metric_of labels) ≡ true
    → are_utf8 labels ≡ true → pairs_fault (named labels) ≡ None
no_pairs_fault labels set metric utf8 =
    let some = some_metric (metric_of labels) metric in
    let same = named_permuted labels (repeats-by_name labels set.by_name) some in
    let all : are_utf8 (named labels) ≡ true =
    list_all-from_AllPass is_utf8_pair (named labels)
    (All-permutation (λ (p : Pair). is_utf8_pair p ≡ true) labels (named labels)
    (IsPermutation-sym (named labels) labels same)
    (AllPass-from_list_all is_utf8_pair labels utf8)) in
    rw (all, (pairs_are labels set metric).allowed) refl
