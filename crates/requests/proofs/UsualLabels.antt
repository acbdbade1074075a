-- Pairs in the order of their names are a label set as they stand.
use Rattle.std.proofs.Common.{◌≡◌, ℕ, ◌+◌, ◌<◌, ◌≤◌, List, [], ◌∷◌, ◌++◌, length, get_or, zero, suc}
use Rattle.std.proofs.Common.{true, Less, Greater, Bor, inl, inr, refl, sym, ap, ◌∙◌, arith}
use Rattle.std.proofs.Common.{length-append}
use Rattle.std.specs.Cmp.Lexicographic.{slice_cmp}
use Rattle.std.specs.Ordering.{nat_cmp, ordering_reverse}
use Rattle.std.proofs.lemmas.Bool.{cases_lt}
use Rattle.std.proofs.lemmas.Cmp.{nat_list_cmp_total}
use Rattle.std.proofs.Math.Seq.{get_or-append_seam}
use Rattle.std.proofs.lemmas.List.{get_or_append_left, map-append}
use Rattle.std.proofs.lemmas.List.Elements.{filter-append}
use Rattle.std.proofs.lemmas.List.Folds.{list_all-append}
use Rattle.std.proofs.lemmas.List.Sorted.{IsPermutation-refl}
use Rattle.labels.specs.Labels.{IsByName}
use Rattle.labels.specs.LabelSets.{are_named, has_value, with_values}
use Rattle.labels.specs.Names.{is_name}
use Rattle.labels.specs.Pairs.{texts_of}
use Rattle.labels.proofs.NamedPairs.{IsMadeOf-with_values, repeats-by_name}
use Rattle.labels.proofs.Refusals.{refusal-none}
use Rattle.requests.specs.Usual.{AreLabels}

-- the name is behind each of the pairs
abbrev pub IsBehind : List ℕ → List (List ℕ × List ℕ) → Type 0
IsBehind name [] = Unit {0}
IsBehind name (p ∷ ps) = (slice_cmp nat_cmp name p.0 ≡ Greater) × IsBehind name ps

behind_more : (name : List ℕ) (ps : List (List ℕ × List ℕ)) (p : List ℕ × List ℕ) → IsBehind name ps
    → slice_cmp nat_cmp name p.0 ≡ Greater → IsBehind name (ps ++ p ∷ [])
behind_more name [] p all one = (one, tt)
behind_more name (q ∷ ps) p all one = (all.0, behind_more name ps p all.1 one)

behind_through : (a b c : List ℕ) → slice_cmp nat_cmp a b ≡ Greater → slice_cmp nat_cmp b c
    ≡ Greater → slice_cmp nat_cmp a c ≡ Greater
behind_through a b c h k =
    let first : slice_cmp nat_cmp b a ≡ Less = nat_list_cmp_total.antisymm b a
    ∙ ap ordering_reverse h in
    let second : slice_cmp nat_cmp c b ≡ Less = nat_list_cmp_total.antisymm c b
    ∙ ap ordering_reverse k in
    nat_list_cmp_total.antisymm a c ∙ ap ordering_reverse (nat_list_cmp_total.trans c b a second
    first)

-- what is behind the last name is behind all
behind_last : (last : List ℕ) (done : List (List ℕ × List ℕ)) (p : List ℕ × List ℕ)
    → ((n : List ℕ) → slice_cmp nat_cmp n last ≡ Greater → IsBehind n done)
    → slice_cmp nat_cmp p.0 last ≡ Greater → (n : List ℕ) → slice_cmp nat_cmp n p.0 ≡ Greater
    → IsBehind n (done ++ p ∷ [])
behind_last last done p all one n above = behind_more n done p
    (all n (behind_through n p.0 last above one)) above

behind_at : (name : List ℕ) (ps : List (List ℕ × List ℕ)) (k : ℕ) (d : List ℕ × List ℕ)
    → IsBehind name ps → k < length ps → slice_cmp nat_cmp (get_or ps k d).0 name ≡ Less
behind_at name [] k d all lt = absurd (omega arith)
behind_at name (p ∷ ps) zero d all lt = nat_list_cmp_total.antisymm p.0 name
    ∙ ap ordering_reverse all.0
behind_at name (p ∷ ps) (suc k) d all lt = behind_at name ps k d all.1 (omega arith)

seam : (ps : List (List ℕ × List ℕ)) (p d : List ℕ × List ℕ) (at : ℕ) → at ≡ length ps
    → get_or (ps ++ p ∷ []) at d ≡ p
seam ps p d at e = rw e (get_or-append_seam ps p [] d)

by_name_more : (ps : List (List ℕ × List ℕ)) (p : List ℕ × List ℕ) → IsByName ps → IsBehind p.0 ps
    → IsByName (ps ++ p ∷ [])
by_name_more ps p by_name behind k d inside =
    let long = length-append ps (p ∷ []) in
    elim (cases_lt (k + 1) (length ps)) [
      | inl lt ↦
          let first : get_or (ps ++ p ∷ []) k d ≡ get_or ps k d = get_or_append_left ps (p ∷ []) d k
          (omega arith) in
          let second : get_or (ps ++ p ∷ []) (k + 1) d ≡ get_or ps (k + 1) d = get_or_append_left ps
          (p ∷ []) d (k + 1) lt in
          rw (first, second) (by_name k d lt)
      | inr le ↦
          let at : k + 1 ≡ length ps = omega (arith, long) in
          let first : get_or (ps ++ p ∷ []) k d ≡ get_or ps k d = get_or_append_left ps (p ∷ []) d k
          (omega arith) in
          let second : get_or (ps ++ p ∷ []) (k + 1) d ≡ p = seam ps p d (k + 1) at in
          rw (first, second) (behind_at p.0 ps k d behind (omega arith))
    ]

-- ---- the pairs so far

pub record LabelsSoFar (last : List ℕ) (done : List (List ℕ × List ℕ)) : Type 0 where
  pub behind : (name : List ℕ) → slice_cmp nat_cmp name last ≡ Greater → IsBehind name done
  pub by_name : IsByName done
  pub named : are_named done ≡ true
  pub valued : with_values done ≡ done
  pub few : length done ≤ 64

pub no_labels : (last : List ℕ) → LabelsSoFar last []
no_labels last = record {
  behind = λ name above. tt;
  by_name = λ k d inside. absurd (omega arith);
  named = refl;
  valued = refl;
  few = omega arith;
}

pub one_label_more : (last : List ℕ) (done : List (List ℕ × List ℕ)) (p : List ℕ × List ℕ)
    → LabelsSoFar last done → slice_cmp nat_cmp p.0 last ≡ Greater → is_name p.0 ≡ true
    → has_value p ≡ true
    → length done < 64 → LabelsSoFar p.0 (done ++ p ∷ [])
one_label_more last done p so_far above named valued room = record {
  behind = behind_last last done p so_far.behind above;
  by_name = by_name_more done p so_far.by_name (so_far.behind p.0 above);
  named = rw (
    list_all-append (λ (pair : List ℕ × List ℕ). is_name pair.0) done (p ∷ []),
    so_far.named,
    named,
  );
  valued = rw (filter-append has_value done (p ∷ []), so_far.valued, valued);
  few = omega (arith, length-append done (p ∷ []));
}

pub are_labels : (last : List ℕ) (done : List (List ℕ × List ℕ)) → LabelsSoFar last done
    → AreLabels done
are_labels last done so_far =
    let few = so_far.few in
    let none = refusal-none done done done so_far.named (IsPermutation-refl done)
    (repeats-by_name done so_far.by_name) (sym so_far.valued) few in (
      rw none,
      IsMadeOf-with_values done done done so_far.named (IsPermutation-refl done) so_far.by_name
          (sym so_far.valued) few,
    )

pub texts_pushed : (done next : List (Bor (List ℕ) × Bor (List ℕ))) (pair : Bor (List ℕ)
    × Bor (List ℕ)) → next ≡ done ++ pair ∷ []
    → texts_of next ≡ texts_of done ++ (pair.0.now, pair.1.now) ∷ []
texts_pushed done next pair e = rw (e, map-append)

pub length_texts : (pairs : List (Bor (List ℕ) × Bor (List ℕ))) → length (texts_of pairs)
    ≡ length pairs
length_texts [] = refl
length_texts (p ∷ ps) = ap suc (length_texts ps)
