-- Pairs that pass the tests are a label set.
use Rattle.std.proofs.Common.{◌≡◌, ℕ, zero, suc, ◌+◌, ◌<◌, ◌≤◌, Bool, true, false, List, [], ◌∷◌, length, get_or, refl, sym, ◌∙◌, arith}
use Rattle.std.specs.Prelude.{◌&&◌, nat_le}
use Rattle.std.specs.List.{list_all}
use Rattle.std.specs.Ordering.{is_lt}
use Rattle.std.specs.declared.cmp.Ordering.{Ordering}
use Rattle.std.specs.declared.cmp.Ordering.TheVariants.{Less, Equal, Greater}
use Rattle.std.specs.FinMap.Entries.{is_sorted}
use Rattle.std.proofs.lemmas.Cmp.{nat_list_cmp_total}
use Rattle.std.proofs.lemmas.Bool.Decides.{nat_tests}
use Rattle.labels.specs.Labels.{Labels, text_cmp}
use Rattle.labels.specs.LabelSets.{IsLabelSet, are_named, has_value}
use Rattle.labels.specs.Names.{is_name}
use Rattle.reply_reader.specs.Replies.{are_labels}
use Rattle.reply_reader.proofs.Booleans.{and_left, and_right}
use Rattle.reply_reader.proofs.Neighbours.{is_sorted-two}

less_when : (o : Ordering) → is_lt o ≡ true → o ≡ Less
less_when Less h = refl
less_when Equal h = cc
less_when Greater h = cc

rises : (ps : Labels) → is_sorted text_cmp ps ≡ true → (k : ℕ) (d : List ℕ × List ℕ)
    → k + 1 < length ps → text_cmp (get_or ps k d).0 (get_or ps (k + 1) d).0 ≡ Less
rises [] h k d lt = absurd (omega arith)
rises (p ∷ []) h k d lt = absurd (omega arith)
rises (p ∷ q ∷ ps) h zero d lt =
    less_when (text_cmp p.0 q.0) (and_left (is_lt (text_cmp p.0 q.0)) (is_sorted text_cmp (q ∷ ps))
    (sym (is_sorted-two text_cmp nat_list_cmp_total p q ps) ∙ h))
rises (p ∷ q ∷ ps) h (suc k) d lt =
    let e : suc k + 1 ≡ suc (k + 1) = omega arith in
    rw e (rises (q ∷ ps) (and_right (is_lt (text_cmp p.0 q.0)) (is_sorted text_cmp (q ∷ ps))
    (sym (is_sorted-two text_cmp nat_list_cmp_total p q ps) ∙ h)) k d (omega arith))

each_true : {X : Type 0} (p : X → Bool) (xs : List X) → list_all p xs ≡ true → (k : ℕ) (d : X)
    → k < length xs → p (get_or xs k d) ≡ true
each_true p [] h k d lt = absurd (omega arith)
each_true p (x ∷ xs) h zero d lt = and_left (p x) (list_all p xs) h
each_true p (x ∷ xs) h (suc k) d lt =
    each_true p xs (and_right (p x) (list_all p xs) h) k d (omega arith)

not_empty : (p : List ℕ × List ℕ) → has_value p ≡ true → p.1 ≡ [] → ⊥
not_empty p h e = let f : has_value p ≡ false = rw e refl in cc

few_when : (n : ℕ) → nat_le n 64 ≡ true → n ≤ 64
few_when n h = grind (arith, nat_tests)

pub is_label_set : (ps : Labels) → are_labels ps ≡ true → IsLabelSet ps
is_label_set ps h =
    let up = is_sorted text_cmp ps in
    let named = are_named ps in
    let valued = list_all has_value ps in
    let few = nat_le (length ps) 64 in
    let three : (up && named && valued) ≡ true = and_left (up && named && valued) few h in
    let two : (up && named) ≡ true = and_left (up && named) valued three in
    record {
      by_name = rises ps (and_left up named two);
      named = each_true (λ pair. is_name pair.0) ps (and_right up named two);
      valued =
          λ k d lt. not_empty (get_or ps k d)
          (each_true has_value ps (and_right (up && named) valued three) k d lt);
      few = few_when (length ps) (and_right (up && named && valued) few h);
    }
