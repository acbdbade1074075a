-- Pairs that pass the tests are a label set, and the loop over their names.
use Rattle.std.proofs.Common.{◌≡◌, ℕ, zero, suc, ◌+◌, ◌-◌, ◌<◌, ◌≤◌, Bool, true, false, List, []}
use Rattle.std.proofs.Common.{◌∷◌, length, get_or, Bor, sym, ap, ◌∙◌, refl, arith}
use Rattle.std.specs.Prelude.{◌&&◌, nat_le}
use Rattle.std.specs.List.{list_all}
use Rattle.std.specs.Ordering.{is_lt}
use Rattle.std.specs.declared.cmp.Ordering.{Ordering}
use Rattle.std.specs.declared.cmp.Ordering.TheVariants.{Less, Equal, Greater}
use Rattle.std.proofs.lemmas.Bool.Decides.{nat_tests}
use Rattle.std.proofs.lemmas.List.{get_or-map, length-map}
use Rattle.labels.specs.Labels.{Labels, text_cmp, IsByName}
use Rattle.labels.specs.LabelSets.{IsLabelSet, are_named, has_value}
use Rattle.labels.specs.Names.{is_name}
use Rattle.labels.specs.Pairs.{texts_of}
use Rattle.kept_walk.specs.Fields.{each_next, is_before, is_label_set}
use Rattle.kept_walk.proofs.NextTo.{IsLooking, looks_on, stops, ends}

abbrev Pair : Type 0
Pair = List ℕ × List ℕ

and_left : (x y : Bool) → (x && y) ≡ true → x ≡ true
and_left true y h = refl
and_left false y h = absurd cc

and_right : (x y : Bool) → (x && y) ≡ true → y ≡ true
and_right true y h = h
and_right false y h = absurd cc

less_when : (o : Ordering) → is_lt o ≡ true → o ≡ Less
less_when Less h = refl
less_when Equal h = absurd cc
less_when Greater h = absurd cc

by_name : (ps : Labels) → each_next is_before ps ≡ true → IsByName ps
by_name [] h k d lt = absurd (omega arith)
by_name (p ∷ []) h k d lt = absurd (omega arith)
by_name (p ∷ q ∷ ps) h zero d lt =
    less_when (text_cmp p.0 q.0) (and_left (is_before p q) (each_next is_before (q ∷ ps)) h)
by_name (p ∷ q ∷ ps) h (suc k) d lt =
    let e : suc k + 1 ≡ suc (k + 1) = omega arith in
    rw e (by_name (q ∷ ps) (and_right (is_before p q) (each_next is_before (q ∷ ps)) h) k d (omega arith))

each_true : {X : Type 0} (p : X → Bool) (xs : List X) → list_all p xs ≡ true → (k : ℕ) (d : X)
    → k < length xs → p (get_or xs k d) ≡ true
each_true p [] h k d lt = absurd (omega arith)
each_true p (x ∷ xs) h zero d lt = and_left (p x) (list_all p xs) h
each_true p (x ∷ xs) h (suc k) d lt =
    each_true p xs (and_right (p x) (list_all p xs) h) k d (omega arith)

not_empty : (p : Pair) → has_value p ≡ true → p.1 ≡ [] → ⊥
not_empty p h e = let f : has_value p ≡ false = rw e refl in cc

few_when : (n : ℕ) → nat_le n 64 ≡ true → n ≤ 64
few_when n h = grind (arith, nat_tests)

pub made : (ps : Labels) → is_label_set ps ≡ true → IsLabelSet ps
made ps h =
    let up = each_next is_before ps in
    let named = are_named ps in
    let valued = list_all has_value ps in
    let few = nat_le (length ps) 64 in
    let three : (up && named && valued) ≡ true = and_left (up && named && valued) few h in
    let two : (up && named) ≡ true = and_left (up && named) valued three in
    record {
      by_name = by_name ps (and_left up named two);
      named = each_true (λ pair. is_name pair.0) ps (and_right up named two);
      valued =
          λ k d lt. not_empty (get_or ps k d)
          (each_true has_value ps (and_right (up && named) valued three) k d lt);
      few = few_when (length ps) (and_right (up && named && valued) few h);
    }

-- the loop that looks at each name and the next

abbrev Borrowed : Type 0
Borrowed = Bor (List ℕ) × Bor (List ℕ)

abbrev pair_now : Borrowed → Pair
pair_now p = (p.0.now, p.1.now)

module _ (ps : List Borrowed) (i : ℕ) (d e : Borrowed) (some : 0 < i) (lt : i < length ps)
    (so_far : IsLooking is_before (texts_of ps) i) where
  long : i < length (texts_of ps)
  long = omega (arith, length-map ps pair_now)

  abbrev before : Pair
  before = pair_now (get_or ps (i - 1) d)

  abbrev here : Pair
  here = pair_now (get_or ps i e)

  seen : (b : Bool) → b ≡ is_lt (text_cmp before.0 here.0)
      → is_before (get_or (texts_of ps) (i - 1) before) (get_or (texts_of ps) i here) ≡ b
  seen b told =
      ap (λ (x : Pair). is_before x (get_or (texts_of ps) i here))
      (get_or-map pair_now ps (i - 1) d before (omega arith))
      ∙ (ap (λ (y : Pair). is_before before y) (get_or-map pair_now ps i e here lt) ∙ sym told)

  pub names_go_on : true ≡ is_lt (text_cmp before.0 here.0)
      → IsLooking is_before (texts_of ps) (i + 1)
  names_go_on told = looks_on is_before (texts_of ps) i before here some long (seen true told) so_far

  pub names_stop : false ≡ is_lt (text_cmp before.0 here.0)
      → false ≡ each_next is_before (texts_of ps)
  names_stop told = stops is_before (texts_of ps) i before here some long (seen false told) so_far

pub names_end : (ps : List Borrowed) (i : ℕ) → length ps ≤ i
    → IsLooking is_before (texts_of ps) i → true ≡ each_next is_before (texts_of ps)
names_end ps i le so_far =
    ends is_before (texts_of ps) i (omega (arith, length-map ps pair_now)) so_far
