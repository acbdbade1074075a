-- The files that are written for rows are those by which it is told whether they fit.
use Rattle.std.proofs.Common.{◌≡◌, ℕ, ◌≤◌, ◌<◌, ◌⊎◌, inl, inr, Bool, true, false, List, [], ◌∷◌, length, refl, sym, ◌∙◌, ap, subst, arith}
use Rattle.std.specs.Prelude.{◌&&◌, nat_le}
use Rattle.std.specs.List.{Contains, AllByRecursion}
use Rattle.std.specs.List.Sorted.{IsStrictlySortedBy}
use Rattle.std.specs.Cmp.{IsTotalOrder}
use Rattle.std.specs.FinMap.{IsAntisymmetric}
use Rattle.std.specs.Ordering.{ordering_reverse}
use Rattle.std.specs.declared.cmp.Ordering.{Ordering}
use Rattle.std.specs.declared.cmp.Ordering.TheVariants.{Less, Equal, Greater}
use Rattle.std.proofs.lemmas.Bool.Decides.{nat_tests}
use Rattle.labels.specs.Labels.{text_cmp, pair_cmp}
use Rattle.labels.specs.Rows.{Row}
use Rattle.labels.proofs.Lists.{here, there, Contains-cases, none_in_nil}
use Rattle.labels.proofs.Texts.{text_total, text_exact, pair_total, pair_exact}
use Rattle.block_writer.specs.InUse.{texts_in, pairs_in, HoldsEachOnce}
use Rattle.block_writer.specs.IndexText.{index_text}
use Rattle.block_writer.specs.Writing.{chunks_text}
use Rattle.block_writer.specs.Written.{limit, IsWrittenIndex}
use Rattle.head.specs.Fits.{placed_by, with_one, each_once, index_of, files_fit}

less_not_greater : (o : Ordering) → o ≡ Less → o ≡ Greater → ⊥
less_not_greater Less e f = absurd cc
less_not_greater Equal e f = absurd cc
less_not_greater Greater e f = absurd cc

less_not_equal : (o : Ordering) → o ≡ Less → o ≡ Equal → ⊥
less_not_equal Less e f = absurd cc
less_not_equal Equal e f = absurd cc
less_not_equal Greater e f = absurd cc

at_all : {X : Type 0} (P : X → Type 0) (xs : List X) (x : X) → AllByRecursion P xs → Contains xs x → P x
at_all P [] x all c = absurd (none_in_nil x c)
at_all P (y ∷ ys) x all c = elim (Contains-cases y ys x c) [
  | inl e ↦ subst P e all.0
  | inr d ↦ at_all P ys x all.1 d
]

all_map : {X : Type 0} (P Q : X → Type 0) (xs : List X) → ((x : X) → P x → Q x) → AllByRecursion P xs → AllByRecursion Q xs
all_map P Q [] f all = tt
all_map P Q (x ∷ xs) f all = (f x all.0, all_map P Q xs f all.1)

module _ {X : Type 0} (cmp : X → X → Ordering) (total : IsTotalOrder cmp) (exact : IsAntisymmetric cmp) where
  -- where one is put, all stand that stood there, and it
  all_one : (P : X → Type 0) (x : X) (ys : List X) → P x → AllByRecursion P ys → AllByRecursion P (with_one cmp x ys)
  all_one P x [] p all = (p, tt)
  all_one P x (y ∷ ys) p all =
      elim (cmp x y) as (λ o. AllByRecursion P (placed_by o x y ys (with_one cmp x ys))) [
        | Less ↦ (p, all)
        | Equal ↦ all
        | Greater ↦ (all.0, all_one P x ys p all.1)
      ]

  sorted_one : (x : X) (ys : List X) → IsStrictlySortedBy cmp ys → IsStrictlySortedBy cmp (with_one cmp x ys)
  unfolding IsStrictlySortedBy
  sorted_one x [] up = (tt, tt)
  sorted_one x (y ∷ ys) up =
      elim (cmp x y) as (λ o. cmp x y ≡ o → IsStrictlySortedBy cmp (placed_by o x y ys (with_one cmp x ys))) [
        | Less ↦ λ e. ((e, all_map (λ z. cmp y z ≡ Less) (λ z. cmp x z ≡ Less) ys (λ z f. total.trans x y z e f) up.0), up)
        | Equal ↦ λ e. up
        | Greater ↦ λ e. (all_one (λ z. cmp y z ≡ Less) x ys (total.antisymm y x ∙ ap ordering_reverse e) up.0, sorted_one x ys up.1)
      ] refl

  sorted_each : (xs : List X) → IsStrictlySortedBy cmp (each_once cmp xs)
  unfolding each_once IsStrictlySortedBy
  sorted_each [] = tt
  sorted_each (x ∷ xs) = sorted_one x (each_once cmp xs) (sorted_each xs)

  one_new : (x : X) (ys : List X) → Contains (with_one cmp x ys) x
  one_new x [] = here x []
  one_new x (y ∷ ys) =
      elim (cmp x y) as (λ o. cmp x y ≡ o → Contains (placed_by o x y ys (with_one cmp x ys)) x) [
        | Less ↦ λ e. here x (y ∷ ys)
        | Equal ↦ λ e. subst (λ z. Contains (y ∷ ys) z) (sym (exact x y e)) (here y ys)
        | Greater ↦ λ e. there y x (with_one cmp x ys) (one_new x ys)
      ] refl

  one_old : (x : X) (ys : List X) (z : X) → Contains ys z → Contains (with_one cmp x ys) z
  one_old x [] z c = absurd (none_in_nil z c)
  one_old x (y ∷ ys) z c =
      elim (cmp x y) as (λ o. Contains (placed_by o x y ys (with_one cmp x ys)) z) [
        | Less ↦ there x z (y ∷ ys) c
        | Equal ↦ c
        | Greater ↦ elim (Contains-cases y ys z c) [
          | inl e ↦ subst (λ w. Contains (y ∷ with_one cmp x ys) w) e (here y (with_one cmp x ys))
          | inr d ↦ there y z (with_one cmp x ys) (one_old x ys z d)
        ]
      ]

  one_from : (x : X) (ys : List X) (z : X) → Contains (with_one cmp x ys) z → (x ≡ z) ⊎ Contains ys z
  one_from x [] z c = Contains-cases x [] z c
  one_from x (y ∷ ys) z c =
      elim (cmp x y) as (λ o. Contains (placed_by o x y ys (with_one cmp x ys)) z → (x ≡ z) ⊎ Contains (y ∷ ys) z) [
        | Less ↦ λ d. Contains-cases x (y ∷ ys) z d
        | Equal ↦ λ d. inr d
        | Greater ↦ λ d. elim (Contains-cases y (with_one cmp x ys) z d) [
          | inl e ↦ inr (subst (λ w. Contains (y ∷ ys) w) e (here y ys))
          | inr f ↦ elim (one_from x ys z f) [ inl e ↦ inl e | inr g ↦ inr (there y z ys g) ]
        ]
      ] c

  each_from : (xs : List X) (z : X) → Contains (each_once cmp xs) z → Contains xs z
  unfolding each_once
  each_from [] z c = c
  each_from (x ∷ xs) z c = elim (one_from x (each_once cmp xs) z c) [
    | inl e ↦ subst (λ w. Contains (x ∷ xs) w) e (here x xs)
    | inr d ↦ there x z xs (each_from xs z d)
  ]

  each_has : (xs : List X) (z : X) → Contains xs z → Contains (each_once cmp xs) z
  unfolding each_once
  each_has [] z c = c
  each_has (x ∷ xs) z c = elim (Contains-cases x xs z c) [
    | inl e ↦ subst (λ w. Contains (with_one cmp x (each_once cmp xs)) w) e (one_new x (each_once cmp xs))
    | inr d ↦ one_old x (each_once cmp xs) z (each_has xs z d)
  ]

  -- of two strictly ascending lists with the same elements the first elements are the same
  first_same : (x y : X) (xs ys : List X) → IsStrictlySortedBy cmp (x ∷ xs) → IsStrictlySortedBy cmp (y ∷ ys) → Contains (y ∷ ys) x → Contains (x ∷ xs) y → x ≡ y
  unfolding IsStrictlySortedBy
  first_same x y xs ys p q c d = elim (Contains-cases y ys x c) [
    | inl e ↦ sym e
    | inr f ↦ elim (Contains-cases x xs y d) [
      | inl e ↦ e
      | inr g ↦ absurd (less_not_greater (cmp x y) (at_all (λ z. cmp x z ≡ Less) xs y p.0 g) (total.antisymm x y ∙ ap ordering_reverse (at_all (λ z. cmp y z ≡ Less) ys x q.0 f)))
    ]
  ]

  self : (x : X) → cmp x x ≡ Less → ⊥
  self x e = less_not_greater (cmp x x) e (total.antisymm x x ∙ ap ordering_reverse e)

  past_first : (x y : X) (xs ys : List X) → x ≡ y → IsStrictlySortedBy cmp (x ∷ xs) → (z : X) → Contains xs z → Contains (y ∷ ys) z → Contains ys z
  unfolding IsStrictlySortedBy
  past_first x y xs ys e p z c d = elim (Contains-cases y ys z d) [
    | inl f ↦ absurd (self z (subst (λ w. cmp w z ≡ Less) (e ∙ f) (at_all (λ w. cmp x w ≡ Less) xs z p.0 c)))
    | inr g ↦ g
  ]

  same_sorted : (xs ys : List X) → IsStrictlySortedBy cmp xs → IsStrictlySortedBy cmp ys → ((z : X) → Contains xs z → Contains ys z) → ((z : X) → Contains ys z → Contains xs z) → xs ≡ ys
  unfolding IsStrictlySortedBy
  same_sorted [] [] p q f g = refl
  same_sorted [] (y ∷ ys) p q f g = absurd (none_in_nil y (g y (here y ys)))
  same_sorted (x ∷ xs) [] p q f g = absurd (none_in_nil x (f x (here x xs)))
  same_sorted (x ∷ xs) (y ∷ ys) p q f g =
      let first : x ≡ y = first_same x y xs ys p q (f x (here x xs)) (g y (here y ys)) in
      let rest : xs ≡ ys = same_sorted xs ys p.1 q.1
      (λ z c. past_first x y xs ys first p z c (f z (there x z xs c)))
      (λ z c. past_first y x ys xs (sym first) q z c (g z (there y z ys c))) in
      λ i. first i ∷ rest i

  -- each once, strictly ascending: there is one such list
  pub one_each : (all each : List X) → HoldsEachOnce cmp all each → each ≡ each_once cmp all
  one_each all each held = same_sorted each (each_once cmp all) held.ascending (sorted_each all)
      (λ z c. each_has all z (held.in_use z c)) (λ z c. held.held z (each_from all z c))

-- an index that is written for rows
pub index_is : (rows : List Row) (text : List ℕ) → IsWrittenIndex rows text → text ≡ index_of rows
index_is rows text w = w.spelled ∙ (λ i. index_text
    (one_each text_cmp text_total text_exact (texts_in rows) w.symbols w.texts_held i)
    (one_each pair_cmp pair_total pair_exact (pairs_in rows) w.pairs w.pairs_held i) rows)

le_true : (n m : ℕ) → n ≤ m → nat_le n m ≡ true
le_true n m h = grind (arith, nat_tests)

le_false : (n m : ℕ) → m < n → nat_le n m ≡ false
le_false n m h = grind (arith, nat_tests)

and_false : (a : Bool) → (a && false) ≡ false
and_false true = refl
and_false false = refl

-- files that were written fit
pub written_fit : (rows : List Row) (index chunks : List ℕ) → IsWrittenIndex rows index → chunks ≡ chunks_text rows → length index ≤ limit → length chunks ≤ limit → files_fit rows ≡ true
unfolding files_fit
written_fit rows index chunks w c few fewer = λ i.
    (le_true (length (chunks_text rows)) limit (subst (λ (xs : List ℕ). length xs ≤ limit) c fewer) i)
    && (le_true (length (index_of rows)) limit (subst (λ (xs : List ℕ). length xs ≤ limit) (index_is rows index w) few) i)

-- files that are too long to be written do not
pub long_unfit : (rows : List Row) → (limit < length (chunks_text rows)) ⊎ ((text : List ℕ) × IsWrittenIndex rows text × (limit < length text)) → files_fit rows ≡ false
unfolding files_fit
long_unfit rows long = elim long [
  | inl l ↦ ap (λ b. b && nat_le (length (index_of rows)) limit) (le_false (length (chunks_text rows)) limit l)
  | inr l ↦ ap (λ b. nat_le (length (chunks_text rows)) limit && b) (le_false (length (index_of rows)) limit (subst (λ (xs : List ℕ). limit < length xs) (index_is rows l.0 l.1) l.2)) ∙ and_false (nat_le (length (chunks_text rows)) limit)
]
