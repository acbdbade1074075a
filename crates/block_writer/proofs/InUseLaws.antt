-- The symbols of a written index are texts of its rows, and its pairs have names.
use Rattle.std.proofs.Common.{◌≡◌, ℕ, zero, suc, ◌<◌, List, [], ◌∷◌, ◌++◌, length, get_or, refl}
use Rattle.std.proofs.Common.{subst, arith}
use Rattle.std.specs.Prelude.{IsTrue}
use Rattle.std.specs.List.{All, AllByRecursion, Contains}
use Rattle.std.specs.List.Sorted.{IsStrictlySortedBy}
use Rattle.std.specs.Str.{IsUtf8}
use Rattle.std.specs.declared.cmp.Ordering.TheVariants.{Less}
use Rattle.std.proofs.lemmas.List.Elements.{All-tail}
use Rattle.labels.specs.Labels.{text_cmp, pair_cmp}
use Rattle.labels.specs.LabelSets.{IsLabelSet}
use Rattle.labels.specs.Names.{is_name}
use Rattle.labels.specs.Rows.{Row}
use Rattle.block_writer.specs.InUse.{label_texts, texts_in, pairs_in, HoldsEachOnce}
use Rattle.block_writer.proofs.Giving.{in_flat}
use Rattle.block_writer.proofs.Held.{Contains-cons}

-- ---- each element of a list

all_from : {X : Type 0} (P : X → Type 0) (xs : List X) → ((x : X) → Contains xs x → P x)
    → AllByRecursion P xs
all_from P [] h = tt
all_from P (x ∷ xs) h =
    (h x (0, omega arith, refl), all_from P xs (λ y c. h y (Contains-cons x xs y c)))

each_at : {X : Type 0} (P : X → Type 0) (xs : List X) (x : X) (i : ℕ) → AllByRecursion P xs
    → i < length xs → get_or xs i x ≡ x → P x
each_at P [] x i all lt e = absurd (omega (arith, lt))
each_at P (y ∷ ys) x zero all lt e = subst P e all.0
each_at P (y ∷ ys) x (suc i) all lt e = each_at P ys x i all.1 (omega (arith, lt)) e

each_in : {X : Type 0} (P : X → Type 0) (xs : List X) (x : X) → AllByRecursion P xs
    → Contains xs x → P x
each_in P xs x all c = each_at P xs x c.0 all c.1 c.2

pub all_both : {X : Type 0} (P : X → Type 0) (xs ys : List X) → AllByRecursion P xs
    → AllByRecursion P ys → AllByRecursion P (xs ++ ys)
all_both P [] ys one two = two
all_both P (x ∷ xs) ys one two = (one.0, all_both P xs ys one.1 two)

pub one_by_one : {X : Type 0} (P : X → Type 0) (xs : List X) → All P xs → AllByRecursion P xs
one_by_one P [] h = tt
one_by_one P (x ∷ xs) h = (h 0 x (omega arith), one_by_one P xs (All-tail P x xs h))

-- ---- texts

pub symbols_utf8 : (rows : List Row) (symbols : List (List ℕ))
    → AllByRecursion IsUtf8 (texts_in rows) → HoldsEachOnce text_cmp (texts_in rows) symbols
    → AllByRecursion IsUtf8 symbols
symbols_utf8 rows symbols all held =
    all_from IsUtf8 symbols (λ x c. each_in IsUtf8 (texts_in rows) x all (held.in_use x c))

-- the name and the value of each label of a row are symbols
pub symbols_held : (rows : List Row) (symbols : List (List ℕ))
    → HoldsEachOnce text_cmp (texts_in rows) symbols → (row : Row) (q : List ℕ × List ℕ)
    → Contains rows row → Contains row.0 q → Contains symbols q.0 × Contains symbols q.1
symbols_held rows symbols held row q in_rows in_row =
    let name : Contains (label_texts row.0) q.0 =
    in_flat (λ (p : List ℕ × List ℕ). p.0 ∷ p.1 ∷ []) row.0 in_row.0 q q.0 in_row.1 in_row.2
    (0, omega arith, refl) in
    let value : Contains (label_texts row.0) q.1 = in_flat (λ (p : List ℕ × List ℕ). p.0 ∷ p.1 ∷ [])
    row.0 in_row.0 q q.1 in_row.1 in_row.2 (1, omega arith, refl) in (
      held.held q.0
          (in_flat (λ (r : Row). label_texts r.0) rows in_rows.0 row q.0 in_rows.1 in_rows.2 name),
      held.held q.1
          (in_flat (λ (r : Row). label_texts r.0) rows in_rows.0 row q.1 in_rows.1 in_rows.2 value),
    )

-- ---- pairs

-- a pair with a label name
abbrev pub IsNamed : List ℕ × List ℕ → Type 0
IsNamed p = IsTrue (is_name p.0)

all_named : (rows : List Row) → AllByRecursion (λ (row : Row). IsLabelSet row.0) rows
    → AllByRecursion IsNamed (pairs_in rows)
all_named [] sets = tt
all_named (row ∷ rows) sets =
    all_both IsNamed row.0 (pairs_in rows) (one_by_one IsNamed row.0 sets.0.named)
    (all_named rows sets.1)

empty_below : (name value : List ℕ) → IsTrue (is_name name) → pair_cmp ([], []) (name, value) ≡ Less
empty_below [] value h = absurd cc
empty_below (b ∷ bs) value h = refl

-- the empty pair and the pairs ascend
pub pairs_ascend : (rows : List Row) (pairs : List (List ℕ × List ℕ))
    → AllByRecursion (λ (row : Row). IsLabelSet row.0) rows
    → HoldsEachOnce pair_cmp (pairs_in rows) pairs → IsStrictlySortedBy pair_cmp (([], []) ∷ pairs)
unfolding IsStrictlySortedBy
pairs_ascend rows pairs sets held = (
  all_from (λ y. pair_cmp ([], []) y ≡ Less) pairs (λ p c. empty_below p.0 p.1
      (each_in IsNamed (pairs_in rows) p (all_named rows sets) (held.in_use p c))),
  held.ascending,
)
