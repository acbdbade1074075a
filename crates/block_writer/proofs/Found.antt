-- Which pairs were found in rows, and the texts of pairs.
use Rattle.std.proofs.Common.{◌≡◌, ◌⊎◌, inl, inr, ℕ, ◌+◌, ◌-◌, ◌<◌, ◌≤◌, Bool, true, false, ◌&&◌}
use Rattle.std.proofs.Common.{List, [], ◌∷◌, ◌++◌, length, get_or, take, drop, Some, refl, sym, ap}
use Rattle.std.proofs.Common.{subst, ◌∙◌, append_assoc, arith}
use Rattle.std.specs.Prelude.{slice_get, if◌then◌else◌}
use Rattle.std.specs.Bool.{OnTrue}
use Rattle.std.specs.Borrow.{Bor}
use Rattle.std.specs.List.{flat_map, Contains}
use Rattle.std.specs.List.Sorted.{IsStrictlySortedBy}
use Rattle.std.specs.Cmp.{IsTotalOrder}
use Rattle.std.specs.Str.{bytes_eq}
use Rattle.std.specs.declared.cmp.Ordering.{Ordering}
use Rattle.std.proofs.lemmas.Grind.{flat_map-append}
use Rattle.std.proofs.lemmas.List.{take_all, take_more, get_or-take, flat_map_more}
use Rattle.std.proofs.lemmas.List.{length-take-le}
use Rattle.std.proofs.lemmas.List.Elements.{Contains-append_left, Contains-append_right}
use Rattle.std.proofs.lemmas.List.Elements.{Contains-append_cases, Contains-push}
use Rattle.std.proofs.lemmas.List.Elements.{Contains-push_cases}
use Rattle.std.proofs.lemmas.Option.{slice_get_within, get_or_from_slice_get}
use Rattle.labels.specs.Labels.{Labels, text_cmp, pair_cmp}
use Rattle.labels.specs.Pairs.{texts_of}
use Rattle.labels.specs.Rows.{Row}
use Rattle.labels.proofs.Texts.{bytes_exact}
use Rattle.index_reader.specs.Seen.{bytes_of}
use Rattle.block_writer.specs.EntryBodies.{place_among}
use Rattle.block_writer.specs.InUse.{label_texts, texts_in, pairs_in, HoldsAlso, HoldsEachOnce}
use Rattle.block_writer.specs.InUse.{HoldsThose}
use Rattle.block_writer.proofs.Giving.{in_flat}
use Rattle.block_writer.proofs.Held.{Contains-cons, place_found}
use Rattle.block_writer.proofs.Shown.{pair_here}
use Rattle.block_writer.proofs.Walking.{flat_on, pairs_push, texts_push}

either : {A B C : Type 0} → (A → C) → (B → C) → A ⊎ B → C
either f g (inl a) = f a
either f g (inr b) = g b

-- ---- lists with the same elements

pub those_themselves : {X : Type 0} (xs : List X) → HoldsThose xs xs
those_themselves xs = record { in_use = λ x c. c; held = λ x c. c }

pub none_are_those : {X : Type 0} (xs : List X) → xs ≡ [] → HoldsThose [] xs
none_are_those xs none = subst (HoldsThose []) (sym none) (those_themselves [])

pub once_are_those : {X : Type 0} (cmp : X → X → Ordering) (all each : List X)
    → HoldsEachOnce cmp all each → HoldsThose all each
once_are_those cmp all each h = record { in_use = h.in_use; held = h.held }

pub once_of_those : {X : Type 0} (cmp : X → X → Ordering) (all some each : List X)
    → HoldsThose all some → HoldsEachOnce cmp some each → HoldsEachOnce cmp all each
once_of_those cmp all some each h o = record {
  ascending = o.ascending;
  in_use = λ x c. h.in_use x (o.in_use x c);
  held = λ x c. o.held x (h.held x c);
}

-- ---- one pair after another

pub none_added : {X : Type 0} (old more : List X) → HoldsAlso old (take 0 more) old
none_added old more = record {
  kept = λ x c. c;
  more = λ x c. absurd (omega (arith, c.1));
  only = λ x c. inl c;
}

pub all_added : {X : Type 0} (old more new : List X) (i : ℕ) → length more ≤ i
    → HoldsAlso old (take i more) new → HoldsAlso old more new
all_added {X} old more new i le h =
    subst (λ (m : List X). HoldsAlso old m new) (take_all i more le) h

also_pushed : {X : Type 0} (old more mid : List X) (x : X) → HoldsAlso old more mid
    → HoldsAlso old (more ++ x ∷ []) (mid ++ x ∷ [])
also_pushed {X} old more mid x h = record {
  kept = λ y c. Contains-append_left mid (x ∷ []) y (h.kept y c);
  more = λ y c. either (λ m. Contains-append_left mid (x ∷ []) y (h.more y m))
      (λ e. subst (Contains (mid ++ x ∷ [])) e (Contains-push mid x))
      (Contains-push_cases more x y c);
  only = λ y c. either
      (λ m. either (λ o. inl o) (λ o. inr (Contains-append_left more (x ∷ []) y o)) (h.only y m))
      (λ e. inr (subst (Contains (more ++ x ∷ [])) e (Contains-push more x)))
      (Contains-push_cases mid x y c);
}

also_known : {X : Type 0} (old more mid : List X) (x : X) → HoldsAlso old more mid
    → Contains old x → HoldsAlso old (more ++ x ∷ []) mid
also_known {X} old more mid x h known = record {
  kept = h.kept;
  more = λ y c. either (λ m. h.more y m) (λ e. subst (Contains mid) e (h.kept x known))
      (Contains-push_cases more x y c);
  only = λ y c. either (λ o. inl o) (λ o. inr (Contains-append_left more (x ∷ []) y o))
      (h.only y c);
}

next_take : {X : Type 0} (xs : List X) (i : ℕ) (x : X) → slice_get xs i ≡ Some x
    → take (i + 1) xs ≡ take i xs ++ x ∷ []
next_take {X} xs i x here =
    take_more xs i x (slice_get_within xs i x here)
    ∙ ap (λ (y : X). take i xs ++ y ∷ []) (get_or_from_slice_get xs i x x here)

-- one pair more of a label set, which is pushed unless it is known
pub one_more_pair : {X : Type 0} (old labels mid new : List X) (i : ℕ) (x : X) (known : Bool)
    → slice_get labels i ≡ Some x → new ≡ (if known then mid else mid ++ x ∷ [])
    → OnTrue known (Contains old x) → HoldsAlso old (take i labels) mid
    → HoldsAlso old (take (i + 1) labels) new
one_more_pair {X} old labels mid new i x true here step known h =
    subst (λ (m : List X). HoldsAlso old m new) (sym (next_take labels i x here))
    (subst (HoldsAlso old (take i labels ++ x ∷ [])) (sym step)
    (also_known old (take i labels) mid x h known))
one_more_pair {X} old labels mid new i x false here step known h =
    subst (λ (m : List X). HoldsAlso old m new) (sym (next_take labels i x here))
    (subst (HoldsAlso old (take i labels ++ x ∷ [])) (sym step)
    (also_pushed old (take i labels) mid x h))

-- what is found among all is held
pub known_in : {X : Type 0} (b : Bool) (all old : List X) (x : X) → HoldsThose all old
    → OnTrue b (Contains all x) → OnTrue b (Contains old x)
known_in true all old x h c = h.held x c
known_in false all old x h c = tt

pub pushed_unless : (known : Bool) (old new : List (Bor (List ℕ) × Bor (List ℕ)))
    (x : Bor (List ℕ) × Bor (List ℕ)) → known ≡ false → new ≡ old ++ x ∷ []
    → texts_of new ≡ (if known then texts_of old else texts_of old ++ (x.0.now, x.1.now) ∷ [])
pushed_unless true old new x e step = absurd cc
pushed_unless false old new x e step = ap texts_of step ∙ pairs_push old x

-- ---- one row after another

pub more_rows : (rows : List Row) (i : ℕ) (row : Row) (old mid new : List (List ℕ × List ℕ))
    → i < length rows → row ≡ get_or rows i row → HoldsThose (pairs_in (take i rows)) old
    → HoldsAlso old row.0 mid → HoldsThose mid new → HoldsThose (pairs_in (take (i + 1) rows)) new
more_rows rows i row old mid new lt read before added same =
    let all : pairs_in (take (i + 1) rows) ≡ pairs_in (take i rows) ++ row.0 =
    ap (λ (rs : List Row). pairs_in rs) (take_more rows i row lt
    ∙ ap (λ (r : Row). take i rows ++ r ∷ []) (sym read))
    ∙ sym (flat_map_more (λ (r : Row). r.0) [] (take i rows) row) in
    subst (λ (ps : List (List ℕ × List ℕ)). HoldsThose ps new) (sym all) (record {
      in_use = λ x c. either
          (λ o. Contains-append_left (pairs_in (take i rows)) row.0 x (before.in_use x o))
          (λ m. Contains-append_right (pairs_in (take i rows)) row.0 x m)
          (added.only x (same.in_use x c));
      held = λ x c. either (λ o. same.held x (added.kept x (before.held x o)))
          (λ m. same.held x (added.more x m))
          (Contains-append_cases (pairs_in (take i rows)) row.0 x c);
    })

pub those_of_all : (rows : List Row) (i : ℕ) (found : List (List ℕ × List ℕ)) → length rows ≤ i
    → HoldsThose (pairs_in (take i rows)) found → HoldsThose (pairs_in rows) found
those_of_all rows i found le h =
    subst (λ (rs : List Row). HoldsThose (pairs_in rs) found) (take_all i rows le) h

-- ---- a pair of the row before

pub same_if : (b : Bool) (x y : List ℕ) → bytes_eq x y ≡ b → OnTrue b (x ≡ y)
same_if true x y e = bytes_exact x y e
same_if false x y e = tt

in_row_before : (rows : List Row) (at : ℕ) (row : Row) (q : List ℕ × List ℕ) → 0 < at
    → at < length rows → row ≡ get_or rows (at - 1) row → Contains row.0 q
    → Contains (pairs_in (take at rows)) q
in_row_before rows at row q some lt read c =
    in_flat (λ (r : Row). r.0) (take at rows) (at - 1) row q (omega (
      arith,
      length-take-le at rows (omega (arith, lt)),
    ))
    (get_or-take at rows (at - 1) row (omega arith) ∙ sym read) c

pub pair_before : (rows : List Row) (at i : ℕ) (row : Row) (labels : Labels)
    (a b name value : List ℕ) (p q : Bool) → 0 < at → at < length rows
    → row ≡ get_or rows (at - 1) row → labels ≡ row.0 → slice_get labels i ≡ Some (a, b)
    → OnTrue p (a ≡ name) → OnTrue q (b ≡ value)
    → OnTrue (p && q) (Contains (pairs_in (take at rows)) (name, value))
pair_before rows at i row labels a b name value true true some lt read of here one two =
    let there : Contains labels (a, b) = (
      i,
      slice_get_within labels i (a, b) here,
      get_or_from_slice_get labels i (a, b) (a, b) here,
    ) in
    in_row_before rows at row (name, value) some lt read
    (subst (λ (ls : Labels). Contains ls (name, value)) of
    (subst (Contains labels) (λ j. (one j, two j)) there))
pair_before rows at i row labels a b name value true false some lt read of here one two = tt
pair_before rows at i row labels a b name value false q some lt read of here one two = tt

-- ---- a place that was guessed

pub same_there : (b : Bool) (ss : List (List ℕ)) (i : ℕ) (a text : List ℕ)
    → slice_get ss i ≡ Some a → OnTrue b (a ≡ text) → OnTrue b (slice_get ss i ≡ Some text)
same_there true ss i a text here same = here ∙ ap Some same
same_there false ss i a text here same = tt

pub same_pair_there : (p q : Bool) (ps : List (List ℕ × List ℕ)) (i : ℕ)
    (a b name value : List ℕ) → slice_get ps i ≡ Some (a, b) → OnTrue p (a ≡ name)
    → OnTrue q (b ≡ value) → OnTrue (p && q) (slice_get ps i ≡ Some (name, value))
same_pair_there true true ps i a b name value here one two = here ∙ ap Some (λ j. (one j, two j))
same_pair_there true false ps i a b name value here one two = tt
same_pair_there false q ps i a b name value here one two = tt

-- what stands at a place has this place
pub found_there : {X : Type 0} (cmp : X → X → Ordering) → IsTotalOrder cmp → (xs : List X) (i : ℕ)
    (x : X) (b : Bool) → IsStrictlySortedBy cmp xs → b ≡ true
    → OnTrue b (slice_get xs i ≡ Some x) → i ≡ place_among cmp xs x
found_there cmp o xs i x true up so here =
    sym (place_found cmp o xs x i up (slice_get_within xs i x here)
    (get_or_from_slice_get xs i x x here))
found_there cmp o xs i x false up so here = absurd cc

-- ---- the texts of pairs

abbrev both : List ℕ × List ℕ → List (List ℕ)
both p = p.0 ∷ p.1 ∷ []

pub pair_texts_on : (ps : List (Bor (List ℕ) × Bor (List ℕ))) (i : ℕ)
    (d : Bor (List ℕ) × Bor (List ℕ)) (front one two : List (Bor (List ℕ)))
    (whole : List (List ℕ)) → i < length ps → one ≡ front ++ (get_or ps i d).0 ∷ []
    → two ≡ one ++ (get_or ps i d).1 ∷ []
    → bytes_of front ++ label_texts (drop i (texts_of ps)) ≡ whole
    → bytes_of two ++ label_texts (drop (i + 1) (texts_of ps)) ≡ whole
pair_texts_on ps i d front one two whole lt first second so_far =
    let q = get_or ps i d in
    let texts : bytes_of two ≡ bytes_of front ++ (q.0.now ∷ q.1.now ∷ []) =
    ap bytes_of second
    ∙ texts_push one q.1
    ∙ ap (λ (xs : List (Bor (List ℕ))). bytes_of xs ++ q.1.now ∷ []) first
    ∙ ap (λ (xs : List (List ℕ)). xs ++ q.1.now ∷ []) (texts_push front q.0)
    ∙ simp append_assoc in
    flat_on both (bytes_of front) (bytes_of two) (texts_of ps) i (q.0.now, q.1.now) whole
    (pair_here ps i d lt) texts so_far

from_flat : {A X : Type 0} (f : A → List X) (xs : List A) (y : X) → Contains (flat_map f xs) y
    → (a : A) × Contains xs a × Contains (f a) y
from_flat f [] y c = absurd (omega (arith, c.1))
from_flat f (x ∷ xs) y c = either
    (λ h. (x, (0, omega arith, refl), h))
    (λ h. let r = from_flat f xs y h in (r.0, Contains-cons x xs r.0 r.1, r.2))
    (Contains-append_cases (f x) (flat_map f xs) y c)

-- what holds more elements has more texts
texts_of_more : (ps qs : List (List ℕ × List ℕ))
    → ((p : List ℕ × List ℕ) → Contains ps p → Contains qs p) → (x : List ℕ)
    → Contains (label_texts ps) x → Contains (label_texts qs) x
texts_of_more ps qs h x c =
    let r = from_flat both ps x c in
    let there = h r.0 r.1 in
    in_flat both qs there.0 r.0 x there.1 there.2 r.2

texts_of_rows : (rows : List Row) → texts_in rows ≡ label_texts (pairs_in rows)
texts_of_rows [] = refl
texts_of_rows (row ∷ rows) =
    ap (λ (xs : List (List ℕ)). label_texts row.0 ++ xs) (texts_of_rows rows)
    ∙ sym (flat_map-append both row.0 (pairs_in rows))

-- the texts of the pairs of rows are those of the rows
pub texts_held : (rows : List Row) (pairs : List (List ℕ × List ℕ)) (symbols : List (List ℕ))
    → HoldsEachOnce pair_cmp (pairs_in rows) pairs
    → HoldsEachOnce text_cmp (label_texts pairs) symbols
    → HoldsEachOnce text_cmp (texts_in rows) symbols
texts_held rows pairs symbols h o =
    let same = texts_of_rows rows in
    record {
      ascending = o.ascending;
      in_use = λ x c.
          subst (λ (xs : List (List ℕ)). Contains xs x) (sym same)
          (texts_of_more pairs (pairs_in rows) h.in_use x (o.in_use x c));
      held = λ x c.
          o.held x (texts_of_more (pairs_in rows) pairs h.held x
          (subst (λ (xs : List (List ℕ)). Contains xs x) same c));
    }
