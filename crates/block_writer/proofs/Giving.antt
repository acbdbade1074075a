-- Which labels are a pair, and the lists of the rows that carry each pair.
use Rattle.std.proofs.Common.{◌≡◌, ◌≢◌, ℕ, zero, suc, ◌+◌, ◌<◌, ◌≤◌, Bool, true, false, ◌&&◌, not}
use Rattle.std.proofs.Common.{List, [], ◌∷◌, ◌++◌, length, get_or, set, drop, refl, sym, ap, subst}
use Rattle.std.proofs.Common.{◌∙◌, inl, inr, append_assoc, arith}
use Rattle.std.specs.Prelude.{if◌then◌else◌, map}
use Rattle.std.specs.List.{All, Contains, flat_map}
use Rattle.std.specs.List.Sorted.{IsStrictlySortedBy}
use Rattle.std.specs.Str.{bytes_eq}
use Rattle.std.specs.Ordering.{nat_cmp}
use Rattle.std.specs.declared.cmp.Ordering.TheVariants.{Less}
use Rattle.std.specs.Cmp.{tied_itself}
use Rattle.std.specs.Cmp.Lexicographic.{slice_cmp}
use Rattle.std.proofs.lemmas.Bool.{cases_eq}
use Rattle.std.proofs.lemmas.List.{append-nil, drop_all, get_or-set_same, get_or-set_other}
use Rattle.std.proofs.lemmas.List.Elements.{All-head, All-tail, Contains-append_left}
use Rattle.std.proofs.lemmas.List.Elements.{Contains-append_right}
use Rattle.labels.specs.Labels.{text_cmp, Labels, pair_cmp, value_of, IsByName}
use Rattle.labels.specs.LabelSets.{IsLabelSet}
use Rattle.labels.specs.Parts.{carries}
use Rattle.labels.specs.Rows.{Row}
use Rattle.labels.proofs.Texts.{bytes_exact, bytes_self, pair_total, text_total}
use Rattle.block_writer.specs.EntryBodies.{place_among}
use Rattle.block_writer.specs.IndexText.{carriers}
use Rattle.block_writer.proofs.Held.{stands_there, place_back}

pub bytes_full : (a : List ℕ) → a ≢ [] → bytes_eq a [] ≡ false
bytes_full [] full = absurd (full refl)
bytes_full (x ∷ a) full = refl

-- a reference, where the label is the pair
abbrev pub hit : List ℕ → List ℕ → ℕ → List ℕ × List ℕ → List ℕ
hit n v r q = if bytes_eq q.0 n && bytes_eq q.1 v then r ∷ [] else []

-- a reference for each label that is the pair
abbrev pub hits : List ℕ × List ℕ → Labels → ℕ → List ℕ
hits p labels r = flat_map (hit p.0 p.1 r) labels

hit_self : (p : List ℕ × List ℕ) (r : ℕ) → hit p.0 p.1 r p ≡ r ∷ []
hit_self p r = rw (bytes_self p.0, bytes_self p.1) refl

hit_other : (p q : List ℕ × List ℕ) (r : ℕ) → (q ≡ p → ⊥) → hit p.0 p.1 r q ≡ []
hit_other p q r other =
    elim (bytes_eq q.0 p.0)
    as (λ b. bytes_eq q.0 p.0 ≡ b → (if b && bytes_eq q.1 p.1 then r ∷ [] else []) ≡ []) [
      | true ↦ λ e.
          elim (bytes_eq q.1 p.1)
          as (λ b. bytes_eq q.1 p.1 ≡ b → (if true && b then r ∷ [] else []) ≡ []) [
            | true ↦ λ f. absurd (other (λ i. (bytes_exact q.0 p.0 e i, bytes_exact q.1 p.1 f i)))
            | false ↦ λ f. refl
          ] refl
      | false ↦ λ e. refl
    ] refl

-- ---- a label set has a name once

abbrev Above : List ℕ → Labels → Type 0
Above n [] = Unit {0}
Above n (q ∷ qs) = text_cmp n q.0 ≡ Less

above_next : (n : List ℕ) (q : List ℕ × List ℕ) (qs : Labels) → text_cmp n q.0 ≡ Less
    → IsByName (q ∷ qs) → Above n qs
above_next n q [] lt h = tt
above_next n q (p ∷ qs) lt h = text_total.trans n q.0 p.0 lt (h 0 q (omega arith))

name_tail : (q : List ℕ × List ℕ) (qs : Labels) → IsByName (q ∷ qs) → IsByName qs
name_tail q qs h k d lt =
    let e : suc (k + 1) ≡ suc k + 1 = omega arith in
    subst (λ j. slice_cmp nat_cmp (get_or qs k d).0 (get_or (q ∷ qs) j d).0 ≡ Less) (sym e)
    (h (suc k) d (omega (arith, lt)))

above_not : (n m : List ℕ) → text_cmp n m ≡ Less → bytes_eq m n ≡ false
above_not n m lt =
    elim (bytes_eq m n) as (λ b. bytes_eq m n ≡ b → b ≡ false) [
      | true ↦
          λ e.
          let f : text_cmp n n ≡ Less = subst (λ z. text_cmp n z ≡ Less) (bytes_exact m n e) lt in
          absurd (let g = sym (tied_itself text_total n) ∙ f in cc)
      | false ↦ λ e. refl
    ] refl

none_behind : (n v : List ℕ) (r : ℕ) (qs : Labels) → Above n qs → IsByName qs
    → flat_map (hit n v r) qs ≡ []
none_behind n v r [] above h = refl
none_behind n v r (q ∷ qs) above h =
    rw (above_not n q.0 above) (none_behind n v r qs (above_next n q qs above h) (name_tail q qs h))

above_first : (n : List ℕ) (q : List ℕ × List ℕ) (qs : Labels) → q.0 ≡ n
    → IsByName (q ∷ qs) → Above n qs
above_first n q [] e h = tt
above_first n q (p ∷ qs) e h = subst (λ m. text_cmp m p.0 ≡ Less) e (h 0 q (omega arith))

carries_none : (n v : List ℕ) (r : ℕ) → [] ≡ (if carries n v [] then r ∷ [] else [])
carries_none n [] r = refl
carries_none n (x ∷ v) r = refl

in_labels : (n v : List ℕ) (r : ℕ) (qs : Labels) → IsByName qs → All (λ q. q.1 ≢ []) qs
    → flat_map (hit n v r) qs ≡ (if carries n v qs then r ∷ [] else [])
in_labels n v r [] by_name valued = carries_none n v r
in_labels n v r (q ∷ qs) by_name valued =
    elim (bytes_eq q.0 n) as (λ b. bytes_eq q.0 n ≡ b
    → (if b && bytes_eq q.1 v then r ∷ [] else []) ++ flat_map (hit n v r) qs
    ≡ (if not (bytes_eq v []) && bytes_eq (if b then q.1 else value_of qs n) v
    then r ∷ [] else [])) [
      | true ↦ λ e.
          let rest : flat_map (hit n v r) qs ≡ [] =
          none_behind n v r qs (above_first n q qs (bytes_exact q.0 n e) by_name)
          (name_tail q qs by_name) in
          elim (bytes_eq q.1 v) as (λ d. bytes_eq q.1 v ≡ d → (if true && d then r ∷ [] else [])
          ++ flat_map (hit n v r) qs ≡ (if not (bytes_eq v []) && d then r ∷ [] else [])) [
            | true ↦ λ f.
                let full : bytes_eq v [] ≡ false =
                bytes_full v (subst (λ x. x ≢ []) (bytes_exact q.1 v f)
                (All-head (λ q. q.1 ≢ []) q qs valued)) in
                rw full (ap (λ xs. r ∷ xs) rest)
            | false ↦
                λ f. elim (bytes_eq v []) as (λ z. flat_map (hit n v r) qs
                ≡ (if not z && false then r ∷ [] else [])) [ true ↦ rest | false ↦ rest ]
          ] refl
      | false ↦
          λ e. in_labels n v r qs (name_tail q qs by_name) (All-tail (λ q. q.1 ≢ []) q qs valued)
    ] refl

pub hits_is : (p : List ℕ × List ℕ) (labels : Labels) (r : ℕ) → IsLabelSet labels
    → hits p labels r ≡ (if carries p.0 p.1 labels then r ∷ [] else [])
hits_is p labels r h = in_labels p.0 p.1 r labels h.by_name h.valued

-- ---- a reference is put into the list of a pair

pub added : (pairs : List (List ℕ × List ℕ)) (r : ℕ) (before after : List (List ℕ)) (at : ℕ)
    (q : List ℕ × List ℕ) → IsStrictlySortedBy pair_cmp pairs → Contains pairs q
    → at ≡ place_among pair_cmp pairs q → length before ≡ length pairs
    → after ≡ set before at (get_or before at [] ++ r ∷ []) → (k : ℕ) → k < length pairs
    → get_or after k []
    ≡ get_or before k [] ++ hit (get_or pairs k ([], [])).0 (get_or pairs k ([], [])).1 r q
added pairs r before after at q up held is long step k lt =
    let there = stands_there pair_cmp pair_total pairs q ([], []) up held in
    elim (cases_eq k at) [
      | inl e ↦
          let same : get_or pairs k ([], []) ≡ q =
          ap (λ j. get_or pairs j ([], [])) (e ∙ is) ∙ there.1 in
          let one : hit (get_or pairs k ([], [])).0 (get_or pairs k ([], [])).1 r q ≡ r ∷ [] =
          ap (λ p. hit p.0 p.1 r q) same ∙ hit_self q r in
          ap (λ xs. get_or xs k []) step
          ∙ ap (λ j. get_or (set before at (get_or before at [] ++ r ∷ [])) j []) e
          ∙ get_or-set_same before at (get_or before at [] ++ r ∷ []) []
          (omega (arith, lt, e, long))
          ∙ ap (λ j. get_or before j [] ++ r ∷ []) (sym e)
          ∙ ap (λ xs. get_or before k [] ++ xs) (sym one)
      | inr n ↦
          let other : q ≡ get_or pairs k ([], []) → ⊥ =
          λ f. n (sym (place_back pair_cmp pair_total pairs k ([], []) up lt)
          ∙ ap (place_among pair_cmp pairs) (sym f)
          ∙ sym is) in
          let none : hit (get_or pairs k ([], [])).0 (get_or pairs k ([], [])).1 r q ≡ [] =
          hit_other (get_or pairs k ([], [])) q r other in
          ap (λ xs. get_or xs k []) step
          ∙ get_or-set_other before at k (get_or before at [] ++ r ∷ []) [] n
          ∙ sym (append-nil (get_or before k []))
          ∙ ap (λ xs. get_or before k [] ++ xs) (sym none)
    ]

-- ---- all rows

pub empty_at : {X : Type 0} (f : X → List ℕ) (xs : List X) → All (λ x. f x ≡ []) xs → (k : ℕ)
    → get_or (map f xs) k [] ≡ []
empty_at f [] h k = refl
empty_at f (x ∷ xs) h zero = All-head (λ x. f x ≡ []) x xs h
empty_at f (x ∷ xs) h (suc k) = empty_at f xs (All-tail (λ x. f x ≡ []) x xs h) k

pub in_flat : {A X : Type 0} (f : A → List X) (xs : List A) (i : ℕ) (a : A) (y : X) → i < length xs
    → get_or xs i a ≡ a → Contains (f a) y → Contains (flat_map f xs) y
in_flat f [] i a y lt e h = absurd (omega (arith, lt))
in_flat f (x ∷ xs) zero a y lt e h =
    Contains-append_left (f x) (flat_map f xs) y (subst (λ z. Contains (f z) y) (sym e) h)
in_flat f (x ∷ xs) (suc i) a y lt e h =
    Contains-append_right (f x) (flat_map f xs) y (in_flat f xs i a y (omega (arith, lt)) e h)

word_here : (refs : List ℕ) (i : ℕ) → i < length refs
    → drop i refs ≡ get_or refs i 0 ∷ drop (suc i) refs
word_here [] i lt = absurd (omega (arith, lt))
word_here (r ∷ refs) zero lt = refl
word_here (r ∷ refs) (suc i) lt = word_here refs i (omega (arith, lt))

carried : (b : Bool) (r : ℕ) (before after rest whole : List ℕ)
    → after ≡ before ++ (if b then r ∷ [] else [])
    → before ++ (if b then r ∷ rest else rest) ≡ whole → after ++ rest ≡ whole
carried true r before after rest whole step so_far = rw step (simp append_assoc so_far)
carried false r before after rest whole step so_far = rw (step ∙ append-nil before) so_far

pub carriers_on : (n v : List ℕ) (rows : List Row) (refs : List ℕ) (i : ℕ) (row : Row)
    (before after whole : List ℕ) → drop i rows ≡ row ∷ drop (i + 1) rows → i < length refs
    → after ≡ before ++ (if carries n v row.0 then get_or refs i 0 ∷ [] else [])
    → before ++ carriers n v (drop i rows) (drop i refs) ≡ whole
    → after ++ carriers n v (drop (i + 1) rows) (drop (i + 1) refs) ≡ whole
unfolding carriers
carriers_on n v rows refs i row before after whole here lt step so_far =
    let next : suc i ≡ i + 1 = omega arith in
    let word : drop i refs ≡ get_or refs i 0 ∷ drop (i + 1) refs =
    word_here refs i lt ∙ ap (λ j. get_or refs i 0 ∷ drop j refs) next in
    let all : before ++ carriers n v (row ∷ drop (i + 1) rows) (get_or refs i 0 ∷ drop (i + 1) refs)
    ≡ whole = rw (here, word) at so_far in
    carried (carries n v row.0) (get_or refs i 0) before after
    (carriers n v (drop (i + 1) rows) (drop (i + 1) refs)) whole step all

pub carriers_done : (n v : List ℕ) (rows : List Row) (refs : List ℕ) (i : ℕ) (before whole : List ℕ)
    → length rows ≤ i → before ++ carriers n v (drop i rows) (drop i refs) ≡ whole → before ≡ whole
unfolding carriers
carriers_done n v rows refs i before whole le so_far =
    sym (append-nil before) ∙ (rw (drop_all i rows le) at so_far)

pub same_map : {P : Type 0} (f : P → List ℕ) (pairs : List P) (d : P) (ls : List (List ℕ))
    → length ls ≡ length pairs
    → ((k : ℕ) → k < length pairs → get_or ls k [] ≡ f (get_or pairs k d)) → ls ≡ map f pairs
same_map f [] d [] long h = refl
same_map f [] d (l ∷ ls) long h = absurd (omega (arith, long))
same_map f (p ∷ ps) d [] long h = absurd (omega (arith, long))
same_map f (p ∷ ps) d (l ∷ ls) long h = λ i. h 0 (omega arith) i ∷ same_map f ps d ls (omega (
  arith,
  long,
)) (λ k lt. h (suc k) (omega (arith, lt))) i
