-- The chunks of a series whose times meet a range stand side by side.
use Rattle.std.proofs.Common.{◌≡◌, ℕ, zero, suc, ◌<◌, ◌≤◌, Bool, true, false, not, ◌||◌, cond, List}
use Rattle.std.proofs.Common.{[], ◌∷◌, ◌++◌, length, get_or, take, drop, filter, refl, sym, ap}
use Rattle.std.proofs.Common.{subst, ◌∙◌, arith}
use Rattle.std.specs.Prelude.{ℤ, int_lt}
use Rattle.std.specs.Int.Signed.{◌<ℤ◌, ◌≤ℤ◌}
use Rattle.std.specs.List.{list_any}
use Rattle.std.specs.List.Sorted.{IsPartitionedBy, IsPartitionPoint}
use Rattle.std.proofs.lemmas.Int.{ints}
use Rattle.std.proofs.lemmas.List.Elements.{filter-append}
use Rattle.labels.proofs.Lists.{filter-filter}
use Rattle.index_reader.specs.declared.chunk.Chunk.{Chunk}
use Rattle.tombstones.specs.declared.deletion.Deletion.{Deletion}
use Rattle.block.specs.Samples.{Source, samples_in}
use Rattle.block.specs.Sound.{IsHeldChunk, AreBehind, AreInTurn}
use Rattle.block.specs.Wanted.{AreHeldChunks, meets}
use Rattle.block.proofs.Passing.{kept_nothing}
use Rattle.block.proofs.Turns.{all_filter, below, is_below}
use Rattle.block.proofs.Wanting.{is_asked, unmet}

-- what a test divides

module _ {X : Type 0} (p : X → Bool) where
  taken : (xs : List X) (i : ℕ) → ((k : ℕ) (d : X) → k < i → p (get_or xs k d) ≡ true)
      → ((k : ℕ) (d : X) → i ≤ k → k < length xs → p (get_or xs k d) ≡ false) → i ≤ length xs
      → take i xs ≡ filter p xs
  taken [] zero before after le = refl
  taken [] (suc i) before after le = refl
  taken (x ∷ xs) zero before after le =
      taken xs zero (λ k d l. absurd (omega (arith, l)))
      (λ k d l m. after (suc k) d (omega arith) (omega (arith, m))) (omega arith)
      ∙ sym (ap (λ b. cond b (x ∷ filter p xs) (filter p xs))
      (after 0 x (omega arith) (omega arith)))
  taken (x ∷ xs) (suc i) before after le =
      ap (λ (ys : List X). x ∷ ys) (taken xs i (λ k d l. before (suc k) d (omega (
        arith,
        l,
      ))) (λ k d l m. after (suc k) d (omega (arith, l)) (omega (arith, m))) (omega (arith, le)))
      ∙ sym (ap (λ b. cond b (x ∷ filter p xs) (filter p xs)) (before 0 x (omega arith)))

  abbrev fails : X → Bool
  fails x = not (p x)

  dropped : (xs : List X) (i : ℕ) → ((k : ℕ) (d : X) → k < i → p (get_or xs k d) ≡ true)
      → ((k : ℕ) (d : X) → i ≤ k → k < length xs → p (get_or xs k d) ≡ false) → i ≤ length xs
      → drop i xs ≡ filter fails xs
  dropped [] zero before after le = refl
  dropped [] (suc i) before after le = refl
  dropped (x ∷ xs) zero before after le =
      ap (λ (ys : List X). x ∷ ys) (dropped xs zero (λ k d l. absurd (omega (
        arith,
        l,
      ))) (λ k d l m. after (suc k) d (omega arith) (omega (arith, m))) (omega arith))
      ∙ sym (ap (λ b. cond (not b) (x ∷ filter fails xs) (filter fails xs))
      (after 0 x (omega arith) (omega arith)))
  dropped (x ∷ xs) (suc i) before after le =
      dropped xs i (λ k d l. before (suc k) d (omega (arith, l)))
      (λ k d l m. after (suc k) d (omega (arith, l)) (omega (arith, m))) (omega (arith, le))
      ∙ sym (ap (λ b. cond (not b) (x ∷ filter fails xs) (filter fails xs))
      (before 0 x (omega arith)))

-- the times of chunks in turn

tail_in_turn : (c : Chunk) (cs : List Chunk) → AreInTurn (c ∷ cs) → AreInTurn cs
tail_in_turn c [] h = tt
tail_in_turn c (x ∷ xs) h = (h.1.1, h.1.2)

behind_take : (before : Chunk) (cs : List Chunk) (n : ℕ) → AreBehind before cs
    → AreBehind before (take n cs)
behind_take before cs zero h = tt
behind_take before [] (suc n) h = tt
behind_take before (c ∷ cs) (suc n) h = (h.0, h.1, behind_take c cs n h.2)

pub in_turn_take : (cs : List Chunk) (n : ℕ) → AreInTurn cs → AreInTurn (take n cs)
in_turn_take cs zero h = tt
in_turn_take [] (suc n) h = tt
in_turn_take (c ∷ cs) (suc n) h = (h.0, behind_take c cs n h.1)

-- behind the end of a chunk each later one begins
record IsLater (before c : Chunk) : Type 0 where
  begin : before.maxt <ℤ c.mint
  order : c.mint ≤ℤ c.maxt

later_at : (before : Chunk) (cs : List Chunk) → AreBehind before cs → (j : ℕ) (d : Chunk)
    → j < length cs → IsLater before (get_or cs j d)
later_at before [] h j d l = absurd (omega (arith, l))
later_at before (c ∷ cs) h zero d l = record { begin = h.0; order = h.1 }
later_at before (c ∷ cs) h (suc j) d l =
    let later = later_at c cs h.2 j d (omega (arith, l)) in
    let gap : before.maxt <ℤ c.mint = h.0 in
    let order : c.mint ≤ℤ c.maxt = h.1 in
    let next : c.maxt <ℤ (get_or cs j d).mint = later.begin in
    record { begin = omega (arith, ints); order = later.order }

ended : (from : ℤ) (before c : Chunk) → IsLater before c → int_lt c.maxt from ≡ true
    → int_lt before.maxt from ≡ true
ended from before c h t =
    let end : c.maxt <ℤ from = below c.maxt from t in
    let begin : before.maxt <ℤ c.mint = h.begin in
    let order : c.mint ≤ℤ c.maxt = h.order in
    let lt : before.maxt <ℤ from = omega (arith, ints) in
    is_below before.maxt from lt

begun : (to : ℤ) (before c : Chunk) → before.mint ≤ℤ before.maxt → IsLater before c
    → not (int_lt to c.mint) ≡ true → not (int_lt to before.mint) ≡ true
begun to before c whole h t = go (int_lt to before.mint) refl
  where
    go : (b : Bool) → int_lt to before.mint ≡ b → not b ≡ true
    go false e = refl
    go true e =
        let first : to <ℤ before.mint = below to before.mint e in
        let begin : before.maxt <ℤ c.mint = h.begin in
        let lt : to <ℤ c.mint = omega (arith, ints) in
        sym (ap not (is_below to c.mint lt)) ∙ t

pub ends_parted : (from : ℤ) (cs : List Chunk) → AreInTurn cs
    → IsPartitionedBy (λ (c : Chunk). int_lt c.maxt from) cs
ends_parted from [] h i j d le l t = absurd (omega (arith, l))
ends_parted from (c ∷ cs) h zero zero d le l t = t
ends_parted from (c ∷ cs) h (suc i) zero d le l t = absurd (omega (arith, le))
ends_parted from (c ∷ cs) h zero (suc j) d le l t =
    ended from c (get_or cs j d) (later_at c cs h.1 j d (omega (arith, l))) t
ends_parted from (c ∷ cs) h (suc i) (suc j) d le l t =
    ends_parted from cs (tail_in_turn c cs h) i j d (omega (arith, le)) (omega (arith, l)) t

pub begins_parted : (to : ℤ) (cs : List Chunk) → AreInTurn cs
    → IsPartitionedBy (λ (c : Chunk). not (int_lt to c.mint)) cs
begins_parted to [] h i j d le l t = absurd (omega (arith, l))
begins_parted to (c ∷ cs) h zero zero d le l t = t
begins_parted to (c ∷ cs) h (suc i) zero d le l t = absurd (omega (arith, le))
begins_parted to (c ∷ cs) h zero (suc j) d le l t =
    begun to c (get_or cs j d) h.0 (later_at c cs h.1 j d (omega (arith, l))) t
begins_parted to (c ∷ cs) h (suc i) (suc j) d le l t =
    begins_parted to cs (tail_in_turn c cs h) i j d (omega (arith, le)) (omega (arith, l)) t

pub met_is : (from to : ℤ) (cs : List Chunk) (i j : ℕ) → j ≤ length cs → i ≤ length (take j cs)
    → IsPartitionPoint (λ (c : Chunk). not (int_lt to c.mint) ≡ true)
    (λ (c : Chunk). not (int_lt to c.mint) ≡ false) cs j
    → IsPartitionPoint (λ (c : Chunk). int_lt c.maxt from ≡ true)
    (λ (c : Chunk). int_lt c.maxt from ≡ false) (take j cs) i
    → drop i (take j cs) ≡ filter (meets from to) cs
met_is from to cs i j le le' begins ends =
    dropped (λ (c : Chunk). int_lt c.maxt from) (take j cs) i (λ k d l. ends.0 k d (omega arith) l)
    (λ k d l m. ends.1 k d l m) le'
    ∙ ap (filter (λ (c : Chunk). not (int_lt c.maxt from)))
    (taken (λ (c : Chunk). not (int_lt to c.mint)) cs j (λ k d l. begins.0 k d (omega arith) l)
    (λ k d l m. begins.1 k d l m) le)
    ∙ filter-filter (λ (c : Chunk). not (int_lt c.maxt from))
    (λ (c : Chunk). not (int_lt to c.mint)) cs

-- what a chunk that does not meet the range has is not asked for

module _ (deletions : List Deletion) (reference : ℕ) (from to : ℤ) (source : Source) where
  abbrev asked : ℤ × ℤ → Bool
  asked s = is_asked deletions reference from to s

  kept_met : (cs : List Chunk) → AreHeldChunks source cs
      → filter asked (samples_in source (filter (meets from to) cs))
      ≡ filter asked (samples_in source cs)
  kept_met [] held = refl
  kept_met (c ∷ cs) held = go (meets from to c) refl (kept_met cs held.1)
    where
      go : (b : Bool) → meets from to c ≡ b
          → filter asked (samples_in source (filter (meets from to) cs))
          ≡ filter asked (samples_in source cs)
          → filter asked
          (samples_in source (cond b (c ∷ filter (meets from to) cs) (filter (meets from to) cs)))
          ≡ filter asked (source c ++ samples_in source cs)
      go true e ih =
          filter-append asked (source c) (samples_in source (filter (meets from to) cs))
          ∙ ap (λ (ss : List (ℤ × ℤ)). filter asked (source c) ++ ss) ih
          ∙ sym (filter-append asked (source c) (samples_in source cs))
      go false e ih =
          ih
          ∙ ap (λ (ss : List (ℤ × ℤ)). ss ++ filter asked (samples_in source cs)) (sym (kept_nothing
          asked (source c) (unmet deletions reference from to source c held.0 e)))
          ∙ sym (filter-append asked (source c) (samples_in source cs))

abbrev has_some : {X : Type 0} → List X → Bool
has_some [] = false
has_some (x ∷ xs) = true

any_some : {X : Type 0} (p : X → Bool) (xs : List X) → list_any p xs ≡ has_some (filter p xs)
any_some p [] = refl
any_some {X} p (x ∷ xs) = go (p x) (any_some p xs)
  where
    go : (b : Bool) → list_any p xs ≡ has_some (filter p xs)
        → (b || list_any p xs) ≡ has_some (cond b (x ∷ filter p xs) (filter p xs))
    go true ih = refl
    go false ih = ih

pub held_met : (from to : ℤ) (source : Source) (cs met : List Chunk) → met ≡ filter (meets from to) cs
    → AreHeldChunks source cs → AreHeldChunks source met
held_met from to source cs met e held =
    subst (AreHeldChunks source) (sym e) (all_filter (IsHeldChunk source) (meets from to) cs held)

module _ (deletions : List Deletion) (reference : ℕ) (from to : ℤ) (source : Source)
    (cs met : List Chunk) (e : met ≡ filter (meets from to) cs) (held : AreHeldChunks source cs) where
  pub kept_in_met : filter (is_asked deletions reference from to) (samples_in source met)
      ≡ filter (is_asked deletions reference from to) (samples_in source cs)
  kept_in_met =
      ap (λ (xs : List Chunk). filter (is_asked deletions reference from to) (samples_in source xs)) e
      ∙ kept_met deletions reference from to source cs held

  pub any_in_met : list_any (is_asked deletions reference from to) (samples_in source met)
      ≡ list_any (is_asked deletions reference from to) (samples_in source cs)
  any_in_met =
      any_some (is_asked deletions reference from to) (samples_in source met)
      ∙ ap has_some kept_in_met
      ∙ sym (any_some (is_asked deletions reference from to) (samples_in source cs))
