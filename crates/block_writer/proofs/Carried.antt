-- A written index lists exactly the pairs that its series carry.
use Rattle.std.proofs.Common.{◌≡◌, ◌≢◌, ℕ, ◌+◌, Bool, true, false, ◌&&◌, not, List, [], ◌∷◌, ◌++◌}
use Rattle.std.proofs.Common.{length, refl, sym, subst, inl, inr, arith}
use Rattle.std.specs.Prelude.{if◌then◌else◌, map}
use Rattle.std.specs.List.{AllByRecursion, Contains, filter}
use Rattle.std.specs.Str.{bytes_eq}
use Rattle.std.proofs.lemmas.List.Elements.{Contains-append_left, Contains-append_right}
use Rattle.std.proofs.lemmas.List.Elements.{Contains-append_cases}
use Rattle.labels.specs.Labels.{Labels, pair_cmp, value_of}
use Rattle.labels.specs.LabelSets.{IsLabelSet}
use Rattle.labels.specs.Parts.{carries}
use Rattle.labels.specs.Rows.{Row}
use Rattle.index_reader.specs.Indexes.{Series, references_with}
use Rattle.labels.proofs.Texts.{bytes_exact, bytes_self}
use Rattle.block_writer.specs.InUse.{pairs_in, HoldsEachOnce}
use Rattle.block_writer.specs.EntryBodies.{chunks_of}
use Rattle.block_writer.specs.Writing.{series_text}
use Rattle.block_writer.proofs.WrittenAs.{series_from}
use Rattle.block_writer.proofs.Held.{Contains-cons}
use Rattle.block_writer.proofs.Giving.{hit, hits, hits_is, in_flat}

none_held : {X : Type 0} (x : X) → Contains [] x → ⊥
none_held x h = absurd (omega (arith, h.1))

-- ---- a label set carries exactly its own pairs

hit_here : (p : List ℕ × List ℕ) (r : ℕ) → hit p.0 p.1 r p ≡ r ∷ []
hit_here p r = rw (bytes_self p.0, bytes_self p.1) refl

one_hit : (p : List ℕ × List ℕ) (labels : Labels) → Contains labels p
    → Contains {X = ℕ} (hits p labels 0) 0
one_hit p labels h =
    in_flat (hit p.0 p.1 0) labels h.0 p 0 h.1 h.2
    (subst (λ xs. Contains xs 0) (sym (hit_here p 0)) (0, omega arith, refl))

none_elem : {P : Type 0} → Contains {X = ℕ} [] 0 → P
none_elem h = absurd (omega (arith, h.1))

held_by : (b : Bool) → Contains {X = ℕ} (if b then 0 ∷ [] else []) 0 → b ≡ true
held_by true h = refl
held_by false h = none_elem h

pub carries_own : (p : List ℕ × List ℕ) (labels : Labels) → IsLabelSet labels → Contains labels p
    → carries p.0 p.1 labels ≡ true
carries_own p labels set h =
    held_by (carries p.0 p.1 labels)
    (subst (λ xs. Contains xs 0) (hits_is p labels 0 set) (one_hit p labels h))

value_there : (n v : List ℕ) (labels : Labels) → v ≢ [] → value_of labels n ≡ v
    → Contains labels (n, v)
value_there n v [] full is = absurd (full (sym is))
value_there n v (q ∷ qs) full is =
    elim (bytes_eq q.0 n) as (λ b. bytes_eq q.0 n ≡ b → (if b then q.1 else value_of qs n) ≡ v
    → Contains (q ∷ qs) (n, v)) [
      | true ↦ λ e f. (0, omega arith, λ i. (bytes_exact q.0 n e i, f i))
      | false ↦ λ e f. Contains-cons q qs (n, v) (value_there n v qs full f)
    ] refl is

both_parts : (a b : Bool) → (a && b) ≡ true → (a ≡ true) × (b ≡ true)
both_parts true b h = (refl, h)
both_parts false b h = absurd cc

not_empty : (v : List ℕ) → not (bytes_eq v []) ≡ true → v ≢ []
not_empty [] h e = absurd cc
not_empty (x ∷ v) h e = absurd cc

pub own_carried : (n v : List ℕ) (labels : Labels) → carries n v labels ≡ true
    → Contains labels (n, v)
own_carried n v labels h =
    let parts = both_parts (not (bytes_eq v [])) (bytes_eq (value_of labels n) v) h in
    value_there n v labels (not_empty v parts.0) (bytes_exact (value_of labels n) v parts.1)

-- ---- over all rows

not_none : (b : Bool) (s : Series) (rest : List Series) → b ≡ true
    → map (λ (s : Series). s.reference) (if b then s ∷ rest else rest) ≡ [] → ⊥
not_none true s rest e h = absurd cc
not_none false s rest e h = absurd cc

rest_none : (b : Bool) (s : Series) (rest : List Series)
    → map (λ (s : Series). s.reference) (if b then s ∷ rest else rest) ≡ []
    → map (λ (s : Series). s.reference) rest ≡ []
rest_none true s rest h = absurd cc
rest_none false s rest h = h

pub some_carry : (n v : List ℕ) (rows : List Row) (refs : List ℕ) (at : ℕ)
    → length refs ≡ length rows → AllByRecursion (λ (row : Row). IsLabelSet row.0) rows
    → Contains (pairs_in rows) (n, v) → references_with n v (series_from at refs rows) ≡ [] → ⊥
unfolding series_from
some_carry n v [] refs at long sets h none = none_held (n, v) h
some_carry n v (row ∷ rows) [] at long sets h none = absurd (omega (arith, long))
some_carry n v (row ∷ rows) (r ∷ refs) at long sets h none =
    let s : Series = record { reference = r; labels = row.0; chunks = chunks_of at row.1 } in
    let next : ℕ = at + length (series_text row.1) in
    let rest : List Series =
    filter (λ (s : Series). carries n v s.labels) (series_from next refs rows) in
    elim (Contains-append_cases row.0 (pairs_in rows) (n, v) h) [
      | inl here ↦ not_none (carries n v row.0) s rest (carries_own (n, v) row.0 sets.0 here) none
      | inr there ↦
          some_carry n v rows refs next (omega (arith, long)) sets.1 there
          (rest_none (carries n v row.0) s rest none)
    ]

pub in_some : (n v : List ℕ) (rows : List Row) (refs : List ℕ) (at : ℕ)
    → (references_with n v (series_from at refs rows) ≡ [] → ⊥) → Contains (pairs_in rows) (n, v)
unfolding series_from
in_some n v [] refs at some = absurd (some refl)
in_some n v (row ∷ rows) [] at some = absurd (some refl)
in_some n v (row ∷ rows) (r ∷ refs) at some =
    let s : Series = record { reference = r; labels = row.0; chunks = chunks_of at row.1 } in
    let next : ℕ = at + length (series_text row.1) in
    let rest : List Series =
    filter (λ (s : Series). carries n v s.labels) (series_from next refs rows) in
    elim (carries n v row.0) as (λ b. carries n v row.0 ≡ b
    → (map (λ (s : Series). s.reference) (if b then s ∷ rest else rest) ≡ [] → ⊥)
    → Contains (row.0 ++ pairs_in rows) (n, v)) [
      | true ↦ λ e f. Contains-append_left row.0 (pairs_in rows) (n, v) (own_carried n v row.0 e)
      | false ↦
          λ e f. Contains-append_right row.0 (pairs_in rows) (n, v) (in_some n v rows refs next f)
    ] refl some

-- ---- the pairs of the index

pub pairs_carried : (pairs : List (List ℕ × List ℕ)) (rows : List Row) (refs : List ℕ) (at : ℕ)
    → length refs ≡ length rows → AllByRecursion (λ (row : Row). IsLabelSet row.0) rows
    → HoldsEachOnce pair_cmp (pairs_in rows) pairs
    → (name value : List ℕ) → Contains pairs (name, value)
    → references_with name value (series_from at refs rows) ≡ [] → ⊥
pairs_carried pairs rows refs at long sets held name value h =
    some_carry name value rows refs at long sets (held.in_use (name, value) h)

pub pairs_listed : (pairs : List (List ℕ × List ℕ)) (rows : List Row) (refs : List ℕ) (at : ℕ)
    → HoldsEachOnce pair_cmp (pairs_in rows) pairs
    → (name value : List ℕ) → (references_with name value (series_from at refs rows) ≡ [] → ⊥)
    → Contains pairs (name, value)
pairs_listed pairs rows refs at held name value some =
    held.held (name, value) (in_some name value rows refs at some)
