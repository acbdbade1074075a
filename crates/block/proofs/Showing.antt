-- What a block shows of the series of its index.
use Rattle.std.proofs.Common.{◌≡◌, ℕ, zero, suc, ◌<◌, ℤ, Bool, true, false, cond, not, ◌&&◌, ◌||◌}
use Rattle.std.proofs.Common.{List, [], ◌∷◌, length, get_or, map, Option, Some, None, Result, Ok, Err, refl}
use Rattle.std.proofs.Common.{sym, ap, subst, ◌∙◌, arith}
use Rattle.std.specs.Prelude.{slice_get, nat_eq, IfNone, IfOk}
use Rattle.std.specs.Arc.{arc_value}
use Rattle.std.specs.Option.{option_map}
use Rattle.std.specs.List.{filter, list_any, Contains, AllByRecursion}
use Rattle.std.specs.List.Sorted.{IsStrictlyIncreasing}
use Rattle.std.proofs.lemmas.List.{length-map}
use Rattle.std.proofs.lemmas.Option.{slice_get_within, slice_get-map}
use Rattle.std.proofs.lemmas.Bool.Decides.{nat_tests}
use Rattle.labels.specs.Labels.{Labels}
use Rattle.labels.specs.Contents.{in_range}
use Rattle.labels.specs.Rows.{Row}
use Rattle.labels.specs.Parts.{Part, carries, has_sample, labels_in, references, references_where}
use Rattle.labels.specs.Parts.{row_at, within}
use Rattle.labels.proofs.Lists.{here, there, rising-head, rising-tail, filter-filter}
use Rattle.index_reader.specs.declared.chunk.Chunk.{Chunk}
use Rattle.index_reader.specs.Indexes.{Series, Indexed, IsConsistent, label_sets, chunk_lists}
use Rattle.index_reader.specs.Indexes.{references_with}
use Rattle.index_reader.specs.Indexes as indexes
use Rattle.tombstones.specs.declared.deletion.Deletion.{Deletion}
use Rattle.tombstones.specs.Covering.{covered}
use Rattle.block.specs.declared.files.Files.{Files}
use Rattle.block.specs.declared.blocks.Block.TheInside.{Inside}
use Rattle.block.specs.Blocks.{Shown, shown_of, series_row, part_of_series}
use Rattle.block.specs.CarriedPairs.{AreCarriedPairs}
use Rattle.block.specs.Samples.{Source, samples_in}
use Rattle.block.specs.Sound.{AreInTurn, IsStored, IsSoundBlock}
use Rattle.block.specs.Wanted.{AreHeldChunks}
use Rattle.block.specs.Kept.{source_in, AreKeptFrom}
use Rattle.block.specs.Packing.{IsOpened}
use Rattle.block.proofs.Parts.{references_same}
use Rattle.block.proofs.Sourcing.{placed_at}
use Rattle.block.proofs.Wanting.{is_asked}

pub none_of : {X : Type 0} (o : Option X) (P : Type 0) → o ≡ None → IfNone o P → P
none_of None P e h = h
none_of (Some x) P e h = absurd cc

-- the element that a place of a mapped list comes from
came_from : {X Y : Type 0} (f : X → Y) (xs : List X) (i : ℕ) (y : Y)
    → slice_get (map f xs) i ≡ Some y → (x : X) × ((slice_get xs i ≡ Some x) × (f x ≡ y))
came_from f [] i y h = absurd cc
came_from f (x ∷ xs) zero y h = (x, (refl, cc))
came_from f (x ∷ xs) (suc i) y h = came_from f xs i y h

kept_either : (a u v : Bool) → u ≡ v → (a || u) ≡ ((a && true) || v)
kept_either true u v e = refl
kept_either false u v e = e

left_either : (a u v : Bool) → u ≡ v → u ≡ ((a && false) || v)
left_either true u v e = e
left_either false u v e = e

any_filtered : {X : Type 0} (p q : X → Bool) (xs : List X)
    → list_any p (filter q xs) ≡ list_any (λ x. p x && q x) xs
any_filtered p q [] = refl
any_filtered {X} p q (x ∷ xs) = go (q x) (any_filtered p q xs)
  where
    go : (b : Bool) → list_any p (filter q xs) ≡ list_any (λ y. p y && q y) xs
        → list_any p (cond b (x ∷ filter q xs) (filter q xs))
        ≡ ((p x && b) || list_any (λ y. p y && q y) xs)
    go true ih = kept_either (p x) (list_any p (filter q xs)) (list_any (λ y. p y && q y) xs) ih
    go false ih = left_either (p x) (list_any p (filter q xs)) (list_any (λ y. p y && q y) xs) ih

same_number : (r : ℕ) → nat_eq r r ≡ true
same_number r = grind (arith, nat_tests)

other_number : (a b : ℕ) → a < b → nat_eq a b ≡ false
other_number a b h = grind (arith, nat_tests)

one_number : (a b : ℕ) → nat_eq a b ≡ true → a ≡ b
one_number a b h = grind (arith, nat_tests)

module _ (source : Source) (deletions : List Deletion) where
  row_here : (ss : List Series) (i : ℕ) (s : Series) → IsStrictlyIncreasing (indexes.references ss)
      → slice_get ss i ≡ Some s
      → row_at s.reference (part_of_series source deletions ss) ≡ Some (series_row source deletions s).1
  row_here [] i s rising h = absurd cc
  row_here (x ∷ xs) zero s rising h =
      let same : x ≡ s = cc in
      subst (λ (t : Series). row_at t.reference (part_of_series source deletions (x ∷ xs))
      ≡ Some (series_row source deletions t).1) same
      (ap (λ b. cond b (Some (series_row source deletions x).1)
      (row_at x.reference (part_of_series source deletions xs))) (same_number x.reference))
  row_here (x ∷ xs) (suc i) s rising h =
      let size : length (indexes.references xs) ≡ length xs =
      length-map xs (λ (t : Series). t.reference) in
      let within = slice_get_within xs i s h in
      let at : Contains (indexes.references xs) s.reference = reference_in xs i s h in
      let lt : x.reference < s.reference =
      rising-head x.reference (indexes.references xs) rising s.reference at in
      ap (λ b. cond b (Some (series_row source deletions x).1)
      (row_at s.reference (part_of_series source deletions xs))) (other_number x.reference s.reference lt)
      ∙ row_here xs i s (rising-tail x.reference (indexes.references xs) rising) h
    where
      reference_in : (ys : List Series) (k : ℕ) (t : Series) → slice_get ys k ≡ Some t
          → Contains (indexes.references ys) t.reference
      reference_in [] k t g = absurd cc
      reference_in (y ∷ ys) zero t g =
          let same : y ≡ t = cc in
          subst (λ (z : Series). Contains (indexes.references (y ∷ ys)) z.reference) same
          (here y.reference (indexes.references ys))
      reference_in (y ∷ ys) (suc k) t g =
          there y.reference t.reference (indexes.references ys) (reference_in ys k t g)

  pub row_nowhere : (ss : List Series) (r : ℕ) → (Contains (indexes.references ss) r → ⊥)
      → row_at r (part_of_series source deletions ss) ≡ None
  row_nowhere [] r none = refl
  row_nowhere (s ∷ ss) r none =
      go (nat_eq s.reference r) refl
      (row_nowhere ss r (λ c. none (there s.reference r (indexes.references ss) c)))
    where
      go : (b : Bool) → nat_eq s.reference r ≡ b → row_at r (part_of_series source deletions ss) ≡ None
          → cond b (Some (series_row source deletions s).1) (row_at r (part_of_series source deletions ss))
          ≡ None
      go true e ih =
          absurd (none (subst (λ (x : ℕ). Contains (indexes.references (s ∷ ss)) x)
          (one_number s.reference r e) (here s.reference (indexes.references ss))))
      go false e ih = ih

  pub labels_here : (ss : List Series) (i r : ℕ) (l : Labels)
      → IsStrictlyIncreasing (indexes.references ss) → slice_get (indexes.references ss) i ≡ Some r
      → slice_get (label_sets ss) i ≡ Some l
      → labels_in (row_at r (part_of_series source deletions ss)) ≡ Some l
  labels_here ss i r l rising h g =
      let p = came_from (λ (s : Series). s.reference) ss i r h in
      let q = came_from (λ (s : Series). s.labels) ss i l g in
      let same : p.0 ≡ q.0 = cc (p.1.0, q.1.0) in
      ap (λ (x : ℕ). labels_in (row_at x (part_of_series source deletions ss))) (sym p.1.1)
      ∙ ap labels_in (row_here ss i p.0 rising p.1.0)
      ∙ ap (λ (s : Series). Some s.labels) same
      ∙ ap (λ (x : Labels). Some x) q.1.1

  pub within_here : (from to : ℤ) (ss : List Series) (i r : ℕ) (cs : List Chunk) (row : ℕ × Row)
      → slice_get (indexes.references ss) i ≡ Some r → slice_get (chunk_lists ss) i ≡ Some cs
      → slice_get (part_of_series source deletions ss) i ≡ Some row
      → filter (is_asked deletions r from to) (samples_in source cs) ≡ within from to row.1.1
  within_here from to ss i r cs row h g f =
      let p = came_from (λ (s : Series). s.reference) ss i r h in
      let q = came_from (λ (s : Series). s.chunks) ss i cs g in
      let w = came_from (series_row source deletions) ss i row f in
      let same : p.0 ≡ q.0 = cc (p.1.0, q.1.0) in
      let other : p.0 ≡ w.0 = cc (p.1.0, w.1.0) in
      ap (λ (xs : List Chunk). filter (is_asked deletions r from to) (samples_in source xs))
      (sym q.1.1)
      ∙ ap (λ (s : Series). filter (is_asked deletions r from to) (samples_in source s.chunks))
      (sym same)
      ∙ ap (λ (x : ℕ). filter (is_asked deletions x from to) (samples_in source p.0.chunks))
      (sym p.1.1)
      ∙ sym (filter-filter (λ (s : ℤ × ℤ). in_range from to s.0)
      (λ (s : ℤ × ℤ). not (covered deletions p.0.reference s.0)) (samples_in source p.0.chunks))
      ∙ ap (λ (s : Series). within from to (series_row source deletions s).1.1) other
      ∙ ap (λ (x : ℕ × Row). within from to x.1.1) w.1.1

  pub row_stands : (ss : List Series) (i r : ℕ) → IsStrictlyIncreasing (indexes.references ss)
      → slice_get (indexes.references ss) i ≡ Some r
      → (row : ℕ × Row) × ((slice_get (part_of_series source deletions ss) i ≡ Some row)
      × (row_at r (part_of_series source deletions ss) ≡ Some row.1))
  row_stands ss i r rising h =
      let p = came_from (λ (s : Series). s.reference) ss i r h in (
        series_row source deletions p.0,
        (
          slice_get-map (series_row source deletions) ss i
              ∙ ap (option_map (series_row source deletions)) p.1.0,
          ap (λ (x : ℕ). row_at x (part_of_series source deletions ss)) (sym p.1.1)
              ∙ row_here ss i p.0 rising p.1.0,
        ),
      )

  pub set_here : (ss : List Series) (i : ℕ) (l : Labels) (row : ℕ × Row)
      → slice_get (label_sets ss) i ≡ Some l
      → slice_get (part_of_series source deletions ss) i ≡ Some row → l ≡ row.1.0
  set_here ss i l row g f =
      let q = came_from (λ (s : Series). s.labels) ss i l g in
      let w = came_from (series_row source deletions) ss i row f in
      let same : q.0 ≡ w.0 = cc (q.1.0, w.1.0) in
      sym q.1.1 ∙ ap (λ (s : Series). s.labels) same ∙ ap (λ (x : ℕ × Row). x.1.0) w.1.1

  pub live_here : (from to : ℤ) (ss : List Series) (i r : ℕ) (cs : List Chunk) (row : ℕ × Row)
      → slice_get (indexes.references ss) i ≡ Some r → slice_get (chunk_lists ss) i ≡ Some cs
      → slice_get (part_of_series source deletions ss) i ≡ Some row
      → list_any (is_asked deletions r from to) (samples_in source cs) ≡ has_sample from to row.1.1
  live_here from to ss i r cs row h g f =
      let p = came_from (λ (s : Series). s.reference) ss i r h in
      let q = came_from (λ (s : Series). s.chunks) ss i cs g in
      let w = came_from (series_row source deletions) ss i row f in
      let same : p.0 ≡ q.0 = cc (p.1.0, q.1.0) in
      let other : p.0 ≡ w.0 = cc (p.1.0, w.1.0) in
      ap (λ (xs : List Chunk). list_any (is_asked deletions r from to) (samples_in source xs))
      (sym q.1.1)
      ∙ ap (λ (s : Series). list_any (is_asked deletions r from to) (samples_in source s.chunks))
      (sym same)
      ∙ ap (λ (x : ℕ). list_any (is_asked deletions x from to) (samples_in source p.0.chunks))
      (sym p.1.1)
      ∙ sym (any_filtered (λ (s : ℤ × ℤ). in_range from to s.0)
      (λ (s : ℤ × ℤ). not (covered deletions p.0.reference s.0)) (samples_in source p.0.chunks))
      ∙ ap (λ (s : Series). has_sample from to (series_row source deletions s).1.1) other
      ∙ ap (λ (x : ℕ × Row). has_sample from to x.1.1) w.1.1

  with_same : (name value : List ℕ) (ss : List Series) → references_with name value ss
      ≡ references_where (carries name value) (part_of_series source deletions ss)
  with_same name value [] = refl
  with_same name value (s ∷ ss) = go (carries name value s.labels) (with_same name value ss)
    where
      go : (b : Bool) → references_with name value ss
          ≡ references_where (carries name value) (part_of_series source deletions ss)
          → map (λ (t : Series). t.reference)
          (cond b (s ∷ filter (λ (t : Series). carries name value t.labels) ss)
          (filter (λ (t : Series). carries name value t.labels) ss))
          ≡ map (λ (row : ℕ × Row). row.0) (cond b (series_row source deletions s
          ∷ filter (λ (row : ℕ × Row). carries name value row.1.0) (part_of_series source deletions ss))
          (filter (λ (row : ℕ × Row). carries name value row.1.0) (part_of_series source deletions ss)))
      go true ih = ap (λ (rs : List ℕ). s.reference ∷ rs) ih
      go false ih = ih

  pub named_in : (x : Indexed) → IsConsistent x → AreCarriedPairs (part_of_series source deletions x.series) x.pairs
  named_in x sound = record {
    in_order = sound.pairs_in_order;
    carried =
        λ name value held none.
        sound.carried name value held (with_same name value x.series ∙ none);
    absent =
        λ name value none. sym (with_same name value x.series)
        ∙ or_empty (references_with name value x.series) (λ some.
        none (sound.listed name value some));
  }
    where
      or_empty : (xs : List ℕ) → ((xs ≡ [] → ⊥) → ⊥) → xs ≡ []
      or_empty [] h = refl
      or_empty (y ∷ ys) h = absurd (h (λ e. cc))

stored_chunks : (range : ℤ × ℤ) (source : Source) (P : List Chunk → Type 0)
    → ((s : Series) → IsStored range source s → P s.chunks) → (ss : List Series)
    → AllByRecursion (IsStored range source) ss → AllByRecursion P (chunk_lists ss)
stored_chunks range source P one [] all = tt
stored_chunks range source P one (s ∷ ss) all = (one s all.0, stored_chunks range source P one ss all.1)

fact_at : (P : List Chunk → Type 0) (lists : List (List Chunk)) (i : ℕ) (cs : List Chunk)
    → AllByRecursion P lists → slice_get lists i ≡ Some cs → P cs
fact_at P [] i cs all h = absurd cc
fact_at P (x ∷ xs) zero cs all h = let same : x ≡ cs = cc in subst P same all.0
fact_at P (x ∷ xs) (suc i) cs all h = fact_at P xs i cs all.1 h

-- the fields of a block, and what it shows
module _ (f : Files) (inside : Inside) (value : Shown) (e : f ≡ arc_value inside.files)
    (v : shown_of inside.range (source_in (arc_value inside.files)) (arc_value inside.files).index
    inside.tombstones ≡ value) where
  pub part_is : part_of_series (source_in f) inside.tombstones f.index.series ≡ value.part
  part_is =
      ap (λ (x : Files). part_of_series (source_in x) inside.tombstones x.index.series) e
      ∙ ap (λ (x : Shown). x.part) v

  pub refs_are : indexes.references f.index.series ≡ references value.part
  refs_are =
      sym (references_same (source_in f) inside.tombstones f.index.series)
      ∙ ap (λ (p : Part). references p) part_is

  pub size_is : length f.index.series ≡ length value.part
  size_is =
      sym (length-map f.index.series (series_row (source_in f) inside.tombstones))
      ∙ ap (λ (p : Part). length p) part_is

  pub lists_are : (name text : List ℕ)
      → references_with name text f.index.series ≡ references_where (carries name text) value.part
  lists_are name text =
      with_same (source_in f) inside.tombstones name text f.index.series
      ∙ ap (λ (p : Part). references_where (carries name text) p) part_is

  pub labels_are : (i r : ℕ) (l : Labels) → IsStrictlyIncreasing (indexes.references f.index.series)
      → slice_get (indexes.references f.index.series) i ≡ Some r
      → slice_get (label_sets f.index.series) i ≡ Some l
      → labels_in (row_at r value.part) ≡ Some l
  labels_are i r l rising h g =
      ap (λ (p : Part). labels_in (row_at r p)) (sym part_is)
      ∙ labels_here (source_in f) inside.tombstones f.index.series i r l rising h g

  pub row_is_none : (r : ℕ) → (Contains (indexes.references f.index.series) r → ⊥)
      → row_at r value.part ≡ None
  row_is_none r none =
      ap (λ (p : Part). row_at r p) (sym part_is)
      ∙ row_nowhere (source_in f) inside.tombstones f.index.series r none

  pub within_is : (from to : ℤ) (i r : ℕ) (cs : List Chunk) (row : ℕ × Row)
      → slice_get (indexes.references f.index.series) i ≡ Some r
      → slice_get (chunk_lists f.index.series) i ≡ Some cs → slice_get value.part i ≡ Some row
      → filter (is_asked inside.tombstones r from to) (samples_in (source_in f) cs)
      ≡ within from to row.1.1
  within_is from to i r cs row h g at =
      within_here (source_in f) inside.tombstones from to f.index.series i r cs row h g
      (ap (λ (p : Part). slice_get p i) part_is ∙ at)

  pub set_is : (i : ℕ) (l : Labels) (row : ℕ × Row)
      → slice_get (label_sets f.index.series) i ≡ Some l
      → slice_get value.part i ≡ Some row → l ≡ row.1.0
  set_is i l row g at =
      set_here (source_in f) inside.tombstones f.index.series i l row g
      (ap (λ (p : Part). slice_get p i) part_is ∙ at)

  pub set_each : {E : Type 0} (r : Result Labels E) (i : ℕ)
      → IfOk r (λ l. slice_get (label_sets f.index.series) i ≡ Some l)
      → IfOk r (λ l. (row : ℕ × Row) → slice_get value.part i ≡ Some row → l ≡ row.1.0)
  set_each (Ok l) i g = λ row at. set_is i l row g at
  set_each (Err e) i g = tt

  pub found_is : (i r : ℕ) → IsStrictlyIncreasing (indexes.references f.index.series)
      → slice_get (indexes.references f.index.series) i ≡ Some r
      → (row : ℕ × Row) × ((slice_get value.part i ≡ Some row) × (row_at r value.part ≡ Some row.1))
  found_is i r rising h =
      let stands = row_stands (source_in f) inside.tombstones f.index.series i r rising h in (
        stands.0,
        (
          ap (λ (p : Part). slice_get p i) (sym part_is) ∙ stands.1.0,
          ap (λ (p : Part). row_at r p) (sym part_is) ∙ stands.1.1,
        ),
      )

  pub live_is : (from to : ℤ) (i r : ℕ) (cs : List Chunk) (row : ℕ × Row)
      → slice_get (indexes.references f.index.series) i ≡ Some r
      → slice_get (chunk_lists f.index.series) i ≡ Some cs → slice_get value.part i ≡ Some row
      → list_any (is_asked inside.tombstones r from to) (samples_in (source_in f) cs)
      ≡ has_sample from to row.1.1
  live_is from to i r cs row h g at =
      live_here (source_in f) inside.tombstones from to f.index.series i r cs row h g
      (ap (λ (p : Part). slice_get p i) part_is ∙ at)

-- what holds of the fields
module _ (f : Files) (inside : Inside) (e : f ≡ arc_value inside.files)
    (h : IsOpened inside.range (arc_value inside.files).starts.items (arc_value inside.files).packed
    (arc_value inside.files).index) where
  opened : IsOpened inside.range f.starts.items f.packed f.index
  opened = subst (λ (x : Files). IsOpened inside.range x.starts.items x.packed x.index) (sym e) h

  sound : IsSoundBlock inside.range (source_in f) f.index
  sound = opened.sound

  pub rising : IsStrictlyIncreasing (indexes.references f.index.series)
  rising = sound.consistent.ascending

  pub all_held : AllByRecursion (AreHeldChunks (source_in f)) (chunk_lists f.index.series)
  all_held =
      stored_chunks inside.range (source_in f) (AreHeldChunks (source_in f)) (λ s stored. stored.held)
      f.index.series sound.stored

  pub are_held : (i : ℕ) (cs : List Chunk) → slice_get (chunk_lists f.index.series) i ≡ Some cs
      → AreHeldChunks (source_in f) cs
  are_held i cs g = fact_at (AreHeldChunks (source_in f)) (chunk_lists f.index.series) i cs all_held g

  pub are_in_turn : (i : ℕ) (cs : List Chunk)
      → slice_get (chunk_lists f.index.series) i ≡ Some cs → AreInTurn cs
  are_in_turn i cs g =
      fact_at AreInTurn (chunk_lists f.index.series) i cs (stored_chunks inside.range (source_in f)
      AreInTurn (λ s stored. stored.in_turn) f.index.series sound.stored) g

  pub starts_are : length f.starts.items ≡ length f.index.series
  starts_are = opened.kept.counted

  pub are_kept : (i first : ℕ) (cs : List Chunk) → first ≡ get_or f.starts.items i first
      → slice_get (chunk_lists f.index.series) i ≡ Some cs → AreKeptFrom f first cs
  are_kept i first cs read g =
      placed_at f.starts.items f.packed f.index opened.kept i first cs read g
