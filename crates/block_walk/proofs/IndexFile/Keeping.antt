-- What is kept of an index that was checked.
use Rattle.std.proofs.Common.{◌≡◌, ℕ, zero, suc, ◌<◌, List, [], ◌∷◌, length, get_or, Some, true, Ok, refl, ap, subst, arith}
use Rattle.std.specs.Prelude.{slice_get}
use Rattle.std.proofs.lemmas.List.{length-map, get_or-map}
use Rattle.labels.specs.LabelSets.{IsLabelSet}
use Rattle.block_walk.specs.declared.error.WalkError.{WalkError}
use Rattle.block_walk.specs.declared.checked.Checked.{Checked}
use Rattle.block_walk.specs.declared.bodies.Span.{Span}
use Rattle.block_walk.specs.declared.entries.Entry.{Entry}
use Rattle.block_walk.specs.declared.chunk.Chunk.{Chunk}
use Rattle.block_walk.specs.IndexFile.Outcome.{is_memory, Fails}
use Rattle.block_walk.specs.IndexFile.Layout.{SeriesEntry, ascending, Label, Body}
use Rattle.block_walk.specs.IndexFile.Seen.{entry_seen, entries_seen, texts}
use Rattle.block_walk.specs.IndexFile.Labelled.{AreLabels}
use Rattle.block_walk.specs.IndexFile.Flat.{body_in, bodies_in}
use Rattle.block_walk.specs.IndexFile.Whole.{read_of, series_in, indexed_of}
use Rattle.block_walk.specs.IndexFile.Series.{Series, named, series_at, series_of}
use Rattle.block_walk.specs.IndexFile.Kept.{read_seen, series_seen, IsHeldIn, AreInTable, IsCheckedIndex}
use Rattle.wire.proofs.Steps.{fails_on}
use Rattle.block_walk.proofs.IndexFile.Naming.{first_below, bodies_take, is_label_set}
use Rattle.block_walk.proofs.IndexFile.Facts.{chain, few_labels, series_length}
use Rattle.block_walk.proofs.IndexFile.Places.{mapped_at, stands_at}

-- ---- the series at a place

pub series_here : (symbols : List (List ℕ)) (ps : List SeriesEntry) (bs : List Body) (i : ℕ) (p : SeriesEntry)
    (b : Body) → slice_get ps i ≡ Some p → slice_get bs i ≡ Some b
    → slice_get (series_of symbols ps bs) i ≡ Some (series_at symbols p b)
unfolding series_of
series_here symbols [] bs i p b g h = absurd cc
series_here symbols (x ∷ ps) [] i p b g h = absurd cc
series_here symbols (x ∷ ps) (y ∷ bs) zero p b g h =
    let e : x ≡ p = cc in
    let f : y ≡ b = cc in
    rw (e, f) refl
series_here symbols (x ∷ ps) (y ∷ bs) (suc i) p b g h = series_here symbols ps bs i p b g h

pub rows_long : (c : Checked) (x : List Series) → IsCheckedIndex c → series_seen c ≡ x
    → length x ≡ length c.bodies.rows.items
rows_long c x k view =
    let bs = bodies_in c.bodies.labels.items c.bodies.chunks.items c.bodies.rows.items in
    let n = length-map c.bodies.rows.items (body_in c.bodies.labels.items c.bodies.chunks.items) in
    let m = length-map c.layout.entries.items entry_seen in
    let long =
    series_length (texts c.layout.symbols.items) (entries_seen c.layout.entries.items) bs
    (omega (arith, n, m, k.counted)) in
    omega (arith, n, long, ap (λ (ss : List Series). length ss) view)

pub series_stands : (c : Checked) (x : List Series) (i : ℕ) (r : Span) (p : SeriesEntry)
    → series_seen c ≡ x → slice_get c.bodies.rows.items i ≡ Some r
    → slice_get (entries_seen c.layout.entries.items) i ≡ Some p
    → slice_get x i ≡ Some (series_at (texts c.layout.symbols.items) p
    (body_in c.bodies.labels.items c.bodies.chunks.items r))
series_stands c x i r p view g h =
    let ls = c.bodies.labels.items in
    let cs = c.bodies.chunks.items in
    let symbols = texts c.layout.symbols.items in
    subst (λ (ss : List Series). slice_get ss i ≡ Some (series_at symbols p (body_in ls cs r))) view
    (series_here symbols (entries_seen c.layout.entries.items) (bodies_in ls cs c.bodies.rows.items) i p
    (body_in ls cs r) h (mapped_at (body_in ls cs) c.bodies.rows.items i r g))

pub row_inside : (c : Checked) (x : List Series) (i : ℕ) (rows : List Span) → IsCheckedIndex c
    → series_seen c ≡ x → i < length x → rows ≡ c.bodies.rows.items → i < length rows
row_inside c x i rows k view lt e =
    omega (arith, lt, rows_long c x k view, ap (λ (rs : List Span). length rs) e)

pub entry_inside : (c : Checked) (x : List Series) (i : ℕ) (entries : List Entry) → IsCheckedIndex c
    → series_seen c ≡ x → i < length x → entries ≡ c.layout.entries.items → i < length entries
entry_inside c x i entries k view lt e =
    omega (arith, lt, rows_long c x k view, k.counted, ap (λ (es : List Entry). length es) e)

pub series_of_row : (c : Checked) (x : List Series) (i : ℕ) (r : Span) → IsCheckedIndex c
    → series_seen c ≡ x → i < length x → slice_get c.bodies.rows.items i ≡ Some r
    → (p : SeriesEntry) × (slice_get x i ≡ Some (series_at (texts c.layout.symbols.items) p
    (body_in c.bodies.labels.items c.bodies.chunks.items r)))
series_of_row c x i r k view lt g =
    let none : SeriesEntry = record { offset = 0; body = []; end = 0 } in
    let ps = entries_seen c.layout.entries.items in
    let inside : i < length ps =
    omega (arith, lt, rows_long c x k view, k.counted, length-map c.layout.entries.items entry_seen) in
    (get_or ps i none, series_stands c x i r (get_or ps i none) view g (stands_at ps i none inside))

pub series_of_entry : (c : Checked) (x : List Series) (i : ℕ) (p : SeriesEntry) → IsCheckedIndex c
    → series_seen c ≡ x → i < length x → slice_get (entries_seen c.layout.entries.items) i ≡ Some p
    → (b : Body) × (slice_get x i ≡ Some (series_at (texts c.layout.symbols.items) p b))
series_of_entry c x i p k view lt g =
    let none : Body = record { labels = []; chunks = [] } in
    let symbols = texts c.layout.symbols.items in
    let bs = bodies_in c.bodies.labels.items c.bodies.chunks.items c.bodies.rows.items in
    let n = length-map c.bodies.rows.items (body_in c.bodies.labels.items c.bodies.chunks.items) in
    let inside : i < length bs = omega (arith, lt, rows_long c x k view, n) in
    let b = get_or bs i none in (
      b,
      subst (λ (ss : List Series). slice_get ss i ≡ Some (series_at symbols p b)) view (series_here
          symbols (entries_seen c.layout.entries.items) bs i p b g (stands_at bs i none inside)),
    )

-- ---- what the checks leave

body_at_row : (ls : List Label) (cs : List Chunk) (rs : List Span) (k : ℕ) (d : Span)
    → k < length rs
    → get_or (bodies_in ls cs rs) k (body_in ls cs d) ≡ body_in ls cs (get_or rs k d)
body_at_row ls cs rs k d lt = get_or-map (body_in ls cs) rs k d (body_in ls cs d) lt

inside_so : (symbols : List (List ℕ)) (ls : List Label) → AreLabels symbols 0 ls
    → AreInTable symbols ls
inside_so symbols ls h =
    λ k d lt. let o = first_below symbols 0 ls k d h lt in (o.name_in, o.value_in)

pub is_kept : (file : List ℕ) (c : Checked) → IsHeldIn file c
    → read_of file ≡ Ok (read_seen c) → IsCheckedIndex c
is_kept file c h read =
    let ls = c.bodies.labels.items in
    let cs = c.bodies.chunks.items in
    let rs = c.bodies.rows.items in
    let symbols = texts c.layout.symbols.items in
    let bs = bodies_in ls cs rs in
    let steps = chain file (read_seen c) read in
    let order : ascending symbols ≡ true = h.sound.order in
    let labelled = bodies_take symbols (entries_seen c.layout.entries.items) bs steps.bodies.read in
    let size = length-map rs (body_in ls cs) in
    record {
      inside = h.inside;
      counted = h.counted;
      small = h.sound.small;
      in_table = λ k d lt.
          let r = get_or rs k d in
          subst (λ (b : Body). AreInTable symbols b.labels) (body_at_row ls cs rs k d lt)
          (inside_so symbols (get_or bs k (body_in ls cs d)).labels
          (labelled k (body_in ls cs d) (omega (arith, lt, size))));
      labelled = λ k d lt.
          let b = body_in ls cs d in
          let inside : k < length bs = omega (arith, lt, size) in
          subst (λ (x : Body). IsLabelSet (named symbols x.labels)) (body_at_row ls cs rs k d lt)
          (is_label_set symbols (get_or bs k b).labels order (labelled k b inside)
          (few_labels bs k b steps.small inside));
    }

-- ---- the outcome

pub err_fails : (file : List ℕ) (e : WalkError) → Fails e (read_of file) → Fails e (indexed_of file)
unfolding indexed_of
err_fails file e f = fails_on is_memory e (read_of file) (λ r. Ok (series_in r)) (indexed_of file) refl f

pub exact_is : (file : List ℕ) (c : Checked) → read_of file ≡ Ok (read_seen c)
    → indexed_of file ≡ Ok (series_seen c)
unfolding indexed_of
exact_is file c h = rw h refl
