-- What is kept of a file that was read.
use Rattle.std.proofs.Common.{◌≡◌, ℕ, zero, suc, ◌+◌, ◌/◌, ◌<◌, ◌≤◌, List, [], ◌∷◌, ◌++◌, length}
use Rattle.std.proofs.Common.{get_or, drop, Some, Result, Ok, Err, refl, sym, ap, subst, ◌∙◌}
use Rattle.std.proofs.Common.{append_assoc, arith}
use Rattle.std.specs.Prelude.{slice_get, slice_range, map, IfOk}
use Rattle.std.specs.List.{All}
use Rattle.std.specs.Borrow.{Bor}
use Rattle.std.proofs.lemmas.List.{drop_all, append-nil, length-map, get_or-map}
use Rattle.wire.specs.Spelling.{IsBytes}
use Rattle.labels.specs.Labels.{Labels}
use Rattle.labels.specs.LabelSets.{IsLabelSet}
use Rattle.index_reader.specs.declared.error.IndexError.{IndexError}
use Rattle.index_reader.specs.declared.chunk.Chunk.{Chunk}
use Rattle.index_reader.specs.declared.series.Series.{Series}
use Rattle.index_reader.specs.declared.checks.Checked.{Checked}
use Rattle.index_reader.specs.Outcome.{is_memory, Gives, Fails}
use Rattle.index_reader.specs.Layout.{SeriesEntry, Label, Body}
use Rattle.index_reader.specs.Reading.Flat.{body_in, bodies_in, references_in_order}
use Rattle.index_reader.specs.References.{references_in, IsList}
use Rattle.index_reader.specs.Seen.{bytes_of, entries_seen, strings_of}
use Rattle.index_reader.specs.Reading.Agreement as agreement
use Rattle.index_reader.specs.Indexes.{named_label, named, series_at, series_of, references}
use Rattle.index_reader.specs.Indexes.{references_with}
use Rattle.index_reader.specs.Indexes as indexes
use Rattle.index_reader.specs.KeptIndex.{series_in, all_in, indexed_in, AreSeriesIn, AreInTable}
use Rattle.index_reader.specs.KeptIndex.{IsListing, IsKeptIndex}
use Rattle.index_reader.specs.Reading.Whole.{read_of, indexed, indexed_of, IsSoundRead}
use Rattle.index_reader.specs.Spelled.{IsIndex}
use Rattle.index_reader.specs.CheckedFile.{read_seen, IsHeldIn}
use Rattle.wire.proofs.Steps.{fails_on}
use Rattle.index_reader.proofs.Walks.{done}
use Rattle.index_reader.proofs.Eaches.{drop_at_place}
use Rattle.index_reader.proofs.Placing.{mapped_at}
use Rattle.index_reader.proofs.Found.{is_index}
use Rattle.index_reader.proofs.Facts.{read_is}
use Rattle.index_reader.proofs.Texts.{got, stands_at}

pub is_read : (file : List ℕ) (r : Result Checked IndexError) → Gives read_seen r (read_of file)
    → IfOk r (IsHeldIn file) → IfOk r (λ c. IsSoundRead (read_seen c))
is_read file (Ok c) g h = read_is file (read_seen c) h.parts g
is_read file (Err e) g h = tt

pub is_spelled : (file : List ℕ) (r : Result Checked IndexError) → IsBytes file
    → Gives read_seen r (read_of file) → IfOk r (IsHeldIn file)
    → IfOk r (λ c. IsIndex file (indexed (read_seen c)))
is_spelled file (Ok c) fits g h = is_index file (read_seen c) fits h.parts g
is_spelled file (Err e) fits g h = tt

-- ---- what is copied one by one

pub moved_on : {X : Type 0} (front whole : List X) (i : ℕ) (x y : X) → slice_get whole i ≡ Some x
    → y ≡ x → front ++ drop i whole ≡ whole → (front ++ y ∷ []) ++ drop (i + 1) whole ≡ whole
moved_on front whole i x y g e h =
    let s : i + 1 ≡ suc i = omega arith in
    append_assoc front (y ∷ []) (drop (i + 1) whole)
    ∙ rw (e, s) (ap (λ r. front ++ r) (sym (drop_at_place whole i x g)) ∙ h)

pub ended_so : {X : Type 0} (front whole : List X) (i : ℕ) → length whole ≤ i
    → front ++ drop i whole ≡ whole → front ≡ whole
ended_so front whole i le h =
    sym (append-nil front) ∙ ap (λ r. front ++ r) (sym (drop_all i whole le)) ∙ h

-- ---- the series of an entry and its body

abbrev made : ℕ → Labels → List Chunk → indexes.Series
made r ls cs = record { reference = r; labels = ls; chunks = cs }

-- ---- what stands at a place

pub all_here : {X : Type 0} (P : X → Type 0) (xs : List X) (i : ℕ) (x : X) → All P xs
    → slice_get xs i ≡ Some x → P x
all_here P [] i x h g = absurd cc
all_here P (y ∷ xs) zero x h g = let e : y ≡ x = cc in subst P e (h 0 y (omega arith))
all_here P (y ∷ xs) (suc i) x h g = all_here P xs i x (λ k d lt. h (suc k) d (omega arith)) g

pub list_here : (lists : List (Bor (List ℕ))) (i : ℕ) (x : List ℕ)
    → All (λ (l : Bor (List ℕ)). IsList l.now) lists
    → slice_get (bytes_of lists) i ≡ Some x → IsList x
list_here [] i x h g = absurd cc
list_here (y ∷ xs) zero x h g = let e : y.now ≡ x = cc in subst IsList e (h 0 y (omega arith))
list_here (y ∷ xs) (suc i) x h g = list_here xs i x (λ k d lt. h (suc k) d (omega arith)) g

stands_so : {X : Type 0} (xs : List X) (i : ℕ) (x : X) → i < length xs → x ≡ get_or xs i x
    → slice_get xs i ≡ Some x
stands_so xs i x lt e = stands_at xs i x lt ∙ ap (λ y. Some y) (sym e)

-- ---- series as they are kept

series_is : (symbols : List (List ℕ)) (labels : List Label) (chunks : List Chunk) (s : Series)
    (p : SeriesEntry) → s.reference ≡ p.offset / 16
    → series_in symbols labels chunks s ≡ series_at symbols p (body_in labels chunks s)
series_is symbols labels chunks s p e =
    ap (λ (n : ℕ). made n (named symbols (slice_range labels s.labels_start s.labels_end))
    (slice_range chunks s.chunks_start s.chunks_end)) e

first_number : (a b : ℕ) (xs ys : List ℕ) → a ∷ xs ≡ b ∷ ys → (a ≡ b) × (xs ≡ ys)
first_number a b xs ys e = (cc, ap (λ (zs : List ℕ). drop 1 zs) e)

-- series with the references of entries are those of the entries and their bodies
all_is : (symbols : List (List ℕ)) (labels : List Label) (chunks : List Chunk) (ss : List Series)
    (ps : List SeriesEntry) → references_in_order ss ≡ agreement.entry_references ps
    → all_in symbols labels chunks ss ≡ series_of symbols ps (bodies_in labels chunks ss)
unfolding series_of
all_is symbols labels chunks [] [] e = refl
all_is symbols labels chunks [] (p ∷ ps) e = absurd cc
all_is symbols labels chunks (s ∷ ss) [] e = absurd cc
all_is symbols labels chunks (s ∷ ss) (p ∷ ps) e =
    let n =
    first_number s.reference (p.offset / 16) (references_in_order ss)
    (agreement.entry_references ps) e in
    ap (λ (x : indexes.Series). x ∷ all_in symbols labels chunks ss)
    (series_is symbols labels chunks s p n.0)
    ∙ ap (λ (xs : List indexes.Series). series_at symbols p (body_in labels chunks s) ∷ xs)
    (all_is symbols labels chunks ss ps n.1)

-- ---- what an index shows of what it keeps

pub series_seen : (symbols : List (List ℕ)) (keys labels : List Label) (chunks : List Chunk)
    (ss : List Series) (x : indexes.Indexed) (i : ℕ) (s : Series)
    → indexed_in symbols keys labels chunks ss ≡ x → i < length x.series → s ≡ get_or ss i s
    → slice_get x.series i ≡ Some (series_in symbols labels chunks s)
series_seen symbols keys labels chunks ss x i s view lt e =
    let v : all_in symbols labels chunks ss ≡ x.series =
    ap (λ (y : indexes.Indexed). y.series) view in
    let n : i < length ss = omega (
      arith,
      lt,
      ap (λ (zs : List indexes.Series). length zs) v,
      length-map ss (series_in symbols labels chunks),
    ) in
    subst (λ (zs : List indexes.Series). slice_get zs i ≡ Some (series_in symbols labels chunks s))
    v (mapped_at (series_in symbols labels chunks) ss i s (stands_so ss i s n e))

pub listed_entry : (symbols : List (List ℕ)) (keys : List Label) (series : List indexes.Series)
    (lists : List (List ℕ)) → IsListing symbols keys series lists → (name value : List ℕ) (i : ℕ)
    → i < length keys → named_label symbols (get_or keys i (0, 0)) ≡ (name, value)
    → (e : List ℕ × ℕ) → slice_get lists (i + 1) ≡ Some e.0 → e.1 ≡ 0
    → e ≡ (references_with name value series, 0)
listed_entry symbols keys series lists l name value i lt t e g z =
    let f : e.0 ≡ references_with name value series =
    sym (got lists (i + 1) e.0 [] g)
    ∙ l.listed i lt
    ∙ ap (λ (p : List ℕ × List ℕ). references_with p.0 p.1 series) t in
    λ j. (f j, z j)

pub all_entry : (symbols : List (List ℕ)) (keys : List Label) (series : List indexes.Series)
    (lists : List (List ℕ)) → IsListing symbols keys series lists → (e : List ℕ × ℕ)
    → slice_get lists 0 ≡ Some e.0 → e.1 ≡ 0 → e ≡ (references series, 0)
all_entry symbols keys series lists l e g z =
    let f : e.0 ≡ references series = sym (got lists 0 e.0 [] g) ∙ l.all in
    λ j. (f j, z j)

-- ---- what opening leaves

pub err_fails : (file : List ℕ) (e : IndexError) → Fails e (read_of file)
    → Fails e (indexed_of file)
unfolding indexed_of
err_fails file e f =
    fails_on is_memory e (read_of file) (λ r. Ok (indexed r)) (indexed_of file) refl f

pub exact_is : (file : List ℕ) (c : Checked) (x : indexes.Indexed) → read_of file ≡ Ok (read_seen c)
    → indexed (read_seen c) ≡ x → indexed_of file ≡ Ok x
unfolding indexed_of
exact_is file c x h e = rw h (ap (λ (y : indexes.Indexed). done y) e)

rows_inside : (file : List ℕ) (c : Checked) → IsHeldIn file c → IsSoundRead (read_seen c)
    → All (λ (r : Series). AreInTable (strings_of c.symbols.texts.items)
    (slice_range c.bodies.labels.items r.labels_start r.labels_end)) c.bodies.series.items
rows_inside file c h i = λ k d lt.
    let ls = c.bodies.labels.items in
    let cs = c.bodies.chunks.items in
    let rs = c.bodies.series.items in
    let e : get_or (bodies_in ls cs rs) k (body_in ls cs d) ≡ body_in ls cs (get_or rs k d) =
    get_or-map (body_in ls cs) rs k d (body_in ls cs d) lt in
    let o = i.inside k (body_in ls cs d) (omega (arith, lt, length-map rs (body_in ls cs))) in
    let r = get_or rs k d in
    subst (λ (symbols : List (List ℕ)). AreInTable symbols
    (slice_range ls r.labels_start r.labels_end)) (sym h.symbols)
    (subst (λ (b : Body). AreInTable (bytes_of c.layout.symbols.texts.items) b.labels) e o)

rows_labelled : (file : List ℕ) (c : Checked) → IsHeldIn file c → IsSoundRead (read_seen c)
    → All (λ (r : Series). IsLabelSet (named (strings_of c.symbols.texts.items)
    (slice_range c.bodies.labels.items r.labels_start r.labels_end))) c.bodies.series.items
rows_labelled file c h i = λ k d lt.
    let ls = c.bodies.labels.items in
    let cs = c.bodies.chunks.items in
    let rs = c.bodies.series.items in
    let e : get_or (bodies_in ls cs rs) k (body_in ls cs d) ≡ body_in ls cs (get_or rs k d) =
    get_or-map (body_in ls cs) rs k d (body_in ls cs d) lt in
    let o = i.labelled k (body_in ls cs d) (omega (arith, lt, length-map rs (body_in ls cs))) in
    let r = get_or rs k d in
    subst (λ (symbols : List (List ℕ)).
    IsLabelSet (named symbols (slice_range ls r.labels_start r.labels_end))) (sym h.symbols)
    (subst (λ (b : Body). IsLabelSet (named (bytes_of c.layout.symbols.texts.items) b.labels)) e o)

rows_within : (file : List ℕ) (c : Checked) → IsHeldIn file c → IsSoundRead (read_seen c)
    → AreSeriesIn (strings_of c.symbols.texts.items) c.bodies.labels.items c.bodies.chunks.items
    c.bodies.series.items
rows_within file c h i = λ k d lt. let o = c.bodies.inside k d lt in record {
  labels_ordered = o.labels_ordered;
  labels_inside = o.labels_inside;
  chunks_ordered = o.chunks_ordered;
  chunks_inside = o.chunks_inside;
  in_table = rows_inside file c h i k d lt;
  labelled = rows_labelled file c h i k d lt;
}

pub lists_whole : (c : Checked) → IsSoundRead (read_seen c)
    → All (λ (l : Bor (List ℕ)). IsList l.now) c.lists.items
lists_whole c i = λ k d lt.
    let e : get_or (bytes_of c.lists.items) k d.now ≡ (get_or c.lists.items k d).now =
    get_or-map (λ (l : Bor (List ℕ)). l.now) c.lists.items k d d.now lt in
    subst IsList e
    (i.lists k d.now (omega (arith, lt, length-map c.lists.items (λ (l : Bor (List ℕ)). l.now))))

abbrev of_both : List indexes.Series → List (List ℕ × List ℕ) → indexes.Indexed
of_both ss ps = record { series = ss; pairs = ps }

held_series : (file : List ℕ) (c : Checked) → IsHeldIn file c
    → all_in (strings_of c.symbols.texts.items) c.bodies.labels.items c.bodies.chunks.items
    c.bodies.series.items
    ≡ series_of (strings_of c.symbols.texts.items) (entries_seen c.layout.entries.items)
    (bodies_in c.bodies.labels.items c.bodies.chunks.items c.bodies.series.items)
held_series file c h =
    all_is (strings_of c.symbols.texts.items) c.bodies.labels.items c.bodies.chunks.items
    c.bodies.series.items (entries_seen c.layout.entries.items) h.referred

pub keys_inside : (file : List ℕ) (c : Checked) → IsHeldIn file c → IsSoundRead (read_seen c)
    → AreInTable (strings_of c.symbols.texts.items) c.keys.pairs.items
keys_inside file c h i =
    subst (λ (symbols : List (List ℕ)). AreInTable symbols c.keys.pairs.items) (sym h.symbols)
    i.listing.inside

pub whole_is : (file : List ℕ) (c : Checked) (labels : List Label) (chunks : List Chunk)
    (ss : List Series) → IsHeldIn file c → labels ≡ c.bodies.labels.items
    → chunks ≡ c.bodies.chunks.items
    → ss ≡ c.bodies.series.items
    → indexed (read_seen c)
    ≡ indexed_in (strings_of c.symbols.texts.items) c.keys.pairs.items labels chunks ss
whole_is file c labels chunks ss h f e g =
    let bs = bodies_in c.bodies.labels.items c.bodies.chunks.items c.bodies.series.items in
    let ps = entries_seen c.layout.entries.items in
    let symbols = strings_of c.symbols.texts.items in
    let a : series_of (bytes_of c.layout.symbols.texts.items) ps bs
    ≡ all_in symbols labels chunks ss =
    ap (λ (y : List (List ℕ)). series_of y ps bs) (sym h.symbols)
    ∙ sym (held_series file c h)
    ∙ ap (all_in symbols c.bodies.labels.items c.bodies.chunks.items) (sym g)
    ∙ ap (λ (ls : List Label). all_in symbols ls c.bodies.chunks.items ss) (sym f)
    ∙ ap (λ (cs : List Chunk). all_in symbols labels cs ss) (sym e) in
    let b : named (bytes_of c.layout.symbols.texts.items) c.keys.pairs.items
    ≡ named symbols c.keys.pairs.items =
    ap (λ (y : List (List ℕ)). named y c.keys.pairs.items) (sym h.symbols) in
    ap (λ (x : List indexes.Series). of_both x
    (named (bytes_of c.layout.symbols.texts.items) c.keys.pairs.items)) a
    ∙ ap (of_both (all_in symbols labels chunks ss)) b

pub is_kept : (file : List ℕ) (c : Checked) (labels : List Label) (chunks : List Chunk)
    (ss : List Series) (lists : List (List ℕ)) → IsHeldIn file c → IsSoundRead (read_seen c)
    → labels ≡ c.bodies.labels.items → chunks ≡ c.bodies.chunks.items
    → ss ≡ c.bodies.series.items
    → lists ≡ map references_in (bytes_of c.lists.items)
    → IsKeptIndex (strings_of c.symbols.texts.items) c.keys.pairs.items labels chunks ss lists
is_kept file c labels chunks ss lists h i f e g copied =
    let bs = bodies_in c.bodies.labels.items c.bodies.chunks.items c.bodies.series.items in
    let ps = entries_seen c.layout.entries.items in
    let symbols = strings_of c.symbols.texts.items in
    let keys = c.keys.pairs.items in
    let raws = map references_in (bytes_of c.lists.items) in
    let read : IsListing symbols keys (series_of symbols ps bs) raws =
    subst (λ (y : List (List ℕ)). IsListing y keys (series_of y ps bs) raws)
    (sym h.symbols) i.listing in
    let same : series_of symbols ps bs ≡ all_in symbols labels chunks ss =
    sym (held_series file c h)
    ∙ ap (all_in symbols c.bodies.labels.items c.bodies.chunks.items) (sym g)
    ∙ ap (λ (ls : List Label). all_in symbols ls c.bodies.chunks.items ss) (sym f)
    ∙ ap (λ (cs : List Chunk). all_in symbols labels cs ss) (sym e) in
    record {
      within =
          subst (λ (ls : List Label). AreSeriesIn symbols ls chunks ss) (sym f)
          (subst (λ (cs : List Chunk). AreSeriesIn symbols c.bodies.labels.items cs ss) (sym e)
          (subst (AreSeriesIn symbols c.bodies.labels.items c.bodies.chunks.items) (sym g)
          (rows_within file c h i)));
      listing =
          subst (IsListing symbols keys (all_in symbols labels chunks ss)) (sym copied)
          (subst (λ (series : List indexes.Series). IsListing symbols keys series raws) same read);
    }

-- ---- the label set of a series

pub set_here : {E : Type 0} (r : Result Labels E) (ls : Labels) (sets : List Labels) (i : ℕ)
    → slice_get sets i ≡ Some ls → IfOk r (λ l. l ≡ ls) → IfOk r (λ l. slice_get sets i ≡ Some l)
set_here (Ok l) ls sets i g e = g ∙ ap (λ (x : Labels). Some x) (sym e)
set_here (Err e) ls sets i g h = tt
