-- What spells an index of a block spells its series, whatever its postings are.
use Rattle.std.proofs.Common.{◌≡◌, ℕ, zero, suc, ◌+◌, ◌<◌, ◌≤◌, List, [], ◌∷◌, ◌++◌, length, get_or, map, refl, sym, ◌∙◌, ap, subst, inl, inr, arith}
use Rattle.std.specs.Prelude.{◌&&◌}
use Rattle.std.specs.List.{Contains}
use Rattle.std.specs.declared.cmp.Ordering.TheVariants.{Less}
use Rattle.std.proofs.lemmas.List.{length-map}
use Rattle.wire.specs.Spelling.{uvarint}
use Rattle.labels.proofs.Lists.{here, there, Contains-cases, none_in_nil}
use Rattle.labels.specs.Labels.{Labels, labels_cmp}
use Rattle.index_reader.specs.declared.layout.TableOfContents as kept_contents
use Rattle.index_reader.specs.declared.chunk.Chunk as kept_chunk
use Rattle.index_reader.specs.Layout as index_layout
use Rattle.index_reader.specs.Grammar as grammar
use Rattle.index_reader.specs.Spelled as spelled
use Rattle.index_reader.specs.Indexes as indexes
use Rattle.block_walk.specs.declared.contents.Contents.{Contents}
use Rattle.block_walk.specs.declared.chunk.Chunk.{Chunk}
use Rattle.block_walk.specs.IndexFile.Layout.{IsPlaced, SeriesEntry, Layout, ascending, is_less, Label, Body}
use Rattle.block_walk.specs.IndexFile.Grammar.{IsSymbolTable, IsWalk, IsLayout}
use Rattle.block_walk.specs.IndexFile.Labelled.{AreLabels}
use Rattle.block_walk.specs.IndexFile.Series.{Series, references, label_sets, series_at, series_of}
use Rattle.block_walk.specs.IndexFile.Spelled.{IsFirst, IsLater, AreLater, AreChunks, IsBody, AreBodies, AreZero, AreInOrder, IsIndex}

-- the auditor's words for what the store's reader has

abbrev pub contents_told : kept_contents.TableOfContents → Contents
contents_told t = record {
  symbols = t.symbols;
  series = t.series;
  label_indices = t.label_indices;
  label_offsets = t.label_offsets;
  postings = t.postings;
  postings_offsets = t.postings_offsets;
}

abbrev pub entry_told : index_layout.SeriesEntry → SeriesEntry
entry_told p = record { offset = p.offset; body = p.body; end = p.end }

abbrev pub layout_told : index_layout.Layout → Layout
layout_told x = record {
  contents = contents_told x.contents;
  symbols = x.symbols;
  symbols_end = x.symbols_end;
  entries = map entry_told x.entries;
}

abbrev pub chunk_told : kept_chunk.Chunk → Chunk
chunk_told c = record { mint = c.mint; maxt = c.maxt; reference = c.reference }

abbrev pub body_told : index_layout.Body → Body
body_told b = record { labels = b.labels; chunks = map chunk_told b.chunks }

abbrev pub series_told : indexes.Series → Series
series_told s =
    record { reference = s.reference; labels = s.labels; chunks = map chunk_told s.chunks }

-- the layout

placed_again : (t : kept_contents.TableOfContents) (len : ℕ) → index_layout.IsPlaced t len
    → IsPlaced (contents_told t) len
placed_again t len p = record {
  long = p.long;
  short = p.short;
  symbols = p.symbols;
  series = p.series;
  postings = p.postings;
  postings_offsets = p.postings_offsets;
  end = p.end;
  label_indices = p.label_indices;
  label_offsets = p.label_offsets;
}

ascending_again : (ss : List (List ℕ)) → ascending ss ≡ index_layout.ascending ss
unfolding ascending index_layout.ascending
ascending_again [] = refl
ascending_again (a ∷ []) = refl
ascending_again (a ∷ b ∷ rest) = ap (λ x. is_less a b && x) (ascending_again (b ∷ rest))

symbols_again : (content : List ℕ) (symbols : List (List ℕ)) → grammar.IsSymbolTable content symbols
    → IsSymbolTable content symbols
symbols_again content symbols t =
    record { text = t.text; order = ascending_again symbols ∙ t.order; texts = t.texts }

walk_again : (ps : List index_layout.SeriesEntry) (file : List ℕ) (end at : ℕ)
    → grammar.IsWalk file end at ps → IsWalk file end at (map entry_told ps)
walk_again [] file end at w = w
walk_again (p ∷ ps) file end at w = (
  w.0,
  w.1,
  w.2,
  walk_again ps file end (index_layout.rounded (at + length (grammar.entry p.body))) w.3,
  w.4,
)

layout_again : (file : List ℕ) (x : index_layout.Layout) → grammar.IsLayout file x
    → IsLayout file (layout_told x)
layout_again file x i = record {
  start = i.start;
  contents = i.contents;
  placed = placed_again x.contents (length file) i.placed;
  symbols =
      (i.symbols.0, i.symbols.1, symbols_again i.symbols.0 x.symbols i.symbols.2, i.symbols.3);
  entries =
      walk_again x.entries file (index_layout.series_end x.contents)
      (index_layout.rounded x.contents.series) i.entries;
}

-- the bodies

labels_again : (symbols : List (List ℕ)) (low : ℕ) (ls : List Label)
    → spelled.AreLabels symbols low ls → AreLabels symbols low ls
labels_again symbols low [] are = tt
labels_again symbols low (l ∷ ls) are =
    let i = are.0 in (
      record {
        from = i.from;
        name_in = i.name_in;
        value_in = i.value_in;
        name = i.name;
        value = i.value;
      },
      labels_again symbols (l.0 + 1) ls are.1,
    )

first_again : (c : kept_chunk.Chunk) (text : List ℕ) → spelled.IsFirst c text
    → IsFirst (chunk_told c) text
first_again c text i = record {
  span = i.span;
  spelled = i.spelled;
  span_fits = i.span_fits;
  fits = i.fits;
  ends = i.ends;
  begins_in_time = i.begins_in_time;
  ends_in_time = i.ends_in_time;
}

later_again : (before c : kept_chunk.Chunk) (text : List ℕ) → spelled.IsLater before c text
    → IsLater (chunk_told before) (chunk_told c) text
later_again before c text i = record {
  gap = i.gap;
  span = i.span;
  step = i.step;
  spelled = i.spelled;
  gap_fits = i.gap_fits;
  span_fits = i.span_fits;
  step_fits = i.step_fits;
  later = i.later;
  begins = i.begins;
  ends = i.ends;
  refers = i.refers;
  begins_in_time = i.begins_in_time;
  ends_in_time = i.ends_in_time;
  fits = i.fits;
}

later_ones_again : (before : kept_chunk.Chunk) (cs : List kept_chunk.Chunk) (text : List ℕ)
    → spelled.AreLater before cs text → AreLater (chunk_told before) (map chunk_told cs) text
later_ones_again before [] text are = are
later_ones_again before (c ∷ cs) text are =
    (are.0, are.1, are.2, later_again before c are.0 are.3, later_ones_again c cs are.1 are.4)

chunks_again : (cs : List kept_chunk.Chunk) (text : List ℕ) → spelled.AreChunks cs text
    → AreChunks (map chunk_told cs) text
chunks_again [] text are = are
chunks_again (c ∷ cs) text are = (
  are.0,
  are.1,
  are.2 ∙ ap (λ (n : ℕ). uvarint (n + 1) ++ (are.0 ++ are.1)) (sym (length-map cs chunk_told)),
  first_again c are.0 are.3,
  later_ones_again c cs are.1 are.4,
)

body_again : (symbols : List (List ℕ)) (b : index_layout.Body) (text : List ℕ)
    → spelled.IsBody symbols b text → IsBody symbols (body_told b) text
body_again symbols b text i = record {
  chunks_text = i.chunks_text;
  spelled = i.spelled;
  labels = labels_again symbols 0 b.labels i.labels;
  chunks = chunks_again b.chunks i.chunks_text i.chunks;
}

bodies_again : (symbols : List (List ℕ)) (ps : List index_layout.SeriesEntry)
    (bs : List index_layout.Body) → spelled.AreBodies symbols ps bs
    → AreBodies symbols (map entry_told ps) (map body_told bs)
bodies_again symbols [] [] are = tt
bodies_again symbols [] (b ∷ bs) are = absurd are
bodies_again symbols (p ∷ ps) [] are = absurd are
bodies_again symbols (p ∷ ps) (b ∷ bs) are =
    (body_again symbols b p.body are.0, bodies_again symbols ps bs are.1)

few_again : (bs : List index_layout.Body)
    → ((k : ℕ) (d : index_layout.Body) → k < length bs → length (get_or bs k d).labels ≤ 64)
    → (k : ℕ) (d : Body) → k < length (map body_told bs)
    → length (get_or (map body_told bs) k d).labels ≤ 64
few_again [] few k d lt = absurd (omega (arith, lt))
few_again (b ∷ bs) few zero d lt = few zero b (omega arith)
few_again (b ∷ bs) few (suc k) d lt =
    few_again bs (λ j e l. few (suc j) e (omega (arith, l))) k d (omega (arith, lt))

-- the bytes between the entries

told_of : (ps : List index_layout.SeriesEntry) (p : index_layout.SeriesEntry) → Contains ps p
    → Contains (map entry_told ps) (entry_told p)
told_of [] p c = absurd (none_in_nil p c)
told_of (q ∷ ps) p c =
    elim (Contains-cases q ps p c) [
      | inl e ↦
          subst (λ (x : SeriesEntry). Contains (entry_told q ∷ map entry_told ps) x) (ap entry_told e)
          (here (entry_told q) (map entry_told ps))
      | inr m ↦ there (entry_told q) (entry_told p) (map entry_told ps) (told_of ps p m)
    ]

zeros_again : (file : List ℕ) (from to : ℕ) (ps : List index_layout.SeriesEntry)
    → spelled.AreZero file from to ps → AreZero file from to (map entry_told ps)
zeros_again file from to ps zeros k low high none =
    zeros k low high (λ p c lies. none (entry_told p) (told_of ps p c) lies)

-- the series

pub series_again : (symbols : List (List ℕ)) (ps : List index_layout.SeriesEntry)
    (bs : List index_layout.Body) → series_of symbols (map entry_told ps) (map body_told bs)
    ≡ map series_told (indexes.series_of symbols ps bs)
unfolding series_of indexes.series_of
series_again symbols [] bs = refl
series_again symbols (p ∷ ps) [] = refl
series_again symbols (p ∷ ps) (b ∷ bs) =
    ap (λ (ss : List Series). series_at symbols (entry_told p) (body_told b) ∷ ss)
    (series_again symbols ps bs)

sets_again : (ss : List indexes.Series) → label_sets (map series_told ss) ≡ indexes.label_sets ss
sets_again [] = refl
sets_again (s ∷ ss) = ap (λ (ls : List Labels). s.labels ∷ ls) (sets_again ss)

pub references_again : (ss : List indexes.Series)
    → references (map series_told ss) ≡ indexes.references ss
references_again [] = refl
references_again (s ∷ ss) = ap (λ (rs : List ℕ). s.reference ∷ rs) (references_again ss)

order_again : (ss : List indexes.Series) → ((k : ℕ) → k + 1 < length ss
    → labels_cmp (get_or (indexes.label_sets ss) k []) (get_or (indexes.label_sets ss) (k + 1) [])
    ≡ Less) → AreInOrder (map series_told ss)
order_again ss order k lt =
    let inside : k + 1 < length ss = omega (arith, lt, length-map ss series_told) in
    subst (λ (ls : List Labels). labels_cmp (get_or ls k []) (get_or ls (k + 1) []) ≡ Less)
    (sym (sets_again ss)) (order k inside)

-- the whole

pub index_again : (file : List ℕ) (x : indexes.Indexed) → spelled.IsIndex file x
    → IsIndex file (map series_told x.series)
index_again file x i = record {
  parts = layout_told i.parts;
  layout = layout_again file i.parts i.layout;
  bodies = map body_told i.bodies;
  spelled = bodies_again i.parts.symbols i.parts.entries i.bodies i.spelled;
  gaps =
      zeros_again file i.parts.symbols_end (index_layout.series_end i.parts.contents)
      i.parts.entries i.gaps;
  series_are =
      ap (λ (ss : List indexes.Series). map series_told ss) i.series
      ∙ sym (series_again i.parts.symbols i.parts.entries i.bodies);
  in_order = order_again x.series i.consistent.in_order;
  few =
      let n : length (map series_told x.series) ≡ length x.series =
      length-map x.series series_told in omega (arith, n, i.consistent.few);
  few_labels = few_again i.bodies i.few_labels;
}
