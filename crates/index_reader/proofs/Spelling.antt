-- An index that is read is spelled so.
use Rattle.std.proofs.Common.{◌≡◌, ℕ, zero, suc, ◌+◌, ◌-◌, ◌*◌, ◌/◌, ◌<◌, Bool, true, false, ◌&&◌}
use Rattle.std.proofs.Common.{cond, eqb, List, [], ◌∷◌, ◌++◌, length, get_or, drop, Option, Some}
use Rattle.std.proofs.Common.{None, Result, Ok, Err, refl, sym, ap, subst, ◌∙◌, ◌⊎◌, inl, inr}
use Rattle.std.proofs.Common.{arith}
use Rattle.std.specs.Prelude.{map, slice_range}
use Rattle.std.specs.List.{flat_map, AllByRecursion, list_all}
use Rattle.std.proofs.lemmas.Bool.{eqb-true}
use Rattle.std.proofs.lemmas.List.{append-nil, length-drop, nil_from_length, take-append-drop}
use Rattle.std.proofs.lemmas.List.Concat.{flat_map-cons}
use Rattle.byteorder.specs.Endian.{big_number, big_bytes}
use Rattle.byteorder.specs.Numbers.{big_from-lt}
use Rattle.wire.specs.Spelling.{IsBytes, uvarint}
use Rattle.wire.specs.Checksum.{crc32c}
use Rattle.wire.specs.Reading.{byte_at, number_at, bytes_at, uvarint_at}
use Rattle.wire.proofs.Fields.{IsBytes-front, IsBytes-back, IsBytes-take, IsBytes-drop}
use Rattle.wire.proofs.Fields.{number_takes_4, bytes_takes, big_bytes_4}
use Rattle.wire.proofs.Laws.{uvarint_takes}
use Rattle.index_reader.specs.declared.chunk.Chunk.{Chunk}
use Rattle.index_reader.specs.declared.layout.TableOfContents.{TableOfContents}
use Rattle.index_reader.specs.declared.error.IndexError.{IndexError}
use Rattle.index_reader.specs.declared.error.IndexError.TheVariants.{Series, Offsets, Postings}
use Rattle.index_reader.specs.declared.error.IndexError.TheVariants.{PostingsCrc}
use Rattle.index_reader.specs.Reading.Steps.{steps, each}
use Rattle.wire.specs.Outcome.{◌>>=◌, or_refused}
use Rattle.index_reader.specs.Reading.Frames.{frame_at}
use Rattle.index_reader.specs.Layout.{SeriesEntry, rounded, rises, Label, Body, TableEntry}
use Rattle.index_reader.specs.Layout.{is_before, is_within, postings_end}
use Rattle.index_reader.specs.Grammar.{frame, entry, symbol, StandsAt, IsWalk}
use Rattle.index_reader.specs.Reading.Bodies.{is_label, label_at, labels_at, or_series, chunk_at}
use Rattle.index_reader.specs.Reading.Bodies.{chunks_at, behind, body_at}
use Rattle.index_reader.specs.Reading.Chunks.{first_at, later_at}
use Rattle.index_reader.specs.Reading.Flat.{body_of_entry}
use Rattle.index_reader.specs.References.{words, references_in, IsList}
use Rattle.index_reader.specs.Reading.Table.{text_at, table_entry_at, table_at, label_offsets_at}
use Rattle.index_reader.specs.Reading.Table.{table_content_at}
use Rattle.index_reader.specs.Reading.Postings.{section_at, references_at}
use Rattle.index_reader.specs.Checks.{AreSmall, HasFrame}
use Rattle.index_reader.specs.Spelled.{AreLabels, label_text, IsLater, AreLater, AreChunks, IsBody}
use Rattle.index_reader.specs.Spelled.{AreBodies, listed_text, table_text, IsTable, list_text}
use Rattle.index_reader.specs.Spelled.{AreSections}
use Rattle.index_reader.proofs.WalkLoops.{guard_ended}
use Rattle.wire.proofs.Steps.{bind_ok, refused_ok}
use Rattle.index_reader.proofs.Walks.{ok_is}
use Rattle.index_reader.proofs.Fields.{Takes, takes, Takes-then, frame_takes}
use Rattle.index_reader.proofs.Naming.{body_takes}
use Rattle.index_reader.proofs.WordsAt.{length-refs}
use Rattle.index_reader.proofs.Texts.{each_cons, each_nil}
use Rattle.index_reader.proofs.ChunkSpelling.{first_spelled, later_spelled}

uvarint_read : (e : IndexError) (bytes : List ℕ) (x : ℕ × List ℕ) → IsBytes bytes
    → or_refused e (uvarint_at bytes) ≡ Ok x → Takes bytes (uvarint x.0) x.1
uvarint_read e bytes x fits h =
    takes bytes (uvarint x.0) x.1 fits
    (uvarint_takes bytes x.0 x.1 fits (refused_ok e (uvarint_at bytes) x h)).0

range_fits : (file : List ℕ) (at end : ℕ) → IsBytes file → IsBytes (slice_range file at end)
range_fits file at end fits = IsBytes-take (end - at) (drop at file) (IsBytes-drop at file fits)

nothing_taken : (bytes : List ℕ) → IsBytes bytes → Takes bytes [] bytes
nothing_taken bytes fits = record { parts = refl; rest_fits = fits }

-- ---- labels

label_spelled : (symbols : List (List ℕ)) (s : ℕ × List ℕ) (y : Label × (ℕ × List ℕ)) → IsBytes s.1
    → label_at symbols s ≡ Ok y → Takes s.1 (label_text y.0) y.1.1
unfolding label_at
label_spelled symbols s y fits h =
    let a = bind_ok (or_refused Series (uvarint_at s.1)) _ y h in
    let b = bind_ok (or_refused Series (uvarint_at a.0.1)) _ y a.2 in
    let t0 = uvarint_read Series s.1 a.0 fits a.1 in
    let t1 = uvarint_read Series a.0.1 b.0 t0.rest_fits b.1 in
    let made : Label × (ℕ × List ℕ) = ((a.0.0, b.0.0), (a.0.0 + 1, b.0.1)) in
    let g = guard_ended (is_label symbols s.0 a.0.0 b.0.0) Series made y b.2 in
    subst (λ (z : Label × (ℕ × List ℕ)). Takes s.1 (label_text z.0) z.1.1) g.1
    (Takes-then s.1 (uvarint a.0.0) a.0.1 (uvarint b.0.0) b.0.1 t0 t1)

labels_spelled : (symbols : List (List ℕ)) (n : ℕ) (s : ℕ × List ℕ) (x : List Label × (ℕ × List ℕ))
    → IsBytes s.1 → steps (label_at symbols) n s ≡ Ok x
    → Takes s.1 (flat_map label_text x.0) x.1.1 × (length x.0 ≡ n)
unfolding steps
labels_spelled symbols zero s x fits h =
    let made : List Label × (ℕ × List ℕ) = ([], s) in
    subst (λ (z : List Label × (ℕ × List ℕ)). Takes s.1 (flat_map label_text z.0) z.1.1
    × (length z.0 ≡ 0)) (ok_is made x h) (nothing_taken s.1 fits, refl)
labels_spelled symbols (suc n) s x fits h =
    let a = bind_ok (label_at symbols s) _ x h in
    let b = bind_ok (steps (label_at symbols) n a.0.1) _ x a.2 in
    let one = label_spelled symbols s a.0 fits a.1 in
    let more = labels_spelled symbols n a.0.1 b.0 one.rest_fits b.1 in
    let made : List Label × (ℕ × List ℕ) = (a.0.0 ∷ b.0.0, b.0.1) in
    let whole =
    Takes-then s.1 (label_text a.0.0) a.0.1.1 (flat_map label_text b.0.0) b.0.1.1 one more.0 in
    subst (λ (z : List Label × (ℕ × List ℕ)). Takes s.1 (flat_map label_text z.0) z.1.1
    × (length z.0 ≡ suc n)) (ok_is made x b.2) (rw flat_map-cons whole, ap suc more.1)

all_labels_spelled : (symbols : List (List ℕ)) (bytes : List ℕ) (x : List Label × (ℕ × List ℕ))
    → IsBytes bytes → labels_at symbols bytes ≡ Ok x
    → Takes bytes (uvarint (length x.0) ++ flat_map label_text x.0) x.1.1
unfolding labels_at
all_labels_spelled symbols bytes x fits h =
    let n = bind_ok (or_refused Series (uvarint_at bytes)) _ x h in
    let t0 = uvarint_read Series bytes n.0 fits n.1 in
    let more = labels_spelled symbols n.0.0 (0, n.0.1) x t0.rest_fits n.2 in
    subst (λ (k : ℕ). Takes bytes (uvarint k ++ flat_map label_text x.0) x.1.1) (sym more.1)
    (Takes-then bytes (uvarint n.0.0) n.0.1 (flat_map label_text x.0) x.1.1 t0 more.0)

-- ---- chunks

series_ok : {A : Type 0} (o : Option A) (x : A) → or_series o ≡ Ok x → o ≡ Some x
series_ok (Some y) x h = cc
series_ok None x h = absurd cc

chunk_spelled : (s : Chunk × List ℕ) (y : Chunk × (Chunk × List ℕ)) → IsBytes s.1
    → chunk_at s ≡ Ok y
    → (text : List ℕ) × Takes s.1 text y.1.1 × IsLater s.0 y.0 text × (y.1.0 ≡ y.0)
unfolding chunk_at
chunk_spelled s y fits h =
    let a = bind_ok (or_series (later_at s.0 s.1)) _ y h in
    let l = later_spelled s.0 s.1 a.0 fits (series_ok (later_at s.0 s.1) a.0 a.1) in
    let made : Chunk × (Chunk × List ℕ) = (a.0.0, a.0) in
    subst (λ (z : Chunk × (Chunk × List ℕ)). (text : List ℕ) × Takes s.1 text z.1.1
    × IsLater s.0 z.0 text × (z.1.0 ≡ z.0)) (ok_is made y a.2) (l.0, l.1, l.2, refl)

later_all : (n : ℕ) (s : Chunk × List ℕ) (x : List Chunk × (Chunk × List ℕ)) → IsBytes s.1
    → steps chunk_at n s ≡ Ok x
    → (text : List ℕ) × Takes s.1 text x.1.1 × AreLater s.0 x.0 text × (length x.0 ≡ n)
unfolding steps
later_all zero s x fits h =
    let made : List Chunk × (Chunk × List ℕ) = ([], s) in
    subst (λ (z : List Chunk × (Chunk × List ℕ)). (text : List ℕ) × Takes s.1 text z.1.1
    × AreLater s.0 z.0 text × (length z.0 ≡ 0)) (ok_is made x h)
    ([], nothing_taken s.1 fits, refl, refl)
later_all (suc n) s x fits h =
    let a = bind_ok (chunk_at s) _ x h in
    let b = bind_ok (steps chunk_at n a.0.1) _ x a.2 in
    let one = chunk_spelled s a.0 fits a.1 in
    let more = later_all n a.0.1 b.0 one.1.rest_fits b.1 in
    let others : AreLater a.0.0 b.0.0 more.0 =
    subst (λ (c : Chunk). AreLater c b.0.0 more.0) one.3 more.2 in
    let made : List Chunk × (Chunk × List ℕ) = (a.0.0 ∷ b.0.0, b.0.1) in
    let whole = Takes-then s.1 one.0 a.0.1.1 more.0 b.0.1.1 one.1 more.1 in
    subst (λ (z : List Chunk × (Chunk × List ℕ)). (text : List ℕ) × Takes s.1 text z.1.1
    × AreLater s.0 z.0 text × (length z.0 ≡ suc n)) (ok_is made x b.2)
    (one.0 ++ more.0, whole, (one.0, more.0, refl, one.2, others), ap suc more.3)

behind_ok : (c : Chunk) (read : Result (List Chunk × (Chunk × List ℕ)) IndexError)
    (x : List Chunk × (Chunk × List ℕ)) → behind c read ≡ Ok x
    → (y : List Chunk × (Chunk × List ℕ)) × (read ≡ Ok y) × ((c ∷ y.0, y.1) ≡ x)
behind_ok c (Ok y) x h =
    let made : List Chunk × (Chunk × List ℕ) = (c ∷ y.0, y.1) in (y, refl, ok_is made x h)
behind_ok c (Err e) x h = absurd cc

not_so : {A : Type 0} (b : Bool) (d : IndexError) (read : Result A IndexError) (y : A)
    → cond b (Err d) read ≡ Ok y → (b ≡ false) × (read ≡ Ok y)
not_so true d read y h = absurd cc
not_so false d read y h = (refl, h)

above_zero : (n : ℕ) → eqb n 0 ≡ false → 0 < n
above_zero zero h = absurd cc
above_zero (suc n) h = omega arith

chunks_spelled : (bytes : List ℕ) (x : List Chunk × (Chunk × List ℕ)) → IsBytes bytes
    → chunks_at bytes ≡ Ok x → (text : List ℕ) × Takes bytes text x.1.1 × AreChunks x.0 text
unfolding chunks_at
chunks_spelled bytes x fits h =
    let n = bind_ok (or_refused Series (uvarint_at bytes)) _ x h in
    let g = not_so (eqb n.0.0 0) Series _ x n.2 in
    let f = bind_ok (or_series (first_at n.0.1)) _ x g.1 in
    let b = behind_ok f.0.0 (steps chunk_at (n.0.0 - 1) f.0) x f.2 in
    let t0 = uvarint_read Series bytes n.0 fits n.1 in
    let one = first_spelled n.0.1 f.0 t0.rest_fits (series_ok (first_at n.0.1) f.0 f.1) in
    let more = later_all (n.0.0 - 1) f.0 b.0 one.1.rest_fits b.1 in
    let count : n.0.0 ≡ length b.0.0 + 1 = omega (arith, more.3, above_zero n.0.0 g.0) in
    let text = uvarint (length b.0.0 + 1) ++ (one.0 ++ more.0) in
    let inner = Takes-then n.0.1 one.0 f.0.1 more.0 b.0.1.1 one.1 more.1 in
    let whole : Takes bytes text b.0.1.1 =
    subst (λ (k : ℕ). Takes bytes (uvarint k ++ (one.0 ++ more.0)) b.0.1.1) count
    (Takes-then bytes (uvarint n.0.0) n.0.1 (one.0 ++ more.0) b.0.1.1 t0 inner) in
    subst (λ (z : List Chunk × (Chunk × List ℕ)). (t : List ℕ) × Takes bytes t z.1.1
    × AreChunks z.0 t) b.2 (text, whole, (one.0, more.0, refl, one.2, more.2))

-- ---- bodies

body_spelled : (symbols : List (List ℕ)) (bytes : List ℕ) (b : Body) → IsBytes bytes
    → body_at symbols bytes ≡ Ok b → IsBody symbols b bytes
unfolding body_at
body_spelled symbols bytes b fits h =
    let named = body_takes symbols bytes b h in
    let l = bind_ok (labels_at symbols bytes) _ b h in
    let c = bind_ok (chunks_at l.0.1.1) _ b l.2 in
    let made : Body = record { labels = l.0.0; chunks = c.0.0 } in
    let g = guard_ended (eqb (length c.0.1.1) 0) Series made b c.2 in
    let t0 = all_labels_spelled symbols bytes l.0 fits l.1 in
    let t1 = chunks_spelled l.0.1.1 c.0 t0.rest_fits c.1 in
    let ended : c.0.1.1 ≡ [] = nil_from_length c.0.1.1 (eqb-true (length c.0.1.1) 0 g.0) in
    let all : l.0.1.1 ≡ t1.0 =
    t1.1.parts ∙ ap (λ (r : List ℕ). t1.0 ++ r) ended ∙ append-nil t1.0 in
    let text : bytes ≡ (uvarint (length l.0.0) ++ flat_map label_text l.0.0) ++ t1.0 =
    t0.parts
    ∙ ap (λ (r : List ℕ). (uvarint (length l.0.0) ++ flat_map label_text l.0.0) ++ r) all in
    let labelled : AreLabels symbols 0 l.0.0 =
    subst (λ (z : Body). AreLabels symbols 0 z.labels) (sym g.1) named in
    subst (λ (z : Body). IsBody symbols z bytes) g.1
    (record { chunks_text = t1.0; spelled = text; labels = labelled; chunks = t1.2 })

pub walk_bytes : (ps : List SeriesEntry) (file : List ℕ) (end at : ℕ) → IsBytes file
    → IsWalk file end at ps → AllByRecursion (λ p. IsBytes p.body) ps
walk_bytes [] file end at fits w = tt
walk_bytes (p ∷ ps) file end at fits w =
    let rest = w.2.0 in
    let text = subst IsBytes w.2.1 (range_fits file at end fits) in
    let body =
    IsBytes-front p.body (big_bytes 4 (crc32c p.body))
    (IsBytes-back (uvarint (length p.body)) _ (IsBytes-front (entry p.body) rest text)) in
    (body, walk_bytes ps file end (rounded (at + length (entry p.body))) fits w.3)

pub bodies_spelled : (symbols : List (List ℕ)) (ps : List SeriesEntry) (bs : List Body)
    → AllByRecursion (λ p. IsBytes p.body) ps → each (body_of_entry symbols) ps ≡ Ok bs
    → AreBodies symbols ps bs
bodies_spelled symbols [] bs fits h =
    subst (AreBodies symbols []) (each_nil (body_of_entry symbols) bs h) tt
bodies_spelled symbols (p ∷ ps) bs fits h =
    let x = each_cons (body_of_entry symbols) p ps bs h in
    subst (AreBodies symbols (p ∷ ps)) x.4
    (body_spelled symbols p.body x.0 fits.0 x.2, bodies_spelled symbols ps x.1 fits.1 x.3)

-- ---- the table

byte_takes : (e : IndexError) (bytes : List ℕ) (x : ℕ × List ℕ) → IsBytes bytes
    → or_refused e (byte_at bytes) ≡ Ok x → Takes bytes (x.0 ∷ []) x.1
byte_takes e [] x fits h = absurd cc
byte_takes e (b ∷ rest) x fits h =
    let made : ℕ × List ℕ = (b, rest) in
    let p : made ≡ x = ok_is made x h in
    subst (λ (z : ℕ × List ℕ). Takes (b ∷ rest) (z.0 ∷ []) z.1) p
    (takes (b ∷ rest) (b ∷ []) rest fits refl)

text_spelled : (bytes : List ℕ) (x : List ℕ × List ℕ) → IsBytes bytes → text_at bytes ≡ Ok x
    → Takes bytes (symbol x.0) x.1
text_spelled bytes x fits h =
    let a = bind_ok (or_refused Offsets (uvarint_at bytes)) _ x h in
    let t0 = uvarint_read Offsets bytes a.0 fits a.1 in
    let tb = bytes_takes a.0.0 a.0.1 x.0 x.1 (refused_ok Offsets (bytes_at a.0.0 a.0.1) x a.2) in
    let t1 = takes a.0.1 x.0 x.1 t0.rest_fits tb.0 in
    subst (λ (n : ℕ). Takes bytes (uvarint n ++ x.0) x.1) (sym tb.1)
    (Takes-then bytes (uvarint a.0.0) a.0.1 x.0 x.1 t0 t1)

is_so : {A : Type 0} (b : Bool) (d : IndexError) (read : Result A IndexError) (y : A)
    → cond b read (Err d) ≡ Ok y → (b ≡ true) × (read ≡ Ok y)
is_so true d read y h = (refl, h)
is_so false d read y h = absurd cc

listed_spelled : (bytes : List ℕ) (y : TableEntry × List ℕ) → IsBytes bytes
    → table_entry_at bytes ≡ Ok y → Takes bytes (listed_text y.0) y.1
unfolding table_entry_at
listed_spelled bytes y fits h =
    let a = bind_ok (or_refused Offsets (byte_at bytes)) _ y h in
    let g = is_so (eqb a.0.0 2) Offsets _ y a.2 in
    let n = bind_ok (text_at a.0.1) _ y g.1 in
    let v = bind_ok (text_at n.0.1) _ y n.2 in
    let o = bind_ok (or_refused Offsets (uvarint_at v.0.1)) _ y v.2 in
    let t0 = byte_takes Offsets bytes a.0 fits a.1 in
    let t1 = text_spelled a.0.1 n.0 t0.rest_fits n.1 in
    let t2 = text_spelled n.0.1 v.0 t1.rest_fits v.1 in
    let t3 = uvarint_read Offsets v.0.1 o.0 t2.rest_fits o.1 in
    let two : Takes bytes (2 ∷ []) a.0.1 =
    subst (λ (b : ℕ). Takes bytes (b ∷ []) a.0.1) (eqb-true a.0.0 2 g.0) t0 in
    let made : TableEntry × List ℕ =
    (record { name = n.0.0; value = v.0.0; offset = o.0.0 }, o.0.1) in
    let inner = Takes-then n.0.1 (symbol v.0.0) v.0.1 (uvarint o.0.0) o.0.1 t2 t3 in
    let middle =
    Takes-then a.0.1 (symbol n.0.0) n.0.1 (symbol v.0.0 ++ uvarint o.0.0) o.0.1 t1 inner in
    let whole =
    Takes-then bytes (2 ∷ []) a.0.1 (symbol n.0.0 ++ (symbol v.0.0 ++ uvarint o.0.0)) o.0.1 two
    middle in
    subst (λ (z : TableEntry × List ℕ). Takes bytes (listed_text z.0) z.1) (ok_is made y o.2) whole

entries_spelled : (n : ℕ) (s : List ℕ) (x : List TableEntry × List ℕ) → IsBytes s
    → steps table_entry_at n s ≡ Ok x → Takes s (flat_map listed_text x.0) x.1 × (length x.0 ≡ n)
unfolding steps
entries_spelled zero s x fits h =
    let made : List TableEntry × List ℕ = ([], s) in
    subst (λ (z : List TableEntry × List ℕ). Takes s (flat_map listed_text z.0) z.1
    × (length z.0 ≡ 0)) (ok_is made x h) (nothing_taken s fits, refl)
entries_spelled (suc n) s x fits h =
    let a = bind_ok (table_entry_at s) _ x h in
    let b = bind_ok (steps table_entry_at n a.0.1) _ x a.2 in
    let one = listed_spelled s a.0 fits a.1 in
    let more = entries_spelled n a.0.1 b.0 one.rest_fits b.1 in
    let made : List TableEntry × List ℕ = (a.0.0 ∷ b.0.0, b.0.1) in
    let whole =
    Takes-then s (listed_text a.0.0) a.0.1 (flat_map listed_text b.0.0) b.0.1 one more.0 in
    subst (λ (z : List TableEntry × List ℕ). Takes s (flat_map listed_text z.0) z.1
    × (length z.0 ≡ suc n)) (ok_is made x b.2) (rw flat_map-cons whole, ap suc more.1)

both : (p q : Bool) → (p && q) ≡ true → (p ≡ true) × (q ≡ true)
both true q h = (refl, h)
both false q h = absurd cc

table_spelled : (from to : ℕ) (content : List ℕ) (table : List TableEntry) → IsBytes content
    → table_at from to content ≡ Ok table → (content ≡ table_text table)
    × (rises is_before table ≡ true) × (list_all (is_within from to) table ≡ true)
unfolding table_at
table_spelled from to content table fits h =
    let n = bind_ok (or_refused Offsets (number_at 4 content)) _ table h in
    let f = bind_ok (steps table_entry_at n.0.0 n.0.1) _ table n.2 in
    let g =
    guard_ended (eqb (length f.0.1) 0 && rises is_before f.0.0
    && list_all (is_within from to) f.0.0) Offsets f.0.0 table f.2 in
    let p =
    both (eqb (length f.0.1) 0 && rises is_before f.0.0) (list_all (is_within from to) f.0.0) g.0 in
    let q = both (eqb (length f.0.1) 0) (rises is_before f.0.0) p.0 in
    let ta =
    number_takes_4 content n.0.0 n.0.1 fits (refused_ok Offsets (number_at 4 content) n.0 n.1) in
    let t0 = takes content (big_bytes 4 n.0.0) n.0.1 fits ta.0 in
    let more = entries_spelled n.0.0 n.0.1 f.0 t0.rest_fits f.1 in
    let ended : f.0.1 ≡ [] = nil_from_length f.0.1 (eqb-true (length f.0.1) 0 q.0) in
    let body : n.0.1 ≡ flat_map listed_text f.0.0 =
    more.0.parts
    ∙ ap (λ (r : List ℕ). flat_map listed_text f.0.0 ++ r) ended
    ∙ append-nil (flat_map listed_text f.0.0) in
    let text : content ≡ table_text f.0.0 =
    t0.parts
    ∙ ap (λ (r : List ℕ). big_bytes 4 n.0.0 ++ r) body
    ∙ ap (λ (k : ℕ). big_bytes 4 k ++ flat_map listed_text f.0.0) (sym more.1) in
    subst (λ (z : List TableEntry). (content ≡ table_text z) × (rises is_before z ≡ true)
    × (list_all (is_within from to) z ≡ true)) g.1 (text, q.1, p.1)

others_spelled : (file : List ℕ) (t : TableOfContents) (x : List ℕ) → IsBytes file
    → label_offsets_at file t ≡ Ok x → (t.label_offsets ≡ 0)
    ⊎ ((content : List ℕ) × StandsAt file t.label_offsets t.postings_offsets (frame content))
others_spelled file t x fits h = go (eqb t.label_offsets 0) refl h
  where
    go : (b : Bool) → eqb t.label_offsets 0 ≡ b
        → cond b (Ok []) (frame_at Offsets (slice_range file t.label_offsets t.postings_offsets)
        >>= λ f. Ok f.0) ≡ Ok x → (t.label_offsets ≡ 0)
        ⊎ ((content : List ℕ) × StandsAt file t.label_offsets t.postings_offsets (frame content))
    go true e h' = inl (eqb-true t.label_offsets 0 e)
    go false e h' =
        let f =
        bind_ok (frame_at Offsets (slice_range file t.label_offsets t.postings_offsets)) _ x h' in
        inr (
          f.0.0,
          (
            f.0.1,
            (frame_takes Offsets (slice_range file t.label_offsets t.postings_offsets) f.0
                (range_fits file t.label_offsets t.postings_offsets fits) f.1).parts,
          ),
        )

pub is_tabled : (file : List ℕ) (t : TableOfContents) (content : List ℕ) (table : List TableEntry)
    → IsBytes file → table_content_at file t ≡ Ok content
    → table_at t.postings (postings_end t) content ≡ Ok table → IsTable file t table
unfolding table_content_at
is_tabled file t content table fits h g =
    let o = bind_ok (label_offsets_at file t) _ content h in
    let bytes = slice_range file t.postings_offsets (length file - 52) in
    let f = bind_ok (frame_at Offsets bytes) _ content o.2 in
    let e = guard_ended (eqb (length f.0.1) 0) Offsets f.0.0 content f.2 in
    let took =
    frame_takes Offsets bytes f.0
    (range_fits file t.postings_offsets (length file - 52) fits) f.1 in
    let ended : f.0.1 ≡ [] = nil_from_length f.0.1 (eqb-true (length f.0.1) 0 e.0) in
    let framed : bytes ≡ frame content =
    took.parts
    ∙ ap (λ (r : List ℕ). frame f.0.0 ++ r) ended
    ∙ append-nil (frame f.0.0)
    ∙ ap (λ (x : List ℕ). frame x) e.1 in
    let inside : IsBytes content =
    content_fits bytes content framed
    (range_fits file t.postings_offsets (length file - 52) fits) in
    let s = table_spelled t.postings (postings_end t) content table inside g in
    record {
      others = others_spelled file t o.0 fits o.1;
      stands = framed ∙ ap (λ (x : List ℕ). frame x) s.0;
      rising = s.1;
      within = s.2;
    }
  where
    content_fits : (bytes content : List ℕ) → bytes ≡ frame content
        → IsBytes bytes → IsBytes content
    content_fits bytes content e fits =
        IsBytes-front content (big_bytes 4 (crc32c content)) (IsBytes-back (big_bytes 4
        (length content)) (content ++ big_bytes 4 (crc32c content)) (subst IsBytes e fits))

-- ---- the sections

words_spelled : (n : ℕ) (bytes : List ℕ) → IsBytes bytes → length bytes ≡ 4 * n
    → flat_map (big_bytes 4) (words n bytes) ≡ bytes
unfolding words
words_spelled zero bytes fits e = sym (nil_from_length bytes (omega (arith, e)))
words_spelled (suc n) bytes fits e =
    let rest =
    words_spelled n (drop 4 bytes) (IsBytes-drop 4 bytes fits)
    (omega (arith, e, length-drop 4 bytes)) in
    flat_map-cons (big_bytes 4) (big_number 4 bytes) (words n (drop 4 bytes))
    ∙ ap (λ (r : List ℕ). big_bytes 4 (big_number 4 bytes) ++ r) rest
    ∙ ap (λ (f : List ℕ). f ++ drop 4 bytes) (big_bytes_4 bytes fits (omega (arith, e)))
    ∙ take-append-drop 4 bytes

list_spelled : (content list : List ℕ) → IsBytes content → references_at content ≡ Ok list
    → content ≡ list_text (references_in list)
unfolding references_at
list_spelled content list fits h =
    let n = bind_ok (or_refused Postings (number_at 4 content)) _ list h in
    let g = guard_ended _ Postings n.0.1 list n.2 in
    let p = both _ _ g.0 in
    let e : length n.0.1 ≡ 4 * n.0.0 = eqb-true _ _ p.0 in
    let ta =
    number_takes_4 content n.0.0 n.0.1 fits (refused_ok Postings (number_at 4 content) n.0 n.1) in
    let t0 = takes content (big_bytes 4 n.0.0) n.0.1 fits ta.0 in
    let m : length n.0.1 / 4 ≡ n.0.0 = omega (arith, e) in
    let raw : flat_map (big_bytes 4) (references_in n.0.1) ≡ n.0.1 =
    words_spelled (length n.0.1 / 4) n.0.1 t0.rest_fits (omega (arith, e)) in
    let text : content ≡ list_text (references_in n.0.1) =
    ta.0
    ∙ ap (λ (k : ℕ). big_bytes 4 k ++ n.0.1) (sym (length-refs n.0.1 ∙ m))
    ∙ ap (λ (r : List ℕ). big_bytes 4 (length (references_in n.0.1)) ++ r) (sym raw) in
    subst (λ (z : List ℕ). content ≡ list_text (references_in z)) g.1 text

section_spelled : (file : List ℕ) (to : ℕ) (l : TableEntry) (content : List ℕ) → IsBytes file
    → section_at file to l ≡ Ok content
    → StandsAt file l.offset to (frame content) × IsBytes content
unfolding section_at
section_spelled file to l content fits h =
    let bytes = slice_range file l.offset to in
    let f = bind_ok (frame_at PostingsCrc bytes) _ content h in
    let e : f.0.0 ≡ content = ok_is f.0.0 content f.2 in
    let took = frame_takes PostingsCrc bytes f.0 (range_fits file l.offset to fits) f.1 in
    let stands : StandsAt file l.offset to (frame f.0.0) = (f.0.1, took.parts) in
    let inside : IsBytes f.0.0 =
    IsBytes-front f.0.0 (big_bytes 4 (crc32c f.0.0)) (IsBytes-back (big_bytes 4 (length f.0.0))
    (f.0.0 ++ big_bytes 4 (crc32c f.0.0)) (IsBytes-front (frame f.0.0) f.0.1
    (subst IsBytes took.parts (range_fits file l.offset to fits)))) in
    subst (λ (z : List ℕ). StandsAt file l.offset to (frame z) × IsBytes z) e (stands, inside)

-- frames that were read stand where the entries of the table say
pub frames_spelled : (file : List ℕ) (to : ℕ) (table : List TableEntry) (contents : List (List ℕ))
    → IsBytes file → each (section_at file to) table ≡ Ok contents
    → AllByRecursion (HasFrame file to) table
frames_spelled file to [] contents fits h = tt
frames_spelled file to (l ∷ table) contents fits h =
    let x = each_cons (section_at file to) l table contents h in
    let s = section_spelled file to l x.0 fits x.2 in
    ((x.0, s.0), frames_spelled file to table x.1 fits x.3)

words_small : (n : ℕ) (bytes : List ℕ) → IsBytes bytes → AreSmall (words n bytes)
unfolding words
words_small zero bytes fits = tt
words_small (suc n) bytes fits = (
  big_from-lt 0 4 bytes fits,
  words_small n (drop 4 bytes) (IsBytes-drop 4 bytes fits),
)

list_small : (content list : List ℕ) → IsBytes content → references_at content ≡ Ok list
    → AreSmall (references_in list)
unfolding references_at
list_small content list fits h =
    let n = bind_ok (or_refused Postings (number_at 4 content)) _ list h in
    let g = guard_ended _ Postings n.0.1 list n.2 in
    let ta =
    number_takes_4 content n.0.0 n.0.1 fits (refused_ok Postings (number_at 4 content) n.0 n.1) in
    let t0 = takes content (big_bytes 4 n.0.0) n.0.1 fits ta.0 in
    subst (λ (z : List ℕ). AreSmall (references_in z)) g.1
    (words_small (length n.0.1 / 4) n.0.1 t0.rest_fits)

-- references that were read have four bytes
pub sections_small : (file : List ℕ) (to : ℕ) (table : List TableEntry)
    (contents lists : List (List ℕ)) → IsBytes file → each (section_at file to) table ≡ Ok contents
    → each references_at contents ≡ Ok lists → AllByRecursion AreSmall (map references_in lists)
sections_small file to [] contents lists fits h g =
    let e = each_nil (section_at file to) contents h in
    let f =
    each_nil references_at lists
    (subst (λ (z : List (List ℕ)). each references_at z ≡ Ok lists) (sym e) g) in
    subst (λ (z : List (List ℕ)). AllByRecursion AreSmall (map references_in z)) f tt
sections_small file to (l ∷ table) contents lists fits h g =
    let x = each_cons (section_at file to) l table contents h in
    let g' : each references_at (x.0 ∷ x.1) ≡ Ok lists =
    subst (λ (z : List (List ℕ)). each references_at z ≡ Ok lists) (sym x.4) g in
    let y = each_cons references_at x.0 x.1 lists g' in
    let s = section_spelled file to l x.0 fits x.2 in
    subst (λ (z : List (List ℕ)). AllByRecursion AreSmall (map references_in z)) y.4 (
      list_small x.0 y.0 s.1 y.2,
      sections_small file to table x.1 y.1 fits x.3 y.3,
    )

pub sections_spelled : (file : List ℕ) (to : ℕ) (table : List TableEntry)
    (contents lists : List (List ℕ)) → IsBytes file → each (section_at file to) table ≡ Ok contents
    → each references_at contents ≡ Ok lists
    → ((k : ℕ) (d : List ℕ) → k < length lists → IsList (get_or lists k d))
    → AreSections file to table (map references_in lists)
sections_spelled file to [] contents lists fits h g whole =
    let e = each_nil (section_at file to) contents h in
    let f =
    each_nil references_at lists
    (subst (λ (z : List (List ℕ)). each references_at z ≡ Ok lists) (sym e) g) in
    subst (λ (z : List (List ℕ)). AreSections file to [] (map references_in z)) f tt
sections_spelled file to (l ∷ table) contents lists fits h g whole =
    let x = each_cons (section_at file to) l table contents h in
    let g' : each references_at (x.0 ∷ x.1) ≡ Ok lists =
    subst (λ (z : List (List ℕ)). each references_at z ≡ Ok lists) (sym x.4) g in
    let y = each_cons references_at x.0 x.1 lists g' in
    let s = section_spelled file to l x.0 fits x.2 in
    let text = list_spelled x.0 y.0 s.1 y.2 in
    let whole' : (k : ℕ) (d : List ℕ) → k < suc (length y.1) → IsList (get_or (y.0 ∷ y.1) k d) =
    subst (λ (z : List (List ℕ)). (k : ℕ) (d : List ℕ) → k < length z
    → IsList (get_or z k d)) (sym y.4) whole in
    let stands : StandsAt file l.offset to (frame (list_text (references_in y.0))) =
    subst (λ (c : List ℕ). StandsAt file l.offset to (frame c)) text s.0 in
    let one : IsList y.0 = whole' 0 [] (omega arith) in
    subst (λ (z : List (List ℕ)). AreSections file to (l ∷ table) (map references_in z)) y.4 (
      stands,
      one.1,
      sections_spelled file to table x.1 y.1 fits x.3 y.3 (λ k d lt.
          whole' (suc k) d (omega arith)),
    )
