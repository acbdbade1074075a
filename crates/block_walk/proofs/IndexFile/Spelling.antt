-- The bodies of series entries that are read are spelled so.
use Rattle.std.proofs.Common.{◌≡◌, ℕ, zero, suc, ◌+◌, ◌-◌, ◌<◌, Bool, true, false, cond, eqb, List, [], ◌∷◌, ◌++◌, length, drop, Option, Some, None, Result, Ok, Err, refl, sym, ap, subst, ◌∙◌, arith}
use Rattle.std.specs.Prelude.{slice_range}
use Rattle.std.specs.List.{flat_map, AllByRecursion}
use Rattle.std.proofs.lemmas.Bool.{eqb-true}
use Rattle.std.proofs.lemmas.List.{append-nil, nil_from_length}
use Rattle.std.proofs.lemmas.List.Concat.{flat_map-cons}
use Rattle.byteorder.specs.Endian.{big_bytes}
use Rattle.wire.specs.Spelling.{IsBytes, uvarint}
use Rattle.wire.specs.Checksum.{crc32c}
use Rattle.wire.specs.Reading.{uvarint_at}
use Rattle.wire.proofs.Fields.{IsBytes-front, IsBytes-back, IsBytes-take, IsBytes-drop}
use Rattle.wire.proofs.Laws.{uvarint_takes}
use Rattle.block_walk.specs.declared.chunk.Chunk.{Chunk}
use Rattle.block_walk.specs.declared.error.WalkError.{WalkError}
use Rattle.block_walk.specs.declared.error.WalkError.TheVariants.{Series}
use Rattle.block_walk.specs.IndexFile.Layout.{SeriesEntry, rounded, Label, Body}
use Rattle.wire.specs.Outcome.{or_refused}
use Rattle.block_walk.specs.IndexFile.Grammar.{entry, IsWalk}
use Rattle.block_walk.specs.IndexFile.Steps.{steps}
use Rattle.block_walk.specs.IndexFile.Each.{each}
use Rattle.block_walk.specs.IndexFile.Bodies.{is_label, label_at, labels_at, or_series, chunk_at, chunks_at, behind, body_at}
use Rattle.block_walk.specs.IndexFile.Chunks.{first_chunk_at, later_chunk_at}
use Rattle.block_walk.specs.IndexFile.Flat.{body_of_entry}
use Rattle.block_walk.specs.IndexFile.Labelled.{AreLabels}
use Rattle.block_walk.specs.IndexFile.Spelled.{label_text, IsLater, AreLater, AreChunks, IsBody, AreBodies}
use Rattle.block_walk.proofs.IndexFile.WalkLoops.{guard_ended}
use Rattle.wire.proofs.Steps.{bind_ok, refused_ok}
use Rattle.block_walk.proofs.IndexFile.Walks.{ok_is}
use Rattle.block_walk.proofs.IndexFile.Fields.{Takes, takes, Takes-then}
use Rattle.block_walk.proofs.IndexFile.Naming.{body_takes}
use Rattle.block_walk.proofs.IndexFile.OneByOne.{each_cons, each_nil}
use Rattle.block_walk.proofs.IndexFile.ChunkSpelling.{first_spelled, later_spelled}

uvarint_read : (e : WalkError) (bytes : List ℕ) (x : ℕ × List ℕ) → IsBytes bytes
    → or_refused e (uvarint_at bytes) ≡ Ok x → Takes bytes (uvarint x.0) x.1
uvarint_read e bytes x fits h =
    takes bytes (uvarint x.0) x.1 fits
    (uvarint_takes bytes x.0 x.1 fits (refused_ok e (uvarint_at bytes) x h)).0

range_fits : (file : List ℕ) (at end : ℕ) → IsBytes file → IsBytes (slice_range file at end)
range_fits file at end fits = IsBytes-take (end - at) (drop at file) (IsBytes-drop at file fits)

nothing_taken : (bytes : List ℕ) → IsBytes bytes → Takes bytes [] bytes
nothing_taken bytes fits = record { parts = refl; rest_fits = fits }

-- ---- labels

label_spelled : (symbols : List (List ℕ)) (s : ℕ × List ℕ) (y : Label × (ℕ × List ℕ)) → IsBytes s.1
    → label_at symbols s ≡ Ok y → Takes s.1 (label_text y.0) y.1.1
unfolding label_at
label_spelled symbols s y fits h =
    let a = bind_ok (or_refused Series (uvarint_at s.1)) _ y h in
    let b = bind_ok (or_refused Series (uvarint_at a.0.1)) _ y a.2 in
    let t0 = uvarint_read Series s.1 a.0 fits a.1 in
    let t1 = uvarint_read Series a.0.1 b.0 t0.rest_fits b.1 in
    let made : Label × (ℕ × List ℕ) = ((a.0.0, b.0.0), (a.0.0 + 1, b.0.1)) in
    let g = guard_ended (is_label symbols s.0 a.0.0 b.0.0) Series made y b.2 in
    subst (λ (z : Label × (ℕ × List ℕ)). Takes s.1 (label_text z.0) z.1.1) g.1
    (Takes-then s.1 (uvarint a.0.0) a.0.1 (uvarint b.0.0) b.0.1 t0 t1)

labels_spelled : (symbols : List (List ℕ)) (n : ℕ) (s : ℕ × List ℕ) (x : List Label × (ℕ × List ℕ))
    → IsBytes s.1 → steps (label_at symbols) n s ≡ Ok x
    → Takes s.1 (flat_map label_text x.0) x.1.1 × (length x.0 ≡ n)
unfolding steps
labels_spelled symbols zero s x fits h =
    let made : List Label × (ℕ × List ℕ) = ([], s) in
    subst (λ (z : List Label × (ℕ × List ℕ)). Takes s.1 (flat_map label_text z.0) z.1.1
    × (length z.0 ≡ 0)) (ok_is made x h) (nothing_taken s.1 fits, refl)
labels_spelled symbols (suc n) s x fits h =
    let a = bind_ok (label_at symbols s) _ x h in
    let b = bind_ok (steps (label_at symbols) n a.0.1) _ x a.2 in
    let one = label_spelled symbols s a.0 fits a.1 in
    let more = labels_spelled symbols n a.0.1 b.0 one.rest_fits b.1 in
    let made : List Label × (ℕ × List ℕ) = (a.0.0 ∷ b.0.0, b.0.1) in
    let whole =
    Takes-then s.1 (label_text a.0.0) a.0.1.1 (flat_map label_text b.0.0) b.0.1.1 one more.0 in
    subst (λ (z : List Label × (ℕ × List ℕ)). Takes s.1 (flat_map label_text z.0) z.1.1
    × (length z.0 ≡ suc n)) (ok_is made x b.2) (rw flat_map-cons whole, ap suc more.1)

all_labels_spelled : (symbols : List (List ℕ)) (bytes : List ℕ) (x : List Label × (ℕ × List ℕ))
    → IsBytes bytes → labels_at symbols bytes ≡ Ok x
    → Takes bytes (uvarint (length x.0) ++ flat_map label_text x.0) x.1.1
unfolding labels_at
all_labels_spelled symbols bytes x fits h =
    let n = bind_ok (or_refused Series (uvarint_at bytes)) _ x h in
    let t0 = uvarint_read Series bytes n.0 fits n.1 in
    let more = labels_spelled symbols n.0.0 (0, n.0.1) x t0.rest_fits n.2 in
    subst (λ (k : ℕ). Takes bytes (uvarint k ++ flat_map label_text x.0) x.1.1) (sym more.1)
    (Takes-then bytes (uvarint n.0.0) n.0.1 (flat_map label_text x.0) x.1.1 t0 more.0)

-- ---- chunks

series_ok : {A : Type 0} (o : Option A) (x : A) → or_series o ≡ Ok x → o ≡ Some x
series_ok (Some y) x h = cc
series_ok None x h = absurd cc

chunk_spelled : (s : Chunk × List ℕ) (y : Chunk × (Chunk × List ℕ)) → IsBytes s.1
    → chunk_at s ≡ Ok y
    → (text : List ℕ) × Takes s.1 text y.1.1 × IsLater s.0 y.0 text × (y.1.0 ≡ y.0)
unfolding chunk_at
chunk_spelled s y fits h =
    let a = bind_ok (or_series (later_chunk_at s.0 s.1)) _ y h in
    let l = later_spelled s.0 s.1 a.0 fits (series_ok (later_chunk_at s.0 s.1) a.0 a.1) in
    let made : Chunk × (Chunk × List ℕ) = (a.0.0, a.0) in
    subst (λ (z : Chunk × (Chunk × List ℕ)). (text : List ℕ) × Takes s.1 text z.1.1
    × IsLater s.0 z.0 text × (z.1.0 ≡ z.0)) (ok_is made y a.2) (l.0, l.1, l.2, refl)

later_all : (n : ℕ) (s : Chunk × List ℕ) (x : List Chunk × (Chunk × List ℕ)) → IsBytes s.1
    → steps chunk_at n s ≡ Ok x
    → (text : List ℕ) × Takes s.1 text x.1.1 × AreLater s.0 x.0 text × (length x.0 ≡ n)
unfolding steps
later_all zero s x fits h =
    let made : List Chunk × (Chunk × List ℕ) = ([], s) in
    subst (λ (z : List Chunk × (Chunk × List ℕ)). (text : List ℕ) × Takes s.1 text z.1.1
    × AreLater s.0 z.0 text × (length z.0 ≡ 0)) (ok_is made x h)
    ([], nothing_taken s.1 fits, refl, refl)
later_all (suc n) s x fits h =
    let a = bind_ok (chunk_at s) _ x h in
    let b = bind_ok (steps chunk_at n a.0.1) _ x a.2 in
    let one = chunk_spelled s a.0 fits a.1 in
    let more = later_all n a.0.1 b.0 one.1.rest_fits b.1 in
    let others : AreLater a.0.0 b.0.0 more.0 =
    subst (λ (c : Chunk). AreLater c b.0.0 more.0) one.3 more.2 in
    let made : List Chunk × (Chunk × List ℕ) = (a.0.0 ∷ b.0.0, b.0.1) in
    let whole = Takes-then s.1 one.0 a.0.1.1 more.0 b.0.1.1 one.1 more.1 in
    subst (λ (z : List Chunk × (Chunk × List ℕ)). (text : List ℕ) × Takes s.1 text z.1.1
    × AreLater s.0 z.0 text × (length z.0 ≡ suc n)) (ok_is made x b.2)
    (one.0 ++ more.0, whole, (one.0, more.0, refl, one.2, others), ap suc more.3)

behind_ok : (c : Chunk) (read : Result (List Chunk × (Chunk × List ℕ)) WalkError)
    (x : List Chunk × (Chunk × List ℕ)) → behind c read ≡ Ok x
    → (y : List Chunk × (Chunk × List ℕ)) × (read ≡ Ok y) × ((c ∷ y.0, y.1) ≡ x)
behind_ok c (Ok y) x h =
    let made : List Chunk × (Chunk × List ℕ) = (c ∷ y.0, y.1) in (y, refl, ok_is made x h)
behind_ok c (Err e) x h = absurd cc

not_so : {A : Type 0} (b : Bool) (d : WalkError) (read : Result A WalkError) (y : A)
    → cond b (Err d) read ≡ Ok y → (b ≡ false) × (read ≡ Ok y)
not_so true d read y h = absurd cc
not_so false d read y h = (refl, h)

above_zero : (n : ℕ) → eqb n 0 ≡ false → 0 < n
above_zero zero h = absurd cc
above_zero (suc n) h = omega arith

chunks_spelled : (bytes : List ℕ) (x : List Chunk × (Chunk × List ℕ)) → IsBytes bytes
    → chunks_at bytes ≡ Ok x → (text : List ℕ) × Takes bytes text x.1.1 × AreChunks x.0 text
unfolding chunks_at
chunks_spelled bytes x fits h =
    let n = bind_ok (or_refused Series (uvarint_at bytes)) _ x h in
    let g = not_so (eqb n.0.0 0) Series _ x n.2 in
    let f = bind_ok (or_series (first_chunk_at n.0.1)) _ x g.1 in
    let b = behind_ok f.0.0 (steps chunk_at (n.0.0 - 1) f.0) x f.2 in
    let t0 = uvarint_read Series bytes n.0 fits n.1 in
    let one = first_spelled n.0.1 f.0 t0.rest_fits (series_ok (first_chunk_at n.0.1) f.0 f.1) in
    let more = later_all (n.0.0 - 1) f.0 b.0 one.1.rest_fits b.1 in
    let count : n.0.0 ≡ length b.0.0 + 1 = omega (arith, more.3, above_zero n.0.0 g.0) in
    let text = uvarint (length b.0.0 + 1) ++ (one.0 ++ more.0) in
    let inner = Takes-then n.0.1 one.0 f.0.1 more.0 b.0.1.1 one.1 more.1 in
    let whole : Takes bytes text b.0.1.1 =
    subst (λ (k : ℕ). Takes bytes (uvarint k ++ (one.0 ++ more.0)) b.0.1.1) count
    (Takes-then bytes (uvarint n.0.0) n.0.1 (one.0 ++ more.0) b.0.1.1 t0 inner) in
    subst (λ (z : List Chunk × (Chunk × List ℕ)). (t : List ℕ) × Takes bytes t z.1.1
    × AreChunks z.0 t) b.2 (text, whole, (one.0, more.0, refl, one.2, more.2))

-- ---- bodies

body_spelled : (symbols : List (List ℕ)) (bytes : List ℕ) (b : Body) → IsBytes bytes
    → body_at symbols bytes ≡ Ok b → IsBody symbols b bytes
unfolding body_at
body_spelled symbols bytes b fits h =
    let named = body_takes symbols bytes b h in
    let l = bind_ok (labels_at symbols bytes) _ b h in
    let c = bind_ok (chunks_at l.0.1.1) _ b l.2 in
    let made : Body = record { labels = l.0.0; chunks = c.0.0 } in
    let g = guard_ended (eqb (length c.0.1.1) 0) Series made b c.2 in
    let t0 = all_labels_spelled symbols bytes l.0 fits l.1 in
    let t1 = chunks_spelled l.0.1.1 c.0 t0.rest_fits c.1 in
    let ended : c.0.1.1 ≡ [] = nil_from_length c.0.1.1 (eqb-true (length c.0.1.1) 0 g.0) in
    let all : l.0.1.1 ≡ t1.0 =
    t1.1.parts ∙ ap (λ (r : List ℕ). t1.0 ++ r) ended ∙ append-nil t1.0 in
    let text : bytes ≡ (uvarint (length l.0.0) ++ flat_map label_text l.0.0) ++ t1.0 =
    t0.parts
    ∙ ap (λ (r : List ℕ). (uvarint (length l.0.0) ++ flat_map label_text l.0.0) ++ r) all in
    let labelled : AreLabels symbols 0 l.0.0 =
    subst (λ (z : Body). AreLabels symbols 0 z.labels) (sym g.1) named in
    subst (λ (z : Body). IsBody symbols z bytes) g.1
    (record { chunks_text = t1.0; spelled = text; labels = labelled; chunks = t1.2 })

pub walk_bytes : (ps : List SeriesEntry) (file : List ℕ) (end at : ℕ) → IsBytes file
    → IsWalk file end at ps → AllByRecursion (λ p. IsBytes p.body) ps
walk_bytes [] file end at fits w = tt
walk_bytes (p ∷ ps) file end at fits w =
    let rest = w.2.0 in
    let text = subst IsBytes w.2.1 (range_fits file at end fits) in
    let body =
    IsBytes-front p.body (big_bytes 4 (crc32c p.body))
    (IsBytes-back (uvarint (length p.body)) _ (IsBytes-front (entry p.body) rest text)) in
    (body, walk_bytes ps file end (rounded (at + length (entry p.body))) fits w.3)

pub bodies_spelled : (symbols : List (List ℕ)) (ps : List SeriesEntry) (bs : List Body)
    → AllByRecursion (λ p. IsBytes p.body) ps → each (body_of_entry symbols) ps ≡ Ok bs
    → AreBodies symbols ps bs
bodies_spelled symbols [] bs fits h =
    subst (AreBodies symbols []) (each_nil (body_of_entry symbols) bs h) tt
bodies_spelled symbols (p ∷ ps) bs fits h =
    let x = each_cons (body_of_entry symbols) p ps bs h in
    subst (AreBodies symbols (p ∷ ps)) x.4
    (body_spelled symbols p.body x.0 fits.0 x.2, bodies_spelled symbols ps x.1 fits.1 x.3)
