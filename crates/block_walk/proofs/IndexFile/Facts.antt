-- What the checks of an index leave, in the words of labels and texts.
use Rattle.std.proofs.Common.{◌≡◌, ℕ, zero, suc, ◌+◌, ◌/◌, ◌%◌, ◌^◌, ◌<◌, ◌≤◌, Bool, true, false, ◌&&◌, cond, List, [], ◌∷◌, ◌++◌, length, get_or, Result, Ok, Err, refl, sym, ap, subst, ◌∙◌, arith}
use Rattle.std.specs.Prelude.{map, nat_lt}
use Rattle.std.specs.List.{list_all}
use Rattle.std.specs.List.Sorted.{IsStrictlyIncreasing}
use Rattle.std.specs.Ordering.{is_lt}
use Rattle.std.specs.declared.cmp.Ordering.{Ordering}
use Rattle.std.specs.declared.cmp.Ordering.TheVariants.{Less, Equal, Greater}
use Rattle.std.proofs.lemmas.Bool.{ltb-false, leb-true}
use Rattle.std.proofs.lemmas.List.{length-map, length-append}
use Rattle.byteorder.specs.Endian.{big_bytes}
use Rattle.wire.specs.Spelling.{IsBytes, uvarint}
use Rattle.wire.specs.Checksum.{crc32c}
use Rattle.wire.proofs.Laws.{uvarint_long}
use Rattle.labels.specs.Labels.{labels_cmp}
use Rattle.block_walk.specs.declared.error.WalkError.{WalkError}
use Rattle.block_walk.specs.declared.error.WalkError.TheVariants.{Series, SeriesOrder, Limit}
use Rattle.block_walk.specs.IndexFile.Layout.{SeriesEntry, Layout, ascending, rounded, series_end, Label, Body}
use Rattle.block_walk.specs.IndexFile.Reading.{layout_of}
use Rattle.block_walk.specs.IndexFile.Grammar.{entry, IsWalk, IsLayout}
use Rattle.block_walk.specs.IndexFile.Each.{each, rises}
use Rattle.block_walk.specs.IndexFile.Flat.{body_of_entry, is_before, gaps_zero}
use Rattle.block_walk.specs.IndexFile.Labelled.{AreLabels}
use Rattle.block_walk.specs.IndexFile.Whole.{labels_of_each, bodies_of, is_small, Read, read_of, series_in}
use Rattle.block_walk.specs.IndexFile.Series.{references, named, series_of}
use Rattle.block_walk.specs.IndexFile.Series as indexes
use Rattle.block_walk.specs.IndexFile.Spelled.{AreInOrder, IsIndex}
use Rattle.block_walk.proofs.IndexFile.WalkLoops.{guard_ended}
use Rattle.wire.proofs.Steps.{bind_ok}
use Rattle.block_walk.proofs.IndexFile.OneByOne.{each_length}
use Rattle.block_walk.proofs.IndexFile.Gaps.{zeros_of}
use Rattle.block_walk.proofs.IndexFile.Orders.{InTable, label_sets_cmp}
use Rattle.block_walk.proofs.IndexFile.Naming.{bodies_take}
use Rattle.block_walk.proofs.IndexFile.Spelling.{walk_bytes, bodies_spelled}

both : (p q : Bool) → (p && q) ≡ true → (p ≡ true) × (q ≡ true)
both true q h = (refl, h)
both false q h = absurd cc

not_so : (c : Bool) (d : WalkError) (read : Result Read WalkError) (y : Read)
    → cond c (Err d) read ≡ Ok y → (c ≡ false) × (read ≡ Ok y)
not_so true d read y h = absurd cc
not_so false d read y h = (refl, h)

is_so : (c : Bool) (d : WalkError) (read : Result (List Body) WalkError) (y : List Body)
    → cond c read (Err d) ≡ Ok y → (c ≡ true) × (read ≡ Ok y)
is_so true d read y h = (refl, h)
is_so false d read y h = absurd cc

-- ---- the steps of the whole

pub record AreRead (file : List ℕ) (p : Layout) (bs : List Body) : Type 0 where
  pub read : each (body_of_entry p.symbols) p.entries ≡ Ok bs
  pub gaps : gaps_zero file (series_end p.contents) p.symbols_end p.entries ≡ true
  pub rising : rises is_before (labels_of_each bs) ≡ true

pub record Chain (file : List ℕ) (r : Read) : Type 0 where
  pub parts : layout_of file ≡ Ok r.parts
  pub bodies : AreRead file r.parts r.bodies
  pub few : length r.bodies ≤ 1048576
  pub small : list_all is_small (labels_of_each r.bodies) ≡ true

pub bodied : (file : List ℕ) (p : Layout) (bs : List Body)
    → bodies_of file p ≡ Ok bs → AreRead file p bs
unfolding bodies_of
bodied file p bs h =
    let e = bind_ok (each (body_of_entry p.symbols) p.entries) _ bs h in
    let g =
    is_so (gaps_zero file (series_end p.contents) p.symbols_end p.entries) Series _ bs e.2 in
    let k = guard_ended (rises is_before (labels_of_each e.0)) SeriesOrder e.0 bs g.1 in
    subst (AreRead file p) k.1 (record { read = e.1; gaps = g.0; rising = k.0 })

pub chain : (file : List ℕ) (r : Read) → read_of file ≡ Ok r → Chain file r
unfolding read_of
chain file r h =
    let p = bind_ok (layout_of file) _ r h in
    let b = bind_ok (bodies_of file p.0) _ r p.2 in
    let n = not_so (nat_lt 1048576 (length b.0)) Limit _ r b.2 in
    let made : Read = record { parts = p.0; bodies = b.0 } in
    let s = guard_ended (list_all is_small (labels_of_each b.0)) Limit made r n.1 in
    let le = ltb-false 1048576 (length b.0) n.0 in
    subst (Chain file) s.1
    (record { parts = p.1; bodies = bodied file p.0 b.0 b.1; few = omega (arith, le); small = s.0 })

-- ---- the order of series

pub refs_are : (symbols : List (List ℕ)) (ps : List SeriesEntry) (bs : List Body) → length bs ≡ length ps
    → references (series_of symbols ps bs) ≡ map (λ (p : SeriesEntry). p.offset / 16) ps
unfolding series_of
refs_are symbols [] bs e = refl
refs_are symbols (p ∷ ps) [] e = absurd (omega (arith, e))
refs_are symbols (p ∷ ps) (b ∷ bs) e =
    ap (λ (rs : List ℕ). p.offset / 16 ∷ rs) (refs_are symbols ps bs (omega (arith, e)))

pub sets_are : (symbols : List (List ℕ)) (ps : List SeriesEntry) (bs : List Body) → length bs ≡ length ps
    → indexes.label_sets (series_of symbols ps bs) ≡ map (named symbols) (labels_of_each bs)
unfolding series_of
sets_are symbols [] [] e = refl
sets_are symbols [] (b ∷ bs) e = absurd (omega (arith, e))
sets_are symbols (p ∷ ps) [] e = absurd (omega (arith, e))
sets_are symbols (p ∷ ps) (b ∷ bs) e =
    ap (λ (rs : List (List (List ℕ × List ℕ))). named symbols b.labels ∷ rs)
    (sets_are symbols ps bs (omega (arith, e)))

pub series_length : (symbols : List (List ℕ)) (ps : List SeriesEntry) (bs : List Body)
    → length bs ≡ length ps → length (series_of symbols ps bs) ≡ length bs
unfolding series_of
series_length symbols [] [] e = refl
series_length symbols [] (b ∷ bs) e = absurd (omega (arith, e))
series_length symbols (p ∷ ps) [] e = absurd (omega (arith, e))
series_length symbols (p ∷ ps) (b ∷ bs) e = ap suc (series_length symbols ps bs (omega (arith, e)))

entry_some : (body : List ℕ) → 0 < length (entry body)
entry_some body = omega (
  arith,
  length-append (uvarint (length body)) (body ++ big_bytes 4 (crc32c body)),
  uvarint_long (length body),
)

pub whole_rounds : (n : ℕ) → rounded n % 16 ≡ 0
whole_rounds n = omega arith

goes_up : (at n : ℕ) → at % 16 ≡ 0 → 0 < n → at / 16 < rounded (at + n) / 16
goes_up at n whole some = omega (arith, whole, some)

pub walk_rises : (ps : List SeriesEntry) (file : List ℕ) (end at : ℕ) → at % 16 ≡ 0
    → IsWalk file end at ps → IsStrictlyIncreasing (map (λ (p : SeriesEntry). p.offset / 16) ps)
walk_rises [] file end at whole w k lt = absurd (omega arith)
walk_rises (p ∷ []) file end at whole w k lt = absurd (omega arith)
walk_rises (p ∷ q ∷ ps) file end at whole w zero lt =
    let e : p.offset ≡ at = w.0 in
    let f : q.offset ≡ rounded (at + length (entry p.body)) = w.3.0 in
    rw (e, f) (goes_up at (length (entry p.body)) whole (entry_some p.body))
walk_rises (p ∷ q ∷ ps) file end at whole w (suc k) lt =
    let e : suc k + 1 ≡ suc (k + 1) = omega arith in
    rw e (walk_rises (q ∷ ps) file end (rounded (at + length (entry p.body)))
    (whole_rounds (at + length (entry p.body))) w.3 k (omega arith))

pub walk_small : (ps : List SeriesEntry) (file : List ℕ) (end at : ℕ) → IsWalk file end at ps
    → end ≤ 2 ^ 32 → (k : ℕ) → k < length ps
    → get_or (map (λ (p : SeriesEntry). p.offset / 16) ps) k 0 < 2 ^ 32
walk_small [] file end at w le k lt = absurd (omega arith)
walk_small (p ∷ ps) file end at w le zero lt =
    let e : p.offset ≡ at = w.0 in
    let l : at < end = w.1 in
    omega (arith, e, l, le)
walk_small (p ∷ ps) file end at w le (suc k) lt =
    walk_small ps file end (rounded (at + length (entry p.body))) w.3 le k (omega arith)

less_is : (o : Ordering) → is_lt o ≡ true → o ≡ Less
less_is Less h = refl
less_is Equal h = absurd cc
less_is Greater h = absurd cc

pub in_table : (symbols : List (List ℕ)) (low : ℕ) (ls : List Label) → AreLabels symbols low ls
    → InTable symbols ls
in_table symbols low [] h = tt
in_table symbols low (l ∷ ls) h = ((h.0.name_in, h.0.value_in), in_table symbols (l.0 + 1) ls h.1)

sets_rise : (symbols : List (List ℕ)) (ls : List (List Label)) → ascending symbols ≡ true
    → ((k : ℕ) (d : List Label) → k < length ls → InTable symbols (get_or ls k d))
    → rises is_before ls ≡ true
    → (k : ℕ) → k + 1 < length ls
    → labels_cmp (get_or (map (named symbols) ls) k []) (get_or (map (named symbols) ls) (k + 1) [])
    ≡ Less
unfolding rises labels_cmp
sets_rise symbols [] order inside h k lt = absurd (omega arith)
sets_rise symbols (a ∷ []) order inside h k lt = absurd (omega arith)
sets_rise symbols (a ∷ b ∷ ls) order inside h zero lt =
    label_sets_cmp symbols a b order (inside 0 a (omega arith)) (inside 1 a (omega arith))
    ∙ less_is _ (both (is_before a b) (rises is_before (b ∷ ls)) h).0
sets_rise symbols (a ∷ b ∷ ls) order inside h (suc k) lt =
    let e : suc k + 1 ≡ suc (k + 1) = omega arith in
    rw e (sets_rise symbols (b ∷ ls) order (λ j d l. inside (suc j) d (omega arith))
    (both (is_before a b) (rises is_before (b ∷ ls)) h).1 k (omega arith))

pub few_labels : (bs : List Body) (k : ℕ) (d : Body) → list_all is_small (labels_of_each bs) ≡ true
    → k < length bs → length (get_or bs k d).labels ≤ 64
few_labels [] k d h lt = absurd (omega arith)
few_labels (b ∷ bs) zero d h lt =
    leb-true (length b.labels) 64 (both (is_small b.labels) (list_all is_small (labels_of_each bs)) h).0
few_labels (b ∷ bs) (suc k) d h lt =
    few_labels bs k d
    (both (is_small b.labels) (list_all is_small (labels_of_each bs)) h).1 (omega arith)

pub set_at : (bs : List Body) (k : ℕ) (d : List Label) → k < length (labels_of_each bs)
    → (e : Body) × (get_or (labels_of_each bs) k d ≡ (get_or bs k e).labels) × (k < length bs)
set_at [] k d lt = absurd (omega arith)
set_at (b ∷ bs) zero d lt = (b, refl, omega arith)
set_at (b ∷ bs) (suc k) d lt = let r = set_at bs k d (omega arith) in (r.0, r.1, omega (arith, r.2))

-- bodies that were read are in the order of their label sets
pub in_order_so : (file : List ℕ) (p : Layout) (bs : List Body) → IsLayout file p → AreRead file p bs
    → AreInOrder (series_of p.symbols p.entries bs)
in_order_so file p bs layout r =
    let symbols = p.symbols in
    let order : ascending symbols ≡ true = layout.symbols.2.order in
    let labelled = bodies_take symbols p.entries bs r.read in
    let size = each_length (body_of_entry symbols) p.entries bs r.read in
    let sets = sets_are symbols p.entries bs size in
    let count = series_length symbols p.entries bs size in
    λ k lt. subst (λ (ss : List (List (List ℕ × List ℕ))).
    labels_cmp (get_or ss k []) (get_or ss (k + 1) []) ≡ Less) (sym sets)
    (sets_rise symbols (labels_of_each bs) order (λ j d lj. let o = set_at bs j d lj in subst
    (InTable symbols) (sym o.1) (in_table symbols 0 (get_or bs j o.0).labels (labelled j o.0 o.2)))
    r.rising k (omega (arith, lt, count, length-map bs (λ (b : Body). b.labels))))

-- ---- all of it

pub is_index : (file : List ℕ) (r : Read) → IsBytes file → IsLayout file r.parts
    → read_of file ≡ Ok r → IsIndex file (series_in r)
is_index file r fits p h =
    let c = chain file r h in
    let symbols = r.parts.symbols in
    let entries = r.parts.entries in
    let size = each_length (body_of_entry symbols) entries r.bodies c.bodies.read in
    let count = series_length symbols entries r.bodies size in
    record {
      parts = r.parts;
      layout = p;
      bodies = r.bodies;
      spelled =
          bodies_spelled symbols entries r.bodies (walk_bytes entries file
          (series_end r.parts.contents) (rounded r.parts.contents.series) fits p.entries)
          c.bodies.read;
      gaps =
          zeros_of entries file (series_end r.parts.contents) r.parts.symbols_end c.bodies.gaps;
      series_are = refl;
      in_order = in_order_so file r.parts r.bodies p c.bodies;
      few = omega (arith, count, c.few);
      few_labels = λ k d lt. few_labels r.bodies k d c.small lt;
    }
