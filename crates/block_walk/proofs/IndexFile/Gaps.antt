-- The bytes between the entries.
use Rattle.std.proofs.Common.{◌≡◌, ℕ, zero, suc, Some, ◌+◌, ◌-◌, ◌<◌, ◌≤◌, Bool, true, false, ◌&&◌, eqb, List, [], ◌∷◌, length, get_or, drop, refl, sym, ap, ◌∙◌, inl, inr, arith}
use Rattle.std.specs.Prelude.{◌==◌, slice_get, slice_index, slice_range}
use Rattle.std.specs.List.{list_all, Contains}
use Rattle.std.proofs.lemmas.Bool.{cases_lt, eqb-true}
use Rattle.std.proofs.lemmas.List.{drop_all, get_or-drop, get_or-take, length-append, length-take}
use Rattle.labels.proofs.Lists.{here, there, Contains-cases, none_in_nil}
use Rattle.block_walk.specs.IndexFile.Layout.{SeriesEntry, Layout, rounded, series_end}
use Rattle.block_walk.specs.IndexFile.Grammar.{entry, frame, IsWalk, IsLayout}
use Rattle.block_walk.specs.IndexFile.Flat.{zero_between, gaps_zero}
use Rattle.block_walk.specs.IndexFile.Spelled.{AreZero}
use Rattle.block_walk.proofs.IndexFile.Eaches.{drop_at_place}

pub nothing_between : (file : List ℕ) (from to : ℕ) → to ≤ from → zero_between file from to ≡ true
nothing_between file from to le = let e : to - from ≡ 0 = omega arith in rw e refl

pub gap_step : (file : List ℕ) (end from : ℕ) (ps : List SeriesEntry) (i : ℕ) (p : SeriesEntry) (r whole : Bool)
    → slice_get ps i ≡ Some p → r ≡ zero_between file from p.offset
    → gaps_zero file end from (drop i ps) ≡ whole
    → whole ≡ (r && gaps_zero file end p.end (drop (i + 1) ps))
unfolding gaps_zero
gap_step file end from ps i p r whole g t h =
    let f : i + 1 ≡ suc i = omega arith in
    sym h ∙ rw (drop_at_place ps i p g, f, t) refl

pub gap_end : (file : List ℕ) (end from : ℕ) (ps : List SeriesEntry) (i : ℕ) (whole : Bool)
    → length ps ≤ i → gaps_zero file end from (drop i ps) ≡ whole
    → zero_between file from end ≡ whole
unfolding gaps_zero
gap_end file end from ps i whole le h = rw (drop_all i ps le) at h

-- ---- each byte in no entry

both : (p q : Bool) → (p && q) ≡ true → (p ≡ true) × (q ≡ true)
both true q h = (refl, h)
both false q h = absurd cc

all_zero_at : (xs : List ℕ) (i : ℕ) → list_all (λ b. b == 0) xs ≡ true → get_or xs i 0 ≡ 0
all_zero_at [] i h = refl
all_zero_at (x ∷ xs) zero h = eqb-true x 0 (both (eqb x 0) (list_all (λ b. b == 0) xs) h).0
all_zero_at (x ∷ xs) (suc i) h = all_zero_at xs i (both (eqb x 0) (list_all (λ b. b == 0) xs) h).1

all_zero_from : (xs : List ℕ) → ((i : ℕ) → i < length xs → get_or xs i 0 ≡ 0)
    → list_all (λ b. b == 0) xs ≡ true
all_zero_from [] h = refl
all_zero_from (x ∷ xs) h =
    let e : x ≡ 0 = h 0 (omega arith) in
    rw (e, all_zero_from xs (λ i lt. h (suc i) (omega arith))) refl

in_range : (file : List ℕ) (from to i : ℕ) → i < to - from
    → get_or (slice_range file from to) i 0 ≡ get_or file (from + i) 0
in_range file from to i lt =
    get_or-take (to - from) (drop from file) i 0 lt ∙ get_or-drop from file i 0

zero_at : (file : List ℕ) (from to k : ℕ) → zero_between file from to ≡ true → from ≤ k → k < to
    → slice_index file k ≡ 0
zero_at file from to k h le lt =
    let e : from + (k - from) ≡ k = omega arith in
    ap (λ (n : ℕ). get_or file n 0) (sym e)
    ∙ sym (in_range file from to (k - from) (omega arith))
    ∙ all_zero_at (slice_range file from to) (k - from) h

zero_from : (file : List ℕ) (from to : ℕ) → ((k : ℕ) → from ≤ k → k < to → slice_index file k ≡ 0)
    → zero_between file from to ≡ true
zero_from file from to h = all_zero_from (slice_range file from to) (λ i lt.
    let inside : i < to - from = omega (arith, lt, length-take (to - from) (drop from file)) in
    in_range file from to i inside ∙ h (from + i) (omega arith) (omega (arith, inside)))

-- zeros between the entries are all bytes in no entry
pub zeros_of : (ps : List SeriesEntry) (file : List ℕ) (end from : ℕ)
    → gaps_zero file end from ps ≡ true → AreZero file from end ps
unfolding gaps_zero
zeros_of [] file end from h k le lt none = zero_at file from end k h le lt
zeros_of (p ∷ ps) file end from h k le lt none =
    let b = both (zero_between file from p.offset) (gaps_zero file end p.end ps) h in
    elim (cases_lt k p.offset) [
      | inl before ↦ zero_at file from p.offset k b.0 le before
      | inr from_it ↦
          elim (cases_lt k p.end) [
            | inl within ↦ absurd (none p (here p ps) (from_it, within))
            | inr after ↦
                zeros_of ps file end p.end b.1 k after lt (λ q c l. none q (there p q ps c) l)
          ]
    ]

walk_after : (ps : List SeriesEntry) (file : List ℕ) (end at : ℕ) (q : SeriesEntry)
    → IsWalk file end at ps → Contains ps q → at ≤ q.offset
walk_after [] file end at q w c = absurd (none_in_nil q c)
walk_after (p ∷ ps) file end at q w c =
    elim (Contains-cases p ps q c) [
      | inl e ↦ omega (arith, w.0, ap (λ (x : SeriesEntry). x.offset) e)
      | inr m ↦ omega (arith, walk_after ps file end (rounded (at + length (entry p.body))) q w.3 m)
    ]

-- where each byte in no entry is 0, there are zeros between entries that stand one after another
pub gaps_of : (ps : List SeriesEntry) (file : List ℕ) (end at from : ℕ) → IsWalk file end at ps
    → from ≤ at → AreZero file from end ps → gaps_zero file end from ps ≡ true
unfolding gaps_zero
gaps_of [] file end at from w le h =
    zero_from file from end (λ k a b. h k a b (λ q c l. none_in_nil q c))
gaps_of (p ∷ ps) file end at from w le h =
    let next = rounded (at + length (entry p.body)) in
    let up : p.end ≤ next = omega (arith, w.4) in
    let one = zero_from file from p.offset (λ k a b. h k a (omega (arith, b, w.0, w.1)) (λ q c l.
    elim (Contains-cases p ps q c) [
      | inl e ↦ omega (arith, b, l.0, ap (λ (x : SeriesEntry). x.offset) e)
      | inr m ↦ omega (arith, b, l.0, w.0, w.4, up, walk_after ps file end next q w.3 m)
    ])) in
    let more = gaps_of ps file end next p.end w.3 up (λ k a b none. h k
    (omega (arith, le, w.4, a)) b (λ q c l.
    elim (Contains-cases p ps q c) [
      | inl e ↦ omega (arith, a, l.1, ap (λ (x : SeriesEntry). x.end) e)
      | inr m ↦ none q m l
    ])) in
    rw (one, more) refl

-- the same of a layout, from the end of its symbols up to the end of its entries
pub gaps_in : (file : List ℕ) (p : Layout) → IsLayout file p
    → AreZero file p.symbols_end (series_end p.contents) p.entries
    → gaps_zero file (series_end p.contents) p.symbols_end p.entries ≡ true
gaps_in file p i zeros =
    let t = p.contents in
    let stands = i.symbols.1 in
    let front : p.symbols_end ≤ rounded t.series = omega (
      arith,
      i.symbols.3,
      i.placed.series,
      ap length stands.1,
      length-append (frame i.symbols.0) stands.0,
      length-take (t.series - 5) (drop 5 file),
    ) in
    gaps_of p.entries file (series_end t) (rounded t.series) p.symbols_end i.entries front zeros
