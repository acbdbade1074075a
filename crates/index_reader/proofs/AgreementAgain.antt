-- Lists that are those of the series agree by symbols.
use Rattle.std.proofs.Common.{◌≡◌, ℕ, zero, suc, ◌+◌, ◌/◌, ◌<◌, Bool, true, false, ◌&&◌, cond, not}
use Rattle.std.proofs.Common.{List, [], ◌∷◌, ◌++◌, length, get_or, drop, Some, Ok, refl, sym, ap}
use Rattle.std.proofs.Common.{subst, ◌∙◌, arith}
use Rattle.std.specs.Prelude.{map, filter, nat_lt}
use Rattle.std.specs.List.{All, AllByRecursion, list_all, Contains}
use Rattle.std.specs.Str.{bytes_eq}
use Rattle.std.specs.Ordering.{is_lt}
use Rattle.std.specs.declared.cmp.Ordering.TheVariants.{Less}
use Rattle.std.specs.Cmp.{tied_itself}
use Rattle.std.proofs.lemmas.Bool.{lt-ltb}
use Rattle.std.proofs.lemmas.Cmp.{nat_list_cmp_total}
use Rattle.std.proofs.lemmas.List.{length-map, get_or-map}
use Rattle.labels.specs.Labels.{text_cmp, pair_cmp}
use Rattle.labels.specs.Parts.{carries}
use Rattle.labels.proofs.Lists.{here, there}
use Rattle.labels.proofs.Texts.{bytes_exact, bytes_self}
use Rattle.index_reader.specs.Layout.{SeriesEntry, ascending, Label, Body, TableEntry, rises}
use Rattle.index_reader.specs.Reading.Steps.{each}
use Rattle.index_reader.specs.References.{words, references_in}
use Rattle.index_reader.specs.Spelled.{AreLabels, pairs_of, lists_for}
use Rattle.index_reader.specs.Reading.Carried.{Carried, references_carrying, ListsAgree}
use Rattle.index_reader.specs.Lookups.{symbol_of, key_before, place_of}
use Rattle.index_reader.specs.Reading.Agreement.{key_at, keys_at, list_of_label, lists_of_series}
use Rattle.index_reader.specs.Reading.Agreement.{each_all, Carrier, carriers, are_used}
use Rattle.index_reader.specs.Reading.Agreement.{agreement_of}
use Rattle.index_reader.specs.Reading.Agreement as agreement
use Rattle.index_reader.specs.Reading.Whole as checks
use Rattle.index_reader.specs.Indexes.{Series, Indexed, references, references_with, named_label}
use Rattle.index_reader.specs.Indexes.{named, series_at, series_of}
use Rattle.index_reader.proofs.Searching.{strict_from_rises, ascending_is, search_found}
use Rattle.index_reader.proofs.Orders.{pairs_cmp}
use Rattle.index_reader.proofs.Naming.{first_below}
use Rattle.index_reader.proofs.Draining.{drained_again}
use Rattle.index_reader.proofs.Placing.{placed_inside}
use Rattle.index_reader.proofs.Texts.{stands_at, bytes_other, bytes_full, carries_none}
use Rattle.index_reader.proofs.Texts.{carries_same, carries_other, place_is}
use Rattle.index_reader.proofs.Spans.{same_symbol}
use Rattle.index_reader.proofs.Listing.{of_all, of_pair}
use Rattle.index_reader.proofs.Facts.{IsInside, in_named}
use Rattle.index_reader.proofs.Found.{pair_listed}

abbrev pub Pair : Type 0
Pair = List ℕ × List ℕ

both : (p q : Bool) → (p && q) ≡ true → (p ≡ true) × (q ≡ true)
both true q h = (refl, h)
both false q h = absurd cc

true_not_false : (b : Bool) → b ≡ true → b ≡ false → ⊥
true_not_false b t f = let e : true ≡ false = sym t ∙ f in absurd cc

symbol_is : (symbols : List (List ℕ)) (i : ℕ) → ascending symbols ≡ true → i < length symbols
    → symbol_of symbols (get_or symbols i []) ≡ Some i
symbol_is symbols i order lt =
    let t = get_or symbols i [] in
    search_found text_cmp nat_list_cmp_total symbols t t i
    (strict_from_rises text_cmp nat_list_cmp_total symbols (sym (ascending_is symbols) ∙ order))
    (stands_at symbols i [] lt) (tied_itself nat_list_cmp_total t)

-- ---- a pair that a series carries is one of its labels

label_from : (symbols : List (List ℕ)) (low : ℕ) (ls : List Label) (name value : List ℕ)
    → AreLabels symbols low ls → carries name value (named symbols ls) ≡ true
    → (l : Label) × IsInside symbols l × (named_label symbols l ≡ (name, value))
label_from symbols low [] name value h c =
    absurd (true_not_false (carries name value []) c (carries_none name value))
label_from symbols low (l ∷ ls) name value h c =
    go (label_from symbols (l.0 + 1) ls name value h.1) (bytes_eq (get_or symbols l.0 []) name) refl
  where
    n : List ℕ
    n = get_or symbols l.0 []

    v : List ℕ
    v = get_or symbols l.1 []

    go : (carries name value (named symbols ls) ≡ true
        → (k : Label) × IsInside symbols k × (named_label symbols k ≡ (name, value))) → (b : Bool)
        → bytes_eq n name ≡ b
        → (k : Label) × IsInside symbols k × (named_label symbols k ≡ (name, value))
    go more true q =
        let w : (not (bytes_eq value []) && bytes_eq v value) ≡ true =
        sym (carries_same name value n v (named symbols ls) q) ∙ c in
        let e = bytes_exact n name q in
        let f = bytes_exact v value (both (not (bytes_eq value [])) (bytes_eq v value) w).1 in
        let inside : IsInside symbols l = (h.0.name_in, h.0.value_in) in
        let is : named_label symbols l ≡ (name, value) = λ i. (e i, f i) in
        (l, inside, is)
    go more false q = more (sym (carries_other name value n v (named symbols ls) q) ∙ c)

label_of : (symbols : List (List ℕ)) (ps : List SeriesEntry) (bs : List Body) (name value : List ℕ)
    → ((j : ℕ) (d : Body) → j < length bs → AreLabels symbols 0 (get_or bs j d).labels)
    → (references_with name value (series_of symbols ps bs) ≡ [] → ⊥)
    → (l : Label) × IsInside symbols l × (named_label symbols l ≡ (name, value))
unfolding series_of
label_of symbols [] bs name value h some = absurd (some refl)
label_of symbols (p ∷ ps) [] name value h some = absurd (some refl)
label_of symbols (p ∷ ps) (b ∷ bs) name value h some =
    go (label_of symbols ps bs name value (λ j d lt. h (suc j) d (omega arith)))
    (carries name value (named symbols b.labels)) refl
  where
    rest : List Series
    rest = filter (λ (s : Series). carries name value s.labels) (series_of symbols ps bs)

    go : ((references_with name value (series_of symbols ps bs) ≡ [] → ⊥)
        → (l : Label) × IsInside symbols l × (named_label symbols l ≡ (name, value))) → (c : Bool)
        → carries name value (named symbols b.labels) ≡ c
        → (l : Label) × IsInside symbols l × (named_label symbols l ≡ (name, value))
    go more true q = label_from symbols 0 b.labels name value (h 0 b (omega arith)) q
    go more false q =
        more (λ (e : references_with name value (series_of symbols ps bs) ≡ []).
        some (ap (λ (c : Bool). references (cond c (series_at symbols p b ∷ rest) rest)) q ∙ e))

-- ---- the pairs of the table by symbols

abbrev pub HasKeys : List (List ℕ) → List Pair → Type 0
HasKeys symbols pairs =
    (keys : List Label) × AllByRecursion (IsInside symbols) keys × (named symbols keys ≡ pairs)

keys_for : (symbols : List (List ℕ)) (pairs : List Pair)
    → ((p : Pair) → Contains pairs p
    → (l : Label) × IsInside symbols l × (named_label symbols l ≡ p))
    → HasKeys symbols pairs
keys_for symbols [] h = ([], tt, refl)
keys_for symbols (p ∷ pairs) h =
    let one = h p (here p pairs) in
    let more = keys_for symbols pairs (λ q c. h q (there p q pairs c)) in (
      one.0 ∷ more.0,
      (one.1, more.1),
      ap (λ (x : Pair). x ∷ named symbols more.0) one.2 ∙ ap (λ (xs : List Pair). p ∷ xs) more.2,
    )

inside_all : (symbols : List (List ℕ)) (keys : List Label) → AllByRecursion (IsInside symbols) keys
    → All (IsInside symbols) keys
inside_all symbols [] h k d lt = absurd (omega arith)
inside_all symbols (x ∷ keys) h zero d lt = h.0
inside_all symbols (x ∷ keys) h (suc k) d lt = inside_all symbols keys h.1 k d (omega arith)

less_so : (symbols : List (List ℕ)) (a b : Label) → ascending symbols ≡ true → IsInside symbols a
    → IsInside symbols b → pair_cmp (named_label symbols a) (named_label symbols b) ≡ Less
    → key_before a b ≡ true
less_so symbols a b order i j h = ap is_lt (sym (pairs_cmp symbols a b order i j) ∙ h)

keys_rise : (symbols : List (List ℕ)) (keys : List Label) → ascending symbols ≡ true
    → AllByRecursion (IsInside symbols) keys
    → ((k : ℕ) → k + 1 < length keys → pair_cmp (get_or (named symbols keys) k (
      [],
      [],
    )) (get_or (named symbols keys) (k + 1) ([], [])) ≡ Less) → rises key_before keys ≡ true
unfolding rises
keys_rise symbols [] order inside h = refl
keys_rise symbols (a ∷ []) order inside h = refl
keys_rise symbols (a ∷ b ∷ keys) order inside h =
    let one = less_so symbols a b order inside.0 inside.1.0 (h 0 (omega arith)) in
    let more = keys_rise symbols (b ∷ keys) order inside.1 (λ k lt.
    let e : suc k + 1 ≡ suc (k + 1) = omega arith in
    let o = h (suc k) (omega arith) in
    rw e at o) in
    rw (one, more) refl

key_again : (symbols : List (List ℕ)) (l : TableEntry) (key : Label) → ascending symbols ≡ true
    → IsInside symbols key → named_label symbols key ≡ (l.name, l.value) → key_at symbols l ≡ Ok key
unfolding key_at
key_again symbols l key order i e =
    let n : symbol_of symbols l.name ≡ Some key.0 =
    ap (symbol_of symbols) (sym (ap (λ (p : Pair). p.0) e)) ∙ symbol_is symbols key.0 order i.0 in
    let v : symbol_of symbols l.value ≡ Some key.1 =
    ap (symbol_of symbols) (sym (ap (λ (p : Pair). p.1) e)) ∙ symbol_is symbols key.1 order i.1 in
    rw (n, v) refl

keys_again : (symbols : List (List ℕ)) (table : List TableEntry) (keys : List Label)
    → ascending symbols ≡ true → AllByRecursion (IsInside symbols) keys
    → named symbols keys ≡ pairs_of table → each (key_at symbols) table ≡ Ok keys
unfolding each
keys_again symbols [] [] order i e = refl
keys_again symbols [] (k ∷ keys) order i e =
    absurd (omega (arith, ap (λ (ps : List Pair). length ps) e))
keys_again symbols (l ∷ table) [] order i e =
    absurd (omega (arith, ap (λ (ps : List Pair). length ps) e))
keys_again symbols (l ∷ table) (key ∷ keys) order i e =
    let none : Pair = ([], []) in
    let one : named_label symbols key ≡ (l.name, l.value) =
    ap (λ (ps : List Pair). get_or ps 0 none) e in
    let more : named symbols keys ≡ pairs_of table = ap (λ (ps : List Pair). drop 1 ps) e in
    rw (key_again symbols l key order i.0 one, keys_again symbols table keys order i.1 more) refl

-- the table begins with the empty pair
all_keys_again : (symbols : List (List ℕ)) (table : List TableEntry) (keys : List Label)
    → ascending symbols ≡ true → AllByRecursion (IsInside symbols) keys
    → pairs_of table ≡ ([], []) ∷ named symbols keys → rises key_before keys ≡ true
    → keys_at symbols table ≡ Ok keys
unfolding keys_at
all_keys_again symbols [] keys order i e r =
    absurd (omega (arith, ap (λ (ps : List Pair). length ps) e))
all_keys_again symbols (l ∷ table) keys order i e r =
    let none : Pair = ([], []) in
    let first : (l.name, l.value) ≡ none = ap (λ (ps : List Pair). get_or ps 0 none) e in
    let more : named symbols keys ≡ pairs_of table = sym (ap (λ (ps : List Pair). drop 1 ps) e) in
    let n : l.name ≡ [] = ap (λ (p : Pair). p.0) first in
    let v : l.value ≡ [] = ap (λ (p : Pair). p.1) first in
    rw (n, v, keys_again symbols table keys order i more, r) refl

-- ---- each label of a series stands in the table

own_label : (symbols : List (List ℕ)) (low : ℕ) (ls : List Label) (k : ℕ) → ascending symbols ≡ true
    → AreLabels symbols low ls → k < length ls → carries (get_or symbols (get_or ls k (
      0,
      0,
    )).0 []) (get_or symbols (get_or ls k (0, 0)).1 []) (named symbols ls) ≡ true
own_label symbols low [] k order h lt = absurd (omega arith)
own_label symbols low (l ∷ ls) zero order h lt =
    let n = get_or symbols l.0 [] in
    let v = get_or symbols l.1 [] in
    carries_same n v n v (named symbols ls) (bytes_self n)
    ∙ rw (bytes_full v h.0.value, bytes_self v) refl
own_label symbols low (l ∷ ls) (suc k) order h lt =
    let inside : k < length ls = omega arith in
    let o = first_below symbols (l.0 + 1) ls k (0, 0) h.1 inside in
    let t = get_or ls k (0, 0) in
    let other : bytes_eq (get_or symbols l.0 []) (get_or symbols t.0 []) ≡ false =
    bytes_other symbols l.0 t.0 order h.0.name_in o.name_in
    (λ (e : l.0 ≡ t.0). omega (arith, e, o.from)) in
    carries_other (get_or symbols t.0 []) (get_or symbols t.1 []) (get_or symbols l.0 [])
    (get_or symbols l.1 []) (named symbols ls) other
    ∙ own_label symbols (l.0 + 1) ls k order h.1 inside

some_with : (symbols : List (List ℕ)) (ps : List SeriesEntry) (bs : List Body) (name value : List ℕ)
    (j : ℕ) (d : Body) → length bs ≡ length ps → j < length bs
    → carries name value (named symbols (get_or bs j d).labels) ≡ true
    → references_with name value (series_of symbols ps bs) ≡ [] → ⊥
unfolding series_of
some_with symbols [] bs name value j d n lt c e = omega (arith, n, lt)
some_with symbols (p ∷ ps) [] name value j d n lt c e = absurd (omega arith)
some_with symbols (p ∷ ps) (b ∷ bs) name value zero d n lt c e =
    let rest = filter (λ (s : Series). carries name value s.labels) (series_of symbols ps bs) in
    let f : references (series_at symbols p b ∷ rest) ≡ [] =
    sym (ap (λ (x : Bool). references (cond x (series_at symbols p b ∷ rest) rest)) c) ∙ e in
    absurd (omega (arith, ap (λ (xs : List ℕ). length xs) f))
some_with symbols (p ∷ ps) (b ∷ bs) name value (suc j) d n lt c e =
    some_with symbols ps bs name value j d (omega (arith, n)) (omega arith) c
    (tail_none (carries name value (named symbols b.labels)) (series_at symbols p b)
    (filter (λ (s : Series). carries name value s.labels) (series_of symbols ps bs)) e)
  where
    tail_none : (x : Bool) (s : Series) (rest : List Series)
        → references (cond x (s ∷ rest) rest) ≡ [] → references rest ≡ []
    tail_none true s rest h = absurd (omega (arith, ap (λ (xs : List ℕ). length xs) h))
    tail_none false s rest h = h

-- the place of each label
abbrev pub HasPlace : List Label → Label → Type 0
HasPlace keys l = (a : ℕ) × (place_of keys l ≡ Some a)

places_again : (keys : List Label) (r : ℕ) (ls : List Label)
    → ((k : ℕ) → k < length ls → HasPlace keys (get_or ls k (0, 0)))
    → (cs : List Carried) × (each (list_of_label keys r) ls ≡ Ok cs)
unfolding each list_of_label
places_again keys r [] h = ([], refl)
places_again keys r (l ∷ ls) h =
    let one = h 0 (omega arith) in
    let more = places_again keys r ls (λ k lt. h (suc k) (omega arith)) in
    let first : Carried = (one.0 + 1, r) in
    (first ∷ more.0, rw (one.1, more.1) refl)

placed_again : (symbols : List (List ℕ)) (keys : List Label) (ps : List SeriesEntry)
    (bs : List Body) → ((j : ℕ) (d : Body) (k : ℕ) → j < length bs
    → k < length (get_or bs j d).labels → HasPlace keys (get_or (get_or bs j d).labels k (0, 0)))
    → (cs : List Carried) × (each_all (lists_of_series keys)
    (carriers (agreement.entry_references ps) (checks.labels_of_each bs)) ≡ Ok cs)
unfolding each_all carriers lists_of_series
placed_again symbols keys [] bs h = ([], refl)
placed_again symbols keys (p ∷ ps) [] h = ([], refl)
placed_again symbols keys (p ∷ ps) (b ∷ bs) h =
    let r = p.offset / 16 in
    let one = places_again keys r b.labels (λ k lt. h 0 b k (omega arith) lt) in
    let more = placed_again symbols keys ps bs (λ j d k lj lk. h (suc j) d k (omega arith) lk) in
    let first : List Carried = (0, r) ∷ one.0 in
    (first ++ more.0, rw (one.1, more.1) refl)

-- ---- all lists

used_again : (lists : List (List ℕ)) (k : ℕ)
    → ((j : ℕ) → j < length lists → 0 < length (get_or lists j []))
    → list_all (λ (l : List ℕ). nat_lt 0 (length l)) lists ≡ true
used_again [] k h = refl
used_again (l ∷ lists) k h = rw (
  lt-ltb 0 (length l) (h 0 (omega arith)),
  used_again lists k (λ j lt. h (suc j) (omega arith)),
) refl

-- the pairs ascend, and are exactly those that series carry
pub record HasItsPairs (x : Indexed) : Type 0 where
  pub in_order : (k : ℕ) → k + 1 < length x.pairs
      → pair_cmp (get_or x.pairs k ([], [])) (get_or x.pairs (k + 1) ([], [])) ≡ Less
  pub carried : (name value : List ℕ) → Contains x.pairs (name, value)
      → references_with name value x.series ≡ [] → ⊥
  pub listed : (name value : List ℕ) → (references_with name value x.series ≡ [] → ⊥)
      → Contains x.pairs (name, value)

-- the same by symbols
record AreKeysOf (symbols : List (List ℕ)) (x : Indexed) (keys : List Label) : Type 0 where
  inside : AllByRecursion (IsInside symbols) keys
  are : named symbols keys ≡ x.pairs
  rising : rises key_before keys ≡ true

keys_of : (symbols : List (List ℕ)) (ps : List SeriesEntry) (bs : List Body) (x : Indexed)
    → ascending symbols ≡ true → x.series ≡ series_of symbols ps bs
    → ((j : ℕ) (d : Body) → j < length bs → AreLabels symbols 0 (get_or bs j d).labels)
    → HasItsPairs x → (keys : List Label) × AreKeysOf symbols x keys
keys_of symbols ps bs x order s h c =
    let found =
    keys_for symbols x.pairs (λ (p : Pair). λ (m : Contains x.pairs p). label_of symbols ps bs p.0
    p.1 h (λ (e : references_with p.0 p.1 (series_of symbols ps bs) ≡ []).
    c.carried p.0 p.1 m (ap (λ (ss : List Series). references_with p.0 p.1 ss) s ∙ e))) in
    let rise =
    λ (k : ℕ). λ (lt : k + 1 < length found.0). subst (λ (ps' : List Pair). pair_cmp (get_or ps' k (
      [],
      [],
    )) (get_or ps' (k + 1) ([], [])) ≡ Less) (sym found.2) (c.in_order k (omega (
      arith,
      lt,
      ap (λ (ps' : List Pair). length ps') found.2,
      length-map found.0 (named_label symbols),
    ))) in (
      found.0,
      record {
        inside = found.1;
        are = found.2;
        rising = keys_rise symbols found.0 order found.1 rise;
      },
    )

label_placed : (symbols : List (List ℕ)) (ps : List SeriesEntry) (bs : List Body) (x : Indexed)
    (keys : List Label) → ascending symbols ≡ true → x.series ≡ series_of symbols ps bs
    → length bs ≡ length ps
    → ((j : ℕ) (d : Body) → j < length bs → AreLabels symbols 0 (get_or bs j d).labels)
    → HasItsPairs x → AreKeysOf symbols x keys
    → (j : ℕ) (d : Body) (k : ℕ) → j < length bs → k < length (get_or bs j d).labels
    → HasPlace keys (get_or (get_or bs j d).labels k (0, 0))
label_placed symbols ps bs x keys order s n h c a j d k lj lk =
    let ls = (get_or bs j d).labels in
    let l = get_or ls k (0, 0) in
    let labelled = h j d lj in
    let o = first_below symbols 0 ls k (0, 0) labelled lk in
    let p : Pair = named_label symbols l in
    let carried = own_label symbols 0 ls k order labelled lk in
    let some =
    λ (e : references_with p.0 p.1 x.series ≡ []). some_with symbols ps bs p.0 p.1 j d n lj carried
    (sym (ap (λ (ss : List Series). references_with p.0 p.1 ss) s) ∙ e) in
    let there_is : Contains (named symbols keys) p =
    subst (λ (ps' : List Pair). Contains ps' p) (sym a.are) (c.listed p.0 p.1 some) in
    let m = in_named symbols keys p there_is in
    let key = get_or keys m.0 (0, 0) in
    let i = inside_all symbols keys a.inside m.0 (0, 0) m.1 in
    let e = same_symbol symbols key.0 l.0 order i.0 o.name_in (ap (λ (q : Pair). q.0) m.2) in
    let f = same_symbol symbols key.1 l.1 order i.1 o.value_in (ap (λ (q : Pair). q.1) m.2) in
    let same : key ≡ l = λ z. (e z, f z) in
    (m.0, ap (place_of keys) (sym same) ∙ place_is keys m.0 a.rising m.1)

listed_again : (symbols : List (List ℕ)) (ps : List SeriesEntry) (bs : List Body) (x : Indexed)
    (keys : List Label) (raws : List (List ℕ)) → ascending symbols ≡ true
    → x.series ≡ series_of symbols ps bs
    → ((j : ℕ) (d : Body) → j < length bs → AreLabels symbols 0 (get_or bs j d).labels)
    → AreKeysOf symbols x keys
    → map references_in raws ≡ references x.series ∷ lists_for x.pairs x.series
    → (placed : List Carried) → each_all (lists_of_series keys)
    (carriers (agreement.entry_references ps) (checks.labels_of_each bs)) ≡ Ok placed
    → ListsAgree (map references_in raws) placed
listed_again symbols ps bs x keys raws order s h a lists placed e k lt =
    subst (λ (ls : List (List ℕ)). k < length ls → get_or ls k [] ≡ references_carrying k placed)
    (sym lists)
    (λ (l : k < length (references x.series ∷ lists_for x.pairs x.series)). at_place k l) lt
  where
    at_pair : (j : ℕ) → j < length keys
        → get_or (lists_for x.pairs x.series) j [] ≡ references_carrying (j + 1) placed
    at_pair j lj =
        let i = inside_all symbols keys a.inside j (0, 0) lj in
        let p =
        of_pair symbols keys j (get_or keys j (0, 0)) order a.rising lj refl i.0 i.1 ps bs placed h
        e in
        subst (λ (q : List Pair). get_or (lists_for q x.series) j []
        ≡ references_carrying (j + 1) placed) a.are
        (pair_listed symbols keys x.series j lj
        ∙ ap (λ (ss : List Series). references_with (get_or symbols (get_or keys j (
          0,
          0,
        )).0 []) (get_or symbols (get_or keys j (0, 0)).1 []) ss) s
        ∙ sym p)

    at_place : (j : ℕ) → j < suc (length (lists_for x.pairs x.series))
        → get_or (references x.series ∷ lists_for x.pairs x.series) j []
        ≡ references_carrying j placed
    at_place zero l =
        ap (λ (ss : List Series). references ss) s ∙ sym (of_all symbols keys ps bs placed e)
    at_place (suc j) l =
        let q : j + 1 ≡ suc j = omega arith in
        let n = length-map x.pairs (λ (p : Pair). references_with p.0 p.1 x.series) in
        let m = length-map keys (named_label symbols) in
        let w = ap (λ (ps' : List Pair). length ps') a.are in
        at_pair j (omega (arith, l, n, m, w)) ∙ ap (λ (i : ℕ). references_carrying i placed) q

some_raw : (bytes : List ℕ) → (references_in bytes ≡ [] → ⊥) → 0 < length bytes
unfolding words
some_raw [] h = absurd (h refl)
some_raw (b ∷ bytes) h = omega arith

-- the list of no pair is empty
raws_used : (symbols : List (List ℕ)) (x : Indexed) (keys : List Label) (raws : List (List ℕ))
    → AreKeysOf symbols x keys → HasItsPairs x
    → map references_in raws ≡ references x.series ∷ lists_for x.pairs x.series
    → are_used raws ≡ true
raws_used symbols x keys [] a c e = refl
raws_used symbols x keys (r ∷ raws) a c e = used_again raws 0 (λ j lt.
    let n = length-map x.pairs (λ (p : Pair). references_with p.0 p.1 x.series) in
    let m = length-map raws references_in in
    let size = ap (λ (ls : List (List ℕ)). length ls) e in
    let lists : map references_in raws ≡ lists_for x.pairs x.series =
    ap (λ (ls : List (List ℕ)). drop 1 ls) e in
    let inside : j < length x.pairs = omega (arith, lt, n, m, size) in
    let here_is : references_in (get_or raws j []) ≡ get_or (lists_for x.pairs x.series) j [] =
    sym (get_or-map references_in raws j [] [] lt)
    ∙ ap (λ (ls : List (List ℕ)). get_or ls j []) lists in
    some_raw (get_or raws j []) (λ (none : references_in (get_or raws j []) ≡ []).
    none_listed x c j inside (sym here_is ∙ none)))
  where
    in_pairs : (pairs : List Pair) (j : ℕ) → j < length pairs
        → Contains pairs (get_or pairs j ([], []))
    in_pairs [] j lt = absurd (omega arith)
    in_pairs (p ∷ pairs) zero lt = here p pairs
    in_pairs (p ∷ pairs) (suc j) lt =
        there p (get_or pairs j ([], [])) pairs (in_pairs pairs j (omega arith))

    none_listed : (x : Indexed) → HasItsPairs x → (j : ℕ) → j < length x.pairs
        → get_or (lists_for x.pairs x.series) j [] ≡ [] → ⊥
    none_listed x c j lt e =
        let p = get_or x.pairs j ([], []) in
        c.carried p.0 p.1 (in_pairs x.pairs j lt)
        (sym (get_or-map (λ (q : Pair). references_with q.0 q.1 x.series) x.pairs j ([], []) [] lt)
        ∙ e)

pub agreement_again : (symbols : List (List ℕ)) (ps : List SeriesEntry) (bs : List Body)
    (x : Indexed) (table : List TableEntry) (raws : List (List ℕ)) → ascending symbols ≡ true
    → x.series ≡ series_of symbols ps bs → length bs ≡ length ps
    → ((j : ℕ) (d : Body) → j < length bs → AreLabels symbols 0 (get_or bs j d).labels)
    → HasItsPairs x
    → pairs_of table ≡ ([], []) ∷ x.pairs
    → map references_in raws ≡ references x.series ∷ lists_for x.pairs x.series
    → (keys : List Label) × (agreement_of symbols table raws
    (carriers (agreement.entry_references ps) (checks.labels_of_each bs)) ≡ Ok keys)
    × (named symbols keys ≡ x.pairs)
unfolding agreement_of
agreement_again symbols ps bs x table raws order s n h c t lists =
    let k = keys_of symbols ps bs x order s h c in
    let keys = k.0 in
    let a = k.1 in
    let read : keys_at symbols table ≡ Ok keys =
    all_keys_again symbols table keys order a.inside (t
    ∙ ap (λ (ps' : List Pair). ([], []) ∷ ps') (sym a.are)) a.rising in
    let placed =
    placed_again symbols keys ps bs (label_placed symbols ps bs x keys order s n h c a) in
    let agree = listed_again symbols ps bs x keys raws order s h a lists placed.0 placed.1 in
    let size : length (map references_in raws) ≡ length keys + 1 = omega (
      arith,
      ap (λ (ls : List (List ℕ)). length ls) lists,
      length-map x.pairs (λ (p : Pair). references_with p.0 p.1 x.series),
      length-map keys (named_label symbols),
      ap (λ (ps' : List Pair). length ps') a.are,
    ) in
    let fits =
    placed_inside keys (carriers (agreement.entry_references ps) (checks.labels_of_each bs))
    placed.0 placed.1 in
    let used_up =
    drained_again placed.0 (map references_in raws)
    (subst (λ (m : ℕ). AllByRecursion (λ (d : Carried). d.0 < m) placed.0) (sym size) fits) agree in
    (keys, rw (read, placed.1, raws_used symbols x keys raws a c lists, used_up) refl, a.are)
