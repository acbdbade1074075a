-- The bodies of a written index: each spells its labels and its chunks.
use Rattle.std.proofs.Common.{◌≡◌, ◌≢◌, ℕ, zero, suc, ◌+◌, ◌-◌, ◌^◌, ◌<◌, ◌≤◌, Bool, true, false}
use Rattle.std.proofs.Common.{not, List, [], ◌∷◌, ◌++◌, length, get_or, take, drop, map, pos}
use Rattle.std.proofs.Common.{negsuc, ◌+ℤ◌, ◌-ℤ◌, refl, sym, ap, subst, ◌∙◌, length-append, arith}
use Rattle.std.specs.Prelude.{ℤ, T, int_lt, if◌then◌else◌}
use Rattle.std.specs.Int.Signed.{◌<ℤ◌, ◌≤ℤ◌, lt_z_no}
use Rattle.std.specs.Int.RustNames.{unsigned_abs}
use Rattle.std.specs.Bool.{IsTrue}
use Rattle.std.specs.List.{All, AllByRecursion, Contains, flat_map, list_all}
use Rattle.std.specs.List.Sorted.{IsStrictlySortedBy}
use Rattle.std.specs.Ordering.{int_cmp, is_lt}
use Rattle.std.specs.declared.cmp.Ordering.{Ordering}
use Rattle.std.specs.declared.cmp.Ordering.TheVariants.{Less, Equal, Greater}
use Rattle.std.specs.Cmp.{IsTotalOrder, tied_itself}
use Rattle.std.specs.FinMap.Entries.{is_sorted, below_all}
use Rattle.std.proofs.lemmas.Int.{ints}
use Rattle.std.proofs.lemmas.List.{length-map, length-take, take-append-drop}
use Rattle.std.proofs.lemmas.List.Elements.{All-head, All-tail, Contains-append_left}
use Rattle.std.proofs.lemmas.List.Elements.{Contains-append_right}
use Rattle.std.proofs.lemmas.List.Folds.{flat_map-map}
use Rattle.labels.specs.Contents.{in_range}
use Rattle.labels.specs.declared.sample.TheConstants.{MIN_TIME, MAX_TIME}
use Rattle.labels.specs.Labels.{text_cmp, Labels, IsByName, labels_cmp}
use Rattle.labels.specs.LabelSets.{IsLabelSet}
use Rattle.labels.specs.Names.{is_name}
use Rattle.labels.specs.Rows.{Row}
use Rattle.labels.proofs.Times.{first_T, second_T, both_T, lt_of, T_of}
use Rattle.wire.specs.Spelling.{uvarint, zigzag}
use Rattle.chunk_reader.specs.Grammar.{time_at}
use Rattle.index_reader.specs.declared.chunk.Chunk.{Chunk}
use Rattle.labels.specs.Contents.{is_time}
use Rattle.index_reader.specs.Layout.{rounded}
use Rattle.index_reader.specs.Grammar.{entry}
use Rattle.index_reader.specs.Spelled.{AreLabels, label_text, IsFirst, IsLater, AreLater, AreChunks}
use Rattle.index_reader.specs.Spelled.{IsBody, AreBodies}
use Rattle.block.proofs.Turns.{below}
use Rattle.labels.proofs.Texts.{text_total}
use Rattle.block_writer.specs.InUse.{texts_in, label_texts, HoldsEachOnce}
use Rattle.block_writer.specs.EntryBodies.{place_among, number_of, numbers_of, chunk_of}
use Rattle.block_writer.specs.EntryBodies.{chunks_from, chunks_of, apart, first_text, later_text}
use Rattle.block_writer.specs.EntryBodies.{later_texts, labels_text, places_text, body_of}
use Rattle.block_writer.specs.EntryBodies.{bodies_of}
use Rattle.block_writer.specs.PartRows.{has_some, is_series, are_part_rows}
use Rattle.block_writer.specs.Writing.{pieces, piece_text, series_text, chunks_text}
use Rattle.block_writer.proofs.WrittenAs.{places_from, entries_of}
use Rattle.block_writer.proofs.Giving.{in_flat}
use Rattle.block_writer.proofs.Held.{stands_there}
use Rattle.block_writer.proofs.Parted.{sorted_front, sorted_back, pass_front, pass_back}

-- ---- times

less_from : (o : Ordering) → T (is_lt o) → o ≡ Less
less_from Less h = refl
less_from Equal h = absurd h
less_from Greater h = absurd h

before_of : (a b : ℤ) → T (is_lt (int_cmp a b)) → a <ℤ b
before_of a b h = below a b (lt_of a b (less_from _ h))

below_back : (t : ℤ) (xs ys : List (ℤ × ℤ)) → T (below_all int_cmp t (xs ++ ys))
    → T (below_all int_cmp t ys)
below_back t [] ys h = h
below_back t (x ∷ xs) ys h = below_back t xs ys (second_T _ _ h)

below_front : (t : ℤ) (xs ys : List (ℤ × ℤ)) → T (below_all int_cmp t (xs ++ ys))
    → T (below_all int_cmp t xs)
below_front t [] ys h = tt
below_front t (x ∷ xs) ys h = both_T _ _ (first_T _ _ h) (below_front t xs ys (second_T _ _ h))

below_at : (t : ℤ) (ss : List (ℤ × ℤ)) (i : ℕ) → i < length ss
    → T (below_all int_cmp t ss) → t <ℤ time_at ss i
below_at t [] i lt h = absurd (omega (arith, lt))
below_at t (s ∷ ss) zero lt h = before_of t s.0 (first_T _ _ h)
below_at t (s ∷ ss) (suc i) lt h = below_at t ss i (omega (arith, lt)) (second_T _ _ h)

-- samples in front are before those behind
at_before : (xs ys : List (ℤ × ℤ)) (i : ℕ) → i < length xs → T (is_sorted int_cmp (xs ++ ys))
    → T (below_all int_cmp (time_at xs i) ys)
at_before [] ys i lt h = absurd (omega (arith, lt))
at_before (x ∷ xs) ys zero lt h = below_back x.0 xs ys (first_T _ _ h)
at_before (x ∷ xs) ys (suc i) lt h = at_before xs ys i (omega (arith, lt)) (second_T _ _ h)

upto_itself : (a : ℤ) → a ≤ℤ a
upto_itself a = omega (arith, ints)

upto_later : (a b : ℤ) → a <ℤ b → a ≤ℤ b
upto_later a b h = omega (arith, ints)

first_upto : (ss : List (ℤ × ℤ)) (i : ℕ) → i < length ss → T (is_sorted int_cmp ss)
    → time_at ss 0 ≤ℤ time_at ss i
first_upto [] i lt h = absurd (omega (arith, lt))
first_upto (s ∷ ss) zero lt h = upto_itself s.0
first_upto (s ∷ ss) (suc i) lt h =
    upto_later s.0 (time_at ss i) (below_at s.0 ss i (omega (arith, lt)) (first_T _ _ h))

not_before : (t : ℤ) → T (in_range MIN_TIME MAX_TIME t) → MIN_TIME ≤ℤ t
not_before t h = lt_z_no (first_T (not (int_lt t MIN_TIME)) (not (int_lt MAX_TIME t)) h)

not_after : (t : ℤ) → T (in_range MIN_TIME MAX_TIME t) → t ≤ℤ MAX_TIME
not_after t h = lt_z_no (second_T (not (int_lt t MIN_TIME)) (not (int_lt MAX_TIME t)) h)

time_in : (ss : List (ℤ × ℤ)) (i : ℕ) → i < length ss
    → T (list_all (λ (s : ℤ × ℤ). in_range MIN_TIME MAX_TIME s.0) ss)
    → T (in_range MIN_TIME MAX_TIME (time_at ss i))
time_in [] i lt h = absurd (omega (arith, lt))
time_in (s ∷ ss) zero lt h =
    first_T (in_range MIN_TIME MAX_TIME s.0)
    (list_all (λ (s : ℤ × ℤ). in_range MIN_TIME MAX_TIME s.0) ss) h
time_in (s ∷ ss) (suc i) lt h =
    time_in ss i (omega (arith, lt)) (second_T (in_range MIN_TIME MAX_TIME s.0)
    (list_all (λ (s : ℤ × ℤ). in_range MIN_TIME MAX_TIME s.0) ss) h)

true_from : (b : Bool) → T b → b ≡ true
true_from true h = refl
true_from false h = absurd h

not_under : (a b : ℤ) → b ≤ℤ a → T (not (int_lt a b))
not_under a b le = go (int_lt a b) (λ e. below a b e)
  where
    go : (lt : Bool) → (lt ≡ true → a <ℤ b) → T (not lt)
    go true h =
        let less : a <ℤ b = h refl in
        absurd (omega (arith, ints))
    go false h = tt

is_in_time : (t : ℤ) → MIN_TIME ≤ℤ t → t ≤ℤ MAX_TIME → is_time t ≡ true
is_in_time t low high =
    true_from (is_time t)
    (both_T (not (int_lt t MIN_TIME)) (not (int_lt MAX_TIME t))
    (not_under t MIN_TIME low) (not_under MAX_TIME t high))

-- how far apart two times are

no_less : (n : ℕ) → pos 0 ≤ℤ negsuc n → ⊥
no_less n h = absurd (omega (arith, ints))

size_is : (d : ℤ) → pos 0 ≤ℤ d → pos (unsigned_abs d) ≡ d
size_is (pos n) h = refl
size_is (negsuc n) h = absurd (no_less n h)

no_less_apart : (from to : ℤ) → from ≤ℤ to → pos 0 ≤ℤ (to -ℤ from)
no_less_apart from to h = omega (arith, ints)

apart_is : (from to : ℤ) → from ≤ℤ to → pos (apart from to) ≡ to -ℤ from
apart_is from to h = size_is (to -ℤ from) (no_less_apart from to h)

later_sum : (from to : ℤ) (n : ℕ) → pos n ≡ to -ℤ from → to ≡ from +ℤ pos n
later_sum from to n e = omega (arith, ints)

later_some : (from to : ℤ) (n : ℕ) → pos n ≡ to -ℤ from → from <ℤ to → 0 < n
later_some from to n e lt = omega (arith, ints)

later_fits : (from to : ℤ) (n : ℕ) → pos n ≡ to -ℤ from → MIN_TIME ≤ℤ from
    → to ≤ℤ MAX_TIME → n < 2 ^ 64
later_fits from to n e low high = omega (arith, ints)

further : (a b : ℕ) → pos a ≡ pos b +ℤ (pos a -ℤ pos b)
further a b = omega (arith, ints)

small_step : (z : ℤ) (a b : ℕ) → z ≡ pos a -ℤ pos b → a ≤ 0x4000_0000
    → b ≤ 0x4000_0000 → zigzag z < 2 ^ 64
small_step (pos n) a b e la lb = omega (arith, ints)
small_step (negsuc n) a b e la lb = omega (arith, ints)

-- ---- chunks

-- a chunk of times, which stands in a file of 1 GiB
pub record IsSmall (c : Chunk) : Type 0 where
  pub low : MIN_TIME ≤ℤ c.mint
  pub order : c.mint ≤ℤ c.maxt
  pub high : c.maxt ≤ℤ MAX_TIME
  pub near : c.reference ≤ 0x4000_0000

upto_all : (a b c : ℤ) → a ≤ℤ b → b ≤ℤ c → a ≤ℤ c
upto_all a b c h g = omega (arith, ints)

first_fits : (c : Chunk) → IsSmall c → IsFirst c (first_text c)
first_fits c s =
    let e : pos (apart c.mint c.maxt) ≡ c.maxt -ℤ c.mint = apart_is c.mint c.maxt s.order in
    let near : c.reference ≤ 0x4000_0000 = s.near in
    record {
      span = apart c.mint c.maxt;
      spelled = refl;
      span_fits = later_fits c.mint c.maxt (apart c.mint c.maxt) e s.low s.high;
      fits = omega (arith, near);
      ends = later_sum c.mint c.maxt (apart c.mint c.maxt) e;
      begins_in_time = is_in_time c.mint s.low (upto_all c.mint c.maxt MAX_TIME s.order s.high);
      ends_in_time = is_in_time c.maxt (upto_all MIN_TIME c.mint c.maxt s.low s.order) s.high;
    }

later_chunk_fits : (before c : Chunk) → IsSmall before → IsSmall c → before.maxt <ℤ c.mint
    → IsLater before c (later_text before c)
later_chunk_fits before c b s lt =
    let e : pos (apart c.mint c.maxt) ≡ c.maxt -ℤ c.mint = apart_is c.mint c.maxt s.order in
    let g : pos (apart before.maxt c.mint) ≡ c.mint -ℤ before.maxt =
    apart_is before.maxt c.mint (upto_later before.maxt c.mint lt) in
    let near : c.reference ≤ 0x4000_0000 = s.near in
    record {
      gap = apart before.maxt c.mint;
      span = apart c.mint c.maxt;
      step = pos c.reference -ℤ pos before.reference;
      spelled = refl;
      gap_fits =
          later_fits before.maxt c.mint (apart before.maxt c.mint) g (upto_all MIN_TIME before.mint
          before.maxt b.low b.order) (upto_all c.mint c.maxt MAX_TIME s.order s.high);
      span_fits = later_fits c.mint c.maxt (apart c.mint c.maxt) e s.low s.high;
      step_fits =
          small_step (pos c.reference -ℤ pos before.reference) c.reference
          before.reference refl near b.near;
      later = later_some before.maxt c.mint (apart before.maxt c.mint) g lt;
      begins = later_sum before.maxt c.mint (apart before.maxt c.mint) g;
      ends = later_sum c.mint c.maxt (apart c.mint c.maxt) e;
      refers = further c.reference before.reference;
      begins_in_time = is_in_time c.mint s.low (upto_all c.mint c.maxt MAX_TIME s.order s.high);
      ends_in_time = is_in_time c.maxt (upto_all MIN_TIME c.mint c.maxt s.low s.order) s.high;
      fits = omega (arith, near);
    }

-- samples strictly in the order of their times, each of which is a time
pub record AreTimed (samples : List (ℤ × ℤ)) : Type 0 where
  pub ascending : T (is_sorted int_cmp samples)
  pub times : T (list_all (λ (s : ℤ × ℤ). in_range MIN_TIME MAX_TIME s.0) samples)

timed_parts : (samples : List (ℤ × ℤ)) → AreTimed samples
    → AreTimed (take 120 samples ++ drop 120 samples)
timed_parts samples t = subst AreTimed (sym (take-append-drop 120 samples)) t

timed_front : (samples : List (ℤ × ℤ)) → AreTimed samples → AreTimed (take 120 samples)
timed_front samples t =
    let p = timed_parts samples t in
    record {
      ascending = sorted_front (take 120 samples) (drop 120 samples) p.ascending;
      times = pass_front (λ (s : ℤ × ℤ). in_range MIN_TIME MAX_TIME s.0) (take 120 samples)
          (drop 120 samples) p.times;
    }

timed_back : (samples : List (ℤ × ℤ)) → AreTimed samples → AreTimed (drop 120 samples)
timed_back samples t =
    let p = timed_parts samples t in
    record {
      ascending = sorted_back (take 120 samples) (drop 120 samples) p.ascending;
      times = pass_back (λ (s : ℤ × ℤ). in_range MIN_TIME MAX_TIME s.0) (take 120 samples)
          (drop 120 samples) p.times;
    }

front_some : (samples : List (ℤ × ℤ)) → 0 < length samples → 0 < length (take 120 samples)
front_some samples some = omega (arith, some, length-take 120 samples)

chunk_small : (at : ℕ) (samples : List (ℤ × ℤ)) → 0 < length samples → AreTimed samples
    → at ≤ 0x4000_0000 → IsSmall (chunk_of at samples)
chunk_small at samples some t near =
    let last : length samples - 1 < length samples = omega (arith, some) in
    record {
      low = not_before (time_at samples 0) (time_in samples 0 some t.times);
      order = first_upto samples (length samples - 1) last t.ascending;
      high =
          not_after (time_at samples (length samples - 1))
          (time_in samples (length samples - 1) last t.times);
      near = near;
    }

later_chunks : (n at : ℕ) (before : Chunk) (samples : List (ℤ × ℤ)) → IsSmall before
    → T (below_all int_cmp before.maxt samples) → AreTimed samples
    → at + length (flat_map piece_text (pieces n samples)) ≤ 0x4000_0000
    → AreLater before (chunks_from at (pieces n samples))
    (later_texts before (chunks_from at (pieces n samples)))
unfolding pieces chunks_from later_texts
later_chunks zero at before [] small above timed short = refl
later_chunks (suc n) at before [] small above timed short = refl
later_chunks zero at before (s ∷ ss) small above timed short = refl
later_chunks (suc n) at before (s ∷ ss) small above timed short =
    let front : List (ℤ × ℤ) = take 120 (s ∷ ss) in
    let back : List (ℤ × ℤ) = drop 120 (s ∷ ss) in
    let c : Chunk = chunk_of at front in
    let next : ℕ = at + length (piece_text front) in
    let some : 0 < length front = front_some (s ∷ ss) (omega arith) in
    let size : length (piece_text front ++ flat_map piece_text (pieces n back))
    ≡ length (piece_text front) + length (flat_map piece_text (pieces n back)) =
    length-append (piece_text front) (flat_map piece_text (pieces n back)) in
    let parted : T (below_all int_cmp before.maxt (front ++ back)) =
    subst (λ (xs : List (ℤ × ℤ)). T (below_all int_cmp before.maxt xs))
    (sym (take-append-drop 120 (s ∷ ss))) above in
    let gap : before.maxt <ℤ time_at front 0 =
    below_at before.maxt front 0 some (below_front before.maxt front back parted) in
    let here : IsSmall c =
    chunk_small at front some (timed_front (s ∷ ss) timed) (omega (arith, short)) in
    let behind : T (below_all int_cmp c.maxt back) =
    at_before front back (length front - 1) (omega (arith, some))
    (timed_parts (s ∷ ss) timed).ascending in (
      later_text before c,
      later_texts c (chunks_from next (pieces n back)),
      refl,
      later_chunk_fits before c small here gap,
      later_chunks n next c back here behind (timed_back (s ∷ ss) timed)
          (omega (arith, short, size)),
    )

pub chunks_fit : (at : ℕ) (samples : List (ℤ × ℤ)) → 0 < length samples → AreTimed samples
    → at + length (series_text samples) ≤ 0x4000_0000
    → AreChunks (chunks_of at samples) (places_text (chunks_of at samples))
unfolding pieces chunks_from
chunks_fit at [] some timed short = absurd (omega (arith, some))
chunks_fit at (s ∷ ss) some timed short =
    let n : ℕ = length ss in
    let front : List (ℤ × ℤ) = take 120 (s ∷ ss) in
    let back : List (ℤ × ℤ) = drop 120 (s ∷ ss) in
    let c : Chunk = chunk_of at front in
    let next : ℕ = at + length (piece_text front) in
    let cs : List Chunk = chunks_from next (pieces n back) in
    let full : 0 < length front = front_some (s ∷ ss) (omega arith) in
    let size : length (piece_text front ++ flat_map piece_text (pieces n back))
    ≡ length (piece_text front) + length (flat_map piece_text (pieces n back)) =
    length-append (piece_text front) (flat_map piece_text (pieces n back)) in
    let here : IsSmall c =
    chunk_small at front full (timed_front (s ∷ ss) timed) (omega (arith, short)) in
    let behind : T (below_all int_cmp c.maxt back) =
    at_before front back (length front - 1) (omega (arith, full))
    (timed_parts (s ∷ ss) timed).ascending in
    let count : suc (length cs) ≡ length cs + 1 = omega arith in (
      first_text c,
      later_texts c cs,
      ap (λ (k : ℕ). uvarint k ++ (first_text c ++ later_texts c cs)) count,
      first_fits c here,
      later_chunks n next c back here behind (timed_back (s ∷ ss) timed)
          (omega (arith, short, size)),
    )

-- ---- labels

place_grows : {X : Type 0} (cmp : X → X → Ordering) → IsTotalOrder cmp → (ys : List X) (a b : X)
    → cmp a b ≡ Less → place_among cmp ys a ≤ place_among cmp ys b
unfolding place_among
place_grows cmp o [] a b lt = omega arith
place_grows cmp o (y ∷ ys) a b lt =
    let others : place_among cmp ys a ≤ place_among cmp ys b = place_grows cmp o ys a b lt in
    elim (is_lt (cmp y a))
    as (λ p. is_lt (cmp y a) ≡ p → (if p then suc (place_among cmp ys a) else place_among cmp ys a)
    ≤ (if is_lt (cmp y b) then suc (place_among cmp ys b) else place_among cmp ys b)) [
      | true ↦ λ e.
          let below : is_lt (cmp y b) ≡ true =
          ap is_lt (o.trans y a b (less_from (cmp y a) (T_of _ e)) lt) in
          rw below (omega (arith, others))
      | false ↦
          λ e. elim (is_lt (cmp y b)) as (λ q. place_among cmp ys a
          ≤ (if q then suc (place_among cmp ys b) else place_among cmp ys b)) [
            | true ↦ omega (arith, others)
            | false ↦ others
          ]
    ] refl

place_rises : {X : Type 0} (cmp : X → X → Ordering) → IsTotalOrder cmp
    → (ys : List X) (a b : X) (i : ℕ) → i < length ys → get_or ys i a ≡ a → cmp a b ≡ Less
    → place_among cmp ys a < place_among cmp ys b
unfolding place_among
place_rises cmp o [] a b i lt is less = absurd (omega (arith, lt))
place_rises cmp o (y ∷ ys) a b zero lt is less =
    let itself : is_lt (cmp y a) ≡ false =
    ap (λ z. is_lt (cmp z a)) is ∙ ap is_lt (tied_itself o a) in
    let below : is_lt (cmp y b) ≡ true = ap (λ z. is_lt (cmp z b)) is ∙ ap is_lt less in
    let others : place_among cmp ys a ≤ place_among cmp ys b = place_grows cmp o ys a b less in
    rw (itself, below) (omega (arith, others))
place_rises cmp o (y ∷ ys) a b (suc i) lt is less =
    let others : place_among cmp ys a < place_among cmp ys b =
    place_rises cmp o ys a b i (omega (arith, lt)) is less in
    elim (is_lt (cmp y a))
    as (λ p. is_lt (cmp y a) ≡ p → (if p then suc (place_among cmp ys a) else place_among cmp ys a)
    < (if is_lt (cmp y b) then suc (place_among cmp ys b) else place_among cmp ys b)) [
      | true ↦ λ e.
          let below : is_lt (cmp y b) ≡ true =
          ap is_lt (o.trans y a b (less_from (cmp y a) (T_of _ e)) less) in
          rw below (omega (arith, others))
      | false ↦
          λ e. elim (is_lt (cmp y b)) as (λ q. place_among cmp ys a
          < (if q then suc (place_among cmp ys b) else place_among cmp ys b)) [
            | true ↦ omega (arith, others)
            | false ↦ others
          ]
    ] refl

-- the first of the names stands at this place or behind it
abbrev FirstFrom : List (List ℕ) → ℕ → Labels → Type 0
FirstFrom symbols low [] = Unit {0}
FirstFrom symbols low (q ∷ qs) = low ≤ number_of symbols q.0

-- the texts of labels are symbols
abbrev pub AreHeld : List (List ℕ) → Labels → Type 0
AreHeld symbols labels =
    (q : List ℕ × List ℕ) → Contains labels q → Contains symbols q.0 × Contains symbols q.1

behind_first : {X : Type 0} (y : X) (xs : List X) (x : X) → Contains xs x → Contains (y ∷ xs) x
behind_first y xs x h = (suc h.0, omega (arith, h.1), h.2)

by_name_behind : (q : List ℕ × List ℕ) (qs : Labels) → IsByName (q ∷ qs) → IsByName qs
by_name_behind q qs h k d lt =
    let e : suc (k + 1) ≡ suc k + 1 = omega arith in
    subst (λ j. text_cmp (get_or qs k d).0 (get_or (q ∷ qs) j d).0 ≡ Less) (sym e)
    (h (suc k) d (omega (arith, lt)))

full_text : (v : List ℕ) → v ≢ [] → 0 < length v
full_text [] full = absurd (full refl)
full_text (x ∷ v) full = omega arith

next_from : (symbols : List (List ℕ)) (q : List ℕ × List ℕ) (qs : Labels) → Contains symbols q.0
    → IsByName (q ∷ qs) → FirstFrom symbols (number_of symbols q.0 + 1) qs
next_from symbols q [] held h = tt
next_from symbols q (p ∷ qs) held h =
    let less : text_cmp q.0 p.0 ≡ Less = h 0 q (omega arith) in
    let rises : number_of symbols q.0 < number_of symbols p.0 =
    place_rises text_cmp text_total symbols q.0 p.0 held.0 held.1 held.2 less in
    omega (arith, rises)

labels_fit : (symbols : List (List ℕ)) (low : ℕ) (labels : Labels)
    → IsStrictlySortedBy text_cmp symbols → AreHeld symbols labels → FirstFrom symbols low labels
    → IsByName labels → All (λ pair. IsTrue (is_name pair.0)) labels
    → All (λ pair. pair.1 ≢ []) labels
    → AreLabels symbols low (map (numbers_of symbols) labels)
labels_fit symbols low [] up held first by_name named valued = tt
labels_fit symbols low (q ∷ qs) up held first by_name named valued =
    let texts : Contains symbols q.0 × Contains symbols q.1 = held q (0, omega arith, refl) in
    let name = stands_there text_cmp text_total symbols q.0 [] up texts.0 in
    let value = stands_there text_cmp text_total symbols q.1 [] up texts.1 in (
      record {
        from = first;
        name_in = name.0;
        value_in = value.0;
        name = ap is_name name.1 ∙ All-head (λ pair. IsTrue (is_name pair.0)) q qs named;
        value =
            subst (λ v. 0 < length v) (sym value.1)
            (full_text q.1 (All-head (λ pair. pair.1 ≢ []) q qs valued));
      },
      labels_fit symbols (number_of symbols q.0 + 1) qs up (λ p h. held p (behind_first q qs p h))
          (next_from symbols q qs texts.0 by_name) (by_name_behind q qs by_name)
          (All-tail (λ pair. IsTrue (is_name pair.0)) q qs named)
          (All-tail (λ pair. pair.1 ≢ []) q qs valued),
    )

from_start : (symbols : List (List ℕ)) (labels : Labels) → FirstFrom symbols 0 labels
from_start symbols [] = tt
from_start symbols (q ∷ qs) = omega arith

-- ---- bodies

-- a row of these symbols, with samples in the order of their times
pub record IsReadyRow (symbols : List (List ℕ)) (row : Row) : Type 0 where
  pub set : IsLabelSet row.0
  pub held : AreHeld symbols row.0
  pub some : 0 < length row.1
  pub timed : AreTimed row.1

labels_spelled : (symbols : List (List ℕ)) (labels : Labels)
    → labels_text symbols labels ≡ uvarint (length (map (numbers_of symbols) labels))
    ++ flat_map label_text (map (numbers_of symbols) labels)
labels_spelled symbols labels =
    let count : length labels ≡ length (map (numbers_of symbols) labels) =
    sym (length-map labels (numbers_of symbols)) in
    let texts : flat_map (λ p. label_text (numbers_of symbols p)) labels
    ≡ flat_map label_text (map (numbers_of symbols) labels) =
    sym (flat_map-map label_text (numbers_of symbols) labels) in
    λ i. uvarint (count i) ++ texts i

pub body_fits : (symbols : List (List ℕ)) (at : ℕ) (row : Row) → IsStrictlySortedBy text_cmp symbols
    → IsReadyRow symbols row → at + length (series_text row.1) ≤ 0x4000_0000
    → IsBody symbols (record {
      labels = map (numbers_of symbols) row.0;
      chunks = chunks_of at row.1;
    }) (body_of symbols at row)
unfolding body_of
body_fits symbols at row up ready short = record {
  chunks_text = places_text (chunks_of at row.1);
  spelled = ap (λ xs. xs ++ places_text (chunks_of at row.1)) (labels_spelled symbols row.0);
  labels =
      labels_fit symbols 0 row.0 up ready.held (from_start symbols row.0) ready.set.by_name
      ready.set.named ready.set.valued;
  chunks = chunks_fit at row.1 ready.some ready.timed short;
}

pub bodies_fit : (symbols : List (List ℕ)) (at place : ℕ) (rows : List Row)
    → IsStrictlySortedBy text_cmp symbols → AllByRecursion (IsReadyRow symbols) rows
    → place + length (flat_map (λ (row : Row). series_text row.1) rows) ≤ 0x4000_0000
    → AreBodies symbols (places_from at (bodies_of symbols place rows))
    (entries_of symbols place rows)
unfolding bodies_of places_from entries_of
bodies_fit symbols at place [] up ready short = tt
bodies_fit symbols at place (row ∷ rows) up ready short =
    let size : length (flat_map (λ (row : Row). series_text row.1) (row ∷ rows))
    ≡ length (series_text row.1) + length (flat_map (λ (row : Row). series_text row.1) rows) =
    length-append (series_text row.1) (flat_map (λ (row : Row). series_text row.1) rows) in (
      body_fits symbols place row up ready.0 (omega (arith, short, size)),
      bodies_fit symbols (rounded at + length (entry (body_of symbols place row)))
          (place + length (series_text row.1)) rows up ready.1 (omega (arith, short, size)),
    )

-- ---- rows that a part may have

-- times of samples within the times
abbrev pub AreInTime : Row → Type 0
AreInTime row = T (list_all (λ (s : ℤ × ℤ). in_range MIN_TIME MAX_TIME s.0) row.1)

some_samples : (ss : List (ℤ × ℤ)) → T (has_some ss) → 0 < length ss
some_samples [] h = absurd h
some_samples (s ∷ ss) h = omega arith

texts_here : (labels : Labels) (q : List ℕ × List ℕ) → Contains labels q
    → Contains (label_texts labels) q.0 × Contains (label_texts labels) q.1
texts_here labels q h = (
  in_flat (λ (p : List ℕ × List ℕ). p.0 ∷ p.1 ∷ []) labels h.0 q q.0 h.1 h.2 (0, omega arith, refl),
  in_flat (λ (p : List ℕ × List ℕ). p.0 ∷ p.1 ∷ []) labels h.0 q q.1 h.1 h.2 (1, omega arith, refl),
)

ready_at : (symbols : List (List ℕ)) (rows : List Row)
    → ((x : List ℕ) → Contains (texts_in rows) x → Contains symbols x) → T (list_all is_series rows)
    → AllByRecursion (λ (row : Row). IsLabelSet row.0) rows → AllByRecursion AreInTime rows
    → AllByRecursion (IsReadyRow symbols) rows
ready_at symbols [] held full sets times = tt
ready_at symbols (row ∷ rows) held full sets times =
    let here : T (is_series row) = first_T (is_series row) (list_all is_series rows) full in (
      record {
        set = sets.0;
        held = λ q h.
            let t = texts_here row.0 q h in (
              held q.0 (Contains-append_left (label_texts row.0) (texts_in rows) q.0 t.0),
              held q.1 (Contains-append_left (label_texts row.0) (texts_in rows) q.1 t.1),
            );
        some = some_samples row.1 (first_T (has_some row.1) (is_sorted int_cmp row.1) here);
        timed = record {
          ascending = second_T (has_some row.1) (is_sorted int_cmp row.1) here;
          times = times.0;
        };
      },
      ready_at symbols rows
          (λ x h. held x (Contains-append_right (label_texts row.0) (texts_in rows) x h))
          (second_T (is_series row) (list_all is_series rows) full) sets.1 times.1,
    )

pub rows_ready : (symbols : List (List ℕ)) (rows : List Row) → IsTrue (are_part_rows rows)
    → HoldsEachOnce text_cmp (texts_in rows) symbols
    → AllByRecursion (λ (row : Row). IsLabelSet row.0) rows → AllByRecursion AreInTime rows
    → AllByRecursion (IsReadyRow symbols) rows
rows_ready symbols rows part held sets times =
    ready_at symbols rows held.held (second_T (is_sorted labels_cmp rows) (list_all is_series rows)
    (T_of (are_part_rows rows) part)) sets times

-- the bodies of all rows
pub written_bodies : (symbols : List (List ℕ)) (at : ℕ) (rows : List Row)
    → IsTrue (are_part_rows rows) → HoldsEachOnce text_cmp (texts_in rows) symbols
    → AllByRecursion (λ (row : Row). IsLabelSet row.0) rows → AllByRecursion AreInTime rows
    → length (chunks_text rows) ≤ 0x4000_0000
    → AreBodies symbols (places_from at (bodies_of symbols 8 rows)) (entries_of symbols 8 rows)
written_bodies symbols at rows part held sets times short =
    bodies_fit symbols at 8 rows held.ascending (rows_ready symbols rows part held sets times)
    (omega (arith, short))
