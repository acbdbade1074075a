-- Loops that read one thing after another.
use Rattle.std.proofs.Common.{◌≡◌, ℕ, zero, suc, ◌-◌, ◌+◌, ◌≤◌, ◌<◌, Bool, true, false, cond, ltb, eqb, List, [], ◌∷◌, ◌++◌, length, take, drop, Result, Ok, Err, refl, sym, ap, ◌∙◌, inl, inr, append_assoc, arith}
use Rattle.std.specs.Prelude.{slice_range}
use Rattle.std.proofs.lemmas.Bool.{lt-ltb, le-ltb, ltb-false}
use Rattle.std.proofs.lemmas.List.{append-nil, length-drop, length-take}
use Rattle.byteorder.specs.Endian.{big_number}
use Rattle.wire.specs.Checksum.{crc32c}
use Rattle.wire.specs.declared.error.WireError.TheVariants.{Short}
use Rattle.wire.specs.Reading.{number_at, bytes_at, uvarint_at}
use Rattle.wire.proofs.Steps.{bind_ok, refused_ok, chain, fails_on}
use Rattle.wire.proofs.KnownReads.{chosen}
use Rattle.wire.proofs.Laws.{uvarint_shorter}
use Rattle.block_walk.specs.declared.error.WalkError.{WalkError}
use Rattle.block_walk.specs.declared.error.WalkError.TheVariants.{SeriesCrc}
use Rattle.block_walk.specs.IndexFile.Outcome.{is_memory, Fails}
use Rattle.block_walk.specs.IndexFile.Layout.{SeriesEntry, rounded}
use Rattle.block_walk.specs.IndexFile.Reading.{checked_at, symbol_at, symbols_from, entry_at, entries_from}
use Rattle.wire.specs.Outcome.{◌>>=◌, or_refused}

-- a test that did not fail
pub guard_ok : {A E : Type 0} (b : Bool) (d : E) (x y : A) → cond b (Err d) (Ok x) ≡ Ok y
    → (b ≡ false) × (x ≡ y)
guard_ok true d x y e = absurd cc
guard_ok false d x y e = (refl, cc)

pub guard_ended : {A E : Type 0} (b : Bool) (d : E) (x y : A) → cond b (Ok x) (Err d) ≡ Ok y
    → (b ≡ true) × (x ≡ y)
guard_ended true d x y e = (refl, cc)
guard_ended false d x y e = absurd cc

-- what was read before, and what is still read
abbrev pub with_front : List (List ℕ) → Result (List (List ℕ) × List ℕ) WalkError
    → Result (List (List ℕ) × List ℕ) WalkError
with_front front read = read >>= λ x. Ok (front ++ x.0, x.1)

abbrev pub with_places : List SeriesEntry → Result (List SeriesEntry) WalkError → Result (List SeriesEntry) WalkError
with_places front read = read >>= λ x. Ok (front ++ x)

regroup : (front : List (List ℕ)) (s : List ℕ) (read : Result (List (List ℕ) × List ℕ) WalkError)
    → with_front front (read >>= λ x. Ok (s ∷ x.0, x.1)) ≡ with_front (front ++ s ∷ []) read
regroup front s (Ok x) = ap (λ (ns : List (List ℕ)). Ok (ns, x.1)) (simp append_assoc)
regroup front s (Err f) = refl

pub goes_on : (front : List (List ℕ)) (count i : ℕ) (bytes s after : List ℕ)
    (total : Result (List (List ℕ) × List ℕ) WalkError) → i < count
    → symbol_at bytes ≡ Ok (s, after)
    → with_front front (symbols_from (count - i) bytes) ≡ total
    → with_front (front ++ s ∷ []) (symbols_from (count - (i + 1)) after) ≡ total
unfolding symbols_from
goes_on front count i bytes s after total lt h so_far =
    let k : count - i ≡ suc (count - (i + 1)) = omega arith in
    let one : with_front front (symbols_from (count - i) bytes)
    ≡ with_front (front ++ s ∷ []) (symbols_from (count - (i + 1)) after) =
    rw (k, h) (regroup front s (symbols_from (count - (i + 1)) after)) in
    sym one ∙ so_far

pub ends : (e : WalkError) (front : List (List ℕ)) (count i : ℕ) (bytes : List ℕ)
    (total : Result (List (List ℕ) × List ℕ) WalkError) → i < count → Fails e (symbol_at bytes)
    → with_front front (symbols_from (count - i) bytes) ≡ total → Fails e total
unfolding symbols_from
ends e front count i bytes total lt h so_far =
    let k : count - i ≡ suc (count - (i + 1)) = omega arith in
    let others =
    λ (first : List ℕ × List ℕ).
    symbols_from (count - (i + 1)) first.1 >>= λ others. Ok (first.0 ∷ others.0, others.1) in
    let last : List (List ℕ) × List ℕ → Result (List (List ℕ) × List ℕ) WalkError =
    λ x. Ok (front ++ x.0, x.1) in
    let one : (symbol_at bytes >>= λ first. (others first >>= last))
    ≡ with_front front (symbols_from (count - i) bytes) =
    rw k (chain (symbol_at bytes) others last) in
    fails_on is_memory e (symbol_at bytes) (λ first. others first >>= last) total (one ∙ so_far) h

pub is_done : (front : List (List ℕ)) (count i : ℕ) (bytes : List ℕ)
    (total : Result (List (List ℕ) × List ℕ) WalkError) → count ≤ i
    → with_front front (symbols_from (count - i) bytes) ≡ total → total ≡ Ok (front, bytes)
unfolding symbols_from
is_done front count i bytes total le so_far =
    let k : count - i ≡ 0 = omega arith in
    let one : with_front front (symbols_from (count - i) bytes) ≡ Ok (front, bytes) =
    rw k (ap (λ (ns : List (List ℕ)). Ok (ns, bytes)) (append-nil front)) in
    sym so_far ∙ one

-- ---- the walk

number_shorter : (n : ℕ) (bytes : List ℕ) (x : ℕ × List ℕ) → number_at n bytes ≡ Ok x
    → length x.1 + n ≡ length bytes
number_shorter n bytes x h =
    elim (chosen (ltb (length bytes) n) _ _ _ h) [
      | inl t ↦ absurd (let f = t.1 in cc)
      | inr t ↦
          let made : ℕ × List ℕ = (big_number n bytes, drop n bytes) in
          let same : made ≡ x = (guard_ok (ltb (length bytes) n) Short made x h).1 in
          let e1 : length (drop n bytes) ≡ length x.1 = ap (λ (p : ℕ × List ℕ). length p.1) same in
          omega (arith, e1, length-drop n bytes, ltb-false _ _ t.0)
    ]

bytes_shorter : (n : ℕ) (bytes : List ℕ) (x : List ℕ × List ℕ) → bytes_at n bytes ≡ Ok x
    → length x.1 + n ≡ length bytes
bytes_shorter n bytes x h =
    elim (chosen (ltb (length bytes) n) _ _ _ h) [
      | inl t ↦ absurd (let f = t.1 in cc)
      | inr t ↦
          let made : List ℕ × List ℕ = (take n bytes, drop n bytes) in
          let same : made ≡ x = (guard_ok (ltb (length bytes) n) Short made x h).1 in
          let e1 : length (drop n bytes) ≡ length x.1 =
          ap (λ (p : List ℕ × List ℕ). length p.1) same in
          omega (arith, e1, length-drop n bytes, ltb-false _ _ t.0)
    ]

-- an entry takes at least its checksum
checked_shorter : (e : WalkError) (len : ℕ × List ℕ) (x : List ℕ × List ℕ) → checked_at e len ≡ Ok x
    → length x.1 + 4 ≤ length len.1
checked_shorter e len x h =
    let a = bind_ok (or_refused e (bytes_at len.0 len.1)) _ x h in
    let b = bind_ok (or_refused e (number_at 4 a.0.1)) _ x a.2 in
    let content = bytes_shorter len.0 len.1 a.0 (refused_ok e (bytes_at len.0 len.1) a.0 a.1) in
    let sum = number_shorter 4 a.0.1 b.0 (refused_ok e (number_at 4 a.0.1) b.0 b.1) in
    let made : List ℕ × List ℕ = (a.0.0, b.0.1) in
    let same : made ≡ x = (guard_ended (eqb b.0.0 (crc32c a.0.0)) e made x b.2).1 in
    let e1 : length b.0.1 ≡ length x.1 = ap (λ (p : List ℕ × List ℕ). length p.1) same in
    omega (arith, content, sum, e1)

pub entry_shorter : (bytes : List ℕ) (x : List ℕ × List ℕ) → entry_at bytes ≡ Ok x
    → length x.1 < length bytes
unfolding entry_at
entry_shorter bytes x h =
    let a = bind_ok (or_refused SeriesCrc (uvarint_at bytes)) _ x h in
    let b = checked_shorter SeriesCrc a.0 x a.2 in
    omega (arith, b, uvarint_shorter bytes a.0 (refused_ok SeriesCrc (uvarint_at bytes) a.0 a.1))

regroup_places : (front : List SeriesEntry) (p : SeriesEntry) (read : Result (List SeriesEntry) WalkError)
    → with_places front (read >>= λ x. Ok (p ∷ x)) ≡ with_places (front ++ p ∷ []) read
regroup_places front p (Ok x) = ap (λ (ps : List SeriesEntry). Ok ps) (simp append_assoc)
regroup_places front p (Err f) = refl

pub walk_on : (n : ℕ) (front : List SeriesEntry) (file : List ℕ) (end at : ℕ) (body after : List ℕ)
    (total : Result (List SeriesEntry) WalkError) → at < end → end - at ≤ n
    → entry_at (slice_range file at end) ≡ Ok (body, after)
    → with_places front (entries_from n file end at) ≡ total
    → (m : ℕ) × (suc m ≡ n) × (with_places (front ++ (record {
      offset = at;
      body = body;
      end = end - length after;
    }) ∷ []) (entries_from m file end (rounded (end - length after))) ≡ total)
unfolding entries_from
walk_on zero front file end at body after total lt le h so_far = absurd (omega arith)
walk_on (suc m) front file end at body after total lt le h so_far =
    let p : SeriesEntry = record { offset = at; body = body; end = end - length after } in
    let one : with_places front (entries_from (suc m) file end at)
    ≡ with_places (front ++ p ∷ []) (entries_from m file end (rounded (end - length after))) =
    rw (lt-ltb at end lt, h)
    (regroup_places front p (entries_from m file end (rounded (end - length after)))) in
    (m, refl, sym one ∙ so_far)

pub walk_fails : (e : WalkError) (n : ℕ) (front : List SeriesEntry) (file : List ℕ) (end at : ℕ)
    (total : Result (List SeriesEntry) WalkError) → at < end → end - at ≤ n
    → Fails e (entry_at (slice_range file at end))
    → with_places front (entries_from n file end at) ≡ total → Fails e total
unfolding entries_from
walk_fails e zero front file end at total lt le h so_far = absurd (omega arith)
walk_fails e (suc m) front file end at total lt le h so_far =
    let others =
    λ (entry : List ℕ × List ℕ).
    entries_from m file end (rounded (end - length entry.1)) >>= λ (ps : List SeriesEntry).
    Ok ((record { offset = at; body = entry.0; end = end - length entry.1 }) ∷ ps) in
    let last : List SeriesEntry → Result (List SeriesEntry) WalkError = λ x. Ok (front ++ x) in
    let one : (entry_at (slice_range file at end) >>= λ entry. (others entry >>= last))
    ≡ with_places front (entries_from (suc m) file end at) =
    rw (lt-ltb at end lt) (chain (entry_at (slice_range file at end)) others last) in
    fails_on is_memory e (entry_at (slice_range file at end)) (λ entry. others entry >>= last)
    total (one ∙ so_far) h

pub walk_done : (n : ℕ) (front : List SeriesEntry) (file : List ℕ) (end at : ℕ)
    (total : Result (List SeriesEntry) WalkError) → end ≤ at
    → with_places front (entries_from n file end at) ≡ total → total ≡ Ok front
unfolding entries_from
walk_done zero front file end at total le so_far =
    sym so_far ∙ ap (λ (ps : List SeriesEntry). Ok ps) (append-nil front)
walk_done (suc n) front file end at total le so_far =
    let one : with_places front (entries_from (suc n) file end at) ≡ Ok front =
    rw (le-ltb at end le) (ap (λ (ps : List SeriesEntry). Ok ps) (append-nil front)) in
    sym so_far ∙ one

-- the next entry stands after this one, and what it needs of numbers
pub after_entry : (file : List ℕ) (end at : ℕ) (x : List ℕ × List ℕ) → at < end → end ≤ length file
    → entry_at (slice_range file at end) ≡ Ok x
    → (length x.1 ≤ end) × (end - rounded (end - length x.1) < end - at)
after_entry file end at x lt le h =
    let s = entry_shorter (slice_range file at end) x h in
    let n : length (slice_range file at end) ≡ end - at =
    omega (arith, length-take (end - at) (drop at file), length-drop at file) in
    (omega (arith, s, n), omega (arith, s, n))

pub with_places_nil : (r : Result (List SeriesEntry) WalkError) → with_places [] r ≡ r
with_places_nil (Ok x) = refl
with_places_nil (Err e) = refl
