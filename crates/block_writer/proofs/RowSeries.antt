-- The rows of a written index as the series that it holds.
use Rattle.std.proofs.Common.{◌≡◌, ℕ, zero, suc, ◌+◌, ◌/◌, ◌<◌, ◌≤◌, true, false, List, [], ◌∷◌}
use Rattle.std.proofs.Common.{◌++◌, length, get_or, refl, sym, ap, subst, length-append, arith}
use Rattle.std.specs.Prelude.{map, filter, slice_index, if◌then◌else◌}
use Rattle.std.specs.List.{Contains}
use Rattle.std.specs.List.Sorted.{IsStrictlySortedBy, IsStrictlyIncreasing}
use Rattle.labels.specs.Labels.{text_cmp, Labels}
use Rattle.labels.specs.Parts.{carries}
use Rattle.labels.specs.Rows.{Row}
use Rattle.index_reader.specs.Layout.{rounded}
use Rattle.index_reader.specs.Grammar.{entry}
use Rattle.index_reader.specs.Indexes.{Series, references, references_with, label_sets, named}
use Rattle.index_reader.specs.Indexes.{series_of}
use Rattle.index_reader.specs.Spelled.{lists_for}
use Rattle.labels.proofs.Texts.{text_total}
use Rattle.block_writer.specs.EntryBodies.{numbers_of, number_of, chunks_of, body_of, bodies_of}
use Rattle.block_writer.specs.IndexText.{carriers, lists_of, references_from, with_entries, padded}
use Rattle.block_writer.specs.Writing.{series_text}
use Rattle.block_writer.proofs.WrittenAs.{places_from, entries_of, series_from}
use Rattle.block_writer.proofs.Held.{stands_there, Contains-cons}
use Rattle.block_writer.proofs.Building.{grows, padded_long}
use Rattle.block_writer.proofs.LaidOut.{entry_some}

-- what each pair lists
pub carriers_are : (name value : List ℕ) (rows : List Row) (refs : List ℕ) (at : ℕ)
    → carriers name value rows refs ≡ references_with name value (series_from at refs rows)
unfolding carriers series_from
carriers_are name value [] refs at = refl
carriers_are name value (row ∷ rows) [] at = refl
carriers_are name value (row ∷ rows) (r ∷ refs) at =
    let next : List Series = series_from (at + length (series_text row.1)) refs rows in
    let here : Series = record { reference = r; labels = row.0; chunks = chunks_of at row.1 } in
    let others : carriers name value rows refs ≡ references_with name value next =
    carriers_are name value rows refs (at + length (series_text row.1)) in
    elim (carries name value row.0)
    as (λ b. (if b then r ∷ carriers name value rows refs else carriers name value rows refs)
    ≡ references (if b then here ∷ filter (λ (s : Series). carries name value s.labels) next
    else filter (λ (s : Series). carries name value s.labels) next))
    [ true ↦ ap (λ xs. r ∷ xs) others | false ↦ others ]

pub lists_are : (pairs : List (List ℕ × List ℕ)) (rows : List Row) (refs : List ℕ) (at : ℕ)
    → lists_of pairs rows refs ≡ lists_for pairs (series_from at refs rows)
lists_are [] rows refs at = refl
lists_are (p ∷ pairs) rows refs at =
    λ i. carriers_are p.0 p.1 rows refs at i ∷ lists_are pairs rows refs at i

-- the references and the label sets of the series
pub references_are : (rows : List Row) (refs : List ℕ) (at : ℕ) → length refs ≡ length rows
    → references (series_from at refs rows) ≡ refs
unfolding series_from
references_are [] [] at long = refl
references_are [] (r ∷ refs) at long = absurd (omega (arith, long))
references_are (row ∷ rows) [] at long = absurd (omega (arith, long))
references_are (row ∷ rows) (r ∷ refs) at long =
    ap (λ xs. r ∷ xs)
    (references_are rows refs (at + length (series_text row.1)) (omega (arith, long)))

pub sets_are : (rows : List Row) (refs : List ℕ) (at : ℕ) → length refs ≡ length rows
    → label_sets (series_from at refs rows) ≡ map (λ (row : Row). row.0) rows
unfolding series_from
sets_are [] [] at long = refl
sets_are [] (r ∷ refs) at long = absurd (omega (arith, long))
sets_are (row ∷ rows) [] at long = absurd (omega (arith, long))
sets_are (row ∷ rows) (r ∷ refs) at long =
    ap (λ xs. row.0 ∷ xs)
    (sets_are rows refs (at + length (series_text row.1)) (omega (arith, long)))

-- labels by their symbols are the labels
pub labels_back : (symbols : List (List ℕ)) (labels : Labels) → IsStrictlySortedBy text_cmp symbols
    → ((q : List ℕ × List ℕ) → Contains labels q → Contains symbols q.0 × Contains symbols q.1)
    → named symbols (map (numbers_of symbols) labels) ≡ labels
labels_back symbols [] up held = refl
labels_back symbols (q ∷ labels) up held =
    let both = held q (0, omega arith, refl) in
    let name : get_or symbols (number_of symbols q.0) [] ≡ q.0 =
    (stands_there text_cmp text_total symbols q.0 [] up both.0).1 in
    let value : get_or symbols (number_of symbols q.1) [] ≡ q.1 =
    (stands_there text_cmp text_total symbols q.1 [] up both.1).1 in
    let others = labels_back symbols labels up (λ p h. held p (Contains-cons q labels p h)) in
    λ i. (name i, value i) ∷ others i

-- the entries are those of the series
pub series_are : (symbols : List (List ℕ)) (rows : List Row) (at place : ℕ)
    → IsStrictlySortedBy text_cmp symbols → ((row : Row) (q : List ℕ × List ℕ) → Contains rows row
    → Contains row.0 q → Contains symbols q.0 × Contains symbols q.1)
    → series_from place (references_from at (bodies_of symbols place rows)) rows ≡ series_of symbols
    (places_from at (bodies_of symbols place rows)) (entries_of symbols place rows)
unfolding series_from references_from bodies_of places_from entries_of series_of
series_are symbols [] at place up held = refl
series_are symbols (row ∷ rows) at place up held =
    let same = labels_back symbols row.0 up (λ q h. held row q (0, omega arith, refl) h) in
    let others =
    series_are symbols rows (rounded at + length (entry (body_of symbols place row)))
    (place + length (series_text row.1)) up (λ r q h. held r q (Contains-cons row rows r h)) in
    λ i. record {
      reference = rounded at / 16;
      labels = sym same i;
      chunks = chunks_of place row.1;
    } ∷ others i

-- references ascend
next_greater : (at n : ℕ) → 0 < n → rounded at / 16 < rounded (rounded at + n) / 16
next_greater at n some = omega arith

rise_at : (bodies : List (List ℕ)) (at k : ℕ) → suc k < length (references_from at bodies)
    → slice_index (references_from at bodies) k < slice_index (references_from at bodies) (suc k)
unfolding references_from
rise_at [] at k lt = absurd (omega (arith, lt))
rise_at (b ∷ []) at k lt = absurd (omega (arith, lt))
rise_at (b ∷ c ∷ bodies) at zero lt = next_greater at (length (entry b)) (entry_some b)
rise_at (b ∷ c ∷ bodies) at (suc k) lt =
    rise_at (c ∷ bodies) (rounded at + length (entry b)) k (omega (arith, lt))

pub references_rise : (bodies : List (List ℕ)) (at : ℕ)
    → IsStrictlyIncreasing (references_from at bodies)
references_rise bodies at k lt =
    let e : k + 1 ≡ suc k = omega arith in rw e (rise_at bodies at k (omega (arith, lt)))

-- and each is within the file
pub references_small : (bodies : List (List ℕ)) (front : List ℕ) (k : ℕ)
    → k < length (references_from (length front) bodies)
    → get_or (references_from (length front) bodies) k 0 ≤ length (with_entries front bodies)
unfolding references_from with_entries
references_small [] front k lt = absurd (omega (arith, lt))
references_small (b ∷ bodies) front zero lt =
    let next : List ℕ = padded front ++ entry b in
    let more : length next ≤ length (with_entries next bodies) = grows bodies next in
    omega (arith, more, length-append (padded front) (entry b), padded_long front)
references_small (b ∷ bodies) front (suc k) lt =
    let next : List ℕ = padded front ++ entry b in
    let long : length next ≡ rounded (length front) + length (entry b) =
    omega (arith, padded_long front, length-append (padded front) (entry b)) in
    let lt' : k < length (references_from (rounded (length front) + length (entry b)) bodies) =
    omega (arith, lt) in
    subst (λ n. get_or (references_from n bodies) k 0 ≤ length (with_entries next bodies)) long
    (references_small bodies next k
    (subst (λ n. k < length (references_from n bodies)) (sym long) lt'))
