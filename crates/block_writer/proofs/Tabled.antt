-- The offset table of a written index, and the sections of its pairs.
use Rattle.std.proofs.Common.{◌≡◌, ℕ, ◌+◌, ◌-◌, ◌*◌, ◌<◌, ◌≤◌, true, inl, List, [], ◌∷◌, ◌++◌}
use Rattle.std.proofs.Common.{length, refl, sym, ap, subst, ◌∙◌, append_assoc, length-append, arith}
use Rattle.std.specs.Prelude.{slice_range}
use Rattle.std.specs.List.{flat_map, list_all, AllByRecursion}
use Rattle.std.specs.List.Sorted.{IsStrictlySortedBy, IsStrictlyIncreasing}
use Rattle.std.proofs.lemmas.Bool.{lt-ltb, le-leb}
use Rattle.labels.specs.Labels.{pair_cmp}
use Rattle.wire.specs.Checksum.{checked}
use Rattle.index_reader.specs.Grammar.{frame, contents_text}
use Rattle.index_reader.specs.Layout.{is_before, is_within, rises}
use Rattle.index_reader.specs.Spelled.{table_text, pairs_of, AreSections, IsTable}
use Rattle.block_writer.specs.IndexText.{section_text, listed_from, contents_of}
use Rattle.block_writer.proofs.Lengths.{section_long}
use Rattle.block_writer.proofs.LaidOut.{middle}

-- the table lists the pairs
pub pairs_are : (pairs : List (List ℕ × List ℕ)) (lists : List (List ℕ)) (at : ℕ)
    → length lists ≡ length pairs → pairs_of (listed_from at pairs lists) ≡ pairs
unfolding listed_from
pairs_are [] lists at long = refl
pairs_are (p ∷ pairs) [] at long = absurd (omega (arith, long))
pairs_are (p ∷ pairs) (refs ∷ lists) at long =
    ap (λ ps. p ∷ ps)
    (pairs_are pairs lists (at + length (section_text refs)) (omega (arith, long)))

-- in the order of the pairs
pub table_rises : (pairs : List (List ℕ × List ℕ)) (lists : List (List ℕ)) (at : ℕ)
    → IsStrictlySortedBy pair_cmp pairs → rises is_before (listed_from at pairs lists) ≡ true
unfolding listed_from rises IsStrictlySortedBy
table_rises [] lists at up = refl
table_rises (p ∷ pairs) [] at up = refl
table_rises (p ∷ []) (refs ∷ lists) at up = refl
table_rises (p ∷ q ∷ pairs) (refs ∷ []) at up = refl
table_rises (p ∷ q ∷ pairs) (refs ∷ more ∷ lists) at up =
    rw (up.0.0, table_rises (q ∷ pairs) (more ∷ lists) (at + length (section_text refs)) up.1) refl

-- each section lies among the postings
pub table_within : (pairs : List (List ℕ × List ℕ)) (lists : List (List ℕ)) (at from to : ℕ)
    → from ≤ at → at + length (flat_map section_text lists) ≤ to
    → list_all (is_within from to) (listed_from at pairs lists) ≡ true
unfolding listed_from
table_within [] lists at from to low high = refl
table_within (p ∷ pairs) [] at from to low high = refl
table_within (p ∷ pairs) (refs ∷ lists) at from to low high =
    let size : length (flat_map section_text (refs ∷ lists))
    ≡ length (section_text refs) + length (flat_map section_text lists) =
    length-append (section_text refs) (flat_map section_text lists) in
    let some : length (section_text refs) ≡ 4 * length refs + 12 = section_long refs in
    let below : at < to = omega (arith, high, size, some) in
    let others =
    table_within pairs lists (at + length (section_text refs)) from to (omega (arith, low))
    (omega (arith, high, size)) in
    rw (le-leb from at low, lt-ltb at to below, others) refl

-- where the table says, the sections stand
pub sections_are : (pairs : List (List ℕ × List ℕ)) (lists : List (List ℕ)) (front rest : List ℕ)
    (at end : ℕ) → length lists ≡ length pairs → AllByRecursion IsStrictlyIncreasing lists
    → at ≡ length front → end ≡ length front + length (flat_map section_text lists)
    → AreSections (front ++ (flat_map section_text lists ++ rest)) end
    (listed_from at pairs lists) lists
unfolding listed_from
sections_are [] [] front rest at end long up here there = tt
sections_are [] (refs ∷ lists) front rest at end long up here there = absurd (omega (arith, long))
sections_are (p ∷ pairs) [] front rest at end long up here there = absurd (omega (arith, long))
sections_are (p ∷ pairs) (refs ∷ lists) front rest at end long up here there =
    let next : List ℕ = front ++ section_text refs in
    let size : length (section_text refs ++ flat_map section_text lists)
    ≡ length (section_text refs) + length (flat_map section_text lists) =
    length-append (section_text refs) (flat_map section_text lists) in
    let next_size : length next ≡ length front + length (section_text refs) =
    length-append front (section_text refs) in
    let same : next ++ (flat_map section_text lists ++ rest)
    ≡ front ++ ((section_text refs ++ flat_map section_text lists) ++ rest) = simp append_assoc in (
      (
        flat_map section_text lists,
        middle front (section_text refs ++ flat_map section_text lists) rest at end here there,
      ),
      up.0,
      subst (λ xs. AreSections xs end (listed_from (at + length (section_text refs)) pairs lists)
          lists) same (sections_are pairs lists next rest
          (at + length (section_text refs)) end (omega (
            arith,
            long,
          )) up.1 (omega (arith, here, next_size)) (omega (arith, there, size, next_size))),
    )

-- the table itself
pub table_is : (pairs : List (List ℕ × List ℕ)) (lists : List (List ℕ)) (front file : List ℕ)
    (series : ℕ) → IsStrictlySortedBy pair_cmp pairs
    → file ≡ front ++ (flat_map section_text lists
    ++ (frame (table_text (listed_from (length front) pairs lists)) ++ checked (contents_text
    (contents_of series (length front) (length front + length (flat_map section_text lists))))))
    → IsTable file (contents_of series (length front)
    (length front + length (flat_map section_text lists))) (listed_from (length front) pairs lists)
table_is pairs lists front file series up is =
    let sections : List ℕ = flat_map section_text lists in
    let table : List ℕ = frame (table_text (listed_from (length front) pairs lists)) in
    let ends : List ℕ =
    checked (contents_text (contents_of series (length front) (length front + length sections))) in
    let fifty : length ends ≡ 52 = omega arith in
    let text : file ≡ (front ++ sections) ++ (table ++ ends) = is ∙ simp append_assoc in
    let size : length file - 52 ≡ length (front ++ sections) + length table = omega (
      arith,
      ap length text,
      length-append (front ++ sections) (table ++ ends),
      length-append table ends,
      fifty,
    ) in
    let at : length front + length sections ≡ length (front ++ sections) =
    sym (length-append front sections) in
    record {
      others = inl refl;
      stands =
          ap (λ xs. slice_range xs (length front + length sections) (length file - 52)) text
          ∙ middle (front ++ sections) table ends (length front + length sections)
          (length file - 52) at size;
      rising = table_rises pairs lists (length front) up;
      within =
          table_within pairs lists (length front) (length front) (length front + length sections)
          (omega arith) (omega arith);
    }
