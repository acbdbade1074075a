-- The texts of an index, as they grow.
use Rattle.std.proofs.Common.{◌≡◌, ℕ, zero, suc, ◌+◌, ◌-◌, ◌/◌, ◌<◌, ◌≤◌, ℤ, pos, List, [], ◌∷◌}
use Rattle.std.proofs.Common.{◌++◌, length, get_or, drop, refl, sym, ap, subst, ◌∙◌, append_assoc}
use Rattle.std.proofs.Common.{length-append, arith}
use Rattle.std.specs.Prelude.{replicate, ◌-ℤ◌}
use Rattle.std.specs.Borrow.{Bor}
use Rattle.std.specs.List.{flat_map}
use Rattle.std.proofs.lemmas.List.{append-nil, drop_all, length-replicate}
use Rattle.byteorder.specs.Endian.{big_bytes}
use Rattle.wire.specs.Spelling.{uvarint, varint}
use Rattle.labels.specs.Rows.{Row}
use Rattle.index_reader.specs.declared.chunk.Chunk.{Chunk}
use Rattle.index_reader.specs.Layout.{rounded, TableEntry}
use Rattle.index_reader.specs.Seen.{bytes_of}
use Rattle.wire.specs.Checksum.{checked}
use Rattle.index_reader.specs.Grammar.{entry, frame, contents_text}
use Rattle.index_reader.specs.Spelled.{listed_text, table_text}
use Rattle.block_writer.specs.declared.error.WriteError.{WriteError}
use Rattle.block_writer.specs.Writing.{series_text}
use Rattle.block_writer.specs.EntryBodies.{body_of, bodies_of, apart, later_text, later_texts}
use Rattle.block_writer.specs.IndexText.{padded, start_text, with_entries, references_from}
use Rattle.block_writer.specs.IndexText.{section_text, listed_from, contents_of, postings_text}
use Rattle.block_writer.specs.IndexText.{lists_of, index_text}
use Rattle.block_writer.specs.Written.{limit, IsReason}
use Rattle.block_writer.proofs.Lengths.{longer, front_long, back_long}
use Rattle.block_writer.proofs.Walking.{regrouped, four}

-- ---- two numbers

pub two_numbers : (out one two : List ℕ) (a b x y : ℕ) → one ≡ out ++ uvarint a
    → two ≡ one ++ uvarint b → a ≡ x → b ≡ y → two ≡ out ++ (uvarint x ++ uvarint y)
two_numbers out one two a b x y first second e f =
    second
    ∙ (λ i. first i ++ uvarint b)
    ∙ (λ i. (out ++ uvarint (e i)) ++ uvarint (f i))
    ∙ simp append_assoc

-- ---- texts in memory

text_at : (ss : List (Bor (List ℕ))) (i : ℕ) (d : Bor (List ℕ)) → i < length ss
    → drop i (bytes_of ss) ≡ (get_or ss i d).now ∷ drop (suc i) (bytes_of ss)
text_at [] i d lt = absurd (omega (arith, lt))
text_at (s ∷ ss) zero d lt = refl
text_at (s ∷ ss) (suc i) d lt = text_at ss i d (omega (arith, lt))

pub text_here : (ss : List (Bor (List ℕ))) (i : ℕ) (d : Bor (List ℕ)) → i < length ss
    → drop i (bytes_of ss) ≡ (get_or ss i d).now ∷ drop (i + 1) (bytes_of ss)
text_here ss i d lt =
    let next : suc i ≡ i + 1 = omega arith in
    text_at ss i d lt ∙ ap (λ j. (get_or ss i d).now ∷ drop j (bytes_of ss)) next

-- ---- chunks of a body

chunk_here : (cs : List Chunk) (i : ℕ) (d : Chunk) → i < length cs
    → drop i cs ≡ get_or cs i d ∷ drop (suc i) cs
chunk_here [] i d lt = absurd (omega (arith, lt))
chunk_here (c ∷ cs) zero d lt = refl
chunk_here (c ∷ cs) (suc i) d lt = chunk_here cs i d (omega (arith, lt))

same_chunk : (cs : List Chunk) (i : ℕ) (d e : Chunk) → i < length cs → get_or cs i d ≡ get_or cs i e
same_chunk [] i d e lt = absurd (omega (arith, lt))
same_chunk (c ∷ cs) zero d e lt = refl
same_chunk (c ∷ cs) (suc i) d e lt = same_chunk cs i d e (omega (arith, lt))

pub later_on : (cs : List Chunk) (i : ℕ) (none before d : Chunk) (out next whole : List ℕ) → 0 < i
    → i < length cs → next ≡ out ++ later_text (get_or cs (i - 1) before) (get_or cs i d)
    → out ++ later_texts (get_or cs (i - 1) none) (drop i cs) ≡ whole
    → next ++ later_texts (get_or cs (i + 1 - 1) none) (drop (i + 1) cs) ≡ whole
unfolding later_texts
later_on cs i none before d out next whole some lt step so_far =
    let back : i + 1 - 1 ≡ i = omega arith in
    let more : i + 1 ≡ suc i = omega arith in
    let here : drop i cs ≡ get_or cs i none ∷ drop (suc i) cs = chunk_here cs i none lt in
    let all : out ++ (later_text (get_or cs (i - 1) none) (get_or cs i none)
    ++ later_texts (get_or cs i none) (drop (suc i) cs)) ≡ whole = rw here at so_far in
    let step' : next ≡ out ++ later_text (get_or cs (i - 1) none) (get_or cs i none) =
    step
    ∙ (λ j. out ++ later_text (same_chunk cs (i - 1) before none (omega (
      arith,
      lt,
    )) j) (same_chunk cs i d none lt j)) in
    (λ j. step' j ++ later_texts (get_or cs (back j) none) (drop (more j) cs))
    ∙ regrouped out (later_text (get_or cs (i - 1) none) (get_or cs i none))
    (later_texts (get_or cs i none) (drop (suc i) cs)) whole all

pub later_is : (out one two three : List ℕ) (before c : Chunk) (gap span : ℕ) (step : ℤ)
    → one ≡ out ++ uvarint gap → two ≡ one ++ uvarint span → three ≡ two ++ varint step
    → gap ≡ apart before.maxt c.mint → span ≡ apart c.mint c.maxt
    → step ≡ (pos c.reference -ℤ pos before.reference) → three ≡ out ++ later_text before c
later_is out one two three before c gap span step first second third e f g =
    third
    ∙ (λ i. (second ∙ (λ j. first j ++ uvarint span)) i ++ varint step)
    ∙ (λ i. ((out ++ uvarint (e i)) ++ uvarint (f i)) ++ varint (g i))
    ∙ four out (uvarint (apart before.maxt c.mint)) (uvarint (apart c.mint c.maxt))
    (varint (pos c.reference -ℤ pos before.reference))

pub later_done : (cs : List Chunk) (i : ℕ) (before : Chunk) (out whole : List ℕ) → length cs ≤ i
    → out ++ later_texts before (drop i cs) ≡ whole → out ≡ whole
unfolding later_texts
later_done cs i before out whole le so_far =
    sym (append-nil out) ∙ (rw (drop_all i cs le) at so_far)

-- ---- entries

pub grows : (bodies : List (List ℕ)) (out : List ℕ) → length out ≤ length (with_entries out bodies)
unfolding with_entries
grows [] out = omega arith
grows (body ∷ bodies) out = omega (
  arith,
  grows bodies (padded out ++ entry body),
  front_long (padded out) (entry body),
  front_long out (replicate (rounded (length out) - length out) 0),
)

pub padded_long : (out : List ℕ) → length (padded out) ≡ rounded (length out)
padded_long out = omega (
  arith,
  length-append out (replicate (rounded (length out) - length out) 0),
  length-replicate {A = ℕ} (rounded (length out) - length out) 0,
)

pub too_far : (symbols : List (List ℕ)) (rows : List Row) (i place : ℕ) (row : Row)
    (out next whole : List ℕ) → drop i rows ≡ row ∷ drop (i + 1) rows → next ≡ padded out
    → limit < length next → with_entries out (bodies_of symbols place (drop i rows)) ≡ whole
    → limit < length whole
unfolding bodies_of with_entries
too_far symbols rows i place row out next whole here step long so_far =
    let all : with_entries (padded out ++ entry (body_of symbols place row))
    (bodies_of symbols (place + length (series_text row.1)) (drop (i + 1) rows)) ≡ whole =
    rw here at so_far in
    let a =
    grows (bodies_of symbols (place + length (series_text row.1)) (drop (i + 1) rows))
    (padded out ++ entry (body_of symbols place row)) in
    let b = front_long (padded out) (entry (body_of symbols place row)) in
    omega (arith, long, ap length step, a, b, ap length all)

pub entry_on : (symbols : List (List ℕ)) (rows : List Row) (i place then : ℕ) (row : Row)
    (out pad next body whole : List ℕ) → drop i rows ≡ row ∷ drop (i + 1) rows
    → body ≡ body_of symbols place row → pad ≡ padded out → next ≡ pad ++ entry body
    → then ≡ place + length (series_text row.1) → with_entries out (bodies_of symbols place
    (drop i rows)) ≡ whole → with_entries next (bodies_of symbols then (drop (i + 1) rows)) ≡ whole
unfolding bodies_of with_entries
entry_on symbols rows i place then row out pad next body whole here is first second moved so_far =
    let all : with_entries (padded out ++ entry (body_of symbols place row))
    (bodies_of symbols (place + length (series_text row.1)) (drop (i + 1) rows)) ≡ whole =
    rw here at so_far in
    let text : next ≡ padded out ++ entry (body_of symbols place row) =
    second ∙ (λ j. first j ++ entry (is j)) in
    (λ j. with_entries (text j) (bodies_of symbols (moved j) (drop (i + 1) rows))) ∙ all

pub reference_on : (symbols : List (List ℕ)) (rows : List Row) (i place then : ℕ) (row : Row)
    (out pad next body refs more whole : List ℕ) → drop i rows ≡ row ∷ drop (i + 1) rows
    → body ≡ body_of symbols place row → pad ≡ padded out → next ≡ pad ++ entry body
    → then ≡ place + length (series_text row.1) → more ≡ refs ++ length pad / 16 ∷ [] → refs ++
    references_from (length out) (bodies_of symbols place (drop i rows)) ≡ whole → more ++
    references_from (length next) (bodies_of symbols then (drop (i + 1) rows)) ≡ whole
unfolding bodies_of references_from
reference_on symbols rows i place
    then row out pad next body refs more whole here is first second moved step so_far =
    let tail = bodies_of symbols (place + length (series_text row.1)) (drop (i + 1) rows) in
    let all : refs ++ (rounded (length out) / 16 ∷ references_from (rounded (length out)
    + length (entry (body_of symbols place row))) tail) ≡ whole = rw here at so_far in
    let at : length pad ≡ rounded (length out) = ap length first ∙ padded_long out in
    let end : length next ≡ rounded (length out) + length (entry (body_of symbols place row)) =
    ap length second ∙ length-append pad (entry body) ∙ (λ j. at j + length (entry (is j))) in
    (λ j. step j ++ references_from (end j) (bodies_of symbols (moved j) (drop (i + 1) rows)))
    ∙ (λ j. (refs ++ at j / 16 ∷ [])
    ++ references_from (rounded (length out) + length (entry (body_of symbols place row))) tail)
    ∙ simp append_assoc all

pub room_on : (rows : List Row) (i place then : ℕ) (row : Row) → drop i rows ≡ row ∷ drop (i + 1)
    rows → then ≡ place + length (series_text row.1) → place + length
    (flat_map (λ (row : Row). series_text row.1) (drop i rows)) ≤ limit
    → then + length (flat_map (λ (row : Row). series_text row.1) (drop (i + 1) rows)) ≤ limit
room_on rows i place then row here moved fits =
    let e : length (flat_map (λ (row : Row). series_text row.1) (drop i rows))
    ≡ length (series_text row.1)
    + length (flat_map (λ (row : Row). series_text row.1) (drop (i + 1) rows)) =
    ap (λ rs. length (flat_map (λ (row : Row). series_text row.1) rs)) here
    ∙ length-append (series_text row.1)
    (flat_map (λ (row : Row). series_text row.1) (drop (i + 1) rows)) in
    omega (arith, e, moved, fits)

pub entries_done : (symbols : List (List ℕ)) (rows : List Row) (i place : ℕ) (out whole : List ℕ)
    → length rows ≤ i
    → with_entries out (bodies_of symbols place (drop i rows)) ≡ whole → out ≡ whole
unfolding bodies_of with_entries
entries_done symbols rows i place out whole le so_far = rw (drop_all i rows le) at so_far

pub references_done : (symbols : List (List ℕ)) (rows : List Row) (i place at : ℕ)
    (refs whole : List ℕ) → length rows ≤ i
    → refs ++ references_from at (bodies_of symbols place (drop i rows)) ≡ whole → refs ≡ whole
unfolding bodies_of references_from
references_done symbols rows i place at refs whole le so_far =
    sym (append-nil refs) ∙ (rw (drop_all i rows le) at so_far)

pub references_many : (symbols : List (List ℕ)) (rows : List Row) (place at : ℕ)
    → length (references_from at (bodies_of symbols place rows)) ≡ length rows
unfolding bodies_of references_from
references_many symbols [] place at = refl
references_many symbols (row ∷ rows) place at =
    ap suc (references_many symbols rows (place + length (series_text row.1))
    (rounded at + length (entry (body_of symbols place row))))

-- ---- sections and their table

listed_many : (pairs : List (List ℕ × List ℕ)) (lists : List (List ℕ)) (at : ℕ)
    → length lists ≡ length pairs → length (listed_from at pairs lists) ≡ length pairs
unfolding listed_from
listed_many [] lists at long = refl
listed_many (p ∷ pairs) [] at long = absurd (omega (arith, long))
listed_many (p ∷ pairs) (refs ∷ lists) at long =
    ap suc (listed_many pairs lists (at + length (section_text refs)) (omega (arith, long)))

pub listed_first : (pairs : List (List ℕ × List ℕ)) (lists : List (List ℕ))
    (all out next table more : List ℕ) (count : ℕ) → length lists ≡ length pairs
    → count ≡ length pairs + 1 → table ≡ big_bytes 4 count
    → more ≡ table ++ listed_text (record { name = []; value = []; offset = length out })
    → next ≡ out ++ section_text all
    → more ++ flat_map listed_text (listed_from (length next) pairs lists)
    ≡ table_text (listed_from (length out) (([], []) ∷ pairs) (all ∷ lists))
unfolding listed_from
listed_first pairs lists all out next table more count long counted begun step grown =
    let first : TableEntry = record { name = []; value = []; offset = length out } in
    let at : length next ≡ length out + length (section_text all) =
    ap length grown ∙ length-append out (section_text all) in
    let many : count
    ≡ suc (length (listed_from (length out + length (section_text all)) pairs lists)) =
    omega (arith, counted, listed_many pairs lists (length out + length (section_text all)) long) in
    (λ j. (step ∙ ap (λ xs. xs ++ listed_text first) (begun ∙ ap (big_bytes 4) many)) j
    ++ flat_map listed_text (listed_from (at j) pairs lists))
    ∙ simp append_assoc

pub listed_on : (pairs : List (List ℕ × List ℕ)) (lists : List (List ℕ)) (i : ℕ)
    (p : List ℕ × List ℕ) (refs out next table more whole : List ℕ)
    → drop i pairs ≡ p ∷ drop (i + 1) pairs → drop i lists ≡ refs ∷ drop (i + 1) lists
    → more ≡ table ++ listed_text (record { name = p.0; value = p.1; offset = length out })
    → next ≡ out ++ section_text refs
    → table ++ flat_map listed_text (listed_from (length out) (drop i pairs) (drop i lists)) ≡ whole
    → more
    ++ flat_map listed_text (listed_from (length next) (drop (i + 1) pairs) (drop (i + 1) lists))
    ≡ whole
unfolding listed_from
listed_on pairs lists i p refs out next table more whole here there step grown so_far =
    let one : TableEntry = record { name = p.0; value = p.1; offset = length out } in
    let at : length next ≡ length out + length (section_text refs) =
    ap length grown ∙ length-append out (section_text refs) in
    let all : table ++ (listed_text one ++ flat_map listed_text (listed_from (length out
    + length (section_text refs)) (drop (i + 1) pairs) (drop (i + 1) lists))) ≡ whole =
    rw (here, there) at so_far in
    (λ j.
    step j ++ flat_map listed_text (listed_from (at j) (drop (i + 1) pairs) (drop (i + 1) lists)))
    ∙ regrouped table (listed_text one) (flat_map listed_text (listed_from (length out
    + length (section_text refs)) (drop (i + 1) pairs) (drop (i + 1) lists))) whole all

pub listed_done : (pairs : List (List ℕ × List ℕ)) (lists : List (List ℕ)) (i at : ℕ)
    (table whole : List ℕ) → length pairs ≤ i
    → table ++ flat_map listed_text (listed_from at (drop i pairs) (drop i lists)) ≡ whole
    → table ≡ whole
unfolding listed_from
listed_done pairs lists i at table whole le so_far =
    sym (append-nil table) ∙ (rw (drop_all i pairs le) at so_far)

pub part_long : {A : Type 0} (f : A → List ℕ) (xs : List A) (i : ℕ) (a : A) (rest : List A)
    → drop i xs ≡ a ∷ rest → length (f a) ≤ length (flat_map f xs)
part_long f xs zero a rest here =
    omega (arith, ap (λ ys. length (flat_map f ys)) here, length-append (f a) (flat_map f rest))
part_long f [] (suc i) a rest here = absurd (let e = ap length here in omega (arith, e))
part_long f (x ∷ xs) (suc i) a rest here =
    omega (arith, part_long f xs i a rest here, length-append (f x) (flat_map f xs))

pub postings_is : (out one two three table : List ℕ) (series : ℕ) (pairs : List (List ℕ × List ℕ))
    (lists : List (List ℕ)) → one ≡ out ++ flat_map section_text lists
    → table ≡ table_text (listed_from (length out) pairs lists) → two ≡ one ++ frame table
    → three ≡ two ++ checked (contents_text (contents_of series (length out) (length one)))
    → three ≡ out ++ postings_text series (length out) pairs lists
unfolding postings_text
postings_is out one two three table series pairs lists first is second third =
    let at : length one ≡ length out + length (flat_map section_text lists) =
    ap length first ∙ length-append out (flat_map section_text lists) in
    third
    ∙ (λ j. (second ∙ (λ i. first i ++ frame (is i))) j
    ++ checked (contents_text (contents_of series (length out) (at j))))
    ∙ four out (flat_map section_text lists)
    (frame (table_text (listed_from (length out) pairs lists))) (checked (contents_text
    (contents_of series (length out) (length out + length (flat_map section_text lists)))))

-- ---- the whole

pub entries_reason : (e : WriteError) (symbols : List (List ℕ)) (pairs : List (List ℕ × List ℕ))
    (rows : List Row) (start : List ℕ) → start ≡ start_text symbols
    → IsReason (with_entries start (bodies_of symbols 8 rows)) e
    → IsReason (index_text symbols pairs rows) e
unfolding index_text
entries_reason e symbols pairs rows start is h =
    let refs = references_from (length (start_text symbols)) (bodies_of symbols 8 rows) in
    let front = with_entries (start_text symbols) (bodies_of symbols 8 rows) in
    longer e front (index_text symbols pairs rows)
    (front_long front (postings_text (length (start_text symbols)) (length front) ((
      [],
      [],
    ) ∷ pairs) (refs ∷ lists_of pairs rows refs)))
    (subst (λ xs. IsReason (with_entries xs (bodies_of symbols 8 rows)) e) is h)

pub postings_reason : (e : WriteError) (symbols : List (List ℕ)) (pairs : List (List ℕ × List ℕ))
    (rows : List Row) (start front refs : List ℕ) (lists : List (List ℕ))
    → start ≡ start_text symbols → front ≡ with_entries start (bodies_of symbols 8 rows)
    → refs ≡ references_from (length start) (bodies_of symbols 8 rows)
    → lists ≡ lists_of pairs rows refs
    → IsReason (postings_text (length start) (length front) (([], []) ∷ pairs) (refs ∷ lists)) e
    → IsReason (index_text symbols pairs rows) e
unfolding index_text
postings_reason e symbols pairs rows start front refs lists is entries refer listed h =
    let refs' = references_from (length (start_text symbols)) (bodies_of symbols 8 rows) in
    let front' = with_entries (start_text symbols) (bodies_of symbols 8 rows) in
    let refer' : refs ≡ refs' =
    refer ∙ ap (λ xs. references_from (length xs) (bodies_of symbols 8 rows)) is in
    let entries' : front ≡ front' =
    entries ∙ ap (λ xs. with_entries xs (bodies_of symbols 8 rows)) is in
    let listed' : lists ≡ lists_of pairs rows refs' = listed ∙ ap (lists_of pairs rows) refer' in
    let same : postings_text (length start) (length front) (([], []) ∷ pairs) (refs ∷ lists)
    ≡ postings_text (length (start_text symbols)) (length front') (([], []) ∷ pairs)
    (refs' ∷ lists_of pairs rows refs') =
    λ j.
    postings_text (length (is j)) (length (entries' j)) (([], []) ∷ pairs) (refer' j ∷ listed' j) in
    longer e (postings_text (length (start_text symbols)) (length front') (([], []) ∷ pairs)
    (refs' ∷ lists_of pairs rows refs')) (index_text symbols pairs rows)
    (back_long front' (postings_text (length (start_text symbols)) (length front') ((
      [],
      [],
    ) ∷ pairs) (refs' ∷ lists_of pairs rows refs')))
    (subst (λ xs. IsReason xs e) same h)

pub index_is : (symbols : List (List ℕ)) (pairs : List (List ℕ × List ℕ)) (rows : List Row)
    (start front file refs : List ℕ) (lists : List (List ℕ)) → start ≡ start_text symbols
    → front ≡ with_entries start (bodies_of symbols 8 rows)
    → refs ≡ references_from (length start) (bodies_of symbols 8 rows)
    → lists ≡ lists_of pairs rows refs
    → file ≡ front ++ postings_text (length start) (length front) (([], []) ∷ pairs) (refs ∷ lists)
    → file ≡ index_text symbols pairs rows
unfolding index_text
index_is symbols pairs rows start front file refs lists is entries refer listed text =
    let refer' = refer ∙ ap (λ xs. references_from (length xs) (bodies_of symbols 8 rows)) is in
    let entries' = entries ∙ ap (λ xs. with_entries xs (bodies_of symbols 8 rows)) is in
    let listed' = listed ∙ ap (lists_of pairs rows) refer' in
    text
    ∙ (λ j. entries' j ++ postings_text (length (is j)) (length (entries' j)) ((
      [],
      [],
    ) ∷ pairs) (refer' j ∷ listed' j))

pub start_reason : (e : WriteError) (symbols : List (List ℕ)) (pairs : List (List ℕ × List ℕ))
    (rows : List Row) → IsReason (start_text symbols) e → IsReason (index_text symbols pairs rows) e
start_reason e symbols pairs rows h =
    entries_reason e symbols pairs rows (start_text symbols) refl
    (longer e (start_text symbols) (with_entries (start_text symbols) (bodies_of symbols 8 rows))
    (grows (bodies_of symbols 8 rows) (start_text symbols)) h)
