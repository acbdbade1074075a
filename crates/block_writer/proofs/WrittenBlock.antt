-- What is written is a block, in each range that has the rows.
use Rattle.std.proofs.Common.{◌≡◌, ℕ, ◌≤◌, Bool, true, false, not, List, [], ◌∷◌, length, refl}
use Rattle.std.proofs.Common.{arith}
use Rattle.std.specs.Prelude.{ℤ, T, int_le, int_lt}
use Rattle.std.specs.Bool.{IsTrue}
use Rattle.std.specs.Int.Signed.{◌≤ℤ◌, ◌<ℤ◌, lt_z_no}
use Rattle.std.specs.List.{All, AllByRecursion, list_all}
use Rattle.std.specs.Str.{IsUtf8}
use Rattle.std.proofs.lemmas.Int.{ints}
use Rattle.std.proofs.lemmas.List.Elements.{All-tail}
use Rattle.labels.specs.Contents.{in_range}
use Rattle.labels.specs.Labels.{Labels}
use Rattle.labels.specs.LabelSets.{IsLabelSet}
use Rattle.labels.specs.Rows.{Row}
use Rattle.labels.specs.declared.sample.TheConstants.{MIN_TIME, MAX_TIME}
use Rattle.labels.proofs.Times.{both_T, first_T, second_T, T_of}
use Rattle.block.specs.Ranges.{IsRange, covers}
use Rattle.block.proofs.Parts.{and_true}
use Rattle.block.proofs.Turns.{below, upto}
use Rattle.tombstones.specs.Grammar.{IsTombstones}
use Rattle.block_writer.specs.InUse.{label_texts, texts_in}
use Rattle.block_writer.specs.PartRows.{are_part_rows}
use Rattle.block_writer.specs.SpellRows.{IsWithin, SpellRowsAnywhere}
use Rattle.block_writer.specs.Typed.{IsOfTexts, AreOfTexts, HaveTexts, IsOf64Bits, Have64Bits}
use Rattle.block_writer.specs.Writing.{chunks_text}
use Rattle.block_writer.specs.Written.{IsWrittenIndex}
use Rattle.block_writer.proofs.BlockLaw.{written_files_spell}
use Rattle.block_writer.proofs.InUseLaws.{all_both, one_by_one}
use Rattle.block_writer.proofs.Storable.{IsStorable}

-- ---- texts

sets_of : (rows : List Row) → HaveTexts rows → AllByRecursion (λ (row : Row). IsLabelSet row.0) rows
sets_of [] typed = tt
sets_of (row ∷ rows) typed = (
  (typed 0 row (omega arith)).label_set,
  sets_of rows (All-tail (λ (row : Row). AreOfTexts row.0) row rows typed),
)

pairs_utf8 : (labels : Labels) → All IsOfTexts labels → AllByRecursion IsUtf8 (label_texts labels)
pairs_utf8 [] texts = tt
pairs_utf8 (pair ∷ labels) texts =
    let here : IsOfTexts pair = texts 0 pair (omega arith) in
    (here.0, (here.1, pairs_utf8 labels (All-tail IsOfTexts pair labels texts)))

texts_utf8 : (rows : List Row) → HaveTexts rows → AllByRecursion IsUtf8 (texts_in rows)
texts_utf8 [] typed = tt
texts_utf8 (row ∷ rows) typed =
    all_both IsUtf8 (label_texts row.0) (texts_in rows)
    (pairs_utf8 row.0 (typed 0 row (omega arith)).texts)
    (texts_utf8 rows (All-tail (λ (row : Row). AreOfTexts row.0) row rows typed))

-- ---- times

not_lt : (a b : ℤ) → b ≤ℤ a → T (not (int_lt a b))
not_lt a b le = go (int_lt a b) (λ e. below a b e)
  where
    go : (lt : Bool) → (lt ≡ true → a <ℤ b) → T (not lt)
    go true h =
        let less : a <ℤ b = h refl in
        absurd (omega (arith, ints))
    go false h = tt

-- a time between two times is one
in_between : (low high x y t : ℤ) → in_range low high x ≡ true → in_range low high y ≡ true → x ≤ℤ t
    → t <ℤ y → T (in_range low high t)
in_between low high x y t first end from to =
    let a : low ≤ℤ x =
    lt_z_no (first_T (not (int_lt x low)) (not (int_lt high x)) (T_of _ first)) in
    let b : y ≤ℤ high =
    lt_z_no (second_T (not (int_lt y low)) (not (int_lt high y)) (T_of _ end)) in
    let c : low ≤ℤ t = omega (arith, ints) in
    let d : t ≤ℤ high = omega (arith, ints) in
    both_T (not (int_lt t low)) (not (int_lt high t)) (not_lt t low c) (not_lt high t d)

-- what lies in a range is a time
is_time_in : (range : ℤ × ℤ) (t : ℤ) → IsRange range → covers range t ≡ true
    → T (in_range MIN_TIME MAX_TIME t)
is_time_in range t is_range inside =
    let ends = and_true (int_le range.0 t) (int_lt t range.1) inside in
    in_between MIN_TIME MAX_TIME range.0 range.1 t is_range.first is_range.end
    (upto range.0 t ends.0) (below t range.1 ends.1)

times_in : (range : ℤ × ℤ) (samples : List (ℤ × ℤ)) → IsRange range
    → AllByRecursion (λ (s : ℤ × ℤ). covers range s.0 ≡ true) samples
    → T (list_all (λ (s : ℤ × ℤ). in_range MIN_TIME MAX_TIME s.0) samples)
times_in range [] is_range inside = tt
times_in range (s ∷ ss) is_range inside =
    both_T (in_range MIN_TIME MAX_TIME s.0)
    (list_all (λ (s : ℤ × ℤ). in_range MIN_TIME MAX_TIME s.0) ss)
    (is_time_in range s.0 is_range inside.0) (times_in range ss is_range inside.1)

-- ---- rows

storable_row : (range : ℤ × ℤ) (row : Row) → IsRange range → All IsOf64Bits row.1
    → IsWithin range row → IsStorable range row
storable_row range row is_range bits within = record {
  few = within.few;
  samples = record {
    inside = within.inside;
    times = times_in range row.1 is_range within.inside;
    values = one_by_one IsOf64Bits row.1 bits;
  };
}

storable_rows : (range : ℤ × ℤ) (rows : List Row) → IsRange range → Have64Bits rows
    → AllByRecursion (IsWithin range) rows → AllByRecursion (IsStorable range) rows
storable_rows range [] is_range bits within = tt
storable_rows range (row ∷ rows) is_range bits within = (
  storable_row range row is_range (bits 0 row (omega arith)) within.0,
  storable_rows range rows is_range
      (All-tail (λ (row : Row). All IsOf64Bits row.1) row rows bits) within.1,
)

pub written_block : (rows : List Row) (index chunks tombstones : List ℕ)
    → IsTrue (are_part_rows rows) → HaveTexts rows → Have64Bits rows → IsWrittenIndex rows index
    → chunks ≡ chunks_text rows → IsTombstones tombstones [] → length index ≤ 0x4000_0000
    → length chunks ≤ 0x4000_0000
    → SpellRowsAnywhere index chunks tombstones rows
written_block rows index chunks tombstones part texts bits written spelled none short chunks_short
    range is_range within =
    written_files_spell range rows index chunks tombstones part (sets_of rows texts)
    (texts_utf8 rows texts) (storable_rows range rows is_range bits within.each) within.few written
    spelled none short chunks_short
