-- The step of a cut.
use Rattle.std.specs.Prelude.{◌≡◌, ◌≢◌, ◌≤◌, ◌<◌, ℕ, ℤ, ◌+◌, true, false, List, [], ◌∷◌, ◌++◌, Result, Ok, Err, length, nat_le, int_lt, int_le, refl, if◌then◌else◌}
use Rattle.std.proofs.Common.{sym, ◌∙◌, ap, subst, arith, inl, inr}
use Rattle.std.proofs.lemmas.Bool.Decides.{nat_tests}
use Rattle.std.proofs.lemmas.Int.{ints}
use Rattle.labels.specs.Contents.{Content, is_time}
use Rattle.labels.specs.Rows.{Row, rows_of, AreRows}
use Rattle.labels.proofs.RowLaws.{rows_of-points_of}
use Rattle.head.specs.Fits.{files_fit, fits}
use Rattle.head.specs.Refusals.{Refusal, limit, cut_too_low, too_many_parts}
use Rattle.head.specs.Worlds.{World, raised, cut_off, cut_at, cut}
use Rattle.head.specs.Heads.{BlockPart, SnapshotParts, world_of, EndBy, IsSoundSnapshot}
use Rattle.head.specs.Kept.{KeepsBlocks}
use Rattle.head.specs.Cuts.{leaving, AreCutBlocks, written_if_fit}
use Rattle.head.specs.Removing.{snapshot_cut}
use Rattle.head.proofs.Cutting.{IsSoundHead-head_cut, HoldCut, hold_none, hold_more, length-snoc, cut-world_of, none_above_cut}

le_false : (n : ℕ) → n < 63 → nat_le 63 n ≡ false
le_false n h = grind (arith, nat_tests)

le_true : (n : ℕ) → 63 ≤ n → nat_le 63 n ≡ true
le_true n h = grind (arith, nat_tests)

off_some : (w : World) (t : ℤ) (c : Content) → c ≢ [] → nat_le 63 w.blocks ≡ false → fits c ≡ true → cut_off fits w t c ≡ Ok (record (raised w t) { blocks = w.blocks + 1 })
off_some w t [] some room fit = absurd (some refl)
off_some w t (g ∷ gs) some room fit =
    ap (λ b. if b then Err too_many_parts else if fits (g ∷ gs) then Ok (record (raised w t) { blocks = w.blocks + 1 }) else Err limit) room
    ∙ ap (λ b. if b then Ok (record (raised w t) { blocks = w.blocks + 1 }) else Err limit) fit

pub off_many : (w : World) (t : ℤ) (c : Content) → c ≢ [] → nat_le 63 w.blocks ≡ true → cut_off fits w t c ≡ Err too_many_parts
off_many w t [] some many = absurd (some refl)
off_many w t (g ∷ gs) some many =
    ap (λ b. if b then Err too_many_parts else if fits (g ∷ gs) then Ok (record (raised w t) { blocks = w.blocks + 1 }) else Err limit) many

pub off_long : (w : World) (t : ℤ) (c : Content) → c ≢ [] → nat_le 63 w.blocks ≡ false → fits c ≡ false → cut_off fits w t c ≡ Err limit
off_long w t [] some room long = absurd (some refl)
off_long w t (g ∷ gs) some room long =
    ap (λ b. if b then Err too_many_parts else if fits (g ∷ gs) then Ok (record (raised w t) { blocks = w.blocks + 1 }) else Err limit) room
    ∙ ap (λ b. if b then Ok (record (raised w t) { blocks = w.blocks + 1 }) else Err limit) long

-- the step of a cut above the floor
pub cut_in : (t : ℤ) (s : SnapshotParts) → int_lt s.floor t ≡ true → cut_at fits (world_of s) t ≡ cut_off fits (world_of s) t (leaving t s)
unfolding world_of
cut_in t s up = ap (λ b. if b then cut_off fits (world_of s) t (leaving t s) else Err cut_too_low) up

-- a cut that is not above the floor
pub cut_low : (t : ℤ) (s : SnapshotParts) → int_lt s.floor t ≡ false → cut_at fits (world_of s) t ≡ Err cut_too_low
unfolding world_of
cut_low t s low = ap (λ b. if b then cut_off fits (world_of s) t (leaving t s) else Err cut_too_low) low

pub many_blocks : (s : SnapshotParts) → 63 ≤ length s.blocks → nat_le 63 (world_of s).blocks ≡ true
unfolding world_of
many_blocks s h = le_true (length s.blocks) h

pub few_blocks : (s : SnapshotParts) → length s.blocks < 63 → nat_le 63 (world_of s).blocks ≡ false
unfolding world_of
few_blocks s h = le_false (length s.blocks) h

-- the rows of a content are those by which it is told whether its files fit
pub fits_rows : (rows : List Row) (c : Content) → AreRows rows c → fits c ≡ files_fit rows
fits_rows rows c are = ap files_fit (ap rows_of (sym are.points) ∙ rows_of-points_of rows are.ascending are.full)

-- what a step gives where its rows were written
abbrev pub past : World → Result (Unit {0}) Refusal → Result World Refusal
past w (Ok done) = Ok w
past w (Err e) = Err e

-- where there is room for a block, the step is refused exactly where the rows are not written
pub off_written : (w : World) (t : ℤ) (c : Content) (rows : List Row) → c ≢ [] → nat_le 63 w.blocks ≡ false → AreRows rows c → cut_off fits w t c ≡ past (record (raised w t) { blocks = w.blocks + 1 }) (written_if_fit rows)
off_written w t [] rows some room are = absurd (some refl)
off_written w t (g ∷ gs) rows some room are =
    ap (λ b. if b then Err too_many_parts else if fits (g ∷ gs) then Ok (record (raised w t) { blocks = w.blocks + 1 }) else Err limit) room
    ∙ ap (λ b. if b then Ok (record (raised w t) { blocks = w.blocks + 1 }) else Err limit) (fits_rows rows (g ∷ gs) are)
    ∙ elim (files_fit rows) as (λ b. (if b then Ok (record (raised w t) { blocks = w.blocks + 1 }) else Err limit) ≡ past (record (raised w t) { blocks = w.blocks + 1 }) (if b then Ok tt else Err limit)) [ true ↦ refl | false ↦ refl ]

holds_of : (t : ℤ) (s : SnapshotParts) (blocks : List BlockPart) → AreCutBlocks t s blocks → HoldCut t blocks s
holds_of t s blocks cases = elim cases [
  | inl e ↦ subst (λ (bs : List BlockPart). HoldCut t bs s) (sym e.1) (hold_none t s e.0)
  | inr h ↦ subst (λ (bs : List BlockPart). HoldCut t bs s) (sym h.added) (hold_more t s h.block h.is.rows.points)
]

count_is : (s : SnapshotParts) → (world_of s).blocks ≡ length s.blocks
unfolding world_of
count_is s = refl

few_after : (t : ℤ) (s : SnapshotParts) (blocks : List BlockPart) → IsSoundSnapshot s → AreCutBlocks t s blocks → length blocks ≤ 63
few_after t s blocks sound cases = elim cases [
  | inl e ↦ subst (λ (bs : List BlockPart). length bs ≤ 63) (sym e.1) sound.few
  | inr h ↦ subst (λ (bs : List BlockPart). length bs ≤ 63) (sym h.added) (let n = length-snoc s.blocks h.block in let room = h.room in omega arith)
]

off_is : (t : ℤ) (s : SnapshotParts) (blocks : List BlockPart) → AreCutBlocks t s blocks → cut_off fits (world_of s) t (leaving t s) ≡ Ok (record (raised (world_of s) t) { blocks = length blocks })
off_is t s blocks cases = elim cases [
  | inl e ↦ ap (cut_off fits (world_of s) t) e.0 ∙ ap (λ n. Ok (record (raised (world_of s) t) { blocks = n })) (count_is s ∙ ap length (sym e.1))
  | inr h ↦ off_some (world_of s) t (leaving t s) h.some (few_blocks s h.room) h.fit
      ∙ ap (λ n. Ok (record (raised (world_of s) t) { blocks = n })) (ap (λ n. n + 1) (count_is s) ∙ sym (length-snoc s.blocks h.block) ∙ ap length (sym h.added))
]

-- what a cut gives is the world after
pub cut_accepted : (t : ℤ) (s : SnapshotParts) (blocks : List BlockPart) → IsSoundSnapshot s → int_lt s.floor t ≡ true → AreCutBlocks t s blocks → cut_at fits (world_of s) t ≡ Ok (world_of (snapshot_cut t blocks s))
cut_accepted t s blocks sound up cases =
    cut_in t s up ∙ off_is t s blocks cases ∙ ap Ok (sym (cut-world_of t blocks s sound (holds_of t s blocks cases)))

at_most : (m floor t : ℤ) → int_le m floor ≡ true → int_lt floor t ≡ true → int_le m t ≡ true
at_most m floor t e f = grind (arith, ints)

self : (t : ℤ) → int_le t t ≡ true
self t = grind (arith, ints)

ends_later : (floor t : ℤ) (blocks : List BlockPart) → int_lt floor t ≡ true → EndBy floor blocks → EndBy t blocks
ends_later floor t [] up ends = tt
ends_later floor t (b ∷ bs) up ends = (at_most b.max floor t ends.0 up, ends_later floor t bs up ends.1)

ends_more : (t : ℤ) (blocks : List BlockPart) (block : BlockPart) → block.max ≡ t → EndBy t blocks → EndBy t (blocks ++ block ∷ [])
ends_more t [] block is ends = (ap (λ m. int_le m t) is ∙ self t, tt)
ends_more t (b ∷ bs) block is ends = (ends.0, ends_more t bs block is ends.1)

ends_after : (t : ℤ) (s : SnapshotParts) (blocks : List BlockPart) → IsSoundSnapshot s → int_lt s.floor t ≡ true → AreCutBlocks t s blocks → EndBy t blocks
ends_after t s blocks sound up cases =
    let old : EndBy t s.blocks = ends_later s.floor t s.blocks up sound.ends in
    elim cases [
      | inl e ↦ subst (EndBy t) (sym e.1) old
      | inr h ↦ subst (EndBy t) (sym h.added) (ends_more t s.blocks h.block h.is.max old)
    ]

pub cut_is_sound : (t : ℤ) (s : SnapshotParts) (blocks : List BlockPart) → IsSoundSnapshot s → is_time t ≡ true → int_lt s.floor t ≡ true → AreCutBlocks t s blocks → IsSoundSnapshot (snapshot_cut t blocks s)
cut_is_sound t s blocks sound time up cases = record {
  time = time;
  ends = ends_after t s blocks sound up cases;
  few = few_after t s blocks sound cases;
  head = IsSoundHead-head_cut s.floor t s.head sound.head;
  blocks = none_above_cut t blocks s sound (holds_of t s blocks cases) up;
}

pub cut_keeps : (t : ℤ) (s : SnapshotParts) (blocks : List BlockPart) → AreCutBlocks t s blocks → KeepsBlocks (cut t) s blocks
cut_keeps t s blocks cases = elim cases [
  | inl e ↦ inl e.1
  | inr h ↦ inr (h.block, h.added, h.is)
]
