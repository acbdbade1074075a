use Rattle.std.proofs.Common.{◌≡◌, ◌≢◌, ◌≤◌, ◌<◌, ◌+◌, ℕ, ℤ, true, false, Bool, List, [], ◌∷◌, ◌++◌, map, length, refl, sym, ◌∙◌, ap, subst, arith, rules, inr, Some, None, to_z, of_z, w64}
use Rattle.std.specs.Prelude.{◌==◌, ◌&&◌, int_lt, if◌then◌else◌, unwrap_or}
use Rattle.std.specs.Option.{IsSome}
use Rattle.std.specs.Arc.{arc_value}
use Rattle.std.proofs.lemmas.Bool.Decides.{nat_tests}
use Rattle.std.proofs.lemmas.List.{length-map}
use Rattle.labels.specs.Contents.{is_time}
use Rattle.labels.specs.Rows.{Row, AreRows}
use Rattle.block.specs.Ranges.{range_of}
use Rattle.block_writer.specs.PartRows.{are_part_rows, part_rows}
use Rattle.block_writer.specs.SpellRows.{AreWithin}
use Rattle.head.specs.Outcomes.{IsStepRefusal}
use Rattle.head.specs.Blocks.{part_in}
use Rattle.head.specs.Cuts.{leaving, AreLeaving, written_if_fit}
use Rattle.head.specs.Fits.{fits, files_fit}
use Rattle.head.specs.Heads.{BlockPart, SnapshotParts, world_of}
use Rattle.head.specs.Kept.{IsBlockOf}
use Rattle.head.specs.Snapshots.{parts_in}
use Rattle.head.specs.Worlds.{raised, cut_off}
use Rattle.head.proofs.Applies.{answer_same}
use Rattle.head.proofs.CutSteps.{past, off_many, off_written, many_blocks, few_blocks, fits_rows}
use Rattle.head.proofs.Leaving.{some_leave}
use Rattle.head.proofs.cut.blocks_after.Goals as goal

not_empty : (b : Bool) (n m : ℕ) → b ≡ (n == 0) → b ≡ false → m ≡ n → m ≢ 0
not_empty b n m is some same = grind (arith, nat_tests)

-- a range from a time up to a later one
range_is : (from to : ℤ) → int_lt from to ≡ true → is_time from ≡ true → is_time to ≡ true → range_of from to ≡ Some (from, to)
range_is from to up first end = λ i. if up i && (first i && end i) then Some (from, to) else None

rows_are : (rows : List Row) → are_part_rows rows ≡ true → part_rows rows ≡ Some rows
rows_are rows e = ap (λ b. if b then Some rows else None) e

some_is : {X : Type 0} (x y : X) → Some x ≡ Some y → x ≡ y
some_is x y e = ap (λ o. unwrap_or o x) e

pub returns-then-len-ge-MAX_BLOCKS-clause-refused : goal.returns-then-len-ge-MAX_BLOCKS-clause-refused
returns-then-len-ge-MAX_BLOCKS-clause-refused c =
    let rows : List Row = c.in_ok-rows.rows.items in
    let time_is : to_z w64 (of_z w64 c.args.time) ≡ c.args.time = search rules in
    let held : AreLeaving c.args.time c.args.at.now rows = subst (λ t. AreLeaving t c.args.at.now rows) time_is c.in_ok-rows.ensures in
    let some : leaving c.args.time c.args.at.now ≢ [] = some_leave (leaving c.args.time c.args.at.now) rows held.exact (not_empty c.is_empty.result c.in_ok-rows.rows.len (length rows) c.is_empty.ensures c.if-is_empty.false (sym c.in_ok-rows.rows.ok.0)) in
    let count : length c.args.at.now.blocks ≡ c.len.result =
    ap (λ (v : SnapshotParts). length v.blocks) (sym c.at.view_is)
    ∙ length-map (arc_value c.at.inside.blocks).items part_in ∙ sym (arc_value c.at.inside.blocks).ok.0 ∙ sym (c.len.ensures ∙ ap (λ v. v.len) c.deref.ensures) in
    let many : 63 ≤ length c.args.at.now.blocks = omega (arith, count, c.if-len-ge-MAX_BLOCKS.true) in
    off_many (world_of c.args.at.now) c.args.time (leaving c.args.time c.args.at.now) some (many_blocks c.args.at.now many)

pub unwrap-range-requires : goal.unwrap-range-requires
unwrap-range-requires c =
    let s : SnapshotParts = parts_in c.at.inside in
    let floor_is : to_z w64 (of_z w64 c.at.inside.floor) ≡ c.at.inside.floor = search rules in
    let time_fits : to_z w64 (of_z w64 c.args.time) ≡ c.args.time = search rules in
    let up : int_lt s.floor c.args.time ≡ true = subst (λ (v : SnapshotParts). int_lt v.floor c.args.time ≡ true) (sym c.at.view_is) c.requires.up in
    let given : c.new.result ≡ Some (s.floor, c.args.time) = c.new.ensures ∙ (λ i. range_of (floor_is i) (time_fits i)) ∙ range_is s.floor c.args.time up c.at.invariant.time c.requires.timed in
    subst IsSome (sym given) refl

pub block_of-requires-clause-within : goal.block_of-requires-clause-within
block_of-requires-clause-within c =
    let rows : List Row = c.in_ok-rows.rows.items in
    let time_is : to_z w64 (of_z w64 c.args.time) ≡ c.args.time = search rules in
    let held : AreLeaving c.args.time c.args.at.now rows = subst (λ t. AreLeaving t c.args.at.now rows) time_is c.in_ok-rows.ensures in
    let some : leaving c.args.time c.args.at.now ≢ [] = some_leave (leaving c.args.time c.args.at.now) rows held.exact (not_empty c.is_empty.result c.in_ok-rows.rows.len (length rows) c.is_empty.ensures c.if-is_empty.false (sym c.in_ok-rows.rows.ok.0)) in
    let count : length c.args.at.now.blocks ≡ c.len.result =
    ap (λ (v : SnapshotParts). length v.blocks) (sym c.at.view_is)
    ∙ length-map (arc_value c.at.inside.blocks).items part_in ∙ sym (arc_value c.at.inside.blocks).ok.0 ∙ sym (c.len.ensures ∙ ap (λ v. v.len) c.deref.ensures) in
    let s : SnapshotParts = parts_in c.at.inside in
    let floor_is : to_z w64 (of_z w64 c.at.inside.floor) ≡ c.at.inside.floor = search rules in
    let time_fits : to_z w64 (of_z w64 c.args.time) ≡ c.args.time = search rules in
    let up : int_lt s.floor c.args.time ≡ true = subst (λ (v : SnapshotParts). int_lt v.floor c.args.time ≡ true) (sym c.at.view_is) c.requires.up in
    let given : c.new.result ≡ Some (s.floor, c.args.time) = c.new.ensures ∙ (λ i. range_of (floor_is i) (time_fits i)) ∙ range_is s.floor c.args.time up c.at.invariant.time c.requires.timed in
    let range_was : (s.floor, c.args.time) ≡ c.unwrap-range.result = some_is (s.floor, c.args.time) c.unwrap-range.result (sym given ∙ c.unwrap-range.ensures) in
    let floor_was : s.floor ≡ c.args.at.now.floor = ap (λ (v : SnapshotParts). v.floor) c.at.view_is in
    let rows_were : rows ≡ c.unwrap-rows.result = some_is rows c.unwrap-rows.result (sym (c.new-2.ensures ∙ rows_are rows held.writable) ∙ c.unwrap-rows.ensures) in
    subst (λ (rs : List Row). AreWithin c.unwrap-range.result rs) rows_were
    (subst (λ (r : ℤ × ℤ). AreWithin r rows) (ap (λ f. (f, c.args.time)) (sym floor_was) ∙ range_was) held.within)

pub returns-in_err-block-clause-refused : goal.returns-in_err-block-clause-refused
returns-in_err-block-clause-refused c =
    let rows : List Row = c.in_ok-rows.rows.items in
    let time_is : to_z w64 (of_z w64 c.args.time) ≡ c.args.time = search rules in
    let held : AreLeaving c.args.time c.args.at.now rows = subst (λ t. AreLeaving t c.args.at.now rows) time_is c.in_ok-rows.ensures in
    let some : leaving c.args.time c.args.at.now ≢ [] = some_leave (leaving c.args.time c.args.at.now) rows held.exact (not_empty c.is_empty.result c.in_ok-rows.rows.len (length rows) c.is_empty.ensures c.if-is_empty.false (sym c.in_ok-rows.rows.ok.0)) in
    let count : length c.args.at.now.blocks ≡ c.len.result =
    ap (λ (v : SnapshotParts). length v.blocks) (sym c.at.view_is)
    ∙ length-map (arc_value c.at.inside.blocks).items part_in ∙ sym (arc_value c.at.inside.blocks).ok.0 ∙ sym (c.len.ensures ∙ ap (λ v. v.len) c.deref.ensures) in
    let s : SnapshotParts = parts_in c.at.inside in
    let floor_is : to_z w64 (of_z w64 c.at.inside.floor) ≡ c.at.inside.floor = search rules in
    let time_fits : to_z w64 (of_z w64 c.args.time) ≡ c.args.time = search rules in
    let up : int_lt s.floor c.args.time ≡ true = subst (λ (v : SnapshotParts). int_lt v.floor c.args.time ≡ true) (sym c.at.view_is) c.requires.up in
    let given : c.new.result ≡ Some (s.floor, c.args.time) = c.new.ensures ∙ (λ i. range_of (floor_is i) (time_fits i)) ∙ range_is s.floor c.args.time up c.at.invariant.time c.requires.timed in
    let range_was : (s.floor, c.args.time) ≡ c.unwrap-range.result = some_is (s.floor, c.args.time) c.unwrap-range.result (sym given ∙ c.unwrap-range.ensures) in
    let floor_was : s.floor ≡ c.args.at.now.floor = ap (λ (v : SnapshotParts). v.floor) c.at.view_is in
    let rows_were : rows ≡ c.unwrap-rows.result = some_is rows c.unwrap-rows.result (sym (c.new-2.ensures ∙ rows_are rows held.writable) ∙ c.unwrap-rows.ensures) in
    let few : length c.args.at.now.blocks < 63 = omega (arith, count, c.if-len-ge-MAX_BLOCKS.false) in
    let w = world_of c.args.at.now in
    let made = record (raised w c.args.time) { blocks = w.blocks + 1 } in
    let step = off_written w c.args.time (leaving c.args.time c.args.at.now) rows some (few_blocks c.args.at.now few) held.exact in
    let refusal = c.in_err-block.field-0.0 in
    let told : IsStepRefusal refusal (written_if_fit rows) = subst (λ (rs : List Row). IsStepRefusal refusal (written_if_fit rs)) (sym rows_were) c.in_err-block.ensures.refused in
    let h : IsStepRefusal refusal (cut_off fits w c.args.time (leaving c.args.time c.args.at.now)) = subst (IsStepRefusal refusal) (sym step) (answer_same refusal (past made) (λ _. refl) (written_if_fit rows) told) in
    search (rules, h)

pub returns-clause-blocks : goal.returns-clause-blocks
returns-clause-blocks c =
    let rows : List Row = c.in_ok-rows.rows.items in
    let time_is : to_z w64 (of_z w64 c.args.time) ≡ c.args.time = search rules in
    let held : AreLeaving c.args.time c.args.at.now rows = subst (λ t. AreLeaving t c.args.at.now rows) time_is c.in_ok-rows.ensures in
    let some : leaving c.args.time c.args.at.now ≢ [] = some_leave (leaving c.args.time c.args.at.now) rows held.exact (not_empty c.is_empty.result c.in_ok-rows.rows.len (length rows) c.is_empty.ensures c.if-is_empty.false (sym c.in_ok-rows.rows.ok.0)) in
    let count : length c.args.at.now.blocks ≡ c.len.result =
    ap (λ (v : SnapshotParts). length v.blocks) (sym c.at.view_is)
    ∙ length-map (arc_value c.at.inside.blocks).items part_in ∙ sym (arc_value c.at.inside.blocks).ok.0 ∙ sym (c.len.ensures ∙ ap (λ v. v.len) c.deref.ensures) in
    let s : SnapshotParts = parts_in c.at.inside in
    let floor_is : to_z w64 (of_z w64 c.at.inside.floor) ≡ c.at.inside.floor = search rules in
    let time_fits : to_z w64 (of_z w64 c.args.time) ≡ c.args.time = search rules in
    let up : int_lt s.floor c.args.time ≡ true = subst (λ (v : SnapshotParts). int_lt v.floor c.args.time ≡ true) (sym c.at.view_is) c.requires.up in
    let given : c.new.result ≡ Some (s.floor, c.args.time) = c.new.ensures ∙ (λ i. range_of (floor_is i) (time_fits i)) ∙ range_is s.floor c.args.time up c.at.invariant.time c.requires.timed in
    let range_was : (s.floor, c.args.time) ≡ c.unwrap-range.result = some_is (s.floor, c.args.time) c.unwrap-range.result (sym given ∙ c.unwrap-range.ensures) in
    let floor_was : s.floor ≡ c.args.at.now.floor = ap (λ (v : SnapshotParts). v.floor) c.at.view_is in
    let rows_were : rows ≡ c.unwrap-rows.result = some_is rows c.unwrap-rows.result (sym (c.new-2.ensures ∙ rows_are rows held.writable) ∙ c.unwrap-rows.ensures) in
    let few : length c.args.at.now.blocks < 63 = omega (arith, count, c.if-len-ge-MAX_BLOCKS.false) in
    let content = leaving c.args.time c.args.at.now in
    let block : BlockPart = part_in c.in_ok-block.block in
    let exact : AreRows c.unwrap-rows.result content = subst (λ (rs : List Row). AreRows rs content) rows_were held.exact in
    let is : IsBlockOf c.unwrap-range.result.0 c.unwrap-range.result.1 content block = c.in_ok-block.ensures.block content exact in
    inr record {
      some = some;
      room = few;
      fit = fits_rows rows content held.exact ∙ ap files_fit rows_were ∙ c.in_ok-block.ensures.fit;
      block = block;
      added = c.in_ok-with_block.ensures ∙ ap (λ (bs : List BlockPart). bs ++ block ∷ [])
          (ap (map part_in) (c.as_slice.ensures.value ∙ ap (λ v. v.items) c.deref-2.ensures) ∙ ap (λ (v : SnapshotParts). v.blocks) c.at.view_is);
      is = subst (λ (r : ℤ × ℤ). IsBlockOf r.0 r.1 content block) (sym range_was ∙ ap (λ f. (f, c.args.time)) floor_was) is;
    }
