use Rattle.std.proofs.Common.{◌≡◌, ℤ, List, Some, true, refl, sym, ap, subst, ◌∙◌}
use Rattle.std.specs.Prelude.{unwrap_or}
use Rattle.std.specs.Option.{IsSome}
use Rattle.labels.specs.Parts.{Part, rows_in}
use Rattle.labels.specs.Rows.{Row}
use Rattle.block_writer.specs.PartRows.{part_rows}
use Rattle.block_writer.specs.SpellRows.{AreWithin}
use Rattle.block_rewriter.specs.Rows.{are_few, full_rows}
use Rattle.block_rewriter.proofs.Full.{within_range, writable}
use Rattle.block_rewriter.proofs.rewriting.rewrite.Goals as goal

some_is : {X : Type 0} (x y : X) → Some x ≡ Some y → x ≡ y
some_is x y e = ap (λ o. unwrap_or o x) e

pub unwrap-rows-requires : goal.unwrap-rows-requires
unwrap-rows-requires c =
    let part : Part = c.args.block.now.part in
    let given : c.new.result ≡ Some (full_rows (rows_in part)) =
    c.new.ensures ∙ ap part_rows c.in_ok-rows.ensures
    ∙ writable part c.range-range.ensures.is_part c.are_in_label_order.ensures in
    subst IsSome (sym given) refl

pub files_of-requires-clause-within : goal.files_of-requires-clause-within
files_of-requires-clause-within c =
    let part : Part = c.args.block.now.part in
    let rows : List Row = c.in_ok-rows.rows.items in
    let is : rows ≡ full_rows (rows_in part) = c.in_ok-rows.ensures in
    let few : are_few rows ≡ true =
    ap are_few (sym c.deref.ensures.value) ∙ sym c.are_few.ensures ∙ c.if-not-are_few.false in
    let given : c.new.result ≡ Some (full_rows (rows_in part)) =
    c.new.ensures ∙ ap part_rows is
    ∙ writable part c.range-range.ensures.is_part c.are_in_label_order.ensures in
    let same : rows ≡ c.unwrap-rows.result =
    is ∙ some_is (full_rows (rows_in part)) c.unwrap-rows.result (sym given ∙ c.unwrap-rows.ensures) in
    subst (λ (rs : List Row). AreWithin c.range-range.result rs) same
    (subst (λ (r : ℤ × ℤ). AreWithin r rows) (sym c.range-range.ensures.range)
    (within_range c.args.block.now.range part rows c.range-range.ensures.inside is few))
