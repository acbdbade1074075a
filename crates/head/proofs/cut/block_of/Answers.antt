use Rattle.std.proofs.Common.{◌≡◌, List, ℕ, ℤ, ap, sym, ◌∙◌, subst}
use Rattle.std.specs.Prelude.{Result, Ok, Err, if◌then◌else◌}
use Rattle.labels.specs.Parts.{Part, rows_in}
use Rattle.labels.specs.Rows.{Row, AreRows}
use Rattle.block.specs.Grammar.{IsBlock}
use Rattle.block_writer.specs.SpellRows.{SpellRows}
use Rattle.block_writer.specs.Writing.{chunks_text}
use Rattle.block_writer.specs.Written.{IsWrittenIndex}
use Rattle.head.specs.Refusals.{limit}
use Rattle.head.proofs.Fitting.{written_fit, long_unfit}
use Rattle.head.proofs.cut.block_of.Goals as goal

abbrev part_or : {E : Type 0} → Part → Result Part E → Part
part_or other (Ok part) = part
part_or other (Err e) = other

pub returns-in-Err-Limit-clause-refused : goal.returns-in-Err-Limit-clause-refused
returns-in-Err-Limit-clause-refused c =
    ap (λ b. if b then Ok tt else Err limit) (long_unfit c.args.rows.now (rw c.in-Err-Limit.field-0-is at c.in-Err-Limit.ensures.reason))

pub returns-in-Ok-open-clause-block : goal.returns-in-Ok-open-clause-block
returns-in-Ok-open-clause-block c = λ content are.
    let rows : List Row = c.args.rows.now in
    let index : List ℕ = c.in-Ok.files.index.items in
    let chunks : List ℕ = c.in-Ok.files.chunks.items in
    let tombstones : List ℕ = c.in-Ok.files.tombstones.items in
    let made : SpellRows c.args.range index chunks tombstones rows = c.in-Ok.ensures.block c.args.range c.requires.ranged c.requires.within in
    let part : Part = c.in-Ok-open.block.part in
    let range_is : c.in-Ok-open.block.range ≡ c.args.range = c.in-Ok-open.ensures.range in
    let spelled : IsBlock c.args.range c.deref.result.now chunks c.deref-2.result.now made.part =
    subst (λ (xs : List ℕ). IsBlock c.args.range xs chunks c.deref-2.result.now made.part) (sym c.deref.ensures.value)
    (subst (λ (xs : List ℕ). IsBlock c.args.range index chunks xs made.part) (sym c.deref-2.ensures.value) made.spelled) in
    let same : made.part ≡ part = ap (part_or made.part) (c.in-Ok-open.ensures.only made.part spelled) in
    let rows_are : rows ≡ rows_in part = sym made.exactly ∙ ap rows_in same in
    record {
      min = ap (λ (r : ℤ × ℤ). r.0) range_is;
      max = ap (λ (r : ℤ × ℤ). r.1) range_is;
      rows = subst (λ (rs : List Row). AreRows rs content) rows_are are;
      index = index;
      chunks = chunks;
      tombstones = tombstones;
      index_written = subst (λ (rs : List Row). IsWrittenIndex rs index) rows_are c.in-Ok.ensures.index;
      chunks_written = c.in-Ok.ensures.chunks ∙ ap chunks_text rows_are;
      spelled = subst (IsBlock c.args.range index chunks tombstones) same made.spelled;
    }

pub returns-in-Ok-open-clause-fit : goal.returns-in-Ok-open-clause-fit
returns-in-Ok-open-clause-fit c = written_fit c.args.rows.now c.in-Ok.files.index.items c.in-Ok.files.chunks.items c.in-Ok.ensures.index c.in-Ok.ensures.chunks c.in-Ok.ensures.short c.in-Ok.ensures.chunks_short
