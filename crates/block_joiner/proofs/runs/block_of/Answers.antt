use Rattle.std.proofs.Common.{◌≡◌, List, ℕ, ap, subst, sym, ◌∙◌}
use Rattle.std.specs.Prelude.{Result, Ok, Err}
use Rattle.block.specs.Grammar.{IsBlock}
use Rattle.block_writer.specs.SpellRows.{SpellRows}
use Rattle.labels.specs.Parts.{Part, rows_in}
use Rattle.block_joiner.proofs.runs.block_of.Goals as goal

abbrev part_or : {E : Type 0} → Part → Result Part E → Part
part_or other (Ok part) = part
part_or other (Err e) = other

pub returns-in-Ok-open : goal.returns-in-Ok-open
returns-in-Ok-open c =
    let range = c.args.range in
    let index = c.in-Ok.files.index.items in
    let chunks = c.in-Ok.files.chunks.items in
    let tombstones = c.in-Ok.files.tombstones.items in
    let made : SpellRows range index chunks tombstones c.args.rows.now =
    c.in-Ok.ensures.block range c.requires.ranged c.requires.within in
    let spelled : IsBlock range c.deref.result.now chunks c.deref-2.result.now made.part =
    subst (λ (xs : List ℕ). IsBlock range xs chunks c.deref-2.result.now made.part)
    (sym c.deref.ensures.value)
    (subst (λ (xs : List ℕ). IsBlock range index chunks xs made.part) (sym c.deref-2.ensures.value)
    made.spelled) in
    let same : made.part ≡ c.in-Ok-open.block.part =
    ap (part_or made.part) (c.in-Ok-open.ensures.only made.part spelled) in
    record { rows = ap rows_in (sym same) ∙ made.exactly }
