use Rattle.std.proofs.Common.{Option, sym, ap, ◌∙◌, true≢false}
use Rattle.serde_json.specs.Data.{Data}
use Rattle.block.specs.Metas.{or_meta}
use Rattle.block.proofs.Texts.{json_when, json_unless}
use Rattle.block_folder.proofs.values.value_of.Goals as goal

pub returns-in-Ok : goal.returns-in-Ok
returns-in-Ok c =
    let ok = c.in-Ok.ensures.ok in
    ap (λ (d : Option Data). or_meta d) (json_when _ _ ok.0 ok.1)

pub returns-else-is_memory : goal.returns-else-is_memory
returns-else-is_memory c =
    ap (λ (d : Option Data). or_meta d) (json_unless _
    (c.in-Err.ensures.err (λ m. true≢false (sym (c.is_memory.ensures.1 m) ∙ c.if-is_memory.false))))
