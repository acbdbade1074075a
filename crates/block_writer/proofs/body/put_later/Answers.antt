use Rattle.std.proofs.Common.{◌∙◌}
use Rattle.std.specs.Int.{w64}
use Rattle.std.proofs.lemmas.Int.{to_z-of_z}
use Rattle.block_writer.proofs.Building.{later_is}
use Rattle.block_writer.proofs.body.put_later.Goals as goal

pub returns : goal.returns
returns c =
    later_is c.args.out.now.items c.put_uvarint.new.out.items c.put_uvarint-2.new.out.items
    c.put_varint.new.out.items c.args.before c.args.chunk _ _ _ c.in_ok-put_uvarint.ensures.ok
    c.in_ok-put_uvarint-2.ensures.ok c.in_ok-put_varint.ensures.ok c.gap_of.ensures
    c.span_of.ensures
    (to_z-of_z w64 c.step_of.result (record { sfits = c.step_of.type_inv }) ∙ c.step_of.ensures)
