use Rattle.std.proofs.Common.{sym, ◌∙◌}
use Rattle.double_text.proofs.Patterns.{no_nan}
use Rattle.page.proofs.scale.double_of.Goals as goal

pub float_from_bits-result : goal.float_from_bits-result
float_from_bits-result c = no_nan c.restored-bits.result (sym c.is_nan.ensures ∙ c.if-is_nan.false)
