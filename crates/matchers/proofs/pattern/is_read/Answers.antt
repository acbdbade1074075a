use Rattle.std.specs.Prelude.{map, option_map, string_bytes}
use Rattle.matchers.proofs.Reading.{is_read_if}
use Rattle.matchers.proofs.pattern.is_read.Goals as goal

pub returns : goal.returns
returns c =
    λ given. is_read_if c.args.text.now (λ p. p.hir)
    (λ p. map (option_map string_bytes) p.names.items) c.parse.result
    (rw c.default.ensures at c.parse.ensures.ok) (rw c.is_ok.ensures.value at given)
