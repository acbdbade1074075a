use Rattle.std.proofs.Common.{arith}
use Rattle.index_reader.specs.Seen.{strings_of}
use Rattle.index_reader.proofs.Spans.{value_in, value_there}
use Rattle.index_reader.proofs.pairs.Pairs.value_at.Goals as goal

pub overflow_add-place : goal.overflow_add-place
overflow_add-place c = omega (
  arith,
  value_in (strings_of c.args.self.now.symbols.texts.items) c.args.name.now
      c.args.self.now.keys.pairs.items _ _ c.args.i c.span_of-start.ensures.within.0
      c.span_of-start.ensures.within.1 c.span_of-start.ensures.values c.requires,
)

pub returns : goal.returns
returns c =
    value_there (strings_of c.args.self.now.symbols.texts.items) c.args.name.now
    c.args.self.now.keys.pairs.items _ _ c.args.i _ _ c.span_of-start.ensures.within.0
    c.span_of-start.ensures.within.1 c.span_of-start.ensures.values c.requires
    c.pair_at-key.ensures c.text_in.ensures
