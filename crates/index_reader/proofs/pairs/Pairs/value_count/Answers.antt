use Rattle.index_reader.specs.Seen.{strings_of}
use Rattle.index_reader.proofs.Spans.{values_counted}
use Rattle.index_reader.proofs.pairs.Pairs.value_count.Goals as goal

pub returns : goal.returns
returns c =
    values_counted (strings_of c.args.self.now.symbols.texts.items) c.args.name.now
    c.args.self.now.keys.pairs.items _ _ c.span_of-start.ensures.within.0
    c.span_of-start.ensures.within.1 c.span_of-start.ensures.values
