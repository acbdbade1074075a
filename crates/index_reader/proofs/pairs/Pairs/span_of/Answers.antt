use Rattle.std.proofs.Common.{sym}
use Rattle.index_reader.specs.Seen.{strings_of}
use Rattle.index_reader.proofs.Spans.{no_values, values_between}
use Rattle.index_reader.proofs.pairs.Pairs.span_of.Goals as goal

pub returns-in_default-clause-values : goal.returns-in_default-clause-values
returns-in_default-clause-values c =
    no_values (strings_of c.args.self.now.symbols.texts.items) c.args.name.now
    c.args.self.now.keys.pairs.items c.args.self.now.inside
    (sym (rw c.as_bytes.ensures.value at c.in_default.ensures.exact))

pub returns-clause-within : goal.returns-clause-within
returns-clause-within c = (
  (values_between (strings_of c.args.self.now.symbols.texts.items) c.args.name.now
      c.args.self.now.keys.pairs.items c.in-Some.symbol _ _ c.args.self.now.symbols.order
      c.args.self.now.inside
      (sym (rw c.as_bytes.ensures.value at c.in-Some.ensures.exact)) c.count_below.ensures.within
      c.count_below-2.ensures.within c.count_below.ensures.below c.count_below.ensures.above
      c.count_below-2.ensures.below c.count_below-2.ensures.above).0,
  c.count_below-2.ensures.within,
)

pub returns-clause-values : goal.returns-clause-values
returns-clause-values c =
    (values_between (strings_of c.args.self.now.symbols.texts.items) c.args.name.now
    c.args.self.now.keys.pairs.items c.in-Some.symbol _ _ c.args.self.now.symbols.order
    c.args.self.now.inside
    (sym (rw c.as_bytes.ensures.value at c.in-Some.ensures.exact)) c.count_below.ensures.within
    c.count_below-2.ensures.within c.count_below.ensures.below c.count_below.ensures.above
    c.count_below-2.ensures.below c.count_below-2.ensures.above).1
