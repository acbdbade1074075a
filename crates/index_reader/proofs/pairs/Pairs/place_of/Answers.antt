use Rattle.std.proofs.Common.{sym}
use Rattle.index_reader.specs.Seen.{strings_of}
use Rattle.index_reader.proofs.Spans.{if_none, no_name, no_value, pair_found, pair_absent}
use Rattle.index_reader.proofs.pairs.Pairs.place_of.Goals as goal

pub returns-in_err-first-clause-absent : goal.returns-in_err-first-clause-absent
returns-in_err-first-clause-absent c =
    if_none c.from_residual.result (no_name (strings_of c.args.self.now.symbols.texts.items)
    c.args.self.now.keys.pairs.items c.args.name.now c.args.value.now c.args.self.now.inside
    (sym (rw c.as_bytes.ensures.value at c.in_err-first.ensures.exact)))

pub returns-in_err-second-clause-absent : goal.returns-in_err-second-clause-absent
returns-in_err-second-clause-absent c =
    if_none c.from_residual-in_err-second.result (no_value
    (strings_of c.args.self.now.symbols.texts.items)
    c.args.self.now.keys.pairs.items c.args.name.now c.args.value.now c.args.self.now.inside
    (sym (rw c.as_bytes-2.ensures.value at c.in_err-second.ensures.exact)))

pub returns-clause-found : goal.returns-clause-found
returns-clause-found c =
    pair_found (strings_of c.args.self.now.symbols.texts.items) c.args.self.now.keys.pairs.items
    c.args.name.now c.args.value.now c.in_ok-first.first c.in_ok-second.second c.place_of.result
    (sym (rw c.as_bytes.ensures.value at c.in_ok-first.ensures.exact))
    (sym (rw c.as_bytes-2.ensures.value at c.in_ok-second.ensures.exact))
    c.place_of.ensures.exact

pub returns-clause-absent : goal.returns-clause-absent
returns-clause-absent c =
    pair_absent (strings_of c.args.self.now.symbols.texts.items) c.args.self.now.keys.pairs.items
    c.args.name.now c.args.value.now c.in_ok-first.first c.in_ok-second.second c.place_of.result
    c.args.self.now.symbols.order c.args.self.now.keys.rising c.args.self.now.inside
    (sym (rw c.as_bytes.ensures.value at c.in_ok-first.ensures.exact))
    (sym (rw c.as_bytes-2.ensures.value at c.in_ok-second.ensures.exact))
    c.place_of.ensures.exact
