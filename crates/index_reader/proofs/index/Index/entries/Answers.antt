use Rattle.std.proofs.Common.{◌≡◌, List, [], ap, subst}
use Rattle.index_reader.specs.Seen.{strings_of}
use Rattle.index_reader.specs.Indexes.{Indexed, references_with}
use Rattle.index_reader.specs.Indexes as indexes
use Rattle.index_reader.specs.KeptIndex.{all_in}
use Rattle.index_reader.proofs.Held.{listed_entry}
use Rattle.index_reader.proofs.Spans.{if_none, listed_at, none_listed}
use Rattle.index_reader.proofs.index.Index.entries.Goals as goal

pub returns-in_err-at-clause-none : goal.returns-in_err-at-clause-none
returns-in_err-at-clause-none c =
    let x = c.self.inside in
    let a =
    none_listed (strings_of x.pairs.symbols.texts.items) x.pairs.keys.pairs.items
    (c.args.name.now, c.args.value.now) c.in_err-at.ensures.absent in
    if_none c.from_residual.result
    (subst (λ (ss : List indexes.Series). references_with c.args.name.now c.args.value.now ss ≡ [])
    (ap (λ (y : Indexed). y.series) c.self.view_is)
    (c.self.invariant.listing.absent c.args.name.now c.args.value.now a))

pub returns-clause-listed : goal.returns-clause-listed
returns-clause-listed c =
    let x = c.self.inside in
    let f =
    listed_at (strings_of x.pairs.symbols.texts.items) x.pairs.keys.pairs.items c.in_ok-at.at
    (c.args.name.now, c.args.value.now) c.in_ok-at.ensures.found in
    subst (λ (ss : List indexes.Series). c.entries_at.result ≡ (
      references_with c.args.name.now c.args.value.now ss,
      0,
    )) (ap (λ (y : Indexed). y.series) c.self.view_is)
    (listed_entry (strings_of x.pairs.symbols.texts.items) x.pairs.keys.pairs.items
    (all_in (strings_of x.pairs.symbols.texts.items) x.labels.items x.chunks.items x.series.items)
    x.lists c.self.invariant.listing c.args.name.now c.args.value.now c.in_ok-at.at f.0 f.1
    c.entries_at.result c.entries_at.ensures.list c.entries_at.ensures.unread)
