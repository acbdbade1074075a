use Rattle.std.proofs.Common.{refl, sym, ◌∙◌}
use Rattle.index_reader.specs.Indexes.{Series}
use Rattle.prometheus_block.proofs.RowAfter.{row_after, at_series, no_row, a_kept_row}
use Rattle.prometheus_block.proofs.RowAfter.{one_more_placed}
use Rattle.prometheus_block.proofs.rows.keep_series.Goals as goal

pub returns-then-has_none-clause-found : goal.returns-then-has_none-clause-found
returns-then-has_none-clause-found g c = λ s e.
    let series = c.args.wanted.now.index.now.series in
    row_after _ c.args.wanted.now s _ _ _ _ c.in_ok-floats.floats.items _ c.chunks_at.result.now _
    _ _ c.in_default.ensures.ok c.as_slice.ensures.value c.in_ok-samples.ensures.items
    (at_series (λ (x : Series). x.chunks) series c.args.at _ s c.chunks_at.ensures e)
    c.in_ok-floats.ensures.found
    (record {
      form = refl;
      times = refl;
      deletions = refl;
      reference =
          at_series (λ (x : Series). x.reference) series c.args.at _ s c.reference_at.ensures e;
    })
    (no_row s.labels _ _ _ c.deref.ensures.value (sym c.has_none.ensures ∙ c.if-has_none.true))

pub returns-then-has_none-clause-placed : goal.returns-then-has_none-clause-placed
returns-then-has_none-clause-placed g c = λ all. all

pub returns-clause-found : goal.returns-clause-found
returns-clause-found g c = λ s e.
    let series = c.args.wanted.now.index.now.series in
    row_after _ c.args.wanted.now s _ _ _ _ c.in_ok-floats.floats.items _ c.chunks_at.result.now _
    _ _ c.in_default.ensures.ok c.as_slice.ensures.value c.in_ok-samples.ensures.items
    (at_series (λ (x : Series). x.chunks) series c.args.at _ s c.chunks_at.ensures e)
    c.in_ok-floats.ensures.found
    (record {
      form = refl;
      times = refl;
      deletions = refl;
      reference =
          at_series (λ (x : Series). x.reference) series c.args.at _ s c.reference_at.ensures e;
    })
    (a_kept_row series s c.args.at _ _ _ _ _ e refl refl c.deref.ensures.value
    (sym c.has_none.ensures ∙ c.if-has_none.false) c.in_ok-push.ensures.items)

pub returns-clause-placed : goal.returns-clause-placed
returns-clause-placed g c = λ all.
    one_more_placed c.args.wanted.now.index.now.series c.args.at _ _ _ c.requires.inside refl
    c.in_ok-push.ensures.items all
