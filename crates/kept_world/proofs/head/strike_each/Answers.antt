use Rattle.std.proofs.Common.{arith, sym, ap, ◌∙◌, slice_set}
use Rattle.std.proofs.lemmas.List.Edits.{map_over_more}
use Rattle.matchers.specs.Satisfies.{satisfies_all}
use Rattle.matchers.specs.Views.{QueryView}
use Rattle.kept_world.specs.States.{struck_series}
use Rattle.kept_world.proofs.head.strike_each.Goals as goal

pub loop-one-preserved : goal.loop-one-preserved
loop-one-preserved c =
    let o = c.args.choice.now in
    let step = struck_series (satisfies_all o.matchers) o.from o.to in
    record {
      struck =
          ap (λ r. slice_set c.loop-one.series c.loop-one.one-index r)
          (c.strike.ensures.struck
          ∙ ap (λ r. struck_series (satisfies_all c.loop-one.choice.matchers) c.loop-one.choice.from c.loop-one.choice.to r) (sym c.one-item.is)
          ∙ ap (λ (q : QueryView). struck_series (satisfies_all q.matchers) q.from q.to c.one-item.result) c.loop-one.invariant.same)
          ∙ map_over_more step c.args.series.now c.loop-one.series c.loop-one.one-index c.one-item.result (omega arith) c.loop-one.invariant.struck c.one-item.is;
      same = c.strike.ensures.same ∙ c.loop-one.invariant.same;
    }
