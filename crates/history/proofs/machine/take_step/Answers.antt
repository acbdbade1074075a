use Rattle.std.proofs.Common.{refl, sym, ap, subst, ◌∙◌}
use Rattle.std.proofs.lemmas.Result.{IfOk-weaker}
use Rattle.labels.specs.Parts.{content_of}
use Rattle.head.specs.Heads.{world_of, parts_of}
use Rattle.history.specs.declared.reply.Reply.TheVariants.{Rows}
use Rattle.matchers.specs.Queries.{selected_by}
use Rattle.history.specs.Replies.{IsStep, machine_at, world_after}
use Rattle.history.specs.Shown.{step_of}
use Rattle.history.specs.Steps.{Step}
use Rattle.history.proofs.machine.take_step.Goals as goal

pub returns-in_ok-append-in-Append : goal.returns-in_ok-append-in-Append
returns-in_ok-append-in-Append c =
    let w = world_of c.args.at.now in
    subst (λ (step : Step). IsStep (machine_at w c.args.held.now) step
    c.in_ok-append-in-Append.field-0 (machine_at w c.append.new.held))
    (ap (step_of c.parts-actor.result.0) (sym c.in-Append.is) ∙ c.parts-actor.ensures)
    (c.in_ok-append-in-Append.ensures w)

pub returns-in-Change : goal.returns-in-Change
returns-in-Change c =
    IfOk-weaker c.change.result _ _ (λ r is.
    subst (λ (step : Step). IsStep (machine_at (world_of c.args.at.now) c.args.held.now) step r.0
    (machine_at (world_after c.args.at.now r.1) c.args.held.now))
    (ap (step_of c.parts-actor.result.0) (sym c.in-Change.is) ∙ c.parts-actor.ensures)
    (is c.args.held.now c.parts-actor.result.0)) c.change.ensures

pub returns-in_ok-rows_of-in-Query : goal.returns-in_ok-rows_of-in-Query
unfolding world_of
returns-in_ok-rows_of-in-Query c =
    let m = machine_at (world_of c.args.at.now) c.args.held.now in
    subst (λ (step : Step). IsStep m step (Rows c.in_ok-rows_of-in-Query.field-0) m)
    (ap (step_of c.parts-actor.result.0) (sym c.in-Query.is) ∙ c.parts-actor.ensures)
    (record {
      answer = (
        selected_by c.in-Query.query (content_of (parts_of c.args.at.now)),
        refl,
        c.in_ok-rows_of-in-Query.ensures,
      );
      after = refl;
    })
