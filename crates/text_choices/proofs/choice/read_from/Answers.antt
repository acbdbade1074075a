use Rattle.std.proofs.Common.{◌++◌, ◌∷◌, [], map, sym, ap, ◌∙◌}
use Rattle.text_choices.proofs.Steps.{refuse_step, goes_step, bar_step, put_step, bad_end, good_end, utf8_next}
use Rattle.text_choices.proofs.choice.read_from.Goals as goal

pub returns-in-Refuse-clause-none : goal.returns-in-Refuse-clause-none
returns-in-Refuse-clause-none c =
    refuse_step _ _ _ _ _ _ _ _ c.loop-c.invariant.utf8 c.in-Some.ensures.steps.0 c.in-Some.ensures.steps.2 (sym c.step.ensures ∙ c.in-Refuse.is) c.loop-c.invariant.same

pub loop-c-preserved-in-Goes : goal.loop-c-preserved-in-Goes
loop-c-preserved-in-Goes c = record {
  same = goes_step _ _ _ _ _ _ _ _ _ c.loop-c.invariant.utf8 c.in-Some.ensures.steps.0 c.in-Some.ensures.steps.2 (sym c.step.ensures ∙ c.in-Goes.is) c.loop-c.invariant.same;
  utf8 = utf8_next _ _ _ c.loop-c.invariant.utf8 c.in-Some.ensures.steps.0;
  shared = c.loop-c.invariant.shared;
}

pub loop-c-preserved-in-Bar : goal.loop-c-preserved-in-Bar
loop-c-preserved-in-Bar c = record {
  same = bar_step _ _ _ _ _ _ _ _ _ _ c.loop-c.invariant.utf8 c.in-Some.ensures.steps.0 c.in-Some.ensures.steps.2 (sym c.step.ensures ∙ c.in-Bar.is) c.loop-c.invariant.same
      (c.in_ok-add-in-Bar.ensures.added
      ∙ ap (λ v. map (λ one. one.atoms.items) c.loop-c.alternatives.items ++ v.items ∷ []) c.replace.ensures.value)
      (ap (λ v. v.items) c.replace.ensures.after ∙ c.new.ensures.items);
  utf8 = utf8_next _ _ _ c.loop-c.invariant.utf8 c.in-Some.ensures.steps.0;
  shared = c.in_ok-add-in-Bar.ensures.shared;
}

pub loop-c-preserved : goal.loop-c-preserved
loop-c-preserved c = record {
  same = put_step _ _ _ _ _ _ _ _ _ _ c.loop-c.invariant.utf8 c.in-Some.ensures.steps.0 c.in-Some.ensures.steps.2 (sym c.step.ensures ∙ c.in-Put.is) c.loop-c.invariant.same
      c.in_ok-push-in-Put.ensures.items;
  utf8 = utf8_next _ _ _ c.loop-c.invariant.utf8 c.in-Some.ensures.steps.0;
  shared = c.loop-c.invariant.shared;
}

pub returns-then-not-may_end-clause-none : goal.returns-then-not-may_end-clause-none
returns-then-not-may_end-clause-none c =
    bad_end _ _ _ _ _ _ c.in-None.ensures.steps.0.0 (sym c.may_end.ensures ∙ c.if-not-may_end.true) c.loop-c.invariant.same

pub returns-clause-some : goal.returns-clause-some
returns-clause-some c =
    good_end _ _ _ _ _ _ _ c.in-None.ensures.steps.0.0 (sym c.may_end.ensures ∙ c.if-not-may_end.false) c.loop-c.invariant.same
    c.in_ok-add.ensures.added
