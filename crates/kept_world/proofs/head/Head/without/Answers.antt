use Rattle.std.proofs.Common.{sym, subst, ap, ◌∙◌, List}
use Rattle.labels.specs.Labels.{Labels}
use Rattle.matchers.specs.Satisfies.{satisfies_all}
use Rattle.kept_world.specs.Sound.{IsPlaced, label_sets}
use Rattle.kept_world.proofs.Apart.{sets_struck}
use Rattle.kept_world.proofs.head.Head.without.Goals as goal

pub invariant_of-result : goal.invariant_of-result
invariant_of-result c =
    let o = c.args.choice.now in
    subst (λ (ls : List Labels). IsPlaced ls c.self.inside.places)
    (sym (ap label_sets c.strike_all.ensures.struck ∙ sets_struck (satisfies_all o.matchers) o.from o.to c.self.inside.series.items))
    c.self.invariant
