use Rattle.std.proofs.Common.{ℕ, List, [], sym, ap, ◌∙◌}
use Rattle.std.specs.Arc.{arc_value}
use Rattle.labels.proofs.Texts.{pair_total}
use Rattle.pages.specs.Sorted.{entries_of, place_of}
use Rattle.head.proofs.Keyed.{found_hit, found_none}
use Rattle.head.proofs.index.Index.list.Goals as goal

pub returns-in-Ok-clause-some : goal.returns-in-Ok-clause-some
returns-in-Ok-clause-some c =
    sym (found_hit pair_total (c.args.name.now, c.args.value.now) (entries_of c.self.inside.lists) c.args.self.now (place_of c.self.inside.lists c.in-Ok.spot) (arc_value c.at.result.now) c.references.result.now
    c.self.invariant c.self.view_is c.in-Ok.ensures.found c.at.ensures (c.references.ensures ∙ ap (λ (l : (List ℕ × List ℕ) × List ℕ). l.1) c.deref.ensures))

pub returns-in-Err-clause-none : goal.returns-in-Err-clause-none
returns-in-Err-clause-none c =
    sym (found_none pair_total (c.args.name.now, c.args.value.now) (entries_of c.self.inside.lists) c.args.self.now (place_of c.self.inside.lists c.in-Err.field-0) []
    c.self.invariant c.self.view_is c.in-Err.ensures.absent)
