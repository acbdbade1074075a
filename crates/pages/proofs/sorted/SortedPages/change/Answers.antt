use Rattle.std.proofs.Common.{◌≡◌, ◌∙◌, OnOk, length, ap, sym, subst}
use Rattle.pages.specs.Pages.{top_groups, IsChanged}
use Rattle.pages.specs.Sorted.{entries_of, place_of, HasEntry}
use Rattle.pages.proofs.Clones.{in_either}
use Rattle.pages.proofs.Changes.{changed_count}
use Rattle.pages.proofs.Counts.{entry_within}
use Rattle.pages.proofs.sorted.SortedPages.change.Goals as goal

pub invariant_of-self : goal.invariant_of-self
invariant_of-self g c =
    let held : HasEntry (top_groups g.E.Entry.item c.self.inside.top) c.args.spot = subst (λ groups. HasEntry groups c.args.spot) (sym c.self.view_is) c.requires in
    let same : length (entries_of (top_groups g.E.Entry.item c.change_at.new.top)) ≡ length (entries_of (top_groups g.E.Entry.item c.self.inside.top)) =
    in_either c.change_at.result (changed_count (g.C.WholeChange.after c.args.change.now) _ (place_of (top_groups g.E.Entry.item c.self.inside.top) c.args.spot) _ (entry_within (top_groups g.E.Entry.item c.self.inside.top) c.args.spot held)) (ap (λ groups. length (entries_of groups))) c.change_at.ensures.ok c.change_at.ensures.err in
    (c.change_at.ensures.groups, c.self.invariant.1 ∙ sym same, c.self.invariant.2)

pub returns-clause-ok : goal.returns-clause-ok
returns-clause-ok g c =
    subst (λ groups. OnOk c.change_at.result (IsChanged (g.C.WholeChange.after c.args.change.now) (entries_of groups) (place_of groups c.args.spot) (entries_of (top_groups g.E.Entry.item c.change_at.new.top)))) c.self.view_is c.change_at.ensures.ok
