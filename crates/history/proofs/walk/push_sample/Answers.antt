use Rattle.std.proofs.Common.{◌≡◌, true, false, ap, sym, ◌∙◌}
use Rattle.labels.specs.Labels.{Labels, same_labels}
use Rattle.labels.specs.Rows.{Row}
use Rattle.history.proofs.Pushes.{push_same, push_other}
use Rattle.history.proofs.walk.push_sample.Goals.{then-eq, else-eq+in_ok-push-3}
use Rattle.history.proofs.walk.push_sample.Goals as goal

pub returns : goal.returns
returns c =
    let l : Labels = c.args.labels in
    let last : Row = c.in-Some.last in
    elim c.if-eq.branch [
      | then-eq w ↦
          let same : same_labels last.0 l ≡ true =
          ap (λ (k : Labels). same_labels k l) (sym c.labels-2.ensures)
          ∙ sym c.eq.ensures
          ∙ w.if-eq.true in
          push_same l c.args.sample c.args.rows.now.items c.pop.new.self.items c.if-eq.rows.items
          c.push-3.new.self.items last c.new-2.result c.if-eq.samples.items c.push-2.new.self.items
          c.in-Some.ensures.items same (ap (λ v. v.items) w.rows-is)
          (ap (λ v. v.items) w.samples-is ∙ ap (λ (r : Row). r.1) w.into_parts.ensures)
          c.in_ok-push-4.ensures.items c.new-2.ensures c.in_ok-push-5.ensures.items
      | else-eq+in_ok-push-3 w ↦
          let other : same_labels last.0 l ≡ false =
          ap (λ (k : Labels). same_labels k l) (sym c.labels-2.ensures)
          ∙ sym c.eq.ensures
          ∙ w.if-eq.false in
          push_other l c.args.sample c.args.rows.now.items c.pop.new.self.items c.if-eq.rows.items
          c.push-3.new.self.items last c.new-2.result c.if-eq.samples.items c.push-2.new.self.items
          c.in-Some.ensures.items other (ap (λ v. v.items) w.rows-is ∙ w.in_ok-push-3.ensures.items)
          (ap (λ v. v.items) w.samples-is ∙ c.new-samples.ensures.items)
          c.in_ok-push-4.ensures.items c.new-2.ensures c.in_ok-push-5.ensures.items
    ]
