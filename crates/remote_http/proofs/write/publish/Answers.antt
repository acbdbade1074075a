use Rattle.std.proofs.Common.{◌++◌, ◌∷◌, ◌∙◌, [], List, length, sym, ap, subst, refl, arith, append_assoc}
use Rattle.std.specs.Vec.Iter.{into_iter_items}
use Rattle.labels.specs.Rows.{Row}
use Rattle.head.specs.declared.left.Left.{Left}
use Rattle.snapshots.proofs.Held.{publishes_more}
use Rattle.remote_http.specs.Filling.{batches_of}
use Rattle.remote_http.specs.Publishing.{IsPublished}
use Rattle.remote_http.specs.Workers.{worker}
use Rattle.remote_http.proofs.Publishes.{part_published, size_at}
use Rattle.remote_http.proofs.write.publish.Goals as goal

pub then_left-left-requires : goal.then_left-left-requires
then_left-left-requires g c =
    let is = c.loop-part.invariant.rest ∙ ap (λ (ps : List (List Row)). c.loop-part.yielded ++ ps) c.in-Some.ensures.steps.0 in
    let size = size_at c.args.parts.items c.loop-part.yielded (into_iter_items c.next.new.self) c.in-Some.part is in
    let before = c.loop-part.invariant.published.few in
    let more = c.in_ok-more.ensures.few in
    let all = c.requires in
    omega arith

pub loop-part-preserved : goal.loop-part-preserved
loop-part-preserved g c =
    let step = c.in-Some.ensures.steps.0 in
    let size = ap length step in
    let fewer = c.in-Some.ensures.steps.1 in
    let before = c.loop-part.invariant.left in
    record {
      published =
          subst (λ (l : Left). IsPublished g.J.Naming.opening (batches_of (c.loop-part.yielded ++ c.in-Some.part ∷ []))
          (worker c.args.pass.now c.args.seat.now) (worker c.publish_part.new.pass c.publish_part.new.seat) l)
          (sym c.then_left-left.ensures)
          (part_published g.J.Naming.opening c.loop-part.yielded (c.loop-part.yielded ++ c.in-Some.part ∷ []) c.in-Some.part
          (worker c.args.pass.now c.args.seat.now) (worker c.loop-part.pass c.loop-part.seat)
          (worker c.publish_part.new.pass c.publish_part.new.seat) c.loop-part.left c.in_ok-more.more refl
          c.loop-part.invariant.published c.in_ok-more.ensures.part c.in_ok-more.ensures.few);
      held =
          publishes_more g.K.Keeper.holds g.K.Keeper.stays g.J.Naming.before c.args.seat.now c.loop-part.seat c.publish_part.new.seat
          c.loop-part.invariant.held c.publish_part.ensures.held;
      left = omega arith;
      rest =
          c.loop-part.invariant.rest ∙ ap (λ (ps : List (List Row)). c.loop-part.yielded ++ ps) step
          ∙ sym (append_assoc c.loop-part.yielded (c.in-Some.part ∷ []) (into_iter_items c.next.new.self));
    }
