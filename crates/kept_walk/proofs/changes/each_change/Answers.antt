use Rattle.std.proofs.Common.{◌≡◌, ◌++◌, ◌∷◌, [], ap, ◌∙◌, map, length, sym, subst, arith, rules}
use Rattle.std.proofs.lemmas.List.{map_push}
use Rattle.journal.specs.Contents.{contents_in}
use Rattle.kept_walk.specs.Kept.{event_of}
use Rattle.kept_walk.specs.Numbered.{AreBytes, Names}
use Rattle.kept_walk.specs.Refusals.{DeniesEvents}
use Rattle.kept_walk.proofs.FromNames.{from_end, from_turn}
use Rattle.kept_walk.proofs.Stops.{denied}
use Rattle.kept_walk.proofs.changes.each_change.Goals as goal

no_bytes : AreBytes []
no_bytes n i = omega arith

pub loop-content-init : goal.loop-content-init
loop-content-init c = record {
  so_far = rw c.new-changes.ensures.items (sym c.new-names.ensures);
  bytes = subst (λ (ns : Names). AreBytes ns) (sym c.new-names.ensures) no_bytes;
}

pub returns-in-Err : goal.returns-in-Err
returns-in-Err c =
    let vs = c.args.contents.now in
    let l = c.loop-content in
    let is = c.deref.ensures.value ∙ ap (λ v. v.items) c.content-item.is in
    let counted : c.len.result ≡ length l.changes.items = search rules in
    subst (DeniesEvents (contents_in vs)) (sym c.refused_at.ensures)
    (denied vs l.content-index c.content-item.result c.deref.result.now l.changes.items l.names
    c.len.result (omega (arith, c.loop-content-test.true)) is l.invariant.so_far counted
    c.in-Err.fault c.read_change.new.names c.in-Err.ensures.found)

pub loop-content-preserved : goal.loop-content-preserved
loop-content-preserved c =
    let vs = c.args.contents.now in
    let l = c.loop-content in
    let is = c.deref.ensures.value ∙ ap (λ v. v.items) c.content-item.is in
    let more : map event_of c.push.new.self.items
    ≡ map event_of l.changes.items ++ event_of c.in-Ok.change ∷ [] =
    rw c.in_ok-push-in-Ok.ensures.items (map_push _ l.changes.items c.in-Ok.change) in
    record {
      so_far = rw more (from_turn vs l.content-index c.content-item.result c.deref.result.now
          (map event_of l.changes.items) (event_of c.in-Ok.change) l.names
          c.read_change.new.names (omega (arith, c.loop-content-test.true)) is
          l.invariant.so_far c.in-Ok.ensures.found);
      bytes = c.in-Ok.ensures.bytes;
    }

pub returns : goal.returns
returns c =
    let l = c.loop-content in (
      l.names,
      from_end c.args.contents.now l.content-index (map event_of l.changes.items) l.names
          (omega (arith, c.loop-content-test.false)) l.invariant.so_far,
    )
