use Rattle.std.proofs.Common.{ℕ, List, refl, arith}
use Rattle.std.specs.Prelude.{map}
use Rattle.std.specs.Borrow.{Bor}
use Rattle.std.proofs.lemmas.List.{length-map}
use Rattle.index_reader.specs.References.{references_in}
use Rattle.index_reader.specs.Seen.{bytes_of}
use Rattle.index_reader.proofs.Placing.{mapped_at}
use Rattle.index_reader.proofs.Held.{list_here, moved_on, ended_so}
use Rattle.index_reader.proofs.lists.copy_lists.Goals as goal

pub loop-at-init : goal.loop-at-init
loop-at-init c = rw c.in_ok-copy.ensures refl

pub push-requires-clause-whole : goal.push-requires-clause-whole
push-requires-clause-whole c =
    (list_here c.args.lists.now c.loop-at.at _ c.requires c.slice_at.ensures).0

pub push-requires-clause-increasing : goal.push-requires-clause-increasing
push-requires-clause-increasing c =
    (list_here c.args.lists.now c.loop-at.at _ c.requires c.slice_at.ensures).1

pub loop-at-preserved : goal.loop-at-preserved
loop-at-preserved c =
    let l = c.loop-at in
    rw c.in_ok-push.ensures.ok (moved_on l.copy (map references_in (bytes_of c.args.lists.now)) l.at
    _ _ (mapped_at references_in (bytes_of c.args.lists.now) l.at _ c.slice_at.ensures) refl
    l.invariant)

pub returns : goal.returns
returns c =
    let n = length-map c.args.lists.now (λ (x : Bor (List ℕ)). x.now) in
    let m = length-map (bytes_of c.args.lists.now) references_in in
    ended_so c.loop-at.copy (map references_in (bytes_of c.args.lists.now)) c.loop-at.at
    (omega (arith, n, m)) c.loop-at.invariant
