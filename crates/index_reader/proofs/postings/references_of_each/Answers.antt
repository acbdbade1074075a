use Rattle.std.proofs.Common.{◌≡◌, ℕ, List, ◌++◌, ◌∷◌, [], arith}
use Rattle.std.specs.Borrow.{Bor}
use Rattle.std.proofs.lemmas.Result.{err_from_is_err_and}
use Rattle.std.proofs.lemmas.List.{map_push, length-map}
use Rattle.index_reader.specs.Reading.Postings.{references_at}
use Rattle.index_reader.specs.Seen.{bytes_of}
use Rattle.index_reader.proofs.Eaches.{items_nil, each_on, each_fails, each_done}
use Rattle.index_reader.proofs.postings.references_of_each.Goals as goal

pub loop-at-init : goal.loop-at-init
loop-at-init c = rw c.in_ok-lists.ensures.items (items_nil _)

pub returns-in_err-list : goal.returns-in_err-list
returns-in_err-list c =
    let p =
    err_from_is_err_and c.from_residual-in_err-list.result c.from_residual-in_err-list.ensures.1 in
    rw (p.1, p.2)
    (each_fails references_at c.in_err-list.field-0.0 (bytes_of c.args.contents.now) c.loop-at.at _
    (bytes_of c.loop-at.lists.items) _ c.slice_at.ensures c.in_err-list.ensures c.loop-at.invariant)

pub loop-at-preserved : goal.loop-at-preserved
loop-at-preserved c =
    let e : bytes_of c.push.new.self.items
    ≡ bytes_of c.loop-at.lists.items ++ c.in_ok-list.list.now ∷ [] =
    rw c.in_ok-push.ensures.items
    (map_push (λ (x : Bor (List ℕ)). x.now) c.loop-at.lists.items c.in_ok-list.list) in
    rw e (each_on references_at (bytes_of c.args.contents.now) c.loop-at.at _ c.in_ok-list.list.now
    (bytes_of c.loop-at.lists.items) _ c.slice_at.ensures c.in_ok-list.ensures c.loop-at.invariant)

pub returns : goal.returns
returns c =
    each_done references_at (bytes_of c.args.contents.now) c.loop-at.at
    (bytes_of c.loop-at.lists.items) _ (omega (
      arith,
      length-map c.args.contents.now (λ (x : Bor (List ℕ)). x.now),
    )) c.loop-at.invariant
