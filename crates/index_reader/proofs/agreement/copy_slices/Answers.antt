use Rattle.std.proofs.Common.{◌≡◌, ℕ, List, [], ◌∷◌, ◌++◌, refl, arith}
use Rattle.std.specs.Borrow.{Bor}
use Rattle.std.proofs.lemmas.List.{map_push, length-map, length_push}
use Rattle.index_reader.specs.Seen.{bytes_of}
use Rattle.index_reader.proofs.Sound.{moved, ended}
use Rattle.index_reader.proofs.agreement.copy_slices.Goals as goal

pub loop-at-init : goal.loop-at-init
loop-at-init c = record {
  counted = rw c.in_ok-copy.ensures.items refl;
  so_far = rw c.in_ok-copy.ensures.items refl;
}

pub loop-at-preserved : goal.loop-at-preserved
loop-at-preserved c =
    let l = c.loop-at in
    let e : bytes_of c.push.new.self.items
    ≡ bytes_of l.copy.items ++ c.slice_at-list.result.now ∷ [] =
    rw c.in_ok-push.ensures.items
    (map_push (λ (x : Bor (List ℕ)). x.now) l.copy.items c.slice_at-list.result) in
    record {
      counted =
          rw c.in_ok-push.ensures.items
          (omega (arith, length_push l.copy.items c.slice_at-list.result, l.invariant.counted));
      so_far =
          rw e (moved (bytes_of l.copy.items) (bytes_of c.args.lists.now) l.at _ _
          c.slice_at-list.ensures refl l.invariant.so_far);
    }

pub returns-clause-texts : goal.returns-clause-texts
returns-clause-texts c =
    ended (bytes_of c.loop-at.copy.items) (bytes_of c.args.lists.now) c.loop-at.at (omega (
      arith,
      length-map c.args.lists.now (λ (s : Bor (List ℕ)). s.now),
    )) c.loop-at.invariant.so_far
