use Rattle.std.proofs.Common.{◌≡◌, ◌+◌, ap, sym, ◌∙◌}
use Rattle.snapshots.specs.Sifts.{SiftView}
use Rattle.snapshots.proofs.Counting.{same_seen}
use Rattle.snapshots.proofs.Sifts.{if_false, if_true, one_more}
use Rattle.snapshots.proofs.committer.Committer.sift.Goals as goal
use Rattle.snapshots.proofs.committer.Committer.sift.Goals.{then-joined, else-joined}

pub returns-clause-one : goal.returns-clause-one
returns-clause-one g c =
    let s = c.in-Ok.ensures.sifted in
    let seat = c.args.seat.now in
    let joined : c.of.result.joined ≡ c.in-Ok.screened.joined = ap (λ (v : SiftView). v.joined) c.of.ensures in
    let list : c.of.result.list ≡ c.in-Ok-receipt_of.receipt = ap (λ (v : SiftView). v.list) c.of.ensures in
    elim c.if-joined.branch [
      | then-joined w ↦
          if_true _ _ c.of.result.joined (joined ∙ w.if-joined.true)
          (one_more seat c.if-joined.seat _ c.of.result.list _ c.in-Ok.ensures.met
          (list ∙ (c.in-Ok-receipt_of.ensures.receipt ∙ s.list))
          (sym w.if-joined.true ∙ s.joined)
          (w.seat-is ∙ (w.add_one.ensures ∙ same_seen seat.number (seat.count + 1) _ _ (sym list))))
      | else-joined w ↦ if_false _ _ c.of.result.joined (joined ∙ w.if-joined.false) w.seat-is
    ]
