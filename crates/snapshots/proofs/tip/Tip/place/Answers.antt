use Rattle.std.proofs.Common.{◌≡◌, ◌<◌, ◌+◌, ◌∙◌, ℕ, List, [], ◌∷◌, ◌++◌, length, slice_index, refl, sym, ap, subst}
use Rattle.std.specs.Arc.{arc_value}
use mathlib.Core.List.{IsPrefix}
use Rattle.snapshots.specs.declared.entry.Entry.{Entry}
use Rattle.snapshots.specs.declared.entry.Mark.{Mark}
use Rattle.snapshots.specs.Marks.{accepted, tried_of}
use Rattle.snapshots.specs.Replays.{Steps}
use Rattle.snapshots.specs.Seats.{FitsSeat, count_of}
use Rattle.snapshots.specs.Standings.{current}
use Rattle.snapshots.specs.Views.{Ledger}
use Rattle.snapshots.proofs.Accepts.{accepted_try}
use Rattle.snapshots.proofs.Counting.{counted_next}
use Rattle.snapshots.proofs.Prefixes.{prefix_more}
use Rattle.snapshots.proofs.Tips.{current_tried, tried_all, tried_behind, tried_stands}
use Rattle.snapshots.proofs.tip.Tip.place.Goals as goal

pub invariant_of-self-2 : goal.invariant_of-self-2
invariant_of-self-2 g c =
    let t = c.self.inside in
    let fits : FitsSeat c.args.seat.now t.ahead.counts.items = subst (λ (l : Ledger). FitsSeat c.args.seat.now l.counts) (sym c.self.view_is) c.requires.fits in
    let counts = t.ahead.counts.items in
    let entry : Entry = record { event = g.C.AsEvent.event c.args.change.now; seat = c.number-number.result } in
    let within = subst (λ (k : ℕ). k < length counts) (sym c.number-number.ensures) fits.0 in
    let more = ap (λ (k : ℕ). k + 1) (c.count.ensures ∙ sym (ap (slice_index counts) c.number-number.ensures ∙ fits.1)) in
    let step = subst (λ (l : Ledger). Steps l.parts entry.event (arc_value c.args.snapshot)) (sym c.self.view_is) c.requires.steps in (
      tried_stands g.J.Naming.opening t.waits t.log c.add_try.new.self entry (arc_value t.ahead.snapshot) (arc_value c.args.snapshot)
          counts c.number-number.result (c.count.result + 1) c.if-is_given_up.ensures c.add_try.ensures c.self.invariant.0 step refl within more,
      tried_behind g.J.Naming.opening g.K.Keeper.idle t.log c.add_try.new.self entry (arc_value c.set_aside.new.base.snapshot) c.set_aside.new.base.counts.items
          c.set_aside.new.records.items c.push_record.new.records.items c.add_try.ensures c.in-Ok.ensures.behind
          (λ events so_far. c.in-Ok-push_record.ensures.ok events entry.event so_far c.requires.spelled),
      c.self.invariant.2,
      c.self.invariant.3 ∙ sym (ap accepted c.add_try.ensures ∙ accepted_try t.log entry),
      c.self.invariant.4,
    )

pub returns-clause-list : goal.returns-clause-list
returns-clause-list g c =
    let t = c.self.inside in
    let event = g.C.AsEvent.event c.args.change.now in
    let entry : Entry = record { event = event; seat = c.number-number.result } in
    ap tried_of c.share.ensures.same
    ∙ (tried_all t.waits t.log c.add_try.new.self entry c.if-is_given_up.ensures c.add_try.ensures
    ∙ (ap (λ (k : ℕ). current t.waits t.log ++ record { event = event; seat = k } ∷ []) c.number-number.ensures
    ∙ ap (λ (l : Ledger). l.entries ++ record { event = event; seat = c.args.seat.now.number } ∷ []) c.self.view_is))

pub returns-clause-begins : goal.returns-clause-begins
returns-clause-begins g c =
    let t = c.self.inside in
    let entry : Entry = record { event = g.C.AsEvent.event c.args.change.now; seat = c.number-number.result } in
    subst (λ (z : List Mark). IsPrefix c.args.seat.now.seen (tried_of z)) (sym c.share.ensures.same)
    (prefix_more c.args.seat.now.seen (current t.waits t.log) (tried_of c.add_try.new.self) entry
    (subst (λ (l : Ledger). IsPrefix c.args.seat.now.seen l.entries) (sym c.self.view_is) c.requires.begins)
    (tried_all t.waits t.log c.add_try.new.self entry c.if-is_given_up.ensures c.add_try.ensures))

pub returns-clause-counted : goal.returns-clause-counted
returns-clause-counted g c =
    let t = c.self.inside in
    let fits : FitsSeat c.args.seat.now t.ahead.counts.items = subst (λ (l : Ledger). FitsSeat c.args.seat.now l.counts) (sym c.self.view_is) c.requires.fits in
    let entry : Entry = record { event = g.C.AsEvent.event c.args.change.now; seat = c.number-number.result } in
    subst (λ (z : List Mark). count_of c.args.seat.now.number (tried_of z) ≡ c.args.seat.now.count + 1) (sym c.share.ensures.same)
    (counted_next t.ahead.counts.items (current t.waits t.log) (tried_of c.add_try.new.self) entry c.args.seat.now.number (c.args.seat.now.count + 1)
    c.self.invariant.0.counted
    (tried_all t.waits t.log c.add_try.new.self entry c.if-is_given_up.ensures c.add_try.ensures)
    c.number-number.ensures fits.0 (ap (λ (k : ℕ). k + 1) (sym fits.1)))

pub returns-clause-books : goal.returns-clause-books
returns-clause-books g c =
    let t = c.self.inside in
    let fits : FitsSeat c.args.seat.now t.ahead.counts.items = subst (λ (l : Ledger). FitsSeat c.args.seat.now l.counts) (sym c.self.view_is) c.requires.fits in
    let counts = t.ahead.counts.items in
    let entry : Entry = record { event = g.C.AsEvent.event c.args.change.now; seat = c.number-number.result } in
    let within = subst (λ (k : ℕ). k < length counts) (sym c.number-number.ensures) fits.0 in
    let more = ap (λ (k : ℕ). k + 1) (c.count.ensures ∙ sym (ap (slice_index counts) c.number-number.ensures ∙ fits.1)) in
    let step = subst (λ (l : Ledger). Steps l.parts entry.event (arc_value c.args.snapshot)) (sym c.self.view_is) c.requires.steps in
    let stands = tried_stands g.J.Naming.opening t.waits t.log c.add_try.new.self entry (arc_value t.ahead.snapshot) (arc_value c.args.snapshot)
    counts c.number-number.result (c.count.result + 1) c.if-is_given_up.ensures c.add_try.ensures c.self.invariant.0 step refl within more in
    stands.counted

pub returns-clause-world : goal.returns-clause-world
returns-clause-world g c =
    let t = c.self.inside in
    let fits : FitsSeat c.args.seat.now t.ahead.counts.items = subst (λ (l : Ledger). FitsSeat c.args.seat.now l.counts) (sym c.self.view_is) c.requires.fits in
    let counts = t.ahead.counts.items in
    let entry : Entry = record { event = g.C.AsEvent.event c.args.change.now; seat = c.number-number.result } in
    let within = subst (λ (k : ℕ). k < length counts) (sym c.number-number.ensures) fits.0 in
    let more = ap (λ (k : ℕ). k + 1) (c.count.ensures ∙ sym (ap (slice_index counts) c.number-number.ensures ∙ fits.1)) in
    let step = subst (λ (l : Ledger). Steps l.parts entry.event (arc_value c.args.snapshot)) (sym c.self.view_is) c.requires.steps in
    let stands = tried_stands g.J.Naming.opening t.waits t.log c.add_try.new.self entry (arc_value t.ahead.snapshot) (arc_value c.args.snapshot)
    counts c.number-number.result (c.count.result + 1) c.if-is_given_up.ensures c.add_try.ensures c.self.invariant.0 step refl within more in
    stands.after

pub returns-clause-published : goal.returns-clause-published
returns-clause-published g c =
    let t = c.self.inside in
    let entry : Entry = record { event = g.C.AsEvent.event c.args.change.now; seat = c.number-number.result } in
    ap accepted c.add_try.ensures ∙ (accepted_try t.log entry ∙ ap (λ (l : Ledger). l.published) c.self.view_is)

pub add_try-requires-clause-asked : goal.add_try-requires-clause-asked
add_try-requires-clause-asked g c =
    let t = c.self.inside in
    let number = c.args.seat.now.number in
    let event = g.C.AsEvent.event c.args.change.now in
    let fits : FitsSeat c.args.seat.now t.ahead.counts.items = subst (λ (l : Ledger). FitsSeat c.args.seat.now l.counts) (sym c.self.view_is) c.requires.fits in
    let as_many : c.args.seat.now.count ≡ count_of number (tried_of t.log) =
    sym fits.1
    ∙ (c.self.invariant.0.counted number fits.0
    ∙ ap (count_of number) (current_tried t.waits t.log c.if-is_given_up.ensures)) in
    subst (λ (k : ℕ). g.J.Naming.asked event k (count_of k (tried_of t.log))) (sym c.number-number.ensures)
    (subst (g.J.Naming.asked event number) as_many c.requires.asked)
