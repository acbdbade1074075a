use Rattle.std.proofs.Common.{◌≡◌, ◌<◌, ◌+◌, ◌∙◌, ℕ, List, [], ◌∷◌, ◌++◌, length, slice_index, refl, sym, ap, subst}
use Rattle.std.specs.Arc.{arc_value}
use mathlib.Core.List.{IsPrefix}
use Rattle.snapshots.specs.declared.entry.Entry.{Entry}
use Rattle.snapshots.specs.declared.entry.Mark.{Mark}
use Rattle.snapshots.specs.Marks.{accepted, tried_of}
use Rattle.snapshots.specs.Runs.{join_of}
use Rattle.snapshots.specs.Seats.{FitsSeat, count_of}
use Rattle.snapshots.specs.Standings.{current}
use Rattle.snapshots.specs.Views.{Ledger}
use Rattle.snapshots.proofs.Counting.{counted_next}
use Rattle.snapshots.proofs.Prefixes.{prefix_more}
use Rattle.snapshots.proofs.Tips.{alone_accepted, alone_behind, alone_sealed, alone_stands, alone_tried, sealed_as}
use Rattle.snapshots.proofs.tip.Tip.join.Goals as goal

pub invariant_of-self : goal.invariant_of-self
invariant_of-self g c =
    let t = c.self.inside in
    let entry : Entry = record { event = join_of c.args.run.now; seat = c.number-number.result } in
    let fits : FitsSeat c.args.seat.now t.ahead.counts.items = subst (λ (l : Ledger). FitsSeat c.args.seat.now l.counts) (sym c.self.view_is) c.in-Ok.ensures.fits in
    let counts = t.ahead.counts.items in
    let within = subst (λ (k : ℕ). k < length counts) (sym c.number-number.ensures) fits.0 in
    let more = ap (λ (k : ℕ). k + 1) (c.count.ensures ∙ sym (ap (slice_index counts) c.number-number.ensures ∙ fits.1)) in
    let ahead = c.in_ok-ahead.ahead in
    let stands = alone_stands g.J.Naming.opening t.waits t.log c.add_try.new.self c.add_seal.new.self entry c.if-self.false c.if-is_given_up.ensures c.add_try.ensures c.add_seal.ensures
    (arc_value t.ahead.snapshot) (arc_value ahead.snapshot) counts ahead.counts.items c.number-number.result (c.count.result + 1) c.self.invariant.0
    c.in_ok-ahead.ensures.steps refl within more c.in_ok-ahead.ensures.counts in (
      stands,
      alone_behind g.J.Naming.opening t.waits t.log c.add_try.new.self c.add_seal.new.self entry c.if-self.false c.if-is_given_up.ensures c.add_try.ensures c.add_seal.ensures
          g.K.Keeper.idle (arc_value t.ahead.snapshot) (arc_value c.in-Ok-Ok-Ok.base.snapshot) counts c.in-Ok-Ok-Ok.base.counts.items c.clear.new.self.items
          c.self.invariant.0 c.in-Ok-Ok-Ok.ensures''.snapshot c.in-Ok-Ok-Ok.ensures''.counts c.clear.ensures.items,
      c.self.invariant.2,
      c.self.invariant.3 ∙ sym (alone_accepted g.J.Naming.opening t.waits t.log c.add_try.new.self c.add_seal.new.self entry c.if-self.false c.if-is_given_up.ensures c.add_try.ensures c.add_seal.ensures),
      c.self.invariant.4,
    )

pub returns-clause-sealed : goal.returns-clause-sealed
returns-clause-sealed g c =
    let t = c.self.inside in
    let entry : Entry = record { event = join_of c.args.run.now; seat = c.number-number.result } in
    let fits : FitsSeat c.args.seat.now t.ahead.counts.items = subst (λ (l : Ledger). FitsSeat c.args.seat.now l.counts) (sym c.self.view_is) c.in-Ok.ensures.fits in
    let counts = t.ahead.counts.items in
    let within = subst (λ (k : ℕ). k < length counts) (sym c.number-number.ensures) fits.0 in
    let more = ap (λ (k : ℕ). k + 1) (c.count.ensures ∙ sym (ap (slice_index counts) c.number-number.ensures ∙ fits.1)) in
    let ahead = c.in_ok-ahead.ahead in
    let stands = alone_stands g.J.Naming.opening t.waits t.log c.add_try.new.self c.add_seal.new.self entry c.if-self.false c.if-is_given_up.ensures c.add_try.ensures c.add_seal.ensures
    (arc_value t.ahead.snapshot) (arc_value ahead.snapshot) counts ahead.counts.items c.number-number.result (c.count.result + 1) c.self.invariant.0
    c.in_ok-ahead.ensures.steps refl within more c.in_ok-ahead.ensures.counts in
    let standing = c.in-Ok-Ok-Ok.standing in
    sealed_as g.J.Naming.opening c.add_seal.new.self c.share-3.result (arc_value ahead.snapshot) (arc_value standing.snapshot) ahead.counts.items standing.counts.items
    c.share-3.ensures.same c.in-Ok-Ok-Ok.ensures.snapshot c.in-Ok-Ok-Ok.ensures.counts
    (alone_sealed g.J.Naming.opening t.waits t.log c.add_try.new.self c.add_seal.new.self entry c.if-self.false c.if-is_given_up.ensures c.add_try.ensures c.add_seal.ensures
    (arc_value ahead.snapshot) ahead.counts.items stands)

pub returns-clause-follows : goal.returns-clause-follows
returns-clause-follows g c =
    let t = c.self.inside in
    let entry : Entry = record { event = join_of c.args.run.now; seat = c.number-number.result } in
    ap accepted c.share-3.ensures.same
    ∙ (alone_accepted g.J.Naming.opening t.waits t.log c.add_try.new.self c.add_seal.new.self entry c.if-self.false c.if-is_given_up.ensures c.add_try.ensures c.add_seal.ensures
    ∙ ap (λ (l : Ledger). l.published) c.self.view_is)

pub returns-clause-published : goal.returns-clause-published
returns-clause-published g c =
    let t = c.self.inside in
    let entry : Entry = record { event = join_of c.args.run.now; seat = c.number-number.result } in
    alone_accepted g.J.Naming.opening t.waits t.log c.add_try.new.self c.add_seal.new.self entry c.if-self.false c.if-is_given_up.ensures c.add_try.ensures c.add_seal.ensures
    ∙ ap (λ (l : Ledger). l.published) c.self.view_is

pub returns-clause-list : goal.returns-clause-list
returns-clause-list g c =
    let t = c.self.inside in
    let entry : Entry = record { event = join_of c.args.run.now; seat = c.number-number.result } in
    let event = join_of c.args.run.now in
    ap tried_of c.share-4.ensures.same
    ∙ (alone_tried g.J.Naming.opening t.waits t.log c.add_try.new.self c.add_seal.new.self entry c.if-self.false c.if-is_given_up.ensures c.add_try.ensures c.add_seal.ensures
    ∙ (ap (λ (k : ℕ). current t.waits t.log ++ record { event = event; seat = k } ∷ []) c.number-number.ensures
    ∙ ap (λ (l : Ledger). l.entries ++ record { event = event; seat = c.args.seat.now.number } ∷ []) c.self.view_is))

pub returns-clause-begins : goal.returns-clause-begins
returns-clause-begins g c =
    let t = c.self.inside in
    let entry : Entry = record { event = join_of c.args.run.now; seat = c.number-number.result } in
    subst (λ (z : List Mark). IsPrefix c.args.seat.now.seen (tried_of z)) (sym c.share-4.ensures.same)
    (prefix_more c.args.seat.now.seen (current t.waits t.log) (tried_of c.add_seal.new.self) entry
    (subst (λ (l : Ledger). IsPrefix c.args.seat.now.seen l.entries) (sym c.self.view_is) c.in-Ok.ensures.met.begins)
    (alone_tried g.J.Naming.opening t.waits t.log c.add_try.new.self c.add_seal.new.self entry c.if-self.false c.if-is_given_up.ensures c.add_try.ensures c.add_seal.ensures))

pub returns-clause-counted : goal.returns-clause-counted
returns-clause-counted g c =
    let t = c.self.inside in
    let entry : Entry = record { event = join_of c.args.run.now; seat = c.number-number.result } in
    let fits : FitsSeat c.args.seat.now t.ahead.counts.items = subst (λ (l : Ledger). FitsSeat c.args.seat.now l.counts) (sym c.self.view_is) c.in-Ok.ensures.fits in
    subst (λ (z : List Mark). count_of c.args.seat.now.number (tried_of z) ≡ c.args.seat.now.count + 1) (sym c.share-4.ensures.same)
    (counted_next t.ahead.counts.items (current t.waits t.log) (tried_of c.add_seal.new.self) entry c.args.seat.now.number (c.args.seat.now.count + 1)
    c.self.invariant.0.counted
    (alone_tried g.J.Naming.opening t.waits t.log c.add_try.new.self c.add_seal.new.self entry c.if-self.false c.if-is_given_up.ensures c.add_try.ensures c.add_seal.ensures)
    c.number-number.ensures fits.0 (ap (λ (k : ℕ). k + 1) (sym fits.1)))

pub returns-clause-books : goal.returns-clause-books
returns-clause-books g c =
    let t = c.self.inside in
    let entry : Entry = record { event = join_of c.args.run.now; seat = c.number-number.result } in
    let fits : FitsSeat c.args.seat.now t.ahead.counts.items = subst (λ (l : Ledger). FitsSeat c.args.seat.now l.counts) (sym c.self.view_is) c.in-Ok.ensures.fits in
    let counts = t.ahead.counts.items in
    let within = subst (λ (k : ℕ). k < length counts) (sym c.number-number.ensures) fits.0 in
    let more = ap (λ (k : ℕ). k + 1) (c.count.ensures ∙ sym (ap (slice_index counts) c.number-number.ensures ∙ fits.1)) in
    let ahead = c.in_ok-ahead.ahead in
    let stands = alone_stands g.J.Naming.opening t.waits t.log c.add_try.new.self c.add_seal.new.self entry c.if-self.false c.if-is_given_up.ensures c.add_try.ensures c.add_seal.ensures
    (arc_value t.ahead.snapshot) (arc_value ahead.snapshot) counts ahead.counts.items c.number-number.result (c.count.result + 1) c.self.invariant.0
    c.in_ok-ahead.ensures.steps refl within more c.in_ok-ahead.ensures.counts in
    stands.counted

pub returns-clause-world : goal.returns-clause-world
returns-clause-world g c =
    let t = c.self.inside in
    let entry : Entry = record { event = join_of c.args.run.now; seat = c.number-number.result } in
    let fits : FitsSeat c.args.seat.now t.ahead.counts.items = subst (λ (l : Ledger). FitsSeat c.args.seat.now l.counts) (sym c.self.view_is) c.in-Ok.ensures.fits in
    let counts = t.ahead.counts.items in
    let within = subst (λ (k : ℕ). k < length counts) (sym c.number-number.ensures) fits.0 in
    let more = ap (λ (k : ℕ). k + 1) (c.count.ensures ∙ sym (ap (slice_index counts) c.number-number.ensures ∙ fits.1)) in
    let ahead = c.in_ok-ahead.ahead in
    let stands = alone_stands g.J.Naming.opening t.waits t.log c.add_try.new.self c.add_seal.new.self entry c.if-self.false c.if-is_given_up.ensures c.add_try.ensures c.add_seal.ensures
    (arc_value t.ahead.snapshot) (arc_value ahead.snapshot) counts ahead.counts.items c.number-number.result (c.count.result + 1) c.self.invariant.0
    c.in_ok-ahead.ensures.steps refl within more c.in_ok-ahead.ensures.counts in
    stands.after
