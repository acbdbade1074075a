use Rattle.std.proofs.Common.{List, ℕ, ap, arith, length, subst, sym}
use Rattle.name_table.proofs.Numbers.{begin_here, begin_on}
use Rattle.event_journal.proofs.Records.{NumberedEach, empty, in_front, numbered_all, numbered_more}
use Rattle.event_journal.proofs.Records.{numbered_none, shorter}
use Rattle.event_journal.proofs.numbering.number_records.Goals as goal

pub loop-rest-init : goal.loop-rest-init
loop-rest-init c =
    let names = c.args.names.now in
    let records = c.args.records.now in
    record {
      each = subst (λ (out : List ℕ). NumberedEach names records records out names)
          (sym c.new-out.ensures.items) (numbered_none names records);
      begins = begin_here names;
    }

pub number_record-requires : goal.number_record-requires
number_record-requires c =
    let l = c.loop-rest in
    let more = c.requires in
    in_front c.args.names.now l.names c.args.records.now l.rest.now l.out.items more.0
    l.invariant.each more.1 (λ e. (let n = ap length e in omega (arith, n)))

pub loop-rest-preserved : goal.loop-rest-preserved
loop-rest-preserved c =
    let l = c.loop-rest in
    let n = c.number_record.new in
    record {
      each = numbered_more c.args.names.now l.names n.names c.args.records.now l.rest.now
          c.in_ok-after.after.now l.out.items n.out.items
          (λ e. (let long = ap length e in omega (arith, long))) c.in_ok-after.ensures.ok
          l.invariant.each;
      begins = begin_on c.args.names.now l.names n.names l.invariant.begins
          c.number_record.ensures.begins;
    }

pub loop-rest-smaller : goal.loop-rest-smaller
loop-rest-smaller c =
    let l = c.loop-rest in
    let more = c.requires in
    let x = in_front c.args.names.now l.names c.args.records.now l.rest.now l.out.items more.0
    l.invariant.each more.1 (λ e. (let n = ap length e in omega (arith, n))) in
    shorter l.rest.now c.in_ok-after.after.now x.1 x.0 x.3 (c.in_ok-after.ensures.ok x.0 x.1 x.2 x.3).0

pub returns-in_err-after-clause-begins : goal.returns-in_err-after-clause-begins
returns-in_err-after-clause-begins c =
    let l = c.loop-rest in
    begin_on c.args.names.now l.names c.number_record.new.names l.invariant.begins
    c.number_record.ensures.begins

pub returns-clause-ok : goal.returns-clause-ok
returns-clause-ok c events s =
    let l = c.loop-rest in
    numbered_all c.args.names.now l.names c.args.records.now l.rest.now l.out.items events
    (empty l.rest.now (omega arith)) l.invariant.each s
