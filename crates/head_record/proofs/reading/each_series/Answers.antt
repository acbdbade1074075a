use Rattle.std.proofs.Common.{◌≡◌, ◌<◌, ◌+◌, ℕ, length, get_or, sym, subst, arith, rules}
use Rattle.wire.specs.Outcome.{Fails}
use Rattle.journal.specs.Contents.{contents_in}
use Rattle.head_record.specs.Outcome.{is_memory}
use Rattle.head_record.specs.Reading.{each_series}
use Rattle.head_record.proofs.Loops.{ends, goes_on, is_done, spell_more, spell_whole}
use Rattle.head_record.proofs.reading.each_series.Goals as goal

pub returns-in-Err-clause-exact : goal.returns-in-Err-clause-exact
returns-in-Err-clause-exact c =
    let vs = c.args.contents.now in
    let l = c.loop-content in
    let i = l.content-index in
    let v = c.content-item.result in
    let lt : i < length vs = omega (arith, c.loop-content-test.true) in
    let is : c.deref.result.now ≡ (get_or vs i v).items = search rules in
    let n : c.len-before.result ≡ length l.series.items = search rules in
    subst (λ (n : ℕ). Fails is_memory (record { at = n + 1; error = c.in-Err.error })
    (each_series 1 (contents_in vs))) (sym n)
    (ends vs i (length l.series.items + 1) v c.deref.result.now l.series.items c.in-Err.error
    (each_series 1 (contents_in vs)) lt is c.in-Err.ensures.failed l.invariant.0)

pub loop-content-preserved : goal.loop-content-preserved
loop-content-preserved c =
    let vs = c.args.contents.now in
    let l = c.loop-content in
    let i = l.content-index in
    let v = c.content-item.result in
    let lt : i < length vs = omega (arith, c.loop-content-test.true) in
    let is : c.deref.result.now ≡ (get_or vs i v).items = search rules in
    let o = c.in-Ok.ensures.ok in
    let new = c.push_series.new.series.items in (
      goes_on vs i v c.deref.result.now l.series.items new o.0 (each_series 1 (contents_in vs)) lt is
          o.2 o.3 l.invariant.0,
      spell_more vs i v c.deref.result.now l.series.items new o.0 lt is l.invariant.1 o.1 o.3,
    )

pub returns-clause-exact : goal.returns-clause-exact
returns-clause-exact c =
    let vs = c.args.contents.now in
    let l = c.loop-content in
    let past : length vs ≡ l.content-index =
    omega (arith, c.loop-content-test.false, l.auto.content-index-end) in
    is_done vs l.content-index (length l.series.items + 1) l.series.items
    (each_series 1 (contents_in vs)) past l.invariant.0

pub returns-clause-found : goal.returns-clause-found
returns-clause-found c =
    let vs = c.args.contents.now in
    let l = c.loop-content in
    let past : length vs ≡ l.content-index =
    omega (arith, c.loop-content-test.false, l.auto.content-index-end) in
    spell_whole vs l.content-index l.series.items past l.invariant.1
