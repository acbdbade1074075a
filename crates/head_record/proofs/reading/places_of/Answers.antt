use Rattle.std.proofs.Common.{◌≡◌, ◌++◌, ◌∷◌, [], ℕ, rules}
use Rattle.std.proofs.lemmas.Result.{err_from_is_err_and}
use Rattle.event_text.specs.Reading.{each_at}
use Rattle.head_record.specs.Reading.{place_at}
use Rattle.event_text.proofs.Loops.{goes_on, ends, is_done}
use Rattle.head_record.proofs.reading.places_of.Goals as goal

pub returns-in_err-folder : goal.returns-in_err-folder
returns-in_err-folder c =
    let p = err_from_is_err_and c.from_residual.result c.from_residual.ensures.1 in
    let l = c.loop-counter in
    rw (p.1, p.2) (ends place_at c.in_err-folder.field-0.0 l.places.items c.args.count l.counter l.rest.now
    (each_at place_at c.args.count c.args.bytes.now) c.loop-counter-test.true c.in_err-folder.ensures
    l.invariant)

pub loop-counter-preserved : goal.loop-counter-preserved
loop-counter-preserved c =
    let l = c.loop-counter in
    let x : ℕ × ℕ = (c.in_ok-folder.folder, c.in_ok-folder.tombstones) in
    let e : c.push.new.self.items ≡ l.places.items ++ x ∷ [] = search rules in
    rw e (goes_on place_at l.places.items c.args.count l.counter l.rest.now x c.in_ok-folder.after.now
    (each_at place_at c.args.count c.args.bytes.now) c.loop-counter-test.true c.in_ok-folder.ensures
    l.invariant)

pub returns : goal.returns
returns c =
    let l = c.loop-counter in
    is_done place_at l.places.items c.args.count l.counter l.rest.now
    (each_at place_at c.args.count c.args.bytes.now) c.loop-counter-test.false l.invariant
