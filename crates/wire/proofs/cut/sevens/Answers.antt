use Rattle.std.proofs.Common.{◌≡◌, ℕ, ◌+◌, ◌-◌, ◌*◌, ◌^◌, ◌%◌, ◌<◌, ◌≤◌, false, eqb, ltb, ◌&&◌}
use Rattle.std.proofs.Common.{Result, List, [], sym, ap, ◌∙◌, arith}
use Rattle.std.proofs.lemmas.List.{nil_from_length}
use Rattle.wire.specs.declared.error.WireError.{WireError}
use Rattle.wire.specs.Reading.{uvarint_at, groups_at}
use Rattle.std.proofs.Math.Nat.{mul_comm}
use Rattle.wire.proofs.Loops.{with_low_one, with_low, with_low-below, next_weight, empty_is}
use Rattle.wire.proofs.Loops.{too_big_is, long_form_is, last_is, goes_on, group_at_place}
use Rattle.wire.proofs.Loops.{place_below, group_whole, group_fits, group_fits_64}
use Rattle.wire.proofs.cut.sevens.Goals as goal

-- how the invariant answers, by what stands next
ends : (place low : ℕ) (rest text : List ℕ) (whole read : Result (ℕ × List ℕ) WireError)
    → rest ≡ text → groups_at place text ≡ read
    → with_low (2 ^ (7 * place)) low (groups_at place rest) ≡ whole
    → whole ≡ with_low (2 ^ (7 * place)) low read
ends place low rest text whole read e r h =
    sym h
    ∙ ap (λ (t : List ℕ). with_low (2 ^ (7 * place)) low (groups_at place t)) e
    ∙ ap (with_low (2 ^ (7 * place)) low) r

pub loop-place-init : goal.loop-place-init
unfolding uvarint_at
loop-place-init c = record {
  few = omega arith;
  low = omega arith;
  so_far = with_low_one (groups_at 0 c.args.bytes.now);
}

pub returns-in_default : goal.returns-in_default
returns-in_default c =
    let l = c.loop-place in
    ends l.place l.low l.rest.now [] _ _ (nil_from_length l.rest.now c.in_default.ensures.cases)
    (empty_is l.place) l.invariant.so_far

pub returns-then-too_big : goal.returns-then-too_big
returns-then-too_big c =
    let l = c.loop-place in
    ends l.place l.low l.rest.now _ _ _ c.in-Some.ensures.cases.0 (too_big_is l.place
    c.in-Some.first.now c.in-Some.after.now c.if-too_big.true) l.invariant.so_far

pub returns-then-long_form : goal.returns-then-long_form
returns-then-long_form c =
    let l = c.loop-place in
    ends l.place l.low l.rest.now _ _ _ c.in-Some.ensures.cases.0
    (long_form_is l.place c.in-Some.first.now c.in-Some.after.now c.if-too_big.false
    c.if-byte-lt128.true c.if-long_form.true) l.invariant.so_far

pub overflow_add-result : goal.overflow_add-result
overflow_add-result c =
    let l = c.loop-place in
    let g =
    group_at_place l.low c.in-Some.first.now l.place c.loop-place-test.true c.if-byte-lt128.true
    c.if-too_big.false l.invariant.low in
    rw (c.from.ensures, g.0) (omega (arith, g.1))

pub returns-then-byte-lt128 : goal.returns-then-byte-lt128
returns-then-byte-lt128 c =
    let l = c.loop-place in
    let b = c.in-Some.first.now in
    let g =
    group_at_place l.low b l.place c.loop-place-test.true c.if-byte-lt128.true
    c.if-too_big.false l.invariant.low in
    let e =
    ends l.place l.low l.rest.now _ _ _ c.in-Some.ensures.cases.0 (last_is l.place b
    c.in-Some.after.now c.if-too_big.false c.if-byte-lt128.true c.if-long_form.false)
    l.invariant.so_far in
    rw (c.from.ensures, g.0, mul_comm b (2 ^ (7 * l.place))) e

-- a byte that the number goes on after
record Goes (low b place : ℕ) : Type 0 where
  place_below : place < 9
  whole : ((b - 128) * 2 ^ (7 * place)) % 2 ^ 64 ≡ (b - 128) * 2 ^ (7 * place)
  fits : low + (b - 128) * 2 ^ (7 * place) < 2 ^ 64
  below_next : low + (b - 128) * 2 ^ (7 * place) < 2 ^ (7 * (place + 1))

goes : (low b place : ℕ) → place < 10 → 128 ≤ b → b < 256 → (eqb place 9 && ltb 1 b) ≡ false
    → low < 2 ^ (7 * place) → Goes low b place
goes low b place lt le small h under =
    let p = place_below place b lt le h in
    let e : 7 * (place + 1) ≡ 7 + 7 * place = omega arith in
    record {
      place_below = p;
      whole = group_whole (b - 128) 7 place (omega arith) (omega arith);
      fits = group_fits_64 low (b - 128) 7 place under (omega arith) (omega arith);
      below_next = rw e (group_fits low (b - 128) 7 place under (omega arith) (omega arith));
    }

pub overflow_add-low : goal.overflow_add-low
overflow_add-low c =
    let l = c.loop-place in
    let g =
    goes l.low c.in-Some.first.now l.place c.loop-place-test.true c.if-byte-lt128.false
    (omega arith) c.if-too_big.false l.invariant.low in
    rw (c.from-in-loop-place.ensures, g.whole) (omega (arith, g.fits))

pub loop-place-preserved : goal.loop-place-preserved
loop-place-preserved c =
    let l = c.loop-place in
    let b = c.in-Some.first.now in
    let g =
    goes l.low b l.place c.loop-place-test.true c.if-byte-lt128.false (omega arith)
    c.if-too_big.false l.invariant.low in
    let e =
    ends l.place l.low l.rest.now _ _ _ c.in-Some.ensures.cases.0 (goes_on l.place b
    c.in-Some.after.now c.if-too_big.false c.if-byte-lt128.false) l.invariant.so_far in
    rw (c.from-in-loop-place.ensures, g.whole)
    (record {
      few = omega (arith, g.place_below);
      low = g.below_next;
      so_far =
          rw (next_weight l.place) (sym (e
          ∙ with_low-below (2 ^ (7 * l.place)) l.low (b - 128)
          (groups_at (l.place + 1) c.in-Some.after.now)));
    })
