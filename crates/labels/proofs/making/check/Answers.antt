use Rattle.std.proofs.Common.{◌<◌, ◌≤◌, true, false, length, refl, arith}
use Rattle.labels.specs.Pairs.{pairs_of}
use Rattle.labels.proofs.NamedPairs.{IsMadeOf-with_values, length-pairs_of}
use Rattle.labels.proofs.Refusals.{named_of, repeats_of, by_name_of, refusal-repeated, refusal-limit, refusal-none}
use Rattle.labels.proofs.making.check.Goals as goal

pub returns-then-repeats-clause-refused : goal.returns-then-repeats-clause-refused
returns-then-repeats-clause-refused c =
    let named = named_of c.args.pairs.items _ _ c.deref.ensures.value c.are_named.ensures c.if-not-are_named.false in
    let again = repeats_of c.sort.new.pairs.items _ _ true c.deref-2.ensures.value c.repeats.ensures.value c.if-repeats.true in
    rw (refusal-repeated _ (pairs_of c.sort.new.pairs.items) named c.sort.ensures.same again) refl

pub returns-then-repeats-clause-made : goal.returns-then-repeats-clause-made
returns-then-repeats-clause-made c =
    let named = named_of c.args.pairs.items _ _ c.deref.ensures.value c.are_named.ensures c.if-not-are_named.false in
    let again = repeats_of c.sort.new.pairs.items _ _ true c.deref-2.ensures.value c.repeats.ensures.value c.if-repeats.true in
    rw (refusal-repeated _ (pairs_of c.sort.new.pairs.items) named c.sort.ensures.same again) tt

pub returns-then-len-gt-MAX_LABELS-clause-refused : goal.returns-then-len-gt-MAX_LABELS-clause-refused
returns-then-len-gt-MAX_LABELS-clause-refused c =
    let named = named_of c.args.pairs.items _ _ c.deref.ensures.value c.are_named.ensures c.if-not-are_named.false in
    let once = repeats_of c.sort.new.pairs.items _ _ false c.deref-2.ensures.value c.repeats.ensures.value c.if-repeats.false in
    let kept = c.drop_empty.new.pairs in
    let many : 64 < length (pairs_of kept.items) = omega (arith, length-pairs_of kept.items, kept.ok, c.len.ensures, c.if-len-gt-MAX_LABELS.true) in
    rw (refusal-limit _ (pairs_of c.sort.new.pairs.items) (pairs_of kept.items) named c.sort.ensures.same once c.drop_empty.ensures many) refl

pub returns-then-len-gt-MAX_LABELS-clause-made : goal.returns-then-len-gt-MAX_LABELS-clause-made
returns-then-len-gt-MAX_LABELS-clause-made c =
    let named = named_of c.args.pairs.items _ _ c.deref.ensures.value c.are_named.ensures c.if-not-are_named.false in
    let once = repeats_of c.sort.new.pairs.items _ _ false c.deref-2.ensures.value c.repeats.ensures.value c.if-repeats.false in
    let kept = c.drop_empty.new.pairs in
    let many : 64 < length (pairs_of kept.items) = omega (arith, length-pairs_of kept.items, kept.ok, c.len.ensures, c.if-len-gt-MAX_LABELS.true) in
    rw (refusal-limit _ (pairs_of c.sort.new.pairs.items) (pairs_of kept.items) named c.sort.ensures.same once c.drop_empty.ensures many) tt

pub returns-clause-refused : goal.returns-clause-refused
returns-clause-refused c =
    let named = named_of c.args.pairs.items _ _ c.deref.ensures.value c.are_named.ensures c.if-not-are_named.false in
    let once = repeats_of c.sort.new.pairs.items _ _ false c.deref-2.ensures.value c.repeats.ensures.value c.if-repeats.false in
    let kept = c.drop_empty.new.pairs in
    let few : length (pairs_of kept.items) ≤ 64 = omega (arith, length-pairs_of kept.items, kept.ok, c.len.ensures, c.if-len-gt-MAX_LABELS.false) in
    rw (refusal-none _ (pairs_of c.sort.new.pairs.items) (pairs_of kept.items) named c.sort.ensures.same once c.drop_empty.ensures few) tt

pub returns-clause-made : goal.returns-clause-made
returns-clause-made c =
    let named = named_of c.args.pairs.items _ _ c.deref.ensures.value c.are_named.ensures c.if-not-are_named.false in
    let once = repeats_of c.sort.new.pairs.items _ _ false c.deref-2.ensures.value c.repeats.ensures.value c.if-repeats.false in
    let kept = c.drop_empty.new.pairs in
    let few : length (pairs_of kept.items) ≤ 64 = omega (arith, length-pairs_of kept.items, kept.ok, c.len.ensures, c.if-len-gt-MAX_LABELS.false) in
    rw (refusal-none _ (pairs_of c.sort.new.pairs.items) (pairs_of kept.items) named c.sort.ensures.same once c.drop_empty.ensures few)
    (IsMadeOf-with_values (pairs_of c.args.pairs.items) (pairs_of c.sort.new.pairs.items) (pairs_of kept.items) named c.sort.ensures.same (by_name_of _ _ c.deref-2.ensures.value c.if-repeats.ensures.by_name) c.drop_empty.ensures few)
