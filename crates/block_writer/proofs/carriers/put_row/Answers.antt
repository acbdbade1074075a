use Rattle.std.proofs.Common.{◌≡◌, ◌++◌, ℕ, List, [], length, get_or, ap, ◌∙◌, arith}
use Rattle.std.specs.Prelude.{map}
use Rattle.std.specs.List.{Contains}
use Rattle.std.proofs.lemmas.List.{length-map}
use Rattle.labels.specs.Pairs.{texts_of}
use Rattle.labels.specs.Labels.{pair_cmp}
use Rattle.labels.proofs.Texts.{pair_total}
use Rattle.block_writer.proofs.Held.{stands_there}
use Rattle.block_writer.proofs.Walking.{drop_at, flat_on, flat_done, held_at}
use Rattle.block_writer.proofs.Giving.{hit, hits_is, added}
use Rattle.block_writer.proofs.carriers.put_row.Goals as goal

pub put_at-requires : goal.put_at-requires
put_at-requires c =
    let held : Contains (texts_of c.args.pairs.now) (c.pair.result.0.now, c.pair.result.1.now) =
    held_at (Contains (texts_of c.args.pairs.now)) c.args.labels.now c.loop-i.i
    (c.pair.result.0.now, c.pair.result.1.now) c.pair.ensures c.requires.held in
    let there =
    stands_there pair_cmp pair_total (texts_of c.args.pairs.now)
    (c.pair.result.0.now, c.pair.result.1.now) ([], []) c.requires.ascending held in
    omega (
      arith,
      there.0,
      c.place_near-place.ensures,
      c.requires.each,
      c.loop-i.invariant.0,
      c.loop-i.lists.ok.0,
      c.args.lists.now.ok.0,
      length-map {B = List ℕ × List ℕ} c.args.pairs.now (λ p. (p.0.now, p.1.now)),
    )

pub loop-i-preserved : goal.loop-i-preserved
loop-i-preserved c =
    let q : List ℕ × List ℕ = (c.pair.result.0.now, c.pair.result.1.now) in
    let pairs = texts_of c.args.pairs.now in
    let held : Contains pairs q =
    held_at (Contains pairs) c.args.labels.now c.loop-i.i q c.pair.ensures c.requires.held in
    let many : length pairs ≡ length c.args.pairs.now =
    length-map {B = List ℕ × List ℕ} c.args.pairs.now (λ p. (p.0.now, p.1.now)) in
    let before : List (List ℕ) = map (λ x. x.items) c.loop-i.lists.items in
    let long : length before ≡ length pairs = omega (
      arith,
      length-map {B = List ℕ} c.loop-i.lists.items (λ x. x.items),
      c.loop-i.invariant.0,
      c.requires.each,
      c.args.lists.now.ok.0,
      many,
    ) in (
      omega (
        arith,
        c.in_ok-put_at.ensures.each,
        c.loop-i.invariant.0,
        c.put_at.new.lists.ok.0,
        c.loop-i.lists.ok.0,
      ),
      λ k lt. flat_on (hit (get_or pairs k ([], [])).0 (get_or pairs k ([], [])).1 c.args.reference)
          (get_or before k []) (get_or (map (λ x. x.items) c.put_at.new.lists.items) k [])
          c.args.labels.now c.loop-i.i q _
          (drop_at c.args.labels.now c.loop-i.i q c.pair.ensures)
          (added pairs c.args.reference before (map (λ x. x.items) c.put_at.new.lists.items)
          c.place_near-place.result q c.requires.ascending held c.place_near-place.ensures long
          c.in_ok-put_at.ensures.added k lt)
          (c.loop-i.invariant.1 k lt),
    )

pub returns-clause-given : goal.returns-clause-given
returns-clause-given c = λ k lt.
    let p = get_or (texts_of c.args.pairs.now) k ([], []) in
    let old : List ℕ = get_or (map (λ x. x.items) c.args.lists.now.items) k [] in
    flat_done (hit p.0 p.1 c.args.reference) (get_or (map (λ x. x.items) c.loop-i.lists.items) k [])
    c.args.labels.now c.loop-i.i _ (omega (arith, c.len-i-end.ensures.count))
    (c.loop-i.invariant.1 k lt)
    ∙ ap (λ (xs : List ℕ). old ++ xs)
    (hits_is p c.args.labels.now c.args.reference c.len-i-end.ensures.label_set)
