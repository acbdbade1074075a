use Rattle.std.proofs.Common.{◌≡◌, ◌<◌, ◌++◌, ℕ, List, [], length, get_or, sym, ap, subst, arith}
use Rattle.std.specs.Prelude.{map}
use Rattle.std.specs.List.{Contains}
use Rattle.std.proofs.lemmas.List.{length-map}
use Rattle.std.proofs.lemmas.List.Elements.{Contains-get_or}
use Rattle.labels.specs.Labels.{Labels}
use Rattle.labels.specs.Rows.{Row}
use Rattle.labels.specs.Pairs.{texts_of}
use Rattle.block_writer.specs.IndexText.{carriers, IsGivenTo}
use Rattle.block_writer.proofs.Neighbours.{from_read}
use Rattle.block_writer.proofs.Giving.{empty_at, in_flat, carriers_on, carriers_done, same_map}
use Rattle.block_writer.proofs.carriers.lists_of.Goals as goal

pub loop-i-init : goal.loop-i-init
loop-i-init c = (
  omega (arith, c.in_ok-lists.ensures.count, c.in_ok-lists.lists.ok.0),
  λ k lt. ap (λ (xs : List ℕ). xs ++ carriers (get_or (texts_of c.args.pairs.now) k (
    [],
    [],
  )).0 (get_or (texts_of c.args.pairs.now) k ([], [])).1 c.args.rows.now c.args.references.now)
      (empty_at (λ l. l.items) c.in_ok-lists.lists.items c.in_ok-lists.ensures.empty k),
)

pub put_row-requires-clause-held : goal.put_row-requires-clause-held
put_row-requires-clause-held c = λ k d lt.
    let q = get_or c.labels.result.now k d in
    let there : Contains c.index-rows-i.result.0 q =
    subst (λ (ls : Labels). Contains ls q) c.labels.ensures
    (Contains-get_or c.labels.result.now k d lt) in
    c.requires.held.held q (in_flat (λ (row : Row). row.0) c.args.rows.now c.loop-i.i
    c.index-rows-i.result q (omega arith) (sym c.index-rows-i.is) there)

pub loop-i-preserved : goal.loop-i-preserved
loop-i-preserved c =
    let pairs = texts_of c.args.pairs.now in
    let old : List (List ℕ) = map (λ x. x.items) c.loop-i.lists.items in
    let new : List (List ℕ) = map (λ x. x.items) c.put_row.new.lists.items in
    let row = c.index-rows-i.result in
    let given : IsGivenTo pairs row.0 (get_or c.args.references.now c.loop-i.i 0) old new =
    subst (λ (ls : Labels). IsGivenTo pairs ls (get_or c.args.references.now c.loop-i.i 0) old new)
    c.labels.ensures c.in_ok-put_row.ensures.given in
    let within : c.loop-i.i < length c.args.references.now = omega (arith, c.requires.each) in (
      omega (
        arith,
        c.in_ok-put_row.ensures.each,
        c.loop-i.invariant.0,
        c.put_row.new.lists.ok.0,
        c.loop-i.lists.ok.0,
      ),
      λ k lt. carriers_on (get_or pairs k ([], [])).0 (get_or pairs k ([], [])).1 c.args.rows.now
          c.args.references.now c.loop-i.i row (get_or old k []) (get_or new k []) _
          (from_read c.args.rows.now c.loop-i.i row (omega arith) c.index-rows-i.is) within
          (given k lt) (c.loop-i.invariant.1 k lt),
    )

pub returns : goal.returns
returns c =
    let pairs = texts_of c.args.pairs.now in
    let many : length pairs ≡ length c.args.pairs.now =
    length-map {B = List ℕ × List ℕ} c.args.pairs.now (λ p. (p.0.now, p.1.now)) in
    same_map (λ p. carriers p.0 p.1 c.args.rows.now c.args.references.now) pairs ([], [])
    (map (λ l. l.items) c.loop-i.lists.items) (omega (
      arith,
      length-map {B = List ℕ} c.loop-i.lists.items (λ l. l.items),
      c.loop-i.invariant.0,
      many,
    ))
    (λ k lt. carriers_done (get_or pairs k ([], [])).0 (get_or pairs k ([], [])).1 c.args.rows.now
    c.args.references.now c.loop-i.i (get_or (map (λ l. l.items) c.loop-i.lists.items) k []) _
    (omega arith) (c.loop-i.invariant.1 k lt))
