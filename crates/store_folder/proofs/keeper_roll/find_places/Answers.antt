use Rattle.std.proofs.Common.{◌≡◌, ◌+◌, ◌<◌, ◌∷◌, ◌∙◌, List, [], ap, arith, drop, length, map, sym}
use Rattle.std.proofs.lemmas.List.{drop_more, length-append}
use Rattle.block.specs.Blocks.{Shown}
use Rattle.head.specs.Blocks.{part_in}
use Rattle.head.specs.Heads.{BlockPart}
use Rattle.store_folder.proofs.Found.{all_found, next_found, none_yet}
use Rattle.store_folder.proofs.keeper_roll.find_places.Goals as goal

pub loop-block-init : goal.loop-block-init
loop-block-init c = record {
  many = ap length c.new-found.ensures.items;
  goes = none_yet c.args.places.now (map part_in c.args.others.now)
      (map part_in c.args.blocks.now) c.new-found.result.items c.new-found.ensures.items;
}

pub loop-block-preserved : goal.loop-block-preserved
loop-block-preserved c =
    let l = c.loop-block in
    let i = l.block-index in
    let blocks : List Shown = c.args.blocks.now in
    let b : Shown = c.block-item.result in
    let place = c.same_from-place.result.0 in
    let inside : i < length blocks = omega arith in
    let left : map part_in (drop i blocks) ≡ part_in b ∷ map part_in (drop (i + 1) blocks) =
    ap (λ (bs : List Shown). map part_in bs) (drop_more blocks i b inside)
    ∙ ap (λ (x : Shown). part_in x ∷ map part_in (drop (i + 1) blocks)) (sym c.block-item.is) in
    let more = c.in_ok-push.ensures.items in
    let count = ap length more in
    let one = length-append l.found.items (place ∷ []) in
    record {
      many = omega (arith, count, one, l.invariant.many);
      goes = next_found c.args.places.now c.args.others.now (map part_in blocks) l.from
          c.same_from-place.result.1 l.found.items c.push.new.self.items place b
          (map part_in (drop i blocks)) (map part_in (drop (i + 1) blocks)) left more
          c.same_from-place.ensures l.invariant.goes;
    }

pub returns-clause-found : goal.returns-clause-found
returns-clause-found c =
    let l = c.loop-block in
    all_found c.args.places.now (map part_in c.args.others.now) (map part_in c.args.blocks.now)
    l.from l.found.items (map part_in (drop l.block-index c.args.blocks.now)) l.invariant.goes
