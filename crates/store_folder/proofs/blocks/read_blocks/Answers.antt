use Rattle.std.proofs.Common.{◌≡◌, ◌+◌, ◌<◌, ◌≤◌, List, [], ◌∷◌, ◌++◌, map, take, drop, length, refl, sym}
use Rattle.std.proofs.Common.{subst, arith}
use Rattle.std.proofs.lemmas.List.{take_all}
use Rattle.std.proofs.lemmas.Option.{slice_get_read}
use Rattle.block.specs.Blocks.{Shown}
use Rattle.data_folder.proofs.Moments.{untouched, untouched_on}
use Rattle.event_text.proofs.Writes.{take_next}
use Rattle.head.specs.Blocks.{part_in}
use Rattle.head_record.specs.Saved.{Place}
use Rattle.store_folder.specs.Holding.{AreAt}
use Rattle.store_folder.proofs.Files.{read_more}
use Rattle.store_folder.proofs.Faults.{drop_all, drop_here, one_denied}
use Rattle.store_folder.proofs.Told.{all_read, next_at, none_read, one_read}
use Rattle.store_folder.proofs.blocks.read_blocks.Goals as goal

pub loop-place-init : goal.loop-place-init
loop-place-init g c =
    let f = g.F.Folder in
    record {
      sound = c.requires;
      untouched = untouched f.shows f.kept f.moment f.left_since c.args.folder.now;
      blocks = subst (λ (bs : List Shown).
          AreAt f.shows f.kept [] (map part_in bs) c.args.folder.now) (sym c.new-blocks.ensures.items)
          tt;
      told = λ tells parts at. none_read f.shows f.kept c.args.places.now parts c.new-blocks.result.items
          c.args.folder.now c.new-blocks.ensures.items at;
    }

pub loop-place-preserved : goal.loop-place-preserved
loop-place-preserved g c =
    let f = g.F.Folder in
    let ms = c.args.places.now in
    let l = c.loop-place in
    let i = l.place-index in
    let p = c.place-item.result in
    let lt : i < length ms = omega (arith, c.loop-place-test.true) in
    let next : take (i + 1) ms ≡ take i ms ++ p ∷ [] =
    take_next ms i p (slice_get_read ms (length ms) i p refl lt c.place-item.is) in
    record {
      sound = c.in-Ok.ensures.sound;
      untouched = untouched_on f.shows f.kept f.moment f.left_since g.met.F.Folder.earlier
          c.args.folder.now l.folder c.read_block.new.folder l.invariant.untouched
          c.read_block.ensures.untouched;
      blocks = read_more f.shows f.kept (take i ms) (take (i + 1) ms) l.blocks.items
          c.push.new.self.items p p c.in-Ok.block l.folder c.read_block.new.folder next
          c.in-Ok-push.ensures.items refl l.invariant.blocks c.read_block.ensures.untouched.all
          c.in-Ok.ensures.found;
      told = λ tells parts at.
          let n =
          next_at f.shows f.kept (drop i ms) (drop (i + 1) ms) p parts (map part_in l.blocks.items)
          l.folder (drop_here ms i p (slice_get_read ms (length ms) i p refl lt c.place-item.is))
          (l.invariant.told tells parts at) in
          one_read f.shows f.kept p (drop (i + 1) ms) parts l.blocks.items c.push.new.self.items
          c.in-Ok.block l.folder c.read_block.new.folder c.in-Ok-push.ensures.items n
          c.read_block.ensures.untouched.all
          (c.in-Ok.ensures.only tells n.part n.files n.spell n.there);
    }

pub returns-clause-found : goal.returns-clause-found
returns-clause-found g c =
    let f = g.F.Folder in
    let ms = c.args.places.now in
    let l = c.loop-place in
    let past : length ms ≤ l.place-index = omega (arith, c.loop-place-test.false) in
    subst (λ (x : List Place). AreAt f.shows f.kept x (map part_in l.blocks.items) l.folder)
    (take_all l.place-index ms past) l.invariant.blocks

pub returns-in-Err-clause-untouched : goal.returns-in-Err-clause-untouched
returns-in-Err-clause-untouched g c =
    let f = g.F.Folder in
    untouched_on f.shows f.kept f.moment f.left_since g.met.F.Folder.earlier c.args.folder.now
    c.loop-place.folder c.read_block.new.folder c.loop-place.invariant.untouched
    c.read_block.ensures.untouched

pub returns-in-Err-push-clause-untouched : goal.returns-in-Err-push-clause-untouched
returns-in-Err-push-clause-untouched g c =
    let f = g.F.Folder in
    untouched_on f.shows f.kept f.moment f.left_since g.met.F.Folder.earlier c.args.folder.now
    c.loop-place.folder c.read_block.new.folder c.loop-place.invariant.untouched
    c.read_block.ensures.untouched

pub returns-in-Err-clause-refused : goal.returns-in-Err-clause-refused
returns-in-Err-clause-refused g c =
    let f = g.F.Folder in
    let ms = c.args.places.now in
    let i = c.loop-place.place-index in
    let p = c.place-item.result in
    let lt : i < length ms = omega (arith, c.loop-place-test.true) in
    one_denied f.shows f.failed f.kept c.read_block.new.folder ms i c.folder-number.result p
    c.in-Err.fault (slice_get_read ms (length ms) i p refl lt c.place-item.is)
    c.folder-number.ensures c.in-Err.ensures.refused

pub returns-in-Err-push-clause-refused : goal.returns-in-Err-push-clause-refused
returns-in-Err-push-clause-refused g c =
    let f = g.F.Folder in
    let ms = c.args.places.now in
    let i = c.loop-place.place-index in
    let p = c.place-item.result in
    let lt : i < length ms = omega (arith, c.loop-place-test.true) in
    one_denied f.shows f.failed f.kept c.read_block.new.folder ms i c.folder-number.result p _
    (slice_get_read ms (length ms) i p refl lt c.place-item.is) c.folder-number.ensures tt

pub returns-in-Err-clause-only : goal.returns-in-Err-clause-only
returns-in-Err-clause-only g c tells parts at =
    let f = g.F.Folder in
    let ms = c.args.places.now in
    let l = c.loop-place in
    let i = l.place-index in
    let p = c.place-item.result in
    let lt : i < length ms = omega (arith, c.loop-place-test.true) in
    let n =
    next_at f.shows f.kept (drop i ms) (drop (i + 1) ms) p parts (map part_in l.blocks.items) l.folder
    (drop_here ms i p (slice_get_read ms (length ms) i p refl lt c.place-item.is))
    (l.invariant.told tells parts at) in
    c.in-Err.ensures.only tells n.part n.files n.spell n.there

pub returns-clause-only : goal.returns-clause-only
returns-clause-only g c tells parts at =
    let f = g.F.Folder in
    let ms = c.args.places.now in
    let l = c.loop-place in
    let past : length ms ≤ l.place-index = omega (arith, c.loop-place-test.false) in
    all_read f.shows f.kept (drop l.place-index ms) parts (map part_in l.blocks.items) l.folder
    (drop_all ms l.place-index past) (l.invariant.told tells parts at)
