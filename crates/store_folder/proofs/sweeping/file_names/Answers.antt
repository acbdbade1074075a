use Rattle.std.proofs.Common.{◌≡◌, ◌+◌, ◌<◌, ◌≤◌, [], ◌∷◌, ◌++◌, take, length, refl, ap, ◌∙◌}
use Rattle.std.proofs.Common.{arith}
use Rattle.std.proofs.lemmas.List.{take_all}
use Rattle.std.proofs.lemmas.Option.{slice_get_read}
use Rattle.data_folder.specs.Sweeping.{names_in}
use Rattle.event_text.proofs.Writes.{take_next}
use Rattle.store_folder.specs.Sweeps.{names_at}
use Rattle.store_folder.proofs.Swept.{block_more}
use Rattle.store_folder.proofs.sweeping.file_names.Goals as goal

pub loop-place-init : goal.loop-place-init
loop-place-init c = ap names_in c.new-names.ensures.items

pub loop-place-preserved : goal.loop-place-preserved
loop-place-preserved c =
    let ms = c.args.places.now in
    let l = c.loop-place in
    let i = l.place-index in
    let p = c.place-item.result in
    let lt : i < length ms = omega (arith, c.loop-place-test.true) in
    let next : take (i + 1) ms ≡ take i ms ++ p ∷ [] =
    take_next ms i p (slice_get_read ms (length ms) i p refl lt c.place-item.is) in
    block_more (take i ms) (take (i + 1) ms) p (names_in l.names.items)
    (names_in c.push_files.new.names.items) next l.invariant c.in_ok-push_files.ensures

pub returns : goal.returns
returns c =
    let ms = c.args.places.now in
    let past : length ms ≤ c.loop-place.place-index = omega (arith, c.loop-place-test.false) in
    c.loop-place.invariant ∙ ap names_at (take_all c.loop-place.place-index ms past)
