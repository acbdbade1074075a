use Rattle.std.proofs.Common.{◌+◌, ◌-◌, ◌/◌, refl, arith}
use Rattle.std.proofs.lemmas.Result.{IfOk-at_ok}
use Rattle.block.specs.declared.packing.Packed.{Packed}
use Rattle.block.specs.Packing.{IsPackOf}
use Rattle.block.specs.Samples.{chunk_samples}
use Rattle.block.specs.Shared.{lists_between}
use Rattle.block.proofs.Packs.{starts_within, pack_joined}
use Rattle.block.proofs.Shared.{between_both}
use Rattle.block.proofs.packing.+halves.Goals as goal

pub joined-requires : goal.joined-requires
joined-requires g t c =
    let low = c.args.count / 2 in
    let high = c.args.count - low in
    let source = chunk_samples c.args.chunks.now in
    let lists = lists_between c.args.index.now.series (c.args.from + low) high in
    let back = c.in_ok-back.back in
    starts_within source lists back.starts.items back.chunks
    (IfOk-at_ok (λ (p : Packed). IsPackOf source lists p.starts.items p.chunks) c.in_ok-back.was
    c.join-first.ensures.second)

pub returns-clause-pack : goal.returns-clause-pack
returns-clause-pack g t c =
    let low = c.args.count / 2 in
    let high = c.args.count - low in
    let up = c.args.from + low in
    let series = c.args.index.now.series in
    let source = chunk_samples c.args.chunks.now in
    let xs = lists_between series c.args.from low in
    let ys = lists_between series up high in
    let whole = between_both series c.args.from low high up c.args.count (omega arith) refl in
    pack_joined source (lists_between series c.args.from c.args.count) xs ys c.in_ok-front.front
    c.in_ok-back.back c.joined.result whole
    (IfOk-at_ok (λ (p : Packed). IsPackOf source xs p.starts.items p.chunks) c.in_ok-front.was
    c.join-first.ensures.first)
    (IfOk-at_ok (λ (p : Packed). IsPackOf source ys p.starts.items p.chunks) c.in_ok-back.was
    c.join-first.ensures.second)
    c.joined.ensures.chunks c.joined.ensures.starts
