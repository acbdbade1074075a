use Rattle.std.proofs.Common.{◌≡◌, ◌<◌, [], ◌∷◌, ◌++◌, length, refl, arith}
use Rattle.std.proofs.lemmas.List.{map_push, length-map}
use Rattle.labels.specs.Pairs.{texts_of}
use Rattle.block_walk.specs.IndexFile.Layout.{Label}
use Rattle.block_walk.specs.IndexFile.Seen.{texts}
use Rattle.block_walk.specs.IndexFile.Series.{pair_of, named}
use Rattle.block_walk.proofs.IndexFile.Places.{all_here, mapped_at, moved_on, ended_so}
use Rattle.block_walk.proofs.series_entries.pairs_of.Goals as goal

pub loop-at-init : goal.loop-at-init
loop-at-init c = rw c.in_ok-pairs.ensures.items refl

pub pair_of-requires : goal.pair_of-requires
pair_of-requires c =
    let o =
    all_here (λ (l : Label). (l.0 < length (texts c.args.symbols.now))
    × (l.1 < length (texts c.args.symbols.now))) c.args.labels.now c.loop-at.at _ c.requires
    c.label_at-label.ensures in
    let n = length-map c.args.symbols.now (λ s. s.now) in
    (omega (arith, o.0, n), omega (arith, o.1, n))

pub loop-at-preserved : goal.loop-at-preserved
loop-at-preserved c =
    let l = c.loop-at in
    let e : texts_of c.push.new.self.items ≡ texts_of l.pairs.items ++ (
      c.pair_of.result.0.now,
      c.pair_of.result.1.now,
    ) ∷ [] = rw c.in_ok-push.ensures.items (map_push (λ p. (
      p.0.now,
      p.1.now,
    )) l.pairs.items c.pair_of.result) in
    rw e (moved_on (texts_of l.pairs.items) (named (texts c.args.symbols.now) c.args.labels.now)
    l.at _ _ (mapped_at (pair_of (texts c.args.symbols.now)) c.args.labels.now l.at _
    c.label_at-label.ensures) c.pair_of.ensures l.invariant)

pub returns : goal.returns
returns c =
    ended_so (texts_of c.loop-at.pairs.items) (named (texts c.args.symbols.now) c.args.labels.now)
    c.loop-at.at (omega (
      arith,
      length-map c.args.labels.now (pair_of (texts c.args.symbols.now)),
    )) c.loop-at.invariant
