use Rattle.std.proofs.Common.{◌≡◌, ◌<◌, [], ◌∷◌, ◌++◌, length, string_bytes, refl, arith}
use Rattle.std.proofs.lemmas.List.{map_push, length-map}
use Rattle.labels.specs.Pairs.{texts_of}
use Rattle.index_reader.specs.Layout.{Label}
use Rattle.index_reader.specs.Seen.{strings_of}
use Rattle.index_reader.specs.Indexes.{named_label, named}
use Rattle.index_reader.proofs.Placing.{mapped_at}
use Rattle.index_reader.proofs.Held.{all_here, moved_on, ended_so}
use Rattle.index_reader.proofs.series.pairs_of.Goals as goal

pub loop-at-init : goal.loop-at-init
loop-at-init c = rw c.in_ok-pairs.ensures.items refl

pub pair_of-requires : goal.pair_of-requires
pair_of-requires c =
    let o =
    all_here (λ (l : Label). (l.0 < length (strings_of c.args.symbols.now.texts.items))
    × (l.1 < length (strings_of c.args.symbols.now.texts.items))) c.args.labels.now c.loop-at.at _
    c.requires c.key_in-label.ensures in
    let n = length-map c.args.symbols.now.texts.items (λ s. string_bytes s) in
    (omega (arith, o.0, n), omega (arith, o.1, n))

pub loop-at-preserved : goal.loop-at-preserved
loop-at-preserved c =
    let l = c.loop-at in
    let e : texts_of c.push.new.self.items ≡ texts_of l.pairs.items ++ (
      c.pair_of.result.0.now,
      c.pair_of.result.1.now,
    ) ∷ [] = rw c.in_ok-push.ensures.items (map_push (λ p. (
      p.0.now,
      p.1.now,
    )) l.pairs.items c.pair_of.result) in
    rw e (moved_on (texts_of l.pairs.items) (named (strings_of c.args.symbols.now.texts.items)
    c.args.labels.now) l.at _ _ (mapped_at (named_label (strings_of c.args.symbols.now.texts.items))
    c.args.labels.now l.at _ c.key_in-label.ensures) c.pair_of.ensures l.invariant)

pub returns : goal.returns
returns c =
    ended_so (texts_of c.loop-at.pairs.items)
    (named (strings_of c.args.symbols.now.texts.items) c.args.labels.now) c.loop-at.at (omega (
      arith,
      length-map c.args.labels.now (named_label (strings_of c.args.symbols.now.texts.items)),
    )) c.loop-at.invariant
