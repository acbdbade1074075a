use Rattle.std.proofs.Common.{◌&&◌, refl}
use Rattle.std.specs.Str.{bytes_eq}
use Rattle.labels.specs.Labels.{pair_cmp}
use Rattle.labels.proofs.Texts.{pair_exact, pair_total}
use Rattle.block_writer.proofs.Held.{held_once, pair_ties}
use Rattle.block_writer.proofs.symbols.keep_once.Goals as goal

pub returns : goal.returns
returns c =
    held_once (λ x. (x.0.now, x.1.now)) pair_cmp pair_total pair_exact
    (λ x y. bytes_eq x.0.now y.0.now && bytes_eq x.1.now y.1.now) pair_ties
    c.args.pairs.now.items c.sort_unstable.new.self.items c.dedup.new.self.items _ refl
    c.sort_unstable.ensures.permutation c.sort_unstable.ensures.sorted c.dedup.ensures.filtered
