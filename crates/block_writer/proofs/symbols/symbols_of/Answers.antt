use Rattle.std.specs.Cmp.Lexicographic.{texts_ties}
use Rattle.std.specs.Str.{bytes_eq}
use Rattle.labels.specs.Labels.{text_cmp}
use Rattle.labels.specs.Pairs.{texts_of}
use Rattle.labels.proofs.Texts.{text_exact, text_total}
use Rattle.block_writer.proofs.Found.{texts_held}
use Rattle.block_writer.proofs.Held.{held_once}
use Rattle.block_writer.proofs.symbols.symbols_of.Goals as goal

pub returns : goal.returns
returns c =
    texts_held c.args.rows.now (texts_of c.args.pairs.now) _ c.requires
    (held_once (λ x. x.now) text_cmp text_total text_exact (λ x y. bytes_eq x.now y.now)
    (λ x y. texts_ties x.now y.now) c.in_ok-symbols.symbols.items c.sort_unstable.new.self.items
    c.dedup.new.self.items _ c.in_ok-symbols.ensures c.sort_unstable.ensures.permutation
    c.sort_unstable.ensures.sorted c.dedup.ensures.filtered)
