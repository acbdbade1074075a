use Rattle.std.proofs.Common.{◌++◌, ℤ, List, ap, sym, ◌∙◌}
use Rattle.std.proofs.lemmas.Result.{on_ok_weaker}
use Rattle.block.proofs.WholeChunks.{whole_kept}
use Rattle.block.proofs.samples.push_chunk.Goals as goal

pub returns-then-has_all : goal.returns-then-has_all
returns-then-has_all c =
    let w = c.args.wanted.now in
    on_ok_weaker c.push_all.result
    (λ added. added ∙ ap (λ (ss : List (ℤ × ℤ)). c.args.found.now.items ++ ss)
    (sym (whole_kept w.tombstones.now w.reference w.times.from w.times.to
    (λ any. c.args.samples.now) c.args.chunk c.requires
    (sym c.has_all.ensures ∙ c.if-has_all.true))))
    c.push_all.ensures
