use Rattle.std.proofs.Common.{List, ◌++◌, sym, ap, ◌∙◌}
use Rattle.xor_reader.specs.Grammar.{Sample}
use Rattle.prometheus_block.proofs.Opened.{chunk_appended}
use Rattle.prometheus_block.proofs.series.push_chunk.Goals as goal

pub returns-clause-found : goal.returns-clause-found
returns-clause-found g c =
    let old = c.args.samples.now.items in
    chunk_appended (g.S.ReadSegments.may_read c.args.files.now) c.args.times c.args.chunk old _
    c.hold.new.self _ _ _ (sym c.meet.ensures ∙ c.if-not-meet.false) c.in_ok-hold.ensures.held
    c.in_ok-hold.ensures.ok c.in-Some.is c.in_ok-content.ensures
    (c.in_ok-extend_from_slice.ensures.items
    ∙ ap (λ (x : List Sample). old ++ x) c.as_slice.ensures.value)
