use Rattle.std.proofs.Common.{sym, ◌∙◌}
use Rattle.block.specs.Kept.{source_in}
use Rattle.block.proofs.Meeting.{any_in_met, held_met}
use Rattle.block.proofs.Sourcing.{packed_beside}
use Rattle.block.proofs.Wanting.{ends_asked}
use Rattle.block.proofs.samples.is_any_wanted.Goals as goal

pub has_wanted_within-requires : goal.has_wanted_within-requires
has_wanted_within-requires c =
    let f = c.args.files.now in
    packed_beside (source_in f) f.packed c.args.first c.meeting_chunks-start.result.0
    c.meeting_chunks-start.result.1.now c.args.series.now c.requires.kept
    c.meeting_chunks-start.ensures.place

pub returns-then-has_wanted_end : goal.returns-then-has_wanted_end
returns-then-has_wanted_end c =
    let w = c.args.wanted.now in
    let source = source_in c.args.files.now in
    let met = c.meeting_chunks-start.result.1.now in
    let held =
    held_met w.times.from w.times.to source c.args.series.now met
    c.meeting_chunks-start.ensures.met c.requires.held in
    sym (ends_asked w.tombstones.now w.reference w.times.from w.times.to source met held
    (sym c.has_wanted_end.ensures ∙ c.if-has_wanted_end.true))
    ∙ any_in_met w.tombstones.now w.reference w.times.from w.times.to source
    c.args.series.now met c.meeting_chunks-start.ensures.met c.requires.held

pub returns : goal.returns
returns c =
    let w = c.args.wanted.now in
    c.has_wanted_within.ensures
    ∙ any_in_met w.tombstones.now w.reference w.times.from w.times.to
    (source_in c.args.files.now) c.args.series.now c.meeting_chunks-start.result.1.now
    c.meeting_chunks-start.ensures.met c.requires.held
