use Rattle.std.proofs.Common.{◌≡◌, ℕ, ◌<◌, ◌≤◌, List, Some, length, sym, ◌∙◌, arith}
use Rattle.std.specs.Prelude.{slice_get}
use Rattle.std.specs.List.{All}
use Rattle.std.proofs.lemmas.List.{length-map}
use Rattle.std.proofs.lemmas.Option.{get_or_from_slice_get}
use Rattle.block_walk.specs.declared.entries.Entry.{Entry}
use Rattle.block_walk.specs.IndexFile.Seen.{entry_seen, entries_seen}
use Rattle.block_walk.proofs.IndexFile.Gaps.{gap_step, gap_end}
use Rattle.block_walk.proofs.bodies.gaps_are_zero.Goals as goal

offset_inside : (entries : List Entry) (len i : ℕ) (e : Entry)
    → All (λ (x : Entry). x.offset ≤ len) entries → i < length entries
    → slice_get entries i ≡ Some e → e.offset ≤ len
offset_inside entries len i e h lt g = rw (get_or_from_slice_get entries i e e g) at (h i e lt)

pub zero_between-requires : goal.zero_between-requires
zero_between-requires c =
    offset_inside c.args.entries.now (length c.args.file.now) c.loop-at.at _ c.requires.inside
    c.loop-at-test.true c.entry_in-entry.ensures.value

pub returns-then-not-zero_between : goal.returns-then-not-zero_between
returns-then-not-zero_between c =
    let n =
    gap_step c.args.file.now c.args.end c.loop-at.from (entries_seen c.args.entries.now) c.loop-at.at _
    c.zero_between.result _ c.entry_in-entry.ensures.seen c.zero_between.ensures
    c.loop-at.invariant in
    sym (rw c.if-not-zero_between.true at n)

pub loop-at-preserved : goal.loop-at-preserved
loop-at-preserved c =
    let n =
    gap_step c.args.file.now c.args.end c.loop-at.from (entries_seen c.args.entries.now) c.loop-at.at _
    c.zero_between.result _ c.entry_in-entry.ensures.seen c.zero_between.ensures
    c.loop-at.invariant in
    sym (rw c.if-not-zero_between.false at n)

pub returns : goal.returns
returns c =
    c.zero_between-2.ensures
    ∙ gap_end c.args.file.now c.args.end c.loop-at.from (entries_seen c.args.entries.now) c.loop-at.at _
    (omega (arith, length-map c.args.entries.now entry_seen)) c.loop-at.invariant
