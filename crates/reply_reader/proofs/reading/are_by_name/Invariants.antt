use Rattle.std.proofs.Common.{◌≡◌, ◌-◌, drop}
use Rattle.std.specs.FinMap.Entries.{is_sorted}
use Rattle.labels.specs.Labels.{text_cmp}
use Rattle.labels.specs.Pairs.{texts_of}
use Rattle.reply_reader.proofs.reading.are_by_name.Given as goal

abbrev pub invariant-loop-i : goal.invariant-loop-i
invariant-loop-i l =
    is_sorted text_cmp (drop (l.i - 1) (texts_of l.pairs)) ≡ is_sorted text_cmp (texts_of l.pairs)
