use Rattle.std.proofs.Common.{◌≡◌, ◌-◌}
use Rattle.open_metrics.specs.declared.error.Reason.TheVariants.{Text}
use Rattle.open_metrics.specs.Texts.{char_at, until_end}
use Rattle.open_metrics.proofs.Items.{with_front}
use Rattle.open_metrics.proofs.texts.cut_chars.Given as goal

abbrev pub invariant-loop-counter : goal.invariant-loop-counter
invariant-loop-counter l =
    with_front l.text.items (until_end char_at Text (l.count - l.counter) l.rest)
    ≡ until_end char_at Text l.count l.bytes
