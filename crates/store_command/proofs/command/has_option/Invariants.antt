use Rattle.std.proofs.Common.{◌≡◌, drop}
use Rattle.audit_command.specs.Asking.{texts_of}
use Rattle.store_command.specs.Asking.{has_option}
use Rattle.store_command.proofs.command.has_option.Given as goal

abbrev pub invariant-loop-word : goal.invariant-loop-word
invariant-loop-word l =
    has_option l.name (texts_of l.words) ≡ has_option l.name (texts_of (drop l.word-index l.words))
