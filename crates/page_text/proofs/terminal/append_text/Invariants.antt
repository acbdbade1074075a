use Rattle.std.proofs.Common.{◌≡◌, ◌++◌, drop}
use Rattle.std.specs.List.{flat_map}
use Rattle.page_text.specs.Plain.{seen_char}
use Rattle.page_text.proofs.terminal.append_text.Given as goal

abbrev pub invariant-loop-c : goal.invariant-loop-c
invariant-loop-c l =
    l.out.items ++ flat_map seen_char (drop l.c-index l.chars)
    ≡ l.fn.out.items ++ flat_map seen_char l.chars
