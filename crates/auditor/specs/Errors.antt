-- The numbers of flaws, and their texts.
use Rattle.std.specs.Prelude.{ℕ, List, ◌++◌, codes, decimal}
use Rattle.auditor.specs.declared.flaw.Flaw.{Flaw}
use Rattle.auditor.specs.declared.flaw.Flaw.TheVariants.{NotAPartition, NotMatching, NotRejected}
use Rattle.auditor.specs.declared.flaw.Flaw.TheVariants.{SeparatorCount, SeparatorsFit, WrongRows}
use Rattle.auditor.specs.declared.flaw.Flaw.TheVariants.{UnknownMatcher, NotSilent, Hidden}
use Rattle.auditor.specs.declared.flaw.Flaw.TheVariants.{WrongMerge, Memory}

-- the number of a flaw, as text
abbrev pub code_of : Flaw → List ℕ
code_of NotAPartition = codes "F1"
code_of NotMatching = codes "F2"
code_of (NotRejected matcher) = codes "F3"
code_of SeparatorCount = codes "F4"
code_of (SeparatorsFit at) = codes "F5"
code_of WrongRows = codes "F6"
code_of UnknownMatcher = codes "F7"
code_of NotSilent = codes "F8"
code_of Hidden = codes "F9"
code_of WrongMerge = codes "F10"
code_of Memory = codes "memory"

-- a flaw in a line, for people
abbrev pub flaw_text : Flaw → List ℕ
flaw_text NotAPartition = codes "F1: the intervals are no partition of the part"
flaw_text NotMatching = codes "F2: a match is not one series that answers"
flaw_text (NotRejected matcher) = codes "F3: matcher " ++ decimal matcher
    ++ codes " accepts a series that it is said to reject"
flaw_text SeparatorCount =
    codes "F4: the separators are not ascending references, one for each interval"
flaw_text (SeparatorsFit at) = codes "F5: separator " ++ decimal at
    ++ codes " and the next lie in one fitting run"
flaw_text WrongRows = codes "F6: the rows are not those of the part"
flaw_text UnknownMatcher = codes "F7: a verdict names a matcher that is not there"
flaw_text NotSilent = codes "F8: a series that is said to have no sample in the range has one"
flaw_text Hidden = codes "F9: a skipped part has rows to show"
flaw_text WrongMerge = codes "F10: the rows are not those that the parts list"
flaw_text Memory = codes "no memory"

-- memory may run out at any time
abbrev pub OrMemory : (Flaw → Type 0) → Flaw → Type 0
OrMemory cause Memory = Unit {0}
OrMemory cause flaw = cause flaw
