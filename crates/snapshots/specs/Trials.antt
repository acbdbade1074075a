-- Behind what a sift stands.
use Rattle.std.specs.Prelude.{List, Option, None, Some}
use Rattle.snapshots.specs.declared.entry.Entry.{Entry}
use Rattle.snapshots.specs.declared.sift.Trial.{Trial}
use Rattle.snapshots.specs.declared.sift.Trial.TheVariants.{Waits, Done}
use Rattle.snapshots.specs.Marks.{tried_of}

-- the list of all that was tried, or of what is published
abbrev pub list_in : {J : Type 0} → Trial J → List Entry
list_in (Waits log) = tried_of log
list_in (Done receipt) = receipt

-- the list, if it is published
abbrev pub published_in : {J : Type 0} → Trial J → Option (List Entry)
published_in (Waits log) = None
published_in (Done receipt) = Some receipt
