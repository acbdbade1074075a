-- The list of events that a log of marks has accepted.
--
-- An event that is tried waits. A seal gathers all that waits, so that it is kept together; what is
-- tried after it waits for the next one. Where the sealed events are done, they are accepted. What
-- is void takes all that waits with it, since it was tried after what was sealed.
use Rattle.std.specs.Prelude.{ℕ, ◌+◌, List, [], ◌∷◌, ◌++◌}
use Rattle.snapshots.specs.declared.entry.Entry.{Entry}
use Rattle.snapshots.specs.declared.entry.Mark.{Mark}
use Rattle.snapshots.specs.declared.entry.Mark.TheVariants.{Try, Seal, Done, Void}

-- what is accepted from here on, where these are sealed, and those wait beside them
abbrev pub accepted_after : List Entry → List Entry → List Mark → List Entry
accepted_after sealed waiting [] = []
accepted_after sealed waiting (Try e ∷ log) = accepted_after sealed (waiting ++ e ∷ []) log
accepted_after sealed waiting (Seal ∷ log) = accepted_after (sealed ++ waiting) [] log
accepted_after sealed waiting (Done ∷ log) = sealed ++ accepted_after [] waiting log
accepted_after sealed waiting (Void ∷ log) = accepted_after [] [] log

-- the entries that were tried, sealed and then done
abbrev pub accepted : List Mark → List Entry
accepted log = accepted_after [] [] log

-- the list of a version that is published with this log: what was sealed is done
abbrev pub list_of : List Mark → List Entry
list_of log = accepted (log ++ Done ∷ [])

-- the list if all that waits is sealed and done
abbrev pub tried_of : List Mark → List Entry
tried_of log = accepted (log ++ Seal ∷ Done ∷ [])

-- how often what waited was given up
abbrev pub voids_of : List Mark → ℕ
voids_of [] = 0
voids_of (Try e ∷ log) = voids_of log
voids_of (Seal ∷ log) = voids_of log
voids_of (Done ∷ log) = voids_of log
voids_of (Void ∷ log) = 1 + voids_of log
