-- What is told of the samples that are left out.
use Rattle.std.specs.Prelude.{ℕ, ◌+◌, List, [], ◌∷◌, Option, None, Some, codes}
use Rattle.head.specs.declared.left.Reason.{Reason}
use Rattle.head.specs.declared.left.Reason.TheVariants.{OutOfBounds, OutOfOrder, Duplicate, Limit}
use Rattle.head.specs.declared.left.Left.{Left}

-- the number of a reason, as text
abbrev pub reason_code : Reason → List ℕ
reason_code OutOfBounds = codes "E1"
reason_code OutOfOrder = codes "E2"
reason_code Duplicate = codes "E3"
reason_code Limit = codes "E4"

-- one more for this reason
abbrev pub counted : Reason → Left → Left
counted OutOfBounds t = record t { out_of_bounds = t.out_of_bounds + 1 }
counted OutOfOrder t = record t { out_of_order = t.out_of_order + 1 }
counted Duplicate t = record t { duplicate = t.duplicate + 1 }
counted Limit t = record t { limit = t.limit + 1 }

-- how many for each reason, and the first one's
abbrev pub told_of : List Reason → Left
told_of [] = record { out_of_bounds = 0; out_of_order = 0; duplicate = 0; limit = 0; first = None }
told_of (c ∷ cs) = record (counted c (told_of cs)) { first = Some c }

abbrev pub first_or : Option Reason → Reason → Option Reason
first_or None c = Some c
first_or (Some d) c = Some d

-- one more behind all others
abbrev pub with_last : Reason → Left → Left
with_last c t = record (counted c t) { first = first_or t.first c }

-- how many are left out
abbrev pub total : Left → ℕ
total t = t.out_of_bounds + t.out_of_order + t.duplicate + t.limit
