-- What is left out, and how it is told.
use Rattle.std.specs.Prelude.{◌≡◌, ◌<◌, ◌^◌, ℕ, zero, suc, ◌+◌, ◌==◌, List, [], ◌∷◌, ◌++◌}
use Rattle.std.specs.Prelude.{length, codes, get_or}
use Rattle.std.specs.Prelude.{Option, None, Some, if◌then◌else◌}
use Rattle.remote_requests.specs.declared.left.LeftOut.{LeftOut}
use Rattle.remote_requests.specs.declared.left.LeftOut.TheVariants as reasons
use Rattle.remote_requests.specs.declared.left.Left.{Left}

-- the number of a reason
abbrev pub left_code : LeftOut → List ℕ
left_code reasons.TooLong = codes "L5"
left_code reasons.BadText = codes "L4"
left_code reasons.BadName = codes "L1"
left_code reasons.Repeated = codes "L2"
left_code reasons.TooMany = codes "L3"
left_code reasons.BadMetric = codes "N2"
left_code reasons.NoTime = codes "A2"
left_code reasons.TooFarAhead = codes "N4"
left_code reasons.Histogram = codes "N3"

-- the place of a reason's count
abbrev pub place_of : LeftOut → ℕ
place_of reasons.TooLong = 0
place_of reasons.BadText = 1
place_of reasons.BadName = 2
place_of reasons.Repeated = 3
place_of reasons.TooMany = 4
place_of reasons.BadMetric = 5
place_of reasons.NoTime = 6
place_of reasons.TooFarAhead = 7
place_of reasons.Histogram = 8

-- how many of these reasons have this place
abbrev pub how_many : ℕ → List LeftOut → ℕ
how_many place [] = 0
how_many place (why ∷ more) =
    (if place_of why == place then 1 else 0) + how_many place more

-- the first of them
abbrev pub first_of_reasons : List LeftOut → Option LeftOut
first_of_reasons [] = None
first_of_reasons (why ∷ more) = Some why

-- the first reason, after one more
abbrev pub first_after : Option LeftOut → LeftOut → Option LeftOut
first_after None why = Some why
first_after (Some first) why = Some first

-- one reason so many times
abbrev pub times : ℕ → LeftOut → List LeftOut
times zero why = []
times (suc n) why = why ∷ times n why

-- the count at a place
abbrev pub counted : Left → ℕ → ℕ
counted left place = get_or left.counts place 0

-- these were left out, in this order: how many for each reason, and which first
pub record IsTally (left : Left) (reasons : List LeftOut) : Type 0 where
  pub first : left.first ≡ first_of_reasons reasons
  pub counts : (place : ℕ) → counted left place ≡ how_many place reasons

-- from one tally to another these were left out, if no count goes above 2^64 - 1
abbrev pub Adds : Left → Left → List LeftOut → Type 0
Adds old new more =
    (before : List LeftOut) → length before + length more < 2 ^ 64 → IsTally old before
    → IsTally new (before ++ more)
