-- Seats, and how many events each has published.
use Rattle.std.specs.Prelude.{◌≡◌, ◌<◌, ◌≤◌, ℕ, ◌+◌, ◌==◌, List, [], ◌∷◌, length, slice_index}
use Rattle.std.specs.Prelude.{if◌then◌else◌}
use mathlib.Core.List.{IsPrefix}
use Rattle.snapshots.specs.declared.entry.Entry.{Entry}

-- a seat: its number, how many events it has published, and the list of its last receipt
pub record SeatView : Type 0 where
  pub number : ℕ
  pub count : ℕ
  pub seen : List Entry

-- how many of these events were published under a number
abbrev pub count_of : ℕ → List Entry → ℕ
count_of seat [] = 0
count_of seat (e ∷ es) = (if seat == e.seat then 1 else 0) + count_of seat es

-- the seat's number is one of the store's, its count is the book's, and may grow
abbrev pub FitsSeat : SeatView → List ℕ → Type 0
FitsSeat seat counts =
    (seat.number < length counts)
    × (slice_index counts seat.number ≡ seat.count)
    × (seat.count < 18446744073709551615)

-- each count is the number of events of its seat
abbrev pub AreCounts : List ℕ → List Entry → Type 0
AreCounts counts entries =
    (k : ℕ) → k < length counts → slice_index counts k ≡ count_of k entries

-- a list that the seat may meet: it begins with the list of each receipt that the seat got, and has
-- as many events under the seat's number as the seat has published
pub record IsMetBy (seat : SeatView) (entries : List Entry) : Type 0 where
  pub begins : IsPrefix seat.seen entries
  pub counted : count_of seat.number entries ≡ seat.count

-- the seat has published one event more, and has seen this list: it begins with what the seat had
-- seen, and has as many events under the seat's number as its count says
abbrev pub HasOneMoreEvent : SeatView → SeatView → List Entry → Type 0
HasOneMoreEvent old new entries =
    (new ≡ record { number = old.number; count = old.count + 1; seen = entries })
    × IsPrefix old.seen entries × (count_of old.number entries ≡ new.count)

-- the seats are numbered from n on, and have published nothing
abbrev pub AreFresh : ℕ → List SeatView → Type 0
AreFresh n [] = Unit {0}
AreFresh n (s ∷ ss) = (s.number ≡ n) × (s.count ≡ 0) × (s.seen ≡ []) × AreFresh (n + 1) ss

-- so many passes and seats are allowed
abbrev pub IsRoom : ℕ → ℕ → Type 0
IsRoom passes seats = (0 < passes) × (passes ≤ 64) × (0 < seats) × (seats ≤ 64)
