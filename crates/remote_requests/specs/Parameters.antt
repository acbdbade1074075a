-- The parameters of a listing: what is wanted, from when to when, and how many at most.
use Rattle.std.specs.Prelude.{ℕ, ℤ, pos, negsuc, ◌-ℤ◌, ◌^◌, Bool, true, false, ◌&&◌, ◌==◌}
use Rattle.std.specs.Prelude.{List, [], ◌∷◌, length, min, nat_lt, codes, Option, None, Some}
use Rattle.std.specs.Prelude.{option_map, Result, Ok, Err, if◌then◌else◌, string_bytes}
use Rattle.std.specs.Str.{is_utf8}
use Rattle.std.specs.Str.Parse.{digits_value}
use Rattle.labels.specs.Names.{is_name}
use Rattle.wire.specs.Outcome.{◌>>=◌}
use Rattle.decimal_text.specs.Tenths.{nearest_at}
use Rattle.decimal_text.specs.declared.error.DecimalError.{DecimalError}
use Rattle.decimal_text.specs.declared.error.DecimalError.TheVariants.{Form, Finer, Large}
use Rattle.decimal_text.specs.declared.rounding.Nearest.{Nearest}
use Rattle.requests.specs.Fields.{is_decimal}
use Rattle.requests.specs.QueryStrings.{values_named}
use Rattle.requests.specs.Targets.{path_text}
use Rattle.remote_requests.specs.declared.asked.Listed.{Listed}
use Rattle.remote_requests.specs.declared.asked.Listed.TheVariants as wants
use Rattle.remote_requests.specs.declared.listings.Bounds.{Bounds}
use Rattle.remote_requests.specs.declared.path.Path.{Path}
use Rattle.remote_requests.specs.declared.path.Path.TheVariants as paths
use Rattle.remote_requests.specs.declared.refusal.Refusal.{Refusal}
use Rattle.remote_requests.specs.declared.refusal.Refusal.TheVariants.{BadParameter, NoLabel}
use Rattle.remote_requests.specs.declared.refusal.Refusal.TheVariants.{NoMatch, NoSuchPath}
use Rattle.remote_requests.specs.declared.refusal.Refusal.TheVariants.{TooMany}
use Rattle.remote_requests.specs.Paths.{name_between, names_values}

-- what is listed: names of labels, the values that a label has, or label sets
pub data Wanted : Type 0 where
  names : Wanted
  values : List ℕ → Wanted
  series : Wanted

abbrev pub wanted_seen : Listed → Wanted
wanted_seen wants.Names = names
wanted_seen (wants.Values name) = values (string_bytes name)
wanted_seen wants.Series = series

-- the name in the path of a label's values, if it is a label name
abbrev pub if_name : List ℕ → Option (List ℕ)
if_name name = if is_utf8 name && is_name name then Some name else None

abbrev pub label_in : List ℕ → Option (List ℕ)
label_in target =
    if names_values (path_text target) then if_name (name_between (path_text target)) else None

abbrev pub values_wanted : Option (List ℕ) → Result Wanted Refusal
values_wanted None = Err NoLabel
values_wanted (Some name) = Ok (values name)

-- what a path wants
abbrev pub wanted_of : Path → List ℕ → Result Wanted Refusal
wanted_of paths.Write target = Err NoSuchPath
wanted_of paths.Read target = Err NoSuchPath
wanted_of paths.BuildInfo target = Err NoSuchPath
wanted_of paths.Labels target = Ok names
wanted_of paths.LabelsByForm target = Ok names
wanted_of paths.Values target = values_wanted (label_in target)
wanted_of paths.Series target = Ok series
wanted_of paths.SeriesByForm target = Ok series
wanted_of paths.Home target = Err NoSuchPath
wanted_of paths.Page target = Err NoSuchPath

-- whether label sets are wanted
abbrev pub wants_series : Wanted → Bool
wants_series names = false
wants_series (values name) = false
wants_series series = true

-- whether there are enough selectors, and not too many: label sets are asked for by at least one
abbrev pub enough : Wanted → ℕ → Result (Unit {0}) Refusal
enough wanted count =
    if wants_series wanted && count == 0 then Err NoMatch
    else if nat_lt 64 count then Err TooMany
    else Ok tt

-- the text, unless it is empty
abbrev pub not_empty : List ℕ → Option (List ℕ)
not_empty text = if length text == 0 then None else Some text

abbrev pub first_given : List (List ℕ) → Option (List ℕ)
first_given [] = None
first_given (text ∷ texts) = not_empty text

-- the first value of a name, unless it is empty
abbrev pub given : List ℕ → List (List ℕ × List ℕ) → Option (List ℕ)
given name pairs = first_given (values_named name pairs)

-- the milliseconds nearest to the seconds that digits write, of two that are as near the even
-- number, and at most 2^62
abbrev pub size_told : Result Nearest DecimalError → Option ℕ
size_told (Ok nearest) = Some (min nearest.size 4611686018427387904)
size_told (Err Large) = Some 4611686018427387904
size_told (Err Form) = None
size_told (Err Finer) = None

unfoldable pub size_of : List ℕ → Option ℕ
size_of text = size_told (nearest_at text 3 0)

-- a size, before 0 or behind it
abbrev pub signed : Bool → ℕ → ℤ
signed true n = pos 0 -ℤ pos n
signed false n = pos n

abbrev pub time_in : Bool → List ℕ → Option ℤ
time_in before digits = option_map (signed before) (size_of digits)

abbrev pub time_after : ℕ → List ℕ → List ℕ → Option ℤ
time_after first digits text =
    if first == 45 then time_in true digits else time_in false text

-- the time that a text of seconds writes, perhaps after a `-`
abbrev pub time_of : List ℕ → Option ℤ
time_of [] = None
time_of (byte ∷ bytes) = time_after byte bytes (byte ∷ bytes)

abbrev pub time_or : Option ℤ → Result ℤ Refusal
time_or None = Err BadParameter
time_or (Some time) = Ok time

-- the time of a parameter
abbrev pub time_told : ℤ → Option (List ℕ) → Result ℤ Refusal
time_told absent None = Ok absent
time_told absent (Some text) = time_or (time_of text)

-- the limit that a number is; 0 is none
abbrev pub limit_by : ℕ → Result (Option ℕ) Refusal
limit_by n =
    if nat_lt n (2 ^ 64) then (if n == 0 then Ok None else Ok (Some n)) else Err BadParameter

-- the limit that a text writes
abbrev pub limit_of : List ℕ → Result (Option ℕ) Refusal
limit_of text = if is_decimal text then limit_by (digits_value 10 text) else Err BadParameter

-- the limit of a parameter
abbrev pub limit_told : Option (List ℕ) → Result (Option ℕ) Refusal
limit_told None = Ok None
limit_told (Some text) = limit_of text

abbrev pub start_in : List (List ℕ × List ℕ) → Result ℤ Refusal
start_in pairs = time_told (negsuc 4611686018427387903) (given (codes "start") pairs)

abbrev pub end_in : List (List ℕ × List ℕ) → Result ℤ Refusal
end_in pairs = time_told (pos 4611686018427387903) (given (codes "end") pairs)

abbrev pub limit_in : List (List ℕ × List ℕ) → Result (Option ℕ) Refusal
limit_in pairs = limit_told (given (codes "limit") pairs)

abbrev pub bounds : ℤ → ℤ → Option ℕ → Bounds
bounds start end limit = record { start = start; end = end; limit = limit }

-- the ends of the range and the limit, or the first of them that is not of its form; absent ones
-- are all times of the store, and no limit
unfoldable pub bounds_of : List (List ℕ × List ℕ) → Result Bounds Refusal
bounds_of pairs =
    start_in pairs >>= λ start. end_in pairs >>= λ end. limit_in pairs >>= λ limit.
    Ok (bounds start end limit)

-- the same, where there are so many selectors
unfoldable pub bounds_for : Wanted → ℕ → List (List ℕ × List ℕ) → Result Bounds Refusal
bounds_for wanted count pairs = enough wanted count >>= λ _. bounds_of pairs
