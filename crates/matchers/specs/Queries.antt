-- Which ranges of times may be asked for, and which samples a query asks for.
use Rattle.std.specs.Prelude.{ℤ, pos, negsuc, Bool, not, ◌&&◌, int_lt}
use Rattle.labels.specs.Contents.{Content, selected}
use Rattle.matchers.specs.Satisfies.{satisfies_all}
use Rattle.matchers.specs.Views.{QueryView}

-- whether both ends are times, from -2^62 to 2^62 - 1, and the first is not above the second
abbrev pub is_query_range : ℤ → ℤ → Bool
is_query_range from to =
    not (int_lt from (negsuc 4611686018427387903)) && not (int_lt to from)
    && not (int_lt (pos 4611686018427387903) to)

-- the samples that a query asks for: of label sets that satisfy all matchers, in the closed range
abbrev pub selected_by : QueryView → Content → Content
selected_by query content = selected (satisfies_all query.matchers) query.from query.to content
