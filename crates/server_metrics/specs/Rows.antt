-- The lines of a family.
use Rattle.std.specs.Prelude.{ℕ, ◌+◌, ◌-◌, ◌^◌, List, [], ◌∷◌, ◌++◌, codes, decimal, min, fold}
use Rattle.server_metrics.specs.declared.rows.Kind.{Kind}
use Rattle.server_metrics.specs.declared.rows.Kind.TheVariants.{Counter, Gauge, Histogram}
use Rattle.server_metrics.specs.Numbers.{seconds_text}

abbrev pub kind_name : Kind → List ℕ
kind_name Counter = codes "counter"
kind_name Gauge = codes "gauge"
kind_name Histogram = codes "histogram"

unfoldable pub help_text : List ℕ → List ℕ → List ℕ
help_text name help = codes "# HELP " ++ name ++ codes " " ++ help ++ codes "\n"

unfoldable pub type_text : List ℕ → Kind → List ℕ
type_text name kind = codes "# TYPE " ++ name ++ codes " " ++ kind_name kind ++ codes "\n"

-- what stands before the rows of a family
unfoldable pub head_text : List ℕ → Kind → List ℕ → List ℕ
head_text name kind help = help_text name help ++ type_text name kind

-- a row without labels
unfoldable pub plain_text : List ℕ → List ℕ → List ℕ
plain_text name value = name ++ codes " " ++ value ++ codes "\n"

-- what stands after the last label of a row
unfoldable pub end_text : List ℕ → List ℕ
end_text value = codes "\"} " ++ value ++ codes "\n"

-- a row with a front up to its last label, and that label
unfoldable pub row_text : List ℕ → List ℕ → ℕ → List ℕ
row_text front label n = front ++ label ++ end_text (decimal n)

-- a name and a path
unfoldable pub path_front : List ℕ → List ℕ → List ℕ
path_front name path = name ++ codes "{path=\"" ++ path

-- a row with a path alone
unfoldable pub path_text : List ℕ → List ℕ → List ℕ → List ℕ
path_text name path value = path_front name path ++ end_text value

-- what stands before the last label of a row with a path
unfoldable pub front_text : List ℕ → List ℕ → List ℕ → List ℕ
front_text name path label = path_front name path ++ codes "\"," ++ label ++ codes "=\""

-- a row for each number and its count
abbrev pub rows_text : List ℕ → List ℕ → List ℕ → List ℕ
rows_text front [] counts = []
rows_text front (label ∷ labels) [] = []
rows_text front (label ∷ labels) (n ∷ ns) =
    row_text front (decimal label) n ++ rows_text front labels ns

-- a sum that stops at the greatest number of 64 bits
abbrev pub capped : ℕ → ℕ → ℕ
capped m n = min (m + n) (2 ^ 64 - 1)

abbrev pub total : List ℕ → ℕ
total counts = fold capped 0 counts

-- a row for each bound: how many lie at it or below
abbrev pub buckets_text : List ℕ → ℕ → List ℕ → List ℕ → List ℕ
buckets_text front below [] counts = []
buckets_text front below (bound ∷ bounds) [] = []
buckets_text front below (bound ∷ bounds) (n ∷ ns) =
    row_text front (seconds_text bound) (capped below n)
    ++ buckets_text front (capped below n) bounds ns
