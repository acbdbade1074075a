-- Paths, their methods, and query strings.
use Rattle.std.specs.Prelude.{ℕ, Bool, true, false, not, ◌&&◌, ◌==◌, List, Option, None, Some}
use Rattle.std.specs.Prelude.{Result, Ok, Err, codes, position, is_some, if◌then◌else◌}
use Rattle.std.specs.List.{before_first, after_first}
use Rattle.std.specs.Str.{bytes_eq}
use Rattle.requests.specs.declared.refusal.Refusal.{Refusal}
use Rattle.requests.specs.declared.refusal.Refusal.TheVariants.{NoSuchPath, Method, BadQuery}
use Rattle.requests.specs.declared.target.Path.{Path}
use Rattle.requests.specs.declared.target.Path.TheVariants.{Select, Write, Delete, Cut}

-- the target up to its first `?`
abbrev pub path_text : List ℕ → List ℕ
path_text target = before_first (λ byte. byte == 63) target

-- what stands after the first `?`
abbrev pub query_text : List ℕ → List ℕ
query_text target = after_first (λ byte. byte == 63) target

-- whether there is a `?`
abbrev pub has_query : List ℕ → Bool
has_query target = is_some (position (λ byte. byte == 63) target)

abbrev pub path_named : List ℕ → Option Path
path_named text =
    if bytes_eq text (codes "/select") then Some Select
    else if bytes_eq text (codes "/write") then Some Write
    else if bytes_eq text (codes "/delete") then Some Delete
    else if bytes_eq text (codes "/cut") then Some Cut
    else None

abbrev pub method_of : Path → List ℕ
method_of Select = codes "GET"
method_of Write = codes "POST"
method_of Delete = codes "POST"
method_of Cut = codes "POST"

-- whether a path has a query string
abbrev pub takes_query : Path → Bool
takes_query Select = true
takes_query Write = false
takes_query Delete = false
takes_query Cut = false

-- the path, if it takes this method, and this query string
abbrev pub path_taken : List ℕ → Bool → Option Path → Result Path Refusal
path_taken method query None = Err NoSuchPath
path_taken method query (Some path) =
    if not (bytes_eq method (method_of path)) then Err Method
    else if query && not (takes_query path) then Err BadQuery
    else Ok path

-- the path that a method and a target ask for, or the first refusal that they meet
abbrev pub path_asked : List ℕ → List ℕ → Result Path Refusal
path_asked method target = path_taken method (has_query target) (path_named (path_text target))
