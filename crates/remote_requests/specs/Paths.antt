-- The paths of the port, and their methods.
use Rattle.std.specs.Prelude.{ℕ, ◌-◌, ◌&&◌, Bool, List, Option, None, Some, Result, Ok, Err, codes}
use Rattle.std.specs.Prelude.{if◌then◌else◌, take, drop, length, nat_le, slice_range}
use Rattle.std.specs.Str.{bytes_eq}
use Rattle.requests.specs.Targets.{path_text}
use Rattle.remote_requests.specs.declared.path.Path.{Path}
use Rattle.remote_requests.specs.declared.path.Path.TheVariants.{Write, Read, BuildInfo}
use Rattle.remote_requests.specs.declared.path.Path.TheVariants.{Labels, LabelsByForm, Values}
use Rattle.remote_requests.specs.declared.path.Path.TheVariants.{Series, SeriesByForm}
use Rattle.remote_requests.specs.declared.path.Path.TheVariants.{Home, Page}
use Rattle.remote_requests.specs.declared.refusal.Refusal.{Refusal}
use Rattle.remote_requests.specs.declared.refusal.Refusal.TheVariants.{NoSuchPath, Method}

-- whether a target is that of writes: they alone change the store
abbrev pub is_write : List ℕ → Bool
is_write target = bytes_eq (path_text target) (codes "/api/v1/write")

-- whether a path is that of the values of a label: `/api/v1/label/NAME/values`
abbrev pub names_values : List ℕ → Bool
names_values text =
    nat_le 21 (length text) && bytes_eq (take 14 text) (codes "/api/v1/label/")
    && bytes_eq (drop (length text - 7) text) (codes "/values")

-- what stands between
abbrev pub name_between : List ℕ → List ℕ
name_between text = slice_range text 14 (length text - 7)

abbrev pub path_named : List ℕ → Option Path
path_named text =
    if bytes_eq text (codes "/api/v1/write") then Some Write
    else if bytes_eq text (codes "/api/v1/read") then Some Read
    else if bytes_eq text (codes "/api/v1/status/buildinfo") then Some BuildInfo
    else if bytes_eq text (codes "/api/v1/labels") then Some Labels
    else if bytes_eq text (codes "/api/v1/series") then Some Series
    else if names_values text then Some Values
    else if bytes_eq text (codes "/") then Some Home
    else if bytes_eq text (codes "/page") then Some Page
    else None

abbrev pub method_of : Path → List ℕ
method_of Write = codes "POST"
method_of Read = codes "POST"
method_of BuildInfo = codes "GET"
method_of Labels = codes "GET"
method_of LabelsByForm = codes "POST"
method_of Values = codes "GET"
method_of Series = codes "GET"
method_of SeriesByForm = codes "POST"
method_of Home = codes "GET"
method_of Page = codes "GET"

-- the path where a form is posted, if it takes one
abbrev pub by_form : Path → Option Path
by_form Write = None
by_form Read = None
by_form BuildInfo = None
by_form Labels = Some LabelsByForm
by_form LabelsByForm = None
by_form Values = None
by_form Series = Some SeriesByForm
by_form SeriesByForm = None
by_form Home = None
by_form Page = None

abbrev pub form_taken : List ℕ → Option Path → Result Path Refusal
form_taken method None = Err Method
form_taken method (Some path) =
    if bytes_eq method (method_of path) then Ok path else Err Method

-- the path, if it takes this method
abbrev pub path_taken : List ℕ → Option Path → Result Path Refusal
path_taken method None = Err NoSuchPath
path_taken method (Some path) =
    if bytes_eq method (method_of path) then Ok path else form_taken method (by_form path)

-- the path that a method and a target ask for, or the first refusal that they meet; what stands
-- after a `?` is passed over
abbrev pub path_asked : List ℕ → List ℕ → Result Path Refusal
path_asked method target = path_taken method (path_named (path_text target))
