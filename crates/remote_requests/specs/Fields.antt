-- What the fields of a head say of the body.
use Rattle.std.specs.Prelude.{ℕ, Bool, false, not, ◌&&◌, ◌||◌, ◌==◌, List, [], map}
use Rattle.std.specs.Prelude.{take, codes, nat_lt, Option, None, Some, Result, Ok, Err}
use Rattle.std.specs.Prelude.{if◌then◌else◌}
use Rattle.std.specs.Char.{to_ascii_lowercase}
use Rattle.std.specs.List.{before_first}
use Rattle.std.specs.Str.{bytes_eq}
use Rattle.std.specs.Str.Parse.{digits_value}
use Rattle.requests.specs.Fields.{field_values, has_field, is_decimal}
use Rattle.requests.specs.QueryStrings.{only}
use Rattle.remote_requests.specs.declared.path.Path.{Path}
use Rattle.remote_requests.specs.declared.path.Path.TheVariants.{Write, Read, BuildInfo}
use Rattle.remote_requests.specs.declared.path.Path.TheVariants.{Labels, LabelsByForm, Values}
use Rattle.remote_requests.specs.declared.path.Path.TheVariants.{Series, SeriesByForm}
use Rattle.remote_requests.specs.declared.path.Path.TheVariants.{Home, Page}
use Rattle.remote_requests.specs.declared.refusal.Refusal.{Refusal}
use Rattle.remote_requests.specs.declared.refusal.Refusal.TheVariants.{NoLength, BadLength}
use Rattle.remote_requests.specs.declared.refusal.Refusal.TheVariants.{Encoding, Form}

-- a length of at most 16,777,216
abbrev pub allowed : ℕ → Result ℕ Refusal
allowed n = if nat_lt 16777216 n then Err BadLength else Ok n

-- the length that the only value writes
abbrev pub length_told : Option (List ℕ) → Result ℕ Refusal
length_told None = Err NoLength
length_told (Some value) =
    if is_decimal value then allowed (digits_value 10 value) else Err NoLength

-- the length of the body: what the only `Content-Length` writes, where there is no
-- `Transfer-Encoding`
abbrev pub length_asked : List (List ℕ × List ℕ) → Result ℕ Refusal
length_asked fields =
    if has_field (codes "transfer-encoding") fields then Err NoLength
    else length_told (only (field_values (codes "content-length") fields))

-- whether two texts are the same in any case of their letters
abbrev pub same_text : List ℕ → List ℕ → Bool
same_text a b = bytes_eq (map to_ascii_lowercase a) (map to_ascii_lowercase b)

abbrev pub is_only : List ℕ → Option (List ℕ) → Bool
is_only text None = false
is_only text (Some value) = same_text value text

-- whether the body is compressed with Snappy
abbrev pub is_packed : List (List ℕ × List ℕ) → Bool
is_packed fields = is_only (codes "snappy") (only (field_values (codes "content-encoding") fields))

-- whether the body is compressed as its path takes it: a form is not
abbrev pub is_packed_for : Path → List (List ℕ × List ℕ) → Bool
is_packed_for Write fields = is_packed fields
is_packed_for Read fields = is_packed fields
is_packed_for BuildInfo fields = is_packed fields
is_packed_for Labels fields = is_packed fields
is_packed_for LabelsByForm fields = not (has_field (codes "content-encoding") fields)
is_packed_for Values fields = is_packed fields
is_packed_for Series fields = is_packed fields
is_packed_for SeriesByForm fields = not (has_field (codes "content-encoding") fields)
is_packed_for Home fields = is_packed fields
is_packed_for Page fields = is_packed fields

-- whether a type is that of forms, with parameters or without
abbrev pub is_form_type : List ℕ → Bool
is_form_type value =
    same_text (before_first (λ byte. byte == 59) value)
    (codes "application/x-www-form-urlencoded")

-- whether the value of `Content-Type` is that of a path
abbrev pub is_form_of : Path → Option (List ℕ) → Bool
is_form_of path None = false
is_form_of Write (Some value) =
    same_text value (codes "application/x-protobuf")
    || same_text value (codes "application/x-protobuf;proto=prometheus.WriteRequest")
    || same_text value (codes "application/x-protobuf; proto=prometheus.WriteRequest")
is_form_of Read (Some value) = same_text value (codes "application/x-protobuf")
is_form_of BuildInfo (Some value) = false
is_form_of Labels (Some value) = false
is_form_of LabelsByForm (Some value) = is_form_type value
is_form_of Values (Some value) = false
is_form_of Series (Some value) = false
is_form_of SeriesByForm (Some value) = is_form_type value
is_form_of Home (Some value) = false
is_form_of Page (Some value) = false

-- whether there is a version, and it begins with `0.1.`
abbrev pub is_version : Option (List ℕ) → Bool
is_version None = false
is_version (Some value) = bytes_eq (take 4 value) (codes "0.1.")

-- whether there is no field of this name, or one of a version that fits
abbrev pub fits_version : List ℕ → List (List ℕ × List ℕ) → Bool
fits_version name fields =
    not (has_field name fields) || is_version (only (field_values name fields))

-- the field of a path's version
abbrev pub version_field : Path → List ℕ
version_field Write = codes "x-prometheus-remote-write-version"
version_field Read = codes "x-prometheus-remote-read-version"
version_field BuildInfo = []
version_field Labels = []
version_field LabelsByForm = []
version_field Values = []
version_field Series = []
version_field SeriesByForm = []
version_field Home = []
version_field Page = []

-- whether type and version are those of a path
abbrev pub has_form : Path → List (List ℕ × List ℕ) → Bool
has_form path fields =
    is_form_of path (only (field_values (codes "content-type") fields))
    && fits_version (version_field path) fields

-- whether a body is packed and spelled as its path takes it, or the first refusal
abbrev pub form_asked : Path → List (List ℕ × List ℕ) → Result (Unit {0}) Refusal
form_asked path fields =
    if not (is_packed_for path fields) then Err Encoding
    else if not (has_form path fields) then Err Form
    else Ok tt

-- the same, where there is a path
abbrev pub form_of : Result Path Refusal → List (List ℕ × List ℕ) → Result (Unit {0}) Refusal
form_of (Err refusal) fields = Ok tt
form_of (Ok path) fields = form_asked path fields
