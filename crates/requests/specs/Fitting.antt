-- What a store asks of the requests that change it.
use Rattle.std.specs.Prelude.{◌≡◌, ◌≤◌, ℤ, Bool, true, List, length, ⊤}
use Rattle.std.specs.List.{list_all}
use Rattle.labels.specs.Contents.{is_time}
use Rattle.labels.specs.Labels.{Labels}
use Rattle.matchers.specs.Queries.{is_query_range}
use Rattle.requests.specs.Rows.{batch_of}
use Rattle.requests.specs.declared.request.Request.{Request}
use Rattle.requests.specs.declared.request.Request.TheVariants.{Select, Write, Delete, Cut}

-- whether each sample is at a time
abbrev pub are_timed : List (Labels × (ℤ × ℤ)) → Bool
are_timed samples = list_all (λ (s : Labels × (ℤ × ℤ)). is_time s.1.0) samples

-- a batch has at most 4,096 samples, each at a time; a deletion a range and at most 16 matchers;
-- a cut is at a time
abbrev pub IsFit : Request → Type 0
IsFit (Select query) = ⊤
IsFit (Write rows) =
    (length (batch_of rows.items) ≤ 4096) × (are_timed (batch_of rows.items) ≡ true)
IsFit (Delete matchers from to) = (is_query_range from to ≡ true) × (length matchers.items ≤ 16)
IsFit (Cut t) = is_time t ≡ true
