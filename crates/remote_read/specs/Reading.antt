-- Reading a body from the front, as far as the first fault.
use Rattle.std.specs.Prelude.{ℕ, List, [], ◌∷◌, ◌++◌, length, map, ◌==◌, if◌then◌else◌, Result, Ok}
use Rattle.std.specs.Int.{w64, cast_signed}
use Rattle.wire.specs.Outcome.{◌>>=◌}
use Rattle.protobuf_fields.specs.Format.{Value, Number, Eight, Text, Four}
use Rattle.protobuf_fields.specs.Reading.{Refusal, message_at}
use Rattle.remote_read.specs.declared.matcher.Matcher.{Matcher}
use Rattle.remote_read.specs.declared.query.Query.{Query}
use Rattle.remote_read.specs.Format.{MatcherValue, QueryValue}
use Rattle.remote_read.specs.Format.{matcher_allows, hints_allows, query_allows, request_allows}

-- what stands in memory, without where
abbrev pub matcher_seen : Matcher → MatcherValue
matcher_seen m = record { kind = m.kind; name = m.name.now; value = m.value.now }

abbrev pub query_seen : Query → QueryValue
query_seen q = record {
  start = q.start;
  end = q.end;
  matchers = map matcher_seen q.matchers.items;
  func = q.func.now;
}

-- what a field makes of a matcher
abbrev pub matcher_step : MatcherValue → Value → Result MatcherValue Refusal
matcher_step m (Number n v) =
    if n == 1 then Ok (record { kind = v; name = m.name; value = m.value }) else Ok m
matcher_step m (Text n t) =
    if n == 2 then Ok (record { kind = m.kind; name = t; value = m.value })
    else if n == 3 then Ok (record { kind = m.kind; name = m.name; value = t })
    else Ok m
matcher_step m (Eight n v) = Ok m
matcher_step m (Four n v) = Ok m

abbrev pub no_matcher : MatcherValue
no_matcher = record { kind = 0; name = []; value = [] }

unfoldable pub matcher_at : List ℕ → Result MatcherValue Refusal
matcher_at bytes = message_at matcher_allows matcher_step (length bytes) no_matcher bytes

-- what a field of hints makes of the function that is named
abbrev pub hints_step : List ℕ → Value → Result (List ℕ) Refusal
hints_step func (Text n t) = if n == 2 then Ok t else Ok func
hints_step func (Number n v) = Ok func
hints_step func (Eight n v) = Ok func
hints_step func (Four n v) = Ok func

unfoldable pub hints_at : List ℕ → List ℕ → Result (List ℕ) Refusal
hints_at func bytes = message_at hints_allows hints_step (length bytes) func bytes

-- what a field makes of a query
abbrev pub with_matcher : QueryValue → MatcherValue → QueryValue
with_matcher q m =
    record { start = q.start; end = q.end; matchers = q.matchers ++ m ∷ []; func = q.func }

abbrev pub with_func : QueryValue → List ℕ → QueryValue
with_func q f = record { start = q.start; end = q.end; matchers = q.matchers; func = f }

abbrev pub with_start : QueryValue → ℕ → QueryValue
with_start q v =
    record { start = cast_signed w64 v; end = q.end; matchers = q.matchers; func = q.func }

abbrev pub with_end : QueryValue → ℕ → QueryValue
with_end q v =
    record { start = q.start; end = cast_signed w64 v; matchers = q.matchers; func = q.func }

unfoldable pub query_step : QueryValue → Value → Result QueryValue Refusal
query_step q (Number n v) =
    if n == 1 then Ok (with_start q v) else if n == 2 then Ok (with_end q v) else Ok q
query_step q (Text n t) =
    if n == 3 then (matcher_at t >>= λ m. Ok (with_matcher q m))
    else if n == 4 then (hints_at q.func t >>= λ f. Ok (with_func q f))
    else Ok q
query_step q (Eight n v) = Ok q
query_step q (Four n v) = Ok q

abbrev pub no_query : QueryValue
no_query = record {
  start = cast_signed w64 0;
  end = cast_signed w64 0;
  matchers = [];
  func = [];
}

unfoldable pub query_at : List ℕ → Result QueryValue Refusal
query_at bytes = message_at query_allows query_step (length bytes) no_query bytes

-- what a field makes of the queries so far
unfoldable pub request_step : List QueryValue → Value → Result (List QueryValue) Refusal
request_step all (Text n t) = if n == 1 then (query_at t >>= λ q. Ok (all ++ q ∷ [])) else Ok all
request_step all (Number n v) = Ok all
request_step all (Eight n v) = Ok all
request_step all (Four n v) = Ok all

unfoldable pub request_at : List ℕ → Result (List QueryValue) Refusal
request_at bytes = message_at request_allows request_step (length bytes) [] bytes
