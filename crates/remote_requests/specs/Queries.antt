-- What a query of a read comes to: a query of the store, or why it is refused.
use Rattle.std.specs.Prelude.{◌≡◌, ◌<◌, ◌≤◌, ℕ, ℤ, Bool, true, false, ◌&&◌, ◌==◌, List}
use Rattle.std.specs.Prelude.{◌∷◌, ◌++◌, length, codes, int_lt, Option, None, Some}
use Rattle.std.specs.Prelude.{if◌then◌else◌}
use Rattle.std.specs.List.{AllZip}
use Rattle.std.specs.Str.{bytes_eq, is_utf8}
use Rattle.asked_times.specs.Times.{first_time, last_time}
use Rattle.labels.specs.Names.{is_name}
use Rattle.matchers.specs.declared.matcher.Op.{Op}
use Rattle.matchers.specs.declared.matcher.Op.TheVariants as ops
use Rattle.matchers.specs.declared.limits.Limits.TheVariants.{Long}
use Rattle.matchers.specs.Limits.{IsPatternWithin, IsTooLong, IsRefusedWithin}
use Rattle.matchers.specs.Satisfies.{takes_pattern}
use Rattle.matchers.specs.Views.{MatcherView, QueryView}
use Rattle.remote_read.specs.Format.{MatcherValue, QueryValue}
use Rattle.remote_requests.specs.declared.asked.Reading.{Reading}
use Rattle.remote_requests.specs.declared.refusal.QueryFault.{QueryFault}
use Rattle.remote_requests.specs.declared.refusal.QueryFault.TheVariants as faults

-- the operator of a kind
abbrev pub op_of : ℕ → Option Op
op_of kind =
    if kind == 0 then Some ops.Equal
    else if kind == 1 then Some ops.NotEqual
    else if kind == 2 then Some ops.Like
    else if kind == 3 then Some ops.NotLike
    else None

-- whether name and value are UTF-8
abbrev pub are_texts : MatcherValue → Bool
are_texts sent = is_utf8 sent.name && is_utf8 sent.value

-- the matcher of the store that was sent
pub record IsMatcherOf (sent : MatcherValue) (matcher : MatcherView) : Type 0 where
  pub op : op_of sent.kind ≡ Some matcher.op
  pub name : matcher.name ≡ sent.name
  pub text : matcher.text ≡ sent.value
  pub texts : are_texts sent ≡ true
  pub named : is_name sent.name ≡ true
  pub pattern : takes_pattern matcher.op ≡ true → IsPatternWithin Long sent.value

-- the kind is one of the four
abbrev pub HasOp : MatcherValue → Type 0
HasOp sent = (op : Op) × (op_of sent.kind ≡ Some op)

-- a pattern for a label, of whatever form
pub record AsksPattern (sent : MatcherValue) : Type 0 where
  pub op : Op
  pub kind : op_of sent.kind ≡ Some op
  pub pattern : takes_pattern op ≡ true
  pub texts : are_texts sent ≡ true
  pub named : is_name sent.name ≡ true

-- why no matcher of the store can be made of the one that was sent: the first cause
abbrev pub IsMatcherFault : MatcherValue → QueryFault → Type 0
IsMatcherFault sent faults.TooMany = ⊥
IsMatcherFault sent faults.Kind = op_of sent.kind ≡ None
IsMatcherFault sent faults.BadText = HasOp sent × (are_texts sent ≡ false)
IsMatcherFault sent faults.BadName =
    HasOp sent × (are_texts sent ≡ true) × (is_name sent.name ≡ false)
IsMatcherFault sent faults.PatternTooLong = AsksPattern sent × IsTooLong Long sent.value
IsMatcherFault sent faults.PatternRefused = AsksPattern sent × IsRefusedWithin Long sent.value

-- the first matcher of which none can be made, and why
pub record HasMatcherFault (sent : List MatcherValue) (why : QueryFault) : Type 0 where
  pub front : List MatcherValue
  pub first : MatcherValue
  pub back : List MatcherValue
  pub is : sent ≡ front ++ first ∷ back
  pub made : List MatcherView
  pub before : AllZip IsMatcherOf front made
  pub fault : IsMatcherFault first why

-- the query of these matchers over the times of the store in a range, if it has one
abbrev pub query_over : List MatcherView → ℤ → ℤ → Option QueryView
query_over matchers start end =
    if int_lt (last_time end) (first_time start) then None
    else Some (record { matchers = matchers; from = first_time start; to = last_time end })

-- whether label sets alone are asked for
abbrev pub asks_names : List ℕ → Bool
asks_names func = bytes_eq func (codes "series")

-- The query of the store over the range that was sent, cut to the times of the store, or none where
-- the range has no such time. No range is refused.
pub record IsReadingOf (sent : QueryValue) (reading : Reading) : Type 0 where
  pub matchers : List MatcherView
  pub each : AllZip IsMatcherOf sent.matchers matchers
  pub few : length sent.matchers ≤ 64
  pub query : reading.query ≡ query_over matchers sent.start sent.end
  pub names : reading.names_alone ≡ asks_names sent.func

-- why a query is refused: it has too many matchers, or the first that cannot be made cannot for
-- this cause
abbrev pub IsQueryFault : QueryValue → QueryFault → Type 0
IsQueryFault sent faults.TooMany = 64 < length sent.matchers
IsQueryFault sent faults.Kind =
    (length sent.matchers ≤ 64) × HasMatcherFault sent.matchers faults.Kind
IsQueryFault sent faults.BadName =
    (length sent.matchers ≤ 64) × HasMatcherFault sent.matchers faults.BadName
IsQueryFault sent faults.BadText =
    (length sent.matchers ≤ 64) × HasMatcherFault sent.matchers faults.BadText
IsQueryFault sent faults.PatternTooLong =
    (length sent.matchers ≤ 64) × HasMatcherFault sent.matchers faults.PatternTooLong
IsQueryFault sent faults.PatternRefused =
    (length sent.matchers ≤ 64) × HasMatcherFault sent.matchers faults.PatternRefused

-- the first query that is refused, and why
pub record HasQueryFault (sent : List QueryValue) (why : QueryFault) : Type 0 where
  pub front : List QueryValue
  pub first : QueryValue
  pub back : List QueryValue
  pub is : sent ≡ front ++ first ∷ back
  pub readings : List Reading
  pub before : AllZip IsReadingOf front readings
  pub fault : IsQueryFault first why
