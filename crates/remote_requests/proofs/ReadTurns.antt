-- What matchers and queries give, one after another.
use Rattle.std.proofs.Common.{◌≡◌, ◌<◌, ◌≤◌, ℕ, ℤ, List, ◌∷◌, ◌++◌, length}
use Rattle.std.proofs.Common.{true, false, Bool, Some, sym, ap, ◌∙◌, refl}
use Rattle.std.proofs.Common.{Err, IsErrOf, IsUtf8, subst, arith, true≢false}
use Rattle.std.specs.List.{AllZip}
use Rattle.std.specs.Prelude.{int_lt, pos, negsuc, ◌&&◌, if◌then◌else◌}
use Rattle.std.specs.Str.{is_utf8}
use Rattle.std.proofs.lemmas.Bool.{false_from_ne_true, true_from_ne_false}
use Rattle.std.proofs.lemmas.Str.{IsUtf8-from_is_utf8, is_utf8-from_IsUtf8}
use Rattle.labels.specs.Names.{is_name}
use Rattle.matchers.specs.Limits.{IsPatternWithin}
use Rattle.matchers.specs.declared.limits.Limits.TheVariants.{Long}
use Rattle.matchers.specs.Satisfies.{takes_pattern}
use Rattle.matchers.specs.declared.error.MatcherError.{MatcherError}
use Rattle.matchers.specs.declared.error.MatcherError.TheVariants.{BadName, PatternRefused}
use Rattle.matchers.specs.declared.error.QueryError.{QueryError}
use Rattle.matchers.specs.declared.error.QueryError.TheVariants.{BadRange, TooManyMatchers}
use Rattle.matchers.specs.declared.matcher.Op.{Op}
use Rattle.matchers.specs.Queries.{is_query_range}
use Rattle.matchers.specs.Views.{MatcherView, QueryView}
use Rattle.remote_read.specs.Format.{MatcherValue, QueryValue}
use Rattle.remote_requests.specs.declared.asked.Reading.{Reading}
use Rattle.remote_requests.specs.declared.reads.NoQuery.{NoQuery}
use Rattle.remote_requests.specs.declared.reads.NoQuery.TheVariants.{Memory, Fault}
use Rattle.remote_requests.specs.declared.refusal.QueryFault.TheVariants as faults
use Rattle.remote_requests.specs.NoQueries.{OrMemory}
use Rattle.remote_requests.specs.Queries.{IsMatcherOf, IsMatcherFault, HasMatcherFault}
use Rattle.asked_times.specs.Times.{first_time, last_time}
use Rattle.remote_requests.specs.Queries.{IsReadingOf, IsQueryFault, HasQueryFault}
use Rattle.remote_requests.specs.Queries.{op_of, AsksPattern}

pub matcher_fault : (sent front back : List MatcherValue) (first : MatcherValue)
    (made : List MatcherView) (e : NoQuery) → sent ≡ front ++ (first ∷ back)
    → AllZip IsMatcherOf front made → OrMemory (IsMatcherFault first) e
    → OrMemory (HasMatcherFault sent) e
matcher_fault sent front back first made Memory is each p = tt
matcher_fault sent front back first made (Fault why) is each p = record {
  front = front;
  first = first;
  back = back;
  is = is;
  made = made;
  before = each;
  fault = p;
}

pub query_fault : (sent : QueryValue) (e : NoQuery) → length sent.matchers ≤ 64
    → OrMemory (HasMatcherFault sent.matchers) e → OrMemory (IsQueryFault sent) e
query_fault sent Memory few p = tt
query_fault sent (Fault faults.TooMany) few p = absurd p.fault
query_fault sent (Fault faults.Kind) few p = (few, p)
query_fault sent (Fault faults.BadText) few p = (few, p)
query_fault sent (Fault faults.BadName) few p = (few, p)
query_fault sent (Fault faults.PatternTooLong) few p = (few, p)
query_fault sent (Fault faults.PatternRefused) few p = (few, p)

pub queries_fault : (sent front back : List QueryValue) (first : QueryValue)
    (readings : List Reading) (e : NoQuery) → sent ≡ front ++ (first ∷ back)
    → AllZip IsReadingOf front readings → OrMemory (IsQueryFault first) e
    → OrMemory (HasQueryFault sent) e
queries_fault sent front back first readings Memory is each p = tt
queries_fault sent front back first readings (Fault why) is each p = record {
  front = front;
  first = first;
  back = back;
  is = is;
  readings = readings;
  before = each;
  fault = p;
}

cut_low : (start : ℤ) (b : Bool) → int_lt start (negsuc 4611686018427387903) ≡ b
    → int_lt (if b then negsuc 4611686018427387903 else start) (negsuc 4611686018427387903)
    ≡ false
cut_low start true e = refl
cut_low start false e = e

cut_high : (end : ℤ) (b : Bool) → int_lt (pos 4611686018427387903) end ≡ b
    → int_lt (pos 4611686018427387903) (if b then pos 4611686018427387903 else end) ≡ false
cut_high end true e = refl
cut_high end false e = e

-- a range with a time of the store is one of a query
pub range_is : (start end : ℤ) → int_lt (last_time end) (first_time start) ≡ false
    → is_query_range (first_time start) (last_time end) ≡ true
range_is start end e =
    rw (
      cut_low start (int_lt start (negsuc 4611686018427387903)) refl,
      e,
      cut_high end (int_lt (pos 4611686018427387903) end) refl,
    ) refl

pub no_query : (e : QueryError) (a b start end : ℤ) (ms : List MatcherView) → a ≡ first_time start
    → b ≡ last_time end → int_lt b a ≡ false → length ms ≤ 64
    → (IsErrOf {T = QueryView} (Err e) BadRange → is_query_range a b ≡ false)
    → (IsErrOf {T = QueryView} (Err e) TooManyMatchers → (is_query_range a b ≡ true)
    × (64 < length ms)) → ⊥
no_query BadRange a b start end ms low high order few bad many =
    let first : int_lt b (first_time start) ≡ false =
    subst (λ (p : ℤ). int_lt b p ≡ false) low order in
    let both : int_lt (last_time end) (first_time start) ≡ false =
    subst (λ (p : ℤ). int_lt p (first_time start) ≡ false) high first in
    true≢false (sym (range_is start end both) ∙ (rw (low, high) at (bad refl)))
no_query TooManyMatchers a b start end ms low high order few bad many =
    omega (arith, few, (many refl).1)

no_text : (bytes : List ℕ) → (IsUtf8 bytes → ⊥) → is_utf8 bytes ≡ false
no_text bytes never =
    false_from_ne_true (is_utf8 bytes) (λ e. never (IsUtf8-from_is_utf8 bytes e))

pub name_fault : (name value : List ℕ) → (IsUtf8 name → ⊥)
    → (is_utf8 name && is_utf8 value) ≡ false
name_fault name value never = rw (no_text name never) refl

pub value_fault : (name value : List ℕ) → IsUtf8 name → (IsUtf8 value → ⊥)
    → (is_utf8 name && is_utf8 value) ≡ false
value_fault name value text never = rw (is_utf8-from_IsUtf8 name text, no_text value never) refl

pub both_texts : (name value : List ℕ) → IsUtf8 name → IsUtf8 value
    → (is_utf8 name && is_utf8 value) ≡ true
both_texts name value text other =
    rw (is_utf8-from_IsUtf8 name text, is_utf8-from_IsUtf8 value other) refl

-- the matcher that was made
pub matcher_made : (sent : MatcherValue) (matcher : MatcherView) (op : Op) (name text : List ℕ)
    → Some op ≡ op_of sent.kind
    → matcher ≡ record { name = name; op = op; text = text }
    → name ≡ sent.name → text ≡ sent.value → IsUtf8 sent.name → IsUtf8 sent.value
    → is_name name ≡ true → (takes_pattern op ≡ true → IsPatternWithin Long text)
    → IsMatcherOf sent matcher
matcher_made sent matcher op name text kind is same_name same_text name_text value_text named read =
    record {
      op = sym kind ∙ ap (λ (m : MatcherView). Some m.op) (sym is);
      name = ap (λ (m : MatcherView). m.name) is ∙ same_name;
      text = ap (λ (m : MatcherView). m.text) is ∙ same_text;
      texts = both_texts sent.name sent.value name_text value_text;
      named = subst (λ (n : List ℕ). is_name n ≡ true) same_name named;
      pattern =
          λ takes. subst (IsPatternWithin Long) same_text
          (read (ap (λ (m : MatcherView). takes_pattern m.op) (sym is) ∙ takes));
    }

-- a pattern for which none was made
pub asks_pattern : (sent : MatcherValue) (op : Op) → Some op ≡ op_of sent.kind
    → takes_pattern op ≡ true → IsUtf8 sent.name → IsUtf8 sent.value → is_name sent.name ≡ true
    → AsksPattern sent
asks_pattern sent op kind takes name_text value_text named = record {
  op = op;
  kind = sym kind;
  pattern = takes;
  texts = both_texts sent.name sent.value name_text value_text;
  named = named;
}

differ : (e : MatcherError) → e ≡ PatternRefused → IsErrOf {T = MatcherView} (Err e) BadName → ⊥
differ e is bad = let same : e ≡ BadName = cc in absurd (cc (is, same))

-- a name that was not refused
pub named_at : (e : MatcherError) (name : List ℕ) → e ≡ PatternRefused
    → (is_name name ≡ false → IsErrOf {T = MatcherView} (Err e) BadName) → is_name name ≡ true
named_at e name is refused =
    true_from_ne_false (is_name name)
    (λ f. absurd (differ e is (refused f)))
