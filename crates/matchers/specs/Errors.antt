-- The numbers of refusals, and their texts.
use Rattle.std.specs.Prelude.{ℕ, List, ◌++◌, codes, decimal}
use Rattle.matchers.specs.declared.error.MatcherError.{MatcherError}
use Rattle.matchers.specs.declared.error.MatcherError.TheVariants.{BadName, PatternTooLong}
use Rattle.matchers.specs.declared.error.MatcherError.TheVariants.{PatternRefused, Memory}
use Rattle.matchers.specs.declared.error.QueryError.{QueryError}
use Rattle.matchers.specs.declared.error.QueryError.TheVariants.{BadRange, TooManyMatchers}
use Rattle.matchers.specs.declared.error.SelectorError.{SelectorError}
use Rattle.matchers.specs.declared.error.SelectorError.TheVariants as selector

-- the code of a matcher's refusal, as text
abbrev pub matcher_code : MatcherError → List ℕ
matcher_code BadName = codes "M1"
matcher_code PatternTooLong = codes "M3"
matcher_code PatternRefused = codes "M2"
matcher_code Memory = codes "memory"

-- the code of a query's refusal, as text
abbrev pub query_code : QueryError → List ℕ
query_code BadRange = codes "Q1"
query_code TooManyMatchers = codes "Q2"

-- the code of a selector's refusal, as text
abbrev pub selector_code : SelectorError → List ℕ
selector_code (selector.Syntax at) = codes "M4"
selector_code selector.Empty = codes "M6"
selector_code selector.TooMany = codes "M5"
selector_code selector.PatternTooLong = codes "M3"
selector_code selector.PatternRefused = codes "M2"
selector_code selector.Memory = codes "memory"

-- the refusals in a line, for people
abbrev pub matcher_text : MatcherError → List ℕ
matcher_text BadName = codes "M1: a label name has the form [a-zA-Z_][a-zA-Z0-9_]*"
matcher_text PatternTooLong = codes "M3: a pattern has at most 256 bytes"
matcher_text PatternRefused = codes "M2: a pattern is no regular expression, or too big a one"
matcher_text Memory = codes "no memory"

abbrev pub query_text : QueryError → List ℕ
query_text BadRange = codes "Q1: the range ends before it begins, or one of its ends is no time"
query_text TooManyMatchers = codes "Q2: a query has at most 16 matchers"

abbrev pub selector_text : SelectorError → List ℕ
selector_text (selector.Syntax at) =
    codes "M4: the first " ++ decimal at
    ++ codes " bytes may begin a selector, and no more of the text"
selector_text selector.Empty = codes "M6: a selector has at least one matcher"
selector_text selector.TooMany = codes "M5: a selector has at most 16 matchers"
selector_text selector.PatternTooLong = codes "M3: a pattern has at most 256 bytes"
selector_text selector.PatternRefused =
    codes "M2: a pattern is no regular expression, or too big a one"
selector_text selector.Memory = codes "no memory"
