-- How a matcher is kept.
use Rattle.std.specs.Prelude.{◌≡◌, ℕ, true, false, List, Option, None, Some, string_bytes}
use Rattle.matchers.specs.declared.matcher.Op.{Op}
use Rattle.matchers.specs.declared.matcher.Op.TheVariants as op
use Rattle.matchers.specs.declared.matcher.Test.{Test}
use Rattle.matchers.specs.declared.matcher.Test.TheVariants.{Equal, NotEqual, Like, NotLike}
use Rattle.matchers.specs.declared.pattern.Search.{Search}
use Rattle.matchers.specs.Built.{SearchesFor}
use Rattle.matchers.specs.Satisfies.{takes_pattern}
use Rattle.matchers.specs.Views.{MatcherView}

abbrev pub op_of : Test → Op
op_of (Equal _) = op.Equal
op_of (NotEqual _) = op.NotEqual
op_of (Like _) = op.Like
op_of (NotLike _) = op.NotLike

abbrev pub text_of : Test → List ℕ
text_of (Equal text) = string_bytes text
text_of (NotEqual text) = string_bytes text
text_of (Like pattern) = pattern
text_of (NotLike pattern) = pattern

-- a matcher that takes a pattern is tested by a search for it
abbrev pub IsTestedBy : MatcherView → Option Search → Type 0
IsTestedBy m None = takes_pattern m.op ≡ false
IsTestedBy m (Some search) =
    (takes_pattern m.op ≡ true) × SearchesFor search m.text
