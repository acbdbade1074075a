-- What contracts see of a matcher and of a query.
use Rattle.std.specs.Prelude.{ℕ, ℤ, List}
use Rattle.matchers.specs.declared.matcher.Op.{Op}

-- a test of the value of the label `name`
pub record MatcherView : Type 0 where
  pub name : List ℕ
  pub op : Op
  pub text : List ℕ

-- matchers, and a closed range of times in milliseconds
pub record QueryView : Type 0 where
  pub matchers : List MatcherView
  pub from : ℤ
  pub to : ℤ
