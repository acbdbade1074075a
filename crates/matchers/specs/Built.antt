-- What was built of a pattern finds just the values that match it.
use Rattle.std.specs.Prelude.{ℕ, List}
use Rattle.std.specs.Arc.{arc_value}
use Rattle.regex.specs.Strings.{regex_pattern, matcher_pattern}
use Rattle.text_choices.specs.Alternatives.{MeansPattern}
use Rattle.matchers.specs.declared.pattern.Built.{Built}
use Rattle.matchers.specs.declared.pattern.Built.TheVariants as built
use Rattle.matchers.specs.declared.pattern.Search.{Search}
use Rattle.matchers.specs.declared.pattern.Search.TheVariants as search
use Rattle.matchers.specs.Patterns.{FindsFullMatches}

abbrev pub IsBuiltFor : Built → List ℕ → Type 0
IsBuiltFor (built.Regex regex) text = FindsFullMatches (regex_pattern (arc_value regex)) text
IsBuiltFor (built.Choice choice) text = MeansPattern text (arc_value choice)

abbrev pub SearchesFor : Search → List ℕ → Type 0
SearchesFor (search.Regex matcher) text = FindsFullMatches (matcher_pattern matcher) text
SearchesFor (search.Choice choice) text = MeansPattern text choice.now
