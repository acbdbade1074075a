use Rattle.matchers.proofs.matcher.Matcher.tester.Goals as goal

pub of_pattern-requires-clause-finds : goal.of_pattern-requires-clause-finds
of_pattern-requires-clause-finds c = rw (← c.self.view_is, ← c.in-Some.ensures.text) c.in_ok-search-in-Some.ensures
