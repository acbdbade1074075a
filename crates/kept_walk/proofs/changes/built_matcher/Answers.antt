use Rattle.std.proofs.Common.{◌≡◌, inr, string_bytes, Err, ap, subst, rules}
use Rattle.matchers.specs.declared.error.MatcherError.{MatcherError}
use Rattle.matchers.specs.declared.error.MatcherError.TheVariants.{PatternRefused}
use Rattle.matchers.specs.Patterns.{IsRefusedPattern}
use Rattle.kept_walk.proofs.changes.built_matcher.Goals as goal

pub returns-in-Err-PatternRefused-clause-refused : goal.returns-in-Err-PatternRefused-clause-refused
returns-in-Err-PatternRefused-clause-refused c u =
    let error = c.in-Err-PatternRefused.field-0 in
    let is : error ≡ PatternRefused = search rules in
    let r = c.in-Err-PatternRefused.ensures.refused (ap (λ (e : MatcherError). Err e) is) in
    let same : string_bytes c.in_ok-text.text ≡ c.args.parts.now.text.now = search rules in
    inr (r.0, inr (subst IsRefusedPattern same r.1))
