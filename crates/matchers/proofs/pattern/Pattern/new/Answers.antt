use Rattle.std.proofs.Common.{rules, ◌≤◌, ◌⊎◌, ℕ, List, length, subst}
use Rattle.std.specs.Prelude.{string_bytes}
use Rattle.std.proofs.lemmas.Result.{err_from_is_err_and}
use Rattle.matchers.specs.Patterns.{anchored, IsRefused}
use Rattle.matchers.proofs.pattern.Pattern.new.Goals as goal

pub returns-in_err-regex-clause-refused : goal.returns-in_err-regex-clause-refused
returns-in_err-regex-clause-refused c =
    let p = err_from_is_err_and c.from_residual.result c.from_residual.ensures.1 in
    let short : length (string_bytes c.args.text) ≤ 256 = search rules in
    rw (p.1, p.2) (λ e. record {
      short = short;
      one = subst (λ (t : List ℕ). IsRefused t ⊎ IsRefused (anchored t)) c.as_str.ensures.value
          (c.in_err-regex.ensures.refused cc);
    })
