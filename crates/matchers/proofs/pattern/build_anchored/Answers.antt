use Rattle.std.proofs.Common.{◌∙◌, inr}
use Rattle.std.proofs.lemmas.Result.{err_from_is_err_and}
use Rattle.matchers.proofs.Reading.{is_read, finds_of_built}
use Rattle.matchers.proofs.pattern.build_anchored.Goals as goal

pub returns-clause-finds : goal.returns-clause-finds
returns-clause-finds c = finds_of_built (rw (c.as_str.ensures.value ∙ c.in_ok-whole.ensures) at c.in_ok-regex.ensures.ok)

pub returns-clause-read : goal.returns-clause-read
returns-clause-read c = record {
  alone = c.in_ok-check_alone.ensures.read;
  anchored = is_read (rw (c.as_str.ensures.value ∙ c.in_ok-whole.ensures) at c.in_ok-regex.ensures.ok);
}

pub returns-in_err-regex-clause-refused : goal.returns-in_err-regex-clause-refused
returns-in_err-regex-clause-refused c =
    let p = err_from_is_err_and c.from_residual-in_err-regex.result c.from_residual-in_err-regex.ensures.1 in
    rw (p.1, p.2) (λ e. inr (rw (c.as_str.ensures.value ∙ c.in_ok-whole.ensures)
    at (c.in_err-regex.ensures.refused cc)))
