use Rattle.std.proofs.Common.{◌≡◌, ◌++◌, length}
use Rattle.answers.specs.Body.{sample_data}
use Rattle.answers.specs.AfterCommas.{after_commas}
use Rattle.answers.proofs.samples.append_samples_after_commas.Given as goal

abbrev pub invariant-loop-rest : goal.invariant-loop-rest
invariant-loop-rest l =
    l.out.items ++ after_commas sample_data l.rest
    ≡ l.fn.out.items ++ after_commas sample_data l.fn.samples

abbrev pub decreases-loop-rest : goal.decreases-loop-rest
decreases-loop-rest l = length l.rest
