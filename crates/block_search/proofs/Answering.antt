-- An answer of a part, under the part's name.
use Rattle.std.proofs.Common.{◌≡◌, IfOk, Ok, Err, Result}
use Rattle.std.specs.declared.alloc.AllocError.{AllocError}
use Rattle.labels.specs.Parts.{IsPart}
use Rattle.matchers.specs.Views.{QueryView}
use Rattle.cover.specs.declared.part_cover.PartAnswer.{PartAnswer}
use Rattle.block_search.specs.Skipping.{AskedPart}
use Rattle.block_search.specs.Answers.{IsPartAnswer, IsAnswerOf}

pub named_answer : (query : QueryView) (p : AskedPart) (r : Result PartAnswer AllocError)
    → IsPart p.part
    → IfOk r (λ a. a.part ≡ p.name) → IfOk r (IsPartAnswer query p.part)
    → IfOk r (IsAnswerOf query p)
named_answer query p (Ok a) is_part name answers = record {
  name = name;
  is_part = is_part;
  answers
      = answers;
}
named_answer query p (Err e) is_part name answers = tt
