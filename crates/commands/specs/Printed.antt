-- What is printed of an answer.
use Rattle.std.specs.Prelude.{ℕ, List, ◌++◌, codes}
use Rattle.answers.specs.declared.audited.AuditedAnswer.{AuditedAnswer}
use Rattle.answers.specs.Body.{body_text}
use Rattle.answers.specs.MergedRows.{rows_of}

-- the text of an answer, and a line feed
abbrev pub line_text : AuditedAnswer → List ℕ
line_text answer = body_text answer.parts.items (rows_of answer) ++ codes "\n"
