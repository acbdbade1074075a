-- What stands for the text of an answer while it is kept.
use Rattle.std.specs.Prelude.{ℕ, List, ◌++◌, codes, slice_range}
use Rattle.answers.specs.declared.text_pieces.AnswerText.{AnswerText}
use Rattle.answers.specs.Joined.{joined}

-- the text of the pieces that come once more
abbrev pub again_in : AnswerText → List ℕ
again_in text = joined (slice_range text.pieces.items text.again.from text.again.until)

-- the whole text: its first pieces, those that come once more, and the closing brace
abbrev pub whole_of : AnswerText → List ℕ
whole_of text = joined text.pieces.items ++ (again_in text ++ codes "}")
