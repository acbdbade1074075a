use Rattle.std.proofs.Common.{List, ℕ, ◌++◌, ◌∷◌, [], sym, ap, ◌∙◌}
use Rattle.std.proofs.lemmas.Slice.Eq.{bytes_eq-Decides}
use Rattle.exposition.specs.Reading.{eof, texts_in}
use Rattle.exposition.proofs.Endings.{last_off}
use Rattle.exposition.proofs.lines.without_eof.Goals as goal

pub returns-then-is_eof-clause-found : goal.returns-then-is_eof-clause-found
returns-then-is_eof-clause-found c =
    last_off c.args.lines.items c.pop.new.self.items c.in-Some.last c.in-Some.ensures.items
    ∙ ap (λ (l : List ℕ). texts_in c.pop.new.self.items ++ l ∷ [])
    ((bytes_eq-Decides c.in-Some.last.now eof).0 (sym c.is_eof.ensures ∙ c.if-is_eof.true))
