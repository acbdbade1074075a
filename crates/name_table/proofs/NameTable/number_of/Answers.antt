use Rattle.std.proofs.Common.{◌∙◌, ap, List, ℕ}
use Rattle.name_table.specs.Names.{number_of}
use Rattle.name_table.proofs.Places.{there, not_there}
use Rattle.name_table.proofs.NameTable.number_of.Goals as goal

pub returns-in-Some : goal.returns-in-Some
returns-in-Some c =
    there c.args.text.now c.self.inside.keys.keys c.in-Some.number c.in-Some.ensures.index
    ∙ ap (λ (ls : List (List ℕ)). number_of c.args.text.now ls) c.self.view_is

pub returns-in-None : goal.returns-in-None
returns-in-None c =
    c.len.ensures.len ∙ (not_there c.args.text.now c.self.inside.keys.keys c.in-None.ensures.index
    ∙ ap (λ (ls : List (List ℕ)). number_of c.args.text.now ls) c.self.view_is)
