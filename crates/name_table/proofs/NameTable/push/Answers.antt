use Rattle.std.proofs.Common.{◌≡◌, ◌++◌, ◌∷◌, [], ◌∙◌, ap, sym, subst, length, List, ℕ}
use Rattle.name_table.specs.Names.{number_of}
use Rattle.name_table.proofs.Places.{pushed}
use Rattle.name_table.proofs.NameTable.push.Goals as goal

pub returns-clause-ok : goal.returns-clause-ok
returns-clause-ok c =
    let ks = c.self.inside.keys.keys in
    let same = c.self.view_is in
    let new = subst (λ (ls : List (List ℕ)). number_of c.args.text.items ls ≡ length ls) (sym same) c.requires in
    pushed ks c.insert.new.self.keys c.args.text new c.in_ok-insert.ensures.keys
    ∙ ap (λ (ls : List (List ℕ)). ls ++ c.args.text.items ∷ []) same
