use Rattle.std.proofs.Common.{◌≡◌, ℕ, List, true, sym, ◌∙◌}
use Rattle.std.proofs.lemmas.Cmp.{nat_list_cmp_total}
use Rattle.labels.specs.Labels.{text_cmp}
use Rattle.index_reader.specs.Layout.{ascending}
use Rattle.index_reader.specs.Seen.{strings_of}
use Rattle.index_reader.proofs.Searching.{Strict, strict_from_rises, ascending_is, search_found}
use Rattle.index_reader.proofs.symbols.find_symbol_near.Goals.{in-Equal, in_default}
use Rattle.index_reader.proofs.symbols.find_symbol_near.Goals as goal

strict : (xs : List (List ℕ)) → ascending xs ≡ true → Strict text_cmp xs
strict xs h = strict_from_rises text_cmp nat_list_cmp_total xs (sym (ascending_is xs) ∙ h)

pub returns-then-matches-clause-exact : goal.returns-then-matches-clause-exact
returns-then-matches-clause-exact c =
    elim c.match-matches.branch [
      | in-Equal w ↦
          sym (search_found text_cmp nat_list_cmp_total (strings_of c.args.symbols.now.texts.items)
          c.args.text.now _ _ (strict _ c.args.symbols.now.order) c.bytes_at.ensures
          (sym c.cmp.ensures ∙ w.in-Equal.is))
      | in_default w ↦ absurd (let e = w.matches-is in let f = c.if-matches.true in cc)
    ]
