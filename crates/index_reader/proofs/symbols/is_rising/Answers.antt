use Rattle.std.proofs.Common.{◌≡◌, ℕ, List, sym, ◌∙◌, rules}
use Rattle.std.specs.Borrow.{Bor}
use Rattle.std.proofs.lemmas.Fn.{always_returns_same}
use Rattle.index_reader.specs.Layout.{is_less}
use Rattle.index_reader.specs.Seen.{bytes_of}
use Rattle.index_reader.proofs.Rising.{by_neighbours, of_mapped}
use Rattle.index_reader.proofs.Searching.{ascending_is}
use Rattle.index_reader.proofs.symbols.is_rising.Goals as goal

pub returns : goal.returns
returns c =
    let xs = c.args.symbols.now in
    by_neighbours (λ a b. is_less a.now b.now) xs c.is_sorted_by.result
    (c.is_sorted_by.ensures.cases (λ a b. is_less a.now b.now) (always_returns_same _
    (λ a r. r ≡ is_less a.0.now.now a.1.0.now.now) _ (λ a r q k. search rules)))
    ∙ of_mapped (λ (s : Bor (List ℕ)). s.now) is_less xs ∙ sym (ascending_is (bytes_of xs))
