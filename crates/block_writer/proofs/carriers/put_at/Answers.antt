use Rattle.std.proofs.Common.{arith, [], ◌∷◌, ◌++◌, ℕ, List, sym, ap, ◌∙◌}
use Rattle.std.proofs.lemmas.List.{map-set, get_or-map}
use Rattle.std.specs.Prelude.{slice_set, map}
use Rattle.block_writer.proofs.carriers.put_at.Goals as goal

pub returns-clause-added : goal.returns-clause-added
returns-clause-added c =
    let xs = c.args.lists.now.items in
    let at = c.args.at in
    map-set (λ l. l.items) xs at c.push.new.self
    ∙ ap (slice_set (map (λ l. l.items) xs) at)
    (c.in_ok-push.ensures.items
    ∙ ap (λ (l : List ℕ). l ++ c.args.reference ∷ []) (ap (λ v. v.items) c.index_mut.ensures.value
    ∙ sym (get_or-map (λ l. l.items) xs at c.index_mut.result.now [] (omega (
      arith,
      c.requires,
      c.args.lists.now.ok.0,
    )))))
