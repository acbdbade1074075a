use Rattle.std.proofs.Common.{◌≡◌, ℕ, List, true, rules, subst}
use Rattle.remote_listings.specs.Listed.{is_value}
use Rattle.remote_listings.proofs.TextSets.{value_added}
use Rattle.remote_listings.proofs.texts.add_value.Goals as goal

pub returns-in_ok-insert : goal.returns-in_ok-insert
returns-in_ok-insert c =
    let some : is_value c.value-value.result.now ≡ true = search rules in
    value_added c.args.values.now c.insert.new.self c.value-value.result _ c.value-value.ensures
    (subst (λ (v : List ℕ). is_value v ≡ true) c.value-value.ensures some) c.in_ok-insert.ensures.keys
