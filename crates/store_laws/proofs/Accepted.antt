-- Events that are accepted, each after those before it.
use Rattle.std.proofs.Common.{◌≡◌, ℕ, List, [], ◌∷◌, ◌++◌, take, drop, Result, Ok, Err, refl, sym}
use Rattle.std.proofs.Common.{ap, subst, ◌∙◌, append_assoc}
use Rattle.std.proofs.lemmas.List.{take-append-drop}
use Rattle.head.specs.Refusals.{Refusal}
use Rattle.head.specs.Worlds.{Event, World, replayed, replayed_from, stepped}
use Rattle.keeper.specs.Finding.{IsOfAll}

refused : (f : Refusal) (events : List Event) → replayed_from (Err f) events ≡ Err f
refused f [] = refl
refused f (e ∷ events) = refl

front_from : (r : Result World Refusal) (events more : List Event) (w : World)
    → replayed_from r (events ++ more) ≡ Ok w → (v : World) × (replayed_from r events ≡ Ok v)
front_from (Ok u) [] more w all = (u, refl)
front_from (Err f) [] more w all = absurd (let e = refused f more in cc)
front_from (Ok u) (e ∷ events) more w all = front_from (stepped u e) events more w all
front_from (Err f) (e ∷ events) more w all = absurd cc

-- where all are accepted, so are they and the first few of the others
pub few_accepted : (first w : World) (events more : List Event) (few : ℕ)
    → IsOfAll first (events ++ more) w
    → (v : World) × IsOfAll first (events ++ take few more) v
few_accepted first w events more few all =
    let whole : events ++ more ≡ (events ++ take few more) ++ drop few more =
    ap (λ (x : List Event). events ++ x) (sym (take-append-drop few more))
    ∙ sym (append_assoc events (take few more) (drop few more)) in
    front_from (Ok first) (events ++ take few more) (drop few more) w
    (subst (λ (x : List Event). replayed first x ≡ Ok w) whole all)
