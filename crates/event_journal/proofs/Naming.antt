-- Contents that spell events, one after another.
use Rattle.std.proofs.Common.{ℕ, zero, suc, List, [], ◌∷◌, ◌++◌, take, refl, sym, subst}
use Rattle.head.specs.Worlds.{Event}
use Rattle.name_table.specs.Names.{Label}
use Rattle.event_journal.specs.Naming.{SpellFrom}

pub spell_joined : (names mid after : List Label) (contents others : List (List ℕ))
    (events more : List Event) → SpellFrom names contents events mid
    → SpellFrom mid others more after → SpellFrom names (contents ++ others) (events ++ more) after
spell_joined names mid after [] others [] more s t =
    subst (λ (ns : List Label). SpellFrom ns others more after) (sym s) t
spell_joined names mid after [] others (e ∷ events) more s t = absurd s
spell_joined names mid after (c ∷ contents) others [] more s t = absurd s
spell_joined names mid after (c ∷ contents) others (e ∷ events) more s t =
    (s.0, s.1, spell_joined s.0 mid after contents others events more s.2 t)

pub spell_taken : (n : ℕ) (names after : List Label) (contents : List (List ℕ))
    (events : List Event) → SpellFrom names contents events after
    → (mid : List Label) × SpellFrom names (take n contents) (take n events) mid
spell_taken zero names after contents events s = (names, refl)
spell_taken (suc n) names after [] [] s = (names, refl)
spell_taken (suc n) names after [] (e ∷ events) s = absurd s
spell_taken (suc n) names after (c ∷ contents) [] s = absurd s
spell_taken (suc n) names after (c ∷ contents) (e ∷ events) s =
    let r = spell_taken n s.0 after contents events s.2 in (r.0, (s.0, s.1, r.1))

-- the contents of the first events
pub record Front (names : List Label) (contents : List (List ℕ)) (events : List Event)
    : Type 0 where
  pub front : List (List ℕ)
  pub after : List Label
  pub spell : SpellFrom names front events after

pub spell_front : (names after : List Label) (contents : List (List ℕ)) (events more : List Event)
    → SpellFrom names contents (events ++ more) after → Front names contents events
spell_front names after contents [] more s =
    record { front = []; after = names; spell = refl }
spell_front names after [] (e ∷ events) more s = absurd s
spell_front names after (c ∷ contents) (e ∷ events) more s =
    let r = spell_front s.0 after contents events more s.2 in
    record { front = c ∷ r.front; after = r.after; spell = (s.0, s.1, r.spell) }
