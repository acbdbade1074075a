use Rattle.std.proofs.Common.{◌≡◌, ℕ, ◌<◌, List, [], length, get_or, Some, sym, ap, ◌∙◌}
use Rattle.std.specs.Prelude.{slice_get}
use Rattle.std.specs.Ordering.{nat_cmp}
use Rattle.std.specs.Cmp.Lexicographic.{slice_cmp}
use Rattle.std.specs.declared.cmp.Ordering.TheVariants.{Equal}
use Rattle.labels.specs.Labels.{Labels, value_of, IsByName, IsNamedAt}
use Rattle.labels.proofs.Search.{none, got, value_none, value_at}
use Rattle.labels.proofs.label_set.LabelSet.value.Goals as goal

some_value : (inside whole d1 d2 : Labels) (name a v : List ℕ) (i : ℕ) → inside ≡ whole → d1 ≡ inside → d2 ≡ inside → IsByName inside → (i < length d1) × (slice_cmp nat_cmp (get_or d1 i none).0 name ≡ Equal) → slice_get d2 i ≡ Some (a, v) → v ≡ value_of whole name
some_value inside whole d1 d2 name a v i w e f h found g =
    let there : (i < length inside) × (slice_cmp nat_cmp (get_or inside i none).0 name ≡ Equal) = rw e at found in
    let p : get_or inside i none ≡ (a, v) = got inside i (a, v) none (rw f at g) in
    sym (ap (λ (q : (List ℕ × List ℕ)). q.1) p) ∙ sym (value_at inside name i h there.0 there.1) ∙ ap (λ (ps : Labels). value_of ps name) w

no_value : (inside whole d : Labels) (name : List ℕ) → inside ≡ whole → d ≡ inside
    → ((i : ℕ) → IsNamedAt d name i → ⊥) → [] ≡ value_of whole name
no_value inside whole d name w e h = sym (value_none d name (λ i inside is. h i (inside, is))) ∙ ap (λ (ps : Labels). value_of ps name) (e ∙ w)

pub returns-in-Some : goal.returns-in-Some
returns-in-Some c = some_value _ c.args.self.now _ _ c.args.name.now _ _ c.in-Some.i c.self.view_is c.deref.ensures c.deref-in-Some.ensures c.self.invariant.by_name c.in-Some.ensures.found c.pair.ensures

pub returns-in-None : goal.returns-in-None
returns-in-None c = no_value _ c.args.self.now _ c.args.name.now c.self.view_is c.deref.ensures c.in-None.ensures.none
