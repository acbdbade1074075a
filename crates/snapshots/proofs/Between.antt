-- What a crash leaves while a store goes from one list to another.
use Rattle.std.proofs.Common.{◌≡◌, ℕ, Result, Ok, Err, List, [], ◌∷◌, ◌++◌, take, drop, inl, inr, refl, sym, ap, subst, ◌∙◌, append_assoc}
use Rattle.std.proofs.lemmas.List.{take-append-drop, take-map}
use Rattle.head.specs.Refusals.{Refusal}
use Rattle.head.specs.Worlds.{Event, World, replayed, replayed_from, stepped}
use Rattle.keeper.specs.Finding.{AreAll, AreAllAndSome, FindsWorld, IsOfAll, LeavesEvents, StandsForSome}
use Rattle.keeper.proofs.Finds.{wider}
use Rattle.snapshots.specs.declared.entry.Entry.{Entry}
use Rattle.snapshots.specs.Keeping.{kept_of, AreKeptBetween, IsBetween, IsOfKeptBetween}
use Rattle.snapshots.specs.Replays.{events_in}
use Rattle.snapshots.specs.Views.{Published}
use Rattle.snapshots.proofs.Keeps.{kept_more}

-- what begins events that are accepted is accepted
front_accepted : (r : Result World Refusal) (xs ys : List Event) (w : World) → replayed_from r (xs ++ ys) ≡ Ok w
    → (u : World) × (replayed_from r xs ≡ Ok u)
front_accepted (Ok v) [] ys w is = (v, refl)
front_accepted (Err x) [] [] w is = absurd (cc is)
front_accepted (Err x) [] (e ∷ es) w is = absurd (cc is)
front_accepted (Err x) (e ∷ es) ys w is = absurd (cc is)
front_accepted (Ok v) (e ∷ es) ys w is = front_accepted (stepped v e) es ys w is

-- between two lists that are accepted each list is
between_accepted : (first : World) (before : List Event) (from to : List Entry) (v w : World)
    → IsOfAll first (kept_of before from) v → IsOfAll first (kept_of before to) w
    → (entries : List Entry) → IsBetween from to entries → (u : World) × IsOfAll first (kept_of before entries) u
between_accepted first before from to v w old new entries (inl is) =
    (v, ap (λ (z : List Entry). replayed first (kept_of before z)) is ∙ old)
between_accepted first before from to v w old new entries (inr p) =
    front_accepted (Ok first) (kept_of before entries) (events_in p.1.0) w
    (ap (replayed first) (sym (kept_more before entries p.1.0) ∙ ap (kept_of before) p.1.1) ∙ new)

-- the first few of some more events are kept of a list between
some_between : (before : List Event) (from to more : List Entry) → to ≡ from ++ more → (found : List Event)
    → AreAllAndSome (kept_of before from) (events_in more) found → AreKeptBetween before from to found
some_between before from to more is found some =
    let few = take some.0 more in
    let rest = drop some.0 more in (
      from ++ few,
      inr (
        (few, refl),
        (
          rest,
          append_assoc from few rest ∙ ap (λ (z : List Entry). from ++ z) (take-append-drop some.0 more) ∙ sym is,
        ),
      ),
      some.1 ∙ ap (λ (z : List Event). kept_of before from ++ z) (take-map (λ (e : Entry). e.event) some.0 more)
          ∙ sym (kept_more before from few),
    )

module _ {L : Type 0} (stands : L → List Event → Type 0) where
  -- exactly what is kept is kept of the first list
  pub all_between : (before : List Event) (from to : List Entry) (left : L)
      → StandsForSome stands (AreAll (kept_of before from)) left → StandsForSome stands (AreKeptBetween before from to) left
  all_between before from to left s = (s.0, s.1, (from, inl refl, s.2))

  -- a start that finds what is left finds the world of such a list
  pub finds_between : (makes : L → World → Type 0) (first : World)
      → ((left : L) (events : List Event) (w : World) → stands left events → IsOfAll first events w → makes left w)
      → (before : List Event) (from to : List Entry) (v w : World)
      → IsOfAll first (kept_of before from) v → IsOfAll first (kept_of before to) w
      → (left : L) → StandsForSome stands (AreKeptBetween before from to) left
      → FindsWorld makes (IsOfKeptBetween first before from to) left
  finds_between makes first finds before from to v w old new left s =
      let u = between_accepted first before from to v w old new s.2.0 s.2.1 in
      let made : IsOfAll first s.0 u.0 = ap (replayed first) s.2.2 ∙ u.1 in
      (u.0, finds left s.0 u.0 s.1 made, (s.0, s.2, made))

module _ {K L : Type 0} (moment : K → ℕ) (left_since : K → ℕ → L → Type 0) (stands : L → List Event → Type 0) where
  -- a group goes from one list to the other
  pub group_between : (before : List Event) (p q : Published K) (new : K) (to more : List Entry) → p ≡ q → to ≡ p.entries ++ more
      → LeavesEvents moment left_since stands p.keeper new (AreAllAndSome (kept_of before p.entries) (events_in more))
      → LeavesEvents moment left_since stands q.keeper new (AreKeptBetween before q.entries to)
  group_between before p q new to more same is leaves =
      subst (λ (z : Published K). LeavesEvents moment left_since stands z.keeper new (AreKeptBetween before z.entries to)) same
      (wider moment left_since stands p.keeper new (AreAllAndSome (kept_of before p.entries) (events_in more)) (AreKeptBetween before p.entries to)
      (λ found some. some_between before p.entries to more is found some) leaves)
