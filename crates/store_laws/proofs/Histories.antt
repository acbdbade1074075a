-- What is told of moves.
use Rattle.std.proofs.Common.{◌≡◌, List, [], ◌∷◌, ◌++◌, refl, sym, ap, ◌∙◌, append_assoc}
use Rattle.std.specs.List.{AllByRecursion}
use Rattle.std.proofs.lemmas.List.{append-nil}
use Rattle.head.specs.Worlds.{Event}
use Rattle.store_laws.specs.Machine.{Accept, Begins, Die, Fail, History, Move, Roll, Start, after}
use Rattle.store_laws.specs.Machine.{after_all, history, left_by}

-- the list only grows

unchanged : (xs : List Event) → Begins xs xs
unchanged xs = ([], sym (append-nil xs))

further : (xs ys zs : List Event) → Begins xs ys → Begins ys zs → Begins xs zs
further xs ys zs a b =
    (a.0 ++ b.0, b.1 ∙ (ap (λ (es : List Event). es ++ b.0) a.1 ∙ append_assoc xs a.0 b.0))

after_one : (m : Move) (h : History) → Begins h.seen (after m h).seen
after_one (Accept e) h = (e ∷ [], refl)
after_one (Fail whole) h = unchanged h.seen
after_one (Die whole) h = unchanged h.seen
after_one Roll h = unchanged h.seen
after_one Start h = (h.behind, refl)

after_many : (moves : List Move) (h : History) → Begins h.seen (after_all moves h).seen
after_many [] h = unchanged h.seen
after_many (m ∷ moves) h =
    further h.seen (after m h).seen (after_all moves (after m h)).seen (after_one m h)
    (after_many moves (after m h))

in_two : (moves later : List Move) (h : History)
    → Begins (after_all moves h).seen (after_all (moves ++ later) h).seen
in_two [] later h = after_many later h
in_two (m ∷ moves) later h = in_two moves later (after m h)

pub grown : (moves later : List Move) → Begins (history moves).seen (history (moves ++ later)).seen
grown moves later = in_two moves later _

-- where nothing is left of which nobody was told, the list is that of the acknowledged events

record IsExact (h : History) : Type 0 where
  same : h.seen ≡ h.told
  behind : h.behind ≡ []

exact_one : (m : Move) (h : History) → left_by m ≡ [] → IsExact h → IsExact (after m h)
exact_one (Accept e) h none x = record {
  same = ap (λ (es : List Event). es ++ e ∷ []) x.same;
  behind = x.behind;
}
exact_one (Fail whole) h none x = record {
  same = x.same;
  behind = ap (λ (es : List Event). es ++ whole) x.behind ∙ none;
}
exact_one (Die whole) h none x = record {
  same = x.same;
  behind = ap (λ (es : List Event). es ++ whole) x.behind ∙ none;
}
exact_one Roll h none x = x
exact_one Start h none x = record {
  same = ap (λ (es : List Event). h.seen ++ es) x.behind ∙ (append-nil h.seen ∙ x.same);
  behind = refl;
}

exact_many : (moves : List Move) (h : History) → AllByRecursion (λ (m : Move). left_by m ≡ []) moves
    → IsExact h → IsExact (after_all moves h)
exact_many [] h all x = x
exact_many (m ∷ moves) h all x = exact_many moves (after m h) all.1 (exact_one m h all.0 x)

pub exactly : (moves : List Move) → AllByRecursion (λ (m : Move). left_by m ≡ []) moves
    → (history moves).seen ≡ (history moves).told
exactly moves all = (exact_many moves _ all (record { same = refl; behind = refl })).same
