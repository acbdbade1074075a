-- Rows worked by hand, by computation: six series with a sample of their number at 10 and at 20, and what comes after. Names and
-- texts are shortened to one byte.
use Rattle.std.specs.Prelude.{◌≡◌, ℕ, zero, suc, ℤ, pos, Bool, true, List, [], ◌∷◌, ◌++◌, Result, Ok, Err, map, refl}
use Rattle.labels.specs.Labels.{Labels, labels_cmp, same_labels}
use Rattle.labels.specs.Contents.{Content, selected}
use Rattle.labels.specs.Rows.{points_of}
use Rattle.head.specs.Refusals.{Refusal, out_of_bounds, duplicate, cut_too_low}
use Rattle.head.specs.Worlds.{World, Batch, Event, batch, replayed, committed, deleted, cut_at}

up : Labels
up = (1 ∷ [], 9 ∷ []) ∷ []

abbrev slice_at : List Labels → ℕ → Labels
slice_at [] n = []
slice_at (l ∷ ls) zero = l
slice_at (l ∷ ls) (suc n) = slice_at ls n

abbrev series : ℕ → Labels
series n = slice_at ([]
    ∷ ((1 ∷ [], 9 ∷ []) ∷ (2 ∷ [], 5 ∷ []) ∷ [])
    ∷ ((1 ∷ [], 9 ∷ []) ∷ (2 ∷ [], 6 ∷ []) ∷ [])
    ∷ ((1 ∷ [], 9 ∷ []) ∷ (2 ∷ [], 6 ∷ []) ∷ (3 ∷ [], 7 ∷ []) ∷ [])
    ∷ ((1 ∷ [], 8 ∷ []) ∷ (2 ∷ [], 5 ∷ []) ∷ [])
    ∷ ((1 ∷ [], 8 ∷ []) ∷ (2 ∷ [], 6 ∷ []) ∷ [])
    ∷ ((1 ∷ [], 9 ∷ []) ∷ (2 ∷ [], 5 ∷ []) ∷ (3 ∷ [], 7 ∷ []) ∷ [])
    ∷ []) n

abbrev pair_of : ℕ → List (Labels × (ℤ × ℤ))
pair_of r = (series r, (pos 10, pos r)) ∷ (series r, (pos 20, pos r)) ∷ []

abbrev all : Batch
all = pair_of 1 ++ (pair_of 2 ++ (pair_of 3 ++ (pair_of 4 ++ (pair_of 5 ++ pair_of 6))))

abbrev opening : World
opening = record { content = []; newest = []; floor = pos 0; blocks = 0 }

abbrev fits : Content → Bool
fits c = true

abbrev after : List Event → Result World Refusal
after events = replayed opening (batch all ∷ events)

abbrev next : Result World Refusal → (World → Result World Refusal) → Result World Refusal
next (Ok w) step = step w
next (Err e) step = Err e

-- the job is the first one's
abbrev is_a : Labels → Bool
is_a l = same_labels l (series 1)

abbrev content_or : Result World Refusal → Content
content_or (Ok w) = w.content
content_or (Err e) = []

abbrev h : Content
h = points_of (map (λ r. (series r, (pos 10, pos r) ∷ (pos 20, pos r) ∷ [])) (4 ∷ 5 ∷ 1 ∷ 6 ∷ 2 ∷ 3 ∷ []))

all_stored : content_or (after []) ≡ h
unfolding labels_cmp
all_stored = refl

repeat_changes_nothing : after (batch ((series 1, (pos 20, pos 1)) ∷ []) ∷ []) ≡ after []
unfolding labels_cmp
repeat_changes_nothing = refl

second_is_refused : after (batch ((series 1, (pos 30, pos 7)) ∷ (series 2, (pos 20, pos 9)) ∷ []) ∷ []) ≡ Err (duplicate 1)
unfolding labels_cmp
second_is_refused = refl

later_is_stored : selected is_a (pos 0) (pos 100) (content_or (next (next (after []) (λ w. Ok (deleted w is_a (pos 0) (pos 1000)))) (λ w. committed w ((series 1, (pos 30, pos 5)) ∷ [])))) ≡ ((series 1, pos 30), pos 5) ∷ []
unfolding labels_cmp
later_is_stored = refl

repeat_stays_deleted : selected is_a (pos 0) (pos 100) (content_or (next (next (after []) (λ w. Ok (deleted w is_a (pos 0) (pos 1000)))) (λ w. committed w ((series 1, (pos 20, pos 1)) ∷ [])))) ≡ []
unfolding labels_cmp
repeat_stays_deleted = refl

below_the_floor : next (next (after []) (λ w. cut_at fits w (pos 20))) (λ w. committed w ((up, (pos 15, pos 1)) ∷ [])) ≡ Err (out_of_bounds 0)
unfolding labels_cmp
below_the_floor = refl

cut_keeps_content : content_or (next (after []) (λ w. cut_at fits w (pos 20))) ≡ h
unfolding labels_cmp
cut_keeps_content = refl

cut_keeps_newest : next (next (after []) (λ w. cut_at fits w (pos 20))) (λ w. committed w ((series 1, (pos 20, pos 9)) ∷ [])) ≡ Err (duplicate 0)
unfolding labels_cmp
cut_keeps_newest = refl

second_cut_is_too_low : next (next (after []) (λ w. cut_at fits w (pos 21))) (λ w. cut_at fits w (pos 21)) ≡ Err cut_too_low
unfolding labels_cmp
second_cut_is_too_low = refl
