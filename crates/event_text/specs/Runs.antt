-- A batch as runs: samples of one label set that follow each other.
use Rattle.std.specs.Prelude.{ℕ, zero, suc, ℤ, Bool, not, List, [], ◌∷◌, map, length, ◌==◌, ◌&&◌}
use Rattle.std.specs.Prelude.{if◌then◌else◌}
use Rattle.std.specs.List.{list_all}
use Rattle.labels.specs.Labels.{Labels, same_labels}
use Rattle.head.specs.Worlds.{Batch}
use Rattle.event_text.specs.Neighbours.{neighbours}

-- a label set, and its samples
abbrev pub Run : Type 0
Run = Labels × List (ℤ × ℤ)

-- a sample before runs: it joins the first where that has its label set
abbrev pub joined : Labels × (ℤ × ℤ) → List Run → List Run
joined x [] = (x.0, x.1 ∷ []) ∷ []
joined x (run ∷ runs) =
    if same_labels x.0 run.0
    then (x.0, x.1 ∷ run.1) ∷ runs
    else (x.0, x.1 ∷ []) ∷ run ∷ runs

-- the runs of a batch, as long as they can be
abbrev pub runs_of : Batch → List Run
runs_of [] = []
runs_of (x ∷ xs) = joined x (runs_of xs)

-- samples of a label set, before those of a batch
abbrev pub before : Labels → List (ℤ × ℤ) → Batch → Batch
before l [] xs = xs
before l (s ∷ ss) xs = (l, s) ∷ before l ss xs

-- the batch that runs are
abbrev pub batch_in : List Run → Batch
batch_in [] = []
batch_in (run ∷ runs) = before run.0 run.1 (batch_in runs)

-- whether two runs have other label sets
abbrev pub differs : Run → Run → Bool
differs a b = not (same_labels a.0 b.0)

-- whether each run has another label set than the next
abbrev pub differ : List Run → Bool
differ runs = neighbours differs runs

-- whether a run has a sample
abbrev pub is_filled : Run → Bool
is_filled run = not (length run.1 == 0)

-- whether these are the runs of a batch
abbrev pub are_runs : List Run → Bool
are_runs runs = list_all is_filled runs && differ runs

-- how many samples in front have the label set
abbrev pub lead : Labels → Batch → ℕ
lead l [] = zero
lead l (x ∷ xs) = if same_labels x.0 l then suc (lead l xs) else zero

-- times and values, without the label sets
abbrev pub values_in : Batch → List (ℤ × ℤ)
values_in xs = map (λ x. x.1) xs
