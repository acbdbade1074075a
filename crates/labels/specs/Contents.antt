-- What is stored: a value for each of some points.
use Rattle.std.specs.Prelude.{ℕ, ℤ, pos, negsuc, Bool, not, ◌&&◌, List, int_lt, length}
use Rattle.std.specs.FinMap.Entries.{where_key}
use Rattle.labels.specs.Labels.{Labels, Point, point_cmp, same_labels}

-- the samples, strictly ascending by their points
abbrev pub Content : Type 0
Content = List (Point × ℤ)

-- whether a time lies in the closed interval
abbrev pub in_range : ℤ → ℤ → ℤ → Bool
in_range a b t = not (int_lt t a) && not (int_lt b t)

-- whether a number of milliseconds is a time: from -2^62 to 2^62 - 1
abbrev pub is_time : ℤ → Bool
is_time t = in_range (negsuc 4611686018427387903) (pos 4611686018427387903) t

-- the samples of label sets that pass a test, in the closed interval
abbrev pub selected : (Labels → Bool) → ℤ → ℤ → Content → Content
selected sat a b c = where_key {X = ℤ} point_cmp (λ p. sat p.0 && in_range a b p.1) c

-- the other samples
abbrev pub without : (Labels → Bool) → ℤ → ℤ → Content → Content
without sat a b c = where_key {X = ℤ} point_cmp (λ p. not (sat p.0 && in_range a b p.1)) c

-- how many samples a label set has from this time on
abbrev pub held_from : ℤ → Labels → Content → ℕ
held_from floor l c =
    length (where_key {X = ℤ} point_cmp (λ p. same_labels l p.0 && not (int_lt p.1 floor)) c)

-- the samples from the first time up to, not including, the second
abbrev pub between : ℤ → ℤ → Content → Content
between floor t c = where_key {X = ℤ} point_cmp (λ p. not (int_lt p.1 floor) && int_lt p.1 t) c
