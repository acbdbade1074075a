-- What becomes of a sample of a series, test by test.
use Rattle.std.proofs.Common.{◌≡◌, ℕ, ℤ, Bool, true, false, Option, Some, None, length, nat_le, ◌≤◌, ◌<◌, refl, ap, ◌∙◌, subst, sym, int_lt, arith}
use Rattle.std.specs.Prelude.{if◌then◌else◌}
use Rattle.std.specs.Ordering.{int_eq}
use Rattle.kept_world.specs.States.{HeadSeries, grown, with_last, max_samples}
use Rattle.kept_world.specs.Sound.{Took}

abbrev level : ℕ → ℤ × ℤ → HeadSeries → Bool → Bool → Option HeadSeries
level n s e a b =
    if a then None
    else if b then (if int_eq s.1 e.newest.1 then Some e else None)
    else if nat_le max_samples (length e.samples) then None
    else Some (with_last n s e)

pub grown_early : (n : ℕ) (s : ℤ × ℤ) (e : HeadSeries) → int_lt s.0 e.newest.0 ≡ true → grown n s e ≡ None
grown_early n s e h = ap (λ a. level n s e a (int_eq s.0 e.newest.0)) h

took_by : (b : Bool) (e : HeadSeries) → Took b (if b then Some e else None) e
took_by true e = refl
took_by false e = refl

pub grown_level : (n : ℕ) (s : ℤ × ℤ) (e : HeadSeries) (b : Bool) → int_lt s.0 e.newest.0 ≡ false → int_eq s.0 e.newest.0 ≡ true → b ≡ int_eq s.1 e.newest.1 → Took b (grown n s e) e
grown_level n s e b h k l =
    let q : grown n s e ≡ (if b then Some e else None) =
    ap (λ a. level n s e a (int_eq s.0 e.newest.0)) h ∙ ap (level n s e false) k ∙ ap (λ (d : Bool). if d then Some e else None) (sym l) in
    subst (λ r. Took b r e) (sym q) (took_by b e)

pub grown_full : (n : ℕ) (s : ℤ × ℤ) (e : HeadSeries) → int_lt s.0 e.newest.0 ≡ false → int_eq s.0 e.newest.0 ≡ false → 1048576 ≤ length e.samples → grown n s e ≡ None
grown_full n s e h k l =
    let f : nat_le max_samples (length e.samples) ≡ true = grind arith in
    ap (λ a. level n s e a (int_eq s.0 e.newest.0)) h ∙ ap (level n s e false) k ∙ ap (λ (d : Bool). if d then None else Some (with_last n s e)) f

pub grown_more : (n : ℕ) (s : ℤ × ℤ) (e : HeadSeries) → int_lt s.0 e.newest.0 ≡ false → int_eq s.0 e.newest.0 ≡ false → length e.samples < 1048576 → grown n s e ≡ Some (with_last n s e)
grown_more n s e h k l =
    let f : nat_le max_samples (length e.samples) ≡ false = grind arith in
    ap (λ a. level n s e a (int_eq s.0 e.newest.0)) h ∙ ap (level n s e false) k ∙ ap (λ (d : Bool). if d then None else Some (with_last n s e)) f
