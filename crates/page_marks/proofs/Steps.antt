-- One more of the numbers whose marks are gathered.
use Rattle.std.proofs.Common.{◌≡◌, ℕ, ◌+◌, List, ◌++◌, ap, sym, ◌∙◌, add-one}
use Rattle.std.proofs.Common.{append_assoc, append-nil}
use Rattle.page_text.specs.declared.mark.Mark.{Mark}
use Rattle.page_marks.specs.Gathering.{gather}

pub gather_none : (xs : List Mark) (f : ℕ → List Mark) → xs ++ gather f 0 ≡ xs
unfolding gather
gather_none xs f = append-nil xs

gather_more : (f : ℕ → List Mark) (n : ℕ) → gather f (n + 1) ≡ gather f n ++ f n
unfolding gather
gather_more f n = ap (λ (m : ℕ). gather f m) (add-one n)

pub gather_step : (xs : List Mark) (f : ℕ → List Mark) (n : ℕ)
    → xs ++ gather f (n + 1) ≡ (xs ++ gather f n) ++ f n
gather_step xs f n =
    ap (λ (t : List Mark). xs ++ t) (gather_more f n) ∙ sym (append_assoc xs (gather f n) (f n))

pub ruleset steps = (gather_none, gather_step)
