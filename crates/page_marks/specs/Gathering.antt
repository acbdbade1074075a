-- What the first numbers give, in order, and its sum.
use Rattle.std.specs.Prelude.{ℕ, zero, suc, ◌+◌, List, [], ◌++◌}
use Rattle.page_text.specs.declared.mark.Mark.{Mark}

-- the marks that the first numbers give, from 0
unfoldable pub gather : (ℕ → List Mark) → ℕ → List Mark
gather f zero = []
gather f (suc n) = gather f n ++ f n

-- the sum of what the first numbers give, from 0
unfoldable pub total : (ℕ → ℕ) → ℕ → ℕ
total f zero = 0
total f (suc n) = total f n + f n
