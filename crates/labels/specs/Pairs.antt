-- Pairs of texts.
use Rattle.std.specs.Prelude.{ℕ, List, map, string_bytes}
use Rattle.std.specs.Borrow.{Bor}
use Rattle.std.specs.declared.string.String.{String}

-- pairs of strings as pairs of bytes
abbrev pub pairs_of : {Z : Type 0} → List (String Z × String Z) → List (List ℕ × List ℕ)
pairs_of ps = map (λ p. (string_bytes p.0, string_bytes p.1)) ps

-- a borrowed pair as a pair of bytes
abbrev pub text_pair : Bor (List ℕ) × Bor (List ℕ) → List ℕ × List ℕ
text_pair p = (p.0.now, p.1.now)

-- borrowed pairs as pairs of bytes
abbrev pub texts_of : List (Bor (List ℕ) × Bor (List ℕ)) → List (List ℕ × List ℕ)
texts_of ps = map (λ p. (p.0.now, p.1.now)) ps
