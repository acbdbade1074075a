-- Label names: `[a-zA-Z_][a-zA-Z0-9_]*`.
use Rattle.std.specs.Prelude.{ℕ, Bool, false, ◌&&◌, ◌||◌, ◌==◌, List, [], ◌∷◌}
use Rattle.std.specs.List.{list_all}
use Rattle.std.specs.Char.{is_ascii_alphabetic, is_ascii_digit}

-- whether a name may begin with the byte: a letter or `_`
abbrev pub starts_name : ℕ → Bool
starts_name b = is_ascii_alphabetic b || b == 95

-- whether a name may go on with the byte: a letter, `_` or a digit
abbrev pub continues_name : ℕ → Bool
continues_name b = starts_name b || is_ascii_digit b

-- whether the bytes are a label name
abbrev pub is_name : List ℕ → Bool
is_name [] = false
is_name (b ∷ bs) = starts_name b && list_all continues_name bs
