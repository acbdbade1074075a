-- What a symbol can be in a label.
use Rattle.std.specs.Prelude.{ℕ, List, length, nat_lt}
use Rattle.labels.specs.Names.{is_name}
use Rattle.index_reader.specs.declared.symbols.Role.{Role}

-- a name, a value that is not empty
abbrev pub role_of : List ℕ → Role
role_of text = record { is_name = is_name text; is_value = nat_lt 0 (length text) }
