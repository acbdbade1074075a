-- The rules of a server.
use Rattle.std.specs.Prelude.{◌≡◌, ℕ, ◌==◌, List, [], ◌∷◌, Option, None, Some, if◌then◌else◌}
use Rattle.std.specs.Prelude.{string_bytes, length, ◌≤◌}
use Rattle.std.specs.Borrow.{Bor}
use Rattle.guard.specs.declared.rules.Rules.{Rules}
use Rattle.guard.specs.declared.token.Token.{Token}
use Rattle.commands.specs.Reading.{Host, AreFirstBytes}
use Rattle.commands.specs.declared.command.Serving.{Serving}
use Rattle.commands.specs.declared.fault.Fault.{Fault}
use Rattle.commands.specs.declared.fault.Fault.TheVariants.{CannotRead, Memory}

-- bytes without the end of a line behind them
abbrev pub without_end : List ℕ → List ℕ
without_end [] = []
without_end (byte ∷ []) = if byte == 10 then [] else byte ∷ []
without_end (byte ∷ next ∷ rest) = byte ∷ without_end (next ∷ rest)

-- the token is what the file at a path holds, without the end of its line: of a longer file more
-- than 4,096 bytes would be left
pub record IsTokenAt (reads : Host) (path : List ℕ) (token : Token) : Type 0 where
  pub bytes : List ℕ
  pub read : AreFirstBytes reads path 4098 bytes
  pub is : token.bytes.items ≡ without_end bytes
  pub few : length token.bytes.items ≤ 4096

-- the token of the file, if one is named
abbrev pub IsTokenOf : Host → Option (Bor (List ℕ)) → Option Token → Type 0
IsTokenOf reads None token = token ≡ None
IsTokenOf reads (Some path) None = ⊥
IsTokenOf reads (Some path) (Some token) = IsTokenAt reads path.now token

-- the rules that the options of a server ask for
pub record AreRulesOf (reads : Host) (serving : Serving) (rules : Rules) : Type 0 where
  pub read_only : rules.read_only ≡ serving.read_only
  pub token : IsTokenOf reads serving.guard rules.token

-- why no token is read at a path: there is none that its owner alone may read, or memory failed
abbrev pub IsTokenFault : List ℕ → Fault → Type 0
IsTokenFault path (CannotRead file) = string_bytes file ≡ path
IsTokenFault path Memory = Unit {0}
IsTokenFault path other = ⊥

-- why the rules are not read
abbrev pub GuardFails : Option (Bor (List ℕ)) → Fault → Type 0
GuardFails None fault = ⊥
GuardFails (Some path) fault = IsTokenFault path.now fault

abbrev pub IsGuardFault : Serving → Fault → Type 0
IsGuardFault serving fault = GuardFails serving.guard fault
