-- The path that a head names.
use Rattle.std.specs.Prelude.{◌≡◌, ◌≤◌, ℕ, List, Option, Some, length}
use Rattle.httparse.specs.Grammar.{RequestHead, ReadsRequest}
use Rattle.requests.specs.Targets.{path_named, path_text}
use Rattle.requests.specs.declared.target.Path.{Path}

-- a head of at most 64 fields stands at the front, and names this path
pub record NamesPath (buf : List ℕ) (path : Path) : Type 0 where
  pub h : RequestHead
  pub rest : List ℕ
  pub reads : ReadsRequest buf h rest
  pub few : length h.fields ≤ 64
  pub named : path_named (path_text h.target) ≡ Some path

-- whatever path a head names is the one that was found
abbrev pub FindsPath : List ℕ → Option Path → Type 0
FindsPath buf found = (path : Path) → NamesPath buf path → found ≡ Some path
