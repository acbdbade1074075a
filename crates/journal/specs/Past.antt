-- What a crash might have left of a medium in memory, during each of its calls.
use Rattle.std.specs.Prelude.{◌⊎◌, ℕ, List, [], ◌∷◌, drop, Vec}
use Rattle.std.specs.declared.alloc.Global.{Global}
use Rattle.journal.specs.Media.{MayLeave}

-- bytes that were being written, and how many of them were there for good
abbrev pub Image : Type 0
Image = Vec ℕ Global × ℕ

abbrev pub HadBeen : List Image → List ℕ → Type 0
HadBeen [] left = ⊥
HadBeen (i ∷ past) left = MayLeave i.1 i.0.items left ⊎ HadBeen past left

-- now, or during a call since
abbrev pub Since : List Image → ℕ → List ℕ → ℕ → List ℕ → Type 0
Since past synced bytes t left = MayLeave synced bytes left ⊎ HadBeen (drop t past) left
