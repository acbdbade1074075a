-- When a journal is begun anew.
use Rattle.std.specs.Prelude.{◌-◌, ◌/◌, ◌==◌, ◌&&◌, ◌||◌, ℕ, Bool, nat_lt, not, List, [], ◌∷◌}
use Rattle.head.specs.Worlds.{Event}
use Rattle.store_folder.specs.declared.terms.RollTerms.{RollTerms}

-- since that was tried last, the journal has grown by more bytes than these; or by more than an
-- eighth of them, and the store has other blocks
abbrev pub are_met : RollTerms → ℕ → ℕ → Bool
are_met terms len blocks =
    nat_lt terms.most (len - terms.len)
    || (not (blocks == terms.blocks) && nat_lt (terms.most / 8) (len - terms.len))

-- how many bytes a journal of so many, with these events, had when it was begun; 0 if that is not
-- known
abbrev pub begun_len : List Event → ℕ → ℕ
begun_len [] len = len
begun_len (e ∷ events) len = 0
