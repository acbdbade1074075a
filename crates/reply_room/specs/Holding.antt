-- What a holder has of its room.
use Rattle.std.specs.Prelude.{ℕ, Bool}
use Rattle.std.specs.Arc.{arc_value}
use Rattle.reply_room.specs.declared.holder.Holder.{Holder}

-- how many bytes its room has
abbrev pub whole_of : Holder → ℕ
whole_of holder = (arc_value holder.room).whole

-- it has taken bytes that it has not given back
abbrev pub holds : Holder → Bool
holds holder = holder.holds
