-- How much room is kept between two connections, and whether the room for replies is bounded.
use Rattle.std.specs.Prelude.{◌≡◌, ◌≤◌, Bool, false, is_some, IfSome, vec_capacity}
use Rattle.reply_room.specs.declared.holder.Holder.{Holder}
use Rattle.reply_room.specs.Holding.{holds}
use Rattle.query_http.specs.declared.buffers.TheConstants.{MOST_KEPT}
use Rattle.query_http.specs.declared.buffers.Buffers.{Buffers}

-- each buffer has at most so much room as is kept
pub record IsBounded (buffers : Buffers) : Type 0 where
  pub request : vec_capacity buffers.request ≤ MOST_KEPT
  pub head : vec_capacity buffers.head ≤ MOST_KEPT
  pub rows : vec_capacity buffers.rows ≤ MOST_KEPT
  pub answer : vec_capacity buffers.answer ≤ MOST_KEPT

-- the memory for replies is bounded: those that are made with these buffers share a room
abbrev pub is_bounded : Buffers → Bool
is_bounded buffers = is_some buffers.room

-- nothing is held of that room
abbrev pub HoldsNothing : Buffers → Type 0
HoldsNothing buffers = IfSome buffers.room (λ (holder : Holder). holds holder ≡ false)
