-- What clauses see of a medium in memory.
use Rattle.std.specs.Prelude.{ℕ, Bool, not, List}
use Rattle.journal.specs.declared.memory_medium.MemoryMedium.{MemoryMedium}

abbrev pub memory_bytes : MemoryMedium → List ℕ
memory_bytes m = m.bytes.items

abbrev pub memory_synced : MemoryMedium → ℕ
memory_synced m = m.synced

abbrev pub memory_sound : MemoryMedium → Bool
memory_sound m = not m.lost
