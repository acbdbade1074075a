use Rattle.std.proofs.Common.{◌≡◌, take, map}
use Rattle.index_reader.specs.Roles.{role_of}
use Rattle.index_reader.specs.Seen.{bytes_of}
use Rattle.index_reader.proofs.symbols.roles_of.Given as goal

abbrev pub invariant-loop-text : goal.invariant-loop-text
invariant-loop-text l = l.roles.items ≡ map role_of (bytes_of (take l.text-index l.texts))
