use Rattle.std.proofs.Common.{◌≡◌, drop}
use Rattle.index_reader.specs.CheckedFile.{carriers_seen}
use Rattle.index_reader.specs.Reading.Walk.{in_turn, take_series}
use Rattle.index_reader.proofs.agreement.Rests.take_all.Given as goal

abbrev pub invariant-loop-at : goal.invariant-loop-at
invariant-loop-at l =
    in_turn take_series l.self (drop l.at (carriers_seen l.bodies))
    ≡ in_turn take_series l.fn.self (carriers_seen l.bodies)
