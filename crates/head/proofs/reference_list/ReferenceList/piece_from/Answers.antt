use Rattle.std.proofs.Common.{◌≡◌, ℕ, ◌+◌, ◌-◌, List, length, take, drop, arith}
use Rattle.std.proofs.lemmas.List.{take_rest}
use Rattle.head.proofs.Pieces.{piece_after}
use Rattle.head.proofs.reference_list.ReferenceList.piece_from.Goals as goal

pub returns-then-ahead-self-clause-front : goal.returns-then-ahead-self-clause-front
returns-then-ahead-self-clause-front c =
    let piece : List ℕ = c.args.self.now.piece.now in
    let refs : List ℕ = c.args.self.now.references.now in
    let ahead : ℕ = c.args.place - c.args.self.now.place in
    let at : c.args.self.now.place + ahead ≡ c.args.place = omega arith in
    let rest : take (length piece - ahead) (drop ahead piece) ≡ drop ahead piece = take_rest piece ahead in
    rw rest (rw at at (piece_after piece refs c.args.self.now.place ahead (omega (arith, c.if-ahead-self.true)) c.args.self.now.front))
