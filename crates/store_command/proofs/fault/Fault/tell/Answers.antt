use Rattle.std.proofs.Common.{◌≡◌, ◌++◌, ◌∷◌, [], ℕ, List, OnOk, IfSome, append_assoc, codes, sym, ap}
use Rattle.std.proofs.Common.{string_bytes, subst}
use Rattle.std.specs.Io.KnownBytes.{Appends}
use Rattle.store_command.specs.Faults.{line_of}
use Rattle.store_command.specs.declared.fault.Fault.{Fault}
use Rattle.store_command.proofs.fault.Fault.tell.Goals as goal

-- the line as it is written, and as it is told
line : (mark : List ℕ) → codes "rolled since " ++ (mark ++ (codes ": ask again" ++ 10 ∷ []))
    ≡ codes "rolled since " ++ ((mark ++ codes ": ask again") ++ 10 ∷ [])
line mark =
    ap (λ (l : List ℕ). codes "rolled since " ++ l)
    (sym (append_assoc mark (codes ": ask again") (10 ∷ [])))

pub returns-in-Rolled : goal.returns-in-Rolled
returns-in-Rolled g c =
    let old = g.W.Write.contents c.args.to.now in
    let new = g.W.Write.contents c.writeln-in-Rolled.new.self in
    subst (λ (fault : Fault). OnOk c.writeln-in-Rolled.result
    (IfSome (line_of fault) (Appends old new))) (sym c.in-Rolled.is)
    (subst (λ (bytes : List ℕ). OnOk c.writeln-in-Rolled.result (Appends old new bytes))
    (line (string_bytes c.in-Rolled.mark)) c.writeln-in-Rolled.ensures.bytes)
