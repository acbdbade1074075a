use Rattle.waiting_room.proofs.room.serve.Given as goal

abbrev pub ghosts-run-L-Budget : goal.ghosts-run-L-Budget
ghosts-run-L-Budget g a = record { whole = a.terms.together }

abbrev pub ghosts-run-L-Ledger : goal.ghosts-run-L-Ledger
ghosts-run-L-Ledger g a = record { name = a.blank.name; parts = a.blank.parts }
