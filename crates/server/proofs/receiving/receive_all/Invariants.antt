use Rattle.server.proofs.receiving.receive_all.Given as goal

-- the rules and the version of this call
abbrev pub ghosts-receive_under : goal.ghosts-receive_under
ghosts-receive_under g a = record { rules = a.rules.now; version = a.terms.version.now }
