use Rattle.commands.specs.Keeping.{asked_values, first_of}
use Rattle.commands.proofs.keeping.serve_folder.Given as goal

-- where what was found begins
abbrev pub ghosts-serve_found : goal.ghosts-serve_found
ghosts-serve_found g a = record { first = first_of (asked_values a.serving) a.found }
