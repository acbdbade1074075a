use Rattle.commands.proofs.keeping.serve_found.Given as goal

-- the store that was just made, of what a start made
abbrev pub ghosts-serve_kept : goal.ghosts-serve_kept
ghosts-serve_kept g a = record {
  book = a.store.seen.book;
  opening = a.kept.snapshot;
  before = a.kept.journal.events.items;
  asked = λ event seat place. Unit {0};
  kept = λ entries. Unit {0};
}
