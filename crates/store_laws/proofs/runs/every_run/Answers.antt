use Rattle.store_laws.proofs.Histories.{exactly, grown}
use Rattle.store_laws.proofs.Moves.{every}
use Rattle.store_laws.proofs.runs.every_run.Goals as goal

pub returns-clause-keeps : goal.returns-clause-keeps
returns-clause-keeps c opening moves s runs = every opening moves s runs

pub returns-clause-grows : goal.returns-clause-grows
returns-clause-grows c moves later = grown moves later

pub returns-clause-exact : goal.returns-clause-exact
returns-clause-exact c moves all = exactly moves all
