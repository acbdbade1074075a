use Rattle.page.proofs.Placed.{said_at, graded_at}
use Rattle.page.proofs.said.places_laws.Goals as goal

pub returns : goal.returns
returns c = record { blocks = said_at; state = graded_at }
