use Rattle.commands.proofs.Hosts.{found_in_each}
use Rattle.commands.proofs.keeping.read_host.Goals as goal

pub returns-clause-read : goal.returns-clause-read
returns-clause-read g c =
    found_in_each tt c.read_data.new.disk c.in_ok-found.found c.in_ok-found.ensures.read.has
