-- What is told of a server that ends too early.
use Rattle.std.specs.Prelude.{ℕ, List, codes}
use Rattle.server.specs.declared.error.ServeError.{ServeError}
use Rattle.server.specs.declared.error.ServeError.TheVariants.{NoListener, NoThread, Memory}

-- the fault in a line, for people
abbrev pub serve_text : ServeError → List ℕ
serve_text NoListener = codes "there is no listener any more"
serve_text NoThread = codes "cannot make a thread"
serve_text Memory = codes "no memory"
