-- What stands in which place of the counts of a path.
use Rattle.std.specs.Prelude.{ℕ, List, [], ◌∷◌}

-- the statuses of replies
unfoldable pub statuses : List ℕ
statuses = 200 ∷ 400 ∷ 403 ∷ 404 ∷ 405 ∷ 409 ∷ 413 ∷ 431 ∷ 503 ∷ []

-- the statuses of replies of the port of Prometheus
unfoldable pub port_statuses : List ℕ
port_statuses = 200 ∷ 400 ∷ 403 ∷ 404 ∷ 405 ∷ 411 ∷ 415 ∷ 431 ∷ 503 ∷ []

-- the bounds of a histogram, in microseconds
unfoldable pub bounds : List ℕ
bounds =
    100 ∷ 500 ∷ 1000 ∷ 5000 ∷ 10000 ∷ 50000 ∷ 100000 ∷ 500000 ∷ 1000000 ∷ 5000000 ∷ []

-- the numbers of refusals
unfoldable pub refusals : List ℕ
refusals = 1 ∷ 2 ∷ 3 ∷ 4 ∷ 5 ∷ 6 ∷ 7 ∷ 8 ∷ 9 ∷ 10 ∷ 11 ∷ 12 ∷ 13 ∷ []
