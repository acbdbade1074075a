-- What is asked can be done to a store.
use Rattle.std.specs.Prelude.{⊤}
use Rattle.head.specs.BatchRows.{batch_of_rows}
use Rattle.remote_requests.specs.declared.asked.Asked.{Asked}
use Rattle.remote_requests.specs.declared.asked.Asked.TheVariants.{Write, Read, BuildInfo, List}
use Rattle.remote_requests.specs.declared.asked.Asked.TheVariants.{Home, Page}
use Rattle.remote_http.specs.Cutting.{IsFew}

abbrev pub IsFit : Asked → Type 0
IsFit (Write received) = IsFew (batch_of_rows received.rows.items)
IsFit (Read readings) = ⊤
IsFit BuildInfo = ⊤
IsFit (List listing) = ⊤
IsFit Home = ⊤
IsFit (Page question) = ⊤
