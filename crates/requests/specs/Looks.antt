-- How bytes stand to a head.
use Rattle.std.specs.Prelude.{ℕ, List}
use Rattle.httparse.specs.Grammar.{HasNoRequest, MayBecomeRequest}
use Rattle.httparse.specs.Spans.{RequestOverflows}
use Rattle.requests.specs.Heads.{BeginsWithHead}
use Rattle.requests.specs.declared.head.Look.{Look}
use Rattle.requests.specs.declared.head.Look.TheVariants.{Whole, More, Never}

abbrev pub Looks : List ℕ → Look → Type 0
Looks bytes Whole = BeginsWithHead bytes
Looks bytes More = HasNoRequest bytes × MayBecomeRequest bytes
Looks bytes Never = RequestOverflows 64 bytes
