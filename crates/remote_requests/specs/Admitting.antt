-- Which heads the rules of a server admit: a write changes the store, all else reads.
use Rattle.std.specs.Prelude.{Result, Ok, Err}
use Rattle.httparse.specs.Grammar.{RequestHead}
use Rattle.guard.specs.declared.rules.Denial.{Denial}
use Rattle.guard.specs.declared.rules.Denial.TheVariants.{ReadOnly, Guarded}
use Rattle.guard.specs.declared.rules.Rules.{Rules}
use Rattle.guard.specs.Hosts.{Claimed}
use Rattle.guard.specs.Judging.{judgement}
use Rattle.requests.specs.Admitting.{claims_among}
use Rattle.requests.specs.Fields.{fields_of}
use Rattle.remote_requests.specs.declared.refusal.Refusal.{Refusal}
use Rattle.remote_requests.specs.declared.refusal.Refusal.TheVariants as refusals
use Rattle.remote_requests.specs.Paths.{is_write}

-- the claims of a head
abbrev pub claims_of : RequestHead → Claimed
claims_of h = claims_among (is_write h.target) (fields_of h)

-- the refusal of a request that is not admitted: where nothing changes the store, writes have no
-- path
abbrev pub refusal_of : Denial → Refusal
refusal_of ReadOnly = refusals.NoSuchPath
refusal_of Guarded = refusals.Guarded

abbrev pub refused_by : Result (Unit {0}) Denial → Result (Unit {0}) Refusal
refused_by (Ok admitted) = Ok tt
refused_by (Err denial) = Err (refusal_of denial)

-- whether the rules admit a head
abbrev pub admission : Rules → RequestHead → Result (Unit {0}) Refusal
admission rules h = refused_by (judgement rules (claims_of h))
