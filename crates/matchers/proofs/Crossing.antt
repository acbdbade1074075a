-- Which types of this crate threads may share: a caller's proof cites these where a worker reads a query.
use denote.Param.Send.{IsSend, IsSync, sendable}
use Rattle.std.proofs.Crossing as heap
use Rattle.std.proofs.MapsCrossing as maps
use Rattle.regex_hir.proofs.hir.Hir.TheLaws.TheKnot as hir
use Rattle.regex_dfa.specs.contracts.dfa.Dfa as dfa
use Rattle.regex_meta.specs.contracts.program.Program as program
use Rattle.regex_meta.specs.contracts.plan.Plans as plans
use Rattle.regex_meta.specs.contracts.signs.Signs as signs
use Rattle.regex_literal.specs.contracts.byte_set.ByteSet as bytes
use Rattle.regex.specs.contracts.pattern.Pattern as pattern
use Rattle.text_choices.specs.contracts.alternative.Alternative as alternative
use Rattle.text_choices.specs.contracts.atom.Atom as atom
use Rattle.text_choices.specs.contracts.choice.Choice as choice
use Rattle.matchers.specs.contracts.pattern.Built as built
use Rattle.matchers.specs.contracts.pattern.Pattern as own
use Rattle.matchers.specs.contracts.matcher.Test as test
use Rattle.matchers.specs.contracts.matcher.Matcher as matcher
use Rattle.matchers.specs.contracts.query.Query as query
use Rattle.regex.specs.contracts.string.regex.Regex as regex

pub Dfa-sync : IsSync dfa.the_field.row
Dfa-sync = search (sendable, heap.crosses) depth 60 fits 20000

pub Plans-sync : IsSync plans.the_field.row
Plans-sync = search (sendable, heap.crosses, hir.crosses) depth 60 fits 20000

pub Signs-sync : IsSync signs.the_field.row
Signs-sync = search (sendable, heap.crosses, hir.crosses) depth 60 fits 20000

pub Bytes-sync : IsSync bytes.the_field.row
Bytes-sync = search (sendable, heap.crosses) depth 60 fits 20000

pub Program-sync : IsSync program.the_field.row
Program-sync = search (sendable, heap.crosses, hir.crosses, Dfa-sync, Plans-sync, Signs-sync, Bytes-sync) depth 60 fits 20000

pub BuiltPattern-sync : IsSync pattern.the_field.row
BuiltPattern-sync = search (sendable, maps.String-sync, heap.Vec-sync, Program-sync) depth 60 fits 20000

pub Regex-sync : IsSync regex.the_field.row
Regex-sync = search (sendable, BuiltPattern-sync) depth 60 fits 20000

pub Dfa-send : IsSend dfa.the_field.row
Dfa-send = search (sendable, heap.crosses) depth 60 fits 20000

pub Plans-send : IsSend plans.the_field.row
Plans-send = search (sendable, heap.crosses, hir.crosses) depth 60 fits 20000

pub Signs-send : IsSend signs.the_field.row
Signs-send = search (sendable, heap.crosses, hir.crosses) depth 60 fits 20000

pub Bytes-send : IsSend bytes.the_field.row
Bytes-send = search (sendable, heap.crosses) depth 60 fits 20000

pub Program-send : IsSend program.the_field.row
Program-send = search (sendable, heap.crosses, hir.crosses, Dfa-send, Plans-send, Signs-send, Bytes-send) depth 60 fits 20000

pub BuiltPattern-send : IsSend pattern.the_field.row
BuiltPattern-send = search (sendable, maps.String-send, heap.crosses, Program-send) depth 60 fits 20000

pub Regex-send : IsSend regex.the_field.row
Regex-send = search (sendable, BuiltPattern-send) depth 60 fits 20000

pub Atom-sync : IsSync atom.the_field.row
Atom-sync = search (sendable) depth 60 fits 20000

pub Atom-send : IsSend atom.the_field.row
Atom-send = search (sendable) depth 60 fits 20000

pub Alternative-sync : IsSync alternative.the_field.row
Alternative-sync = search (sendable, heap.Vec-sync, Atom-sync) depth 60 fits 20000

pub Alternative-send : IsSend alternative.the_field.row
Alternative-send = search (sendable, heap.Vec-send, Atom-send) depth 60 fits 20000

pub Choice-sync : IsSync choice.the_field.row
Choice-sync = search (sendable, heap.Vec-sync, Alternative-sync) depth 60 fits 20000

pub Choice-send : IsSend choice.the_field.row
Choice-send = search (sendable, heap.Vec-send, Alternative-send) depth 60 fits 20000

pub Built-sync : IsSync built.the_field.row
Built-sync = search (sendable, heap.Arc-sync, Regex-send, Regex-sync, Choice-send, Choice-sync) depth 60 fits 20000

pub Pattern-sync : IsSync own.the_field.row
Pattern-sync = search (sendable, heap.Vec-sync, Built-sync) depth 60 fits 20000

pub Test-sync : IsSync test.the_field.row
Test-sync = search (sendable, heap.Vec-sync, Pattern-sync) depth 60 fits 20000

pub Matcher-sync : IsSync matcher.the_field.row
Matcher-sync = search (sendable, heap.Vec-sync, Test-sync) depth 60 fits 20000

pub Query-sync : IsSync query.the_field.row
Query-sync = search (sendable, heap.Vec-sync, Matcher-sync) depth 60 fits 20000
