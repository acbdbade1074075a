-- The path that a head names, by what was parsed.
use Rattle.std.proofs.Common.{◌≡◌, ℕ, List, None, Some, Ok, Err, sym, subst}
use Rattle.httparse.specs.declared.Error.{Error}
use Rattle.httparse.specs.declared.Status.TheVariants.{Complete, Partial}
use Rattle.httparse.specs.declared.spans.HeaderSpan.{HeaderSpan}
use Rattle.httparse.specs.declared.spans.RequestSpans.{RequestSpans}
use Rattle.httparse.specs.Spans.{FindsRequest, span_bytes}
use Rattle.requests.specs.Noting.{FindsPath}
use Rattle.requests.specs.Targets.{path_named, path_text}

-- a head was parsed, and it is the one that names a path
pub parsed_path : (buf : List ℕ) (headers : List HeaderSpan) (spans : RequestSpans)
    → FindsRequest buf 64 headers (Ok (Complete spans))
    → FindsPath buf (path_named (path_text (span_bytes buf spans.path)))
parsed_path buf headers spans finds path named =
    subst (λ (target : List ℕ). path_named (path_text target) ≡ Some path)
    (sym (finds named.h named.rest named.reads named.few).path) named.named

-- no whole head was parsed, so none names a path
pub unparsed_path : (buf : List ℕ) (headers : List HeaderSpan)
    → FindsRequest buf 64 headers (Ok Partial) → FindsPath buf None
unparsed_path buf headers finds path named =
    absurd (finds named.h named.rest named.reads named.few)

-- what came was refused, so no head names a path
pub refused_path : (buf : List ℕ) (headers : List HeaderSpan) (error : Error)
    → FindsRequest buf 64 headers (Err error) → FindsPath buf None
refused_path buf headers error finds path named =
    absurd (finds named.h named.rest named.reads named.few)
