-- How many bytes are taken for a request.
use Rattle.std.proofs.Common.{◌≡◌, ◌+◌, ◌-◌, ◌≤◌, ◌⊎◌, ℕ, false, List, [], ◌++◌, length}
use Rattle.std.proofs.Common.{Option, None, Some, Result, Ok, Err, IfOk, inl, inr, refl, sym, ap}
use Rattle.std.proofs.Common.{◌∙◌, arith, true≢false, length-append}
use Rattle.std.proofs.KnownBytes.{Consumes-trans}
use Rattle.std.specs.Io.KnownBytes.{Consumes}
use Rattle.requests.specs.declared.request.Request.{Request}
use Rattle.requests.specs.declared.request.Request.TheVariants as asks
use Rattle.requests.specs.declared.request.ReadError.{ReadError}
use Rattle.requests.specs.declared.target.Path.{Path}
use Rattle.requests.specs.declared.target.Path.TheVariants.{Select, Write, Delete, Cut}
use Rattle.requests.specs.Edge.{TakesAtMost, IsReadInto}
use Rattle.requests.specs.Fields.{allowed, length_asked}
use Rattle.requests.specs.Reading.{BodyMeans, most_taken}
use Rattle.requests.specs.Requests.{Told}
use Rattle.requests.specs.Targets.{takes_query}

takes_nothing : (input : Option (List ℕ)) → Consumes input input []
takes_nothing None = tt
takes_nothing (Some xs) = refl

-- where nothing was read, no more than any count was taken
pub takes_none : (len : ℕ) (input : Option (List ℕ)) (result : Result Request ReadError)
    → IfOk result (λ request. TakesAtMost (most_taken request - len) input input)
takes_none len input (Ok request) = ([], takes_nothing input, omega arith)
takes_none len input (Err error) = tt

-- what was read into a buffer up to this end, or not at all
pub takes_read : (before after : List ℕ) (m n : ℕ) (input rest : Option (List ℕ)) (end most : ℕ)
    → m ≡ length before → n ≡ length after → IsReadInto input rest before after
    → (n ≤ m) ⊎ (n ≤ end) → end ≤ most → m ≤ most → TakesAtMost (most - m) input rest
takes_read before after m n input rest end most em en read few fits short =
    let all : n ≡ m + length read.0 =
    en ∙ ap length read.1 ∙ length-append before read.0 ∙ ap (λ k. k + length read.0) (sym em) in (
      read.0,
      read.2,
      elim few [
        | inl none ↦ omega (arith, none, all)
        | inr some ↦ omega (arith, some, all, fits)
      ],
    )

-- no body asks a query
pub takes_body : (path : Path) (body : List ℕ) (result : Result Request ReadError) (len : ℕ)
    (input rest : Option (List ℕ)) → takes_query path ≡ false → Told (BodyMeans path body) result
    → TakesAtMost (1056768 - len) input rest
    → IfOk result (λ request. TakesAtMost (most_taken request - len) input rest)
takes_body path body (Err error) len input rest post told takes = tt
takes_body path body (Ok (asks.Write samples)) len input rest post told takes = takes
takes_body path body (Ok (asks.Delete matchers from to)) len input rest post told takes = takes
takes_body path body (Ok (asks.Cut t)) len input rest post told takes = takes
takes_body Select body (Ok (asks.Select query)) len input rest post told takes =
    absurd (true≢false post)
takes_body Write body (Ok (asks.Select query)) len input rest post told takes = absurd told
takes_body Delete body (Ok (asks.Select query)) len input rest post told takes = absurd told
takes_body Cut body (Ok (asks.Select query)) len input rest post told takes = absurd told

at_least : (request : Request) → 8192 ≤ most_taken request
at_least (asks.Select query) = omega arith
at_least (asks.Write samples) = omega arith
at_least (asks.Delete matchers from to) = omega arith
at_least (asks.Cut t) = omega arith

-- a head's bytes, and what was taken after them
pub takes_both : (come : List ℕ) (m : ℕ) (a b c : Option (List ℕ))
    (result : Result Request ReadError) → m ≡ length come → Consumes a b come → m ≤ 8192
    → IfOk result (λ request. TakesAtMost (most_taken request - m) b c)
    → IfOk result (λ request. TakesAtMost (most_taken request) a c)
takes_both come m a b c (Err error) em first short more = tt
takes_both come m a b c (Ok request) em first short more =
    let least : 8192 ≤ most_taken request = at_least request in (
      come ++ more.0,
      Consumes-trans a b c come more.0 first more.1,
      rw (length-append come more.0) (omega (arith, em, more.2, short, least)),
    )

allowed_few : (m n : ℕ) → allowed m ≡ Ok n → n ≤ 1048576
allowed_few m n e = grind arith

-- the length of a body
pub length_few : (fields : List (List ℕ × List ℕ)) (n : ℕ) → length_asked fields ≡ Ok n
    → n ≤ 1048576
length_few fields n e = grind arith
