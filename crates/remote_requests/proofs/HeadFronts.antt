-- What the first 8,192 bytes say of all.
use Rattle.std.proofs.Common.{◌≡◌, ◌<◌, ◌≤◌, ℕ, List, length, take, drop, sym, subst, inl, inr}
use Rattle.std.proofs.Common.{arith, take_all}
use Rattle.std.specs.Prelude.{min}
use Rattle.std.proofs.lemmas.List.{take-append-drop, length-take}
use Rattle.httparse.specs.Grammar.{RequestHead, HasNoRequest, MayBecomeRequest, print_request}
use Rattle.httparse.specs.Spans.{RequestOverflows}
use Rattle.requests.specs.Heads.{IsBadHead, IsHeadTooLong}
use Rattle.remote_requests.specs.declared.head.Head.{Head}
use Rattle.remote_requests.specs.Heads.{IsHeadIn}
use Rattle.remote_requests.proofs.HeadLaws.{head_before, head_short}

pub whole_head : (bytes : List ℕ) (most : ℕ) (head : Head) → most ≡ min (length bytes) 8192
    → ((h : RequestHead) × IsHeadIn (take most bytes) head h)
    → (h : RequestHead) × IsHeadIn bytes head h × (length (print_request h) ≤ 8192)
whole_head bytes most head e p = (
  p.0,
  subst (λ (b : List ℕ). IsHeadIn b head p.0) (take-append-drop most bytes)
      (head_before (take most bytes) (drop most bytes) head p.0 p.1),
  omega (arith, e, head_short (take most bytes) head p.0 p.1, length-take most bytes),
)

pub no_head_ever : (bytes : List ℕ) (most : ℕ) → most ≡ min (length bytes) 8192
    → RequestOverflows 64 (take most bytes) → IsBadHead bytes
no_head_ever bytes most e over =
    inr (
      take most bytes,
      (drop most bytes, sym (take-append-drop most bytes)),
      omega (arith, e, length-take most bytes),
      over,
    )

pub ends_early : (bytes : List ℕ) (most : ℕ) → most ≡ min (length bytes) 8192 → 0 < length bytes
    → most < 8192 → HasNoRequest (take most bytes) → IsBadHead bytes
ends_early bytes most e some few none =
    let all : take most bytes ≡ bytes = take_all most bytes (omega (arith, e, few)) in
    inl (subst HasNoRequest all none, some, omega (arith, e, few))

pub too_long : (bytes : List ℕ) (most : ℕ) → most ≡ min (length bytes) 8192 → 8192 ≤ most
    → HasNoRequest (take most bytes) → MayBecomeRequest (take most bytes) → IsHeadTooLong bytes
too_long bytes most e many none may = (
  take most bytes,
  (drop most bytes, sym (take-append-drop most bytes)),
  omega (arith, e, many, length-take most bytes),
  none,
  may,
)
