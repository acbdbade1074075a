use Rattle.std.proofs.Common.{◌≡◌, ◌∙◌, ℕ, List, true, false, sym, subst, ap}
use Rattle.std.proofs.Common.{Err, string_bytes}
use Rattle.labels.specs.Names.{is_name}
use Rattle.matchers.specs.Limits.{IsTooLong, IsRefusedWithin}
use Rattle.matchers.specs.declared.limits.Limits.TheVariants.{Long}
use Rattle.remote_read.specs.Reading.{matcher_seen}
use Rattle.remote_requests.proofs.ReadTurns.{name_fault, value_fault, both_texts, matcher_made}
use Rattle.remote_requests.proofs.ReadTurns.{asks_pattern, named_at}
use Rattle.remote_requests.proofs.reads.matcher_of.Goals as goal

pub returns-in_default-from_utf8 : goal.returns-in_default-from_utf8
returns-in_default-from_utf8 c =
    ((c.in-Some.op, sym c.in-Some.ensures), name_fault _ _ c.in_default-from_utf8.ensures.cases.0)

pub returns-in_default-from_utf8-2 : goal.returns-in_default-from_utf8-2
returns-in_default-from_utf8-2 c = (
  (c.in-Some.op, sym c.in-Some.ensures),
  value_fault _ _ c.in-Ok.ensures.cases.1 c.in_default-from_utf8-2.ensures.cases.0,
)

pub returns-in-Ok-within : goal.returns-in-Ok-within
returns-in-Ok-within c =
    matcher_made (matcher_seen c.args.sent.now) c.in-Ok-within.matcher c.in-Some.op _ _
    c.in-Some.ensures c.in-Ok-within.ensures.ok (c.in_ok-name.ensures.ok ∙ c.in-Ok.ensures.cases.0)
    (c.in_ok-text.ensures.ok ∙ c.in-Ok-from_utf8.ensures.cases.0) c.in-Ok.ensures.cases.1
    c.in-Ok-from_utf8.ensures.cases.1 c.in-Ok-within.ensures.named c.in-Ok-within.ensures.read

pub returns-in-Err-BadName : goal.returns-in-Err-BadName
returns-in-Err-BadName c =
    let same = c.in_ok-name.ensures.ok ∙ c.in-Ok.ensures.cases.0 in (
      (c.in-Some.op, sym c.in-Some.ensures),
      both_texts _ _ c.in-Ok.ensures.cases.1 c.in-Ok-from_utf8.ensures.cases.1,
      subst (λ (n : List ℕ). is_name n ≡ false) same
          (c.in-Err-BadName.ensures.bad_name.0 (ap Err c.in-Err-BadName.field-0-is)),
    )

pub returns-in-Err-PatternTooLong : goal.returns-in-Err-PatternTooLong
returns-in-Err-PatternTooLong c =
    let same = c.in_ok-name.ensures.ok ∙ c.in-Ok.ensures.cases.0 in
    let text = c.in_ok-text.ensures.ok ∙ c.in-Ok-from_utf8.ensures.cases.0 in
    let long = c.in-Err-PatternTooLong.ensures.too_long
    (ap Err c.in-Err-PatternTooLong.field-0-is) in (
      asks_pattern (matcher_seen c.args.sent.now) c.in-Some.op c.in-Some.ensures long.1
          c.in-Ok.ensures.cases.1 c.in-Ok-from_utf8.ensures.cases.1
          (subst (λ (n : List ℕ). is_name n ≡ true) same long.0),
      subst (IsTooLong Long) text long.2,
    )

pub returns-in-Err-PatternRefused : goal.returns-in-Err-PatternRefused
returns-in-Err-PatternRefused c =
    let same = c.in_ok-name.ensures.ok ∙ c.in-Ok.ensures.cases.0 in
    let text = c.in_ok-text.ensures.ok ∙ c.in-Ok-from_utf8.ensures.cases.0 in
    let is = c.in-Err-PatternRefused.ensures.refused (ap Err c.in-Err-PatternRefused.field-0-is) in (
      asks_pattern (matcher_seen c.args.sent.now) c.in-Some.op c.in-Some.ensures is.0
          c.in-Ok.ensures.cases.1 c.in-Ok-from_utf8.ensures.cases.1
          (subst (λ (n : List ℕ). is_name n ≡ true) same (named_at c.in-Err-PatternRefused.field-0
          (string_bytes c.in_ok-name.name)
          c.in-Err-PatternRefused.field-0-is c.in-Err-PatternRefused.ensures.bad_name.1)),
      subst (IsRefusedWithin Long) text is.1,
    )
