use Rattle.std.proofs.Common.{◌≡◌, ◌≤◌, ◌<◌, Some, take, get_or, length, pos, ap, ◌∙◌, sym, subst, arith, rules, to_z, w64, take_all}
use Rattle.std.proofs.lemmas.Int.Digits.{digits_more, digits_value_more}
use Rattle.std.proofs.lemmas.Str.{digit_value_digit}
use Rattle.std.specs.Char.{digit_value}
use Rattle.std.specs.Int.{IsInRange}
use Rattle.std.specs.Str.Parse.{digits_value, AllDigits}
use Rattle.requests.proofs.FewDigits.{few_written}
use Rattle.requests.proofs.usual.few_digits.Goals as goal

pub digits-preserved : goal.digits-preserved
digits-preserved c =
    let bytes = c.args.bytes.now in
    let at = c.digits.at in
    let b = get_or bytes at 0 in
    let byte : b < 256 = (c.type_inv.bytes at).fits in
    let range : IsInRange 48 57 b = (omega (arith, byte, c.if-digit-gt9.false), omega (arith, byte, c.if-digit-gt9.false)) in
    let digit : digit_value b ≤ 9 = omega (arith, range.0, range.1, digit_value_digit b range) in
    record {
      within = omega arith;
      digits = digits_more 10 bytes at c.digits-test.true c.digits.invariant.digits (omega (arith, digit));
      value = omega (
        arith,
        byte,
        range.0,
        range.1,
        digit_value_digit b range,
        digits_value_more 10 bytes at c.digits-test.true,
        c.digits.invariant.value,
      );
      few = omega (arith, c.if-digit-gt9.false, c.if-value-ge-FEW.false);
    }

pub returns : goal.returns
returns c =
    let bytes = c.args.bytes.now in
    let all : take c.digits.at bytes ≡ bytes = take_all c.digits.at bytes c.digits-test.false in
    let some : 0 < length bytes = grind arith in
    let signed : to_z w64 c.digits.value ≡ pos c.digits.value = search rules in
    few_written bytes c.digits.value (subst (AllDigits 10) all c.digits.invariant.digits) some
    (c.digits.invariant.value ∙ ap (digits_value 10) all) c.digits.invariant.few ∙ ap Some (sym signed)
