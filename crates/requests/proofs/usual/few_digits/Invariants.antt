use Rattle.std.proofs.Common.{◌≡◌, ◌<◌, ◌≤◌, ◌-◌, length, take}
use Rattle.std.specs.Str.Parse.{digits_value, AllDigits}
use Rattle.requests.proofs.usual.few_digits.Given as goal

abbrev pub invariant-digits : goal.invariant-digits
invariant-digits l = record {
  within : l.at ≤ length l.bytes;
  digits : AllDigits 10 (take l.at l.bytes);
  value : l.value ≡ digits_value 10 (take l.at l.bytes);
  few : l.value < 1000000000000000000;
}

abbrev pub decreases-digits : goal.decreases-digits
decreases-digits l = length l.bytes - l.at
