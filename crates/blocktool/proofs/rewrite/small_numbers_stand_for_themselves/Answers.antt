use Rattle.std.proofs.Common.{inl, arith}
use Rattle.blocktool.proofs.rewrite.small_numbers_stand_for_themselves.Goals as goal

pub returns : goal.returns
returns c bits v small whole not_minus_zero =
    inl (record {
      whole = whole;
      small = grind arith;
      not_minus_zero = not_minus_zero;
    })
