use Rattle.std.proofs.Common.{refl, inl, inr}
use Rattle.std.specs.Str.{is_utf8}
use Rattle.std.proofs.lemmas.Bool.{cases_Bool}
use Rattle.std.proofs.lemmas.Str.{IsUtf8-from_is_utf8, is_utf8-from_IsUtf8}
use Rattle.exposition.proofs.series.text_in.Goals as goal

pub returns-in-Ok : goal.returns-in-Ok
returns-in-Ok c = (
  c.in-Ok.ensures.cases.0,
  is_utf8-from_IsUtf8 c.args.bytes.now c.in-Ok.ensures.cases.1,
)

pub returns-in-Err : goal.returns-in-Err
returns-in-Err c = (
  refl,
  elim (cases_Bool (is_utf8 c.args.bytes.now)) [
    | inl e ↦ absurd (c.in-Err.ensures.cases.0 (IsUtf8-from_is_utf8 c.args.bytes.now e))
    | inr e ↦ e
  ],
)
