use Rattle.std.proofs.Common.{true, false, sym, ◌≡◌, ◌∙◌}
use Rattle.auditor.specs.Auditing.{IsFlaw}
use Rattle.auditor.proofs.Excluding.{sound_not}
use Rattle.reply_state.proofs.Rights.{not_memory}
use Rattle.reply_state.proofs.told.is_sound.Goals as goal

pub returns-in_ok-not_sound-in-Err : goal.returns-in_ok-not_sound-in-Err
returns-in_ok-not_sound-in-Err c =
    let said = c.in_ok-not_sound-in-Err.ensures in
    let part = c.args.part.now in
    let query = c.args.query.now in
    let answer = c.args.answer.now in
    let flaw = not_memory (IsFlaw part query answer) c.in-Err.flaw c.in-Err.ensures.flawed said.1 in (
      λ t. absurd (let e : true ≡ false = sym t ∙ said.0 in cc),
      λ sound. absurd (sound_not part query answer c.in-Err.flaw sound flaw),
    )
