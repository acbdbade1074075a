use Rattle.whole_audit.proofs.Shown.{has_later, sound_has, sound_was}
use Rattle.whole_audit.proofs.showing.showing_laws.Goals as goal

pub returns : goal.returns
returns c = record {
  later = λ p q query answer is_p is_q grows has. has_later p q query grows is_p is_q answer has;
  shown = sound_has;
  first = λ p q query answer is_p is_q grows has sound.
      sound_was p q query grows is_p is_q answer has sound;
}
