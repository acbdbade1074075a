use Rattle.std.proofs.Common.{ℕ, List, subst}
use Rattle.std.specs.Io.KnownBytes.{Appends}
use Rattle.commands.proofs.writing.write_answer.Goals as goal

pub returns-clause-ok : goal.returns-clause-ok
returns-clause-ok g c = record {
  answer = c.in_ok-answer.answer;
  audited = record { each = c.in_ok-answer.ensures.each; rows = c.in_ok-answer.ensures.rows };
  written =
      subst (λ (bytes : List ℕ).
      Appends (g.W.Write.contents c.args.out.now) (g.W.Write.contents c.send_answer.new.out) bytes)
      c.in_ok-text.ensures c.in_ok-send_answer.ensures.ok;
}
