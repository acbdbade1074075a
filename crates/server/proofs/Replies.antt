-- The replies of the status port.
use Rattle.std.proofs.Common.{◌≡◌, ℕ, Bool, List, inr}
use Rattle.server.specs.Status.{IsAnswer, IsPlain, IsReply, allow_of, reply_text}
use Rattle.server.specs.declared.status.Asked.{Asked}
use Rattle.server.specs.declared.status.Asked.TheVariants.{Metrics, Healthy, Ready, NoPath}
use Rattle.server.specs.declared.status.Asked.TheVariants.{NoMethod, NoRequest}

-- a reply without counts is one that may be given
pub plain_answered : (asked : Asked) (ready : Bool) (line body : List ℕ)
    → IsPlain asked ready line body → IsAnswer asked ready line body
plain_answered Metrics ready line body plain = inr plain
plain_answered Healthy ready line body plain = plain
plain_answered Ready ready line body plain = plain
plain_answered NoPath ready line body plain = plain
plain_answered NoMethod ready line body plain = plain
plain_answered NoRequest ready line body plain = plain

-- a status and a body, and the text of both
pub answer_replied : (asked : Asked) (bare ready : Bool) (line body reply : List ℕ)
    → IsAnswer asked ready line body → reply ≡ reply_text bare line (allow_of asked) body
    → IsReply asked bare ready reply
answer_replied asked bare ready line body reply answer text = (line, body, answer, text)
