-- A reply, compressed, is a body of its answers.
use Rattle.std.proofs.Common.{◌<◌, ◌^◌, ℕ, List, length, sym, subst, arith}
use Rattle.snappy.specs.Format.{IsStream}
use Rattle.remote_read.specs.Answer.{IsResponse, response_text}
use Rattle.remote_read.proofs.Answered.{response_read}
use Rattle.remote_rows.specs.Sent.{Answer, IsReplyTo, IsBodyOf}

pub is_body : (answers : List Answer) (text bytes : List ℕ) → IsReplyTo answers text → length text < 2 ^ 32
    → IsStream bytes text → IsBodyOf answers bytes
is_body answers text bytes r few stream =
    let within : length text < 2 ^ 64 = omega arith in
    let short : length (response_text r.results) < 2 ^ 64 = rw r.spelled at within in
    record {
      text = text;
      stream = stream;
      results = r.results;
      response =
          subst (λ (t : List ℕ). IsResponse t r.results) (sym r.spelled)
          (response_read r.results (record { each = r.fits; length = short }));
      each = r.each;
    }
