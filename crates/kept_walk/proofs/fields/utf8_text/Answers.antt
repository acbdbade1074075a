use Rattle.std.proofs.Common.{◌≡◌, ℕ, List, true, false, Result, Ok, Err}
use Rattle.std.specs.Prelude.{MatchOption, MatchResult}
use Rattle.std.specs.Result.{result_ok}
use Rattle.std.specs.Str.{is_utf8, IsUtf8}
use Rattle.std.specs.Borrow.{Bor}
use Rattle.std.proofs.lemmas.Str.{IsUtf8-from_is_utf8, is_utf8-from_IsUtf8}
use Rattle.std.proofs.lemmas.Bool.{false_from_ne_true}
use Rattle.kept_walk.proofs.fields.utf8_text.Goals as goal

is_text : {E : Type 0} (V : E → Type 0) (bytes : List ℕ) (r : Result (Bor (List ℕ)) E)
    → MatchResult r (λ s. (s.now ≡ bytes) × IsUtf8 bytes) (λ e. (IsUtf8 bytes → ⊥) × V e)
    → MatchOption (result_ok r) (is_utf8 bytes ≡ false) (λ s.
    (is_utf8 bytes ≡ true) × (s.now ≡ bytes))
is_text V bytes (Ok s) h = (is_utf8-from_IsUtf8 bytes h.1, h.0)
is_text V bytes (Err e) h =
    false_from_ne_true (is_utf8 bytes) (λ t. h.0 (IsUtf8-from_is_utf8 bytes t))

pub returns : goal.returns
returns c = rw c.ok.ensures.value (is_text _ c.args.bytes.now _ c.from_utf8.ensures.cases)
