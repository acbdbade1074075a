use Rattle.std.proofs.Common.{◌≡◌, drop, get_or, true, false, ◌==◌, Some, IfSome, sym, ap, subst}
use Rattle.std.proofs.Common.{◌∙◌, arith, take_all, length-drop}
use Rattle.std.proofs.Common.{rules, w64, SFits}
use Rattle.std.proofs.lemmas.Int.{to_z-of_z}
use Rattle.std.specs.Prelude.{option_and_then}
use Rattle.fast_float.specs.Text.{scan}
use Rattle.serde_json.specs.Find.{as_i64}
use Rattle.serde_json.specs.Read.{number_of, number_from}
use Rattle.requests.proofs.usual.integer_of.Goals as goal

pub returns-then-has_minus : goal.returns-then-has_minus
unfolding number_of
returns-then-has_minus c =
    let s = c.as_bytes-bytes.result.now in
    let signed : (get_or s 0 0 == 45) ≡ true = sym c.if-has_minus.ensures.value in
    let parts : c.scan.result ≡ scan (drop 1 s) = c.scan.ensures.parts ∙ ap scan
    (take_all _ (drop 1 s) (omega (arith, length-drop 1 s))) in
    let read : number_from true (scan (drop 1 s)) ≡ number_of s = rw signed in
    subst (λ n. IfSome c.negative.result (λ z. option_and_then as_i64 n ≡ Some z))
    (ap (number_from true) parts ∙ read ∙ ap number_of c.as_bytes-bytes.ensures.value)
    c.negative.ensures

pub returns-in-Some : goal.returns-in-Some
unfolding number_of
returns-in-Some c =
    let s = c.as_bytes-bytes.result.now in
    let unsigned : (get_or s 0 0 == 45) ≡ false = sym c.if-has_minus.ensures.value in
    let read : number_from false (scan s) ≡ number_of s = rw unsigned in
    let fits : SFits w64 c.in-Some.value = search rules in
    rw (to_z-of_z w64 _ fits) (subst (λ n. option_and_then as_i64 n ≡ Some c.in-Some.value)
    (read ∙ ap number_of c.as_bytes-bytes.ensures.value) c.in-Some.ensures)

pub returns-in-None : goal.returns-in-None
unfolding number_of
returns-in-None c =
    let s = c.as_bytes-bytes.result.now in
    let unsigned : (get_or s 0 0 == 45) ≡ false = sym c.if-has_minus.ensures.value in
    let read : number_from false (scan s) ≡ number_of s = rw unsigned in
    subst (λ n. IfSome c.unsigned.result (λ z. option_and_then as_i64 n ≡ Some z))
    (ap (number_from false) c.scan-in-None.ensures.parts ∙ read
    ∙ ap number_of c.as_bytes-bytes.ensures.value) c.unsigned.ensures
