use Rattle.std.proofs.Common.{rules, ◌≡◌, ◌++◌, ◌∷◌, ◌∙◌, ap, subst, ℤ, FitsSigned, w64}
use Rattle.std.proofs.lemmas.Int.{to_z-of_z}
use Rattle.metrics_writer.specs.Doubles.{IsValueText}
use Rattle.metrics_writer.specs.Numbers.{number_text}
use Rattle.metrics_writer.proofs.Joining.{line_made}
use Rattle.metrics_writer.proofs.double_rows.append_line.Goals as goal

pub returns : goal.returns
returns c =
    let value = c.in_ok-append_value.ensures in
    let before = c.append_value.new.out.items in
    let few : FitsSigned w64 c.v.result = search rules in
    let fits : FitsSigned w64 c.t.result = search rules in
    line_made c.args.series.now c.args.sample c.args.out.now.items _ _ before _ _ value.0
    c.in_ok-extend_from_slice.ensures.items c.in_ok-push.ensures.items value.1
    (subst (λ (v : ℤ). IsValueText v value.0) (to_z-of_z w64 c.v.result few ∙ c.v.ensures) value.2)
    (c.in_ok-append_field.ensures
    ∙ ap (λ (t : ℤ). before ++ (32 ∷ number_text 3 t))
    (to_z-of_z w64 c.t.result fits ∙ c.t.ensures))
    c.in_ok-push-2.ensures.items
