use Rattle.std.proofs.Common.{chars, ap, sym, ◌∙◌, List, ℕ}
use Rattle.std.proofs.lemmas.Str.{chars-IsAscii}
use Rattle.std.specs.List.{list_any}
use Rattle.text_choices.specs.Alternatives.{fits}
use Rattle.text_choices.specs.declared.alternative.Alternative.{Alternative}
use Rattle.text_choices.proofs.Steps.{any_items}
use Rattle.text_choices.proofs.choice.Choice.accepts.Goals as goal

pub returns-then-is_ascii : goal.returns-then-is_ascii
returns-then-is_ascii c =
    let value = chars c.args.value.now in
    let bytes = c.as_bytes.ensures.value ∙ sym (chars-IsAscii c.args.value.now c.if-is_ascii.ensures.cases) in
    c.any_fits_ascii.ensures
    ∙ ap (λ (xs : List Alternative). list_any (λ one. fits one.atoms.items c.as_bytes.result.now) xs) c.deref.ensures.value
    ∙ ap (λ (cs : List ℕ). list_any (λ one. fits one.atoms.items cs) c.self.inside.alternatives.items) bytes
    ∙ any_items value c.self.inside.alternatives.items
    ∙ ap (list_any (λ atoms. fits atoms value)) c.self.view_is

pub returns-else-is_ascii : goal.returns-else-is_ascii
returns-else-is_ascii c =
    let value = chars c.args.value.now in
    c.any_fits.ensures
    ∙ ap (λ (xs : List Alternative). list_any (λ one. fits one.atoms.items value) xs) c.deref-else-is_ascii.ensures.value
    ∙ any_items value c.self.inside.alternatives.items
    ∙ ap (list_any (λ atoms. fits atoms value)) c.self.view_is
