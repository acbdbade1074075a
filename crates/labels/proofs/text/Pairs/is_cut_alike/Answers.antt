use Rattle.std.proofs.Common.{◌≡◌, ◌∙◌, true, Decides, ap, sym, subst, string_bytes, arith}
use Rattle.std.proofs.lemmas.Bool.Decides.{nat_tests}
use Rattle.std.proofs.lemmas.Slice.Eq.{slice_eq-Decides}
use Rattle.std.specs.Cmp.Lexicographic.{same_text}
use Rattle.labels.specs.Places.{pairs_at}
use Rattle.labels.specs.declared.text.Place.{Place}
use Rattle.labels.specs.contracts.text.PlacePartialEq.TheImpl as place
use Rattle.labels.proofs.text.Pairs.is_cut_alike.Goals as goal

told : (a b : Place) → place.eq-value.it a b ≡ true → a ≡ b
told a b e = grind (arith, nat_tests)

itself : (a : Place) → place.eq-value.it a a ≡ true
itself a = grind (arith, nat_tests)

decided : (a b : Place) → Decides (place.eq-value.it a b) (a ≡ b)
decided a b = (told a b, λ same. subst (λ x. place.eq-value.it a x ≡ true) same (itself a))

pub returns-then-eq : goal.returns-then-eq
returns-then-eq c = λ alike.
    let texts : c.as_str.result.now ≡ c.as_str-2.result.now = same_text _ _ c.if-eq.ensures in
    let places : c.as_slice.result.now ≡ c.as_slice-then-eq.result.now =
    (slice_eq-Decides decided _ _ _ c.eq-then-eq.ensures).0 alike in
    sym c.self.view_is
    ∙ ap (λ t. pairs_at t c.self.inside.places.items) (sym c.as_str.ensures.value ∙ texts ∙ c.as_str-2.ensures.value)
    ∙ ap (λ ps. pairs_at (string_bytes c.other.inside.text) ps) (sym c.as_slice.ensures.value ∙ places ∙ c.as_slice-then-eq.ensures.value)
    ∙ c.other.view_is
