-- What the tests of a part and of an answer say together.
use Rattle.std.proofs.Common.{◌≡◌, ℕ, ◌≤◌, ◌↔◌, List, length, ◌∙◌, ap, subst, arith, IsTrue}
use Rattle.std.specs.Prelude.{nat_le}
use Rattle.std.proofs.lemmas.Bool.Decides.{nat_tests}
use Rattle.labels.specs.Rows.{Row, points_of}
use Rattle.labels.specs.Parts.{Part, IsPart}
use Rattle.matchers.specs.Views.{QueryView}
use Rattle.cover.specs.declared.part_cover.PartAnswer.{PartAnswer}
use Rattle.cover.specs.Asking.{asked}
use Rattle.cover.specs.Certificates.{AreSeparators, begins_of}
use Rattle.whole_audit.specs.Counting.{asked_points}
use Rattle.whole_audit.specs.Showing.{AreReferences, HasAllShown}
use Rattle.whole_audit.proofs.Listed.{selected_length}

pub has_all : (part : Part) (query : QueryView) (answer : PartAnswer) (series : Part)
    (looks : QueryView) (begins separators : List ℕ) (rows : List Row) (few many : ℕ)
    → IsPart part → series ≡ part → looks ≡ query
    → begins ≡ begins_of answer.cover.certificate.items
    → separators ≡ answer.cover.separators.items → rows ≡ answer.rows.items
    → AreReferences series begins → AreSeparators (asked series query) separators
    → few ≡ length (points_of rows) → many ≡ length (asked_points looks series)
    → IsTrue (nat_le few many) ↔ HasAllShown part query answer
has_all part query answer series looks begins separators rows few many is s l b p r refs seps f m =
    let refs' : AreReferences part (begins_of answer.cover.certificate.items) =
    subst (λ (q : Part). AreReferences q (begins_of answer.cover.certificate.items)) s
    (subst (AreReferences series) b refs) in
    let seps' : AreSeparators (asked part query) answer.cover.separators.items =
    subst (λ (q : Part). AreSeparators (asked q query) answer.cover.separators.items) s
    (subst (AreSeparators (asked series query)) p seps) in
    let f' : few ≡ length (points_of answer.rows.items) =
    f ∙ ap (λ (x : List Row). length (points_of x)) r in
    let m' : many ≡ length (asked_points query part) =
    m ∙ ap (λ (q : QueryView). length (asked_points q series)) l
    ∙ ap (λ (q : Part). length (asked_points query q)) s in
    let whole = selected_length part query is in (
      λ h. let le : few ≤ many = grind (arith, nat_tests) in record {
        begins = refs';
        separated = seps';
        rows = omega (arith, f', m', whole);
      },
      λ has. let le : few ≤ many = let g = has.rows in omega (arith, f', m', whole, g) in
          grind (arith, nat_tests),
    )
