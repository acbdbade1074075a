-- What a search answers of a part is sound, and of a block that it skips nothing is selected.
use Rattle.std.proofs.Common.{◌≡◌, ℕ, true, false, List, [], ◌∷◌, length, refl, sym, ◌∙◌, ap, subst}
use Rattle.std.specs.Prelude.{◌&&◌}
use Rattle.std.specs.List.{Contains}
use Rattle.std.proofs.lemmas.Bool.{lt-ltb}
use Rattle.std.proofs.lemmas.List.{length-map}
use Rattle.labels.specs.Contents.{in_range}
use Rattle.labels.specs.Parts.{Part, laid_over}
use Rattle.labels.proofs.Lists.{here, there}
use Rattle.labels.proofs.Restricting.{kept-over}
use Rattle.matchers.specs.Views.{QueryView}
use Rattle.matchers.specs.Satisfies.{satisfies_all}
use Rattle.cover.specs.declared.certificate.Interval.{Interval}
use Rattle.cover.specs.declared.certificate.Verdict.{Verdict}
use Rattle.cover.specs.declared.certificate.Verdict.TheVariants.{Match, NoSample, Rejected}
use Rattle.cover.specs.declared.part_cover.PartAnswer.{PartAnswer}
use Rattle.cover.specs.Asking.{asked}
use Rattle.cover.specs.Certificates.{Asked, FitsUnder, run_of}
use Rattle.block.specs.Blocks.{Shown, AreInside}
use Rattle.block_search.specs.Skipping.{AskedPart, is_skipped, HasNoSample}
use Rattle.block_search.specs.Answers.{IsPartAnswer, IsAnswerOf}
use Rattle.block_search.proofs.Skips.{none_outside, none_kept}
use Rattle.auditor.specs.Auditing.{names_known, all_known, IsSoundAnswer, selected_content}

-- a verdict under which a run fits names a matcher that is there, if it names one
known : (a : Asked) (verdict : Verdict) (run : List ℕ) → FitsUnder a verdict run
    → names_known a.matchers verdict ≡ true
known a Match run fits = refl
known a NoSample run fits = refl
known a (Rejected j) run fits = lt-ltb j a.matchers fits.0

each_known : (a : Asked) (certificate : List Interval)
    → ((i : Interval) → Contains certificate i → FitsUnder a i.verdict (run_of a i))
    → all_known a.matchers certificate ≡ true
each_known a [] fits = refl
each_known a (i ∷ is) fits =
    ap (λ b. b && all_known a.matchers is) (known a i.verdict (run_of a i) (fits i (here i is)))
    ∙ each_known a is (λ j h. fits j (there i j is h))

pub answer_sound : (query : QueryView) (part : Part) (answer : PartAnswer)
    → IsPartAnswer query part answer → IsSoundAnswer part query answer
answer_sound query part answer is = record {
  known = each_known (asked part query) answer.cover.certificate.items is.cover.valid.fits;
  valid = is.cover.valid;
  separated = is.cover.separated;
  as_many =
      ap length is.cover.begins ∙ length-map answer.cover.certificate.items (λ (i : Interval). i.from);
  rows = is.rows;
}

pub sound_of_asked : (query : QueryView) (p : AskedPart) (answer : PartAnswer)
    → IsAnswerOf query p answer → IsSoundAnswer p.part query answer
sound_of_asked query p answer is = answer_sound query p.part answer is.answers

pub nothing_selected : (query : QueryView) (part : Part) → HasNoSample query.from query.to part
    → selected_content part query ≡ []
nothing_selected query part none =
    kept-over (λ p. satisfies_all query.matchers p.0
    && in_range query.from query.to p.1) (part ∷ []) [] tt
    ∙ ap (λ es. laid_over es [])
    (none_kept (satisfies_all query.matchers) query.from query.to part none)

pub skipped_silent : (query : QueryView) (block : Shown) → AreInside block.range block.part
    → is_skipped query block.range ≡ true → selected_content block.part query ≡ []
skipped_silent query block inside skipped =
    nothing_selected query block.part
    (none_outside block.range query.from query.to block.part skipped inside)
