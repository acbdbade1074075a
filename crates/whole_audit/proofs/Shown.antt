-- A part that has grown has what it had, and an answer that is right of it was right as soon as the
-- part had all that the answer shows.
use Rattle.std.proofs.Common.{◌≡◌, ℕ, suc, ◌<◌, ◌≤◌, Bool, true, false, inl, inr, List, [], ◌∷◌, ◌++◌, length, refl, sym, ◌∙◌, ap, subst, arith}
use Rattle.std.specs.Prelude.{nat_le, nat_lt, ◌&&◌}
use Rattle.std.specs.List.{filter, Contains}
use Rattle.std.proofs.lemmas.List.Elements.{filter-append}
use Rattle.labels.specs.Labels.{Labels}
use Rattle.labels.specs.Rows.{points_of, AreRows}
use Rattle.labels.specs.Contents.{Content}
use Rattle.labels.specs.Parts.{Part, references, IsPart, laid_over}
use Rattle.labels.specs.Ascending.{first_or_end}
use Rattle.labels.proofs.Lists.{here, Contains-cases, none_in_nil}
use Rattle.matchers.specs.Satisfies.{satisfies, satisfies_all}
use Rattle.matchers.specs.Views.{MatcherView, QueryView}
use Rattle.cover.specs.declared.certificate.Interval.{Interval}
use Rattle.cover.specs.declared.certificate.Verdict.{Verdict}
use Rattle.cover.specs.declared.certificate.Verdict.TheVariants.{Match, NoSample, Rejected}
use Rattle.cover.specs.declared.part_cover.PartAnswer.{PartAnswer}
use Rattle.cover.specs.Asking.{asked, labels_at, satisfies_at}
use Rattle.cover.specs.Certificates.{IsMatching, FitsUnder, references_between, run_of, next_from, AreSeparators}
use Rattle.cover.proofs.Choices.{asked_part}
use Rattle.cover.proofs.Runs.{in_run, of_run, in_between, of_between, valid_forward, map-has, of_begins, begins_rise}
use Rattle.reply_reader.proofs.Booleans.{and_both}
use Rattle.auditor.specs.Auditing.{IsCut, IsSoundAnswer, selected_content}
use Rattle.auditor.proofs.Cutting.{Chain, chain_cut, cut_chain}
use Rattle.whole_audit.specs.Growing.{GrowsTo}
use Rattle.whole_audit.specs.Showing.{HasAllShown}
use Rattle.whole_audit.proofs.Grown.{reference_stays, references_grow, labels_stay, silent_before, first_stays}
use Rattle.whole_audit.proofs.Listed.{selected_is, selected_length}
use Rattle.whole_audit.proofs.Added.{AsksTheSame, asks_no_less, asks_the_same}

-- a part of which an answer is sound has all that it shows
pub sound_has : (part : Part) (query : QueryView) (answer : PartAnswer)
    → IsSoundAnswer part query answer → HasAllShown part query answer
sound_has part query answer sound =
    let c : List Interval = answer.cover.certificate.items in
    let a = asked part query in record {
      begins = record {
        ascending = begins_rise c sound.valid.chained (valid_forward a c sound.valid);
        of_part = λ r m.
            let k : (i : Interval) × (Contains c i × (i.from ≡ r)) = of_begins c r m in
            let f : Contains (references part) k.0.from × (k.0.from ≤ k.0.from)
            × (k.0.from < k.0.until) =
            of_run a k.0 k.0.from (sound.valid.begins k.0 k.1.0) in
            subst (λ (n : ℕ). Contains (references part) n) k.1.1 f.0;
      };
      separated = sound.separated;
      rows = let e : length (points_of answer.rows.items) ≡ length (selected_content part query) =
          ap length sound.rows.points in omega arith;
    }

one_of_one : (x r s : ℕ) (run : List ℕ) → run ≡ x ∷ [] → Contains run r → Contains run s → r ≡ s
one_of_one x r s run e hr hs =
    let cr : Contains (x ∷ []) r = subst (λ (rs : List ℕ). Contains rs r) e hr in
    let cs : Contains (x ∷ []) s = subst (λ (rs : List ℕ). Contains rs s) e hs in
    elim (Contains-cases x [] r cr) [
      | inl er ↦ elim (Contains-cases x [] s cs) [
        | inl es ↦ sym er ∙ es
        | inr d ↦ absurd (none_in_nil s d)
      ]
      | inr d ↦ absurd (none_in_nil r d)
    ]

-- of one reference, what stands in front of something is all of it or nothing
first_alone : (xs more : List ℕ) (x r : ℕ) → Contains xs r → xs ++ more ≡ x ∷ [] → xs ≡ x ∷ []
first_alone [] more x r c e = absurd (none_in_nil r c)
first_alone (y ∷ []) more x r c e = let first : y ≡ x = cc in ap (λ (n : ℕ). n ∷ []) first
first_alone (y ∷ z ∷ zs) more x r c e = absurd (let f : y ∷ z ∷ (zs ++ more) ≡ x ∷ [] = e in cc)

-- a part without series where the intervals begin was one without series
none_was : (p q : Part) → GrowsTo p q → IsPart q → 4294967296 ≡ first_or_end (references q)
    → 4294967296 ≡ first_or_end (references p)
none_was [] q g is e = refl
none_was (x ∷ xs) [] g is e = absurd g
none_was (x ∷ xs) (y ∷ ys) g is e =
    absurd (let l : y.0 < 4294967296 = is.in_range y.0 (here y.0 (references ys)) in
    omega (arith, e))

module _ (p q : Part) (query : QueryView) (grows : GrowsTo p q) where
  -- what matcher j accepts of a reference of the earlier part stays
  accepts_stays : (j r : ℕ) → Contains (references p) r
      → (asked q query).accepts j r ≡ (asked p query).accepts j r
  accepts_stays j r c = ap (satisfies_at query.matchers j) (labels_stay p q r grows c)

  silent_was : (r : ℕ) → (asked q query).live r ≡ false → (asked p query).live r ≡ false
  silent_was r e = silent_before query.from query.to p q r grows e

  -- references of the earlier part that stand in a fitting run of the later one, from one to
  -- another, fit under its verdict
  was_fitting : (r s : ℕ) (v : Verdict) (run : List ℕ) → r < s → FitsUnder (asked q query) v run
      → Contains run r → Contains run s
      → ((x : ℕ) → Contains (references_between (asked p query) r s) x → Contains run x)
      → FitsUnder (asked p query) v (references_between (asked p query) r s)
  was_fitting r s Match run lt fit cr cs inside =
      absurd (let same : r ≡ s = one_of_one fit.0 r s run fit.1 cr cs in omega arith)
  was_fitting r s NoSample run lt fit cr cs inside =
      λ x c. silent_was x (fit x (inside x c))
  was_fitting r s (Rejected j) run lt fit cr cs inside = (
    fit.0,
    λ x c. sym (accepts_stays j x (of_between (asked p query) r s x c).0)
        ∙ fit.1 x (inside x c),
  )

  apart_stays : (seps : List ℕ) → AreSeparators (asked p query) seps
      → AreSeparators (asked q query) seps
  apart_stays seps sep = record {
    ascending = sep.ascending;
    of_part = λ r c. reference_stays p q r grows (sep.of_part r c);
    apart = λ r s cr cs lt run fit hr hs.
        let low : ℕ = fit.is_run.low in
        let high : ℕ = fit.is_run.high in
        let br : Contains (references q) r × (low ≤ r) × (r ≤ high) =
        of_between (asked q query) low high r
        (subst (λ (xs : List ℕ). Contains xs r) fit.is_run.is hr) in
        let bs : Contains (references q) s × (low ≤ s) × (s ≤ high) =
        of_between (asked q query) low high s
        (subst (λ (xs : List ℕ). Contains xs s) fit.is_run.is hs) in
        let inside : (x : ℕ) → Contains (references_between (asked p query) r s) x
        → Contains run x =
        λ x c. let b : Contains (references p) x × (r ≤ x) × (x ≤ s) =
        of_between (asked p query) r s x c in
        subst (λ (xs : List ℕ). Contains xs x) (sym fit.is_run.is)
        (in_between (asked q query) low high x (reference_stays p q x grows b.0)
        (omega arith) (omega arith)) in
        let pr : Contains (references p) r = sep.of_part r cr in
        let ps : Contains (references p) s = sep.of_part s cs in
        sep.apart r s cr cs lt (references_between (asked p query) r s) (record {
          is_run = record {
            low = r;
            high = s;
            has_low = pr;
            has_high = ps;
            ordered = omega arith;
            is = refl;
          };
          verdict = fit.verdict;
          fits = was_fitting r s fit.verdict run lt fit.fits hr hs inside;
        }) (in_between (asked p query) r s r pr (omega arith) (omega arith))
        (in_between (asked p query) r s s ps (omega arith) (omega arith));
  }

  -- what a part has, it has when it has grown
  pub has_later : IsPart p → IsPart q → (answer : PartAnswer) → HasAllShown p query answer
      → HasAllShown q query answer
  has_later is_p is_q answer has = record {
    begins = record {
      ascending = has.begins.ascending;
      of_part = λ r c. reference_stays p q r grows (has.begins.of_part r c);
    };
    separated = apart_stays answer.cover.separators.items has.separated;
    rows =
        let few = has.rows in
        let more = asks_no_less query p q grows in
        omega (arith, few, more, selected_length p query is_p, selected_length q query is_q);
  }

  -- the run of an interval is what it was, and more
  run_grows : (i : Interval)
      → (more : List ℕ) × (run_of (asked q query) i ≡ run_of (asked p query) i ++ more)
  run_grows i =
      let k : (more : List ℕ) × (references q ≡ references p ++ more) = references_grow p q grows in
      let test : ℕ → Bool = λ r. nat_le i.from r && nat_lt r i.until in (
        filter test k.0,
        ap (filter test) k.1 ∙ filter-append test (references p) k.0,
      )

  run_was : (i : Interval) (r : ℕ) → Contains (run_of (asked p query) i) r
      → Contains (run_of (asked q query) i) r
  run_was i r c =
      let k : Contains (references p) r × (i.from ≤ r) × (r < i.until) =
      of_run (asked p query) i r c in
      in_run (asked q query) i r (reference_stays p q r grows k.0) k.1 k.2

  -- all matchers accept a label set
  each_satisfied : (ms : List MatcherView) (labels : Labels)
      → ((j : ℕ) → j < length ms → satisfies_at ms j labels ≡ true)
      → satisfies_all ms labels ≡ true
  each_satisfied [] labels h = refl
  each_satisfied (m ∷ ms) labels h =
      and_both (satisfies m labels) (satisfies_all ms labels) (h 0 (omega arith))
      (each_satisfied ms labels (λ j l. h (suc j) (omega (arith, l))))

  -- what matches did so, where nothing was added that is asked for
  matching_was : AsksTheSame query p q → (r : ℕ) → Contains (references p) r
      → IsMatching (asked q query) r → IsMatching (asked p query) r
  matching_was same r c h =
      let accepted : (j : ℕ) → j < length query.matchers → (asked p query).accepts j r ≡ true =
      λ j l. sym (accepts_stays j r c) ∙ h.0 j l in (
        accepted,
        same.live r c (each_satisfied query.matchers (labels_at p r) accepted) h.1,
      )

  fit_was : AsksTheSame query p q → (i : Interval) (v : Verdict) → Contains (references p) i.from
      → i.from < i.until → FitsUnder (asked q query) v (run_of (asked q query) i)
      → FitsUnder (asked p query) v (run_of (asked p query) i)
  fit_was same i Match c lt fit =
      let k : (more : List ℕ) × (run_of (asked q query) i ≡ run_of (asked p query) i ++ more) =
      run_grows i in
      let is : run_of (asked p query) i ≡ fit.0 ∷ [] =
      first_alone (run_of (asked p query) i) k.0 fit.0 i.from
      (in_run (asked p query) i i.from c (omega arith) lt) (sym k.1 ∙ fit.1) in
      let inside : Contains (references p) fit.0 =
      (of_run (asked p query) i fit.0
      (subst (λ (xs : List ℕ). Contains xs fit.0) (sym is) (here fit.0 []))).0 in
      (fit.0, is, matching_was same fit.0 inside fit.2)
  fit_was same i NoSample c lt fit = λ r m. silent_was r (fit r (run_was i r m))
  fit_was same i (Rejected j) c lt fit = (
    fit.0,
    λ r m. sym (accepts_stays j r (of_run (asked p query) i r m).0) ∙ fit.1 r (run_was i r m),
  )

  -- the first interval begins where the earlier part does
  first_was : IsPart q → (c : List Interval)
      → ((i : Interval) → Contains c i → Contains (references p) i.from)
      → next_from c ≡ first_or_end (references q) → next_from c ≡ first_or_end (references p)
  first_was is_q [] has e = none_was p q grows is_q e
  first_was is_q (i ∷ is) has e = e ∙ sym (first_stays p q i.from grows (has i (here i is)))

  -- an answer that is sound of what a part has grown to is sound of the part, if that has all that
  -- the answer shows
  pub sound_was : IsPart p → IsPart q → (answer : PartAnswer) → HasAllShown p query answer
      → IsSoundAnswer q query answer → IsSoundAnswer p query answer
  sound_was is_p is_q answer has sound =
      let c : List Interval = answer.cover.certificate.items in
      let chain : Chain c (references q) =
      cut_chain (asked q query) c (asked_part q query is_q) (record {
        partition = sound.valid.partition;
        begins = sound.valid.begins;
        chained = sound.valid.chained;
      }) in
      let begins : (i : Interval) → Contains c i → Contains (references p) i.from =
      λ i m. has.begins.of_part i.from (map-has (λ (k : Interval). k.from) c i m) in
      let cut : IsCut (asked p query) c =
      chain_cut (asked p query) c (asked_part p query is_p) (record {
        chained = chain.chained;
        members = λ i m. (begins i m, (chain.members i m).1);
        first = first_was is_q c begins chain.first;
      }) in
      let listed : length (points_of answer.rows.items) ≡ length (selected_content q query) =
      ap length sound.rows.points in
      let few = has.rows in
      let same : AsksTheSame query p q =
      asks_the_same query p q grows
      (omega (arith, listed, few, selected_length p query is_p, selected_length q query is_q)) in
      let content : selected_content q query ≡ selected_content p query =
      selected_is q query
      ∙ ap (λ (es : Content). laid_over es []) same.points
      ∙ sym (selected_is p query) in
      record {
        known = sound.known;
        valid = record {
          partition = cut.partition;
          begins = cut.begins;
          chained = cut.chained;
          fits = λ i m. fit_was same i i.verdict (begins i m) (chain.members i m).1
              (sound.valid.fits i m);
        };
        separated = has.separated;
        as_many = sound.as_many;
        rows = subst (AreRows answer.rows.items) content sound.rows;
      }
