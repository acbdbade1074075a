-- An answer that is sound of a part is explained by each part with the same samples.
use Rattle.std.proofs.Common.{◌≡◌, ℕ, ◌<◌, ◌≤◌, ℤ, Bool, true, false, cond, not, ◌&&◌, inl, inr, List, [], ◌∷◌, ◌++◌, Option, None, Some, length, refl, sym, ◌∙◌, ap, subst, arith}
use Rattle.std.specs.Prelude.{nat_le, nat_lt, ◌==◌}
use Rattle.std.specs.List.{take_while, list_all, Contains, AllZip}
use Rattle.std.specs.List.Sorted.{IsStrictlyIncreasing}
use Rattle.std.proofs.lemmas.Bool.Decides.{nat_tests}
use Rattle.std.proofs.lemmas.List.{take-append-drop}
use Rattle.std.proofs.lemmas.List.Elements.{filter-append}
use Rattle.labels.specs.Contents.{Content}
use Rattle.labels.specs.Rows.{Row, points_in, AreRows}
use Rattle.labels.specs.Parts.{Part, references, has_sample, IsPart, rows_in, laid_over}
use Rattle.labels.specs.Ascending.{first_or_end}
use Rattle.labels.proofs.Lists.{here, there, Contains-cases, rising-tail, rising-head, below_or_not, filter-from, first-least}
use Rattle.labels.proofs.Times.{true_not_false}
use Rattle.matchers.specs.Satisfies.{satisfies_all}
use Rattle.matchers.specs.Views.{QueryView}
use Rattle.cover.specs.declared.certificate.Interval.{Interval}
use Rattle.cover.specs.declared.certificate.Verdict.{Verdict}
use Rattle.cover.specs.declared.certificate.Verdict.TheVariants.{Match, NoSample, Rejected}
use Rattle.cover.specs.declared.part_cover.PartAnswer.{PartAnswer}
use Rattle.cover.specs.Asking.{asked, satisfies_at}
use Rattle.cover.specs.Certificates.{Asked, IsAsked, FitsUnder, IsFittingRun, run_of, next_from, IsChained, is_match}
use Rattle.cover.proofs.Choices.{asked_part}
use Rattle.cover.proofs.Runs.{in_run, AllForward, valid_forward, interval_run}
use Rattle.reply_reader.proofs.Booleans.{and_left, and_right, and_both, either}
use Rattle.auditor.specs.Auditing.{AllFit, IsFirstMisfit, IsSoundAnswer, selected_content}
use Rattle.auditor.specs.Looking.{fits, cuts, first_misfit, first_reference, rows_below, rows_from}
use Rattle.auditor.proofs.Cutting.{Chain, cut_chain, chain_cuts}
use Rattle.auditor.proofs.Fitting.{tail_whole, some_misfit}
use Rattle.auditor.proofs.Splitting.{take-below, drop-below, rises_from, references-filter}
use Rattle.whole_audit.specs.Counting.{asked_of, asked_points}
use Rattle.whole_audit.specs.Explaining.{is_sampled, sampled, TakeInTurn, LiesIn, IsExplained}
use Rattle.whole_audit.specs.Taking.{fits_alone, after_taking, are_taken_from}
use Rattle.whole_audit.proofs.Added.{Entry}
use Rattle.whole_audit.proofs.Listed.{selected_is}
use Rattle.whole_audit.proofs.Taken.{turn_of, of_turn}

-- SEPARATORS LIE EACH IN ITS OWN INTERVAL

-- separators among these intervals: ascending references, from where the intervals begin on, of
-- which no fitting run has two
record AreAmong (a : Asked) (c : List Interval) (ss : List ℕ) : Type 0 where
  pub ascending : IsStrictlyIncreasing ss
  pub of_part : (r : ℕ) → Contains ss r → Contains a.references r
  pub from : (r : ℕ) → Contains ss r → next_from c ≤ r
  pub apart : (r s : ℕ) → Contains ss r → Contains ss s → r < s → (run : List ℕ)
      → IsFittingRun a run → Contains run r → Contains run s → ⊥

-- intervals that go on, each with a fitting run
record AreRuns (a : Asked) (c : List Interval) : Type 0 where
  pub chained : IsChained c
  pub ahead : AllForward c
  pub members : (i : Interval) → Contains c i → Contains a.references i.from
  pub fits : (i : Interval) → Contains c i → FitsUnder a i.verdict (run_of a i)

later_runs : (a : Asked) (i : Interval) (is : List Interval) → AreRuns a (i ∷ is) → AreRuns a is
later_runs a i is r = record {
  chained = r.chained.1;
  ahead = λ k m. r.ahead k (there i k is m);
  members = λ k m. r.members k (there i k is m);
  fits = λ k m. r.fits k (there i k is m);
}

fitting : (a : Asked) (i : Interval) (is : List Interval) → IsAsked a → AreRuns a (i ∷ is)
    → IsFittingRun a (run_of a i)
fitting a i is part r = record {
  is_run = interval_run a i part (r.members i (here i is)) (r.ahead i (here i is));
  verdict = i.verdict;
  fits = r.fits i (here i is);
}

-- what is past the first interval is among the others
past_first : (a : Asked) (i : Interval) (is : List Interval) (ss : List ℕ) → AreRuns a (i ∷ is)
    → AreAmong a (i ∷ is) ss → ((r : ℕ) → Contains ss r → i.until ≤ r) → AreAmong a is ss
past_first a i is ss r among past = record {
  ascending = among.ascending;
  of_part = among.of_part;
  from = λ s c. let l : i.until ≤ s = past s c in omega (arith, r.chained.0);
  apart = among.apart;
}

rest_among : (a : Asked) (c : List Interval) (s : ℕ) (ss : List ℕ) → AreAmong a c (s ∷ ss)
    → AreAmong a c ss
rest_among a c s ss among = record {
  ascending = rising-tail s ss among.ascending;
  of_part = λ r m. among.of_part r (there s r ss m);
  from = λ r m. among.from r (there s r ss m);
  apart = λ r t mr mt. among.apart r t (there s r ss mr) (there s t ss mt);
}

-- those behind a separator in the first interval are past it
behind_past : (a : Asked) (i : Interval) (is : List Interval) (s : ℕ) (ss : List ℕ) → IsAsked a
    → AreRuns a (i ∷ is) → AreAmong a (i ∷ is) (s ∷ ss) → s < i.until
    → (r : ℕ) → Contains ss r → i.until ≤ r
behind_past a i is s ss part runs among inside r m = elim (below_or_not r i.until) [
  | inl lt ↦
      let low : i.from ≤ s = among.from s (here s ss) in
      let up : s < r = rising-head s ss among.ascending r m in
      absurd (among.apart s r (here s ss) (there s r ss m) up (run_of a i) (fitting a i is part runs)
      (in_run a i s (among.of_part s (here s ss)) low inside)
      (in_run a i r (among.of_part r (there s r ss m)) (omega arith) lt))
  | inr le ↦ le
]

-- all of them are past the first interval, if the first of them is
all_past : (s : ℕ) (ss : List ℕ) (bound : ℕ) → IsStrictlyIncreasing (s ∷ ss) → bound ≤ s
    → (r : ℕ) → Contains (s ∷ ss) r → bound ≤ r
all_past s ss bound up le r m = elim (Contains-cases s ss r m) [
  | inl e ↦ omega arith
  | inr d ↦ let l : s < r = rising-head s ss up r d in omega arith
]

-- there are no more separators than intervals
no_more : (a : Asked) (c : List Interval) (ss : List ℕ) → IsAsked a → AreRuns a c
    → AreAmong a c ss → length ss ≤ length c
no_more a [] [] part runs among = omega arith
no_more a [] (s ∷ ss) part runs among =
    absurd (let low : 4294967296 ≤ s = among.from s (here s ss) in
    let high : s < 4294967296 = part.in_range s (among.of_part s (here s ss)) in omega arith)
no_more a (i ∷ is) [] part runs among = omega arith
no_more a (i ∷ is) (s ∷ ss) part runs among = elim (below_or_not s i.until) [
  | inl lt ↦
      let l = no_more a is ss part (later_runs a i is runs)
      (past_first a i is ss runs (rest_among a (i ∷ is) s ss among)
      (behind_past a i is s ss part runs among lt)) in
      omega (arith, l)
  | inr le ↦
      let l = no_more a is (s ∷ ss) part (later_runs a i is runs)
      (past_first a i is (s ∷ ss) runs among (all_past s ss i.until among.ascending le)) in
      omega (arith, l)
]

each_own : (a : Asked) (c : List Interval) (ss : List ℕ) → IsAsked a → AreRuns a c
    → AreAmong a c ss → length ss ≡ length c → AllZip LiesIn ss c
each_own a [] [] part runs among e = tt
each_own a [] (s ∷ ss) part runs among e = cc
each_own a (i ∷ is) [] part runs among e = cc
each_own a (i ∷ is) (s ∷ ss) part runs among e = elim (below_or_not s i.until) [
  | inl lt ↦
      let same : length ss ≡ length is = omega (arith, e) in (
        (among.from s (here s ss), lt),
        each_own a is ss part (later_runs a i is runs)
            (past_first a i is ss runs (rest_among a (i ∷ is) s ss among)
            (behind_past a i is s ss part runs among lt)) same,
      )
  | inr le ↦
      absurd (let l = no_more a is (s ∷ ss) part (later_runs a i is runs)
      (past_first a i is (s ∷ ss) runs among (all_past s ss i.until among.ascending le)) in
      omega (arith, l, e))
]

-- SERIES ARE TAKEN IN TURN

abbrev AreSmall : Part → Type 0
AreSmall rows = (r : ℕ) → Contains (references rows) r → r < 4294967296

small_rest : (bound : ℕ) (rows : Part) → AreSmall rows → AreSmall (rows_from bound rows)
small_rest bound rows small r c =
    small r (filter-from (λ r. nat_le bound r) (references rows) r
    (subst (λ (rs : List ℕ). Contains rs r) (references-filter (λ r. nat_le bound r) rows) c)).0

split_rows : (bound : ℕ) (rows : Part) → IsStrictlyIncreasing (references rows)
    → rows ≡ rows_below bound rows ++ rows_from bound rows
split_rows bound rows up =
    let n : ℕ = length (take_while (λ (row : Entry). nat_lt row.0 bound) rows) in
    sym (take-append-drop n rows)
    ∙ (λ i. take-below bound rows up i ++ drop-below bound rows up i)

none_left : (rows : Part) → AreSmall rows → (first_reference rows == 4294967296) ≡ true → rows ≡ []
none_left [] small e = refl
none_left (x ∷ xs) small e =
    absurd (let l : x.0 < 4294967296 = small x.0 (here x.0 (references xs)) in
    let f : x.0 ≡ 4294967296 = grind (arith, nat_tests) in omega arith)

module _ (query : QueryView) where
  -- the runs that intervals cut the series into are taken in turn
  cut_turn : (c : List Interval) (rows : Part) → IsStrictlyIncreasing (references rows)
      → AreSmall rows → cuts c rows ≡ true → first_misfit query c rows ≡ None
      → TakeInTurn query c rows
  cut_turn [] rows up small cut none = none_left rows small cut
  cut_turn (i ∷ is) rows up small cut none =
      let rest : Part = rows_from i.until rows in
      let run : Part = rows_below i.until rows in
      elim (either (fits query i.verdict run)) [
        | inl fit ↦ (
          run,
          rest,
          split_rows i.until rows up,
          fit,
          cut_turn is rest (rises_from i.until rows up) (small_rest i.until rows small)
              (and_right ((i.from == first_reference rows) && nat_lt i.from i.until
              && (i.until == first_reference rest)) (cuts is rest) cut)
              (sym (ap (λ b. cond b (first_misfit query is rest) (Some i.verdict)) fit) ∙ none),
        )
        | inr misfit ↦
            absurd (let f : Some i.verdict ≡ None =
            sym (ap (λ b. cond b (first_misfit query is rest) (Some i.verdict)) misfit) ∙ none in
            cc)
      ]

  all_filter : (p : Entry → Bool) (rows : Part) → list_all p rows ≡ true
      → list_all p (sampled rows) ≡ true
  all_filter p [] h = refl
  all_filter p (x ∷ xs) h =
      let rest : list_all p (sampled xs) ≡ true =
      all_filter p xs (and_right (p x) (list_all p xs) h) in
      elim (is_sampled x) as (λ b. list_all p (cond b (x ∷ sampled xs) (sampled xs)) ≡ true) [
        | true ↦ and_both (p x) (list_all p (sampled xs)) (and_left (p x) (list_all p xs) h) rest
        | false ↦ rest
      ]

  some_there : (ss : List (ℤ × ℤ)) → has_sample query.from query.to ss ≡ true
      → not (length ss == 0) ≡ true
  some_there [] h = absurd (true_not_false (sym h))
  some_there (s ∷ ss) h =
      let none : (length (s ∷ ss) == 0) ≡ false = grind (arith, nat_tests) in ap not none

  fits_sampled : (v : Verdict) (rows : Part) → fits query v rows ≡ true
      → fits query v (sampled rows) ≡ true
  fits_sampled Match [] h = h
  fits_sampled Match (x ∷ []) h =
      let there_is : is_sampled x ≡ true =
      some_there x.1.1 (and_right (satisfies_all query.matchers x.1.0)
      (has_sample query.from query.to x.1.1) h) in
      ap (λ (b : Bool). fits query Match (cond b (x ∷ []) [])) there_is ∙ h
  fits_sampled Match (x ∷ y ∷ ys) h = absurd (true_not_false (sym h))
  fits_sampled NoSample rows h =
      all_filter (λ (row : Entry). not (has_sample query.from query.to row.1.1)) rows h
  fits_sampled (Rejected j) rows h =
      all_filter (λ (row : Entry). not (satisfies_at query.matchers j row.1.0)) rows h

  sampled_turn : (c : List Interval) (rows : Part) → TakeInTurn query c rows
      → TakeInTurn query c (sampled rows)
  sampled_turn [] rows h = ap sampled h
  sampled_turn (i ∷ is) rows h = (
    sampled h.0,
    sampled h.1,
    ap sampled h.2 ∙ filter-append is_sampled h.0 h.1,
    fits_sampled i.verdict h.0 h.3,
    sampled_turn is h.1 h.4,
  )

  -- what is taken does not depend on references
  same_fits : (v : Verdict) (x y : Entry) → x.1 ≡ y.1
      → fits_alone query v x ≡ fits_alone query v y
  same_fits Match x y e =
      ap (λ (r : Row). satisfies_all query.matchers r.0 && has_sample query.from query.to r.1) e
  same_fits NoSample x y e = ap (λ (r : Row). not (has_sample query.from query.to r.1)) e
  same_fits (Rejected j) x y e = ap (λ (r : Row). not (satisfies_at query.matchers j r.0)) e

  same_after : (c : List Interval) (x y : Entry) → x.1 ≡ y.1
      → after_taking query x c ≡ after_taking query y c
  same_after [] x y e = refl
  same_after (i ∷ is) x y e =
      λ k. cond (same_fits i.verdict x y e k) (Some (cond (is_match i.verdict) is (i ∷ is)))
      (cond (is_match i.verdict) None (same_after is x y e k))

  first_row : (x y : Entry) (xs ys : Part) → rows_in (x ∷ xs) ≡ rows_in (y ∷ ys) → x.1 ≡ y.1
  first_row x y xs ys e = let f : x.1 ∷ rows_in xs ≡ y.1 ∷ rows_in ys = e in cc

  rest_rows : (x y : Entry) (xs ys : Part) → rows_in (x ∷ xs) ≡ rows_in (y ∷ ys)
      → rows_in xs ≡ rows_in ys
  rest_rows x y xs ys e = let f : x.1 ∷ rows_in xs ≡ y.1 ∷ rows_in ys = e in cc

  same_taken : (xs ys : Part) (o : Option (List Interval)) → rows_in xs ≡ rows_in ys
      → are_taken_from query o xs ≡ are_taken_from query o ys
  same_taken xs ys None e = refl
  same_taken [] [] (Some c) e = refl
  same_taken [] (y ∷ ys) (Some c) e = absurd (let f : [] ≡ y.1 ∷ rows_in ys = e in cc)
  same_taken (x ∷ xs) [] (Some c) e = absurd (let f : x.1 ∷ rows_in xs ≡ [] = e in cc)
  same_taken (x ∷ xs) (y ∷ ys) (Some c) e =
      ap (λ (o : Option (List Interval)). are_taken_from query o xs)
      (same_after c x y (first_row x y xs ys e))
      ∙ same_taken xs ys (after_taking query y c) (rest_rows x y xs ys e)

  -- nor does what is selected, and series without samples have nothing to select
  same_asked : (xs ys : Part) → rows_in xs ≡ rows_in ys
      → asked_points query xs ≡ asked_points query ys
  same_asked [] [] e = refl
  same_asked [] (y ∷ ys) e = absurd (let f : [] ≡ y.1 ∷ rows_in ys = e in cc)
  same_asked (x ∷ xs) [] e = absurd (let f : x.1 ∷ rows_in xs ≡ [] = e in cc)
  same_asked (x ∷ xs) (y ∷ ys) e =
      let first : x.1 ≡ y.1 = first_row x y xs ys e in
      let rest = same_asked xs ys (rest_rows x y xs ys e) in
      λ k. points_in (first k).0 (asked_of query (first k).0 (first k).1) ++ rest k

  asked_sampled : (xs : Part) → asked_points query (sampled xs) ≡ asked_points query xs
  asked_sampled [] = refl
  asked_sampled (x ∷ xs) = go x.1.1 refl (asked_sampled xs)
    where
      go : (ss : List (ℤ × ℤ)) → x.1.1 ≡ ss
          → asked_points query (sampled xs) ≡ asked_points query xs
          → asked_points query (sampled (x ∷ xs)) ≡ asked_points query (x ∷ xs)
      go [] e ih =
          let none : is_sampled x ≡ false = ap (λ (ss : List (ℤ × ℤ)). not (length ss == 0)) e in
          ap (λ (b : Bool). asked_points query (cond b (x ∷ sampled xs) (sampled xs))) none
          ∙ ih
          ∙ sym (ap (λ (ss : List (ℤ × ℤ)).
          points_in x.1.0 (asked_of query x.1.0 ss) ++ asked_points query xs) e)
      go (s ∷ ss) e ih =
          let here_is : (length (s ∷ ss) == 0) ≡ false = grind (arith, nat_tests) in
          let some : is_sampled x ≡ true =
          ap (λ (ss : List (ℤ × ℤ)). not (length ss == 0)) e ∙ ap not here_is in
          ap (λ (b : Bool). asked_points query (cond b (x ∷ sampled xs) (sampled xs))) some
          ∙ ap (λ (c : Content). points_in x.1.0 (asked_of query x.1.0 x.1.1) ++ c) ih

  same_selected : (part answered : Part) → rows_in (sampled part) ≡ rows_in (sampled answered)
      → selected_content answered query ≡ selected_content part query
  same_selected part answered e =
      selected_is answered query
      ∙ ap (λ (es : Content). laid_over es [])
      (sym (asked_sampled answered) ∙ sym (same_asked (sampled part) (sampled answered) e)
      ∙ asked_sampled part)
      ∙ sym (selected_is part query)

misfits_not : (a : Asked) (c : List Interval) (v : Verdict) → IsFirstMisfit a c v → AllFit a c → ⊥
misfits_not a [] v h fit = h
misfits_not a (i ∷ is) v h fit = elim h [
  | inl first ↦ first.0 (fit i (here i is))
  | inr later ↦ misfits_not a is v later.1 (λ k m. fit k (there i k is m))
]

pub explained_anew : (part answered : Part) (query : QueryView) (answer : PartAnswer)
    → IsPart answered → rows_in (sampled part) ≡ rows_in (sampled answered)
    → IsSoundAnswer answered query answer → IsExplained part query answer
explained_anew part answered query answer is same sound =
    let c : List Interval = answer.cover.certificate.items in
    let a : Asked = asked answered query in
    let asks_it : IsAsked a = asked_part answered query is in
    let ahead : AllForward c = valid_forward a c sound.valid in
    let chain : Chain c (references answered) = cut_chain a c asks_it (record {
      partition = sound.valid.partition;
      begins = sound.valid.begins;
      chained = sound.valid.chained;
    }) in
    let none : first_misfit query c answered ≡ None =
    no_misfit (first_misfit query c answered) refl in
    let turn : TakeInTurn query c (sampled answered) =
    sampled_turn query c answered (cut_turn query c answered is.ascending is.in_range
    (chain_cuts c answered is.ascending is.in_range chain) none) in
    record {
      known = sound.known;
      chained = sound.valid.chained;
      separated = each_own a c answer.cover.separators.items asks_it (record {
        chained = sound.valid.chained;
        ahead = ahead;
        members = λ i m. (chain.members i m).0;
        fits = sound.valid.fits;
      }) (record {
        ascending = sound.separated.ascending;
        of_part = sound.separated.of_part;
        from = λ r m.
            let l : first_or_end (references answered) ≤ r =
            first-least (references answered) r is.ascending (sound.separated.of_part r m) in
            let e : next_from c ≡ first_or_end (references answered) = chain.first in
            omega (arith, l, e);
        apart = sound.separated.apart;
      }) sound.as_many;
      taken = turn_of query (sampled part) c
          (same_taken query (sampled part) (sampled answered) (Some c) same
          ∙ of_turn query (sampled answered) c sound.known turn);
      rows = subst (AreRows answer.rows.items) (same_selected query part answered same) sound.rows;
    }
  where
    no_misfit : (o : Option Verdict)
        → first_misfit query answer.cover.certificate.items answered ≡ o → o ≡ None
    no_misfit None e = refl
    no_misfit (Some v) e =
        let c : List Interval = answer.cover.certificate.items in
        let a : Asked = asked answered query in
        let chain : Chain c (references answered) =
        cut_chain a c (asked_part answered query is) (record {
          partition = sound.valid.partition;
          begins = sound.valid.begins;
          chained = sound.valid.chained;
        }) in
        absurd (misfits_not a c v
        (some_misfit answered query is.ascending c answered v
        (tail_whole answered c is.ascending sound.valid.chained (valid_forward a c sound.valid)
        chain.first) sound.known e) sound.valid.fits)
