-- What was found and what was refused leave one answer, that of reading.
use Rattle.std.proofs.Common.{◌≡◌, ℕ, suc, ◌<◌, ◌≤◌, List, [], ◌∷◌, length}
use Rattle.std.proofs.Common.{get_or, Result, Ok, Err, refl, sym, ap, subst, ◌∙◌, inl, inr, arith}
use Rattle.std.specs.Prelude.{IfOk, IfErr}
use Rattle.std.specs.List.{AllByRecursion}
use Rattle.std.proofs.lemmas.List.{length-map}
use Rattle.wire.specs.Spelling.{IsBytes}
use Rattle.wire.proofs.Steps.{bind_ok}
use Rattle.index_reader.specs.declared.error.IndexError.{IndexError}
use Rattle.index_reader.specs.declared.error.IndexError.TheVariants.{Memory}
use Rattle.index_reader.specs.Outcome.{Gives, Fails}
use Rattle.index_reader.specs.Layout.{SeriesEntry, Body, postings_end}
use Rattle.index_reader.specs.Reading.Whole.{read_of, indexed, indexed_of}
use Rattle.index_reader.specs.Indexes.{Series, Indexed, references, named_label, series_of}
use Rattle.index_reader.specs.Spelled.{pairs_of, lists_for, IsIndex}
use Rattle.index_reader.specs.Stated.{Stated, Agrees, AreFew}
use Rattle.index_reader.specs.Checks.{Check, Holds, FirstFailing, HasSymbols, HasBodies, HasTable}
use Rattle.index_reader.specs.Checks.{HasLists, States, checks, IsRefused}
use Rattle.index_reader.proofs.Walks.{ok_is}
use Rattle.index_reader.proofs.Whole.{parts_take}
use Rattle.index_reader.proofs.Facts.{chain}
use Rattle.index_reader.proofs.Found.{is_index}
use Rattle.index_reader.proofs.Again.{small_from, small_lists, index_again}
use Rattle.index_reader.proofs.HeadFirst.{four_of}
use Rattle.index_reader.proofs.LastChecks.{frames_in, first_failing, read_refused}

-- ---- an index passes all checks

few_in : (symbols : List (List ℕ)) (ps : List SeriesEntry) (bs : List Body)
    → ((k : ℕ) (d : Body) → k < length bs → length (get_or bs k d).labels ≤ 64)
    → AllByRecursion (λ (s : Series). length s.labels ≤ 64) (series_of symbols ps bs)
unfolding series_of
few_in symbols [] bs h = tt
few_in symbols (p ∷ ps) [] h = tt
few_in symbols (p ∷ ps) (b ∷ bs) h = (
  omega (arith, h 0 b (omega arith), length-map b.labels (named_label symbols)),
  few_in symbols ps bs (λ k d lt. h (suc k) d (omega arith)),
)

module _ (file : List ℕ) (x : Indexed) (i : IsIndex file x) where
  framed : HasSymbols file i.layout.symbols.0
  framed = record {
    start = i.layout.start;
    t = i.parts.contents;
    contents = i.layout.contents;
    placed = i.layout.placed;
    stands = i.layout.symbols.1;
  }

  bodied : HasBodies file i.parts x.series
  bodied = record {
    layout = i.layout;
    bodies = i.bodies;
    spelled = i.spelled;
    gaps = i.gaps;
    series_are = i.series;
  }

  tabled : HasTable file i.parts i.table
  tabled = record { layout = i.layout; tabled = i.tabled }

  abbrev all : List (List ℕ)
  all = references x.series ∷ lists_for x.pairs x.series

  listed : HasLists file i.parts i.table all
  listed =
      let small =
      small_from (references x.series) (λ k lt. i.consistent.small k
      (omega (arith, lt, length-map x.series (λ (s : Series). s.reference)))) in
      record {
        table_is = tabled;
        stand = i.sections;
        small = (small, small_lists x.pairs x.series small);
      }

  abbrev stated : Stated
  stated = record { series = x.series; pairs = pairs_of i.table; lists = all }

  states : States file stated
  states = record {
    parts = i.parts;
    bodies_are = bodied;
    table = i.table;
    pairs_are = refl;
    lists_are = listed;
  }

  agrees : Agrees stated
  agrees = record {
    others = x.pairs;
    pairs = i.listed;
    lists = refl;
    carried = i.consistent.carried;
    listed = i.consistent.listed;
  }

  few : AreFew x.series
  few =
      let few_labels : AllByRecursion (λ (y : Series). length y.labels ≤ 64) x.series =
      subst (λ (ss : List Series). AllByRecursion (λ (y : Series). length y.labels ≤ 64) ss)
      (sym i.series) (few_in i.parts.symbols i.parts.entries i.bodies i.few_labels) in
      record { few = i.consistent.few; few_labels = few_labels }

  holds : (c : Check) → Holds c file
  holds Check.file_size = i.layout.placed.short
  holds Check.head_room = i.layout.placed.long
  holds Check.magic = four_of file i.layout.start
  holds Check.version = i.layout.start
  holds Check.contents_sum = (i.parts.contents, i.layout.contents)
  holds Check.contents_order = (i.parts.contents, i.layout.contents, i.layout.placed)
  holds Check.symbols_frame = (i.layout.symbols.0, framed)
  holds Check.symbols = (i.layout.symbols.0, i.parts.symbols, framed, i.layout.symbols.2)
  holds Check.entries = (i.parts, i.layout)
  holds Check.bodies = (i.parts, x.series, bodied)
  holds Check.series_order = (i.parts, x.series, bodied, i.consistent.in_order)
  holds Check.offset_table = (i.parts, i.table, tabled)
  holds Check.list_frames = (
    i.parts,
    i.table,
    tabled,
    frames_in file (postings_end i.parts.contents) i.table all i.sections,
  )
  holds Check.lists = (i.parts, i.table, all, listed)
  holds Check.agreement = (stated, states, agrees)
  holds Check.counts = (stated, states, few)

  none_fails : (cs : List Check) (e : IndexError) → FirstFailing cs file e → ⊥
  none_fails [] e f = f
  none_fails (c ∷ cs) e (inl a) = a.0 (holds c)
  none_fails (c ∷ cs) e (inr a) = none_fails cs e a.1

-- ---- no two refusals

one_refusal : (cs : List Check) (file : List ℕ) (d e : IndexError) → FirstFailing cs file d
    → FirstFailing cs file e → d ≡ e
one_refusal [] file d e a b = absurd a
one_refusal (c ∷ cs) file d e (inl a) (inl b) = a.1 ∙ sym b.1
one_refusal (c ∷ cs) file d e (inl a) (inr b) = absurd (a.0 b.0)
one_refusal (c ∷ cs) file d e (inr a) (inl b) = absurd (b.0 a.0)
one_refusal (c ∷ cs) file d e (inr a) (inr b) = one_refusal cs file d e a.1 b.1

index_found : (file : List ℕ) (x : Indexed) → IsBytes file → indexed_of file ≡ Ok x
    → IsIndex file x
unfolding indexed_of
index_found file x fits h =
    let r = bind_ok (read_of file) _ x h in
    let c = chain file r.0 r.1 in
    subst (IsIndex file) (ok_is (indexed r.0) x r.2)
    (is_index file r.0 fits (parts_take file r.0.parts fits c.parts) r.1)

refused_so : (file : List ℕ) (e : IndexError) → IsBytes file → FirstFailing checks file e
    → indexed_of file ≡ Err e
refused_so file e fits f = go (indexed_of file) refl
  where
    go : (r : Result Indexed IndexError) → indexed_of file ≡ r → indexed_of file ≡ Err e
    go (Ok x) h = absurd (none_fails file x (index_found file x fits h) checks e f)
    go (Err d) h =
        let first = first_failing file d fits (read_refused file d h) in
        h ∙ ap (λ (c : IndexError). Err c) (one_refusal checks file d e first f)

fails_so : (file : List ℕ) (e : IndexError) → IsBytes file → IsRefused file e
    → Fails e (indexed_of file)
fails_so file Memory fits h = tt
fails_so file e fits h = refused_so file e fits h

-- what opening an index says is what reading gives
pub given : (file : List ℕ) (r : Result Indexed IndexError) → IsBytes file
    → IfOk r (IsIndex file) → IfErr r (IsRefused file)
    → Gives (λ (x : Indexed). x) r (indexed_of file)
given file (Ok x) fits found refused = index_again file x fits found
given file (Err e) fits found refused = fails_so file e fits refused
