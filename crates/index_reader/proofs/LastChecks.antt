-- The first check of an index that fails.
use Rattle.std.proofs.Common.{◌≡◌, ℕ, zero, suc, ◌+◌, ◌<◌, ◌≤◌, ◌^◌, Bool, true, false, ◌&&◌, cond}
use Rattle.std.proofs.Common.{List, [], ◌∷◌, length, get_or, Result, Ok, Err, refl, sym, ap, subst}
use Rattle.std.proofs.Common.{◌∙◌, inl, inr, arith}
use Rattle.std.specs.Prelude.{map, nat_lt, IfErr}
use Rattle.std.specs.List.{AllByRecursion, list_all}
use Rattle.std.specs.declared.cmp.Ordering.TheVariants.{Less}
use Rattle.std.proofs.lemmas.Bool.{le-leb, ltb-true}
use Rattle.std.proofs.lemmas.List.{length-map}
use Rattle.wire.specs.Spelling.{IsBytes}
use Rattle.wire.specs.Outcome.{◌>>=◌}
use Rattle.wire.proofs.KnownReads.{chosen}
use Rattle.wire.proofs.Steps.{bind_ok}
use Rattle.labels.specs.Labels.{pair_cmp}
use Rattle.index_reader.specs.declared.error.IndexError.{IndexError}
use Rattle.index_reader.specs.declared.error.IndexError.TheVariants.{Memory, Limit}
use Rattle.index_reader.specs.Outcome.{Gives, Fails}
use Rattle.index_reader.specs.Layout.{SeriesEntry, Layout, Label, Body, TableEntry, is_before}
use Rattle.index_reader.specs.Layout.{rises, postings_end}
use Rattle.index_reader.specs.Reading.Whole.{layout_of, labels_of_each, bodies_of, postings_of}
use Rattle.index_reader.specs.Reading.Whole.{is_small}
use Rattle.index_reader.specs.Reading.Whole.{Read, read_of, indexed_of}
use Rattle.index_reader.specs.Grammar.{IsLayout}
use Rattle.index_reader.specs.References.{references_in}
use Rattle.index_reader.specs.Reading.Steps.{each}
use Rattle.index_reader.specs.Reading.Postings.{section_at, references_at, lists_at}
use Rattle.index_reader.specs.Reading.Flat.{body_of_entry}
use Rattle.index_reader.specs.Reading.Carried.{are_used_up}
use Rattle.index_reader.specs.Reading.Agreement.{Carrier, keys_at, lists_of_series, each_all}
use Rattle.index_reader.specs.Reading.Agreement.{carriers}
use Rattle.index_reader.specs.Reading.Agreement.{are_used, agreement_of}
use Rattle.index_reader.specs.Reading.Agreement as agreement
use Rattle.index_reader.specs.Indexes.{Series, Indexed, named_label, named, series_of}
use Rattle.index_reader.specs.Spelled.{pairs_of, list_text, AreSections}
use Rattle.index_reader.specs.Stated.{Stated, Agrees}
use Rattle.index_reader.specs.Checks.{Check, FirstFailing, HasFrame, HasLists, States}
use Rattle.index_reader.specs.Checks.{AreSmall, checks, IsRefused}
use Rattle.index_reader.proofs.Walks.{done}
use Rattle.index_reader.proofs.Whole.{parts_take}
use Rattle.index_reader.proofs.Sound.{each_length, few_symbols}
use Rattle.index_reader.proofs.Sections.{sound_lists}
use Rattle.index_reader.proofs.Naming.{bodies_take}
use Rattle.index_reader.proofs.Facts.{ArePostings, bodied, listed_in, counted_lists, less_is, keyed}
use Rattle.index_reader.proofs.Facts.{agreed_parts, listing, series_length, carried_in, listed_so}
use Rattle.index_reader.proofs.Facts.{in_order_so}
use Rattle.index_reader.proofs.Spelling.{is_tabled, sections_spelled, sections_small}
use Rattle.index_reader.proofs.Found.{pair_of, lists_are, table_pairs}
use Rattle.index_reader.proofs.TableAgain.{sections_again}
use Rattle.index_reader.proofs.AgreementAgain.{HasItsPairs, agreement_again}
use Rattle.index_reader.proofs.OnlyDisagrees.{OnlyDisagrees, only_ok, only_then, only_where}
use Rattle.index_reader.proofs.OnlyDisagrees.{only_keys, only_each_all, only_placed}
use Rattle.index_reader.proofs.HeadFirst.{not_both, ok_not, is_refusal, same_value, bind_err}
use Rattle.index_reader.proofs.HeadFirst.{true_not, parts_first}
use Rattle.index_reader.proofs.SeriesFirst.{parts_pass, series_pass, bodies_are, has_bodies}
use Rattle.index_reader.proofs.SeriesFirst.{bodies_first}
use Rattle.index_reader.proofs.PostingsFirst.{one_table, postings_first}

abbrev Pair : Type 0
Pair = List ℕ × List ℕ

both : (p q : Bool) → (p && q) ≡ true → (p ≡ true) × (q ≡ true)
both true q h = (refl, h)
both false q h = absurd cc

-- ---- the one refusal

only_agreed : (symbols : List (List ℕ)) (table : List TableEntry) (lists : List (List ℕ))
    (series : List Carrier) → OnlyDisagrees (agreement_of symbols table lists series)
unfolding agreement_of
only_agreed symbols table lists series =
    only_then (keys_at symbols table) _ (only_keys symbols table) (λ keys. only_then
    (each_all (lists_of_series keys) series) _
    (only_each_all (lists_of_series keys) series (only_placed keys))
    (λ placed. only_where (are_used lists
    && are_used_up (map references_in lists) placed) (done keys) (only_ok keys)))

-- ---- pairs of a table whose entries ascend

pairs_rise : (table : List TableEntry) → rises is_before table ≡ true
    → (k : ℕ) → k + 1 < length table → pair_cmp (get_or (pairs_of table) k (
      [],
      [],
    )) (get_or (pairs_of table) (k + 1) ([], [])) ≡ Less
unfolding rises
pairs_rise [] h k lt = absurd (omega arith)
pairs_rise (a ∷ []) h k lt = absurd (omega arith)
pairs_rise (a ∷ b ∷ table) h zero lt =
    less_is _ (both (is_before a b) (rises is_before (b ∷ table)) h).0
pairs_rise (a ∷ b ∷ table) h (suc k) lt =
    let e : suc k + 1 ≡ suc (k + 1) = omega arith in
    rw e (pairs_rise (b ∷ table)
    (both (is_before a b) (rises is_before (b ∷ table)) h).1 k (omega arith))

others_rise : (table : List TableEntry) (others : List Pair) → rises is_before table ≡ true
    → pairs_of table ≡ ([], []) ∷ others → (k : ℕ) → k + 1 < length others
    → pair_cmp (get_or others k ([], [])) (get_or others (k + 1) ([], [])) ≡ Less
others_rise table others rising same k lt =
    let e : suc k + 1 ≡ suc (k + 1) = omega arith in
    let first : Pair = ([], []) in
    let inside : suc k + 1 < length table =
    omega (arith, lt, ap (λ (ps : List Pair). length ps) same, length-map table pair_of) in
    let up : pair_cmp (get_or (first ∷ others) (suc k) ([], []))
    (get_or (first ∷ others) (suc k + 1) ([], [])) ≡ Less =
    subst (λ (ps : List Pair). pair_cmp (get_or ps (suc k) ([], [])) (get_or ps (suc k + 1) (
      [],
      [],
    )) ≡ Less) same (pairs_rise table rising (suc k) inside) in
    rw e at up

-- ---- few labels

small_again : (symbols : List (List ℕ)) (ps : List SeriesEntry) (bs : List Body)
    → length bs ≡ length ps
    → AllByRecursion (λ (s : Series). length s.labels ≤ 64) (series_of symbols ps bs)
    → list_all is_small (labels_of_each bs) ≡ true
unfolding series_of
small_again symbols [] [] n h = refl
small_again symbols [] (b ∷ bs) n h = absurd (omega (arith, n))
small_again symbols (p ∷ ps) [] n h = refl
small_again symbols (p ∷ ps) (b ∷ bs) n h =
    rw (
      le-leb (length b.labels) 64 (omega (arith, h.0, length-map b.labels (named_label symbols))),
      small_again symbols ps bs (omega (arith, n)) h.1,
    ) refl

-- ---- the last two checks

module _ (file : List ℕ) (p : Layout) (bs : List Body) (table : List TableEntry)
    (raws : List (List ℕ)) (parts : layout_of file ≡ Ok p) (bodies : bodies_of file p ≡ Ok bs)
    (postings : postings_of file p.contents ≡ Ok (table, raws)) where
  abbrev agreed : Result (List Label) IndexError
  agreed =
      agreement_of p.symbols table raws
      (carriers (agreement.entry_references p.entries) (labels_of_each bs))

  abbrev end : ℕ
  end = postings_end p.contents

  abbrev states : Stated
  states = record {
    series = series_of p.symbols p.entries bs;
    pairs = pairs_of table;
    lists = map references_in raws;
  }

  module _ (fits : IsBytes file) where
    laid : IsLayout file p
    laid = parts_take file p fits parts

    counted : length bs ≡ length p.entries
    counted = each_length (body_of_entry p.symbols) p.entries bs (bodied file p bs bodies).read

    agrees : (keys : List Label) → agreed ≡ Ok keys → Agrees states
    agrees keys h =
        let symbols = p.symbols in
        let series = series_of symbols p.entries bs in
        let post = listed_in file p.contents (table, raws) postings in
        let labelled = bodies_take symbols p.entries bs (bodied file p bs bodies).read in
        let lists = counted_lists file (postings_end p.contents) table raws post.lists_are in
        let a =
        agreed_parts symbols table raws
        (carriers (agreement.entry_references p.entries) (labels_of_each bs)) keys h in
        let l =
        listing symbols table raws p.entries bs keys (few_symbols file p laid) laid.symbols.2.order
        lists.1 labelled lists.0 a in
        record {
          others = named symbols keys;
          pairs = table_pairs symbols table keys (keyed symbols table keys a.keys_are);
          lists = lists_are symbols keys series (map references_in raws) l;
          carried = carried_in symbols keys series (map references_in raws) l;
          listed = listed_so symbols keys series (map references_in raws) l;
        }

    agrees_again : (a : Agrees states)
        → (keys : List Label) × (agreed ≡ Ok keys) × (named p.symbols keys ≡ a.others)
    agrees_again a =
        let symbols = p.symbols in
        let x : Indexed = record { series = series_of symbols p.entries bs; pairs = a.others } in
        let post = listed_in file p.contents (table, raws) postings in
        let tabled =
        is_tabled file p.contents post.content table fits post.content_is post.table_is in
        let labelled = bodies_take symbols p.entries bs (bodied file p bs bodies).read in
        let pairs : HasItsPairs x = record {
          in_order = others_rise table a.others tabled.rising a.pairs;
          carried = a.carried;
          listed = a.listed;
        } in
        agreement_again symbols p.entries bs x table raws laid.symbols.2.order refl counted labelled
        pairs a.pairs a.lists

    -- what the file states, as it was read
    lists_held : HasLists file p table (map references_in raws)
    unfolding lists_at
    lists_held = held post.lists_are
      where
        post : ArePostings file p.contents table raws
        post = listed_in file p.contents (table, raws) postings

        held : lists_at file end table ≡ Ok raws → HasLists file p table (map references_in raws)
        held h =
            let c = bind_ok (each (section_at file end) table) _ raws h in
            record {
              table_is = record {
                layout = laid;
                tabled =
                    is_tabled file p.contents post.content table fits post.content_is post.table_is;
              };
              stand =
                  sections_spelled file end table c.0 raws fits c.1 c.2 (sound_lists c.0 raws c.2);
              small = sections_small file end table c.0 raws fits c.1 c.2;
            }

    made_states : States file states
    made_states =
        let r = bodied file p bs bodies in
        record {
          parts = p;
          bodies_are = has_bodies file p bs fits laid r.read r.gaps;
          table = table;
          pairs_are = refl;
          lists_are = lists_held;
        }

    -- it states nothing else
    states_are : (s : Stated) → States file s → s ≡ states
    unfolding lists_at
    states_are s h =
        let b = bodies_are file p h.parts s.series fits parts h.bodies_are in
        let read = (bodied file p bs bodies).read in
        let same_bodies : h.bodies_are.bodies ≡ bs =
        same_value (each (body_of_entry p.symbols) p.entries) h.bodies_are.bodies bs b.1 read in
        let in_p : s.series ≡ series_of p.symbols p.entries h.bodies_are.bodies =
        subst (λ (x : Layout). s.series ≡ series_of x.symbols x.entries h.bodies_are.bodies) b.0
        h.bodies_are.series_are in
        let series_is : s.series ≡ series_of p.symbols p.entries bs =
        in_p ∙ ap (series_of p.symbols p.entries) same_bodies in
        let l = listed_in file p.contents (table, raws) postings in
        let table_same : h.table ≡ table =
        one_table file p fits parts l.content table l.content_is l.table_is h.parts h.table
        h.lists_are.table_is in
        let pairs_is : s.pairs ≡ pairs_of table = h.pairs_are ∙ ap pairs_of table_same in
        let below =
        subst (λ (x : Layout). AreSections file (postings_end x.contents) h.table s.lists) b.0
        h.lists_are.stand in
        let moved =
        subst (λ (x : List TableEntry). AreSections file end x s.lists) table_same below in
        let lists_is = lists_same l.lists_are s.lists h.lists_are.small moved in
        ap (λ (ss : List Series). of_three ss s.pairs s.lists) series_is
        ∙ ap (λ (ps : List Pair). of_three (series_of p.symbols p.entries bs) ps s.lists) pairs_is
        ∙ ap (of_three (series_of p.symbols p.entries bs) (pairs_of table)) lists_is
      where
        of_three : List Series → List Pair → List (List ℕ) → Stated
        of_three ss ps ls = record { series = ss; pairs = ps; lists = ls }

        lists_same : lists_at file end table ≡ Ok raws → (lists : List (List ℕ))
            → AllByRecursion AreSmall lists → AreSections file end table lists
            → lists ≡ map references_in raws
        lists_same h lists few stand =
            let c = bind_ok (each (section_at file end) table) _ raws h in
            let small : length file < 2 ^ 32 = omega (arith, laid.placed.short) in
            let r = sections_again file end table lists fits small few stand in
            let same : r.0 ≡ c.0 = same_value (each (section_at file end) table) r.0 c.0 r.2 c.1 in
            let raws_same : r.1 ≡ raws =
            same_value (each references_at c.0) r.1 raws
            (subst (λ (cs : List (List ℕ)). each references_at cs ≡ Ok r.1) same r.3) c.2 in
            sym r.4 ∙ ap (λ (xs : List (List ℕ)). map references_in xs) raws_same

    series_counted : length (series_of p.symbols p.entries bs) ≡ length bs
    series_counted = series_length p.symbols p.entries bs counted

    counts_first : (e : IndexError) (r : Read)
        → cond (nat_lt 1048576 (length bs)) (Err Limit)
        (cond (list_all is_small (labels_of_each bs)) (Ok r) (Err Limit)) ≡ Err e
        → FirstFailing (Check.counts ∷ []) file e
    counts_first e r h =
        elim (chosen (nat_lt 1048576 (length bs)) _ _ _ h) [
          | inl n ↦ inl (
            λ o.
                let few : length o.0.series ≤ 1048576 = o.2.few in
                omega (
                  arith,
                  few,
                  ap (λ (s : Stated). length s.series) (states_are o.0 o.1),
                  series_counted,
                  ltb-true 1048576 (length bs) n.0,
                ),
            is_refusal Read Limit e n.1,
          )
          | inr n ↦ elim (chosen (list_all is_small (labels_of_each bs)) _ _ _ n.1) [
            | inl s ↦ absurd (ok_not _ _ s.1)
            | inr s ↦ inl (
              λ o.
                  let moved =
                  subst (λ (x : Stated).
                  AllByRecursion (λ (y : Series). length y.labels ≤ 64) x.series)
                  (states_are o.0 o.1) o.2.few_labels in
                  true_not _ (small_again p.symbols p.entries bs counted moved) s.0,
              is_refusal Read Limit e s.1,
            )
          ]
        ]

    agreement_first : (e : IndexError) (read : List Label → Read)
        → (agreed >>= λ keys. cond (nat_lt 1048576 (length bs)) (Err Limit)
        (cond (list_all is_small (labels_of_each bs)) (Ok (read keys)) (Err Limit))) ≡ Err e
        → FirstFailing (Check.agreement ∷ Check.counts ∷ []) file e
    agreement_first e read h =
        elim (bind_err agreed _ e h) [
          | inl a ↦ inl (
            λ o.
                let k = agrees_again (subst Agrees (states_are o.0 o.1) o.2) in
                not_both agreed k.0 e k.1 a,
            only_agreed p.symbols table raws
                (carriers (agreement.entry_references p.entries) (labels_of_each bs)) e a,
          )
          | inr a ↦
              inr ((states, made_states, agrees a.0 a.1), counts_first e (read a.0) a.2)
        ]

-- ---- all of it

-- where sections stand, their frames do
pub frames_in : (file : List ℕ) (to : ℕ) (table : List TableEntry) (lists : List (List ℕ))
    → AreSections file to table lists → AllByRecursion (HasFrame file to) table
frames_in file to [] lists h = tt
frames_in file to (l ∷ table) [] h = absurd h
frames_in file to (l ∷ table) (refs ∷ lists) h =
    ((list_text refs, h.0), frames_in file to table lists h.2)

-- lists pass the checks of the table and of themselves
lists_pass : (file : List ℕ) (e : IndexError) (rest : List Check) (p : Layout)
    (table : List TableEntry) (lists : List (List ℕ)) → HasLists file p table lists
    → FirstFailing rest file e
    → FirstFailing (Check.offset_table ∷ Check.list_frames ∷ Check.lists ∷ rest) file e
lists_pass file e rest p table lists h more =
    inr (
      (p, table, h.table_is),
      inr (
        (p, table, h.table_is, frames_in file (postings_end p.contents) table lists h.stand),
        inr ((p, table, lists, h), more),
      ),
    )

pub first_failing : (file : List ℕ) (e : IndexError) → IsBytes file → read_of file ≡ Err e
    → FirstFailing checks file e
unfolding read_of
first_failing file e fits h =
    let last = Check.agreement ∷ Check.counts ∷ [] in
    let lists = Check.offset_table ∷ Check.list_frames ∷ Check.lists ∷ last in
    elim (bind_err (layout_of file) _ e h) [
      | inl a ↦ parts_first file e (Check.bodies ∷ Check.series_order ∷ lists) fits a
      | inr a ↦
          let p = a.0 in
          let layout = parts_take file p fits a.1 in
          elim (bind_err (bodies_of file p) _ e a.2) [
            | inl b ↦
                parts_pass file e (Check.bodies ∷ Check.series_order ∷ lists) p layout
                (bodies_first file e lists p fits a.1 b)
            | inr b ↦
                let r = bodied file p b.0 b.1 in
                let held = has_bodies file p b.0 fits layout r.read r.gaps in
                series_pass file e lists p (series_of p.symbols p.entries b.0) held
                (in_order_so file p b.0 layout r)
                (elim (bind_err (postings_of file p.contents) _ e b.2) [
                  | inl c ↦ postings_first file p fits a.1 e last c
                  | inr c ↦
                      lists_pass file e last p c.0.0 (map references_in c.0.1)
                      (lists_held file p b.0 c.0.0 c.0.1 a.1 b.1 c.1 fits)
                      (agreement_first file p b.0 c.0.0 c.0.1 a.1 b.1 c.1 fits e _ c.2)
                ])
          ]
    ]

pub read_refused : (file : List ℕ) (e : IndexError) → indexed_of file ≡ Err e → read_of file ≡ Err e
unfolding indexed_of
read_refused file e h =
    elim (bind_err (read_of file) _ e h) [ inl a ↦ a | inr a ↦ absurd (ok_not _ _ a.2) ]

refusal : (file : List ℕ) (e : IndexError) (read : Result Indexed IndexError) → Fails e read
    → (read ≡ Err e → FirstFailing checks file e) → IsRefused file e
refusal file Memory read h first = tt
refusal file e read h first = first h

-- a refusal is that of the first check that fails, or there was no memory
pub is_refused : (file : List ℕ) (r : Result Indexed IndexError) → IsBytes file
    → Gives (λ (x : Indexed). x) r (indexed_of file) → IfErr r (IsRefused file)
is_refused file (Ok x) fits h = tt
is_refused file (Err e) fits h =
    refusal file e (indexed_of file) h (λ x. first_failing file e fits (read_refused file e x))
