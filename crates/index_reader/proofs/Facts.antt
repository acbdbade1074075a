-- What the checks leave, in the words of labels and texts.
use Rattle.std.proofs.Common.{◌≡◌, ℕ, zero, suc, ◌+◌, ◌/◌, ◌%◌, ◌^◌, ◌<◌, ◌≤◌, Bool, true, false}
use Rattle.std.proofs.Common.{◌&&◌, cond, eqb, List, [], ◌∷◌, ◌++◌, length, get_or, Option, Some}
use Rattle.std.proofs.Common.{None, Result, Ok, Err, refl, sym, ap, subst, ◌∙◌, ◌⊎◌, inl, inr}
use Rattle.std.proofs.Common.{arith}
use Rattle.std.specs.Prelude.{map, nat_lt}
use Rattle.std.specs.List.{All, AllByRecursion, list_all, Contains}
use Rattle.std.specs.List.Sorted.{IsStrictlyIncreasing}
use Rattle.std.specs.Str.{bytes_eq}
use Rattle.std.specs.Ordering.{is_eq, is_lt}
use Rattle.std.specs.declared.cmp.Ordering.{Ordering}
use Rattle.std.specs.declared.cmp.Ordering.TheVariants.{Less, Equal, Greater}
use Rattle.std.proofs.lemmas.Bool.{ltb-true, ltb-false, leb-true, eqb-true}
use Rattle.std.proofs.lemmas.List.{length-map, length-append, get_or-map}
use Rattle.byteorder.specs.Endian.{big_bytes}
use Rattle.wire.specs.Spelling.{uvarint}
use Rattle.wire.specs.Checksum.{crc32c}
use Rattle.wire.proofs.Laws.{uvarint_long}
use Rattle.labels.specs.Labels.{text_cmp, labels_cmp, pair_cmp}
use Rattle.labels.proofs.Lists.{here, there, Contains-cases, none_in_nil}
use Rattle.labels.proofs.Texts.{bytes_exact, bytes_self}
use Rattle.index_reader.specs.declared.layout.TableOfContents.{TableOfContents}
use Rattle.index_reader.specs.declared.error.IndexError.{IndexError}
use Rattle.index_reader.specs.declared.error.IndexError.TheVariants.{Series, SeriesOrder, Limit}
use Rattle.index_reader.specs.declared.error.IndexError.TheVariants.{PostingsDisagree}
use Rattle.index_reader.specs.Layout.{SeriesEntry, Layout, ascending, rounded, series_end, Label}
use Rattle.index_reader.specs.Layout.{Body, TableEntry, rises, postings_end}
use Rattle.index_reader.specs.Reading.Whole.{layout_of, labels_of_each, bodies_of, postings_of}
use Rattle.index_reader.specs.Reading.Whole.{is_small, Read, read_of, IsSoundRead}
use Rattle.index_reader.specs.Grammar.{entry, IsWalk, IsLayout}
use Rattle.index_reader.specs.Reading.Table.{table_content_at, table_at}
use Rattle.index_reader.specs.Reading.Postings.{lists_at, section_at, references_at}
use Rattle.index_reader.specs.References.{references_in, IsList}
use Rattle.index_reader.specs.Reading.Steps.{each}
use Rattle.index_reader.specs.Reading.Flat.{body_of_entry, labels_before}
use Rattle.index_reader.specs.Reading.Entries.{gaps_zero}
use Rattle.index_reader.specs.Reading.Carried.{Carried, are_used_up}
use Rattle.index_reader.specs.Lookups.{symbol_of, key_before}
use Rattle.index_reader.specs.Reading.Agreement.{Carrier, or_disagree, key_at, keys_at}
use Rattle.index_reader.specs.Reading.Agreement.{lists_of_series, each_all, carriers, are_used}
use Rattle.index_reader.specs.Reading.Agreement.{agreement_of}
use Rattle.index_reader.specs.Reading.Agreement as agreement
use Rattle.index_reader.specs.Indexes.{references, references_with, named_label, named, series_at}
use Rattle.index_reader.specs.Indexes.{series_of, IsConsistent}
use Rattle.index_reader.specs.Indexes as indexes
use Rattle.index_reader.specs.KeptIndex.{IsListing}
use Rattle.index_reader.specs.Checks.{AreInOrder}
use Rattle.index_reader.proofs.WalkLoops.{guard_ended}
use Rattle.wire.proofs.Steps.{bind_ok}
use Rattle.index_reader.proofs.Walks.{ok_is}
use Rattle.index_reader.proofs.Whole.{end_inside}
use Rattle.index_reader.proofs.WordsAt.{length-refs}
use Rattle.index_reader.proofs.Sound.{each_length, few_symbols}
use Rattle.index_reader.proofs.Sections.{sound_lists}
use Rattle.index_reader.proofs.Orders.{InTable, label_sets_cmp, pairs_cmp}
use Rattle.index_reader.specs.Spelled.{AreLabels}
use Rattle.index_reader.proofs.Naming.{first_below, bodies_take, is_label_set}
use Rattle.index_reader.proofs.Draining.{drained_takes}
use Rattle.index_reader.proofs.Placing.{placed_inside}
use Rattle.index_reader.proofs.Texts.{found_is, each_cons, each_nil}
use Rattle.index_reader.proofs.Listing.{of_all, of_pair, of_none}

both : (p q : Bool) → (p && q) ≡ true → (p ≡ true) × (q ≡ true)
both true q h = (refl, h)
both false q h = absurd cc

not_so : (c : Bool) (d : IndexError) (read : Result Read IndexError) (y : Read)
    → cond c (Err d) read ≡ Ok y → (c ≡ false) × (read ≡ Ok y)
not_so true d read y h = absurd cc
not_so false d read y h = (refl, h)

is_so : (c : Bool) (d : IndexError) (read : Result (List Body) IndexError) (y : List Body)
    → cond c read (Err d) ≡ Ok y → (c ≡ true) × (read ≡ Ok y)
is_so true d read y h = (refl, h)
is_so false d read y h = absurd cc

-- ---- the steps of the whole

pub record AreBodies (file : List ℕ) (p : Layout) (bs : List Body) : Type 0 where
  pub read : each (body_of_entry p.symbols) p.entries ≡ Ok bs
  pub gaps : gaps_zero file (series_end p.contents) p.symbols_end p.entries ≡ true
  pub rising : rises labels_before (labels_of_each bs) ≡ true

pub record ArePostings (file : List ℕ) (t : TableOfContents) (table : List TableEntry)
    (lists : List (List ℕ)) : Type 0 where
  pub content : List ℕ
  pub content_is : table_content_at file t ≡ Ok content
  pub table_is : table_at t.postings (postings_end t) content ≡ Ok table
  pub lists_are : lists_at file (postings_end t) table ≡ Ok lists

pub record Chain (file : List ℕ) (r : Read) : Type 0 where
  pub parts : layout_of file ≡ Ok r.parts
  pub bodies : AreBodies file r.parts r.bodies
  pub table : List TableEntry
  pub postings : ArePostings file r.parts.contents table r.lists
  pub agreed : agreement_of r.parts.symbols table r.lists
      (carriers (agreement.entry_references r.parts.entries) (labels_of_each r.bodies)) ≡ Ok r.keys
  pub few : length r.bodies ≤ 1048576
  pub small : list_all is_small (labels_of_each r.bodies) ≡ true

pub bodied : (file : List ℕ) (p : Layout) (bs : List Body) → bodies_of file p ≡ Ok bs
    → AreBodies file p bs
unfolding bodies_of
bodied file p bs h =
    let e = bind_ok (each (body_of_entry p.symbols) p.entries) _ bs h in
    let g =
    is_so (gaps_zero file (series_end p.contents) p.symbols_end p.entries) Series _ bs e.2 in
    let k = guard_ended (rises labels_before (labels_of_each e.0)) SeriesOrder e.0 bs g.1 in
    subst (AreBodies file p) k.1 (record { read = e.1; gaps = g.0; rising = k.0 })

pub listed_in : (file : List ℕ) (t : TableOfContents) (x : List TableEntry × List (List ℕ))
    → postings_of file t ≡ Ok x → ArePostings file t x.0 x.1
unfolding postings_of
listed_in file t x h =
    let c = bind_ok (table_content_at file t) _ x h in
    let b = bind_ok (table_at t.postings (postings_end t) c.0) _ x c.2 in
    let l = bind_ok (lists_at file (postings_end t) b.0) _ x b.2 in
    let made : List TableEntry × List (List ℕ) = (b.0, l.0) in
    subst (λ (y : List TableEntry × List (List ℕ)). ArePostings file t y.0 y.1) (ok_is made x l.2)
    (record { content = c.0; content_is = c.1; table_is = b.1; lists_are = l.1 })

pub chain : (file : List ℕ) (r : Read) → read_of file ≡ Ok r → Chain file r
unfolding read_of
chain file r h =
    let p = bind_ok (layout_of file) _ r h in
    let b = bind_ok (bodies_of file p.0) _ r p.2 in
    let q = bind_ok (postings_of file p.0.contents) _ r b.2 in
    let k =
    bind_ok (agreement_of p.0.symbols q.0.0 q.0.1
    (carriers (agreement.entry_references p.0.entries) (labels_of_each b.0))) _ r q.2 in
    let n = not_so (nat_lt 1048576 (length b.0)) Limit _ r k.2 in
    let made : Read = record { parts = p.0; bodies = b.0; keys = k.0; lists = q.0.1 } in
    let s = guard_ended (list_all is_small (labels_of_each b.0)) Limit made r n.1 in
    let le = ltb-false 1048576 (length b.0) n.0 in
    subst (Chain file) s.1 (record {
      parts = p.1;
      bodies = bodied file p.0 b.0 b.1;
      table = q.0.0;
      postings = listed_in file p.0.contents q.0 q.1;
      agreed = k.1;
      few = omega (arith, le);
      small = s.0;
    })

-- ---- the pairs of the table

pub record AreKeys (symbols : List (List ℕ)) (table : List TableEntry)
    (keys : List Label) : Type 0 where
  pub first : TableEntry
  pub rest : List TableEntry
  pub split : table ≡ first ∷ rest
  pub no_name : length first.name ≡ 0
  pub no_value : length first.value ≡ 0
  pub read : each (key_at symbols) rest ≡ Ok keys
  pub rising : rises key_before keys ≡ true

is_first : (c : Bool) (d : IndexError) (read : Result (List Label) IndexError) (y : List Label)
    → cond c read (Err d) ≡ Ok y → (c ≡ true) × (read ≡ Ok y)
is_first true d read y h = (refl, h)
is_first false d read y h = absurd cc

pub keyed : (symbols : List (List ℕ)) (table : List TableEntry) (keys : List Label)
    → keys_at symbols table ≡ Ok keys → AreKeys symbols table keys
unfolding keys_at
keyed symbols [] keys h = absurd cc
keyed symbols (l ∷ ls) keys h =
    let g = is_first (eqb (length l.name) 0 && eqb (length l.value) 0) PostingsDisagree _ keys h in
    let p = both (eqb (length l.name) 0) (eqb (length l.value) 0) g.0 in
    let e = bind_ok (each (key_at symbols) ls) _ keys g.1 in
    let k = guard_ended (rises key_before e.0) PostingsDisagree e.0 keys e.2 in
    subst (AreKeys symbols (l ∷ ls)) k.1 (record {
      first = l;
      rest = ls;
      split = refl;
      no_name = eqb-true (length l.name) 0 p.0;
      no_value = eqb-true (length l.value) 0 p.1;
      read = e.1;
      rising = k.0;
    })

agreed_ok : {A : Type 0} (o : Option A) (x : A) → or_disagree o ≡ Ok x → o ≡ Some x
agreed_ok (Some y) x h = cc
agreed_ok None x h = absurd cc

abbrev pub IsInside : List (List ℕ) → Label → Type 0
IsInside symbols l = (l.0 < length symbols) × (l.1 < length symbols)

key_inside : (symbols : List (List ℕ)) (l : TableEntry) (key : Label) → key_at symbols l ≡ Ok key
    → IsInside symbols key
unfolding key_at
key_inside symbols l key h =
    let n = bind_ok (or_disagree (symbol_of symbols l.name)) _ key h in
    let v = bind_ok (or_disagree (symbol_of symbols l.value)) _ key n.2 in
    let made : Label = (n.0, v.0) in
    let a =
    found_is (λ s. is_eq (text_cmp s l.name)) symbols [] n.0
    (agreed_ok (symbol_of symbols l.name) n.0 n.1) in
    let b =
    found_is (λ s. is_eq (text_cmp s l.value)) symbols [] v.0
    (agreed_ok (symbol_of symbols l.value) v.0 v.1) in
    subst (IsInside symbols) (ok_is made key v.2) (a.0, b.0)

first_inside : (symbols : List (List ℕ)) (x : Label) (xs keys : List Label) → x ∷ xs ≡ keys
    → IsInside symbols x → All (IsInside symbols) xs → All (IsInside symbols) keys
first_inside symbols x xs keys e one more =
    subst (All (IsInside symbols)) e (λ k d lt. at_place k d lt)
  where
    at_place : (k : ℕ) (d : Label) → k < suc (length xs) → IsInside symbols (get_or (x ∷ xs) k d)
    at_place zero d lt = one
    at_place (suc k) d lt = more k d (omega arith)

keys_inside : (symbols : List (List ℕ)) (ls : List TableEntry) (keys : List Label)
    → each (key_at symbols) ls ≡ Ok keys → All (IsInside symbols) keys
keys_inside symbols [] keys h =
    subst (All (IsInside symbols)) (each_nil (key_at symbols) keys h) (λ k d lt.
    absurd (omega arith))
keys_inside symbols (l ∷ ls) keys h =
    let x = each_cons (key_at symbols) l ls keys h in
    first_inside symbols x.0 x.1 keys x.4 (key_inside symbols l x.0 x.2)
    (keys_inside symbols ls x.1 x.3)

-- ---- the agreement

pub record AreAgreed (symbols : List (List ℕ)) (table : List TableEntry) (lists : List (List ℕ))
    (series : List Carrier) (keys : List Label) : Type 0 where
  pub keys_are : keys_at symbols table ≡ Ok keys
  pub placed : List Carried
  pub placed_is : each_all (lists_of_series keys) series ≡ Ok placed
  pub used : are_used lists ≡ true
  pub used_up : are_used_up (map references_in lists) placed ≡ true

pub agreed_parts : (symbols : List (List ℕ)) (table : List TableEntry) (lists : List (List ℕ))
    (series : List Carrier) (keys : List Label) → agreement_of symbols table lists series ≡ Ok keys
    → AreAgreed symbols table lists series keys
unfolding agreement_of
agreed_parts symbols table lists series keys h =
    let k = bind_ok (keys_at symbols table) _ keys h in
    let p = bind_ok (each_all (lists_of_series k.0) series) _ keys k.2 in
    let g =
    guard_ended (are_used lists
    && are_used_up (map references_in lists) p.0) PostingsDisagree k.0 keys p.2 in
    let t = both (are_used lists) (are_used_up (map references_in lists) p.0) g.0 in
    subst (AreAgreed symbols table lists series) g.1
    (record { keys_are = k.1; placed = p.0; placed_is = p.1; used = t.0; used_up = t.1 })

all_at : (f : List ℕ → Bool) (xs : List (List ℕ)) (k : ℕ) → list_all f xs ≡ true → k < length xs
    → f (get_or xs k []) ≡ true
all_at f [] k h lt = absurd (omega arith)
all_at f (x ∷ xs) zero h lt = (both (f x) (list_all f xs) h).0
all_at f (x ∷ xs) (suc k) h lt = all_at f xs k (both (f x) (list_all f xs) h).1 (omega arith)

used_at : (lists : List (List ℕ)) (k : ℕ) → are_used lists ≡ true → k + 1 < length lists
    → 0 < length (get_or lists (k + 1) [])
used_at [] k h lt = absurd (omega arith)
used_at (x ∷ xs) k h lt =
    let e : k + 1 ≡ suc k = omega arith in
    rw e (ltb-true 0 _ (all_at (λ (l : List ℕ). nat_lt 0 (length l)) xs k h (omega arith)))

some_refs : (bytes : List ℕ) → length bytes % 4 ≡ 0 → 0 < length bytes
    → references_in bytes ≡ [] → ⊥
some_refs bytes four some e = omega (arith, four, some, length-refs bytes, ap length e)

pub listing : (symbols : List (List ℕ)) (table : List TableEntry) (lists : List (List ℕ))
    (ps : List SeriesEntry) (bs : List Body) (keys : List Label) → length symbols < 2 ^ 32
    → ascending symbols ≡ true
    → ((k : ℕ) (d : List ℕ) → k < length lists → IsList (get_or lists k d))
    → ((k : ℕ) (d : Body) → k < length bs → AreLabels symbols 0 (get_or bs k d).labels)
    → length lists ≡ length table
    → AreAgreed symbols table lists (carriers (agreement.entry_references ps) (labels_of_each bs))
    keys → IsListing symbols keys (series_of symbols ps bs) (map references_in lists)
listing symbols table lists ps bs keys few order whole labelled counted a =
    let k = keyed symbols table keys a.keys_are in
    let inside = keys_inside symbols k.rest keys k.read in
    let size : length (map references_in lists) ≡ length keys + 1 = omega (
      arith,
      length-map lists references_in,
      counted,
      ap length k.split,
      each_length (key_at symbols) k.rest keys k.read,
    ) in
    let fits =
    placed_inside keys (carriers (agreement.entry_references ps) (labels_of_each bs))
    a.placed a.placed_is in
    let agree =
    drained_takes a.placed (map references_in lists)
    (subst (λ (n : ℕ). AllByRecursion (λ (c : Carried). c.0 < n) a.placed) (sym size) fits)
    a.used_up in
    record {
      few = few;
      order = order;
      rising = k.rising;
      inside = inside;
      counted = size;
      all = agree 0 (omega (arith, size)) ∙ of_all symbols keys ps bs a.placed a.placed_is;
      listed = λ j lt.
          let o = inside j (0, 0) lt in
          agree (j + 1) (omega (arith, size))
          ∙ of_pair symbols keys j (get_or keys j (0, 0)) order k.rising lt refl o.0 o.1 ps bs
          a.placed labelled a.placed_is;
      some = λ j lt e.
          let long : j + 1 < length lists = omega (arith, size, length-map lists references_in) in
          let is : get_or (map references_in lists) (j + 1) []
          ≡ references_in (get_or lists (j + 1) []) =
          get_or-map references_in lists (j + 1) [] [] long in
          some_refs (get_or lists (j + 1) []) (whole (j + 1) [] long).0
          (used_at lists j a.used long) (sym is ∙ e);
      absent = λ name value lacks. of_none symbols keys name value lacks ps bs a.placed a.placed_is;
    }

-- ---- the order of series

refs_are : (symbols : List (List ℕ)) (ps : List SeriesEntry) (bs : List Body)
    → length bs ≡ length ps → references (series_of symbols ps bs) ≡ agreement.entry_references ps
unfolding series_of
refs_are symbols [] bs e = refl
refs_are symbols (p ∷ ps) [] e = absurd (omega (arith, e))
refs_are symbols (p ∷ ps) (b ∷ bs) e =
    ap (λ (rs : List ℕ). p.offset / 16 ∷ rs) (refs_are symbols ps bs (omega (arith, e)))

pub sets_are : (symbols : List (List ℕ)) (ps : List SeriesEntry) (bs : List Body)
    → length bs ≡ length ps
    → indexes.label_sets (series_of symbols ps bs) ≡ map (named symbols) (labels_of_each bs)
unfolding series_of
sets_are symbols [] [] e = refl
sets_are symbols [] (b ∷ bs) e = absurd (omega (arith, e))
sets_are symbols (p ∷ ps) [] e = absurd (omega (arith, e))
sets_are symbols (p ∷ ps) (b ∷ bs) e =
    ap (λ (rs : List (List (List ℕ × List ℕ))). named symbols b.labels ∷ rs)
    (sets_are symbols ps bs (omega (arith, e)))

pub series_length : (symbols : List (List ℕ)) (ps : List SeriesEntry) (bs : List Body)
    → length bs ≡ length ps → length (series_of symbols ps bs) ≡ length bs
unfolding series_of
series_length symbols [] [] e = refl
series_length symbols [] (b ∷ bs) e = absurd (omega (arith, e))
series_length symbols (p ∷ ps) [] e = absurd (omega (arith, e))
series_length symbols (p ∷ ps) (b ∷ bs) e = ap suc (series_length symbols ps bs (omega (arith, e)))

entry_some : (body : List ℕ) → 0 < length (entry body)
entry_some body = omega (
  arith,
  length-append (uvarint (length body)) (body ++ big_bytes 4 (crc32c body)),
  uvarint_long (length body),
)

whole_rounds : (n : ℕ) → rounded n % 16 ≡ 0
whole_rounds n = omega arith

goes_up : (at n : ℕ) → at % 16 ≡ 0 → 0 < n → at / 16 < rounded (at + n) / 16
goes_up at n whole some = omega (arith, whole, some)

walk_rises : (ps : List SeriesEntry) (file : List ℕ) (end at : ℕ) → at % 16 ≡ 0
    → IsWalk file end at ps → IsStrictlyIncreasing (agreement.entry_references ps)
walk_rises [] file end at whole w k lt = absurd (omega arith)
walk_rises (p ∷ []) file end at whole w k lt = absurd (omega arith)
walk_rises (p ∷ q ∷ ps) file end at whole w zero lt =
    let e : p.offset ≡ at = w.0 in
    let f : q.offset ≡ rounded (at + length (entry p.body)) = w.3.0 in
    rw (e, f) (goes_up at (length (entry p.body)) whole (entry_some p.body))
walk_rises (p ∷ q ∷ ps) file end at whole w (suc k) lt =
    let e : suc k + 1 ≡ suc (k + 1) = omega arith in
    rw e (walk_rises (q ∷ ps) file end (rounded (at + length (entry p.body)))
    (whole_rounds (at + length (entry p.body))) w.3 k (omega arith))

walk_small : (ps : List SeriesEntry) (file : List ℕ) (end at : ℕ) → IsWalk file end at ps
    → end ≤ 2 ^ 32 → (k : ℕ) → k < length ps → get_or (agreement.entry_references ps) k 0 < 2 ^ 32
walk_small [] file end at w le k lt = absurd (omega arith)
walk_small (p ∷ ps) file end at w le zero lt =
    let e : p.offset ≡ at = w.0 in
    let l : at < end = w.1 in
    omega (arith, e, l, le)
walk_small (p ∷ ps) file end at w le (suc k) lt =
    walk_small ps file end (rounded (at + length (entry p.body))) w.3 le k (omega arith)

pub less_is : (o : Ordering) → is_lt o ≡ true → o ≡ Less
less_is Less h = refl
less_is Equal h = absurd cc
less_is Greater h = absurd cc

pub in_table : (symbols : List (List ℕ)) (low : ℕ) (ls : List Label) → AreLabels symbols low ls
    → InTable symbols ls
in_table symbols low [] h = tt
in_table symbols low (l ∷ ls) h = ((h.0.name_in, h.0.value_in), in_table symbols (l.0 + 1) ls h.1)

sets_rise : (symbols : List (List ℕ)) (ls : List (List Label)) → ascending symbols ≡ true
    → ((k : ℕ) (d : List Label) → k < length ls → InTable symbols (get_or ls k d))
    → rises labels_before ls ≡ true
    → (k : ℕ) → k + 1 < length ls
    → labels_cmp (get_or (map (named symbols) ls) k []) (get_or (map (named symbols) ls) (k + 1) [])
    ≡ Less
unfolding rises labels_cmp
sets_rise symbols [] order inside h k lt = absurd (omega arith)
sets_rise symbols (a ∷ []) order inside h k lt = absurd (omega arith)
sets_rise symbols (a ∷ b ∷ ls) order inside h zero lt =
    label_sets_cmp symbols a b order (inside 0 a (omega arith)) (inside 1 a (omega arith))
    ∙ less_is _ (both (labels_before a b) (rises labels_before (b ∷ ls)) h).0
sets_rise symbols (a ∷ b ∷ ls) order inside h (suc k) lt =
    let e : suc k + 1 ≡ suc (k + 1) = omega arith in
    rw e (sets_rise symbols (b ∷ ls) order (λ j d l. inside (suc j) d (omega arith))
    (both (labels_before a b) (rises labels_before (b ∷ ls)) h).1 k (omega arith))

pairs_rise : (symbols : List (List ℕ)) (keys : List Label) → ascending symbols ≡ true
    → All (IsInside symbols) keys → rises key_before keys ≡ true
    → (k : ℕ) → k + 1 < length keys → pair_cmp (get_or (named symbols keys) k (
      [],
      [],
    )) (get_or (named symbols keys) (k + 1) ([], [])) ≡ Less
unfolding rises
pairs_rise symbols [] order inside h k lt = absurd (omega arith)
pairs_rise symbols (a ∷ []) order inside h k lt = absurd (omega arith)
pairs_rise symbols (a ∷ b ∷ keys) order inside h zero lt =
    pairs_cmp symbols a b order (inside 0 a (omega arith)) (inside 1 a (omega arith))
    ∙ less_is _ (both (key_before a b) (rises key_before (b ∷ keys)) h).0
pairs_rise symbols (a ∷ b ∷ keys) order inside h (suc k) lt =
    let e : suc k + 1 ≡ suc (k + 1) = omega arith in
    rw e (pairs_rise symbols (b ∷ keys) order (λ j d l. inside (suc j) d (omega arith))
    (both (key_before a b) (rises key_before (b ∷ keys)) h).1 k (omega arith))

-- ---- pairs that stand in the table

pub in_named : (symbols : List (List ℕ)) (keys : List Label) (p : List ℕ × List ℕ)
    → Contains (named symbols keys) p
    → (k : ℕ) × (k < length keys) × (named_label symbols (get_or keys k (0, 0)) ≡ p)
in_named symbols [] p c = absurd (none_in_nil p c)
in_named symbols (key ∷ keys) p c =
    elim (Contains-cases (named_label symbols key) (named symbols keys) p c) [
      | inl e ↦ (0, omega arith, e)
      | inr d ↦ let r = in_named symbols keys p d in (suc r.0, omega (arith, r.1), r.2)
    ]

same_pair : (x p : List ℕ × List ℕ) → (x ≡ p) ⊎ (x ≡ p → ⊥)
same_pair x p = go (bytes_eq x.0 p.0) refl (bytes_eq x.1 p.1) refl
  where
    go : (a : Bool) → bytes_eq x.0 p.0 ≡ a → (b : Bool) → bytes_eq x.1 p.1 ≡ b
        → (x ≡ p) ⊎ (x ≡ p → ⊥)
    go true e true f =
        let n = bytes_exact x.0 p.0 e in
        let v = bytes_exact x.1 p.1 f in
        inl (λ i. (n i, v i))
    go false e b f =
        inr (λ (s : x ≡ p). let t : true ≡ false =
        sym (bytes_self x.0) ∙ ap (λ (q : List ℕ × List ℕ). bytes_eq x.0 q.0) s ∙ e in absurd cc)
    go true e false f =
        inr (λ (s : x ≡ p). let t : true ≡ false =
        sym (bytes_self x.1) ∙ ap (λ (q : List ℕ × List ℕ). bytes_eq x.1 q.1) s ∙ f in absurd cc)

named_or_not : (symbols : List (List ℕ)) (keys : List Label) (p : List ℕ × List ℕ)
    → Contains (named symbols keys) p
    ⊎ ((k : ℕ) → k < length keys → named_label symbols (get_or keys k (0, 0)) ≡ p → ⊥)
named_or_not symbols [] p = inr (λ k lt e. absurd (omega arith))
named_or_not symbols (key ∷ keys) p =
    elim (same_pair (named_label symbols key) p) [
      | inl e ↦
          inl (subst (λ (q : List ℕ × List ℕ). Contains (named symbols (key ∷ keys)) q) e
          (here (named_label symbols key) (named symbols keys)))
      | inr n ↦
          elim (named_or_not symbols keys p) [
            | inl c ↦ inl (there (named_label symbols key) p (named symbols keys) c)
            | inr lacks ↦ inr (none_of symbols key keys p n lacks)
          ]
    ]
  where
    none_of : (symbols : List (List ℕ)) (key : Label) (keys : List Label) (p : List ℕ × List ℕ)
        → (named_label symbols key ≡ p → ⊥)
        → ((k : ℕ) → k < length keys → named_label symbols (get_or keys k (0, 0)) ≡ p → ⊥) → (k : ℕ)
        → k < suc (length keys) → named_label symbols (get_or (key ∷ keys) k (0, 0)) ≡ p → ⊥
    none_of symbols key keys p n lacks zero lt e = n e
    none_of symbols key keys p n lacks (suc k) lt e = lacks k (omega arith) e

pub carried_in : (symbols : List (List ℕ)) (keys : List Label) (series : List indexes.Series)
    (lists : List (List ℕ)) → IsListing symbols keys series lists → (name value : List ℕ)
    → Contains (named symbols keys) (name, value) → references_with name value series ≡ [] → ⊥
carried_in symbols keys series lists l name value c none =
    let p : List ℕ × List ℕ = (name, value) in
    let r = in_named symbols keys p c in
    let e = ap (λ (q : List ℕ × List ℕ). references_with q.0 q.1 series) r.2 in
    l.some r.0 r.1 (l.listed r.0 r.1 ∙ e ∙ none)

pub listed_so : (symbols : List (List ℕ)) (keys : List Label) (series : List indexes.Series)
    (lists : List (List ℕ)) → IsListing symbols keys series lists → (name value : List ℕ)
    → (references_with name value series ≡ [] → ⊥) → Contains (named symbols keys) (name, value)
listed_so symbols keys series lists l name value some =
    elim (named_or_not symbols keys (name, value)) [
      | inl c ↦ c
      | inr lacks ↦ absurd (some (l.absent name value lacks))
    ]

-- ---- all of it

pub few_labels : (bs : List Body) (k : ℕ) (d : Body) → list_all is_small (labels_of_each bs) ≡ true
    → k < length bs → length (get_or bs k d).labels ≤ 64
few_labels [] k d h lt = absurd (omega arith)
few_labels (b ∷ bs) zero d h lt =
    leb-true (length b.labels) 64
    (both (is_small b.labels) (list_all is_small (labels_of_each bs)) h).0
few_labels (b ∷ bs) (suc k) d h lt =
    few_labels bs k d
    (both (is_small b.labels) (list_all is_small (labels_of_each bs)) h).1 (omega arith)

inside_at : (symbols : List (List ℕ)) (low : ℕ) (ls : List Label) → AreLabels symbols low ls
    → All (IsInside symbols) ls
inside_at symbols low ls h =
    λ k d lt. let o = first_below symbols low ls k d h lt in (o.name_in, o.value_in)

pub set_at : (bs : List Body) (k : ℕ) (d : List Label) → k < length (labels_of_each bs)
    → (e : Body) × (get_or (labels_of_each bs) k d ≡ (get_or bs k e).labels) × (k < length bs)
set_at [] k d lt = absurd (omega arith)
set_at (b ∷ bs) zero d lt = (b, refl, omega arith)
set_at (b ∷ bs) (suc k) d lt = let r = set_at bs k d (omega arith) in (r.0, r.1, omega (arith, r.2))

-- bodies that were read are in the order of their label sets
pub in_order_so : (file : List ℕ) (p : Layout) (bs : List Body) → IsLayout file p
    → AreBodies file p bs → AreInOrder (series_of p.symbols p.entries bs)
in_order_so file p bs layout r =
    let symbols = p.symbols in
    let order : ascending symbols ≡ true = layout.symbols.2.order in
    let labelled = bodies_take symbols p.entries bs r.read in
    let size = each_length (body_of_entry symbols) p.entries bs r.read in
    let sets = sets_are symbols p.entries bs size in
    let count = series_length symbols p.entries bs size in
    λ k lt. subst (λ (ss : List (List (List ℕ × List ℕ))).
    labels_cmp (get_or ss k []) (get_or ss (k + 1) []) ≡ Less) (sym sets)
    (sets_rise symbols (labels_of_each bs) order (λ j d lj. let o = set_at bs j d lj in subst
    (InTable symbols) (sym o.1) (in_table symbols 0 (get_or bs j o.0).labels (labelled j o.0 o.2)))
    r.rising k (omega (arith, lt, count, length-map bs (λ (b : Body). b.labels))))

pub counted_lists : (file : List ℕ) (to : ℕ) (table : List TableEntry) (lists : List (List ℕ))
    → lists_at file to table ≡ Ok lists → (length lists ≡ length table)
    × ((k : ℕ) (d : List ℕ) → k < length lists → IsList (get_or lists k d))
unfolding lists_at
counted_lists file to table lists h =
    let contents = bind_ok (each (section_at file to) table) _ lists h in
    let a = each_length (section_at file to) table contents.0 contents.1 in
    let b = each_length references_at contents.0 lists contents.2 in
    (omega (arith, a, b), sound_lists contents.0 lists contents.2)

pub read_is : (file : List ℕ) (r : Read) → IsLayout file r.parts → read_of file ≡ Ok r
    → IsSoundRead r
read_is file r p h =
    let c = chain file r h in
    let symbols = r.parts.symbols in
    let few = few_symbols file r.parts p in
    let order : ascending symbols ≡ true = p.symbols.2.order in
    let labelled = bodies_take symbols r.parts.entries r.bodies c.bodies.read in
    let lists =
    counted_lists file (postings_end r.parts.contents) c.table r.lists c.postings.lists_are in
    let agreed =
    agreed_parts symbols c.table r.lists (carriers (agreement.entry_references r.parts.entries)
    (labels_of_each r.bodies)) r.keys c.agreed in
    let l =
    listing symbols c.table r.lists r.parts.entries r.bodies r.keys few order lists.1
    labelled lists.0 agreed in
    let size = each_length (body_of_entry symbols) r.parts.entries r.bodies c.bodies.read in
    let refs = refs_are symbols r.parts.entries r.bodies size in
    let count = series_length symbols r.parts.entries r.bodies size in
    record {
      listing = l;
      labelled =
          λ k d lt. is_label_set symbols (get_or r.bodies k d).labels order (labelled k d lt)
          (few_labels r.bodies k d c.small lt);
      inside = λ k d lt. inside_at symbols 0 (get_or r.bodies k d).labels (labelled k d lt);
      lists = lists.1;
      consistent = record {
        ascending =
            subst IsStrictlyIncreasing (sym refs)
            (walk_rises r.parts.entries file (series_end r.parts.contents)
            (rounded r.parts.contents.series) (whole_rounds r.parts.contents.series) p.entries);
        small =
            λ k lt.
            subst (λ (rs : List ℕ). get_or rs k 0 < 2 ^ 32) (sym refs) (walk_small r.parts.entries
            file (series_end r.parts.contents) (rounded r.parts.contents.series) p.entries (omega (
              arith,
              p.placed.short,
              end_inside r.parts.contents (length file) p.placed,
            )) k (omega (arith, lt, count, size)));
        few = omega (arith, count, c.few);
        in_order = in_order_so file r.parts r.bodies p c.bodies;
        pairs_in_order =
            λ k lt. pairs_rise symbols r.keys order l.inside l.rising k
            (omega (arith, lt, length-map r.keys (named_label symbols)));
        carried =
            carried_in symbols r.keys (series_of symbols r.parts.entries r.bodies)
            (map references_in r.lists) l;
        listed =
            listed_so symbols r.keys (series_of symbols r.parts.entries r.bodies)
            (map references_in r.lists) l;
      };
    }
