-- What is read of an index is what its bytes spell.
use Rattle.std.proofs.Common.{◌≡◌, ℕ, zero, suc, ◌+◌, ◌<◌, List, [], ◌∷◌, length, get_or, Option}
use Rattle.std.proofs.Common.{Some, None, Ok, refl, sym, ap, subst, ◌∙◌, arith}
use Rattle.std.specs.Prelude.{map}
use Rattle.std.proofs.lemmas.List.{length-map, nil_from_length}
use Rattle.wire.specs.Spelling.{IsBytes}
use Rattle.index_reader.specs.Layout.{rounded, series_end, Label, TableEntry, postings_end}
use Rattle.index_reader.specs.Grammar.{IsLayout}
use Rattle.index_reader.specs.Reading.Postings.{section_at, lists_at}
use Rattle.index_reader.specs.References.{references_in, IsList}
use Rattle.index_reader.specs.Reading.Steps.{each}
use Rattle.index_reader.specs.Lookups.{symbol_of}
use Rattle.index_reader.specs.Reading.Agreement.{or_disagree, key_at}
use Rattle.index_reader.specs.Reading.Whole.{Read, read_of, indexed}
use Rattle.index_reader.specs.Indexes.{Series, references, references_with, named_label, named}
use Rattle.index_reader.specs.Indexes.{series_of}
use Rattle.index_reader.specs.KeptIndex.{IsListing}
use Rattle.index_reader.specs.Spelled.{pairs_of, lists_for, AreSections, IsIndex}
use Rattle.index_reader.proofs.Gaps.{zeros_of}
use Rattle.wire.proofs.Steps.{bind_ok}
use Rattle.index_reader.proofs.Walks.{ok_is}
use Rattle.index_reader.proofs.Texts.{each_cons, each_nil}
use Rattle.index_reader.proofs.Spans.{symbol_found}
use Rattle.index_reader.proofs.Facts.{chain, keyed, AreKeys, agreed_parts, few_labels, read_is}
use Rattle.index_reader.proofs.Spelling.{walk_bytes, bodies_spelled, is_tabled, sections_spelled}

-- ---- what each pair lists

same_lists : (xs ys : List (List ℕ)) → length xs ≡ length ys
    → ((k : ℕ) → k < length xs → get_or xs k [] ≡ get_or ys k []) → xs ≡ ys
same_lists [] [] n h = refl
same_lists [] (y ∷ ys) n h = absurd (omega (arith, n))
same_lists (x ∷ xs) [] n h = absurd (omega (arith, n))
same_lists (x ∷ xs) (y ∷ ys) n h =
    let one : x ≡ y = h 0 (omega arith) in
    let more : xs ≡ ys = same_lists xs ys (omega (arith, n)) (λ k lt. h (suc k) (omega arith)) in
    ap (λ (z : List ℕ). z ∷ xs) one ∙ ap (λ (zs : List (List ℕ)). y ∷ zs) more

pub pair_listed : (symbols : List (List ℕ)) (keys : List Label) (series : List Series) (k : ℕ)
    → k < length keys → get_or (lists_for (named symbols keys) series) k [] ≡ references_with
    (get_or symbols (get_or keys k (0, 0)).0 []) (get_or symbols (get_or keys k (0, 0)).1 []) series
pair_listed symbols [] series k lt = absurd (omega arith)
pair_listed symbols (key ∷ keys) series zero lt = refl
pair_listed symbols (key ∷ keys) series (suc k) lt = pair_listed symbols keys series k (omega arith)

list_is : (symbols : List (List ℕ)) (keys : List Label) (series : List Series)
    (lists : List (List ℕ)) → IsListing symbols keys series lists → (k : ℕ) → k < length lists
    → get_or lists k [] ≡ get_or (references series ∷ lists_for (named symbols keys) series) k []
list_is symbols keys series lists l zero lt = l.all
list_is symbols keys series lists l (suc k) lt =
    let e : suc k ≡ k + 1 = omega arith in
    let inside : k < length keys = omega (arith, lt, l.counted) in
    ap (λ (j : ℕ). get_or lists j []) e
    ∙ l.listed k inside
    ∙ sym (pair_listed symbols keys series k inside)

pub lists_are : (symbols : List (List ℕ)) (keys : List Label) (series : List Series)
    (lists : List (List ℕ)) → IsListing symbols keys series lists
    → lists ≡ references series ∷ lists_for (named symbols keys) series
lists_are symbols keys series lists l =
    let n =
    length-map (named symbols keys) (λ (p : List ℕ × List ℕ). references_with p.0 p.1 series) in
    let m = length-map keys (named_label symbols) in
    same_lists lists (references series ∷ lists_for (named symbols keys) series)
    (omega (arith, n, m, l.counted)) (list_is symbols keys series lists l)

-- ---- the pairs of the table

agreed_ok : {A : Type 0} (o : Option A) (x : A) → or_disagree o ≡ Ok x → o ≡ Some x
agreed_ok (Some y) x h = cc
agreed_ok None x h = absurd cc

abbrev pub pair_of : TableEntry → List ℕ × List ℕ
pair_of l = (l.name, l.value)

key_pair : (symbols : List (List ℕ)) (l : TableEntry) (key : Label) → key_at symbols l ≡ Ok key
    → pair_of l ≡ named_label symbols key
unfolding key_at
key_pair symbols l key h =
    let n = bind_ok (or_disagree (symbol_of symbols l.name)) _ key h in
    let v = bind_ok (or_disagree (symbol_of symbols l.value)) _ key n.2 in
    let made : Label = (n.0, v.0) in
    let a = (symbol_found symbols l.name n.0 (agreed_ok (symbol_of symbols l.name) n.0 n.1)).1 in
    let b = (symbol_found symbols l.value v.0 (agreed_ok (symbol_of symbols l.value) v.0 v.1)).1 in
    let s : pair_of l ≡ named_label symbols made = λ i. (sym a i, sym b i) in
    s ∙ ap (named_label symbols) (ok_is made key v.2)

rest_pairs : (symbols : List (List ℕ)) (ls : List TableEntry) (keys : List Label)
    → each (key_at symbols) ls ≡ Ok keys → pairs_of ls ≡ named symbols keys
rest_pairs symbols [] keys h = ap (named symbols) (each_nil (key_at symbols) keys h)
rest_pairs symbols (l ∷ ls) keys h =
    let x = each_cons (key_at symbols) l ls keys h in
    ap (λ (p : List ℕ × List ℕ). p ∷ pairs_of ls) (key_pair symbols l x.0 x.2)
    ∙ ap (λ (ps : List (List ℕ × List ℕ)). named_label symbols x.0 ∷ ps)
    (rest_pairs symbols ls x.1 x.3)
    ∙ ap (named symbols) x.4

pub table_pairs : (symbols : List (List ℕ)) (table : List TableEntry) (keys : List Label)
    → AreKeys symbols table keys → pairs_of table ≡ ([], []) ∷ named symbols keys
table_pairs symbols table keys k =
    let n = nil_from_length k.first.name k.no_name in
    let v = nil_from_length k.first.value k.no_value in
    let s : pair_of k.first ≡ ([], []) = λ i. (n i, v i) in
    ap (λ (ls : List TableEntry). pairs_of ls) k.split
    ∙ ap (λ (p : List ℕ × List ℕ). p ∷ pairs_of k.rest) s
    ∙ ap (λ (ps : List (List ℕ × List ℕ)). ([], []) ∷ ps) (rest_pairs symbols k.rest keys k.read)

sections_are : (file : List ℕ) (to : ℕ) (table : List TableEntry) (lists : List (List ℕ))
    → IsBytes file → ((k : ℕ) (d : List ℕ) → k < length lists → IsList (get_or lists k d))
    → lists_at file to table ≡ Ok lists → AreSections file to table (map references_in lists)
unfolding lists_at
sections_are file to table lists fits whole h =
    let contents = bind_ok (each (section_at file to) table) _ lists h in
    sections_spelled file to table contents.0 lists fits contents.1 contents.2 whole

-- ---- all of it

pub is_index : (file : List ℕ) (r : Read) → IsBytes file → IsLayout file r.parts
    → read_of file ≡ Ok r → IsIndex file (indexed r)
is_index file r fits p h =
    let c = chain file r h in
    let i = read_is file r p h in
    let symbols = r.parts.symbols in
    let series = series_of symbols r.parts.entries r.bodies in
    let agreed = agreed_parts symbols c.table r.lists _ r.keys c.agreed in
    let k = keyed symbols c.table r.keys agreed.keys_are in
    record {
      parts = r.parts;
      layout = p;
      bodies = r.bodies;
      spelled =
          bodies_spelled symbols r.parts.entries r.bodies (walk_bytes r.parts.entries file
          (series_end r.parts.contents) (rounded r.parts.contents.series) fits p.entries)
          c.bodies.read;
      gaps =
          zeros_of r.parts.entries file (series_end r.parts.contents)
          r.parts.symbols_end c.bodies.gaps;
      series = refl;
      few_labels = λ j d lt. few_labels r.bodies j d c.small lt;
      table = c.table;
      tabled =
          is_tabled file r.parts.contents c.postings.content c.table fits c.postings.content_is
          c.postings.table_is;
      listed = table_pairs symbols c.table r.keys k;
      sections =
          subst (AreSections file (postings_end r.parts.contents) c.table)
          (lists_are symbols r.keys series (map references_in r.lists) i.listing) (sections_are file
          (postings_end r.parts.contents) c.table r.lists fits i.lists c.postings.lists_are);
      consistent = i.consistent;
    }
