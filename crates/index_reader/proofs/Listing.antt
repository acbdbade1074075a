-- Lists that agree by symbols are the lists of the series by texts.
use Rattle.std.proofs.Common.{◌≡◌, ℕ, suc, ◌+◌, ◌/◌, ◌<◌, ◌≤◌, Bool, true, false, ◌&&◌, cond, not}
use Rattle.std.proofs.Common.{eqb, List, [], ◌∷◌, ◌++◌, length, get_or, Some, Ok, refl, sym, ap}
use Rattle.std.proofs.Common.{subst, ◌∙◌, inl, inr, arith}
use Rattle.std.specs.Prelude.{filter}
use Rattle.std.specs.Str.{bytes_eq}
use Rattle.std.proofs.lemmas.Bool.{cases_eq}
use Rattle.labels.specs.Parts.{carries}
use Rattle.labels.proofs.Texts.{bytes_exact, bytes_self}
use Rattle.index_reader.specs.Layout.{SeriesEntry, ascending, Label, Body, rises}
use Rattle.index_reader.specs.Reading.Steps.{each}
use Rattle.index_reader.specs.Reading.Carried.{Carried, references_carrying}
use Rattle.index_reader.specs.Lookups.{key_before, place_of}
use Rattle.index_reader.specs.Reading.Agreement.{list_of_label, Carrier, lists_of_series, each_all}
use Rattle.index_reader.specs.Reading.Agreement.{carriers}
use Rattle.index_reader.specs.Reading.Agreement as agreement
use Rattle.index_reader.specs.Indexes.{Series, references, references_with, named_label, named}
use Rattle.index_reader.specs.Indexes.{series_at, series_of}
use Rattle.index_reader.specs.Reading.Whole as checks
use Rattle.wire.proofs.Steps.{bind_ok}
use Rattle.index_reader.proofs.Walks.{ok_is}
use Rattle.index_reader.specs.Spelled.{AreLabels}
use Rattle.index_reader.proofs.Draining.{with_same, with_other}
use Rattle.index_reader.proofs.Texts.{bytes_other, bytes_full, carries_none, carries_same}
use Rattle.index_reader.proofs.Texts.{carries_other, and_false, place_found, place_is, placed_is}
use Rattle.index_reader.proofs.Texts.{each_cons, each_nil}

-- this reference, where the test holds
abbrev pub if_so : Bool → ℕ → List ℕ
if_so b r = cond b (r ∷ []) []

is_behind : (keys : List Label) (k a low : ℕ) (l : Label) → get_or keys a (0, 0) ≡ l
    → (get_or keys k (0, 0)).0 < low → low ≤ l.0 → a ≡ k → ⊥
is_behind keys k a low l g lt le e =
    let s : get_or keys k (0, 0) ≡ l = sym (ap (λ (j : ℕ). get_or keys j (0, 0)) e) ∙ g in
    omega (arith, ap (λ (x : Label). x.0) s)

none_first : (keys : List Label) (r : ℕ) (ls : List Label) (cs : List Carried)
    → each (list_of_label keys r) ls ≡ Ok cs → references_carrying 0 cs ≡ []
unfolding references_carrying
none_first keys r [] cs e = ap (references_carrying 0) (sym (each_nil (list_of_label keys r) cs e))
none_first keys r (l ∷ ls) cs e =
    let x = each_cons (list_of_label keys r) l ls cs e in
    let p = placed_is keys r l x.0 x.2 in
    ap (references_carrying 0) (sym x.4)
    ∙ with_other 0 x.0 x.1 (λ (q : x.0.0 ≡ 0). omega (arith, q, p.2))
    ∙ none_first keys r ls x.1 x.3

behind : (symbols : List (List ℕ)) (keys : List Label) (k r low : ℕ) (ls : List Label)
    (cs : List Carried) → AreLabels symbols low ls → (get_or keys k (0, 0)).0 < low
    → each (list_of_label keys r) ls ≡ Ok cs → references_carrying (k + 1) cs ≡ []
unfolding references_carrying
behind symbols keys k r low [] cs h lt e =
    ap (references_carrying (k + 1)) (sym (each_nil (list_of_label keys r) cs e))
behind symbols keys k r low (l ∷ ls) cs h lt e =
    let x = each_cons (list_of_label keys r) l ls cs e in
    let p = placed_is keys r l x.0 x.2 in
    let f = place_found keys l p.0 p.1 in
    let from : low ≤ l.0 = h.0.from in
    ap (references_carrying (k + 1)) (sym x.4)
    ∙ with_other (k + 1) x.0 x.1 (λ (q : x.0.0 ≡ k + 1).
    is_behind keys k p.0 low l f.1 lt from (omega (arith, q, p.2)))
    ∙ behind symbols keys k r (l.0 + 1) ls x.1 h.1 (omega arith) x.3

one_here : (k r : ℕ) (c : Carried) (cs : List Carried) → c.0 ≡ k → c.1 ≡ r
    → references_carrying k cs ≡ [] → references_carrying k (c ∷ cs) ≡ r ∷ []
one_here k r c cs e f none =
    let s : c ≡ (k, r) = λ i. (e i, f i) in
    ap (λ (d : Carried). references_carrying k (d ∷ cs)) s
    ∙ with_same k r cs
    ∙ ap (λ (rs : List ℕ). r ∷ rs) none

some_place : (a b : ℕ) → Some a ≡ Some b → a ≡ b
some_place a b e = cc

module _ (symbols : List (List ℕ)) (keys : List Label) (k : ℕ) (t : Label)
    (order : ascending symbols ≡ true) (rising : rises key_before keys ≡ true)
    (inside : k < length keys) (at : get_or keys k (0, 0) ≡ t) (n_in : t.0 < length symbols)
    (v_in : t.1 < length symbols) where
  -- a label that is another stands elsewhere
  elsewhere : (l : Label) (a : ℕ) → get_or keys a (0, 0) ≡ l → (l ≡ t → ⊥) → a ≡ k → ⊥
  elsewhere l a g other e = other (sym g ∙ ap (λ (j : ℕ). get_or keys j (0, 0)) e ∙ at)

  here : (l : Label) (a : ℕ) → place_of keys l ≡ Some a → l ≡ t → a ≡ k
  here l a g same =
      some_place a k (sym g ∙ ap (place_of keys) (same ∙ sym at) ∙ place_is keys k rising inside)

  -- of one series the list has its reference exactly where it carries the pair
  pub of_one : (r low : ℕ) (ls : List Label) (cs : List Carried) → AreLabels symbols low ls
      → each (list_of_label keys r) ls ≡ Ok cs
      → references_carrying (k + 1) cs
      ≡ if_so (carries (get_or symbols t.0 []) (get_or symbols t.1 []) (named symbols ls)) r
  unfolding references_carrying
  of_one r low [] cs h e =
      ap (references_carrying (k + 1)) (sym (each_nil (list_of_label keys r) cs e))
      ∙ ap (λ (b : Bool). if_so b r)
      (sym (carries_none (get_or symbols t.0 []) (get_or symbols t.1 [])))
  of_one r low (l ∷ ls) cs h e =
      let n = get_or symbols t.0 [] in
      let v = get_or symbols t.1 [] in
      let x = each_cons (list_of_label keys r) l ls cs e in
      let p = placed_is keys r l x.0 x.2 in
      let f = place_found keys l p.0 p.1 in
      let o = h.0 in
      let rest = named symbols ls in
      let shown = ap (references_carrying (k + 1)) (sym x.4) in
      let whole : references_carrying (k + 1) (x.0 ∷ x.1)
      ≡ if_so (carries n v (named symbols (l ∷ ls))) r = elim (cases_eq l.0 t.0) [
        | inl same ↦
            let named_so : bytes_eq (get_or symbols l.0 []) n ≡ true =
            ap (λ (j : ℕ). bytes_eq (get_or symbols l.0 []) (get_or symbols j [])) (sym same)
            ∙ bytes_self (get_or symbols l.0 []) in
            let others : references_carrying (k + 1) x.1 ≡ [] =
            behind symbols keys k r (l.0 + 1) ls x.1 h.1
            (omega (arith, same, ap (λ (y : Label). y.0) at)) x.3 in
            let carry =
            carries_same n v (get_or symbols l.0 []) (get_or symbols l.1 []) rest named_so in
            elim (cases_eq l.1 t.1) [
              | inl alike ↦
                  let is : l ≡ t = λ i. (same i, alike i) in
                  let valued : bytes_eq (get_or symbols l.1 []) v ≡ true =
                  ap (λ (j : ℕ). bytes_eq (get_or symbols l.1 []) (get_or symbols j [])) (sym alike)
                  ∙ bytes_self (get_or symbols l.1 []) in
                  let full : bytes_eq v [] ≡ false =
                  bytes_full v
                  (subst (λ (j : ℕ). 0 < length (get_or symbols j [])) alike o.value) in
                  let so : carries n v ((
                    get_or symbols l.0 [],
                    get_or symbols l.1 [],
                  ) ∷ rest) ≡ true = carry ∙ rw (full, valued) refl in
                  let place : x.0.0 ≡ k + 1 = p.2 ∙ ap (λ (j : ℕ). j + 1) (here l p.0 p.1 is) in
                  one_here (k + 1) r x.0 x.1 place p.3 others
                  ∙ ap (λ (b : Bool). if_so b r) (sym so)
              | inr differ ↦
                  let valued : bytes_eq (get_or symbols l.1 []) v ≡ false =
                  bytes_other symbols l.1 t.1 order o.value_in v_in differ in
                  let so : carries n v ((
                    get_or symbols l.0 [],
                    get_or symbols l.1 [],
                  ) ∷ rest) ≡ false =
                  carry
                  ∙ ap (λ (b : Bool). not (bytes_eq v []) && b) valued
                  ∙ and_false (not (bytes_eq v [])) in
                  let away =
                  elsewhere l p.0 f.1 (λ (q : l ≡ t). differ (ap (λ (y : Label). y.1) q)) in
                  with_other (k + 1) x.0 x.1 (λ (q : x.0.0 ≡ k + 1). away (omega (arith, q, p.2)))
                  ∙ others
                  ∙ ap (λ (b : Bool). if_so b r) (sym so)
            ]
        | inr differ ↦
            let named_so : bytes_eq (get_or symbols l.0 []) n ≡ false =
            bytes_other symbols l.0 t.0 order o.name_in n_in differ in
            let carry =
            carries_other n v (get_or symbols l.0 []) (get_or symbols l.1 []) rest named_so in
            let away = elsewhere l p.0 f.1 (λ (q : l ≡ t). differ (ap (λ (y : Label). y.0) q)) in
            with_other (k + 1) x.0 x.1 (λ (q : x.0.0 ≡ k + 1). away (omega (arith, q, p.2)))
            ∙ of_one r (l.0 + 1) ls x.1 h.1 x.3
            ∙ ap (λ (b : Bool). if_so b r) (sym carry)
      ] in
      shown ∙ whole

-- ---- all series

kept_on : (b : Bool) (x : ℕ) (xs ys zs : List ℕ) → xs ≡ ys ++ zs
    → cond b (x ∷ xs) xs ≡ cond b (x ∷ ys) ys ++ zs
kept_on true x xs ys zs e = ap (λ (r : List ℕ). x ∷ r) e
kept_on false x xs ys zs e = e

refs_append : (k : ℕ) (cs ds : List Carried)
    → references_carrying k (cs ++ ds) ≡ references_carrying k cs ++ references_carrying k ds
unfolding references_carrying
refs_append k [] ds = refl
refs_append k (c ∷ cs) ds =
    kept_on (eqb c.0 k) c.1 (references_carrying k (cs ++ ds)) (references_carrying k cs)
    (references_carrying k ds) (refs_append k cs ds)

chosen_on : (b : Bool) (s : Series) (ss : List Series)
    → references (cond b (s ∷ ss) ss) ≡ if_so b s.reference ++ references ss
chosen_on true s ss = refl
chosen_on false s ss = refl

placed_parts : (keys : List Label) (s : Carrier) (cs : List Carried)
    → lists_of_series keys s ≡ Ok cs → (others : List Carried)
    × (each (list_of_label keys s.0) s.1 ≡ Ok others) × ((0, s.0) ∷ others ≡ cs)
unfolding lists_of_series
placed_parts keys s cs h =
    let o = bind_ok (each (list_of_label keys s.0) s.1) _ cs h in
    let first : Carried = (0, s.0) in
    (o.0, o.1, ok_is (first ∷ o.0) cs o.2)

all_cons : (keys : List Label) (s : Carrier) (ss : List Carrier) (cs : List Carried)
    → each_all (lists_of_series keys) (s ∷ ss) ≡ Ok cs
    → (others more : List Carried) × (each (list_of_label keys s.0) s.1 ≡ Ok others)
    × (each_all (lists_of_series keys) ss ≡ Ok more) × (((0, s.0) ∷ others) ++ more ≡ cs)
unfolding each_all
all_cons keys s ss cs h =
    let a = bind_ok (lists_of_series keys s) _ cs h in
    let b = bind_ok (each_all (lists_of_series keys) ss) _ cs a.2 in
    let p = placed_parts keys s a.0 a.1 in
    (p.0, b.0, p.1, b.1, ap (λ (x : List Carried). x ++ b.0) p.2 ∙ ok_is (a.0 ++ b.0) cs b.2)

all_nil : (keys : List Label) (cs : List Carried)
    → each_all (lists_of_series keys) [] ≡ Ok cs → [] ≡ cs
unfolding each_all
all_nil keys cs h = ok_is [] cs h

split_first : (k r : ℕ) (others more cs : List Carried) → ((0, r) ∷ others) ++ more ≡ cs
    → references_carrying k cs
    ≡ references_carrying k ((0, r) ∷ others) ++ references_carrying k more
split_first k r others more cs e =
    let first : List Carried = (0, r) ∷ others in
    ap (references_carrying k) (sym e) ∙ refs_append k first more

-- the first list is that of all series
pub of_all : (symbols : List (List ℕ)) (keys : List Label) (ps : List SeriesEntry) (bs : List Body)
    (cs : List Carried) → each_all (lists_of_series keys)
    (carriers (agreement.entry_references ps) (checks.labels_of_each bs)) ≡ Ok cs
    → references_carrying 0 cs ≡ references (series_of symbols ps bs)
unfolding carriers series_of references_carrying
of_all symbols keys [] bs cs e = ap (references_carrying 0) (sym (all_nil keys cs e))
of_all symbols keys (p ∷ ps) [] cs e = ap (references_carrying 0) (sym (all_nil keys cs e))
of_all symbols keys (p ∷ ps) (b ∷ bs) cs e =
    let r = p.offset / 16 in
    let a =
    all_cons keys (r, b.labels)
    (carriers (agreement.entry_references ps) (checks.labels_of_each bs)) cs e in
    split_first 0 r a.0 a.1 cs a.4
    ∙ ap (λ (rs : List ℕ). (r ∷ rs) ++ references_carrying 0 a.1)
    (none_first keys r b.labels a.0 a.2)
    ∙ ap (λ (rs : List ℕ). r ∷ rs) (of_all symbols keys ps bs a.1 a.3)

-- and the list of a pair that of the series that carry it
pub of_pair : (symbols : List (List ℕ)) (keys : List Label) (k : ℕ) (t : Label)
    → ascending symbols ≡ true → rises key_before keys ≡ true → k < length keys
    → get_or keys k (0, 0) ≡ t → t.0 < length symbols → t.1 < length symbols
    → (ps : List SeriesEntry) (bs : List Body) (cs : List Carried)
    → ((j : ℕ) (d : Body) → j < length bs → AreLabels symbols 0 (get_or bs j d).labels)
    → each_all (lists_of_series keys)
    (carriers (agreement.entry_references ps) (checks.labels_of_each bs)) ≡ Ok cs
    → references_carrying (k + 1) cs
    ≡ references_with (get_or symbols t.0 []) (get_or symbols t.1 []) (series_of symbols ps bs)
unfolding carriers series_of references_carrying
of_pair symbols keys k t order rising inside at n_in v_in [] bs cs h e =
    ap (references_carrying (k + 1)) (sym (all_nil keys cs e))
of_pair symbols keys k t order rising inside at n_in v_in (p ∷ ps) [] cs h e =
    ap (references_carrying (k + 1)) (sym (all_nil keys cs e))
of_pair symbols keys k t order rising inside at n_in v_in (p ∷ ps) (b ∷ bs) cs h e =
    let r = p.offset / 16 in
    let n = get_or symbols t.0 [] in
    let v = get_or symbols t.1 [] in
    let a =
    all_cons keys (r, b.labels)
    (carriers (agreement.entry_references ps) (checks.labels_of_each bs)) cs e in
    let first : Carried = (0, r) in
    let skip : references_carrying (k + 1) (first ∷ a.0) ≡ references_carrying (k + 1) a.0 =
    with_other (k + 1) first a.0 (λ (q : 0 ≡ k + 1). omega (arith, q)) in
    let one =
    of_one symbols keys k t order rising inside at n_in v_in r 0 b.labels a.0
    (h 0 b (omega arith)) a.2 in
    let others =
    of_pair symbols keys k t order rising inside at n_in v_in ps bs a.1
    (λ j d lt. h (suc j) d (omega arith)) a.3 in
    split_first (k + 1) r a.0 a.1 cs a.4
    ∙ ap (λ (rs : List ℕ). rs ++ references_carrying (k + 1) a.1) (skip ∙ one)
    ∙ ap (λ (rs : List ℕ). if_so (carries n v (named symbols b.labels)) r ++ rs) others
    ∙ sym (chosen_on (carries n v (named symbols b.labels)) (series_at symbols p b)
    (filter (λ (s : Series). carries n v s.labels) (series_of symbols ps bs)))

-- ---- pairs that are not listed

abbrev pub IsAbsent : List (List ℕ) → List Label → List ℕ → List ℕ → Type 0
IsAbsent symbols keys name value =
    (k : ℕ) → k < length keys → named_label symbols (get_or keys k (0, 0)) ≡ (name, value) → ⊥

no_value : (symbols : List (List ℕ)) (keys : List Label) (name value : List ℕ)
    → IsAbsent symbols keys name value → (l : Label) (a : ℕ) → place_of keys l ≡ Some a
    → bytes_eq (get_or symbols l.0 []) name ≡ true → bytes_eq (get_or symbols l.1 []) value ≡ true
    → ⊥
no_value symbols keys name value lacks l a g n v =
    let f = place_found keys l a g in
    let e = bytes_exact (get_or symbols l.0 []) name n in
    let e' = bytes_exact (get_or symbols l.1 []) value v in
    let is : named_label symbols l ≡ (name, value) = λ i. (e i, e' i) in
    lacks a f.0 (ap (named_label symbols) f.1 ∙ is)

absent_one : (symbols : List (List ℕ)) (keys : List Label) (name value : List ℕ)
    → IsAbsent symbols keys name value → (r : ℕ) (ls : List Label) (cs : List Carried)
    → each (list_of_label keys r) ls ≡ Ok cs → carries name value (named symbols ls) ≡ false
absent_one symbols keys name value lacks r [] cs e = carries_none name value
absent_one symbols keys name value lacks r (l ∷ ls) cs e =
    let x = each_cons (list_of_label keys r) l ls cs e in
    go (absent_one symbols keys name value lacks r ls x.1 x.3)
    (bytes_eq (get_or symbols l.0 []) name) refl
  where
    n : List ℕ
    n = get_or symbols l.0 []

    v : List ℕ
    v = get_or symbols l.1 []

    place : (a : ℕ) × (place_of keys l ≡ Some a)
    place =
        let x = each_cons (list_of_label keys r) l ls cs e in
        let p = placed_is keys r l x.0 x.2 in (p.0, p.1)

    inner : bytes_eq n name ≡ true → (b : Bool) → bytes_eq v value ≡ b
        → (not (bytes_eq value []) && b) ≡ false
    inner q true q' = absurd (no_value symbols keys name value lacks l place.0 place.1 q q')
    inner q false q' = and_false (not (bytes_eq value []))

    go : carries name value (named symbols ls) ≡ false → (b : Bool) → bytes_eq n name ≡ b
        → carries name value (named symbols (l ∷ ls)) ≡ false
    go rest true q =
        carries_same name value n v (named symbols ls) q ∙ inner q (bytes_eq v value) refl
    go rest false q = carries_other name value n v (named symbols ls) q ∙ rest

pub of_none : (symbols : List (List ℕ)) (keys : List Label) (name value : List ℕ)
    → IsAbsent symbols keys name value
    → (ps : List SeriesEntry) (bs : List Body) (cs : List Carried) → each_all (lists_of_series keys)
    (carriers (agreement.entry_references ps) (checks.labels_of_each bs)) ≡ Ok cs
    → references_with name value (series_of symbols ps bs) ≡ []
unfolding carriers series_of
of_none symbols keys name value lacks [] bs cs e = refl
of_none symbols keys name value lacks (p ∷ ps) [] cs e = refl
of_none symbols keys name value lacks (p ∷ ps) (b ∷ bs) cs e =
    let r = p.offset / 16 in
    let a =
    all_cons keys (r, b.labels)
    (carriers (agreement.entry_references ps) (checks.labels_of_each bs)) cs e in
    chosen_on (carries name value (named symbols b.labels)) (series_at symbols p b)
    (filter (λ (s : Series). carries name value s.labels) (series_of symbols ps bs))
    ∙ ap (λ (c : Bool). if_so c r ++ references_with name value (series_of symbols ps bs))
    (absent_one symbols keys name value lacks r b.labels a.0 a.2)
    ∙ of_none symbols keys name value lacks ps bs a.1 a.3
