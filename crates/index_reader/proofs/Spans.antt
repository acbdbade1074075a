-- Where the pair of a name and a value, and the pairs of a name, stand.
use Rattle.std.proofs.Common.{◌≡◌, ℕ, zero, suc, ◌+◌, ◌-◌, ◌<◌, ◌≤◌, Bool, true, false, cond, ltb}
use Rattle.std.proofs.Common.{List, [], ◌∷◌, length, get_or, take, drop, Option, Some, None, refl}
use Rattle.std.proofs.Common.{sym, ap, ◌∙◌, inl, inr, arith}
use Rattle.std.specs.Prelude.{slice_get, slice_range, map, IfSome, IfNone}
use Rattle.std.specs.List.{Contains}
use Rattle.std.specs.List.Sorted.{IsPartitionedBy}
use Rattle.std.specs.Str.{bytes_eq}
use Rattle.std.specs.Ordering.{nat_cmp, ordering_then, is_eq}
use Rattle.std.specs.declared.cmp.Ordering.TheVariants.{Less, Greater}
use Rattle.std.specs.Cmp.Lexicographic.{texts_ties}
use Rattle.std.proofs.lemmas.Bool.{cases_lt, cases_eq}
use Rattle.std.proofs.lemmas.List.{length-map, length-take, length-drop, get_or-map, get_or-take}
use Rattle.std.proofs.lemmas.List.{get_or-drop}
use Rattle.std.proofs.lemmas.List.Sorted.{IsPartitionedBy-ltb, IsNonDecreasingBy-from_default}
use Rattle.labels.specs.Labels.{text_cmp}
use Rattle.labels.proofs.Texts.{bytes_exact, bytes_self}
use Rattle.index_reader.specs.Layout.{ascending, Label, rises}
use Rattle.index_reader.specs.Lookups.{next, index_of, key_cmp, key_before, symbol_of, place_of}
use Rattle.index_reader.specs.Indexes.{named_label, named, values_of}
use Rattle.index_reader.specs.KeptIndex.{AreInTable}
use Rattle.index_reader.proofs.Orders.{number_greater}
use Rattle.index_reader.proofs.Searching.{keys_total, strict_from_rises}
use Rattle.index_reader.proofs.Placing.{mapped_at}
use Rattle.index_reader.proofs.Texts.{got, stands_at, bytes_other, found_is, place_found, place_is}

pub if_none : {A : Type 0} (r : Option A) {X : Type 0} → X → IfNone r X
if_none (Some a) x = tt
if_none None x = x

true_or_false : (b : Bool) → b ≡ true → b ≡ false → ⊥
true_or_false b t f = let e : true ≡ false = sym t ∙ f in absurd cc

-- ---- what a search by place says

none_next : (o : Option ℕ) → next o ≡ None → o ≡ None
none_next None h = refl
none_next (Some k) h = absurd cc

none_step : {X : Type 0} (test : X → Bool) (x : X) (xs : List X) (o : Option ℕ) (b : Bool)
    → test x ≡ b → cond b (Some 0) (next o) ≡ None
    → (o ≡ None → (k : ℕ) (d : X) → k < length xs → test (get_or xs k d) ≡ false) → (k : ℕ) (d : X)
    → k < suc (length xs) → test (get_or (x ∷ xs) k d) ≡ false
none_step test x xs o true q h more k d lt = absurd cc
none_step test x xs o false q h more zero d lt = q
none_step test x xs o false q h more (suc k) d lt = more (none_next o h) k d (omega arith)

none_is : {X : Type 0} (test : X → Bool) (xs : List X) → index_of test xs ≡ None → (k : ℕ) (d : X)
    → k < length xs → test (get_or xs k d) ≡ false
unfolding index_of
none_is test [] h k d lt = absurd (omega arith)
none_is test (x ∷ xs) h k d lt =
    none_step test x xs (index_of test xs) (test x) refl h (λ e. none_is test xs e) k d lt

pub symbol_found : (symbols : List (List ℕ)) (text : List ℕ) (n : ℕ)
    → symbol_of symbols text ≡ Some n → (n < length symbols) × (get_or symbols n [] ≡ text)
symbol_found symbols text n h =
    let f = found_is (λ s. is_eq (text_cmp s text)) symbols [] n h in
    (f.0, bytes_exact (get_or symbols n []) text (texts_ties (get_or symbols n []) text ∙ f.1))

symbol_none : (symbols : List (List ℕ)) (text : List ℕ) (n : ℕ) → symbol_of symbols text ≡ None
    → n < length symbols → bytes_eq (get_or symbols n []) text ≡ false
symbol_none symbols text n h lt =
    texts_ties (get_or symbols n []) text ∙ none_is (λ s. is_eq (text_cmp s text)) symbols h n [] lt

no_symbol : (symbols : List (List ℕ)) (text : List ℕ) (n : ℕ) → symbol_of symbols text ≡ None
    → n < length symbols → get_or symbols n [] ≡ text → ⊥
no_symbol symbols text n h lt e =
    true_or_false (bytes_eq (get_or symbols n []) text) (ap (bytes_eq (get_or symbols n [])) (sym e)
    ∙ bytes_self (get_or symbols n [])) (symbol_none symbols text n h lt)

pub same_symbol : (symbols : List (List ℕ)) (i j : ℕ) → ascending symbols ≡ true
    → i < length symbols → j < length symbols → get_or symbols i [] ≡ get_or symbols j [] → i ≡ j
same_symbol symbols i j order a b e =
    elim (cases_eq i j) [
      | inl s ↦ s
      | inr n ↦
          absurd (true_or_false (bytes_eq (get_or symbols i []) (get_or symbols j []))
          (ap (bytes_eq (get_or symbols i [])) (sym e)
          ∙ bytes_self (get_or symbols i [])) (bytes_other symbols i j order a b (λ s. n s)))
    ]

-- ---- the pair of a name and a value

-- the pair at a place, by its symbols
pub listed_at : (symbols : List (List ℕ)) (keys : List Label) (i : ℕ) (p : List ℕ × List ℕ)
    → slice_get (named symbols keys) i ≡ Some p
    → (i < length keys) × (named_label symbols (get_or keys i (0, 0)) ≡ p)
listed_at symbols [] i p g = absurd cc
listed_at symbols (key ∷ keys) zero p g =
    let e : named_label symbols key ≡ p = cc in (omega arith, e)
listed_at symbols (key ∷ keys) (suc i) p g =
    let r = listed_at symbols keys i p g in (omega (arith, r.0), r.1)

-- no pair by its symbols, so none
not_listed : (symbols : List (List ℕ)) (keys : List Label) (p : List ℕ × List ℕ)
    → ((k : ℕ) → k < length keys → named_label symbols (get_or keys k (0, 0)) ≡ p → ⊥)
    → Contains (named symbols keys) p → ⊥
not_listed symbols keys p none c =
    let lt : c.0 < length keys =
    omega (arith, c.1, length-map keys (named_label symbols)) in
    none c.0 lt (sym (get_or-map (named_label symbols) keys c.0 (0, 0) p lt) ∙ c.2)

-- none, so none by its symbols
pub none_listed : (symbols : List (List ℕ)) (keys : List Label) (p : List ℕ × List ℕ)
    → (Contains (named symbols keys) p → ⊥) → (k : ℕ) → k < length keys
    → named_label symbols (get_or keys k (0, 0)) ≡ p → ⊥
none_listed symbols keys p none k lt e =
    none (
      k,
      omega (arith, lt, length-map keys (named_label symbols)),
      get_or-map (named_label symbols) keys k (0, 0) p lt ∙ e,
    )

pub no_name : (symbols : List (List ℕ)) (keys : List Label) (name value : List ℕ)
    → AreInTable symbols keys → symbol_of symbols name ≡ None
    → Contains (named symbols keys) (name, value) → ⊥
no_name symbols keys name value inside h = not_listed symbols keys (name, value) (λ k lt e.
    no_symbol symbols name (get_or keys k (0, 0)).0 h (inside k (0, 0) lt).0
    (ap (λ (p : List ℕ × List ℕ). p.0) e))

pub no_value : (symbols : List (List ℕ)) (keys : List Label) (name value : List ℕ)
    → AreInTable symbols keys → symbol_of symbols value ≡ None
    → Contains (named symbols keys) (name, value) → ⊥
no_value symbols keys name value inside h = not_listed symbols keys (name, value) (λ k lt e.
    no_symbol symbols value (get_or keys k (0, 0)).1 h (inside k (0, 0) lt).1
    (ap (λ (p : List ℕ × List ℕ). p.1) e))

pub pair_found : (symbols : List (List ℕ)) (keys : List Label) (name value : List ℕ) (n v : ℕ)
    (r : Option ℕ) → symbol_of symbols name ≡ Some n → symbol_of symbols value ≡ Some v
    → r ≡ place_of keys (n, v)
    → IfSome r (λ i. slice_get (named symbols keys) i ≡ Some (name, value))
pair_found symbols keys name value n v None a b e = tt
pair_found symbols keys name value n v (Some i) a b e =
    let f = place_found keys (n, v) i (sym e) in
    let p = (symbol_found symbols name n a).1 in
    let q = (symbol_found symbols value v b).1 in
    let is : named_label symbols (n, v) ≡ (name, value) = λ j. (p j, q j) in
    mapped_at (named_label symbols) keys i (get_or keys i (0, 0)) (stands_at keys i (0, 0) f.0)
    ∙ ap (λ (l : List ℕ × List ℕ). Some l) (ap (named_label symbols) f.1 ∙ is)

none_there : (symbols : List (List ℕ)) (keys : List Label) (name value : List ℕ) (n v : ℕ)
    → ascending symbols ≡ true → rises key_before keys ≡ true → AreInTable symbols keys
    → symbol_of symbols name ≡ Some n → symbol_of symbols value ≡ Some v
    → place_of keys (n, v) ≡ None
    → (k : ℕ) → k < length keys → named_label symbols (get_or keys k (0, 0)) ≡ (name, value) → ⊥
none_there symbols keys name value n v order rising inside a b e k lt t =
    let key = get_or keys k (0, 0) in
    let o = inside k (0, 0) lt in
    let p = symbol_found symbols name n a in
    let q = symbol_found symbols value v b in
    let x =
    same_symbol symbols key.0 n order o.0 p.0 (ap (λ (y : List ℕ × List ℕ). y.0) t ∙ sym p.1) in
    let y =
    same_symbol symbols key.1 v order o.1 q.0 (ap (λ (z : List ℕ × List ℕ). z.1) t ∙ sym q.1) in
    let s : key ≡ (n, v) = λ i. (x i, y i) in
    let found : place_of keys (n, v) ≡ Some k =
    ap (place_of keys) (sym s) ∙ place_is keys k rising lt in
    let c : Some k ≡ None = sym found ∙ e in
    absurd cc

pub pair_absent : (symbols : List (List ℕ)) (keys : List Label) (name value : List ℕ) (n v : ℕ)
    (r : Option ℕ) → ascending symbols ≡ true → rises key_before keys ≡ true
    → AreInTable symbols keys → symbol_of symbols name ≡ Some n → symbol_of symbols value ≡ Some v
    → r ≡ place_of keys (n, v)
    → IfNone r (Contains (named symbols keys) (name, value) → ⊥)
pair_absent symbols keys name value n v None order rising inside a b e =
    not_listed symbols keys (name, value)
    (none_there symbols keys name value n v order rising inside a b (sym e))
pair_absent symbols keys name value n v (Some i) order rising inside a b e = tt

-- ---- names do not fall

name_le : (a b : Label) → key_cmp a b ≡ Less → a.0 ≤ b.0
name_le a b h =
    elim (cases_lt b.0 a.0) [
      | inl lt ↦
          let e : Greater ≡ Less =
          sym (ap (λ o. ordering_then o (nat_cmp a.1 b.1)) (number_greater a.0 b.0 lt)) ∙ h in
          absurd cc
      | inr le ↦ le
    ]

names_rise : (keys : List Label) (i j : ℕ) → rises key_before keys ≡ true → i ≤ j → j < length keys
    → (get_or keys i (0, 0)).0 ≤ (get_or keys j (0, 0)).0
names_rise keys i j rising le lt =
    elim (cases_lt i j) [
      | inl l ↦
          name_le (get_or keys i (0, 0)) (get_or keys j (0, 0)) (strict_from_rises key_cmp
          keys_total keys rising i j (get_or keys i (0, 0)) (get_or keys j (0, 0)) l
          (stands_at keys i (0, 0) (omega arith)) (stands_at keys j (0, 0) lt))
      | inr g ↦
          let e : i ≡ j = omega arith in
          let s : (get_or keys i (0, 0)).0 ≡ (get_or keys j (0, 0)).0 =
          ap (λ (k : ℕ). (get_or keys k (0, 0)).0) e in
          omega (arith, s)
    ]

pub parted_by_name : (keys : List Label) (name : ℕ) → rises key_before keys ≡ true
    → IsPartitionedBy (λ (k : Label). ltb k.0 name) keys
parted_by_name keys name rising =
    IsPartitionedBy-ltb (λ (k : Label). k.0) keys name
    (IsNonDecreasingBy-from_default (λ (k : Label). k.0) keys (0, 0) (λ i j le lt. names_rise keys i j rising le lt))

-- ---- the values of a name

value_taken : (name n v : List ℕ) (ps : List (List ℕ × List ℕ)) → bytes_eq n name ≡ true
    → values_of name ((n, v) ∷ ps) ≡ v ∷ values_of name ps
value_taken name n v ps b = rw b refl

value_left : (name n v : List ℕ) (ps : List (List ℕ × List ℕ)) → bytes_eq n name ≡ false
    → values_of name ((n, v) ∷ ps) ≡ values_of name ps
value_left name n v ps b = rw b refl

pub no_values : (symbols : List (List ℕ)) (name : List ℕ) (keys : List Label)
    → AreInTable symbols keys → symbol_of symbols name ≡ None
    → values_of name (named symbols keys) ≡ []
no_values symbols name [] inside h = refl
no_values symbols name (key ∷ keys) inside h =
    value_left name (get_or symbols key.0 []) (get_or symbols key.1 []) (named symbols keys)
    (symbol_none symbols name key.0 h (inside 0 key (omega arith)).0)
    ∙ no_values symbols name keys (λ k d lt. inside (suc k) d (omega arith)) h

abbrev pub IsNamed : List (List ℕ) → List ℕ → List Label → ℕ → Bool → Type 0
IsNamed symbols name keys k b = bytes_eq (get_or symbols (get_or keys k (0, 0)).0 []) name ≡ b

abbrev pub values_at : List (List ℕ) → List Label → List (List ℕ)
values_at symbols keys = map (λ k. get_or symbols k.1 []) keys

spread : (symbols : List (List ℕ)) (name : List ℕ) (keys : List Label) (a b : ℕ) → a ≤ b
    → b ≤ length keys → ((k : ℕ) → k < a → IsNamed symbols name keys k false)
    → ((k : ℕ) → a ≤ k → k < b → IsNamed symbols name keys k true)
    → ((k : ℕ) → b ≤ k → k < length keys → IsNamed symbols name keys k false)
    → values_of name (named symbols keys) ≡ values_at symbols (take (b - a) (drop a keys))
spread symbols name [] zero zero le fits before within after = refl
spread symbols name [] zero (suc b) le fits before within after = absurd (omega arith)
spread symbols name [] (suc a) b le fits before within after = absurd (omega arith)
spread symbols name (key ∷ keys) zero zero le fits before within after =
    value_left name (get_or symbols key.0 []) (get_or symbols key.1 []) (named symbols keys)
    (after 0 (omega arith) (omega arith))
    ∙ spread symbols name keys zero zero (omega arith) (omega arith) (λ k lt. absurd (omega arith))
    (λ k l lt. absurd (omega arith)) (λ k l lt. after (suc k) (omega arith) (omega arith))
spread symbols name (key ∷ keys) zero (suc b) le fits before within after =
    let v = get_or symbols key.1 [] in
    let e : suc b - 0 ≡ suc b = omega arith in
    let f : b - 0 ≡ b = omega arith in
    let rest =
    spread symbols name keys zero b (omega arith) (omega arith) (λ k lt. absurd (omega arith))
    (λ k l lt. within (suc k) (omega arith) (omega arith))
    (λ k l lt. after (suc k) (omega arith) (omega arith)) in
    value_taken name (get_or symbols key.0 []) v (named symbols keys)
    (within 0 (omega arith) (omega arith))
    ∙ ap (λ (vs : List (List ℕ)). v ∷ vs) (rest ∙ ap (λ (n : ℕ). values_at symbols (take n keys)) f)
    ∙ ap (λ (n : ℕ). values_at symbols (take n (key ∷ keys))) (sym e)
spread symbols name (key ∷ keys) (suc a) zero le fits before within after = absurd (omega arith)
spread symbols name (key ∷ keys) (suc a) (suc b) le fits before within after =
    let e : suc b - suc a ≡ b - a = omega arith in
    value_left name (get_or symbols key.0 []) (get_or symbols key.1 []) (named symbols keys)
    (before 0 (omega arith))
    ∙ spread symbols name keys a b (omega arith) (omega arith)
    (λ k lt. before (suc k) (omega arith)) (λ k l lt. within (suc k) (omega arith) (omega arith))
    (λ k l lt. after (suc k) (omega arith) (omega arith))
    ∙ ap (λ (n : ℕ). values_at symbols (take n (drop a keys))) (sym e)

-- between the count of smaller names and that of smaller names or this one
pub values_between : (symbols : List (List ℕ)) (name : List ℕ) (keys : List Label) (n a b : ℕ)
    → ascending symbols ≡ true → AreInTable symbols keys → symbol_of symbols name ≡ Some n
    → a ≤ length keys → b ≤ length keys
    → ((k : ℕ) → k < a → (get_or keys k (0, 0)).0 < n)
    → ((k : ℕ) → a ≤ k → k < length keys → n ≤ (get_or keys k (0, 0)).0)
    → ((k : ℕ) → k < b → (get_or keys k (0, 0)).0 < n + 1)
    → ((k : ℕ) → b ≤ k → k < length keys → n + 1 ≤ (get_or keys k (0, 0)).0)
    → (a ≤ b) × (values_of name (named symbols keys) ≡ values_at symbols (slice_range keys a b))
values_between symbols name keys n a b order inside h a_in b_in below above below' above' =
    let s = symbol_found symbols name n h in
    let le = span_le keys n a b a_in below above' in
    let other = λ (k : ℕ). λ (lt : k < length keys). λ (d : (get_or keys k (0, 0)).0 ≡ n → ⊥).
    ap (bytes_eq (get_or symbols (get_or keys k (0, 0)).0 [])) (sym s.1)
    ∙ bytes_other symbols (get_or keys k (0, 0)).0 n order (inside k (0, 0) lt).0 s.0 d in (
      le,
      spread symbols name keys a b le b_in
          (λ k lt. other k (omega (arith, lt, a_in)) (λ (e : (get_or keys k (0, 0)).0 ≡ n).
          omega (arith, e, below k lt)))
          (λ k l lt.
          let e : (get_or keys k (0, 0)).0 ≡ n =
          omega (arith, above k l (omega (arith, lt, b_in)), below' k lt) in
          ap (λ (j : ℕ). bytes_eq (get_or symbols j []) name) e
          ∙ ap (λ (t : List ℕ). bytes_eq t name) s.1
          ∙ bytes_self name)
          (λ k l lt.
          other k lt (λ (e : (get_or keys k (0, 0)).0 ≡ n). omega (arith, e, above' k l lt))),
    )
  where
    span_le : (keys : List Label) (n a b : ℕ) → a ≤ length keys
        → ((k : ℕ) → k < a → (get_or keys k (0, 0)).0 < n)
        → ((k : ℕ) → b ≤ k → k < length keys → n + 1 ≤ (get_or keys k (0, 0)).0) → a ≤ b
    span_le keys n a b a_in below above' =
        elim (cases_lt b a) [
          | inl lt ↦
              absurd (omega (arith, below b lt, above' b (omega arith) (omega (arith, lt, a_in))))
          | inr le ↦ le
        ]

span_length : (keys : List Label) (a b : ℕ) → a ≤ b → b ≤ length keys
    → length (slice_range keys a b) ≡ b - a
span_length keys a b le fits = omega (arith, length-take (b - a) (drop a keys), length-drop a keys)

pub values_counted : (symbols : List (List ℕ)) (name : List ℕ) (keys : List Label) (a b : ℕ) → a ≤ b
    → b ≤ length keys
    → values_of name (named symbols keys) ≡ values_at symbols (slice_range keys a b)
    → b - a ≡ length (values_of name (named symbols keys))
values_counted symbols name keys a b le fits e =
    let f = ap (λ (vs : List (List ℕ)). length vs) e in
    omega (
      arith,
      f,
      length-map (slice_range keys a b) (λ (k : Label). get_or symbols k.1 []),
      span_length keys a b le fits,
    )

pub value_in : (symbols : List (List ℕ)) (name : List ℕ) (keys : List Label) (a b i : ℕ) → a ≤ b
    → b ≤ length keys
    → values_of name (named symbols keys) ≡ values_at symbols (slice_range keys a b)
    → i < length (values_of name (named symbols keys)) → a + i < length keys
value_in symbols name keys a b i le fits e lt =
    omega (arith, lt, fits, le, values_counted symbols name keys a b le fits e)

pub value_there : (symbols : List (List ℕ)) (name : List ℕ) (keys : List Label) (a b i : ℕ)
    (key : Label) (text : List ℕ) → a ≤ b → b ≤ length keys
    → values_of name (named symbols keys) ≡ values_at symbols (slice_range keys a b)
    → i < length (values_of name (named symbols keys))
    → slice_get keys (a + i) ≡ Some key → slice_get symbols key.1 ≡ Some text
    → slice_get (values_of name (named symbols keys)) i ≡ Some text
value_there symbols name keys a b i key text le fits e lt g t =
    let size = values_counted symbols name keys a b le fits e in
    let long = span_length keys a b le fits in
    let at_i : get_or (slice_range keys a b) i (0, 0) ≡ key =
    get_or-take (b - a) (drop a keys) i (0, 0) (omega (arith, lt, size))
    ∙ get_or-drop a keys i (0, 0)
    ∙ got keys (a + i) key (0, 0) g in
    let here : slice_get (slice_range keys a b) i ≡ Some key =
    stands_at (slice_range keys a b) i (0, 0) (omega (arith, lt, size, long))
    ∙ ap (λ (k : Label). Some k) at_i in
    ap (λ (vs : List (List ℕ)). slice_get vs i) e
    ∙ mapped_at (λ (k : Label). get_or symbols k.1 []) (slice_range keys a b) i key here
    ∙ ap (λ (x : List ℕ). Some x) (got symbols key.1 text [] t)
