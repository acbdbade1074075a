-- A field that is read stands there, and one that stands there is read.
use Rattle.std.proofs.Common.{◌≡◌, ℕ, ◌+◌, ◌*◌, ◌/◌, ◌%◌, ◌^◌, ◌<◌, ◌≤◌, Bool, true, false, eqb, ltb, ◌||◌, cond, List, [], ◌∷◌, ◌++◌, length, take, drop, Result, Ok, Err, refl, sym, ap, subst, ◌∙◌, inl, inr, arith, append_assoc, length-append}
use Rattle.std.specs.Int.{w32, w64, from_le_bytes}
use Rattle.std.proofs.lemmas.Bool.{ltb-false, le-ltb, eqb-true, false_from_ne_true, cases_lt}
use Rattle.std.proofs.lemmas.List.{take-append-drop, length-take, length-take-le, get_or-take, get_or-drop, take_at, drop_at, get_or_past, get_or-append-add}
use Rattle.std.proofs.lemmas.Nat.{le_bytes_4, le_bytes_8}
use Rattle.byteorder.specs.Endian.{little_number, little_bytes}
use Rattle.byteorder.specs.Numbers.{little_from-lt, little_number-reads_back}
use Rattle.std.specs.Prelude.{IfOk}
use Rattle.wire.specs.Outcome.{◌>>=◌, Answers}
use Rattle.varints.specs.Varint.{varint_at, IsVarint}
use Rattle.varints.specs.declared.error.VarintError.{VarintError}
use Rattle.wire.specs.Spelling.{IsBytes}
use Rattle.varints.proofs.Laws.{chosen, varint_found, varint_again}
use Rattle.protobuf_fields.specs.declared.error.Fault.{Fault}
use Rattle.protobuf_fields.specs.declared.error.Fault.TheVariants.{Short, Key}
use Rattle.protobuf_fields.specs.Format.{Value, Number, Eight, Text, Four, number_of, kind_of, IsBody, IsField}
use Rattle.protobuf_fields.specs.Reading.{or_fault, bytes_at, number_at, body_at, field_at}

pub bind_ok : {A B E : Type 0} (r : Result A E) (f : A → Result B E) (y : B) → (r >>= f) ≡ Ok y
    → (x : A) × (r ≡ Ok x) × (f x ≡ Ok y)
bind_ok (Ok x) f y e = (x, refl, e)
bind_ok (Err d) f y e = absurd cc

pub not_failed : {A E : Type 0} (b : Bool) (d : E) (r : Result A E) (y : A)
    → cond b (Err d) r ≡ Ok y → (b ≡ false) × (r ≡ Ok y)
not_failed true d r y e = absurd cc
not_failed false d r y e = (refl, e)

abbrev pub read : {X E : Type 0} → X → List ℕ → Result (X × List ℕ) E
read a x = Ok (a, x)

pub same_read : {X E : Type 0} (a b : X) (x y : List ℕ) → read {E = E} a x ≡ read b y → (a ≡ b) × (x ≡ y)
same_read {X = X} a b x y e =
    let s : X × List ℕ = (a, x) in
    let t : X × List ℕ = (b, y) in
    let p : s ≡ t = cc in
    (ap (λ (q : X × List ℕ). q.0) p, ap (λ (q : X × List ℕ). q.1) p)

pub IsBytes-drop : (n : ℕ) (bytes : List ℕ) → IsBytes bytes → IsBytes (drop n bytes)
IsBytes-drop n bytes h i = rw get_or-drop (h (n + i))

pub IsBytes-take : (n : ℕ) (bytes : List ℕ) → IsBytes bytes → IsBytes (take n bytes)
IsBytes-take n bytes h i =
    elim (cases_lt i n) [
      | inl lt ↦ rw (get_or-take n bytes i 0 lt) (h i)
      | inr le ↦ rw (get_or_past (take n bytes) i 0 (omega (arith, length-take n bytes))) (omega arith)
    ]

pub IsBytes-back : (a b : List ℕ) → IsBytes (a ++ b) → IsBytes b
IsBytes-back a b h i = rw (← get_or-append-add a b i 0) (h (length a + i))

fault_ok : (r : Result (ℕ × List ℕ) VarintError) (x : ℕ × List ℕ) → or_fault r ≡ Ok x → r ≡ Ok x
fault_ok (Ok y) x e = cc
fault_ok (Err f) x e = absurd cc

little_8 : (bytes : List ℕ) → IsBytes bytes → 8 ≤ length bytes → little_bytes 8 (little_number 8 bytes) ≡ take 8 bytes
little_8 bytes fits le =
    let t = λ (i : ℕ). λ (lt : i < 8). get_or-take 8 bytes i 0 lt in
    let same : little_number 8 bytes ≡ from_le_bytes w64 (take 8 bytes) = omega (
      arith,
      t 0 (omega arith),
      t 1 (omega arith),
      t 2 (omega arith),
      t 3 (omega arith),
      t 4 (omega arith),
      t 5 (omega arith),
      t 6 (omega arith),
      t 7 (omega arith),
    ) in
    le_bytes_8 (take 8 bytes) _ (omega (arith, length-take 8 bytes)) (IsBytes-take 8 bytes fits) same

little_4 : (bytes : List ℕ) → IsBytes bytes → 4 ≤ length bytes → little_bytes 4 (little_number 4 bytes) ≡ take 4 bytes
little_4 bytes fits le =
    let t = λ (i : ℕ). λ (lt : i < 4). get_or-take 4 bytes i 0 lt in
    let same : little_number 4 bytes ≡ from_le_bytes w32 (take 4 bytes) = omega (
      arith,
      t 0 (omega arith),
      t 1 (omega arith),
      t 2 (omega arith),
      t 3 (omega arith),
    ) in
    le_bytes_4 (take 4 bytes) _ (omega (arith, length-take 4 bytes)) (IsBytes-take 4 bytes fits) same

number_took : (k : ℕ) (bytes : List ℕ) (x : ℕ × List ℕ) → IsBytes bytes
    → (k ≤ length bytes → little_bytes k (little_number k bytes) ≡ take k bytes)
    → number_at k bytes ≡ Ok x → (bytes ≡ little_bytes k x.0 ++ x.1) × (x.0 < 256 ^ k)
number_took k bytes x fits text e =
    let t = not_failed (ltb (length bytes) k) Short _ x e in
    let le = ltb-false (length bytes) k t.0 in
    let p = same_read (little_number k bytes) x.0 (drop k bytes) x.1 t.1 in (
      sym (ap (λ (n : ℕ). little_bytes k n ++ x.1) (sym p.0) ∙ ap (λ (s : List ℕ). s ++ x.1) (text le) ∙ ap (λ (s : List ℕ). take k bytes ++ s) (sym p.1) ∙ take-append-drop k bytes),
      rw (← p.0) (little_from-lt 0 k bytes fits),
    )

bytes_took : (k : ℕ) (bytes : List ℕ) (x : List ℕ × List ℕ) → bytes_at k bytes ≡ Ok x → (bytes ≡ x.0 ++ x.1) × (length x.0 ≡ k)
bytes_took k bytes x e =
    let t = not_failed (ltb (length bytes) k) Short _ x e in
    let p = same_read (take k bytes) x.0 (drop k bytes) x.1 t.1 in (
      sym (ap (λ (s : List ℕ). s ++ x.1) (sym p.0) ∙ ap (λ (s : List ℕ). take k bytes ++ s) (sym p.1) ∙ take-append-drop k bytes),
      ap length (sym p.0) ∙ length-take-le k bytes (ltb-false _ _ t.0),
    )

-- a body of each kind
pub record Took (n kind : ℕ) (bytes : List ℕ) (x : Value × List ℕ) : Type 0 where
  pub body : List ℕ
  pub parts : bytes ≡ body ++ x.1
  pub number : number_of x.0 ≡ n
  pub kind_is : kind_of x.0 ≡ kind
  pub body_is : IsBody x.0 body

made : (n kind : ℕ) (bytes : List ℕ) (v w : Value) (rest last : List ℕ) (body : List ℕ) → read {E = Fault} v rest ≡ Ok (w, last)
    → bytes ≡ body ++ rest → number_of v ≡ n → kind_of v ≡ kind → IsBody v body → Took n kind bytes (w, last)
made n kind bytes v w rest last body e parts number kind_is body_is =
    let p = same_read {E = Fault} v w rest last e in
    record {
      body = body;
      parts = parts ∙ ap (λ (s : List ℕ). body ++ s) p.1;
      number = ap number_of (sym p.0) ∙ number;
      kind_is = ap kind_of (sym p.0) ∙ kind_is;
      body_is = subst (λ (u : Value). IsBody u body) p.0 body_is;
    }

body_took : (n kind : ℕ) (bytes : List ℕ) (x : Value × List ℕ) → IsBytes bytes → body_at n kind bytes ≡ Ok x → Took n kind bytes x
unfolding body_at
body_took n kind bytes x fits e =
    elim (chosen (eqb kind 0) _ _ _ e) [
      | inl a ↦
          let z = eqb-true kind 0 a.0 in
          let v = bind_ok (or_fault (varint_at bytes)) _ x a.1 in
          let f = varint_found bytes v.0 fits (fault_ok (varint_at bytes) v.0 v.1) in
          made n kind bytes (Number n v.0.0) x.0 v.0.1 x.1 f.0 v.2 f.2 refl (sym z) f.1
      | inr a ↦ elim (chosen (eqb kind 1) _ _ _ a.1) [
        | inl b ↦
            let z = eqb-true kind 1 b.0 in
            let v = bind_ok (number_at 8 bytes) _ x b.1 in
            let f = number_took 8 bytes v.0 fits (little_8 bytes fits) v.1 in
            made n kind bytes (Eight n v.0.0) x.0 v.0.1 x.1 (little_bytes 8 v.0.0) v.2 f.0 refl (sym z) (f.1, refl)
        | inr b ↦ elim (chosen (eqb kind 2) _ _ _ b.1) [
          | inl c ↦
              let z = eqb-true kind 2 c.0 in
              let k = bind_ok (or_fault (varint_at bytes)) _ x c.1 in
              let f = varint_found bytes k.0 fits (fault_ok (varint_at bytes) k.0 k.1) in
              let v = bind_ok (bytes_at k.0.0 k.0.1) _ x k.2 in
              let g = bytes_took k.0.0 k.0.1 v.0 v.1 in
              made n kind bytes (Text n v.0.0) x.0 v.0.1 x.1 (f.0 ++ v.0.0) v.2
              (f.2 ∙ ap (λ (s : List ℕ). f.0 ++ s) g.0 ∙ sym (append_assoc f.0 v.0.0 v.0.1)) refl (sym z)
              (f.0, rw g.1 f.1, refl)
          | inr c ↦ elim (chosen (eqb kind 5) _ _ _ c.1) [
            | inl d ↦
                let z = eqb-true kind 5 d.0 in
                let v = bind_ok (number_at 4 bytes) _ x d.1 in
                let f = number_took 4 bytes v.0 fits (little_4 bytes fits) v.1 in
                made n kind bytes (Four n v.0.0) x.0 v.0.1 x.1 (little_bytes 4 v.0.0) v.2 f.0 refl (sym z) (f.1, refl)
            | inr d ↦ absurd (let h = d.1 in cc)
          ]
        ]
      ]
    ]

-- neither of two tests held
neither : (p q : Bool) → (p || q) ≡ false → (p ≡ false) × (q ≡ false)
neither true q e = absurd cc
neither false q e = (refl, e)

pub field_took : (bytes : List ℕ) (x : Value × List ℕ) → IsBytes bytes → field_at bytes ≡ Ok x
    → (front : List ℕ) × IsField front x.0 × (bytes ≡ front ++ x.1)
unfolding field_at
field_took bytes x fits e =
    let k = bind_ok (or_fault (varint_at bytes)) _ x e in
    let f = varint_found bytes k.0 fits (fault_ok (varint_at bytes) k.0 k.1) in
    let n = k.0.0 / 8 in
    let kind = k.0.0 % 8 in
    let t = not_failed (eqb n 0 || ltb 0x1fff_ffff n) Key _ x k.2 in
    let s = neither (eqb n 0) (ltb 0x1fff_ffff n) t.0 in
    let few : IsBytes k.0.1 = IsBytes-back f.0 k.0.1 (subst IsBytes f.2 fits) in
    let b = body_took n kind k.0.1 x few t.1 in
    let some : 0 < n = grind arith in
    let small = ltb-false 0x1fff_ffff n s.1 in
    let key : k.0.0 ≡ 8 * number_of x.0 + kind_of x.0 = (let p = b.number in let q = b.kind_is in omega arith) in
    let number = b.number in (
      f.0 ++ b.body,
      record {
        key = f.0;
        body = b.body;
        parts = refl;
        key_is = rw (← key) f.1;
        some = rw number some;
        few = rw number (omega arith);
        body_is = b.body_is;
      },
      f.2 ∙ ap (λ (s : List ℕ). f.0 ++ s) b.parts ∙ sym (append_assoc f.0 b.body x.1),
    )

-- what stands there is read
number_again : (k n : ℕ) (rest : List ℕ) → n < 256 ^ k → length (little_bytes k n) ≡ k → number_at k (little_bytes k n ++ rest) ≡ Ok (n, rest)
number_again k n rest lt len =
    let long : ltb (length (little_bytes k n ++ rest)) k ≡ false = le-ltb _ _ (omega (arith, length-append (little_bytes k n) rest)) in
    let back : little_number k (little_bytes k n ++ rest) ≡ n = little_number-reads_back k n rest lt in
    rw (long, back, drop_at (little_bytes k n) rest k len) refl

bytes_again : (text rest : List ℕ) → bytes_at (length text) (text ++ rest) ≡ Ok (text, rest)
bytes_again text rest =
    let long : ltb (length (text ++ rest)) (length text) ≡ false = le-ltb _ _ (omega (arith, length-append text rest)) in
    rw (long, take_at text rest (length text) refl, drop_at text rest (length text) refl) refl

eight_by : (n v : ℕ) (bytes rest : List ℕ) → number_at 8 bytes ≡ Ok (v, rest) → body_at n 1 bytes ≡ Ok (Eight n v, rest)
unfolding body_at
eight_by n v bytes rest e = ap (λ (r : Result (ℕ × List ℕ) Fault). r >>= λ v. Ok (Eight n v.0, v.1)) e

four_by : (n v : ℕ) (bytes rest : List ℕ) → number_at 4 bytes ≡ Ok (v, rest) → body_at n 5 bytes ≡ Ok (Four n v, rest)
unfolding body_at
four_by n v bytes rest e = ap (λ (r : Result (ℕ × List ℕ) Fault). r >>= λ v. Ok (Four n v.0, v.1)) e

varint_by : (n v : ℕ) (bytes rest : List ℕ) → varint_at bytes ≡ Ok (v, rest) → body_at n 0 bytes ≡ Ok (Number n v, rest)
unfolding body_at
varint_by n v bytes rest e = ap (λ (r : Result (ℕ × List ℕ) VarintError). or_fault r >>= λ v. Ok (Number n v.0, v.1)) e

text_by : (n k : ℕ) (bytes behind text rest : List ℕ) → varint_at bytes ≡ Ok (k, behind) → bytes_at k behind ≡ Ok (text, rest)
    → body_at n 2 bytes ≡ Ok (Text n text, rest)
unfolding body_at
text_by n k bytes behind text rest e f =
    ap (λ (r : Result (ℕ × List ℕ) VarintError). or_fault r >>= λ k. bytes_at k.0 k.1 >>= λ v. Ok (Text n v.0, v.1)) e
    ∙ ap (λ (r : Result (List ℕ × List ℕ) Fault). r >>= λ v. Ok (Text n v.0, v.1)) f

body_again : (v : Value) (body rest : List ℕ) → IsBody v body → body_at (number_of v) (kind_of v) (body ++ rest) ≡ Ok (v, rest)
body_again (Number n v) body rest b = varint_by n v (body ++ rest) rest (varint_again body rest v b)
body_again (Eight n v) body rest b =
    ap (λ (s : List ℕ). body_at n 1 (s ++ rest)) b.1 ∙ eight_by n v (little_bytes 8 v ++ rest) rest (number_again 8 v rest b.0 refl)
body_again (Four n v) body rest b =
    ap (λ (s : List ℕ). body_at n 5 (s ++ rest)) b.1 ∙ four_by n v (little_bytes 4 v ++ rest) rest (number_again 4 v rest b.0 refl)
body_again (Text n text) body rest b =
    ap (λ (s : List ℕ). body_at n 2 (s ++ rest)) b.2 ∙ ap (body_at n 2) (append_assoc b.0 text rest)
    ∙ text_by n (length text) (b.0 ++ (text ++ rest)) (text ++ rest) text rest (varint_again b.0 (text ++ rest) (length text) b.1) (bytes_again text rest)

kind_small : (v : Value) → kind_of v < 8
kind_small (Number n v) = omega arith
kind_small (Eight n v) = omega arith
kind_small (Text n v) = omega arith
kind_small (Four n v) = omega arith

field_by : (bytes : List ℕ) (key : ℕ × List ℕ) (n kind : ℕ) → varint_at bytes ≡ Ok key → key.0 / 8 ≡ n → key.0 % 8 ≡ kind → 0 < n → n < 2 ^ 29
    → field_at bytes ≡ body_at n kind key.1
unfolding field_at
field_by bytes key n kind e f g some few =
    let no : eqb n 0 ≡ false = false_from_ne_true (eqb n 0) (λ h. omega (arith, eqb-true n 0 h)) in
    rw (e, f, g, no, le-ltb 0x1fff_ffff n (omega arith)) refl

pub field_again : (front rest : List ℕ) (v : Value) → IsField front v → field_at (front ++ rest) ≡ Ok (v, rest)
field_again front rest v f =
    let k = kind_small v in
    let n = number_of v in
    ap (λ (s : List ℕ). field_at (s ++ rest)) f.parts ∙ ap field_at (append_assoc f.key f.body rest)
    ∙ field_by (f.key ++ (f.body ++ rest)) (8 * n + kind_of v, f.body ++ rest) n (kind_of v)
    (varint_again f.key (f.body ++ rest) (8 * n + kind_of v) f.key_is) (omega arith) (omega arith) f.some f.few
    ∙ body_again v f.body rest f.body_is

some_key : (key body : List ℕ) (n : ℕ) → [] ≡ key ++ body → IsVarint key n → ⊥
some_key [] body n e v = v.spelled
some_key (b ∷ key) body n e v = absurd cc

-- a field has some bytes
pub some_bytes : (front : List ℕ) (v : Value) → IsField front v → 0 < length front
some_bytes [] v f = absurd (some_key f.key f.body (8 * number_of v + kind_of v) f.parts f.key_is)
some_bytes (b ∷ front) v f = omega arith

pub is_found : {X : Type 0} (view : X → Value × List ℕ) (r : Result X Fault) (bytes : List ℕ)
    → IsBytes bytes → Answers view r (field_at bytes)
    → IfOk r (λ x. (text : List ℕ) × IsField text (view x).0 × (bytes ≡ text ++ (view x).1))
is_found view (Ok x) bytes fits h = field_took bytes (view x) fits h
is_found view (Err e) bytes fits h = tt
