-- What loops have written stands for what they were handed.
use Rattle.std.proofs.Common.{◌≡◌, ◌⊎◌, inl, inr, ℕ, suc, ◌-◌, ◌+◌, ◌≤◌, ◌<◌, ◌^◌, true, false, eqb, ltb, List, [], ◌∷◌, ◌++◌}
use Rattle.std.proofs.Common.{length, Result, Ok, refl, sym, ap, subst, ◌∙◌, append_assoc, arith}
use Rattle.std.specs.Prelude.{ℤ, ◌+ℤ◌, ◌-ℤ◌, Option, Some, None, cond}
use Rattle.std.proofs.lemmas.Bool.{cases_lt, lt-ltb, le-ltb}
use Rattle.std.proofs.lemmas.Bool.Decides.{nat_tests}
use Rattle.std.proofs.lemmas.Int.{ints}
use Rattle.std.proofs.lemmas.List.{append-nil}
use Rattle.wire.specs.Spelling.{uvarint, varint, zigzag, IsBytes}
use Rattle.wire.proofs.Laws.{uvarint_again}
use Rattle.wire.proofs.Signed.{varint_again}
use Rattle.labels.specs.Contents.{is_time}
use Rattle.name_table.specs.Names.{Label, number_of}
use Rattle.name_table.proofs.Numbers.{is_new_when, label_there, number_le}
use Rattle.numbered_text.specs.declared.error.NumberError.{NumberError}
use Rattle.numbered_text.specs.Each.{Read, Reader, each_at, many_at}
use Rattle.numbered_text.specs.Reading.{name_at, new_at, label_at, run_at, runs_of, sample_at}
use Rattle.numbered_text.specs.Reading.{sample_made, time_after, begun, plain_of}
use Rattle.numbered_text.specs.Writing.{Writes}
use Rattle.numbered_text.proofs.Locals.{label_local}

module _ {S : Type 0} (at : Reader S) where
  -- a loop over items has come so far: what it wrote, with what the rest stands for, stands for all
  pub record SoFar (count i : ℕ) (s t : S) (bytes rest old out : List ℕ) : Type 0 where
    pub text : List ℕ
    pub front : List ℕ
    pub written : out ≡ old ++ text
    pub parts : bytes ≡ front ++ rest
    pub on : (more f : List ℕ) (u : S) (left : List ℕ)
        → each_at at (count - i) t more ≡ Ok ((f, u), left)
        → each_at at count s (text ++ more) ≡ Ok ((front ++ f, u), left)

  pub begins : (count : ℕ) (s : S) (bytes old : List ℕ) → SoFar count 0 s s bytes bytes old old
  begins count s bytes old = record {
    text = [];
    front = [];
    written = sym (append-nil old);
    parts = refl;
    on = λ more f u left h.
        subst (λ (n : ℕ). each_at at n s more ≡ Ok ((f, u), left))
        (let k : count - 0 ≡ count = omega arith in k) h;
  }

  abbrev read_as : List ℕ → S → List ℕ → Read S
  read_as f u left = Ok ((f, u), left)

  pub goes_on : (count i : ℕ) (s t u : S) (bytes rest after old out new : List ℕ) → i < count
      → Writes at t u rest after out new → SoFar count i s t bytes rest old out
      → SoFar count (i + 1) s u bytes after old new
  unfolding each_at
  goes_on count i s t u bytes rest after old out new lt w h =
      let m = count - (i + 1) in
      let k : count - i ≡ suc m = omega arith in
      record {
        text = h.text ++ w.0;
        front = h.front ++ w.2.front;
        written = w.1 ∙ (ap (λ (y : List ℕ). y ++ w.0) h.written ∙ append_assoc old h.text w.0);
        parts = h.parts ∙ (ap (λ (y : List ℕ). h.front ++ y) w.2.parts
            ∙ sym (append_assoc h.front w.2.front after));
        on = λ more f v left g.
            let one : each_at at (count - i) t (w.0 ++ more) ≡ Ok ((w.2.front ++ f, v), left) =
            rw (k, w.2.again more, g) refl in
            let all = h.on (w.0 ++ more) (w.2.front ++ f) v left one in
            ap (each_at at count s) (append_assoc h.text w.0 more)
            ∙ (all ∙ ap (λ (y : List ℕ). read_as y v left) (sym (append_assoc h.front w.2.front f)));
      }

  pub ends : (count i : ℕ) (s t : S) (bytes rest old out : List ℕ) → count ≤ i
      → SoFar count i s t bytes rest old out → Writes (each_at at count) s t bytes rest old out
  unfolding each_at
  ends count i s t bytes rest old out le h =
      let k : count - i ≡ 0 = omega arith in (
        h.text,
        h.written,
        record {
          front = h.front;
          parts = h.parts;
          again = λ more.
              let none : each_at at (count - i) t more ≡ Ok (([], t), more) = rw k refl in
              h.on more [] t more none
              ∙ ap (λ (y : List ℕ). read_as y t more) (append-nil h.front);
        },
      )

  -- how many, and the items
  pub many : (n : ℕ) (s t : S) (bytes items rest old counted new : List ℕ) → n < 2 ^ 64
      → bytes ≡ uvarint n ++ items → counted ≡ old ++ uvarint n
      → Writes (each_at at n) s t items rest counted new
      → Writes (many_at at) s t bytes rest old new
  unfolding many_at
  many n s t bytes items rest old counted new small is put w = (
    uvarint n ++ w.0,
    w.1 ∙ (ap (λ (y : List ℕ). y ++ w.0) put ∙ append_assoc old (uvarint n) w.0),
    record {
      front = uvarint n ++ w.2.front;
      parts = is ∙ (ap (λ (y : List ℕ). uvarint n ++ y) w.2.parts
          ∙ sym (append_assoc (uvarint n) w.2.front rest));
      again = λ more.
          let one = uvarint_again n (w.0 ++ more) small in
          ap (many_at at s) (append_assoc (uvarint n) w.0 more) ∙ rw (one, w.2.again more) refl;
    },
  )

-- a label set by its number

abbrev names_read : List ℕ → List Label → List ℕ → Read (List Label)
names_read f u left = Ok ((f, u), left)

self : (n : ℕ) → eqb n n ≡ true
self n = grind (arith, nat_tests)

by_place : (names after : List Label) (l : Label) (bytes rest old new : List ℕ)
    → IsBytes bytes → label_at bytes ≡ Ok (l, rest) → number_of l names < 2 ^ 64
    → (number_of l names < length names
    → (new ≡ old ++ uvarint (number_of l names)) × (after ≡ names))
    → (number_of l names ≡ length names
    → (new ≡ old ++ (uvarint (length names) ++ l)) × (after ≡ names ++ l ∷ []))
    → (number_of l names < length names) ⊎ (number_of l names ≡ length names)
    → Writes name_at names after bytes rest old new
unfolding name_at new_at
by_place names after l bytes rest old new fits read small known fresh (inl lt) =
    let n = number_of l names in
    let p = label_local bytes l rest fits read in
    let put = known lt in (
      uvarint n,
      put.0,
      record {
        front = l;
        parts = p.parts;
        again = λ more.
            let one = uvarint_again n more small in
            let low : ltb n (length names) ≡ true = lt-ltb _ _ lt in
            rw (one, low, put.1)
            (ap (λ (y : List ℕ). names_read y names more) (label_there l names lt));
      },
    )
by_place names after l bytes rest old new fits read small known fresh (inr same) =
    let n = length names in
    let p = label_local bytes l rest fits read in
    let put = fresh same in
    let few : n < 2 ^ 64 = omega (arith, small, same) in (
      uvarint n ++ l,
      put.0,
      record {
        front = l;
        parts = p.parts;
        again = λ more.
            let one = uvarint_again n (l ++ more) few in
            let high : ltb n n ≡ false = le-ltb _ _ (omega arith) in
            let new_one = is_new_when l names (omega (arith, same)) in
            ap (name_at names) (append_assoc (uvarint n) l more)
            ∙ rw (one, high, self n, p.again more, new_one, put.1) refl;
      },
    )

place : (l : Label) (names : List Label)
    → (number_of l names < length names) ⊎ (number_of l names ≡ length names)
place l names =
    elim (cases_lt (number_of l names) (length names)) [
      | inl lt ↦ inl lt
      | inr ge ↦ inr (omega (arith, number_le l names))
    ]

pub label_written : (names after : List Label) (l : Label) (bytes rest old new : List ℕ)
    → IsBytes bytes → label_at bytes ≡ Ok (l, rest) → number_of l names < 2 ^ 64
    → (number_of l names < length names
    → (new ≡ old ++ uvarint (number_of l names)) × (after ≡ names))
    → (number_of l names ≡ length names
    → (new ≡ old ++ (uvarint (length names) ++ l)) × (after ≡ names ++ l ∷ []))
    → Writes name_at names after bytes rest old new
label_written names after l bytes rest old new fits read small known fresh =
    by_place names after l bytes rest old new fits read small known fresh (place l names)

-- a sample

later : (t u : ℤ) → (t +ℤ (u -ℤ t)) ≡ u
later t u = omega (arith, ints)

time_again : (t u : ℤ) → is_time u ≡ true → time_after t (u -ℤ t) ≡ Some u
unfolding time_after
time_again t u h = ap (λ (v : ℤ). cond (is_time v) (Some v) None) (later t u) ∙ rw h refl

pub sample_written : (t u v step : ℤ) (bytes rest old new : List ℕ) → is_time u ≡ true
    → step ≡ u -ℤ t → zigzag step < 2 ^ 64 → zigzag v < 2 ^ 64
    → bytes ≡ varint u ++ (varint v ++ rest) → new ≡ old ++ (varint step ++ varint v)
    → Writes sample_at t u bytes rest old new
unfolding sample_at
sample_written t u v step bytes rest old new dated is small value parts put = (
  varint step ++ varint v,
  put,
  record {
    front = varint u ++ varint v;
    parts = parts ∙ sym (append_assoc (varint u) (varint v) rest);
    again = λ more.
        let a = varint_again step (varint v ++ more) small in
        let b = varint_again v more value in
        ap (sample_at t) (append_assoc (varint step) (varint v) more)
        ∙ (rw (a, b) refl
        ∙ ap (λ (o : Option ℤ). sample_made o v more)
        (ap (time_after t) is ∙ time_again t u dated));
  },
)

-- a run

pub run_written : (names after : List Label) (t u : ℤ) (bytes mid rest old one new : List ℕ)
    → Writes name_at names after bytes mid old one
    → Writes (many_at sample_at) t u mid rest one new
    → Writes run_at (names, t) (after, u) bytes rest old new
unfolding run_at
run_written names after t u bytes mid rest old one new w v = (
  w.0 ++ v.0,
  v.1 ∙ (ap (λ (y : List ℕ). y ++ v.0) w.1 ∙ append_assoc old w.0 v.0),
  record {
    front = w.2.front ++ v.2.front;
    parts = w.2.parts ∙ (ap (λ (y : List ℕ). w.2.front ++ y) v.2.parts
        ∙ sym (append_assoc w.2.front v.2.front rest));
    again = λ more.
        ap (run_at (names, t)) (append_assoc w.0 v.0 more)
        ∙ rw (w.2.again (v.0 ++ more), v.2.again more) refl;
  },
)

-- a batch

abbrev answer : List ℕ → List Label → Result (List ℕ × List Label) NumberError
answer y after = Ok (1 ∷ y, after)

none_left : (xs : List ℕ) → length xs ≤ 0 → xs ≡ []
none_left [] le = refl
none_left (x ∷ xs) le = absurd (omega (arith, le))

pub batch_written : (names after : List Label) (u : ℤ) (bytes rest out : List ℕ) → length rest ≤ 0
    → Writes (many_at run_at) (begun names) (after, u) bytes rest (4 ∷ []) out
    → plain_of names out ≡ Ok (1 ∷ bytes, after)
unfolding runs_of
batch_written names after u bytes rest out few w =
    let none = none_left rest few in
    let text : out ≡ 4 ∷ w.0 = w.1 in
    let whole : bytes ≡ w.2.front =
    w.2.parts ∙ (ap (λ (y : List ℕ). w.2.front ++ y) none ∙ append-nil w.2.front) in
    let one : many_at run_at (begun names) w.0 ≡ Ok ((w.2.front, (after, u)), []) =
    ap (many_at run_at (begun names)) (sym (append-nil w.0)) ∙ w.2.again [] in
    let read : runs_of names w.0 ≡ Ok (1 ∷ w.2.front, after) = rw one refl in
    ap (plain_of names) text ∙ (read ∙ ap (λ (y : List ℕ). answer y after) (sym whole))
