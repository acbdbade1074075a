-- Reading items one after the other, as a loop does.
use Rattle.std.proofs.Common.{◌≡◌, ℕ, suc, ◌-◌, ◌+◌, ◌≤◌, ◌<◌, List, ◌++◌, Result, Ok, Err}
use Rattle.std.proofs.Common.{refl, sym, ap, subst, ◌∙◌, append_assoc, arith}
use Rattle.std.proofs.lemmas.List.{append-nil}
use Rattle.std.specs.Prelude.{ℤ}
use Rattle.wire.specs.Outcome.{◌>>=◌, or_refused, Fails}
use Rattle.wire.specs.Reading.{uvarint_at}
use Rattle.wire.specs.Spelling.{uvarint}
use Rattle.wire.proofs.Steps.{same_value, chain, fails_on}
use Rattle.numbered_text.specs.declared.error.NumberError.{NumberError}
use Rattle.numbered_text.specs.declared.error.NumberError.TheVariants.{Field}
use Rattle.name_table.specs.Names.{Label}
use Rattle.numbered_text.specs.Each.{Read, Reader, each_at, many_at, with_front}
use Rattle.numbered_text.specs.Outcome.{Gives, is_memory}
use Rattle.numbered_text.specs.Reading.{past_pairs, past_text, name_at, run_at, sample_at, State}

module _ {S : Type 0} where
  abbrev read_as : List ℕ → S → List ℕ → Read S
  read_as text s rest = Ok ((text, s), rest)

  -- a text in front of what is read after another text
  pub regroup : (front text : List ℕ) (read : Read S)
      → with_front front (read >>= λ x. Ok ((text ++ x.0.0, x.0.1), x.1))
      ≡ with_front (front ++ text) read
  regroup front text (Ok x) =
      ap (λ (y : List ℕ). read_as y x.0.1 x.1) (sym (append_assoc front text x.0.0))
  regroup front text (Err e) = refl

  -- what was read, where it is known with a text in front
  pub record Found (front : List ℕ) (read : Read S) (text : List ℕ) (s : S) (rest : List ℕ)
      : Type 0 where
    pub own : List ℕ
    pub is : read ≡ Ok ((own, s), rest)
    pub joined : text ≡ front ++ own

  pub found : (front : List ℕ) (read : Read S) (text : List ℕ) (s : S) (rest : List ℕ)
      → with_front front read ≡ Ok ((text, s), rest) → Found front read text s rest
  found front (Ok x) text s rest h =
      let made : (List ℕ × S) × List ℕ = ((front ++ x.0.0, x.0.1), x.1) in
      let asked : (List ℕ × S) × List ℕ = ((text, s), rest) in
      let same : made ≡ asked = same_value made asked h in
      let state : x.0.1 ≡ s = ap (λ (y : (List ℕ × S) × List ℕ). y.0.1) same in
      let left : x.1 ≡ rest = ap (λ (y : (List ℕ × S) × List ℕ). y.1) same in
      record {
        own = x.0.0;
        is = ap (λ (t : S). read_as x.0.0 t x.1) state
            ∙ ap (λ (y : List ℕ). read_as x.0.0 s y) left;
        joined = sym (ap (λ (y : (List ℕ × S) × List ℕ). y.0.0) same);
      }
  found front (Err e) text s rest h = absurd cc

  goes_by : (at : Reader S) (front own : List ℕ) (count i : ℕ) (s t : S)
      (bytes text rest : List ℕ) (total : Read S) → i < count → at s bytes ≡ Ok ((own, t), rest)
      → text ≡ front ++ own → with_front front (each_at at (count - i) s bytes) ≡ total
      → with_front text (each_at at (count - (i + 1)) t rest) ≡ total
  unfolding each_at
  goes_by at front own count i s t bytes text rest total lt h joined so_far =
      let m = count - (i + 1) in
      let k : count - i ≡ suc m = omega arith in
      let one : with_front front (each_at at (count - i) s bytes)
      ≡ with_front (front ++ own) (each_at at m t rest) =
      rw (k, h) (regroup front own (each_at at m t rest)) in
      ap (λ (y : List ℕ). with_front y (each_at at m t rest)) joined ∙ (sym one ∙ so_far)

  pub goes_on : (at : Reader S) (front : List ℕ) (count i : ℕ) (s t : S) (bytes text rest : List ℕ)
      (total : Read S) → i < count → with_front front (at s bytes) ≡ Ok ((text, t), rest)
      → with_front front (each_at at (count - i) s bytes) ≡ total
      → with_front text (each_at at (count - (i + 1)) t rest) ≡ total
  goes_on at front count i s t bytes text rest total lt h so_far =
      let f = found front (at s bytes) text t rest h in
      goes_by at front f.own count i s t bytes text rest total lt f.is f.joined so_far

  pub ends : (at : Reader S) (e : NumberError) (front : List ℕ) (count i : ℕ) (s : S)
      (bytes : List ℕ) (total : Read S) → i < count
      → Fails is_memory e (with_front front (at s bytes))
      → with_front front (each_at at (count - i) s bytes) ≡ total → Fails is_memory e total
  unfolding each_at
  ends at e front count i s bytes total lt h so_far =
      let m = count - (i + 1) in
      let k : count - i ≡ suc m = omega arith in
      let one : with_front front (each_at at (suc m) s bytes) ≡ total =
      ap (λ (n : ℕ). with_front front (each_at at n s bytes)) (sym k) ∙ so_far in
      fails_on is_memory e (with_front front (at s bytes))
      (λ x. with_front x.0.0 (each_at at m x.0.1 x.1)) total (past (at s bytes) m ∙ one) h
    where
      past : (read : Read S) (m : ℕ)
          → (with_front front read >>= λ x. with_front x.0.0 (each_at at m x.0.1 x.1))
          ≡ with_front front (read >>= λ x. (each_at at m x.0.1 x.1
          >>= λ xs. Ok ((x.0.0 ++ xs.0.0, xs.0.1), xs.1)))
      past (Ok x) m = sym (regroup front x.0.0 (each_at at m x.0.1 x.1))
      past (Err f) m = refl

  pub is_done : (at : Reader S) (front : List ℕ) (count i : ℕ) (s : S) (bytes : List ℕ)
      (total : Read S) → count ≤ i → with_front front (each_at at (count - i) s bytes) ≡ total
      → total ≡ Ok ((front, s), bytes)
  unfolding each_at
  is_done at front count i s bytes total le so_far =
      let k : count - i ≡ 0 = omega arith in
      let one : with_front front (each_at at (count - i) s bytes) ≡ read_as front s bytes =
      rw k (ap (λ (y : List ℕ). read_as y s bytes) (append-nil front)) in
      sym so_far ∙ one

  -- how many, and the items

  many_is : (at : Reader S) (front counted : List ℕ) (n : ℕ) (s : S) (bytes after : List ℕ)
      → or_refused Field (uvarint_at bytes) ≡ Ok (n, after) → counted ≡ front ++ uvarint n
      → with_front counted (each_at at n s after) ≡ with_front front (many_at at s bytes)
  unfolding many_at
  many_is at front counted n s bytes after read put =
      let one : with_front front (many_at at s bytes)
      ≡ with_front (front ++ uvarint n) (each_at at n s after) =
      rw read (regroup front (uvarint n) (each_at at n s after)) in
      ap (λ (y : List ℕ). with_front y (each_at at n s after)) put ∙ sym one

  pub many_given : {X : Type 0} (view : X → (List ℕ × S) × List ℕ) (result : Result X NumberError)
      (at : Reader S) (front counted : List ℕ) (n : ℕ) (s : S) (bytes after : List ℕ)
      → or_refused Field (uvarint_at bytes) ≡ Ok (n, after) → counted ≡ front ++ uvarint n
      → Gives view result (with_front counted (each_at at n s after))
      → Gives view result (with_front front (many_at at s bytes))
  many_given view result at front counted n s bytes after read put g =
      subst (λ (r : Read S). Gives view result r)
      (many_is at front counted n s bytes after read put) g

  pub many_fails : (e : NumberError) (at : Reader S) (front : List ℕ) (s : S) (bytes : List ℕ)
      → Fails is_memory e (or_refused Field (uvarint_at bytes))
      → Fails is_memory e (with_front front (many_at at s bytes))
  unfolding many_at
  many_fails e at front s bytes h =
      fails_on is_memory e (or_refused Field (uvarint_at bytes)) _
      (with_front front (many_at at s bytes))
      (chain (or_refused Field (uvarint_at bytes)) _ _) h

-- a run

abbrev paired : List Label → (List ℕ × ℤ) × List ℕ → Read State
paired names x = Ok ((x.0.0, (names, x.0.1)), x.1)

run_by : (front own text : List ℕ) (names after : List Label) (t : ℤ) (bytes mid : List ℕ)
    → name_at names bytes ≡ Ok ((own, after), mid) → text ≡ front ++ own
    → (with_front text (many_at sample_at t mid) >>= paired after)
    ≡ with_front front (run_at (names, t) bytes)
unfolding run_at
run_by front own text names after t bytes mid read joined =
    rw read (by_samples (many_at sample_at t mid))
  where
    made : List ℕ → (List ℕ × ℤ) × List ℕ → Read State
    made y x = Ok ((y, (after, x.0.1)), x.1)

    by_samples : (r : Read ℤ) → (with_front text r >>= paired after)
        ≡ with_front front (r >>= λ x. Ok ((own ++ x.0.0, (after, x.0.1)), x.1))
    by_samples (Ok x) =
        ap (λ (y : List ℕ). made y x)
        (ap (λ (y : List ℕ). y ++ x.0.0) joined ∙ append_assoc front own x.0.0)
    by_samples (Err e) = refl

pub run_given : {X : Type 0} (view : X → (List ℕ × ℤ) × List ℕ)
    (both : X → (List ℕ × State) × List ℕ) (result : Result X NumberError) (front text : List ℕ)
    (names after : List Label) (t : ℤ) (bytes mid : List ℕ)
    → ((x : X) → both x ≡ (((view x).0.0, (after, (view x).0.1)), (view x).1))
    → with_front front (name_at names bytes) ≡ Ok ((text, after), mid)
    → Gives view result (with_front text (many_at sample_at t mid))
    → Gives both result (with_front front (run_at (names, t) bytes))
run_given view both result front text names after t bytes mid same read g =
    let f = found front (name_at names bytes) text after mid read in
    subst (λ (r : Read State). Gives both result r)
    (run_by front f.own text names after t bytes mid f.is f.joined)
    (by_result result (with_front text (many_at sample_at t mid)) g)
  where
    answer : (List ℕ × State) × List ℕ → Read State
    answer y = Ok y

    by_result : (r : Result _ NumberError) (samples : Read ℤ) → Gives view r samples
        → Gives both r (samples >>= paired after)
    by_result (Ok x) samples h = rw h (ap answer (sym (same x)))
    by_result (Err e) samples h =
        fails_on is_memory e samples (paired after) (samples >>= paired after) refl h

pub run_fails : (e : NumberError) (front : List ℕ) (names : List Label) (t : ℤ) (bytes : List ℕ)
    → Fails is_memory e (with_front front (name_at names bytes))
    → Fails is_memory e (with_front front (run_at (names, t) bytes))
unfolding run_at
run_fails e front names t bytes h = by_name (name_at names bytes) h
  where
    failed : NumberError → Read (List Label)
    failed g = Err g

    failed_run : NumberError → Read State
    failed_run g = Err g

    run_after : (List ℕ × List Label) × List ℕ → Read ℤ → Read State
    run_after x samples =
        samples >>= λ y. Ok ((x.0.0 ++ y.0.0, (x.0.1, y.0.1)), y.1)

    by_name : (read : Read (List Label)) → Fails is_memory e (with_front front read)
        → Fails is_memory e (with_front {S = State} front
        (read >>= λ name. run_after name (many_at sample_at t name.1)))
    by_name (Ok x) f =
        let read : Read (List Label) = Ok x in
        let run : Read State = run_after x (many_at sample_at t x.1) in
        fails_on is_memory e (with_front {S = List Label} front read)
        (λ y. with_front {S = State} front run) (with_front {S = State} front run) refl f
    by_name (Err g) f = fails_on is_memory e (failed g) (λ y. failed_run g) (failed_run g) refl f

-- pairs that are passed over

abbrev Left : Type 0
Left = Result (List ℕ) NumberError

pub pairs_on : (count i : ℕ) (bytes value after : List ℕ) (total : Left) → i < count
    → past_text bytes ≡ Ok value → past_text value ≡ Ok after
    → past_pairs (count - i) bytes ≡ total → past_pairs (count - (i + 1)) after ≡ total
unfolding past_pairs
pairs_on count i bytes value after total lt h g so_far =
    let m = count - (i + 1) in
    let k : count - i ≡ suc m = omega arith in
    let one : past_pairs (count - i) bytes ≡ past_pairs m after = rw (k, h, g) refl in
    sym one ∙ so_far

pub pairs_first : (e : NumberError) (count i : ℕ) (bytes : List ℕ) (total : Left) → i < count
    → Fails is_memory e (past_text bytes) → past_pairs (count - i) bytes ≡ total
    → Fails is_memory e total
unfolding past_pairs
pairs_first e count i bytes total lt h so_far =
    let m = count - (i + 1) in
    let k : count - i ≡ suc m = omega arith in
    let one : past_pairs (suc m) bytes ≡ total =
    ap (λ (n : ℕ). past_pairs n bytes) (sym k) ∙ so_far in
    fails_on is_memory e (past_text bytes) _ total one h

pub pairs_second : (e : NumberError) (count i : ℕ) (bytes value : List ℕ) (total : Left)
    → i < count → past_text bytes ≡ Ok value → Fails is_memory e (past_text value)
    → past_pairs (count - i) bytes ≡ total → Fails is_memory e total
unfolding past_pairs
pairs_second e count i bytes value total lt g h so_far =
    let m = count - (i + 1) in
    let k : count - i ≡ suc m = omega arith in
    let one : past_pairs (count - i) bytes ≡ (past_text value >>= λ v. past_pairs m v) =
    rw (k, g) refl in
    fails_on is_memory e (past_text value) (λ v. past_pairs m v) total (sym one ∙ so_far) h

pub pairs_done : (count i : ℕ) (bytes : List ℕ) (total : Left) → count ≤ i
    → past_pairs (count - i) bytes ≡ total → total ≡ Ok bytes
unfolding past_pairs
pairs_done count i bytes total le so_far =
    let k : count - i ≡ 0 = omega arith in
    let one : past_pairs (count - i) bytes ≡ Ok bytes = rw k refl in
    sym so_far ∙ one
