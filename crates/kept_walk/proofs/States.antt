-- What is read after what was there before is spelled so, and all that is spelled so is read.
use Rattle.std.proofs.Common.{◌≡◌, ℕ, zero, suc, List, [], ◌∷◌, ◌++◌, length, Ok, refl, sym, ap, subst}
use Rattle.std.proofs.Common.{◌∙◌, append_assoc, arith}
use Rattle.wire.specs.Spelling.{uvarint, IsBytes}
use Rattle.wire.proofs.Laws.{uvarint_again}
use Rattle.wire.proofs.Steps.{bind_ok, same_value}
use Rattle.kept_walk.specs.Numbered.{AreInRow, AreListed, Spelling}
use Rattle.kept_walk.specs.NumberedReading.{Read, ReaderBy, each_by, list_by}
use Rattle.kept_walk.specs.Reading.{number_at}
use Rattle.kept_walk.proofs.Readers.{number_reads}

-- the bytes of a value in front, and bytes behind it; what holds of what is there before holds after
pub record TakesBy {S A : Type 0} (I : S → Type 0) (one : Spelling S A) (s : S) (bytes : List ℕ)
    (x : (A × S) × List ℕ) : Type 0 where
  pub front : List ℕ
  pub parts : bytes ≡ front ++ x.1
  pub is : one s x.0.0 front x.0.1
  pub keeps : I x.0.1
  pub behind : IsBytes x.1

pub record ReadsBy {S A : Type 0} (I : S → Type 0) (one : Spelling S A) (at : ReaderBy S A)
    : Type 0 where
  pub takes : (s : S) (bytes : List ℕ) (x : (A × S) × List ℕ) → I s → IsBytes bytes
      → at s bytes ≡ Ok x → TakesBy I one s bytes x
  pub again : (s : S) (a : A) (bytes : List ℕ) (after : S) (rest : List ℕ) → one s a bytes after
      → at s (bytes ++ rest) ≡ Ok ((a, after), rest)

module _ {S A : Type 0} (I : S → Type 0) (one : Spelling S A) (at : ReaderBy S A)
    (reads : ReadsBy I one at) where
  record TakesEach (n : ℕ) (s : S) (bytes : List ℕ) (x : (List A × S) × List ℕ) : Type 0 where
    front : List ℕ
    parts : bytes ≡ front ++ x.1
    is : AreInRow one s x.0.0 front x.0.1
    count : length x.0.0 ≡ n
    keeps : I x.0.1
    behind : IsBytes x.1

  each_takes : (n : ℕ) (s : S) (bytes : List ℕ) (x : (List A × S) × List ℕ) → I s → IsBytes bytes
      → each_by at n s bytes ≡ Ok x → TakesEach n s bytes x
  unfolding each_by
  each_takes zero s bytes x kept fits h =
      let made : (List A × S) × List ℕ = (([], s), bytes) in
      subst (TakesEach zero s bytes) (same_value made x h) (record {
        front = [];
        parts = refl;
        is = (refl, refl);
        count = refl;
        keeps = kept;
        behind = fits;
      })
  each_takes (suc n) s bytes x kept fits h =
      let a = bind_ok (at s bytes) _ x h in
      let b = bind_ok (each_by at n a.0.0.1 a.0.1) _ x a.2 in
      let first = reads.takes s bytes a.0 kept fits a.1 in
      let others = each_takes n a.0.0.1 a.0.1 b.0 first.keeps first.behind b.1 in
      let made : (List A × S) × List ℕ = ((a.0.0.0 ∷ b.0.0.0, b.0.0.1), b.0.1) in
      subst (TakesEach (suc n) s bytes) (same_value made x b.2) (record {
        front = first.front ++ others.front;
        parts = first.parts ∙ (ap (λ (y : List ℕ). first.front ++ y) others.parts
            ∙ sym (append_assoc first.front others.front b.0.1));
        is = (first.front, a.0.0.1, others.front, first.is, others.is, refl);
        count = omega (arith, others.count);
        keeps = others.keeps;
        behind = others.behind;
      })

  abbrev as_read : List A → S → List ℕ → Read S (List A)
  as_read xs t rest = Ok ((xs, t), rest)

  each_again : (s : S) (xs : List A) (bytes : List ℕ) (after : S) (rest : List ℕ)
      → AreInRow one s xs bytes after
      → each_by at (length xs) s (bytes ++ rest) ≡ Ok ((xs, after), rest)
  unfolding each_by
  each_again s [] bytes after rest h =
      let none : each_by at zero s rest ≡ as_read [] s rest = refl in
      ap (λ (y : List ℕ). each_by at zero s (y ++ rest)) h.0
      ∙ (none ∙ ap (λ (t : S). as_read [] t rest) h.1)
  each_again s (x ∷ xs) bytes after rest h =
      let n = length xs in
      let a = reads.again s x h.0 h.1 (h.2 ++ rest) h.3 in
      let b = each_again h.1 xs h.2 after rest h.4 in
      let both : each_by at (suc n) s (h.0 ++ (h.2 ++ rest)) ≡ as_read (x ∷ xs) after rest =
      rw (a, b) refl in
      ap (λ (y : List ℕ). each_by at (suc n) s (y ++ rest)) h.5
      ∙ (ap (each_by at (suc n) s) (append_assoc h.0 h.2 rest) ∙ both)

  list_takes : (s : S) (bytes : List ℕ) (x : (List A × S) × List ℕ) → I s → IsBytes bytes
      → list_by at s bytes ≡ Ok x → TakesBy I (AreListed one) s bytes x
  unfolding list_by
  list_takes s bytes x kept fits h =
      let n = bind_ok (number_at bytes) _ x h in
      let first = number_reads.takes bytes n.0 fits n.1 in
      let all = each_takes n.0.0 s n.0.1 x kept first.behind n.2 in
      record {
        front = uvarint n.0.0 ++ all.front;
        parts = first.front ∙ (ap (λ (y : List ℕ). uvarint n.0.0 ++ y) all.parts
            ∙ sym (append_assoc (uvarint n.0.0) all.front x.1));
        is = record {
          items = all.front;
          parts = ap (λ (m : ℕ). uvarint m ++ all.front) (sym all.count);
          few = omega (arith, first.fits, all.count);
          each = all.is;
        };
        keeps = all.keeps;
        behind = all.behind;
      }

  list_again : (s : S) (xs : List A) (bytes : List ℕ) (after : S) (rest : List ℕ)
      → AreListed one s xs bytes after → list_by at s (bytes ++ rest) ≡ Ok ((xs, after), rest)
  unfolding list_by
  list_again s xs bytes after rest h =
      let count = uvarint (length xs) in
      let first = uvarint_again (length xs) (h.items ++ rest) h.few in
      let others = each_again s xs h.items after rest h.each in
      let both : list_by at s (count ++ (h.items ++ rest)) ≡ as_read xs after rest =
      rw (first, others) refl in
      ap (λ (y : List ℕ). list_by at s (y ++ rest)) h.parts
      ∙ (ap (list_by at s) (append_assoc count h.items rest) ∙ both)

  pub list_reads_by : ReadsBy I (AreListed one) (list_by at)
  list_reads_by = record { takes = list_takes; again = list_again }
