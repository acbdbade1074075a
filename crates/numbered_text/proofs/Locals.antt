-- What is read of a label set does not depend on the bytes after it.
use Rattle.std.proofs.Common.{◌≡◌, ℕ, ◌-◌, ◌+◌, zero, suc, List, [], ◌++◌, length, take, Result, Ok}
use Rattle.std.proofs.Common.{refl, sym, ap, subst, ◌∙◌, append_assoc, arith}
use Rattle.std.proofs.lemmas.List.{length-append, take_at}
use Rattle.wire.specs.Outcome.{or_refused}
use Rattle.wire.specs.Reading.{bytes_at, uvarint_at}
use Rattle.wire.specs.Spelling.{uvarint, IsBytes}
use Rattle.wire.proofs.Fields.{bytes_again, bytes_takes}
use Rattle.wire.proofs.Laws.{uvarint_again, uvarint_takes}
use Rattle.wire.proofs.Steps.{bind_ok, refused_ok, rest_fits, same_value}
use Rattle.name_table.specs.Names.{Label}
use Rattle.numbered_text.specs.declared.error.NumberError.{NumberError}
use Rattle.numbered_text.specs.declared.error.NumberError.TheVariants.{Field}
use Rattle.numbered_text.specs.Reading.{label_at, past_label, past_pairs, past_text}

abbrev Past : Type 0
Past = List ℕ → Result (List ℕ) NumberError

-- a front of bytes that is passed over, whatever follows it
record Local (at : Past) (bytes rest : List ℕ) : Type 0 where
  front : List ℕ
  parts : bytes ≡ front ++ rest
  again : (more : List ℕ) → at (front ++ more) ≡ Ok more
  behind : IsBytes rest

text_local : (bytes rest : List ℕ) → IsBytes bytes → past_text bytes ≡ Ok rest
    → Local past_text bytes rest
unfolding past_text
text_local bytes rest fits h =
    let n = bind_ok (or_refused Field (uvarint_at bytes)) _ rest h in
    let s = bind_ok (or_refused Field (bytes_at n.0.0 n.0.1)) _ rest n.2 in
    let one =
    uvarint_takes bytes n.0.0 n.0.1 fits (refused_ok Field (uvarint_at bytes) n.0 n.1) in
    let n_fits = rest_fits bytes (uvarint n.0.0) n.0.1 fits one.0 in
    let two =
    bytes_takes n.0.0 n.0.1 s.0.0 s.0.1 (refused_ok Field (bytes_at n.0.0 n.0.1) s.0 s.1) in
    let left : s.0.1 ≡ rest = same_value s.0.1 rest s.2 in
    let text = s.0.0 in
    let joined : bytes ≡ (uvarint n.0.0 ++ text) ++ s.0.1 =
    one.0 ∙ (ap (λ (y : List ℕ). uvarint n.0.0 ++ y) two.0
    ∙ sym (append_assoc (uvarint n.0.0) text s.0.1)) in
    record {
      front = uvarint n.0.0 ++ text;
      parts = joined ∙ ap (λ (y : List ℕ). (uvarint n.0.0 ++ text) ++ y) left;
      again = λ more.
          let a = uvarint_again n.0.0 (text ++ more) one.1 in
          let b = bytes_again text more in
          let c : bytes_at n.0.0 (text ++ more) ≡ Ok (text, more) =
          subst (λ (m : ℕ). bytes_at m (text ++ more) ≡ Ok (text, more)) two.1 b in
          ap past_text (append_assoc (uvarint n.0.0) text more) ∙ rw (a, c) refl;
      behind = subst IsBytes left (rest_fits bytes (uvarint n.0.0 ++ text) s.0.1 fits joined);
    }

pairs_local : (n : ℕ) (bytes rest : List ℕ) → IsBytes bytes → past_pairs n bytes ≡ Ok rest
    → Local (past_pairs n) bytes rest
unfolding past_pairs
pairs_local zero bytes rest fits h =
    let same : bytes ≡ rest = same_value bytes rest h in
    record { front = []; parts = same; again = λ more. refl; behind = subst IsBytes same fits }
pairs_local (suc n) bytes rest fits h =
    let a = bind_ok (past_text bytes) _ rest h in
    let b = bind_ok (past_text a.0) _ rest a.2 in
    let one = text_local bytes a.0 fits a.1 in
    let two = text_local a.0 b.0 one.behind b.1 in
    let all = pairs_local n b.0 rest two.behind b.2 in
    record {
      front = one.front ++ (two.front ++ all.front);
      parts = one.parts ∙ (ap (λ (y : List ℕ). one.front ++ y)
          (two.parts ∙ (ap (λ (y : List ℕ). two.front ++ y) all.parts
          ∙ sym (append_assoc two.front all.front rest)))
          ∙ sym (append_assoc one.front (two.front ++ all.front) rest));
      again = λ more.
          let x = one.again (two.front ++ (all.front ++ more)) in
          let y = two.again (all.front ++ more) in
          ap (past_pairs (suc n)) (append_assoc one.front (two.front ++ all.front) more
          ∙ ap (λ (y : List ℕ). one.front ++ y) (append_assoc two.front all.front more))
          ∙ rw (x, y) (all.again more);
      behind = all.behind;
    }

past_local : (bytes rest : List ℕ) → IsBytes bytes → past_label bytes ≡ Ok rest
    → Local past_label bytes rest
unfolding past_label
past_local bytes rest fits h =
    let n = bind_ok (or_refused Field (uvarint_at bytes)) _ rest h in
    let one =
    uvarint_takes bytes n.0.0 n.0.1 fits (refused_ok Field (uvarint_at bytes) n.0 n.1) in
    let n_fits = rest_fits bytes (uvarint n.0.0) n.0.1 fits one.0 in
    let all = pairs_local n.0.0 n.0.1 rest n_fits n.2 in
    record {
      front = uvarint n.0.0 ++ all.front;
      parts = one.0 ∙ (ap (λ (y : List ℕ). uvarint n.0.0 ++ y) all.parts
          ∙ sym (append_assoc (uvarint n.0.0) all.front rest));
      again = λ more.
          let x = uvarint_again n.0.0 (all.front ++ more) one.1 in
          ap past_label (append_assoc (uvarint n.0.0) all.front more) ∙ rw x (all.again more);
      behind = all.behind;
    }

-- a label set in front, whatever follows it
pub record IsLabel (bytes : List ℕ) (l : Label) (rest : List ℕ) : Type 0 where
  pub parts : bytes ≡ l ++ rest
  pub again : (more : List ℕ) → label_at (l ++ more) ≡ Ok (l, more)

cut_off : (front rest : List ℕ) → take (length (front ++ rest) - length rest) (front ++ rest) ≡ front
cut_off front rest =
    take_at front rest (length (front ++ rest) - length rest)
    (omega (arith, length-append front rest))

pub label_local : (bytes : List ℕ) (l : Label) (rest : List ℕ) → IsBytes bytes
    → label_at bytes ≡ Ok (l, rest) → IsLabel bytes l rest
unfolding label_at
label_local bytes l rest fits h =
    let r = bind_ok (past_label bytes) _ (l, rest) h in
    let found : Label × List ℕ = (take (length bytes - length r.0) bytes, r.0) in
    let same : found ≡ (l, rest) = same_value found (l, rest) r.2 in
    let left : r.0 ≡ rest = ap (λ (x : Label × List ℕ). x.1) same in
    let p = past_local bytes r.0 fits r.1 in
    let is : p.front ≡ l =
    sym (ap (λ (y : List ℕ). take (length y - length r.0) y) p.parts ∙ cut_off p.front r.0)
    ∙ ap (λ (x : Label × List ℕ). x.0) same in
    record {
      parts = p.parts ∙ (ap (λ (y : List ℕ). y ++ r.0) is ∙ ap (λ (y : List ℕ). l ++ y) left);
      again = λ more.
          let one = subst (λ (y : List ℕ). past_label (y ++ more) ≡ Ok more) is (p.again more) in
          rw one (ap (λ (y : List ℕ). ok y more) (cut_off l more));
    }
  where
    ok : List ℕ → List ℕ → Result (Label × List ℕ) NumberError
    ok y more = Ok (y, more)
