-- What a reader reads is the one text of its value, and each text is read.
use Rattle.std.proofs.Common.{◌≡◌, ℕ, zero, suc, Bool, List, [], ◌∷◌, ◌++◌, length}
use Rattle.std.proofs.Common.{Ok, refl, sym, ap, subst, ◌∙◌, append_assoc, arith}
use Rattle.std.specs.List.{flat_map, AllByRecursion}
use Rattle.std.specs.Str.{is_utf8}
use Rattle.std.proofs.lemmas.List.{append-nil}
use Rattle.std.proofs.lemmas.List.Concat.{flat_map-cons}
use Rattle.wire.specs.Spelling.{uvarint, varint, IsBytes}
use Rattle.wire.specs.Reading as wire
use Rattle.wire.specs.Outcome.{or_refused}
use Rattle.wire.proofs.Fields.{bytes_takes, bytes_again}
use Rattle.wire.proofs.Laws.{uvarint_takes, uvarint_again}
use Rattle.wire.proofs.Signed.{varint_takes, varint_again}
use Rattle.wire.proofs.Steps.{bind_ok, refused_ok, passed, same_value, rest_fits}
use Rattle.kept_walk.specs.declared.fault.Fault.TheVariants as faults
use Rattle.kept_walk.specs.Forms.{Form, octet, number, signed, string, both, list, such, shown}
use Rattle.kept_walk.specs.Reading.{Reader, octet_at, number_at, signed_at, such_at, as_at}
use Rattle.kept_walk.specs.Reading.{both_at, each_at, list_at, string_at, if_ended, all_of}

-- the text of a value in front, and bytes behind it
pub record Takes {A : Type 0} (form : Form A) (bytes : List ℕ) (x : A × List ℕ) : Type 0 where
  pub front : bytes ≡ form.text x.0 ++ x.1
  pub fits : form.fits x.0
  pub behind : IsBytes x.1

pub record Reads {A : Type 0} (form : Form A) (at : Reader A) : Type 0 where
  pub takes : (bytes : List ℕ) (x : A × List ℕ) → IsBytes bytes → at bytes ≡ Ok x
      → Takes form bytes x
  pub again : (a : A) (rest : List ℕ) → form.fits a → at (form.text a ++ rest) ≡ Ok (a, rest)

octet_takes : (bytes : List ℕ) (x : ℕ × List ℕ) → IsBytes bytes → octet_at bytes ≡ Ok x
    → Takes octet bytes x
octet_takes [] x fits h = absurd cc
octet_takes (b ∷ bytes) x fits h =
    let made : ℕ × List ℕ = (b, bytes) in
    subst (Takes octet (b ∷ bytes)) (same_value made x h)
    (record { front = refl; fits = fits 0; behind = rest_fits (b ∷ bytes) (b ∷ []) bytes fits refl })

pub octet_reads : Reads octet octet_at
octet_reads = record { takes = octet_takes; again = λ a rest h. refl }

pub number_reads : Reads number number_at
number_reads = record {
  takes =
      λ bytes x fits h.
      let one = uvarint_takes bytes x.0 x.1 fits (refused_ok faults.Form (wire.uvarint_at bytes) x h) in
      record { front = one.0; fits = one.1; behind = rest_fits bytes (uvarint x.0) x.1 fits one.0 };
  again = λ n rest h. rw (uvarint_again n rest h) refl;
}

pub signed_reads : Reads signed signed_at
signed_reads = record {
  takes =
      λ bytes x fits h.
      let one = varint_takes bytes x.0 x.1 fits (refused_ok faults.Form (wire.varint_at bytes) x h) in
      record { front = one.0; fits = one.1; behind = rest_fits bytes (varint x.0) x.1 fits one.0 };
  again = λ z rest h. rw (varint_again z rest h) refl;
}

string_takes : (bytes : List ℕ) (x : List ℕ × List ℕ) → IsBytes bytes → string_at bytes ≡ Ok x
    → Takes string bytes x
unfolding string_at
string_takes bytes x fits h =
    let n = bind_ok (number_at bytes) _ x h in
    let s = bind_ok (or_refused faults.Form (wire.bytes_at n.0.0 n.0.1)) _ x n.2 in
    let t = passed (is_utf8 s.0.0) faults.Form (Ok s.0) x s.2 in
    let one = number_reads.takes bytes n.0 fits n.1 in
    let two = bytes_takes n.0.0 n.0.1 s.0.0 s.0.1
    (refused_ok faults.Form (wire.bytes_at n.0.0 n.0.1) s.0 s.1) in
    let len : n.0.0 ≡ length s.0.0 = sym two.1 in
    subst (Takes string bytes) (same_value s.0 x t.1) (record {
      front = one.front ∙ (ap (λ (y : List ℕ). uvarint n.0.0 ++ y) two.0
          ∙ (sym (append_assoc (uvarint n.0.0) s.0.0 s.0.1)
          ∙ ap (λ (m : ℕ). (uvarint m ++ s.0.0) ++ s.0.1) len));
      fits = (omega (arith, one.fits, two.1), t.0);
      behind = rest_fits n.0.1 s.0.0 s.0.1 one.behind two.0;
    })

string_again : (s rest : List ℕ) → string.fits s → string_at (string.text s ++ rest) ≡ Ok (s, rest)
unfolding string_at
string_again s rest h =
    let one = uvarint_again (length s) (s ++ rest) h.0 in
    let two = bytes_again s rest in
    ap string_at (append_assoc (uvarint (length s)) s rest) ∙ rw (one, two, h.1) refl

pub string_reads : Reads string string_at
string_reads = record { takes = string_takes; again = string_again }

module _ {A B : Type 0} (f : Form A) (g : Form B) (at : Reader A) (next : Reader B)
    (one : Reads f at) (two : Reads g next) where
  both_takes : (bytes : List ℕ) (x : (A × B) × List ℕ) → IsBytes bytes
      → both_at at next bytes ≡ Ok x → Takes (both f g) bytes x
  unfolding both_at
  both_takes bytes x fits h =
      let a = bind_ok (at bytes) _ x h in
      let b = bind_ok (next a.0.1) _ x a.2 in
      let first = one.takes bytes a.0 fits a.1 in
      let second = two.takes a.0.1 b.0 first.behind b.1 in
      let made : (A × B) × List ℕ = ((a.0.0, b.0.0), b.0.1) in
      subst (Takes (both f g) bytes) (same_value made x b.2) (record {
        front = first.front ∙ (ap (λ (y : List ℕ). f.text a.0.0 ++ y) second.front
            ∙ sym (append_assoc (f.text a.0.0) (g.text b.0.0) b.0.1));
        fits = (first.fits, second.fits);
        behind = second.behind;
      })

  both_again : (x : A × B) (rest : List ℕ) → (both f g).fits x
      → both_at at next ((both f g).text x ++ rest) ≡ Ok (x, rest)
  unfolding both_at
  both_again x rest h =
      let first = one.again x.0 (g.text x.1 ++ rest) h.0 in
      let second = two.again x.1 rest h.1 in
      ap (both_at at next) (append_assoc (f.text x.0) (g.text x.1) rest) ∙ rw (first, second) refl

  pub both_reads : Reads (both f g) (both_at at next)
  both_reads = record { takes = both_takes; again = both_again }

module _ {A : Type 0} (f : Form A) (at : Reader A) (one : Reads f at) where
  -- such values as pass a test
  such_takes : (test : A → Bool) (bytes : List ℕ) (x : A × List ℕ) → IsBytes bytes
      → such_at test at bytes ≡ Ok x → Takes (such test f) bytes x
  unfolding such_at
  such_takes test bytes x fits h =
      let a = bind_ok (at bytes) _ x h in
      let t = passed (test a.0.0) faults.Form (Ok a.0) x a.2 in
      let first = one.takes bytes a.0 fits a.1 in
      subst (Takes (such test f) bytes) (same_value a.0 x t.1)
      (record { front = first.front; fits = (first.fits, t.0); behind = first.behind })

  such_again : (test : A → Bool) (a : A) (rest : List ℕ) → (such test f).fits a
      → such_at test at (f.text a ++ rest) ≡ Ok (a, rest)
  unfolding such_at
  such_again test a rest h = rw (one.again a rest h.0, h.1) refl

  pub such_reads : (test : A → Bool) → Reads (such test f) (such_at test at)
  such_reads test = record { takes = such_takes test; again = such_again test }

  -- several
  record TakesEach (n : ℕ) (bytes : List ℕ) (x : List A × List ℕ) : Type 0 where
    front : bytes ≡ flat_map f.text x.0 ++ x.1
    each : AllByRecursion f.fits x.0
    count : length x.0 ≡ n
    behind : IsBytes x.1

  each_takes : (n : ℕ) (bytes : List ℕ) (x : List A × List ℕ) → IsBytes bytes
      → each_at at n bytes ≡ Ok x → TakesEach n bytes x
  unfolding each_at
  each_takes zero bytes x fits h =
      let made : List A × List ℕ = ([], bytes) in
      subst (TakesEach zero bytes) (same_value made x h)
      (record { front = refl; each = tt; count = refl; behind = fits })
  each_takes (suc n) bytes x fits h =
      let a = bind_ok (at bytes) _ x h in
      let b = bind_ok (each_at at n a.0.1) _ x a.2 in
      let first = one.takes bytes a.0 fits a.1 in
      let others = each_takes n a.0.1 b.0 first.behind b.1 in
      let made : List A × List ℕ = (a.0.0 ∷ b.0.0, b.0.1) in
      subst (TakesEach (suc n) bytes) (same_value made x b.2) (record {
        front = first.front ∙ (ap (λ (y : List ℕ). f.text a.0.0 ++ y) others.front
            ∙ (sym (append_assoc (f.text a.0.0) (flat_map f.text b.0.0) b.0.1)
            ∙ ap (λ (y : List ℕ). y ++ b.0.1) (sym (flat_map-cons f.text a.0.0 b.0.0))));
        each = (first.fits, others.each);
        count = omega (arith, others.count);
        behind = others.behind;
      })

  each_again : (xs : List A) (rest : List ℕ) → AllByRecursion f.fits xs
      → each_at at (length xs) (flat_map f.text xs ++ rest) ≡ Ok (xs, rest)
  unfolding each_at
  each_again [] rest h = refl
  each_again (x ∷ xs) rest h =
      let first = one.again x (flat_map f.text xs ++ rest) h.0 in
      let others = each_again xs rest h.1 in
      let parts : flat_map f.text (x ∷ xs) ++ rest ≡ f.text x ++ (flat_map f.text xs ++ rest) =
      ap (λ (y : List ℕ). y ++ rest) (flat_map-cons f.text x xs)
      ∙ append_assoc (f.text x) (flat_map f.text xs) rest in
      ap (each_at at (suc (length xs))) parts ∙ rw (first, others) refl

  list_takes : (bytes : List ℕ) (x : List A × List ℕ) → IsBytes bytes
      → list_at at bytes ≡ Ok x → Takes (list f) bytes x
  unfolding list_at
  list_takes bytes x fits h =
      let n = bind_ok (number_at bytes) _ x h in
      let first = number_reads.takes bytes n.0 fits n.1 in
      let all = each_takes n.0.0 n.0.1 x first.behind n.2 in
      record {
        front = first.front ∙ (ap (λ (y : List ℕ). uvarint n.0.0 ++ y) all.front
            ∙ (sym (append_assoc (uvarint n.0.0) (flat_map f.text x.0) x.1)
            ∙ ap (λ (m : ℕ). (uvarint m ++ flat_map f.text x.0) ++ x.1) (sym all.count)));
        fits = (omega (arith, first.fits, all.count), all.each);
        behind = all.behind;
      }

  list_again : (xs : List A) (rest : List ℕ) → (list f).fits xs
      → list_at at ((list f).text xs ++ rest) ≡ Ok (xs, rest)
  unfolding list_at
  list_again xs rest h =
      let first = uvarint_again (length xs) (flat_map f.text xs ++ rest) h.0 in
      ap (list_at at) (append_assoc (uvarint (length xs)) (flat_map f.text xs) rest)
      ∙ rw (first, each_again xs rest h.1) refl

  pub list_reads : Reads (list f) (list_at at)
  list_reads = record { takes = list_takes; again = list_again }

-- what stands for something else: each value has its parts, and parts that fit are those of the
-- value that is meant
module _ {A B : Type 0} (f : Form A) (at : Reader A) (one : Reads f at) (parts : B → A)
    (meant : A → B) (same : (b : B) → meant (parts b) ≡ b)
    (back : (a : A) → f.fits a → parts (meant a) ≡ a) where
  as_takes : (bytes : List ℕ) (x : B × List ℕ) → IsBytes bytes → as_at meant at bytes ≡ Ok x
      → Takes (shown parts f) bytes x
  unfolding as_at
  as_takes bytes x fits h =
      let a = bind_ok (at bytes) _ x h in
      let first = one.takes bytes a.0 fits a.1 in
      let is : a.0.0 ≡ parts (meant a.0.0) = sym (back a.0.0 first.fits) in
      let made : B × List ℕ = (meant a.0.0, a.0.1) in
      subst (Takes (shown parts f) bytes) (same_value made x a.2) (record {
        front = first.front ∙ ap (λ (y : A). f.text y ++ a.0.1) is;
        fits = subst f.fits is first.fits;
        behind = first.behind;
      })

  as_again : (b : B) (rest : List ℕ) → (shown parts f).fits b
      → as_at meant at ((shown parts f).text b ++ rest) ≡ Ok (b, rest)
  unfolding as_at
  as_again b rest h =
      rw (one.again (parts b) rest h) (ap (λ (c : B). Ok (c, rest)) (same b))

  pub as_reads : Reads (shown parts f) (as_at meant at)
  as_reads = record { takes = as_takes; again = as_again }

-- all of the bytes

pub record Spells {A : Type 0} (form : Form A) (bytes : List ℕ) (a : A) : Type 0 where
  pub text : bytes ≡ form.text a
  pub fits : form.fits a

pub ended : {A : Type 0} (x : A × List ℕ) (a : A) → if_ended x ≡ Ok a → (x.0 ≡ a) × (x.1 ≡ [])
ended (b, []) a h = (same_value b a h, refl)
ended (b, c ∷ rest) a h = absurd cc

module _ {A : Type 0} (f : Form A) (at : Reader A) (one : Reads f at) where
  pub all_takes : (bytes : List ℕ) (a : A) → IsBytes bytes → all_of at bytes ≡ Ok a
      → Spells f bytes a
  unfolding all_of
  all_takes bytes a fits h =
      let x = bind_ok (at bytes) _ a h in
      let first = one.takes bytes x.0 fits x.1 in
      let end = ended x.0 a x.2 in
      subst (Spells f bytes) end.0 (record {
        text = first.front ∙ (ap (λ (y : List ℕ). f.text x.0.0 ++ y) end.1
            ∙ append-nil (f.text x.0.0));
        fits = first.fits;
      })

  pub all_again : (bytes : List ℕ) (a : A) → Spells f bytes a → all_of at bytes ≡ Ok a
  unfolding all_of
  all_again bytes a s =
      let whole : at bytes ≡ Ok (a, []) =
      ap at (s.text ∙ sym (append-nil (f.text a))) ∙ one.again a [] s.fits in
      rw whole refl
