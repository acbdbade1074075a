-- What several writes leave, put together.
use Rattle.std.proofs.Common.{ℕ, ◌+◌, ◌-◌, ◌<◌, ◌≤◌, List, [], append-nil, length, take, drop}
use Rattle.std.proofs.Common.{Option, None, Some, Result, Ok, Err, OnErr, sym, ◌∙◌, subst}
use Rattle.std.proofs.Common.{take-append-drop, length-drop, length-append, arith, ◌++◌, ap}
use Rattle.std.proofs.Common.{append_assoc, ◌≡◌, refl}
use Rattle.std.proofs.KnownBytes.{Appends-trans}
use Rattle.std.proofs.Math.Seq.{take-add}
use Rattle.std.proofs.lemmas.List.{take_rest, length-take-le}
use Rattle.std.specs.Io.KnownBytes.{Appends, Keeps}
use Rattle.query_http.specs.Writing.{AppendsFront}

pub on_err : {T E : Type 0} (r : Result T E) (P : Type 0) → P → OnErr r P
on_err (Ok x) P p = tt
on_err (Err e) P p = p

pub written_front : (a b : Option (List ℕ)) (d : ℕ) (text : List ℕ) → d < length text
    → Appends a b (take d text) → AppendsFront a b text
written_front a b d text short p = record {
  front = take d text;
  begins = (drop d text, sym (take-append-drop d text));
  shorter = omega (arith, short, length-take-le d text (omega (arith, short)));
  appends = p;
}

pub appends_kept : (a b c : Option (List ℕ)) (xs : List ℕ) → Appends a b xs
    → Keeps b c → Appends a c xs
appends_kept None b c xs p q = tt
appends_kept (Some x) None c xs p q = absurd p
appends_kept (Some x) (Some y) None xs p q = absurd q
appends_kept (Some x) (Some y) (Some z) xs p q = q ∙ p

pub appends_none : (a b c : Option (List ℕ)) (xs : List ℕ) → Appends a b xs
    → Appends b c [] → Appends a c xs
appends_none a b c xs p q = subst (Appends a c) (append-nil xs) (Appends-trans a b c xs [] p q)

appends_more : (a b c : Option (List ℕ)) (d n : ℕ) (text : List ℕ) → Appends a b (take d text)
    → Appends b c (take n (drop d text)) → Appends a c (take (d + n) text)
appends_more a b c d n text p q =
    subst (Appends a c) (sym (take-add d n text)) (Appends-trans a b c _ _ p q)

pub written_more : (a b c : Option (List ℕ)) (d n : ℕ) (text : List ℕ) → d ≤ length text
    → n ≤ length (take (length text - d) (drop d text))
    → Appends a b (take d text) → Appends b c (take n (take (length text - d) (drop d text)))
    → (d + n ≤ length text) × Appends a c (take (d + n) text)
written_more a b c d n text fits bound p q =
    let short : n ≤ length text - d = rw (take_rest text d, length-drop d text) at bound in
    (omega (arith, fits, short), appends_more a b c d n text p (rw (take_rest text d) at q))

-- a prefix of a text is one of this with another behind it
pub front_of_both : (a b : Option (List ℕ)) (first second : List ℕ) → AppendsFront a b first
    → AppendsFront a b (first ++ second)
front_of_both a b first second h = record {
  front = h.front;
  begins = (
    h.begins.0 ++ second,
    ap (λ s. s ++ second) h.begins.1
        ∙ append_assoc h.front h.begins.0 second,
  );
  shorter = omega (arith, h.shorter, length-append first second);
  appends = h.appends;
}

-- a text and a prefix of the next one
pub front_behind : (a b c : Option (List ℕ)) (first second : List ℕ) → Appends a b first
    → AppendsFront b c second → AppendsFront a c (first ++ second)
front_behind a b c first second p h = record {
  front = first ++ h.front;
  begins = (
    h.begins.0,
    ap (λ s. first ++ s) h.begins.1
        ∙ sym (append_assoc first h.front h.begins.0),
  );
  shorter =
      omega (arith, h.shorter, length-append first h.front, length-append first second);
  appends = Appends-trans a b c first h.front p h.appends;
}

pub both : (a b c : Option (List ℕ)) (first second : List ℕ) → Appends a b first
    → Appends b c second → Appends a c (first ++ second)
both a b c first second p q = Appends-trans a b c first second p q

-- a front of the text was written, and the rest was not
abbrev pub IsWrittenTo : Option (List ℕ) → Option (List ℕ) → List ℕ → List ℕ → Type 0
IsWrittenTo a b text rest = (front : List ℕ) × (text ≡ front ++ rest) × Appends a b front

pub begun : (a : Option (List ℕ)) (text : List ℕ) → IsWrittenTo a a text text
begun None text = ([], refl, tt)
begun (Some xs) text = ([], refl, sym (append-nil xs))

pub piece_more : (a b c : Option (List ℕ)) (text first rest : List ℕ)
    → IsWrittenTo a b text (first ++ rest) → Appends b c first → IsWrittenTo a c text rest
piece_more a b c text first rest (front, parts, came) p =
    (front ++ first, parts ∙ sym (append_assoc front first rest), both a b c front first came p)

pub piece_front : (a b c : Option (List ℕ)) (text first rest : List ℕ)
    → IsWrittenTo a b text (first ++ rest) → AppendsFront b c first → AppendsFront a c text
piece_front a b c text first rest (front, parts, came) h =
    subst (λ (s : List ℕ). AppendsFront a c s) (sym parts)
    (front_behind a b c front (first ++ rest) came (front_of_both b c first rest h))

pub all_written : (a b : Option (List ℕ)) (text : List ℕ) → IsWrittenTo a b text []
    → Appends a b text
all_written a b text (front, parts, came) =
    subst (Appends a b) (sym (parts ∙ append-nil front)) came
