-- What was written of a text so far.
use Rattle.std.proofs.Common.{◌≡◌, ℕ, List, [], ◌++◌, Option, Result, Ok, Err, refl, sym, ap, subst}
use Rattle.std.proofs.Common.{◌∙◌, ◌-◌, length, take, drop, append_assoc, take-append-drop}
use Rattle.std.specs.Prelude.{OnOk, OnErr}
use Rattle.std.specs.Io.KnownBytes.{Appends, Keeps}
use Rattle.std.proofs.lemmas.List.{append-nil, take_rest}
use Rattle.commands.specs.Sending.{AppendsPrefix}
use Rattle.commands.proofs.Checks.{appends_on, appends_none, kept_on}

-- a front of the text was written, and the rest was not
abbrev pub IsWrittenTo : Option (List ℕ) → Option (List ℕ) → List ℕ → List ℕ → Type 0
IsWrittenTo old new text rest = (front : List ℕ) × (text ≡ front ++ rest) × Appends old new front

pub begun : (old : Option (List ℕ)) (text : List ℕ) → IsWrittenTo old old text text
begun old text = ([], refl, appends_none old)

pub more : (old mid new : Option (List ℕ)) (text rest after : List ℕ) (count : ℕ)
    → IsWrittenTo old mid text rest → Appends mid new (take count rest)
    → after ≡ take (length rest - count) (drop count rest) → IsWrittenTo old new text after
more old mid new text rest after count (front, parts, came) next is =
    let behind : after ≡ drop count rest = is ∙ take_rest rest count in (
      front ++ take count rest,
      parts
          ∙ ap (λ (l : List ℕ). front ++ l) (sym (take-append-drop count rest))
          ∙ sym (append_assoc front (take count rest) (drop count rest))
          ∙ ap (λ (l : List ℕ). (front ++ take count rest) ++ l) (sym behind),
      appends_on old mid new front (take count rest) came next,
    )

pub stayed : (old mid new : Option (List ℕ)) (text rest after : List ℕ)
    → IsWrittenTo old mid text rest → Keeps mid new → after ≡ rest → IsWrittenTo old new text after
stayed old mid new text rest after (front, parts, came) kept same =
    (front, parts ∙ ap (λ (l : List ℕ). front ++ l) (sym same), kept_on old mid new front came kept)

pub whole : (old new : Option (List ℕ)) (text rest : List ℕ) → IsWrittenTo old new text rest
    → rest ≡ [] → Appends old new text
whole old new text rest (front, parts, came) none =
    subst (Appends old new)
    (sym (parts ∙ ap (λ (l : List ℕ). front ++ l) none ∙ append-nil front)) came

pub prefix : (old new : Option (List ℕ)) (text rest : List ℕ) → IsWrittenTo old new text rest
    → AppendsPrefix old new text
prefix old new text rest (front, parts, came) =
    record { front = front; rest = rest; parts = parts; appended = came }

-- all of a text is a prefix of it
pub all_of : (old new : Option (List ℕ)) (text : List ℕ) → Appends old new text
    → AppendsPrefix old new text
all_of old new text came =
    record { front = text; rest = []; parts = sym (append-nil text); appended = came }

pub on_ok : {A B P : Type 0} (r : Result A B) → P → OnOk r P
on_ok (Ok x) p = p
on_ok (Err e) p = tt

pub on_err : {A B P : Type 0} (r : Result A B) → P → OnErr r P
on_err (Ok x) p = tt
on_err (Err e) p = p

-- a prefix of a text is one of this with another behind it
pub prefix_of_both : (old new : Option (List ℕ)) (first second : List ℕ)
    → AppendsPrefix old new first → AppendsPrefix old new (first ++ second)
prefix_of_both old new first second h = record {
  front = h.front;
  rest = h.rest ++ second;
  parts = ap (λ (l : List ℕ). l ++ second) h.parts ∙ append_assoc h.front h.rest second;
  appended = h.appended;
}

-- a text and a prefix of the next one
pub prefix_behind : (old mid new : Option (List ℕ)) (first second : List ℕ) → Appends old mid first
    → AppendsPrefix mid new second → AppendsPrefix old new (first ++ second)
prefix_behind old mid new first second came h = record {
  front = first ++ h.front;
  rest = h.rest;
  parts =
      ap (λ (l : List ℕ). first ++ l) h.parts ∙ sym (append_assoc first h.front h.rest);
  appended = appends_on old mid new first h.front came h.appended;
}

-- one piece more was written
pub piece_more : (old mid new : Option (List ℕ)) (text first rest : List ℕ)
    → IsWrittenTo old mid text (first ++ rest) → Appends mid new first
    → IsWrittenTo old new text rest
piece_more old mid new text first rest (front, parts, came) next = (
  front ++ first,
  parts ∙ sym (append_assoc front first rest),
  appends_on old mid new front first came next,
)

-- a prefix of the next piece was written
pub piece_prefix : (old mid new : Option (List ℕ)) (text first rest : List ℕ)
    → IsWrittenTo old mid text (first ++ rest) → AppendsPrefix mid new first
    → AppendsPrefix old new text
piece_prefix old mid new text first rest (front, parts, came) h =
    subst (λ (s : List ℕ). AppendsPrefix old new s) (sym parts)
    (prefix_behind old mid new front (first ++ rest) came (prefix_of_both mid new first rest h))
