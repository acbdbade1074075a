-- How a choice is written, piece by piece, and that a pattern which spells a choice is written so.
use Rattle.std.proofs.Common.{◌≡◌, ℕ, Bool, true, false, not, ◌&&◌, ◌==◌, cond, List, [], ◌∷◌, ◌++◌, map, Option, Some, None, option_map, if◌then◌else◌, refl, sym, ap, ◌∙◌, subst, append_assoc, inl, inr, eqb-true, true≢false}
use lib.Utf8.{scalar, scalars}
use Rattle.std.proofs.lemmas.Bool.{and_parts, and_from, cases_Bool, cond-true, cond-false}
use Rattle.std.proofs.lemmas.Option.{none-some, same_Some}
use Rattle.std.specs.List.{list_all}
use Rattle.text_choices.specs.Alternatives.{Choice, has_meaning, step, before, spelled_from, is_mark}
use Rattle.text_choices.specs.declared.atom.Atom.{Atom}
use Rattle.text_choices.specs.declared.atom.Atom.TheVariants.{Char, Any}
use Rattle.text_choices.specs.declared.reading.Step.{Step}
use Rattle.text_choices.specs.declared.reading.Step.TheVariants.{Refuse, Goes, Bar, Put}
use Rattle.text_choices.specs.declared.reading.Place.{Place}
use Rattle.text_choices.specs.declared.reading.Place.TheVariants.{Inside, Escaped, Closed}

pub data Piece : Type 0 where
  plain : ℕ → Piece
  escaped : ℕ → Piece
  dot : Piece

abbrev pub written : Piece → List ℕ
written (plain c) = c ∷ []
written (escaped c) = 92 ∷ c ∷ []
written dot = 46 ∷ []

abbrev pub is_piece : Piece → Bool
is_piece (plain c) = not (has_meaning c) && scalar c
is_piece (escaped c) = is_mark c && scalar c
is_piece dot = true

abbrev pub atom_of : Piece → Atom
atom_of (plain c) = Char c
atom_of (escaped c) = Char c
atom_of dot = Any

abbrev pub writing : List Piece → List ℕ
writing [] = []
writing (p ∷ ps) = written p ++ writing ps

abbrev pub atoms_of : List Piece → List Atom
atoms_of = map atom_of

-- the alternatives with bars between them
abbrev pub joined : List Piece → List (List Piece) → List ℕ
joined ps [] = writing ps
joined ps (qs ∷ others) = writing ps ++ 124 ∷ joined qs others

abbrev pub are_pieces : List (List Piece) → Bool
are_pieces all = list_all (list_all is_piece) all

-- what closes the pattern
abbrev pub close : Bool → List ℕ
close true = 41 ∷ []
close false = []

pub record IsWritten (text tail : List ℕ) (choice : Choice) : Type 0 where
  pub first : List Piece
  pub others : List (List Piece)
  pub valid : are_pieces (first ∷ others) ≡ true
  pub text_is : text ≡ joined first others ++ tail
  pub choice_is : choice ≡ map atoms_of (first ∷ others)

joined-more : (p : Piece) (first : List Piece) (others : List (List Piece)) (tail : List ℕ) →
    joined (p ∷ first) others ++ tail ≡ written p ++ (joined first others ++ tail)
joined-more p first [] tail = append_assoc (written p) (writing first) tail
joined-more p first (qs ∷ others) tail =
    ap (λ t. t ++ tail) (append_assoc (written p) (writing first) (124 ∷ joined qs others))
    ∙ append_assoc (written p) (writing first ++ 124 ∷ joined qs others) tail

put : (p : Piece) (text tail : List ℕ) (choice : Choice) → is_piece p ≡ true → IsWritten text tail choice →
    IsWritten (written p ++ text) tail (before (atom_of p) choice)
put p text tail choice ok w = record {
  first = p ∷ w.first;
  others = w.others;
  valid = let parts = and_parts (list_all is_piece w.first) (are_pieces w.others) w.valid in
      and_from (list_all is_piece (p ∷ w.first)) (are_pieces w.others) (and_from (is_piece p) (list_all is_piece w.first) ok parts.0) parts.1;
  text_is = ap (λ t. written p ++ t) w.text_is ∙ sym (joined-more p w.first w.others tail);
  choice_is = ap (before (atom_of p)) w.choice_is;
}

bar : (text tail : List ℕ) (choice : Choice) → IsWritten text tail choice → IsWritten (124 ∷ text) tail ([] ∷ choice)
bar text tail choice w = record {
  first = [];
  others = w.first ∷ w.others;
  valid = w.valid;
  text_is = ap (λ t. 124 ∷ t) w.text_is;
  choice_is = ap (λ x. [] ∷ x) w.choice_is;
}

nothing : (tail : List ℕ) → IsWritten tail tail ([] ∷ [])
nothing tail = record { first = []; others = []; valid = refl; text_is = refl; choice_is = refl }

mapped : {A B : Type 0} (f : A → B) (o : Option A) (b : B) → option_map f o ≡ Some b → (a : A) × (o ≡ Some a) × (b ≡ f a)
mapped f None b e = absurd (none-some b e)
mapped f (Some a) b e = (a, refl, sym (same_Some (f a) b e))

-- what is left of the text at a place
abbrev lead : Place → List ℕ → List ℕ
lead Inside text = text
lead Escaped text = 92 ∷ text
lead Closed text = 41 ∷ text

abbrev may_be : Bool → Place → Bool
may_be grouped Inside = true
may_be grouped Escaped = true
may_be grouped Closed = grouped

abbrev pub by_step : Bool → Step → List ℕ → Option Choice
by_step grouped Refuse rest = None
by_step grouped (Goes next) rest = spelled_from grouped next rest
by_step grouped Bar rest = option_map (λ x. [] ∷ x) (spelled_from grouped Inside rest)
by_step grouped (Put a) rest = option_map (before a) (spelled_from grouped Inside rest)

pub step_is : (grouped : Bool) (place : Place) (c : ℕ) (rest : List ℕ) (s : Step) → step grouped place c ≡ s → spelled_from grouped place (c ∷ rest) ≡ by_step grouped s rest
step_is grouped place c rest Refuse e = rw (e, spelled_from)
step_is grouped place c rest (Goes next) e = rw (e, spelled_from)
step_is grouped place c rest Bar e = rw (e, spelled_from)
step_is grouped place c rest (Put a) e = rw (e, spelled_from)

-- a parenthesis that closes the pattern is its last character
at_close : (grouped : Bool) (rest : List ℕ) (choice : Choice) → by_step grouped (if grouped then Goes Closed else Refuse) rest ≡ Some choice →
    IsWritten (41 ∷ rest) (close grouped) choice
at_close false rest choice e = absurd (none-some choice e)
at_close true [] choice e = subst (IsWritten (41 ∷ []) (41 ∷ [])) (same_Some _ _ e) (nothing (41 ∷ []))
at_close true (c ∷ rest) choice e = absurd (none-some choice e)

pub is_written : (grouped : Bool) (place : Place) (text : List ℕ) (choice : Choice) → scalars text ≡ true →
    may_be grouped place ≡ true → spelled_from grouped place text ≡ Some choice → IsWritten (lead place text) (close grouped) choice
is_written true Inside [] choice s g e = absurd (none-some _ e)
is_written false Inside [] choice s g e = subst (IsWritten [] []) (same_Some _ _ e) (nothing [])
is_written grouped Escaped [] choice s g e = absurd (none-some _ e)
is_written true Closed [] choice s g e = subst (IsWritten (41 ∷ []) (41 ∷ [])) (same_Some _ _ e) (nothing (41 ∷ []))
is_written false Closed [] choice s g e = absurd (true≢false (sym g))
is_written grouped Closed (c ∷ rest) choice s g e = absurd (none-some _ e)
is_written grouped Escaped (c ∷ rest) choice s g e =
    let by : (kind : Step) → step grouped Escaped c ≡ kind → by_step grouped kind rest ≡ Some choice = λ kind is. sym (step_is grouped Escaped c rest kind is) ∙ e in
    let parts = and_parts (scalar c) (scalars rest) s in
    elim (cases_Bool (is_mark c)) [
      | inl is_so ↦
          let m = mapped (before (Char c)) (spelled_from grouped Inside rest) choice (by (Put (Char c)) (rw is_so)) in
          subst (IsWritten (92 ∷ c ∷ rest) (close grouped)) (sym m.2)
          (put (escaped c) rest (close grouped) m.0 (and_from (is_mark c) (scalar c) is_so parts.0) (is_written grouped Inside rest m.0 parts.1 refl m.1))
      | inr not_so ↦ absurd (none-some choice (by Refuse (rw not_so)))
    ]
is_written grouped Inside (c ∷ rest) choice s g e =
    let by : (kind : Step) → step grouped Inside c ≡ kind → by_step grouped kind rest ≡ Some choice = λ kind is. sym (step_is grouped Inside c rest kind is) ∙ e in
    let parts = and_parts (scalar c) (scalars rest) s in
    elim (cases_Bool (c == 92)) [
      | inl is_so ↦ subst (λ x. IsWritten (x ∷ rest) (close grouped) choice) (sym (eqb-true c 92 is_so)) (is_written grouped Escaped rest choice parts.1 refl (by (Goes Escaped) (rw is_so)))
      | inr no1 ↦ elim (cases_Bool (c == 124)) [
        | inl is_so ↦
            let m = mapped (λ x. [] ∷ x) (spelled_from grouped Inside rest) choice (by Bar (rw (no1, is_so))) in
            subst (λ x. IsWritten (x ∷ rest) (close grouped) choice) (sym (eqb-true c 124 is_so))
            (subst (IsWritten (124 ∷ rest) (close grouped)) (sym m.2) (bar rest (close grouped) m.0 (is_written grouped Inside rest m.0 parts.1 refl m.1)))
        | inr no2 ↦ elim (cases_Bool (c == 46)) [
          | inl is_so ↦
              let m = mapped (before Any) (spelled_from grouped Inside rest) choice (by (Put Any) (rw (no1, no2, is_so))) in
              subst (λ x. IsWritten (x ∷ rest) (close grouped) choice) (sym (eqb-true c 46 is_so))
              (subst (IsWritten (46 ∷ rest) (close grouped)) (sym m.2) (put dot rest (close grouped) m.0 refl (is_written grouped Inside rest m.0 parts.1 refl m.1)))
          | inr no3 ↦ elim (cases_Bool (c == 41)) [
            | inl is_so ↦ subst (λ x. IsWritten (x ∷ rest) (close grouped) choice) (sym (eqb-true c 41 is_so)) (at_close grouped rest choice (by (if grouped then Goes Closed else Refuse) (rw (no1, no2, no3, is_so))))
            | inr no4 ↦
                let special : step grouped Inside c ≡ cond (has_meaning c) Refuse (Put (Char c)) = cond-false (c == 92) _ _ no1 ∙ cond-false (c == 124) _ _ no2 ∙ cond-false (c == 46) _ _ no3 ∙ cond-false (c == 41) _ _ no4 in
                elim (cases_Bool (has_meaning c)) [
                  | inl is_so ↦ absurd (none-some choice (by Refuse (special ∙ cond-true (has_meaning c) _ _ is_so)))
                  | inr no5 ↦
                      let m = mapped (before (Char c)) (spelled_from grouped Inside rest) choice (by (Put (Char c)) (special ∙ cond-false (has_meaning c) _ _ no5)) in
                      subst (IsWritten (c ∷ rest) (close grouped)) (sym m.2)
                      (put (plain c) rest (close grouped) m.0 (and_from (not (has_meaning c)) (scalar c) (ap not no5) parts.0) (is_written grouped Inside rest m.0 parts.1 refl m.1))
                ]
          ]
        ]
      ]
    ]
