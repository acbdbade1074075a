-- What the tree of a choice matches: a text that one of its alternatives stands for.
use Rattle.std.proofs.Common.{◌≡◌, ℕ, ◌+◌, ◌≤◌, Bool, true, false, not, ◌&&◌, ◌||◌, List, [], ◌∷◌, ◌++◌, length, drop, map, Some, encode_utf8, if◌then◌else◌, refl, sym, ap, ◌∙◌, subst, arith, inl, inr, length-append, length-drop, true≢false, eq-eqb, eqb-true}
use lib.Utf8.{scalar, scalars, encodes}
use Rattle.std.proofs.lemmas.Bool.{and_parts, and_from, or_left, or_cases}
use Rattle.std.proofs.lemmas.Bool.Decides.{nat_tests}
use Rattle.std.proofs.lemmas.Option.{same_Some}
use Rattle.std.proofs.lemmas.Str.{length-encode, len_utf8_bounds, drop_past_char}
use Rattle.std.specs.Char.{len_utf8, IsScalar}
use Rattle.std.specs.List.{list_any, list_all}
use Rattle.regex_class.specs.Ranges.{in_ranges}
use Rattle.regex_class.proofs.RangesLemmas.{in_ranges-nil}
use Rattle.regex_hir.specs.Matches.{Matches}
use Rattle.regex_hir.specs.Meaning.{cat_all, alt_all}
use Rattle.regex_hir.specs.Re.{Re, literal, char_in}
use Rattle.regex_hir.specs.Text.{char_at}
use Rattle.regex_hir.proofs.TextLemmas.{has_bytes_at_parts, has_bytes_at_from, char_at_parts, char_at_from, char_at_fits}
use Rattle.regex_syntax.proofs.SetLemmas.{in_ranges-members}
use Rattle.regex_syntax.specs.Brackets.{Nested, flat, join}
use Rattle.regex_syntax.specs.declared.Config.{Config}
use Rattle.regex_syntax.specs.Reading.{◌∈◌}
use Rattle.regex_syntax.specs.Sets.{Set, members, negate, one_of, dot}
use Rattle.regex.specs.Patterns.{default_config}
use Rattle.text_choices.specs.Alternatives.{Choice, takes, fits}
use Rattle.text_choices.specs.declared.atom.Atom.{Atom}
use Rattle.text_choices.specs.declared.atom.Atom.TheVariants.{Char, Any}

-- inside the group a dot stands for every character
abbrev pub inside : Config
inside = record default_config { flags = record (default_config.flags) { dot_matches_new_line = true } }

abbrev pub every : Set
every = negate inside (λ c. not true && (if false then c ∈ "\n\r" else c ∈ "\n"))

abbrev pub any_char : Re
any_char = one_of inside every

pub dot_is : dot inside ≡ Some any_char
unfolding dot
dot_is = refl

any_is : any_char ≡ char_in (members every)
unfolding one_of
any_is = refl

every_takes : (c : ℕ) → IsScalar c → in_ranges (members every) c ≡ true
unfolding negate
every_takes c h = in_ranges-members every c ∙ grind (arith, nat_tests)

abbrev pub tree : Atom → Re
tree (Char c) = literal (encode_utf8 c)
tree Any = any_char

abbrev pub is_atom : Atom → Bool
is_atom (Char c) = scalar c
is_atom Any = true

abbrev pub nested : Atom → Nested Re
nested a = flat (tree a)

abbrev pub branch : List Atom → Nested Re
branch atoms = join cat_all (map nested atoms)

abbrev pub are_atoms : Choice → Bool
are_atoms choice = list_all (list_all is_atom) choice

one_taken : (hay : List ℕ) (i l : ℕ) (a : Atom) → is_atom a ≡ true → Matches hay (tree a) i l →
    (c : ℕ) × (char_at hay i ≡ Some c) × (takes a c ≡ true) × (l ≡ i + len_utf8 c)
one_taken hay i l (Char d) ok m =
    (d, char_at_from hay i d _ ok (has_bytes_at_parts hay i (encode_utf8 d) m.0), eq-eqb d d refl, m.1 ∙ ap (λ n. i + n) (length-encode d))
one_taken hay i l Any ok m =
    let found = subst (λ re. Matches hay re i l) any_is m in
    (found.0, found.1, refl, found.3)

take_one : (hay : List ℕ) (i c : ℕ) (a : Atom) → char_at hay i ≡ Some c → takes a c ≡ true → Matches hay (tree a) i (i + len_utf8 c)
take_one hay i c (Char d) e t =
    let same : c ≡ d = eqb-true c d t in
    subst (λ x. Matches hay (literal (encode_utf8 x)) i (i + len_utf8 c)) same
    (has_bytes_at_from hay i (encode_utf8 c) _ (char_at_parts hay i c e).1, ap (λ n. i + n) (sym (length-encode c)))
take_one hay i c Any e t =
    subst (λ re. Matches hay re i (i + len_utf8 c)) (sym any_is) (c, e, every_takes c (char_at_parts hay i c e).0, refl)

no_char : (c : ℕ) (rest : List ℕ) → encode_utf8 c ++ rest ≡ [] → ⊥
no_char c rest e = omega (arith, ap length e, length-append (encode_utf8 c) rest, length-encode c, len_utf8_bounds c)

fits_sound : (hay : List ℕ) (atoms : List Atom) (cs : List ℕ) (i j : ℕ) → list_all is_atom atoms ≡ true → scalars cs ≡ true →
    drop i hay ≡ encodes cs → Matches hay (branch atoms).value i j → drop j hay ≡ [] → fits atoms cs ≡ true
fits_sound hay [] [] i j all ok e m end = refl
fits_sound hay [] (c ∷ cs) i j all ok e m end = absurd (no_char c (encodes cs) (sym e ∙ ap (λ k. drop k hay) (sym m) ∙ end))
fits_sound hay (a ∷ atoms) [] i j all ok e m end =
    let one = one_taken hay i m.0 a (and_parts (is_atom a) _ all).0 m.1 in
    absurd (no_char one.0 _ (sym (char_at_parts hay i one.0 one.1).1 ∙ e))
fits_sound hay (a ∷ atoms) (c ∷ cs) i j all ok e m end =
    let parts = and_parts (is_atom a) (list_all is_atom atoms) all in
    let chars_ok = and_parts (scalar c) (scalars cs) ok in
    let one = one_taken hay i m.0 a parts.0 m.1 in
    let same : one.0 ≡ c = same_Some one.0 c (sym one.1 ∙ char_at_from hay i c (encodes cs) chars_ok.0 e) in
    let next : drop m.0 hay ≡ encodes cs = ap (λ k. drop k hay) (one.3 ∙ ap (λ x. i + len_utf8 x) same) ∙ drop_past_char hay (encodes cs) i c e in
    and_from (takes a c) (fits atoms cs) (ap (takes a) (sym same) ∙ one.2) (fits_sound hay atoms cs m.0 j parts.1 chars_ok.1 next m.2 end)

fits_complete : (hay : List ℕ) (atoms : List Atom) (cs : List ℕ) (i : ℕ) → scalars cs ≡ true →
    drop i hay ≡ encodes cs → i ≤ length hay → fits atoms cs ≡ true → Matches hay (branch atoms).value i (length hay)
fits_complete hay [] [] i ok e le f = omega (arith, ap length e, length-drop i hay, le)
fits_complete hay [] (c ∷ cs) i ok e le f = absurd (true≢false (sym f))
fits_complete hay (a ∷ atoms) [] i ok e le f = absurd (true≢false (sym f))
fits_complete hay (a ∷ atoms) (c ∷ cs) i ok e le f =
    let chars_ok = and_parts (scalar c) (scalars cs) ok in
    let both = and_parts (takes a c) (fits atoms cs) f in
    let at = char_at_from hay i c (encodes cs) chars_ok.0 e in (
      i + len_utf8 c,
      take_one hay i c a at both.0,
      fits_complete hay atoms cs (i + len_utf8 c) chars_ok.1 (drop_past_char hay (encodes cs) i c e) (char_at_fits hay i c at) both.1,
    )

abbrev pub choice_tree : Choice → Re
choice_tree choice = (join alt_all (map branch choice)).value

or_right : (x y : Bool) → y ≡ true → (x || y) ≡ true
or_right true y e = refl
or_right false y e = e

pub choice_sound : (hay : List ℕ) (choice : Choice) (cs : List ℕ) (i j : ℕ) → are_atoms choice ≡ true → scalars cs ≡ true →
    drop i hay ≡ encodes cs → Matches hay (choice_tree choice) i j → drop j hay ≡ [] → list_any (λ atoms. fits atoms cs) choice ≡ true
choice_sound hay [] cs i j all ok e m end = absurd (true≢false (sym m.2 ∙ in_ranges-nil m.0))
choice_sound hay (atoms ∷ choice) cs i j all ok e (inl m) end =
    or_left (fits atoms cs) _ (fits_sound hay atoms cs i j (and_parts (list_all is_atom atoms) (are_atoms choice) all).0 ok e m end)
choice_sound hay (atoms ∷ choice) cs i j all ok e (inr m) end =
    or_right (fits atoms cs) _ (choice_sound hay choice cs i j (and_parts (list_all is_atom atoms) (are_atoms choice) all).1 ok e m end)

pub choice_complete : (hay : List ℕ) (choice : Choice) (cs : List ℕ) (i : ℕ) → scalars cs ≡ true →
    drop i hay ≡ encodes cs → i ≤ length hay → list_any (λ atoms. fits atoms cs) choice ≡ true → Matches hay (choice_tree choice) i (length hay)
choice_complete hay [] cs i ok e le f = absurd (true≢false (sym f))
choice_complete hay (atoms ∷ choice) cs i ok e le f = elim (or_cases (fits atoms cs) (list_any (λ atoms. fits atoms cs) choice) f) [
  | inl here ↦ inl (fits_complete hay atoms cs i ok e le here)
  | inr later ↦ inr (choice_complete hay choice cs i ok e le later)
]
