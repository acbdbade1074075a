-- The full matches of a choice of plain texts are these texts.
use Rattle.std.proofs.Common.{◌≡◌, ◌↔◌, ℕ, zero, suc, ◌+◌, ◌<◌, ◌≤◌, true, not, ◌==◌, List, [], ◌∷◌, ◌++◌, length, drop, Some, encode_utf8, is_some, refl, sym, ap, ◌∙◌, subst, arith, inl, inr, length-append, length-drop, append-nil, append_assoc, zero-add, add-zero, true≢false, drop-drop, nat_lt}
use Rattle.std.proofs.lemmas.Bool.{cases_lt, and_parts, and_from}
use Rattle.std.proofs.lemmas.Bool.Decides.{nat_tests}
use Rattle.std.proofs.lemmas.List.{nil_from_length}
use Rattle.std.proofs.lemmas.List.Splits.{length-slice_split, join_with_byte-slice_split}
use Rattle.std.proofs.lemmas.Option.{slice_get-get_or, slice_get_past}
use Rattle.std.proofs.lemmas.Str.{encode_ascii, chars-IsAscii, IsUtf8-from_ascii, IsCharBoundary-start}
use Rattle.std.proofs.lemmas.Str.Ascii.{IsAscii-cons, IsAscii-nil}
use Rattle.std.specs.Prelude.{option_and_then}
use Rattle.std.specs.List.{list_all, join_with_byte, Contains}
use Rattle.std.specs.Str.{IsAscii}
use Rattle.regex_class.proofs.RangesLemmas.{in_ranges-nil}
use Rattle.regex_hir.specs.Looks.{holds, holds_between}
use Rattle.regex_hir.specs.Matches.{Matches}
use Rattle.regex_hir.proofs.OptionLemmas.{value_of_IsSome, option_cases}
use Rattle.regex_hir.proofs.TextLemmas.{has_bytes_at_parts, has_bytes_at_from, byte_before-zero, byte_before-add-one}
use Rattle.regex.specs.Patterns.{Re, Start, End, find_str}
use Rattle.regex.proofs.ForCallers.{find_str_sound, find_str_complete}
use Rattle.labels.proofs.Lists.{here, there, Contains-cases, none_in_nil}
use Rattle.matchers.specs.Choices.{has_meaning, is_plain, is_plain_text, is_choice, between_bars}
use Rattle.matchers.specs.Patterns.{anchored, tree_of, is_full_match}
use Rattle.matchers.proofs.ChoiceReading.{first_plain, first_filled, others_plain, branch_of, group_of, tree_of_choice, between, read_choice}

small_of : (c : ℕ) → nat_lt c 128 ≡ true → c < 128
small_of c h = grind (arith, nat_tests)

plain_ascii : (c : ℕ) → is_plain c ≡ true → c < 128
plain_ascii c h = small_of c (and_parts (nat_lt c 128) (not (has_meaning c)) h).0

itself_is : (c : ℕ) → is_plain c ≡ true → encode_utf8 c ≡ c ∷ []
itself_is c h = encode_ascii c (plain_ascii c h)

one_more : (hay : List ℕ) (i c : ℕ) (rest : List ℕ) → drop i hay ≡ c ∷ rest → drop (i + 1) hay ≡ rest
one_more hay i c rest e = sym (drop-drop 1 i hay) ∙ ap (drop 1) e

-- what a plain text matches
reads_text : (hay cs : List ℕ) (i j : ℕ) → list_all is_plain cs ≡ true → Matches hay (branch_of cs).value i j → drop i hay ≡ cs ++ drop j hay
reads_text hay [] i j all m = ap (λ k. drop k hay) (sym m)
reads_text hay (c ∷ cs) i j all m =
    let parts = and_parts _ _ all in
    let stands : drop i hay ≡ c ∷ drop (i + 1) hay = rw (itself_is c parts.0) at (has_bytes_at_parts hay i (encode_utf8 c) m.1.0) in
    let next : m.0 ≡ i + 1 = m.1.1 ∙ ap (λ bs. i + length bs) (itself_is c parts.0) in
    stands ∙ ap (λ t. c ∷ t) (ap (λ k. drop k hay) (sym next) ∙ reads_text hay cs m.0 j parts.1 m.2)

text_is_read : (hay cs rest : List ℕ) (i j : ℕ) → list_all is_plain cs ≡ true → j ≡ i + length cs → drop i hay ≡ cs ++ rest →
    Matches hay (branch_of cs).value i j
text_is_read hay [] rest i j all e h = e ∙ add-zero i
text_is_read hay (c ∷ cs) rest i j all e h =
    let parts = and_parts _ _ all in
    let one = itself_is c parts.0 in
    let stands : drop i hay ≡ encode_utf8 c ++ (cs ++ rest) = h ∙ ap (λ bs. bs ++ (cs ++ rest)) (sym one) in (
      i + 1,
      (has_bytes_at_from hay i (encode_utf8 c) (cs ++ rest) stands, ap (λ bs. i + length bs) (sym one)),
      text_is_read hay cs rest (i + 1) j parts.1 (omega arith) (one_more hay i c (cs ++ rest) h),
    )

abbrev choice_of : List (List ℕ) → Re
choice_of ts = (group_of ts).value

-- a choice matches as one of its texts, which is not empty
reads_one : (hay : List ℕ) (ts : List (List ℕ)) (i j : ℕ) → list_all is_plain_text ts ≡ true → Matches hay (choice_of ts) i j →
    (t : List ℕ) × (Contains ts t × (drop i hay ≡ t ++ drop j hay) × (0 < length t))
reads_one hay [] i j all m = absurd (true≢false (sym m.2 ∙ in_ranges-nil m.0))
reads_one hay (t ∷ ts) i j all (inl m) =
    (t, (here t ts, reads_text hay t i j (first_plain t ts all) m, first_filled t ts all))
reads_one hay (t ∷ ts) i j all (inr m) =
    let found = reads_one hay ts i j (others_plain t ts all) m in
    (found.0, (there t found.0 ts found.1.0, found.1.1, found.1.2))

one_is_read : (hay : List ℕ) (ts : List (List ℕ)) (t rest : List ℕ) (i j : ℕ) → list_all is_plain_text ts ≡ true → Contains ts t →
    j ≡ i + length t → drop i hay ≡ t ++ rest → Matches hay (choice_of ts) i j
one_is_read hay [] t rest i j all c e h = absurd (none_in_nil t c)
one_is_read hay (u ∷ ts) t rest i j all c e h =
    elim (Contains-cases u ts t c) [
      | inl same ↦ inl (text_is_read hay u rest i j (first_plain u ts all) (e ∙ ap (λ x. i + length x) (sym same)) (h ∙ ap (λ x. x ++ rest) (sym same)))
      | inr later ↦ inr (one_is_read hay ts t rest i j (others_plain u ts all) later e h)
    ]

at_start : (hay : List ℕ) (i : ℕ) → i ≤ length hay → holds Start hay i ≡ true → i ≡ 0
unfolding holds holds_between
at_start hay zero le h = refl
at_start hay (suc i) le h =
    let next : suc i ≡ i + 1 = omega arith in
    absurd (true≢false (sym h ∙ rw (next, byte_before-add-one hay i, slice_get-get_or hay i 0 (omega arith))))

at_end : (hay : List ℕ) (i : ℕ) → holds End hay i ≡ true → length hay ≤ i
unfolding holds holds_between
at_end hay i h = elim (cases_lt i (length hay))
    [ inl lt ↦ absurd (true≢false (sym h ∙ rw (slice_get-get_or hay i 0 lt))) | inr ge ↦ ge ]

starts : (hay : List ℕ) → holds Start hay 0 ≡ true
unfolding holds holds_between
starts hay = rw (byte_before-zero hay)

ends : (hay : List ℕ) → holds End hay (length hay) ≡ true
unfolding holds holds_between
ends hay = rw (slice_get_past hay (length hay) (omega arith))

-- the whole value is one of the texts
pub match_is_one : (ts : List (List ℕ)) → list_all is_plain_text ts ≡ true → (value : List ℕ) → is_some (find_str (tree_of_choice ts) value 0) ≡ true →
    Contains ts value
match_is_one ts all value found = elim (option_cases (find_str (tree_of_choice ts) value 0)) [
  | inl none ↦ absurd (true≢false (sym found ∙ ap is_some none))
  | inr some ↦ elim (find_str_sound (tree_of_choice ts) value 0 some.0 some.1).1 [
    | inl m ↦
        let one = reads_one value ts m.0 m.2.0 all m.2.1 in
        let within : m.0 < length value = omega (arith, one.1.2, ap length one.1.1, length-append one.0 (drop m.2.0 value), length-drop m.0 value) in
        let from : some.0.start ≡ 0 = at_start value some.0.start (omega (arith, within, m.1.1)) m.1.0 in
        let start : m.0 ≡ 0 = m.1.1 ∙ from in
        let to : length value ≤ m.2.0 = at_end value m.2.0 m.2.2.1.0 in
        let rest : drop m.2.0 value ≡ [] = nil_from_length _ (omega (arith, to, length-drop m.2.0 value)) in
        let same : one.0 ≡ value = sym (append-nil one.0) ∙ ap (λ xs. one.0 ++ xs) (sym rest) ∙ sym one.1.1 ∙ ap (λ k. drop k value) start in
        subst (λ (t : List ℕ). Contains ts t) same one.1.0
    | inr m ↦ absurd (true≢false (sym m.2 ∙ in_ranges-nil m.0))
  ]
]

before : (cs rest : List ℕ) → list_all (λ c. nat_lt c 128) cs ≡ true → IsAscii rest → IsAscii (cs ++ rest)
before [] rest all h = h
before (c ∷ cs) rest all h =
    let parts = and_parts (nat_lt c 128) (list_all (λ c. nat_lt c 128) cs) all in
    let small : nat_lt c 128 ≡ true = parts.0 in
    IsAscii-cons c (cs ++ rest) (small_of c small) (before cs rest parts.1 h)

all_small : (cs : List ℕ) → list_all is_plain cs ≡ true → list_all (λ c. nat_lt c 128) cs ≡ true
all_small [] all = refl
all_small (c ∷ cs) all =
    let parts = and_parts (is_plain c) (list_all is_plain cs) all in
    and_from (nat_lt c 128) (list_all (λ c. nat_lt c 128) cs) (and_parts (nat_lt c 128) _ parts.0).0 (all_small cs parts.1)

all_ascii : (cs : List ℕ) → list_all is_plain cs ≡ true → IsAscii cs
all_ascii cs h = rw append-nil at (before cs [] (all_small cs h) IsAscii-nil)

one_plain : (ts : List (List ℕ)) (t : List ℕ) → list_all is_plain_text ts ≡ true → Contains ts t → list_all is_plain t ≡ true
one_plain [] t all c = absurd (none_in_nil t c)
one_plain (u ∷ ts) t all c = elim (Contains-cases u ts t c) [
  | inl same ↦ ap (list_all is_plain) (sym same) ∙ first_plain u ts all
  | inr later ↦ one_plain ts t (others_plain u ts all) later
]

-- and each of them is matched
pub one_is_match : (ts : List (List ℕ)) → list_all is_plain_text ts ≡ true → (value : List ℕ) → Contains ts value →
    is_some (find_str (tree_of_choice ts) value 0) ≡ true
one_is_match ts all value c =
    let cut = IsCharBoundary-start value (IsUtf8-from_ascii value (all_ascii value (one_plain ts value all c))) in
    let choice = one_is_read value ts value [] 0 (length value) all c (sym (zero-add _)) (sym (append-nil value)) in
    let whole : Matches value (tree_of_choice ts) 0 (length value) = inl (0, (starts value, refl), (length value, choice, (length value, (ends value, refl), refl))) in
    let found = value_of_IsSome _ (find_str_complete (tree_of_choice ts) value 0 0 (length value) (omega arith) cut whole) in
    ap is_some found.1

pattern_ascii : (ts : List (List ℕ)) (rest : List ℕ) → list_all is_plain_text ts ≡ true → IsAscii rest → IsAscii (join_with_byte 124 ts ++ rest)
pattern_ascii [] rest all h = h
pattern_ascii (t ∷ []) rest all h = before t rest (all_small t (first_plain t [] all)) h
pattern_ascii (t ∷ u ∷ us) rest all h =
    let others = join_with_byte 124 (u ∷ us) in
    let later = pattern_ascii (u ∷ us) rest (others_plain t (u ∷ us) all) h in
    subst IsAscii (sym (append_assoc t (124 ∷ others) rest))
    (before t (124 ∷ (others ++ rest)) (all_small t (first_plain t (u ∷ us) all)) (before (124 ∷ []) (others ++ rest) refl later))

choice_read : (ts : List (List ℕ)) → 0 < length ts → list_all is_plain_text ts ≡ true → tree_of (anchored (join_with_byte 124 ts)) ≡ Some (tree_of_choice ts)
choice_read [] some all = absurd (omega (arith, some))
choice_read (t ∷ ts) some all =
    let pattern = join_with_byte 124 (t ∷ ts) in
    let close : IsAscii (41 ∷ 36 ∷ []) = before (41 ∷ 36 ∷ []) [] refl IsAscii-nil in
    let ascii : IsAscii (between pattern) = before (94 ∷ 40 ∷ 63 ∷ 115 ∷ 58 ∷ []) (pattern ++ 41 ∷ 36 ∷ []) refl (pattern_ascii (t ∷ ts) (41 ∷ 36 ∷ []) all close) in
    rw (chars-IsAscii (between pattern) ascii) (read_choice t ts all)

-- the values that match a choice of plain texts from their first byte to their last are its texts
pub choice_matches : (pattern : List ℕ) → is_choice pattern ≡ true → (value : List ℕ) → (is_full_match pattern value ≡ true) ↔ Contains (between_bars pattern) value
choice_matches pattern all value =
    let ts = between_bars pattern in
    let joined : join_with_byte 124 ts ≡ pattern = join_with_byte-slice_split 124 pattern in
    let some : 0 < length ts = omega (arith, length-slice_split (λ b. b == 124) pattern) in
    let tree : tree_of (anchored pattern) ≡ Some (tree_of_choice ts) = ap (λ p. tree_of (anchored p)) (sym joined) ∙ choice_read ts some all in
    let is : is_full_match pattern value ≡ is_some (find_str (tree_of_choice ts) value 0) =
    ap (λ o. is_some (option_and_then (λ tree. find_str tree value 0) o)) tree in
    (λ e. match_is_one ts all value (sym is ∙ e), λ c. is ∙ one_is_match ts all value c)

no_empty : (ts : List (List ℕ)) → list_all is_plain_text ts ≡ true → Contains ts [] → ⊥
no_empty [] all c = none_in_nil [] c
no_empty (u ∷ ts) all c = elim (Contains-cases u ts [] c) [
  | inl same ↦ omega (arith, first_filled u ts all, ap length same)
  | inr later ↦ no_empty ts (others_plain u ts all) later
]

-- none of its texts is empty
pub no_empty_choice : (pattern : List ℕ) → is_choice pattern ≡ true → Contains (between_bars pattern) [] → ⊥
no_empty_choice pattern all = no_empty (between_bars pattern) all
