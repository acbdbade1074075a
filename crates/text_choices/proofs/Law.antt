-- A choice means what `regex` makes of its pattern.
use Rattle.std.proofs.Common.{◌≡◌, ℕ, zero, suc, ◌+◌, ◌-◌, ◌*◌, ◌<◌, ◌≤◌, Bool, true, false, not, ◌==◌, List, [], ◌∷◌, ◌++◌, length, drop, map, Some, None, option_map, chars, is_some, IsUtf8, refl, sym, ap, ◌∙◌, subst, arith, inl, inr, length-append, length-drop, append-nil, append_assoc, true≢false, eqb-true, eq-eqb, ne_eqb, nat_lt}
use lib.Utf8.{scalar, scalars, encodes}
use Rattle.std.proofs.lemmas.Bool.{cases_Bool, cases_lt, and_parts, and_from, cond-true, cond-false}
use Rattle.std.proofs.lemmas.Bool.Decides.{nat_tests}
use Rattle.std.proofs.lemmas.List.{nil_from_length}
use Rattle.std.proofs.lemmas.Option.{slice_get-get_or, slice_get_past}
use Rattle.std.proofs.lemmas.Str.{chars-append, chars-IsAscii, encodes-chars, scalars-chars, IsUtf8-from_ascii, IsCharBoundary-start}
use Rattle.std.proofs.lemmas.Str.Ascii.{IsAscii-cons, IsAscii-nil}
use Rattle.std.specs.List.{list_all}
use Rattle.std.specs.Str.{IsAscii}
use Rattle.regex_class.proofs.RangesLemmas.{in_ranges-nil}
use Rattle.regex_hir.specs.Looks.{holds, holds_between}
use Rattle.regex_hir.specs.Matches.{Matches}
use Rattle.regex_hir.specs.Meaning.{cat_all, alt_all}
use Rattle.regex_hir.specs.Re.{look, group}
use Rattle.regex_hir.proofs.FindLemmas.{IsFirst-of_first_between}
use Rattle.regex_hir.proofs.OptionLemmas.{value_of_IsSome, option_cases}
use Rattle.regex_hir.proofs.TextLemmas.{byte_before-zero, byte_before-add-one}
use Rattle.regex_syntax.proofs.BranchLemmas.{ends_branch, repetitions_end, join_after, branch_ends, branch_goes, more_parts, group_inside, close_group, join_parts_is, branches_go, more_branches, join_ends}
use Rattle.regex_syntax.specs.Brackets.{Nested, flat, join}
use Rattle.regex_syntax.specs.Grammar.{Names, Place, opens, rest_of_group, atom, char_meaning, item, with_repetitions, items, read, join_parts, branches, opening, set_flags, set_flag, capture}
use Rattle.regex_syntax.specs.Reading.{Text, is_at, begins, first, skip, ◌>>=◌}
use Rattle.regex.specs.Patterns.{Re, Start, End, Match, find_str, default_config}
use Rattle.regex.proofs.ForCallers.{find_str_sound, find_str_complete}
use Rattle.text_choices.specs.Alternatives.{Choice, has_meaning, is_mark, accepts, spelled, choice_of, anchored, tree_between, MeansPattern}
use Rattle.text_choices.specs.declared.reading.Place.TheVariants.{Inside}
use Rattle.text_choices.proofs.Written.{Piece, plain, escaped, dot, written, is_piece, atom_of, writing, atoms_of, joined, are_pieces, is_written, IsWritten}
use Rattle.text_choices.proofs.Meaning.{inside, branch, choice_tree, are_atoms, is_atom, choice_sound, choice_complete}
use Rattle.text_choices.proofs.TreeOf.{branches_read, no_skip, plain_differs}

abbrev outer : Names → Text → Place
outer names t = record { config = default_config; names = names; text = t }

abbrev within : Names → Text → Place
within names t = record { config = inside; names = names; text = t }

abbrev choice_in : List Piece → List (List Piece) → Choice
choice_in ps qss = map atoms_of (ps ∷ qss)

opening_is : (names : Names) (body : Text) → opening (outer names (40 ∷ 63 ∷ 115 ∷ 58 ∷ body)) ≡ Some (opens (λ re. re), within names body)
unfolding opening set_flags set_flag first skip
opening_is names body = refl

abbrev one_deeper : Re → ℕ → Nested Re
one_deeper re depth = record { value = re; depth = depth + 1 }

abbrev bare : Choice → Nested Re
bare choice = one_deeper (choice_tree choice) (join alt_all (map branch choice)).depth

-- a group in which the inside was read
item_group : (names names2 : Names) (m : ℕ) (body : Text) (whole : Nested Re) →
    join_parts alt_all (branches m (within names (body ++ 41 ∷ 36 ∷ []))) ≡ Some (whole, within names2 (41 ∷ 36 ∷ [])) →
    item (group_inside m) (outer names (40 ∷ 63 ∷ 115 ∷ 58 ∷ (body ++ 41 ∷ 36 ∷ []))) ≡ Some (one_deeper whole.value whole.depth, outer names2 (36 ∷ []))
unfolding item first with_repetitions
item_group names names2 m body whole h =
    ap (λ o. o >>= λ (how, p). rest_of_group (group_inside m) default_config how p) (opening_is names _)
    ∙ ap (λ o. o >>= close_group default_config (λ re. re)) h
    ∙ ap (λ o. o >>= λ (all, rest). Some (all, outer names2 rest)) (repetitions_end default_config 2 1 (one_deeper whole.value whole.depth) (36 ∷ []) (36 ∷ []) (omega arith) (no_skip (36 ∷ [])) refl)

bare_inside : (names : Names) (m : ℕ) (ps : List Piece) (qss : List (List Piece)) → are_pieces (ps ∷ qss) ≡ true → length (joined ps qss) + 1 < m →
    join_parts alt_all (branches m (within names (joined ps qss ++ 41 ∷ 36 ∷ []))) ≡ Some (join alt_all (map branch (choice_in ps qss)), within names (41 ∷ 36 ∷ []))
bare_inside names m ps qss all h = join_parts_is alt_all _ ∙ branches_read names ps qss (36 ∷ []) m [] all h

-- ---- what the search says

at_start : (hay : List ℕ) (i : ℕ) → i ≤ length hay → holds Start hay i ≡ true → i ≡ 0
unfolding holds holds_between
at_start hay zero le h = refl
at_start hay (suc i) le h =
    let next : suc i ≡ i + 1 = omega arith in
    absurd (true≢false (sym h ∙ rw (next, byte_before-add-one hay i, slice_get-get_or hay i 0 (omega arith))))

at_end : (hay : List ℕ) (i : ℕ) → holds End hay i ≡ true → length hay ≤ i
unfolding holds holds_between
at_end hay i h = elim (cases_lt i (length hay))
    [ inl lt ↦ absurd (true≢false (sym h ∙ rw (slice_get-get_or hay i 0 lt))) | inr ge ↦ ge ]

starts : (hay : List ℕ) → holds Start hay 0 ≡ true
unfolding holds holds_between
starts hay = rw (byte_before-zero hay)

ends : (hay : List ℕ) → holds End hay (length hay) ≡ true
unfolding holds holds_between
ends hay = rw (slice_get_past hay (length hay) (omega arith))

start_within : (re : Re) (hay : List ℕ) (m : Match) → find_str re hay 0 ≡ Some m → m.start ≤ length hay
unfolding find_str
start_within re hay m e = (IsFirst-of_first_between _ 0 (length hay) m e).to

abbrev whole_tree : Re → Re
whole_tree re = alt_all (cat_all (look Start ∷ re ∷ look End ∷ []) ∷ [])

both : (a b : Bool) → (a ≡ true → b ≡ true) → (b ≡ true → a ≡ true) → a ≡ b
both true b f g = sym (f refl)
both false true f g = g refl
both false false f g = refl

record Same (re : Re) (choice : Choice) : Type 0 where
  into : (hay : List ℕ) (i j : ℕ) → Matches hay re i j → Matches hay (choice_tree choice) i j
  from : (hay : List ℕ) (i j : ℕ) → Matches hay (choice_tree choice) i j → Matches hay re i j

found_fits : (re : Re) (choice : Choice) → Same re choice → are_atoms choice ≡ true → (value : List ℕ) → IsUtf8 value →
    is_some (find_str (whole_tree re) value 0) ≡ true → accepts choice value ≡ true
found_fits re choice same all value u found = elim (option_cases (find_str (whole_tree re) value 0)) [
  | inl none ↦ absurd (true≢false (sym found ∙ ap is_some none))
  | inr some ↦ elim (find_str_sound (whole_tree re) value 0 some.0 some.1).1 [
    | inl m ↦
        let from : some.0.start ≡ 0 = at_start value some.0.start (start_within (whole_tree re) value some.0 some.1) m.1.0 in
        let start : m.0 ≡ 0 = m.1.1 ∙ from in
        let to : length value ≤ m.2.0 = at_end value m.2.0 m.2.2.1.0 in
        let rest : drop m.2.0 value ≡ [] = nil_from_length _ (omega (arith, to, length-drop m.2.0 value)) in
        let here : drop m.0 value ≡ encodes (chars value) = ap (λ k. drop k value) start ∙ sym (encodes-chars value u) in
        choice_sound value choice (chars value) m.0 m.2.0 all (scalars-chars value u) here (same.into value m.0 m.2.0 m.2.1) rest
    | inr m ↦ absurd (true≢false (sym m.2 ∙ in_ranges-nil m.0))
  ]
]

fits_found : (re : Re) (choice : Choice) → Same re choice → (value : List ℕ) → IsUtf8 value → accepts choice value ≡ true →
    is_some (find_str (whole_tree re) value 0) ≡ true
fits_found re choice same value u fit =
    let inner = same.from value 0 (length value) (choice_complete value choice (chars value) 0 (scalars-chars value u) (sym (encodes-chars value u)) (omega arith) fit) in
    let whole : Matches value (whole_tree re) 0 (length value) = inl (0, (starts value, refl), (length value, inner, (length value, (ends value, refl), refl))) in
    let found = value_of_IsSome _ (find_str_complete (whole_tree re) value 0 0 (length value) (omega arith) (IsCharBoundary-start value u) whole) in
    ap is_some found.1

of_tree : (pattern : List ℕ) (re : Re) (choice : Choice) → tree_between pattern ≡ Some (whole_tree re) → Same re choice → are_atoms choice ≡ true →
    MeansPattern pattern choice
of_tree pattern re choice is same all = record {
  tree = whole_tree re;
  is_read = is;
  each = λ value u. both _ _ (found_fits re choice same all value u) (fits_found re choice same value u);
}

-- ---- what the pattern is read as

abbrev N1 : Names
N1 = None ∷ []

abbrev N2 : Names
N2 = None ∷ None ∷ []

no_question_one : (p : Piece) (rest : Text) → is_piece p ≡ true → is_at "?" (written p ++ rest) ≡ false
unfolding first
no_question_one (plain c) rest ok = plain_differs c 63 ok refl
no_question_one (escaped c) rest ok = refl
no_question_one dot rest ok = refl

no_question_in : (ps : List Piece) (rest : Text) → list_all is_piece ps ≡ true → is_at "?" rest ≡ false → is_at "?" (writing ps ++ rest) ≡ false
no_question_in [] rest all h = h
no_question_in (p ∷ ps) rest all h =
    ap (is_at "?") (append_assoc (written p) (writing ps) rest) ∙ no_question_one p (writing ps ++ rest) (and_parts (is_piece p) (list_all is_piece ps) all).0

no_question : (ps : List Piece) (qss : List (List Piece)) (rest : Text) → are_pieces (ps ∷ qss) ≡ true → is_at "?" (joined ps qss ++ 41 ∷ rest) ≡ false
unfolding first
no_question ps [] rest all = no_question_in ps (41 ∷ rest) (and_parts (list_all is_piece ps) (are_pieces []) all).0 refl
no_question ps (qs ∷ qss) rest all =
    ap (is_at "?") (append_assoc (writing ps) (124 ∷ joined qs qss) (41 ∷ rest))
    ∙ no_question_in ps (124 ∷ (joined qs qss ++ 41 ∷ rest)) (and_parts (list_all is_piece ps) (are_pieces (qs ∷ qss)) all).0 refl

turned : (c : ℕ) → (c == 63) ≡ false → (63 == c) ≡ false
turned c h = ne_eqb 63 c (λ e. true≢false (sym (eq-eqb c 63 (sym e)) ∙ h))

capture_opening : (t : Text) → is_at "?" t ≡ false → opening (within N1 (40 ∷ t)) ≡ Some (opens (group 1), within N2 t)
unfolding opening capture first skip
capture_opening [] h = refl
capture_opening (c ∷ t) h = rw (h, turned c h)

abbrev captured : Choice → Nested Re
captured choice = record { value = group 1 (choice_tree choice); depth = (join alt_all (map branch choice)).depth + 1 }

item_captured : (k : ℕ) (ps : List Piece) (qss : List (List Piece)) → are_pieces (ps ∷ qss) ≡ true → length (joined ps qss) + 1 < k →
    item (group_inside k) (within N1 (40 ∷ (joined ps qss ++ 41 ∷ 41 ∷ 36 ∷ []))) ≡ Some (captured (choice_in ps qss), within N2 (41 ∷ 36 ∷ []))
unfolding item first with_repetitions
item_captured k ps qss all h =
    ap (λ o. o >>= λ (how, p). rest_of_group (group_inside k) inside how p) (capture_opening (joined ps qss ++ 41 ∷ 41 ∷ 36 ∷ []) (no_question ps qss (41 ∷ 36 ∷ []) all))
    ∙ ap (λ o. o >>= close_group inside (group 1)) (join_parts_is alt_all _ ∙ branches_read N2 ps qss (41 ∷ 36 ∷ []) k [] all h)
    ∙ ap (λ o. o >>= λ (all, rest). Some (all, within N2 rest)) (repetitions_end inside 3 2 (captured (choice_in ps qss)) (41 ∷ 36 ∷ []) (41 ∷ 36 ∷ []) (omega arith) (no_skip (41 ∷ 36 ∷ [])) refl)

branch_captured : (n : ℕ) (ps : List Piece) (qss : List (List Piece)) → are_pieces (ps ∷ qss) ≡ true → length (joined ps qss) + 2 < n →
    join_parts cat_all (items n (within N1 (40 ∷ (joined ps qss ++ 41 ∷ 41 ∷ 36 ∷ [])))) ≡ Some (join cat_all (captured (choice_in ps qss) ∷ []), within N2 (41 ∷ 36 ∷ []))
unfolding first
branch_captured n ps qss all h =
    let t : Text = 40 ∷ (joined ps qss ++ 41 ∷ 41 ∷ 36 ∷ []) in
    join_parts_is cat_all _
    ∙ branch_goes n (n - 1) [] (within N1 t) t (omega arith) (no_skip t) (grind (arith, nat_tests))
    ∙ ap (λ o. o >>= more_parts (n - 1) []) (item_captured (n - 1) ps qss all (omega arith))
    ∙ branch_ends (n - 1) (n - 2) (captured (choice_in ps qss) ∷ []) (within N2 (41 ∷ 36 ∷ [])) (41 ∷ 36 ∷ []) (omega arith) (no_skip (41 ∷ 36 ∷ [])) (grind (arith, nat_tests))

abbrev wrapped : Choice → Nested Re
wrapped choice = join alt_all (join cat_all (captured choice ∷ []) ∷ [])

grouped_inside : (m : ℕ) (ps : List Piece) (qss : List (List Piece)) → are_pieces (ps ∷ qss) ≡ true → length (joined ps qss) + 3 < m →
    join_parts alt_all (branches m (within N1 (40 ∷ ((joined ps qss ++ 41 ∷ []) ++ 41 ∷ 36 ∷ [])))) ≡ Some (wrapped (choice_in ps qss), within N2 (41 ∷ 36 ∷ []))
unfolding first
grouped_inside m ps qss all h =
    ap (λ t. join_parts alt_all (branches m (within N1 (40 ∷ t)))) (append_assoc (joined ps qss) (41 ∷ []) (41 ∷ 36 ∷ []))
    ∙ join_parts_is alt_all _
    ∙ branches_go m (m - 1) [] _ (omega arith)
    ∙ ap (λ o. o >>= more_branches (m - 1) []) (branch_captured (m - 1) ps qss all (omega arith))
    ∙ join_ends alt_all (join cat_all (captured (choice_in ps qss) ∷ []) ∷ []) _

passes : (names : Names) (n m : ℕ) (earlier : List (Nested Re)) (t rest : Text) (part : Nested Re) → n ≡ m + 1 →
    (is_at "(" t ≡ false) × (ends_branch t ≡ false) → atom default_config t ≡ Some (part, rest) → is_at "?*+{" rest ≡ false →
    join_after cat_all earlier (items n (outer names t)) ≡ join_after cat_all (earlier ++ part ∷ []) (items m (outer names rest))
unfolding item with_repetitions
passes names n m earlier t rest part e begins read_atom h =
    let one : item (group_inside m) (outer names t) ≡ Some (part, outer names rest)
    = rw (item, begins.0, read_atom, with_repetitions, repetitions_end default_config (length rest + 1) (length rest) part rest rest (omega arith) (no_skip rest) h) in
    branch_goes n m earlier (outer names t) t (omega arith) (no_skip t) begins.1 ∙ ap (λ o. o >>= more_parts m earlier) one

abbrev first_line : Nested Re
first_line = flat (look Start)

abbrev last_line : Nested Re
last_line = flat (look End)

branch_anchored : (names2 : Names) (n : ℕ) (body : Text) (G : Nested Re) → 4 < n →
    item (group_inside (n - 2)) (outer N1 (40 ∷ 63 ∷ 115 ∷ 58 ∷ (body ++ 41 ∷ 36 ∷ []))) ≡ Some (G, outer names2 (36 ∷ [])) →
    join_parts cat_all (items n (outer N1 (94 ∷ 40 ∷ 63 ∷ 115 ∷ 58 ∷ (body ++ 41 ∷ 36 ∷ [])))) ≡ Some (join cat_all (first_line ∷ G ∷ last_line ∷ []), outer names2 [])
unfolding first atom char_meaning
branch_anchored names2 n body G big h =
    let t : Text = 40 ∷ 63 ∷ 115 ∷ 58 ∷ (body ++ 41 ∷ 36 ∷ []) in
    join_parts_is cat_all _
    ∙ passes N1 n (n - 1) [] (94 ∷ t) t first_line (omega arith) (refl, grind (arith, nat_tests)) refl refl
    ∙ branch_goes (n - 1) (n - 2) (first_line ∷ []) (outer N1 t) t (omega arith) (no_skip t) (grind (arith, nat_tests))
    ∙ ap (λ o. o >>= more_parts (n - 2) (first_line ∷ [])) h
    ∙ passes names2 (n - 2) (n - 3) (first_line ∷ G ∷ []) (36 ∷ []) [] last_line (omega arith) (refl, refl) refl refl
    ∙ branch_ends (n - 3) (n - 4) (first_line ∷ G ∷ last_line ∷ []) (outer names2 []) [] (omega arith) (no_skip []) refl

abbrev between : Text → Text
between body = 94 ∷ 40 ∷ 63 ∷ 115 ∷ 58 ∷ (body ++ 41 ∷ 36 ∷ [])

read_between : (names2 : Names) (body : Text) (whole : Nested Re) →
    ((m : ℕ) → length body + 1 < m → join_parts alt_all (branches m (within N1 (body ++ 41 ∷ 36 ∷ []))) ≡ Some (whole, within names2 (41 ∷ 36 ∷ []))) →
    option_map (λ found. found.0.value) (read default_config (between body)) ≡ Some (whole_tree whole.value)
unfolding read first
read_between names2 body whole h =
    let text = between body in
    let n = 2 * length text + 2 in
    let size = length-append body (41 ∷ 36 ∷ []) in
    let G = one_deeper whole.value whole.depth in
    let grouped = item_group N1 names2 (n - 3) body whole (h (n - 3) (omega (arith, size))) in
    let sub : n - 1 - 2 ≡ n - 3 = omega arith in
    let branch = branches_go n (n - 1) [] (outer N1 text) (omega arith)
    ∙ ap (λ o. o >>= more_branches (n - 1) []) (branch_anchored names2 (n - 1) body G (omega (arith, size))
    (ap (λ k. item (group_inside k) (outer N1 (40 ∷ 63 ∷ 115 ∷ 58 ∷ (body ++ 41 ∷ 36 ∷ [])))) sub ∙ grouped))
    ∙ join_ends alt_all (join cat_all (first_line ∷ G ∷ last_line ∷ []) ∷ []) _ in
    rw (read, join_parts_is alt_all _ ∙ branch) refl

ascii_list : (cs : List ℕ) → list_all (λ c. nat_lt c 128) cs ≡ true → IsAscii cs
ascii_list [] all = IsAscii-nil
ascii_list (c ∷ cs) all =
    let parts = and_parts (nat_lt c 128) (list_all (λ c. nat_lt c 128) cs) all in
    let test : nat_lt c 128 ≡ true = parts.0 in
    let small : c < 128 = grind (arith, nat_tests) in
    IsAscii-cons c cs small (ascii_list cs parts.1)

anchored_chars : (pattern : List ℕ) → IsUtf8 pattern → chars (anchored pattern) ≡ between (chars pattern)
anchored_chars pattern u =
    let front : IsAscii (94 ∷ 40 ∷ 63 ∷ 115 ∷ 58 ∷ []) = ascii_list (94 ∷ 40 ∷ 63 ∷ 115 ∷ 58 ∷ []) refl in
    let back : IsAscii (41 ∷ 36 ∷ []) = ascii_list (41 ∷ 36 ∷ []) refl in
    chars-append (94 ∷ 40 ∷ 63 ∷ 115 ∷ 58 ∷ []) (pattern ++ 41 ∷ 36 ∷ []) (IsUtf8-from_ascii (94 ∷ 40 ∷ 63 ∷ 115 ∷ 58 ∷ []) front)
    ∙ ap (λ cs. cs ++ chars (pattern ++ 41 ∷ 36 ∷ [])) (chars-IsAscii (94 ∷ 40 ∷ 63 ∷ 115 ∷ 58 ∷ []) front)
    ∙ ap (λ cs. 94 ∷ 40 ∷ 63 ∷ 115 ∷ 58 ∷ cs) (chars-append pattern (41 ∷ 36 ∷ []) u ∙ ap (λ cs. chars pattern ++ cs) (chars-IsAscii (41 ∷ 36 ∷ []) back))

bare_same : (choice : Choice) → Same (choice_tree choice) choice
bare_same choice = record { into = λ hay i j m. m; from = λ hay i j m. m }

wrapped_into : (choice : Choice) (hay : List ℕ) (i j : ℕ) → Matches hay (wrapped choice).value i j → Matches hay (choice_tree choice) i j
wrapped_into choice hay i j (inl m) = subst (Matches hay (choice_tree choice) i) (sym m.2) m.1
wrapped_into choice hay i j (inr m) = absurd (true≢false (sym m.2 ∙ in_ranges-nil m.0))

wrapped_same : (choice : Choice) → Same (wrapped choice).value choice
wrapped_same choice = record { into = wrapped_into choice; from = λ hay i j m. inl (j, m, refl) }

one_atom : (p : Piece) → is_piece p ≡ true → is_atom (atom_of p) ≡ true
one_atom (plain c) ok = (and_parts (not (has_meaning c)) (scalar c) ok).1
one_atom (escaped c) ok = (and_parts (is_mark c) (scalar c) ok).1
one_atom dot ok = refl

atoms_all : (ps : List Piece) → list_all is_piece ps ≡ true → list_all is_atom (atoms_of ps) ≡ true
atoms_all [] all = refl
atoms_all (p ∷ ps) all =
    let parts = and_parts (is_piece p) (list_all is_piece ps) all in
    and_from (is_atom (atom_of p)) (list_all is_atom (atoms_of ps)) (one_atom p parts.0) (atoms_all ps parts.1)

choice_all : (pss : List (List Piece)) → are_pieces pss ≡ true → are_atoms (map atoms_of pss) ≡ true
choice_all [] all = refl
choice_all (ps ∷ pss) all =
    let parts = and_parts (list_all is_piece ps) (are_pieces pss) all in
    and_from (list_all is_atom (atoms_of ps)) (are_atoms (map atoms_of pss)) (atoms_all ps parts.0) (choice_all pss parts.1)

means_bare : (pattern : List ℕ) (choice : Choice) → IsUtf8 pattern → IsWritten (chars pattern) [] choice → MeansPattern pattern choice
means_bare pattern choice u w =
    let text : chars pattern ≡ joined w.first w.others = w.text_is ∙ append-nil _ in
    let tree : tree_between pattern ≡ Some (whole_tree (choice_tree (choice_in w.first w.others)))
    = ap (λ cs. option_map (λ found. found.0.value) (read default_config cs)) (anchored_chars pattern u ∙ ap between text)
    ∙ read_between N1 (joined w.first w.others) (join alt_all (map branch (choice_in w.first w.others))) (λ m h. bare_inside N1 m w.first w.others w.valid h) in
    subst (MeansPattern pattern) (sym w.choice_is) (of_tree pattern _ _ tree (bare_same _) (choice_all (w.first ∷ w.others) w.valid))

means_grouped : (pattern : List ℕ) (rest : List ℕ) (choice : Choice) → IsUtf8 pattern → chars pattern ≡ 40 ∷ rest → IsWritten rest (41 ∷ []) choice → MeansPattern pattern choice
means_grouped pattern rest choice u is w =
    let J = joined w.first w.others in
    let text : chars pattern ≡ 40 ∷ (J ++ 41 ∷ []) = is ∙ ap (λ t. 40 ∷ t) w.text_is in
    let size = length-append J (41 ∷ []) in
    let tree : tree_between pattern ≡ Some (whole_tree (wrapped (choice_in w.first w.others)).value)
    = ap (λ cs. option_map (λ found. found.0.value) (read default_config cs)) (anchored_chars pattern u ∙ ap between text)
    ∙ read_between N2 (40 ∷ (J ++ 41 ∷ [])) (wrapped (choice_in w.first w.others)) (λ m h. grouped_inside m w.first w.others w.valid (omega (arith, size, h))) in
    subst (MeansPattern pattern) (sym w.choice_is) (of_tree pattern _ _ tree (wrapped_same _) (choice_all (w.first ∷ w.others) w.valid))

of_chars : (pattern cs : List ℕ) (choice : Choice) → IsUtf8 pattern → chars pattern ≡ cs → scalars cs ≡ true → spelled cs ≡ Some choice → MeansPattern pattern choice
of_chars pattern [] choice u is ok e = means_bare pattern choice u (subst (λ t. IsWritten t [] choice) (sym is) (is_written false Inside [] choice ok refl e))
of_chars pattern (c ∷ cs) choice u is ok e = elim (cases_Bool (c == 40)) [
  | inl is_so ↦
      means_grouped pattern cs choice u (is ∙ ap (λ x. x ∷ cs) (eqb-true c 40 is_so))
      (is_written true Inside cs choice (and_parts (scalar c) (scalars cs) ok).1 refl (sym (cond-true (c == 40) _ _ is_so) ∙ e))
  | inr not_so ↦
      means_bare pattern choice u
      (subst (λ t. IsWritten t [] choice) (sym is) (is_written false Inside (c ∷ cs) choice ok refl (sym (cond-false (c == 40) _ _ not_so) ∙ e)))
]

-- the law: a choice that a pattern spells means what the pattern means
pub means_pattern : (pattern : List ℕ) (choice : Choice) → IsUtf8 pattern → choice_of pattern ≡ Some choice → MeansPattern pattern choice
means_pattern pattern choice u e = of_chars pattern (chars pattern) choice u refl (scalars-chars pattern u) e
