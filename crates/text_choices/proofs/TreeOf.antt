-- A written choice between its anchors is read as its tree.
use Rattle.std.proofs.Common.{◌≡◌, ℕ, ◌+◌, ◌-◌, ◌<◌, Bool, true, false, not, ◌&&◌, ◌==◌, ne_eqb, List, [], ◌∷◌, ◌++◌, length, map, Some, encode_utf8, refl, sym, ap, ◌∙◌, arith, append-nil, append_assoc, length-append, zero-add}
use lib.Utf8.{scalar}
use Rattle.std.proofs.lemmas.Bool.{both_ways, and_parts}
use Rattle.std.proofs.lemmas.Bool.Decides.{nat_tests}
use Rattle.std.specs.Char.{is_ascii, is_ascii_alphanumeric}
use Rattle.std.specs.List.{list_all}
use Rattle.regex_hir.specs.Meaning.{cat_all, alt_all}
use Rattle.regex_hir.specs.Re.{Re, literal}
use Rattle.regex_syntax.proofs.BranchLemmas.{ends_branch, Read, repetitions_end, join_after, branch_ends, branch_goes, more_parts, group_inside, join_parts_is, branches_go, more_branches, join_ends}
use Rattle.regex_syntax.proofs.ReadingLemmas.{skip-false}
use Rattle.regex_syntax.specs.Brackets.{Nested, join}
use Rattle.regex_syntax.specs.Escapes.{character, escape, one_letter}
use Rattle.regex_syntax.specs.Grammar.{Names, Place, atom, char_meaning, piece_meaning, item, with_repetitions, items, join_parts, branches}
use Rattle.regex_syntax.specs.Reading.{Text, is_at, first, skip, ◌>>=◌}
use Rattle.regex_syntax.specs.Sets.{verbatim}
use Rattle.text_choices.specs.Alternatives.{has_meaning, is_mark}
use Rattle.text_choices.proofs.Written.{Piece, plain, escaped, dot as stop, written, is_piece, atom_of, writing, atoms_of, joined, are_pieces}
use Rattle.text_choices.proofs.Meaning.{inside, dot_is, nested, branch}

meaningless : (b : Bool) → not b ≡ true → b ≡ false
meaningless true e = sym e
meaningless false e = refl

writing_one : (p : Piece) → 0 < length (written p)
writing_one (plain c) = omega arith
writing_one (escaped c) = omega arith
writing_one stop = omega arith

writing_long : (ps : List Piece) → length ps < length (writing ps) + 1
writing_long [] = omega arith
writing_long (p ∷ ps) = omega (arith, writing_long ps, writing_one p, length-append (written p) (writing ps))

pub plain_differs : (c d : ℕ) → is_piece (plain c) ≡ true → has_meaning d ≡ true → (c == d) ≡ false
plain_differs c d ok other = ne_eqb c d (λ e. both_ways _ (meaningless (has_meaning c) (and_parts (not (has_meaning c)) (scalar c) ok).0) (ap has_meaning e ∙ other))

mark_differs : (c d : ℕ) → is_piece (escaped c) ≡ true → is_mark d ≡ false → (c == d) ≡ false
mark_differs c d ok other = ne_eqb c d (λ e. both_ways _ other (ap is_mark (sym e) ∙ (and_parts (is_mark c) (scalar c) ok).0))

-- the atoms and items of a piece
no_operator_one : (p : Piece) (rest : Text) → is_piece p ≡ true → is_at "?*+{" (written p ++ rest) ≡ false
unfolding first
no_operator_one (plain c) rest ok = rw (plain_differs c 63 ok refl, plain_differs c 42 ok refl, plain_differs c 43 ok refl, plain_differs c 123 ok refl)
no_operator_one (escaped c) rest ok = refl
no_operator_one stop rest ok = refl

no_operator : (ps : List Piece) (rest : Text) → list_all is_piece ps ≡ true → is_at "?*+{" rest ≡ false → is_at "?*+{" (writing ps ++ rest) ≡ false
no_operator [] rest all h = h
no_operator (p ∷ ps) rest all h =
    ap (is_at "?*+{") (append_assoc (written p) (writing ps) rest) ∙ no_operator_one p (writing ps ++ rest) (and_parts (is_piece p) (list_all is_piece ps) all).0

begins_no_group : (p : Piece) (rest : Text) → is_piece p ≡ true → (is_at "(" (written p ++ rest) ≡ false) × (ends_branch (written p ++ rest) ≡ false)
unfolding first
begins_no_group (plain c) rest ok =
    (plain_differs c 40 ok refl, rw (plain_differs c 124 ok refl, plain_differs c 41 ok refl) (grind (arith, nat_tests)))
begins_no_group (escaped c) rest ok = (refl, grind (arith, nat_tests))
begins_no_group stop rest ok = (refl, grind (arith, nat_tests))

ends_at_close : (rest : Text) → ends_branch (41 ∷ rest) ≡ true
unfolding first
ends_at_close rest = grind (arith, nat_tests)

ends_at_bar : (rest : Text) → ends_branch (124 ∷ rest) ≡ true
unfolding first
ends_at_bar rest = grind (arith, nat_tests)

pub no_skip : (t : Text) → t ≡ skip false t
no_skip t = sym (skip-false t)

verbatim_itself : (c : ℕ) → verbatim inside c false ≡ Some (literal (encode_utf8 c))
unfolding verbatim
verbatim_itself c = refl

escape_mark : (c : ℕ) (rest : Text) → is_piece (escaped c) ≡ true → escape inside (c ∷ rest) ≡ Some (character c false, rest)
unfolding escape one_letter first
escape_mark c rest ok =
    let mark = (and_parts (is_mark c) (scalar c) ok).0 in
    let ascii : (is_ascii c && not (is_ascii_alphanumeric c)) ≡ true = (and_parts (is_ascii c && not (is_ascii_alphanumeric c)) (not (c == 60) && not (c == 62)) mark).0 in
    rw (
      escape,
      mark_differs c 120 ok refl,
      mark_differs c 117 ok refl,
      mark_differs c 85 ok refl,
      mark_differs c 112 ok refl,
      mark_differs c 80 ok refl,
      mark_differs c 98 ok refl,
      one_letter,
      ascii,
      mark_differs c 100 ok refl,
      mark_differs c 68 ok refl,
      mark_differs c 115 ok refl,
      mark_differs c 83 ok refl,
      mark_differs c 119 ok refl,
      mark_differs c 87 ok refl,
      mark_differs c 65 ok refl,
      mark_differs c 122 ok refl,
      mark_differs c 66 ok refl,
      mark_differs c 60 ok refl,
      mark_differs c 62 ok refl,
      mark_differs c 97 ok refl,
      mark_differs c 102 ok refl,
      mark_differs c 116 ok refl,
      mark_differs c 110 ok refl,
      mark_differs c 114 ok refl,
      mark_differs c 118 ok refl,
    )

atom_piece : (p : Piece) (rest : Text) → is_piece p ≡ true → atom inside (written p ++ rest) ≡ Some (nested (atom_of p), rest)
unfolding atom first char_meaning piece_meaning
atom_piece (plain c) rest ok =
    rw (
      atom,
      char_meaning,
      plain_differs c 63 ok refl,
      plain_differs c 42 ok refl,
      plain_differs c 43 ok refl,
      plain_differs c 123 ok refl,
      plain_differs c 91 ok refl,
      plain_differs c 92 ok refl,
      plain_differs c 46 ok refl,
      plain_differs c 94 ok refl,
      plain_differs c 36 ok refl,
      verbatim_itself,
    )
atom_piece (escaped c) rest ok = rw (atom, escape_mark c rest ok, piece_meaning, verbatim_itself)
atom_piece stop rest ok = rw (atom, char_meaning, dot_is)

module _ (names : Names) where
  abbrev pub at_text : Text → Place
  at_text t = record { config = inside; names = names; text = t }

  item_piece : (inner : Place → Read (Nested Re)) (p : Piece) (rest : Text) → is_piece p ≡ true → is_at "?*+{" rest ≡ false →
      item inner (at_text (written p ++ rest)) ≡ Some (nested (atom_of p), at_text rest)
  unfolding item with_repetitions
  item_piece inner p rest ok h =
      rw (
        item,
        (begins_no_group p rest ok).0,
        atom_piece p rest ok,
        with_repetitions,
        repetitions_end inside (length rest + 1) (length rest) (nested (atom_of p)) rest rest (omega arith) (no_skip rest) h,
      )

  items_read : (ps : List Piece) (rest : Text) (n m : ℕ) (earlier : List (Nested Re)) → list_all is_piece ps ≡ true → n ≡ length ps + m →
      is_at "?*+{" rest ≡ false →
      join_after cat_all earlier (items n (at_text (writing ps ++ rest))) ≡ join_after cat_all (earlier ++ map nested (atoms_of ps)) (items m (at_text rest))
  items_read [] rest n m earlier all e h = rw (append-nil, e ∙ zero-add m)
  items_read (p ∷ ps) rest n m earlier all e h =
      let more = writing ps ++ rest in
      let here = written p ++ more in
      let parts = and_parts (is_piece p) (list_all is_piece ps) all in
      let one = nested (atom_of p) in
      ap (λ t. join_after cat_all earlier (items n (at_text t))) (append_assoc (written p) (writing ps) rest)
      ∙ branch_goes n (n - 1) earlier (at_text here) here (omega arith) (no_skip here) (begins_no_group p more parts.0).1
      ∙ ap (λ o. o >>= more_parts (n - 1) earlier) (item_piece (group_inside (n - 1)) p more parts.0 (no_operator ps rest parts.1 h))
      ∙ items_read ps rest (n - 1) m (earlier ++ one ∷ []) parts.1 (omega arith) h
      ∙ ap (λ all. join_after cat_all all (items m (at_text rest))) (append_assoc earlier (one ∷ []) (map nested (atoms_of ps)))

  branch_read : (ps : List Piece) (rest : Text) (n : ℕ) → list_all is_piece ps ≡ true → length ps < n → is_at "?*+{" rest ≡ false →
      ends_branch rest ≡ true → join_parts cat_all (items n (at_text (writing ps ++ rest))) ≡ Some (branch (atoms_of ps), at_text rest)
  branch_read ps rest n all h no_op ends =
      join_parts_is cat_all _
      ∙ items_read ps rest n (n - length ps) [] all (omega arith) no_op
      ∙ branch_ends (n - length ps) (n - length ps - 1) (map nested (atoms_of ps)) (at_text rest) rest (omega arith) (no_skip rest) ends

  pub branches_read : (ps : List Piece) (qss : List (List Piece)) (rest : Text) (n : ℕ) (earlier : List (Nested Re)) → are_pieces (ps ∷ qss) ≡ true →
      length (joined ps qss) + 1 < n →
      join_after alt_all earlier (branches n (at_text (joined ps qss ++ 41 ∷ rest)))
      ≡ Some (join alt_all (earlier ++ map branch (map atoms_of (ps ∷ qss))), at_text (41 ∷ rest))
  unfolding first
  branches_read ps [] rest n earlier all h =
      let ok = (and_parts (list_all is_piece ps) (are_pieces []) all).0 in
      branches_go n (n - 1) earlier _ (omega arith)
      ∙ ap (λ o. o >>= more_branches (n - 1) earlier) (branch_read ps (41 ∷ rest) (n - 1) ok (omega (arith, writing_long ps)) refl (ends_at_close rest))
      ∙ join_ends alt_all (earlier ++ branch (atoms_of ps) ∷ []) _
  branches_read ps (qs ∷ qss) rest n earlier all h =
      let parts = and_parts (list_all is_piece ps) (are_pieces (qs ∷ qss)) all in
      let others = joined qs qss in
      let size = length-append (writing ps) (124 ∷ others) in
      ap (λ x. join_after alt_all earlier (branches n (at_text x))) (append_assoc (writing ps) (124 ∷ others) (41 ∷ rest))
      ∙ branches_go n (n - 1) earlier _ (omega arith)
      ∙ ap (λ o. o >>= more_branches (n - 1) earlier) (branch_read ps (124 ∷ (others ++ 41 ∷ rest)) (n - 1) parts.0 (omega (arith, size, writing_long ps)) refl (ends_at_bar _))
      ∙ branches_read qs qss rest (n - 1) (earlier ++ branch (atoms_of ps) ∷ []) parts.1 (omega (arith, size))
      ∙ ap (λ all. Some (join alt_all all, at_text (41 ∷ rest))) (append_assoc earlier (branch (atoms_of ps) ∷ []) (map branch (map atoms_of (qs ∷ qss))))
