-- A choice of plain texts is read as one, and its full matches are these texts.
use Rattle.std.proofs.Common.{◌≡◌, ℕ, ◌+◌, ◌-◌, ◌*◌, ◌<◌, true, false, not, ◌==◌, ne_eqb, List, [], ◌∷◌, ◌++◌, length, map, Some, None, encode_utf8, option_map, refl, sym, ap, ◌∙◌, arith, append-nil, append_assoc, length-append, zero-add}
use Rattle.std.proofs.lemmas.Bool.{both_ways, cond-false, and_left, and_parts}
use Rattle.std.proofs.lemmas.Bool.Decides.{nat_tests}
use Rattle.std.specs.List.{list_all, join_with_byte}
use Rattle.regex_hir.specs.declared.look.Look.TheVariants.{Start, End}
use Rattle.regex_hir.specs.Meaning.{cat_all, alt_all}
use Rattle.regex_hir.specs.Re.{Re, literal, look}
use Rattle.regex_syntax.proofs.BranchLemmas.{ends_branch, Read, repetitions_end, join_after, branch_ends, branch_goes, more_parts, group_inside, close_group, join_parts_is, branches_go, more_branches, join_ends}
use Rattle.regex_syntax.proofs.ReadingLemmas.{skip-false}
use Rattle.regex_syntax.specs.Brackets.{Nested, flat, join}
use Rattle.regex_syntax.specs.declared.Config.{Config}
use Rattle.regex_syntax.specs.Escapes.{is_verbose}
use Rattle.regex_syntax.specs.Grammar.{Names, Place, opens, rest_of_group, atom, char_meaning, item, with_repetitions, items, read, join_parts, branches, opening, set_flags, set_flag}
use Rattle.regex_syntax.specs.Reading.{Text, is_at, first, skip, ◌>>=◌}
use Rattle.regex_syntax.specs.Sets.{verbatim}
use Rattle.regex.specs.Patterns.{default_config}
use Rattle.matchers.specs.Choices.{is_plain, is_plain_text}

plain_differs : (c d : ℕ) → is_plain c ≡ true → is_plain d ≡ false → (c == d) ≡ false
plain_differs c d plain other = ne_eqb c d (λ e. both_ways _ other (ap is_plain (sym e) ∙ plain))

-- a character that stands for itself
abbrev pub itself : ℕ → Nested Re
itself c = flat (literal (encode_utf8 c))

-- and a text of them
abbrev pub branch_of : List ℕ → Nested Re
branch_of text = join cat_all (map itself text)

no_operator : (cs rest : Text) → list_all is_plain cs ≡ true → is_at "?*+{" rest ≡ false → is_at "?*+{" (cs ++ rest) ≡ false
unfolding first
no_operator [] rest all h = h
no_operator (c ∷ cs) rest all h =
    let plain = (and_parts _ _ all).0 in
    rw (plain_differs c 63 plain refl, plain_differs c 42 plain refl, plain_differs c 43 plain refl, plain_differs c 123 plain refl)

pub first_plain : (t : List ℕ) (ts : List (List ℕ)) → list_all is_plain_text (t ∷ ts) ≡ true → list_all is_plain t ≡ true
first_plain t ts all = (and_parts (not (length t == 0)) (list_all is_plain t) (and_parts (is_plain_text t) (list_all is_plain_text ts) all).0).1

pub first_filled : (t : List ℕ) (ts : List (List ℕ)) → list_all is_plain_text (t ∷ ts) ≡ true → 0 < length t
first_filled t ts all =
    let filled = (and_parts (not (length t == 0)) (list_all is_plain t) (and_parts (is_plain_text t) (list_all is_plain_text ts) all).0).0 in
    grind (arith, nat_tests)

pub others_plain : (t : List ℕ) (ts : List (List ℕ)) → list_all is_plain_text (t ∷ ts) ≡ true → list_all is_plain_text ts ≡ true
others_plain t ts all = (and_parts (is_plain_text t) (list_all is_plain_text ts) all).1

ends_at_close : (rest : Text) → ends_branch (41 ∷ rest) ≡ true
unfolding first
ends_at_close rest = grind (arith, nat_tests)

ends_at_bar : (rest : Text) → ends_branch (124 ∷ rest) ≡ true
unfolding first
ends_at_bar rest = grind (arith, nat_tests)

module _ (config : Config) (names : Names) (exact : config.flags.case_insensitive ≡ false)
    (dense : config.flags.ignore_whitespace ≡ false) where
  abbrev pub at_text : Text → Place
  at_text t = record { config = config; names = names; text = t }

  no_skip : (t : Text) → t ≡ skip (is_verbose config) t
  no_skip t = sym (ap (λ v. skip v t) dense ∙ skip-false t)

  verbatim_itself : (c : ℕ) → verbatim config c false ≡ Some (literal (encode_utf8 c))
  unfolding verbatim
  verbatim_itself c = cond-false _ _ _ (and_left _ _ exact)

  atom_itself : (c : ℕ) (rest : Text) → is_plain c ≡ true → atom config (c ∷ rest) ≡ Some (itself c, rest)
  unfolding atom first char_meaning
  atom_itself c rest plain =
      rw (
        atom,
        char_meaning,
        plain_differs c 63 plain refl,
        plain_differs c 42 plain refl,
        plain_differs c 43 plain refl,
        plain_differs c 123 plain refl,
        plain_differs c 91 plain refl,
        plain_differs c 92 plain refl,
        plain_differs c 46 plain refl,
        plain_differs c 94 plain refl,
        plain_differs c 36 plain refl,
        verbatim_itself,
      )

  begins_no_group : (c : ℕ) (rest : Text) → is_plain c ≡ true → (is_at "(" (c ∷ rest) ≡ false) × (ends_branch (c ∷ rest) ≡ false)
  unfolding first
  begins_no_group c rest plain =
      (plain_differs c 40 plain refl, rw (plain_differs c 124 plain refl, plain_differs c 41 plain refl) (grind (arith, nat_tests)))

  -- an atom that no operator of repetition follows is an item
  item_of_atom : (inner : Place → Read (Nested Re)) (t rest : Text) (part : Nested Re) → is_at "(" t ≡ false →
      atom config t ≡ Some (part, rest) → is_at "?*+{" rest ≡ false → item inner (at_text t) ≡ Some (part, at_text rest)
  unfolding item with_repetitions
  item_of_atom inner t rest part no_group read_atom h =
      rw (
        item,
        no_group,
        read_atom,
        with_repetitions,
        repetitions_end config (length rest + 1) (length rest) part rest rest (omega arith) (no_skip rest) h,
      )

  -- and the branch goes on after it
  branch_passes : (n m : ℕ) (earlier : List (Nested Re)) (t rest : Text) (part : Nested Re) → n ≡ m + 1 →
      (is_at "(" t ≡ false) × (ends_branch t ≡ false) → atom config t ≡ Some (part, rest) → is_at "?*+{" rest ≡ false →
      join_after cat_all earlier (items n (at_text t)) ≡ join_after cat_all (earlier ++ part ∷ []) (items m (at_text rest))
  branch_passes n m earlier t rest part e begins read_atom h =
      branch_goes n m earlier (at_text t) t (omega arith) (no_skip t) begins.1
      ∙ ap (λ o. o >>= more_parts m earlier) (item_of_atom (group_inside m) t rest part begins.0 read_atom h)

  -- a plain text inside a branch is read as its characters, if no operator of repetition follows it
  items_plain : (cs rest : Text) (n m : ℕ) (earlier : List (Nested Re)) → list_all is_plain cs ≡ true → n ≡ length cs + m →
      is_at "?*+{" rest ≡ false →
      join_after cat_all earlier (items n (at_text (cs ++ rest))) ≡ join_after cat_all (earlier ++ map itself cs) (items m (at_text rest))
  items_plain [] rest n m earlier all e h = rw (append-nil, e ∙ zero-add m)
  items_plain (c ∷ cs) rest n m earlier all e h =
      let more = cs ++ rest in
      let parts = and_parts _ _ all in
      branch_passes n (n - 1) earlier (c ∷ more) more (itself c) (omega arith) (begins_no_group c more parts.0) (atom_itself c more parts.0)
      (no_operator cs rest parts.1 h)
      ∙ items_plain cs rest (n - 1) m (earlier ++ itself c ∷ []) parts.1 (omega arith) h
      ∙ ap (λ all. join_after cat_all all (items m (at_text rest))) (append_assoc earlier (itself c ∷ []) (map itself cs))

  -- a branch of a plain text ends at what follows it
  branch_plain : (cs rest : Text) (n : ℕ) → list_all is_plain cs ≡ true → length cs < n → is_at "?*+{" rest ≡ false → ends_branch rest ≡ true →
      join_parts cat_all (items n (at_text (cs ++ rest))) ≡ Some (branch_of cs, at_text rest)
  branch_plain cs rest n all h no_op ends =
      join_parts_is cat_all _
      ∙ items_plain cs rest n (n - length cs) [] all (omega arith) no_op
      ∙ branch_ends (n - length cs) (n - length cs - 1) (map itself cs) (at_text rest) rest (omega arith) (no_skip rest) ends

  -- and a choice of them at the parenthesis
  branches_plain : (t : Text) (ts : List Text) (rest : Text) (n : ℕ) (earlier : List (Nested Re)) → list_all is_plain_text (t ∷ ts) ≡ true →
      length (join_with_byte 124 (t ∷ ts)) + 1 < n →
      join_after alt_all earlier (branches n (at_text (join_with_byte 124 (t ∷ ts) ++ 41 ∷ rest)))
      ≡ Some (join alt_all (earlier ++ map branch_of (t ∷ ts)), at_text (41 ∷ rest))
  unfolding first
  branches_plain t [] rest n earlier all h =
      let plain = first_plain t [] all in
      branches_go n (n - 1) earlier _ (omega arith)
      ∙ ap (λ o. o >>= more_branches (n - 1) earlier) (branch_plain t (41 ∷ rest) (n - 1) plain (omega arith) refl (ends_at_close rest))
      ∙ join_ends alt_all (earlier ++ branch_of t ∷ []) _
  branches_plain t (u ∷ us) rest n earlier all h =
      let plain = first_plain t (u ∷ us) all in
      let others = join_with_byte 124 (u ∷ us) in
      let size = length-append t (124 ∷ others) in
      ap (λ x. join_after alt_all earlier (branches n (at_text x))) (append_assoc t (124 ∷ others) (41 ∷ rest))
      ∙ branches_go n (n - 1) earlier _ (omega arith)
      ∙ ap (λ o. o >>= more_branches (n - 1) earlier) (branch_plain t (124 ∷ (others ++ 41 ∷ rest)) (n - 1) plain (omega (arith, size)) refl (ends_at_bar _))
      ∙ branches_plain u us rest (n - 1) (earlier ++ branch_of t ∷ []) (others_plain t (u ∷ us) all) (omega (arith, size))
      ∙ ap (λ all. Some (join alt_all all, at_text (41 ∷ rest))) (append_assoc earlier (branch_of t ∷ []) (map branch_of (u ∷ us)))

-- inside the group a dot stands for every character
abbrev inside : Config
inside = record default_config { flags = record (default_config.flags) { dot_matches_new_line = true } }

abbrev outer : Names → Text → Place
outer names t = record { config = default_config; names = names; text = t }

opening_is : (names : Names) (body : Text) → opening (outer names (40 ∷ 63 ∷ 115 ∷ 58 ∷ body))
    ≡ Some (opens (λ re. re), record { config = inside; names = names; text = body })
unfolding opening set_flags set_flag first skip
opening_is names body = refl

-- the choice, as the group of it is read
abbrev pub group_of : List Text → Nested Re
group_of ts = record { value = (join alt_all (map branch_of ts)).value; depth = (join alt_all (map branch_of ts)).depth + 1 }

item_group : (names : Names) (m : ℕ) (t : Text) (ts : List Text) → list_all is_plain_text (t ∷ ts) ≡ true → length (join_with_byte 124 (t ∷ ts)) + 1 < m →
    item (group_inside m) (outer names (40 ∷ 63 ∷ 115 ∷ 58 ∷ (join_with_byte 124 (t ∷ ts) ++ 41 ∷ 36 ∷ []))) ≡ Some (group_of (t ∷ ts), outer names (36 ∷ []))
unfolding item first with_repetitions
item_group names m t ts all h =
    ap (λ o. o >>= λ (how, p). rest_of_group (group_inside m) default_config how p) (opening_is names _)
    ∙ ap (λ o. o >>= close_group default_config (λ re. re)) (join_parts_is alt_all _ ∙ branches_plain inside names refl refl t ts (36 ∷ []) m [] all h)
    ∙ ap (λ o. o >>= λ (whole, rest). Some (whole, outer names rest)) (repetitions_end default_config 2 1 (group_of (t ∷ ts)) (36 ∷ []) (36 ∷ []) (omega arith) (no_skip default_config names refl refl (36 ∷ [])) refl)

abbrev first_line : Nested Re
first_line = flat (look Start)

abbrev last_line : Nested Re
last_line = flat (look End)

-- what a choice between its anchors is read as
abbrev pub whole_of : List Text → Nested Re
whole_of ts = join cat_all (first_line ∷ group_of ts ∷ last_line ∷ [])

branch_anchored : (names : Names) (t : Text) (ts : List Text) (n : ℕ) → list_all is_plain_text (t ∷ ts) ≡ true → length (join_with_byte 124 (t ∷ ts)) + 4 < n →
    join_parts cat_all (items n (outer names (94 ∷ 40 ∷ 63 ∷ 115 ∷ 58 ∷ (join_with_byte 124 (t ∷ ts) ++ 41 ∷ 36 ∷ []))))
    ≡ Some (whole_of (t ∷ ts), outer names [])
unfolding first atom char_meaning
branch_anchored names t ts n all h =
    let body : Text = 40 ∷ 63 ∷ 115 ∷ 58 ∷ (join_with_byte 124 (t ∷ ts) ++ 41 ∷ 36 ∷ []) in
    join_parts_is cat_all _
    ∙ branch_passes default_config names refl refl n (n - 1) [] (94 ∷ body) body first_line (omega arith) (refl, grind (arith, nat_tests)) refl refl
    ∙ branch_goes (n - 1) (n - 2) (first_line ∷ []) (outer names body) body (omega arith) (no_skip default_config names refl refl body) (grind (arith, nat_tests))
    ∙ ap (λ o. o >>= more_parts (n - 2) (first_line ∷ [])) (item_group names (n - 2) t ts all (omega arith))
    ∙ branch_passes default_config names refl refl (n - 2) (n - 3) (first_line ∷ group_of (t ∷ ts) ∷ []) (36 ∷ []) [] last_line (omega arith) (refl, refl) refl refl
    ∙ branch_ends (n - 3) (n - 4) (first_line ∷ group_of (t ∷ ts) ∷ last_line ∷ []) (outer names []) [] (omega arith) (no_skip default_config names refl refl []) refl

abbrev pub between : Text → Text
between pattern = 94 ∷ 40 ∷ 63 ∷ 115 ∷ 58 ∷ (pattern ++ 41 ∷ 36 ∷ [])

-- the tree of a choice between its anchors
abbrev pub tree_of_choice : List Text → Re
tree_of_choice ts = alt_all ((whole_of ts).value ∷ [])

pub read_choice : (t : Text) (ts : List Text) → list_all is_plain_text (t ∷ ts) ≡ true →
    option_map (λ found. found.0.value) (read default_config (between (join_with_byte 124 (t ∷ ts)))) ≡ Some (tree_of_choice (t ∷ ts))
unfolding read first
read_choice t ts all =
    let text = between (join_with_byte 124 (t ∷ ts)) in
    let n = 2 * length text + 2 in
    let size = length-append (join_with_byte 124 (t ∷ ts)) (41 ∷ 36 ∷ []) in
    let branch = branches_go n (n - 1) [] (outer (None ∷ []) text) (omega arith)
    ∙ ap (λ o. o >>= more_branches (n - 1) []) (branch_anchored (None ∷ []) t ts (n - 1) all (omega (arith, size)))
    ∙ join_ends alt_all (whole_of (t ∷ ts) ∷ []) _ in
    rw (read, join_parts_is alt_all _ ∙ branch) refl
