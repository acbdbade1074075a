-- All lines of a reply say that nothing is wrong exactly where it is right of the state.
use Rattle.std.proofs.Common.{◌≡◌, ℕ, zero, suc, ◌+◌, ◌<◌, ◌≤◌, Bool, true, false, cond, ◌&&◌, ◌⊎◌, inl, inr, List, [], ◌∷◌, ◌++◌, Option, Some, length, map, drop, refl, sym, ◌∙◌, ap, subst, arith}
use Rattle.std.specs.Prelude.{◌==◌, slice_get}
use Rattle.std.specs.List.{AllZip, flat_map}
use Rattle.std.proofs.lemmas.Bool.Decides.{nat_tests}
use Rattle.std.proofs.lemmas.List.Folds.{list_all-append}
use Rattle.labels.specs.Rows.{Row, AreRows}
use Rattle.labels.specs.Parts.{Part}
use Rattle.labels.proofs.Lists.{below_or_not}
use Rattle.labels.proofs.Times.{true_not_false}
use Rattle.matchers.specs.Views.{QueryView}
use Rattle.postings.specs.declared.part_name.PartName.{PartName}
use Rattle.postings.specs.declared.part_name.PartName.TheVariants.{Block, Head}
use Rattle.cover.specs.declared.part_cover.PartAnswer.{PartAnswer}
use Rattle.reply_reader.specs.declared.reply.Reply.{Reply}
use Rattle.reply_reader.specs.declared.reply.ToldPart.{ToldPart}
use Rattle.reply_reader.proofs.Booleans.{and_left, and_right, and_both, or_left, or_right}
use Rattle.auditor.specs.Judgements.{name_of, is_of_block, is_named, unnamed, answers_of}
use Rattle.auditor.specs.Listing.{last_listed}
use Rattle.whole_audit.specs.declared.grade.Grade.{Grade}
use Rattle.whole_audit.specs.declared.grade.Grade.TheVariants.{Valid, NumberedOtherwise, Skipped, Flawed, Misnamed}
use Rattle.whole_audit.specs.declared.lines.StateLine.{StateLine}
use Rattle.whole_audit.specs.declared.lines.StateSubject.TheVariants as of
use Rattle.whole_audit.specs.PartNames.{names_from}
use Rattle.whole_audit.specs.Grading.{is_right, is_head, IsGradeOf}
use Rattle.whole_audit.specs.StateLines.{part_of, IsGradeIn, IsStatePartLine, IsLeftBlockLine, has_head, AreLeftHeadLines, AreNamesLines, IsGradeOfRows, AreStateLines, are_right_lines}
use Rattle.whole_audit.specs.Wholes.{IsRightOf, IsWhole}
use Rattle.whole_audit.proofs.Merged.{whole_listed}
use Rattle.whole_audit.proofs.Right.{right_of_grade, grade_of_right}

-- what stands behind so many, and those behind it
read_front : (xs : List Part) (n : ℕ) (y : Part) (ys : List Part) → drop n xs ≡ y ∷ ys
    → slice_get xs n ≡ Some y
read_front [] zero y ys e = cc
read_front [] (suc n) y ys e = cc
read_front (x ∷ xs) zero y ys e =
    let f : x ∷ xs ≡ y ∷ ys = e in let same : x ≡ y = cc in ap (λ (p : Part). Some p) same
read_front (x ∷ xs) (suc n) y ys e = read_front xs n y ys e

drop_front : (xs : List Part) (n : ℕ) (y : Part) (ys : List Part) → drop n xs ≡ y ∷ ys
    → drop (suc n) xs ≡ ys
drop_front [] zero y ys e = cc
drop_front [] (suc n) y ys e = cc
drop_front (x ∷ xs) zero y ys e = let f : x ∷ xs ≡ y ∷ ys = e in cc
drop_front (x ∷ xs) (suc n) y ys e = drop_front xs n y ys e

-- NAMES

first_name : (x y : PartName) (xs ys : List PartName) → x ∷ xs ≡ y ∷ ys → x ≡ y
first_name x y xs ys e = cc

rest_names : (x y : PartName) (xs ys : List PartName) → x ∷ xs ≡ y ∷ ys → xs ≡ ys
rest_names x y xs ys e = cc

no_name : (x : PartName) (xs : List PartName) → x ∷ xs ≡ [] → ⊥
no_name x xs e = cc

names_some : (n blocks : ℕ) → [] ≡ names_from n blocks → ⊥
names_some n zero e = let f : [] ≡ Head ∷ [] = e in cc
names_some n (suc blocks) e = let f : [] ≡ Block n ∷ names_from (n + 1) blocks = e in cc

no_more_told : (told : List ToldPart) → map name_of told ≡ [] → told ≡ []
no_more_told [] e = refl
no_more_told (t ∷ ts) e = absurd (no_name (name_of t) (map name_of ts) e)

module _ (blocks : List Part) (head : Part) (query : QueryView) where
  -- the line of the part of a name
  grade_at : (told : ToldPart) (line : StateLine) (name : PartName) (part : Part)
      → name_of told ≡ name → part_of blocks head name ≡ Some part
      → IsStatePartLine blocks head query told line → IsGradeOf query part told line.grade
  grade_at told line name part e f h =
      subst (λ (o : Option Part). IsGradeIn o query told line.grade)
      (ap (part_of blocks head) e ∙ f) h.1

  parts_right : (n : ℕ) (bs : List Part) (told : List ToldPart) (lines : List StateLine)
      → drop n blocks ≡ bs → map name_of told ≡ names_from n (length bs)
      → AllZip (IsStatePartLine blocks head query) told lines → are_right_lines lines ≡ true
      → AllZip (IsRightOf query) (bs ++ head ∷ []) told
  parts_right n [] [] lines at names all right = absurd (names_some n 0 names)
  parts_right n [] (t ∷ ts) [] at names all right = absurd all
  parts_right n [] (t ∷ ts) (l ∷ ls) at names all right =
      let f : name_of t ∷ map name_of ts ≡ Head ∷ [] = names in
      let name : name_of t ≡ Head = first_name (name_of t) Head (map name_of ts) [] f in
      let none : ts ≡ [] = no_more_told ts (rest_names (name_of t) Head (map name_of ts) [] f) in
      let grade = grade_at t l Head head name refl all.0 in
      subst (λ (rest : List ToldPart). AllZip (IsRightOf query) (head ∷ []) (t ∷ rest)) (sym none) (
        right_of_grade query head t l.grade grade
            (and_left (is_right l.grade) (are_right_lines ls) right),
        tt,
      )
  parts_right n (b ∷ bs) [] lines at names all right = absurd (names_some n (suc (length bs)) names)
  parts_right n (b ∷ bs) (t ∷ ts) [] at names all right = absurd all
  parts_right n (b ∷ bs) (t ∷ ts) (l ∷ ls) at names all right =
      let f : name_of t ∷ map name_of ts ≡ Block n ∷ names_from (n + 1) (length bs) = names in
      let name : name_of t ≡ Block n =
      first_name (name_of t) (Block n) (map name_of ts) (names_from (n + 1) (length bs)) f in
      let grade = grade_at t l (Block n) b name (read_front blocks n b bs at) all.0 in
      let next : suc n ≡ n + 1 = omega arith in (
        right_of_grade query b t l.grade grade
            (and_left (is_right l.grade) (are_right_lines ls) right),
        parts_right (n + 1) bs ts ls
            (subst (λ (m : ℕ). drop m blocks ≡ bs) next (drop_front blocks n b bs at))
            (rest_names (name_of t) (Block n) (map name_of ts) (names_from (n + 1) (length bs)) f)
            all.1 (and_right (is_right l.grade) (are_right_lines ls) right),
      )

  right_parts : (n : ℕ) (bs : List Part) (told : List ToldPart) (lines : List StateLine)
      → drop n blocks ≡ bs → map name_of told ≡ names_from n (length bs)
      → AllZip (IsStatePartLine blocks head query) told lines
      → AllZip (IsRightOf query) (bs ++ head ∷ []) told → are_right_lines lines ≡ true
  right_parts n bs [] [] at names all right = refl
  right_parts n bs [] (l ∷ ls) at names all right = absurd all
  right_parts n [] (t ∷ ts) [] at names all right = refl
  right_parts n [] (t ∷ ts) (l ∷ ls) at names all right =
      let f : name_of t ∷ map name_of ts ≡ Head ∷ [] = names in
      let name : name_of t ≡ Head = first_name (name_of t) Head (map name_of ts) [] f in
      let none : ts ≡ [] = no_more_told ts (rest_names (name_of t) Head (map name_of ts) [] f) in
      let grade = grade_at t l Head head name refl all.0 in
      let alone : AllZip (IsStatePartLine blocks head query) [] ls =
      subst (λ (rest : List ToldPart). AllZip (IsStatePartLine blocks head query) rest ls) none
      all.1 in
      and_both (is_right l.grade) (are_right_lines ls)
      (grade_of_right query head t l.grade grade right.0) (no_lines ls alone)
    where
      no_lines : (ls : List StateLine) → AllZip (IsStatePartLine blocks head query) [] ls
          → are_right_lines ls ≡ true
      no_lines [] h = refl
      no_lines (l ∷ ls) h = absurd h
  right_parts n (b ∷ bs) (t ∷ ts) [] at names all right = refl
  right_parts n (b ∷ bs) (t ∷ ts) (l ∷ ls) at names all right =
      let f : name_of t ∷ map name_of ts ≡ Block n ∷ names_from (n + 1) (length bs) = names in
      let name : name_of t ≡ Block n =
      first_name (name_of t) (Block n) (map name_of ts) (names_from (n + 1) (length bs)) f in
      let grade = grade_at t l (Block n) b name (read_front blocks n b bs at) all.0 in
      let next : suc n ≡ n + 1 = omega arith in
      and_both (is_right l.grade) (are_right_lines ls)
      (grade_of_right query b t l.grade grade right.0)
      (right_parts (n + 1) bs ts ls
      (subst (λ (m : ℕ). drop m blocks ≡ bs) next (drop_front blocks n b bs at))
      (rest_names (name_of t) (Block n) (map name_of ts) (names_from (n + 1) (length bs)) f)
      all.1 right.1)

-- each block is named, and the head is
block_named : (n blocks k : ℕ) (told : List ToldPart) → map name_of told ≡ names_from n blocks
    → n ≤ k → k < n + blocks → is_named told k ≡ true
block_named n zero k told names low high = absurd (omega arith)
block_named n (suc blocks) k [] names low high = absurd (names_some n (suc blocks) names)
block_named n (suc blocks) k (t ∷ ts) names low high =
    let f : name_of t ∷ map name_of ts ≡ Block n ∷ names_from (n + 1) blocks = names in
    let name : name_of t ≡ Block n =
    first_name (name_of t) (Block n) (map name_of ts) (names_from (n + 1) blocks) f in
    elim (at_or_past n k low) [
      | inl same ↦
          or_left (is_of_block k (name_of t)) (is_named ts k)
          (ap (is_of_block k) name ∙ (let t : (n == k) ≡ true = grind (arith, nat_tests) in t))
      | inr past ↦
          or_right (is_of_block k (name_of t)) (is_named ts k)
          (block_named (n + 1) blocks k ts
          (rest_names (name_of t) (Block n) (map name_of ts) (names_from (n + 1) blocks) f) past
          (omega (arith, high)))
    ]
  where
    at_or_past : (n k : ℕ) → n ≤ k → (n ≡ k) ⊎ (n + 1 ≤ k)
    at_or_past n k l = elim (below_or_not n k) [
      | inl lt ↦ inr (omega arith)
      | inr le ↦ inl (omega arith)
    ]

none_unnamed : (told : List ToldPart) (m : ℕ) → ((k : ℕ) → k < m → is_named told k ≡ true)
    → unnamed told m ≡ []
none_unnamed told zero named = refl
none_unnamed told (suc m) named =
    ap (λ (b : Bool). unnamed told m ++ cond b [] (m ∷ [])) (named m (omega arith))
    ∙ ap (λ (ns : List ℕ). ns ++ []) (none_unnamed told m (λ k l. named k (omega (arith, l))))

head_named : (n blocks : ℕ) (told : List ToldPart) → map name_of told ≡ names_from n blocks
    → has_head told ≡ true
head_named n zero [] names = absurd (names_some n 0 names)
head_named n zero (t ∷ ts) names =
    let f : name_of t ∷ map name_of ts ≡ Head ∷ [] = names in
    or_left (is_head (name_of t)) (has_head ts)
    (ap is_head (first_name (name_of t) Head (map name_of ts) [] f))
head_named n (suc blocks) [] names = absurd (names_some n (suc blocks) names)
head_named n (suc blocks) (t ∷ ts) names =
    let f : name_of t ∷ map name_of ts ≡ Block n ∷ names_from (n + 1) blocks = names in
    or_right (is_head (name_of t)) (has_head ts)
    (head_named (n + 1) blocks ts
    (rest_names (name_of t) (Block n) (map name_of ts) (names_from (n + 1) blocks) f))

no_left : (R : ℕ → StateLine → Type 0) (lines : List StateLine) → AllZip R [] lines
    → are_right_lines lines ≡ true
no_left R [] h = refl
no_left R (l ∷ ls) h = absurd h

both_parts : (xs ys : List StateLine) → are_right_lines (xs ++ ys) ≡ true
    → (are_right_lines xs ≡ true) × (are_right_lines ys ≡ true)
both_parts xs ys h =
    let e : (are_right_lines xs && are_right_lines ys) ≡ true =
    sym (list_all-append (λ (line : StateLine). is_right line.grade) xs ys) ∙ h in (
      and_left (are_right_lines xs) (are_right_lines ys) e,
      and_right (are_right_lines xs) (are_right_lines ys) e,
    )

of_both : (xs ys : List StateLine) → are_right_lines xs ≡ true → are_right_lines ys ≡ true
    → are_right_lines (xs ++ ys) ≡ true
of_both xs ys e f =
    list_all-append (λ (line : StateLine). is_right line.grade) xs ys
    ∙ and_both (are_right_lines xs) (are_right_lines ys) e f

rows_right : (answers : List PartAnswer) (rows : List Row) (grade : Grade)
    → IsGradeOfRows answers rows grade → is_right grade ≡ true
    → AreRows rows (last_listed answers)
rows_right answers rows Valid h e = h
rows_right answers rows NumberedOtherwise h e = absurd h
rows_right answers rows Skipped h e = absurd h
rows_right answers rows (Flawed flaw) h e = absurd (true_not_false (sym e))
rows_right answers rows Misnamed h e = absurd h

right_rows : (answers : List PartAnswer) (rows : List Row) (grade : Grade)
    → IsGradeOfRows answers rows grade → AreRows rows (last_listed answers)
    → is_right grade ≡ true
right_rows answers rows Valid h are = refl
right_rows answers rows NumberedOtherwise h are = refl
right_rows answers rows Skipped h are = refl
right_rows answers rows (Flawed flaw) h are = absurd (h.1 are)
right_rows answers rows Misnamed h are = absurd h

names_right : (told : List ToldPart) (blocks : ℕ) (lines : List StateLine)
    → AreNamesLines told blocks lines → are_right_lines lines ≡ true
    → map name_of told ≡ names_from 0 blocks
names_right told blocks lines (inl named) e = named.0
names_right told blocks lines (inr other) e =
    absurd (true_not_false (sym e ∙ ap are_right_lines other.1))

right_names : (told : List ToldPart) (blocks : ℕ) (lines : List StateLine)
    → AreNamesLines told blocks lines → map name_of told ≡ names_from 0 blocks
    → are_right_lines lines ≡ true
right_names told blocks lines (inl named) e = ap are_right_lines named.1
right_names told blocks lines (inr other) e = absurd (other.0 e)

right_head : (b : Bool) (head : Part) (query : QueryView) (lines : List StateLine)
    → AreLeftHeadLines b head query lines → b ≡ true → are_right_lines lines ≡ true
right_head true head query lines h e = ap are_right_lines h
right_head false head query lines h e = absurd (true_not_false (sym e))

module _ (blocks : List Part) (head : Part) (query : QueryView) (reply : Reply)
    (lines : List StateLine) (are : AreStateLines blocks head query reply lines) where
  pub whole_of_lines : are_right_lines lines ≡ true → IsWhole query blocks head reply
  whole_of_lines h =
      let told : List ToldPart = reply.parts.items in
      let last : StateLine = record { subject = of.Rows; grade = are.of_rows } in
      let ends = both_parts (are.of_parts ++ are.of_blocks ++ are.of_head ++ are.of_names)
      (last ∷ []) (sym (ap are_right_lines are.whole) ∙ h) in
      let later = both_parts (are.of_parts ++ are.of_blocks ++ are.of_head) are.of_names ends.0 in
      let left = both_parts (are.of_parts ++ are.of_blocks) are.of_head later.0 in
      let all = both_parts are.of_parts are.of_blocks left.0 in
      let named : map name_of told ≡ names_from 0 (length blocks) =
      names_right told (length blocks) are.of_names are.are_of_names later.1 in
      let each : AllZip (IsRightOf query) (blocks ++ head ∷ []) told =
      parts_right blocks head query 0 blocks told are.of_parts refl named are.are_of_parts all.0 in
      record {
        parts = record { named = named; each = each };
        rows = subst (AreRows reply.rows.items) (whole_listed query (blocks ++ head ∷ []) told each)
            (rows_right (flat_map answers_of told) reply.rows.items are.of_rows are.is_of_rows
            (and_left (is_right are.of_rows) true ends.1));
      }

  pub lines_of_whole : IsWhole query blocks head reply → are_right_lines lines ≡ true
  lines_of_whole w =
      let told : List ToldPart = reply.parts.items in
      let last : StateLine = record { subject = of.Rows; grade = are.of_rows } in
      let named : map name_of told ≡ names_from 0 (length blocks) = w.parts.named in
      let none : unnamed told (length blocks) ≡ [] =
      none_unnamed told (length blocks)
      (λ k l. block_named 0 (length blocks) k told named (omega arith) (omega (arith, l))) in
      ap are_right_lines are.whole
      ∙ of_both (are.of_parts ++ are.of_blocks ++ are.of_head ++ are.of_names) (last ∷ [])
      (of_both (are.of_parts ++ are.of_blocks ++ are.of_head) are.of_names
      (of_both (are.of_parts ++ are.of_blocks) are.of_head
      (of_both are.of_parts are.of_blocks
      (right_parts blocks head query 0 blocks told are.of_parts refl named are.are_of_parts
      w.parts.each)
      (no_left (IsLeftBlockLine blocks query) are.of_blocks
      (subst (λ (ns : List ℕ). AllZip (IsLeftBlockLine blocks query) ns are.of_blocks) none
      are.are_of_blocks)))
      (right_head (has_head told) head query are.of_head are.are_of_head
      (head_named 0 (length blocks) told named)))
      (right_names told (length blocks) are.of_names are.are_of_names named))
      (and_both (is_right are.of_rows) true
      (right_rows (flat_map answers_of told) reply.rows.items are.of_rows are.is_of_rows
      (subst (AreRows reply.rows.items)
      (sym (whole_listed query (blocks ++ head ∷ []) told w.parts.each)) w.rows)) refl)
