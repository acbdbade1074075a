-- What is said of parts and of their names.
use Rattle.std.proofs.Common.{◌≡◌, ℕ, zero, suc, ◌+◌, ◌<◌, true, ◌&&◌, inl, inr, List, [], ◌∷◌, ◌++◌, length, map, take, get_or, refl, sym, ◌∙◌, ap, subst, arith}
use Rattle.std.specs.Prelude.{◌==◌}
use Rattle.std.specs.List.{AllZip}
use Rattle.std.proofs.lemmas.Bool.Decides.{nat_tests}
use Rattle.std.proofs.lemmas.List.{take_more}
use Rattle.labels.specs.Parts.{Part}
use Rattle.labels.proofs.Times.{true_not_false}
use Rattle.matchers.specs.Views.{QueryView}
use Rattle.postings.specs.declared.part_name.PartName.{PartName}
use Rattle.postings.specs.declared.part_name.PartName.TheVariants.{Block, Head}
use Rattle.cover.specs.declared.part_cover.PartAnswer.{PartAnswer}
use Rattle.reply_reader.specs.declared.reply.ToldPart.{ToldPart}
use Rattle.reply_reader.specs.declared.reply.ToldPart.TheVariants.{Searched as Answered, Skipped as PassedOver}
use Rattle.reply_reader.proofs.Booleans.{and_left, and_right, and_both}
use Rattle.auditor.specs.declared.flaw.Flaw.{Flaw}
use Rattle.auditor.specs.Auditing.{IsSoundAnswer, IsFlaw}
use Rattle.auditor.specs.Judgements.{name_of, is_of_block}
use Rattle.auditor.proofs.Excluding.{sound_not}
use Rattle.auditor.proofs.Lines.{zip_more}
use Rattle.whole_audit.specs.declared.grade.Grade.{Grade}
use Rattle.whole_audit.specs.declared.grade.Grade.TheVariants.{Valid, NumberedOtherwise, Skipped, Flawed, Misnamed}
use Rattle.whole_audit.specs.PartNames.{names_from}
use Rattle.whole_audit.specs.Wholes.{IsRightUnder, IsRightOf}
use Rattle.whole_audit.specs.Grading.{is_right, IsExplainedUnder, IsGradeOf, are_blocks_from, is_head, is_end}

module _ (query : QueryView) (part : Part) where
  right_sound : (name : PartName) (answer : PartAnswer) → IsSoundAnswer part query answer
      → IsRightUnder name query part answer
  right_sound (Block n) answer h = inl h
  right_sound Head answer h = h

  right_explained : (name : PartName) (answer : PartAnswer)
      → IsExplainedUnder name query part answer → IsRightUnder name query part answer
  right_explained (Block n) answer h = inr h
  right_explained Head answer h = absurd h

  not_right : (name : PartName) (answer : PartAnswer) (flaw : Flaw) → IsFlaw part query answer flaw
      → (IsExplainedUnder name query part answer → ⊥) → IsRightUnder name query part answer → ⊥
  not_right (Block n) answer flaw f none (inl sound) = sound_not part query answer flaw sound f
  not_right (Block n) answer flaw f none (inr explained) = none explained
  not_right Head answer flaw f none sound = sound_not part query answer flaw sound f

  pub right_of_grade : (told : ToldPart) (grade : Grade) → IsGradeOf query part told grade
      → is_right grade ≡ true → IsRightOf query part told
  right_of_grade (Answered answer) Valid h e = right_sound answer.part answer h
  right_of_grade (Answered answer) NumberedOtherwise h e = right_explained answer.part answer h.1
  right_of_grade (Answered answer) Skipped h e = absurd h
  right_of_grade (Answered answer) (Flawed flaw) h e = absurd (true_not_false (sym e))
  right_of_grade (Answered answer) Misnamed h e = absurd h
  right_of_grade (PassedOver n) Valid h e = absurd h
  right_of_grade (PassedOver n) NumberedOtherwise h e = absurd h
  right_of_grade (PassedOver n) Skipped h e = h
  right_of_grade (PassedOver n) (Flawed flaw) h e = absurd (true_not_false (sym e))
  right_of_grade (PassedOver n) Misnamed h e = absurd h

  pub grade_of_right : (told : ToldPart) (grade : Grade) → IsGradeOf query part told grade
      → IsRightOf query part told → is_right grade ≡ true
  grade_of_right (Answered answer) Valid h r = refl
  grade_of_right (Answered answer) NumberedOtherwise h r = refl
  grade_of_right (Answered answer) Skipped h r = refl
  grade_of_right (Answered answer) (Flawed flaw) h r =
      absurd (not_right answer.part answer flaw h.0 h.1 r)
  grade_of_right (Answered answer) Misnamed h r = absurd h
  grade_of_right (PassedOver n) Valid h r = refl
  grade_of_right (PassedOver n) NumberedOtherwise h r = refl
  grade_of_right (PassedOver n) Skipped h r = refl
  grade_of_right (PassedOver n) (Flawed flaw) h r = absurd (h.1 r)
  grade_of_right (PassedOver n) Misnamed h r = absurd h

-- what holds of each of two lists holds of those at one place
pub zip_at : {A B : Type 0} (R : A → B → Type 0) (xs : List A) (ys : List B) (i : ℕ) (x : A) (y : B)
    → AllZip R xs ys → i < length xs → x ≡ get_or xs i x → y ≡ get_or ys i y → R x y
zip_at R [] [] i x y all l e f = absurd (omega (arith, l))
zip_at R [] (b ∷ bs) i x y all l e f = absurd all
zip_at R (a ∷ as') [] i x y all l e f = absurd all
zip_at {A} {B} R (a ∷ as') (b ∷ bs) zero x y all l e f =
    subst (λ (z : A). R z y) (sym e) (subst (λ (z : B). R a z) (sym f) all.0)
zip_at R (a ∷ as') (b ∷ bs) (suc i) x y all l e f =
    zip_at R as' bs i x y all.1 (omega (arith, l)) e f

-- one place more of two lists
pub zip_next : {A B : Type 0} (R : A → B → Type 0) (xs : List A) (ys : List B) (i : ℕ) (x : A)
    (y : B)
    → i < length xs → i < length ys → x ≡ get_or xs i x → y ≡ get_or ys i y
    → AllZip R (take i xs) (take i ys) → R x y → AllZip R (take (i + 1) xs) (take (i + 1) ys)
zip_next {A} {B} R xs ys i x y l m e f all h =
    zip_more R xs i x (take i ys) (take (i + 1) ys) y l e
    (take_more ys i y m ∙ ap (λ (z : B). take i ys ++ z ∷ []) (sym f)) all h

pub zip_push : {A B : Type 0} (R : A → B → Type 0) (xs : List A) (ys : List B) (x : A) (y : B)
    → AllZip R xs ys → R x y → AllZip R (xs ++ x ∷ []) (ys ++ y ∷ [])
zip_push R [] [] x y all h = (h, tt)
zip_push R [] (b ∷ bs) x y all h = absurd all
zip_push R (a ∷ as') [] x y all h = absurd all
zip_push R (a ∷ as') (b ∷ bs) x y all h = (all.0, zip_push R as' bs x y all.1 h)

pub zip_split : {A B : Type 0} (R : A → B → Type 0) (xs : List A) (ys : List B) (x : A) (y : B)
    → length xs ≡ length ys → AllZip R (xs ++ x ∷ []) (ys ++ y ∷ []) → AllZip R xs ys × R x y
zip_split R [] [] x y e all = (tt, all.0)
zip_split R [] (b ∷ bs) x y e all = cc
zip_split R (a ∷ as') [] x y e all = cc
zip_split R (a ∷ as') (b ∷ bs) x y e all =
    let same : length as' ≡ length bs = cc in
    let rest = zip_split R as' bs x y same all.1 in ((all.0, rest.0), rest.1)

-- NAMES

head_of : (name : PartName) → is_head name ≡ true → name ≡ Head
head_of (Block n) e = absurd (true_not_false (sym e))
head_of Head e = refl

of_head : (name : PartName) → name ≡ Head → is_head name ≡ true
of_head name e = ap is_head e

block_of : (n : ℕ) (name : PartName) → is_of_block n name ≡ true → name ≡ Block n
block_of n (Block m) e = let same : m ≡ n = grind (arith, nat_tests) in ap (λ k. Block k) same
block_of n Head e = absurd (true_not_false (sym e))

of_block : (n : ℕ) (name : PartName) → name ≡ Block n → is_of_block n name ≡ true
of_block n name e = ap (is_of_block n) e ∙ (let t : (n == n) ≡ true = grind (arith, nat_tests) in t)

names_all : (last : ToldPart) (others : List ToldPart) (n : ℕ) → name_of last ≡ Head
    → are_blocks_from n others ≡ true
    → map name_of (others ++ last ∷ []) ≡ names_from n (length others)
names_all last [] n e h = ap (λ (name : PartName). name ∷ []) e
names_all last (told ∷ rest) n e h =
    let first : name_of told ≡ Block n =
    block_of n (name_of told)
    (and_left (is_of_block n (name_of told)) (are_blocks_from (n + 1) rest) h) in
    let later = names_all last rest (n + 1) e
    (and_right (is_of_block n (name_of told)) (are_blocks_from (n + 1) rest) h) in
    (λ i. first i ∷ later i)

pub named_of : (last : ToldPart) (others : List ToldPart) (blocks : ℕ)
    → is_end last others blocks ≡ true
    → map name_of (others ++ last ∷ []) ≡ names_from 0 blocks
named_of last others blocks h =
    let front : ((length others == blocks) && is_head (name_of last)) ≡ true =
    and_left ((length others == blocks) && is_head (name_of last)) (are_blocks_from 0 others) h in
    let count : (length others == blocks) ≡ true =
    and_left (length others == blocks) (is_head (name_of last)) front in
    let same : length others ≡ blocks = grind (arith, nat_tests) in
    names_all last others 0
    (head_of (name_of last) (and_right (length others == blocks) (is_head (name_of last)) front))
    (and_right ((length others == blocks) && is_head (name_of last)) (are_blocks_from 0 others) h)
    ∙ ap (names_from 0) same

record AreNamed (last : ToldPart) (others : List ToldPart) (n blocks : ℕ) : Type 0 where
  pub count : length others ≡ blocks
  pub head : name_of last ≡ Head
  pub each : are_blocks_from n others ≡ true

not_nil : {A : Type 0} (xs : List A) (x : A) → xs ++ x ∷ [] ≡ [] → ⊥
not_nil [] x e = cc
not_nil (y ∷ ys) x e = let f : y ∷ (ys ++ x ∷ []) ≡ [] = e in cc

names_some : (n blocks : ℕ) → names_from n blocks ≡ [] → ⊥
names_some n zero e = let f : Head ∷ [] ≡ [] = e in cc
names_some n (suc blocks) e = let f : Block n ∷ names_from (n + 1) blocks ≡ [] = e in cc

of_names : (last : ToldPart) (others : List ToldPart) (n blocks : ℕ)
    → map name_of (others ++ last ∷ []) ≡ names_from n blocks → AreNamed last others n blocks
of_names last [] n zero e =
    let f : name_of last ∷ [] ≡ Head ∷ [] = e in record { count = refl; head = cc; each = refl }
of_names last [] n (suc blocks) e =
    absurd (names_some (n + 1) blocks
    (let f : name_of last ∷ [] ≡ Block n ∷ names_from (n + 1) blocks = e in
    let g : names_from (n + 1) blocks ≡ [] = cc in g))
of_names last (told ∷ rest) n zero e =
    let f : name_of told ∷ map name_of (rest ++ last ∷ []) ≡ Head ∷ [] = e in
    let g : map name_of (rest ++ last ∷ []) ≡ [] = cc in
    absurd (map_some rest g)
  where
    map_some : (xs : List ToldPart) → map name_of (xs ++ last ∷ []) ≡ [] → ⊥
    map_some [] e = let f : name_of last ∷ [] ≡ [] = e in cc
    map_some (x ∷ xs) e = let f : name_of x ∷ map name_of (xs ++ last ∷ []) ≡ [] = e in cc
of_names last (told ∷ rest) n (suc blocks) e =
    let f : name_of told ∷ map name_of (rest ++ last ∷ [])
    ≡ Block n ∷ names_from (n + 1) blocks = e in
    let first : name_of told ≡ Block n = cc in
    let g : map name_of (rest ++ last ∷ []) ≡ names_from (n + 1) blocks = cc in
    let later = of_names last rest (n + 1) blocks g in record {
      count = ap suc later.count;
      head = later.head;
      each = and_both (is_of_block n (name_of told)) (are_blocks_from (n + 1) rest)
          (of_block n (name_of told) first) later.each;
    }

pub as_many : (last : ToldPart) (others : List ToldPart) (blocks : ℕ)
    → map name_of (others ++ last ∷ []) ≡ names_from 0 blocks → length others ≡ blocks
as_many last others blocks e = (of_names last others 0 blocks e).count

pub of_named : (last : ToldPart) (others : List ToldPart) (blocks : ℕ)
    → map name_of (others ++ last ∷ []) ≡ names_from 0 blocks → is_end last others blocks ≡ true
of_named last others blocks e =
    let k = of_names last others 0 blocks e in
    let same : length others ≡ blocks = k.count in
    let count : (length others == blocks) ≡ true = grind (arith, nat_tests) in
    and_both ((length others == blocks) && is_head (name_of last)) (are_blocks_from 0 others)
    (and_both (length others == blocks) (is_head (name_of last)) count
    (of_head (name_of last) k.head)) k.each
