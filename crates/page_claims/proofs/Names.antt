-- Names of parts, in order.
use Rattle.std.proofs.Common.{◌≡◌, ◌↔◌, ℕ, suc, ◌+◌, ◌-◌, ◌<◌, ◌≤◌, true, List, [], ◌∷◌, IsTrue, map, length}
use Rattle.std.proofs.Common.{◌==◌, arith, ap, refl, sym, subst}
use Rattle.std.proofs.Math.Dec.{eqb-suc-zero}
use Rattle.std.proofs.lemmas.Bool.{eqb-true, eq-eqb}
use Rattle.std.specs.List.{flat_map}
use Rattle.auditor.specs.Judgements.{answers_of}
use Rattle.cover.specs.declared.part_cover.PartAnswer.{PartAnswer}
use Rattle.page_claims.specs.declared.told.Place.{Place}
use Rattle.postings.specs.declared.part_name.PartName.{PartName}
use Rattle.postings.specs.declared.part_name.PartName.TheVariants.{Block, Head}
use Rattle.reply_reader.specs.declared.reply.ToldPart.{ToldPart}
use Rattle.reply_reader.specs.declared.reply.ToldPart.TheVariants as parts
use Rattle.reply_reader.proofs.Booleans.{and_left, and_right, and_both}
use Rattle.page_claims.specs.Judging.{place_of, told_name, names_in, names_from, same_name}
use Rattle.page_claims.specs.Judging.{same_names}

names_told : (told : List ToldPart)
    → names_in (map place_of told) (flat_map answers_of told) ≡ map told_name told
names_told [] = refl
names_told (parts.Searched answer ∷ told) =
    ap (λ (names : List PartName). answer.part ∷ names) (names_told told)
names_told (parts.Skipped number ∷ told) =
    ap (λ (names : List PartName). Block number ∷ names) (names_told told)

-- the first of the names that are left
pub next_named : (blocks number : ℕ) → number < blocks
    → names_from number (blocks - number)
    ≡ Block number ∷ names_from (number + 1) (blocks - (number + 1))
next_named blocks number below =
    let e : blocks - number ≡ suc (blocks - (number + 1)) = omega (arith, below) in
    rw e refl

-- behind the blocks stands the head
pub last_named : (blocks number : ℕ) → blocks ≤ number
    → names_from number (blocks - number) ≡ Head ∷ []
last_named blocks number above =
    let e : blocks - number ≡ 0 = omega (arith, above) in
    rw e refl

pub none_left : (names : List PartName) → same_names names [] ≡ (length names == 0)
none_left [] = refl
none_left (name ∷ names) = sym (eqb-suc-zero (length names))

is_same : (name other : PartName) → same_name name other ≡ true → name ≡ other
is_same (Block m) (Block n) same = ap Block (eqb-true m n same)
is_same (Block m) Head same = cc
is_same Head (Block n) same = cc
is_same Head Head same = refl

same_itself : (name : PartName) → same_name name name ≡ true
same_itself (Block n) = eq-eqb n n refl
same_itself Head = refl

same_both : (names others : List PartName) → same_names names others ≡ true → names ≡ others
same_both [] [] same = refl
same_both [] (other ∷ others) same = cc
same_both (name ∷ names) [] same = cc
same_both (name ∷ names) (other ∷ others) same = λ i.
    is_same name other (and_left (same_name name other) (same_names names others) same) i
    ∷ same_both names others (and_right (same_name name other) (same_names names others) same) i

all_same : (names : List PartName) → same_names names names ≡ true
all_same [] = refl
all_same (name ∷ names) =
    and_both (same_name name name) (same_names names names) (same_itself name) (all_same names)

-- names are the same one by one exactly if the lists are
pub same_listed : (names others : List PartName)
    → IsTrue (same_names names others) ↔ (names ≡ others)
same_listed names others = (
  same_both names others,
  (λ same. subst (λ (ns : List PartName). same_names names ns ≡ true) same (all_same names)),
)

-- of a reply that is taken apart the parts are named in its order
pub names_apart : (told : List ToldPart) (places : List Place) (answers : List PartAnswer)
    → places ≡ map place_of told → answers ≡ flat_map answers_of told
    → names_in places answers ≡ map told_name told
names_apart told places answers place answer = rw (place, answer) (names_told told)
