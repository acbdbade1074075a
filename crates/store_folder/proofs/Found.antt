-- Blocks for which a place is found, and those for which none is.
use Rattle.std.proofs.Common.{◌≡◌, ◌<◌, ◌+◌, ◌-◌, ℕ, zero, suc, List, [], ◌∷◌, ◌++◌, Option, None, Some}
use Rattle.std.proofs.Common.{◌≤◌, ap, append-nil, append_assoc, arith, drop, get_or, length, map, refl}
use Rattle.std.proofs.Common.{subst, subst₂, sym, ◌∙◌}
use Rattle.std.specs.Prelude.{slice_get}
use Rattle.std.specs.Option.{option_map}
use Rattle.std.proofs.Math.Numerals.{add-one}
use Rattle.std.proofs.lemmas.List.{drop-drop}
use Rattle.std.proofs.lemmas.Option.{slice_get-map}
use Rattle.block.specs.Blocks.{Shown}
use Rattle.head.specs.Blocks.{part_in}
use Rattle.head.specs.Heads.{BlockPart}
use Rattle.head_record.specs.Saved.{Place}
use Rattle.store_folder.specs.Saving.{AreFound, AreOf, IsFoundFrom}
use Rattle.store_folder.specs.Writing.{AreLike, IsLike, found_at, places_from, places_with, unfound}

-- the place that is found for a block

pub read_found : (found : List (Option Place)) (i : ℕ) (x d : Option Place) → i < length found
    → x ≡ get_or found i d → x ≡ found_at found i
read_found [] i x d below is = absurd (omega (arith, below))
read_found (y ∷ found) zero x d below is = is
read_found (y ∷ found) (suc i) x d below is =
    read_found found i x d (omega (arith, below)) is

pub read_past : (found : List (Option Place)) (i : ℕ) → length found ≤ i → None ≡ found_at found i
read_past [] i past = refl
read_past (y ∷ found) zero past = absurd (omega (arith, past))
read_past (y ∷ found) (suc i) past = read_past found i (omega (arith, past))

pub none_if : (o : Option Place) → ((p : Place) → o ≡ Some p → ⊥) → o ≡ None
none_if None none = refl
none_if (Some p) none = absurd (none p refl)

-- behind the last block

unfound_none : {A : Type 0} (found : List (Option Place)) → unfound {A = A} found [] ≡ []
unfound_none [] = refl
unfound_none (x ∷ found) = refl

places_none : (n : ℕ) (found : List (Option Place)) → places_with n found 0 ≡ []
places_none n [] = refl
places_none n (x ∷ found) = refl

-- a block for which none is found

unfound_next : {A : Type 0} (found : List (Option Place)) (i : ℕ) (b : A) (rest : List A)
    → found_at found i ≡ None
    → unfound (drop i found) (b ∷ rest) ≡ b ∷ unfound (drop (suc i) found) rest
unfound_next [] zero b rest is = refl
unfound_next [] (suc i) b rest is = refl
unfound_next (None ∷ found) zero b rest is = refl
unfound_next (Some p ∷ found) zero b rest is = absurd cc
unfound_next (x ∷ found) (suc i) b rest is = unfound_next found i b rest is

places_next : (n m : ℕ) (found : List (Option Place)) (i : ℕ) → found_at found i ≡ None
    → places_with n (drop i found) (suc m) ≡ (n, 0) ∷ places_with (n + 1) (drop (suc i) found) m
places_next n m [] zero is = refl
places_next n m [] (suc i) is = refl
places_next n m (None ∷ found) zero is = refl
places_next n m (Some p ∷ found) zero is = absurd cc
places_next n m (x ∷ found) (suc i) is = places_next n m found i is

-- one for which a place is found

unfound_past : {A : Type 0} (found : List (Option Place)) (i : ℕ) (p : Place) (b : A)
    (rest : List A) → found_at found i ≡ Some p
    → unfound (drop i found) (b ∷ rest) ≡ unfound (drop (suc i) found) rest
unfound_past [] i p b rest is = absurd cc
unfound_past (None ∷ found) zero p b rest is = absurd cc
unfound_past (Some q ∷ found) zero p b rest is = refl
unfound_past (x ∷ found) (suc i) p b rest is = unfound_past found i p b rest is

unfound_tail : {A : Type 0} (found : List (Option Place)) (i : ℕ) (p : Place) (rest : List A)
    → found_at found i ≡ Some p
    → unfound (drop i found) rest ≡ unfound (drop (suc i) found) (drop 1 rest)
unfound_tail found i p [] is =
    unfound_none (drop i found) ∙ sym (unfound_none (drop (suc i) found))
unfound_tail found i p (b ∷ rest) is = unfound_past found i p b rest is

places_past : (n m : ℕ) (found : List (Option Place)) (i : ℕ) (p : Place)
    → found_at found i ≡ Some p
    → places_with n (drop i found) (suc m) ≡ p ∷ places_with n (drop (suc i) found) m
places_past n m [] i p is = absurd cc
places_past n m (None ∷ found) zero p is = absurd cc
places_past n m (Some q ∷ found) zero p is =
    let same : q ≡ p = cc in ap (λ (r : Place). r ∷ places_with n found m) same
places_past n m (x ∷ found) (suc i) p is = places_past n m found i p is

-- the steps of a walk over all blocks

pub one_written : {A : Type 0} (found : List (Option Place)) (i : ℕ) (done : List A) (b : A)
    (rest next all : List A) → found_at found i ≡ None → rest ≡ b ∷ next
    → done ++ unfound (drop i found) rest ≡ all
    → (done ++ b ∷ []) ++ unfound (drop (i + 1) found) next ≡ all
one_written found i done b rest next all none is so =
    append_assoc done (b ∷ []) (unfound (drop (i + 1) found) next)
    ∙ ap (λ (k : ℕ). done ++ b ∷ unfound (drop k found) next) (add-one i)
    ∙ ap (λ (bs : List _). done ++ bs) (sym (unfound_next found i b next none))
    ∙ ap (λ (bs : List _). done ++ unfound (drop i found) bs) (sym is)
    ∙ so

pub one_kept : {A : Type 0} (found : List (Option Place)) (i : ℕ) (done : List A) (p : Place)
    (rest next all : List A) → found_at found i ≡ Some p → drop 1 rest ≡ next
    → done ++ unfound (drop i found) rest ≡ all
    → done ++ unfound (drop (i + 1) found) next ≡ all
one_kept found i done p rest next all some is so =
    ap (λ (bs : List _). done ++ unfound (drop (i + 1) found) bs) (sym is)
    ∙ ap (λ (k : ℕ). done ++ unfound (drop k found) (drop 1 rest)) (add-one i)
    ∙ ap (λ (bs : List _). done ++ bs) (sym (unfound_tail found i p rest some))
    ∙ so

pub all_written : {A : Type 0} (found : List (Option Place)) (done rest all : List A) → rest ≡ []
    → done ++ unfound found rest ≡ all → done ≡ all
all_written found done rest all is so =
    sym (append-nil done)
    ∙ ap (λ (bs : List _). done ++ bs) (sym (unfound_none found))
    ∙ ap (λ (bs : List _). done ++ unfound found bs) (sym is)
    ∙ so

pub place_written : (n written i count : ℕ) (found : List (Option Place)) (done all : List Place)
    (p : Place) → found_at found i ≡ None → i < count → p ≡ (n + written, 0)
    → done ++ places_with (n + written) (drop i found) (count - i) ≡ all
    → (done ++ p ∷ []) ++ places_with (n + (written + 1)) (drop (i + 1) found) (count - (i + 1))
    ≡ all
place_written n written i count found done all p none below is so =
    let left : count - i ≡ suc (count - (i + 1)) = omega arith in
    let next : n + (written + 1) ≡ n + written + 1 = omega arith in
    append_assoc done (p ∷ [])
    (places_with (n + (written + 1)) (drop (i + 1) found) (count - (i + 1)))
    ∙ ap (λ (q : Place). done
    ++ q ∷ places_with (n + (written + 1)) (drop (i + 1) found) (count - (i + 1))) is
    ∙ ap (λ (k : ℕ). done
    ++ (n + written, 0) ∷ places_with k (drop (i + 1) found) (count - (i + 1))) next
    ∙ ap (λ (k : ℕ). done
    ++ (n + written, 0) ∷ places_with (n + written + 1) (drop k found) (count - (i + 1)))
    (add-one i)
    ∙ ap (λ (ps : List Place). done ++ ps)
    (sym (places_next (n + written) (count - (i + 1)) found i none))
    ∙ ap (λ (k : ℕ). done ++ places_with (n + written) (drop i found) k) (sym left)
    ∙ so

pub place_kept : (n i count : ℕ) (found : List (Option Place)) (done all : List Place) (p : Place)
    → found_at found i ≡ Some p → i < count
    → done ++ places_with n (drop i found) (count - i) ≡ all
    → (done ++ p ∷ []) ++ places_with n (drop (i + 1) found) (count - (i + 1)) ≡ all
place_kept n i count found done all p some below so =
    let left : count - i ≡ suc (count - (i + 1)) = omega arith in
    append_assoc done (p ∷ []) (places_with n (drop (i + 1) found) (count - (i + 1)))
    ∙ ap (λ (k : ℕ). done ++ p ∷ places_with n (drop k found) (count - (i + 1))) (add-one i)
    ∙ ap (λ (ps : List Place). done ++ ps)
    (sym (places_past n (count - (i + 1)) found i p some))
    ∙ ap (λ (k : ℕ). done ++ places_with n (drop i found) k) (sym left)
    ∙ so

-- before the first

pub none_placed : (n count : ℕ) (found : List (Option Place)) (done : List Place) → done ≡ []
    → done ++ places_with (n + 0) found (count - 0) ≡ places_with n found count
none_placed n count found done is =
    let from : n + 0 ≡ n = omega arith in
    let left : count - 0 ≡ count = omega arith in
    ap (λ (ps : List Place). ps ++ places_with (n + 0) found (count - 0)) is
    ∙ ap (λ (k : ℕ). places_with k found (count - 0)) from
    ∙ ap (λ (k : ℕ). places_with n found k) left

-- behind the last

pub written_places : (n written : ℕ) (done all : List BlockPart) → done ≡ all
    → length done ≡ written → places_from n written ≡ places_from n (length all)
written_places n written done all is many =
    ap (λ (k : ℕ). places_from n k) (sym many ∙ ap length is)

pub all_placed : (n i count : ℕ) (found : List (Option Place)) (done all : List Place) → i ≡ count
    → done ++ places_with n found (count - i) ≡ all → done ≡ all
all_placed n i count found done all ends so =
    let none : count - i ≡ 0 = omega arith in
    sym (append-nil done)
    ∙ ap (λ (ps : List Place). done ++ ps) (sym (places_none n found))
    ∙ ap (λ (k : ℕ). done ++ places_with n found k) (sym none)
    ∙ so

-- places that are found

-- they are some of those where others lie
pub found_of : (Fits : BlockPart → BlockPart → Type 0) (held : List Place)
    (parts : List BlockPart) (found : List (Option Place)) (blocks : List BlockPart)
    → AreFound Fits held parts found blocks → AreOf held found
found_of Fits held parts [] blocks at = tt
found_of Fits held parts (x ∷ found) [] at = absurd at
found_of Fits held parts (None ∷ found) (b ∷ blocks) at =
    found_of Fits held parts found blocks at
found_of Fits held parts (Some p ∷ found) (b ∷ blocks) at =
    (at.0, at.1, found_of Fits (drop (at.0 + 1) held) (drop (at.0 + 1) parts) found blocks at.3)

like_at : (i : ℕ) (a b : List BlockPart) (x : BlockPart) → AreLike a b → slice_get a i ≡ Some x
    → (y : BlockPart) × (slice_get b i ≡ Some y) × IsLike x y
like_at i [] b x like is = absurd cc
like_at i (z ∷ a) [] x like is = absurd like
like_at zero (z ∷ a) (y ∷ b) x like is =
    let same : z ≡ x = cc in
    (y, refl, subst (λ (w : BlockPart). IsLike w y) same like.0)
like_at (suc i) (z ∷ a) (y ∷ b) x like is = like_at i a b x like.1 is

like_behind : (n : ℕ) (a b : List BlockPart) → AreLike a b → AreLike (drop n a) (drop n b)
like_behind zero a b like = like
like_behind (suc n) [] [] like = tt
like_behind (suc n) [] (y ∷ b) like = absurd like
like_behind (suc n) (x ∷ a) [] like = absurd like
like_behind (suc n) (x ∷ a) (y ∷ b) like = like_behind n a b like.1

-- those of blocks that are the same as some are those of blocks like the ones that these are like
pub found_like : (held : List Place) (blocks parts : List BlockPart)
    (found : List (Option Place)) (shown : List BlockPart)
    → AreFound (λ (b part : BlockPart). b ≡ part) held blocks found shown → AreLike blocks parts
    → AreFound IsLike held parts found shown
found_like held blocks parts [] shown at like = tt
found_like held blocks parts (x ∷ found) [] at like = absurd at
found_like held blocks parts (None ∷ found) (b ∷ shown) at like =
    found_like held blocks parts found shown at like
found_like held blocks parts (Some p ∷ found) (b ∷ shown) at like =
    let one = like_at at.0 blocks parts at.2.0 like at.2.1 in (
      at.0,
      at.1,
      (one.0, one.1, subst (λ (x : BlockPart). IsLike x one.0) (sym at.2.2) one.2),
      found_like (drop (at.0 + 1) held) (drop (at.0 + 1) blocks) (drop (at.0 + 1) parts) found
          shown at.3 (like_behind (at.0 + 1) blocks parts like),
    )

-- a walk that finds them

abbrev pub Same : BlockPart → BlockPart → Type 0
Same block part = block ≡ part

get_behind : {A : Type 0} (n i : ℕ) (xs : List A) → slice_get (drop n xs) i ≡ slice_get xs (n + i)
get_behind zero i xs =
    let e : i ≡ 0 + i = omega arith in ap (λ (k : ℕ). slice_get xs k) e
get_behind (suc n) i [] = refl
get_behind (suc n) i (x ∷ xs) =
    let e : suc (n + i) ≡ suc n + i = omega arith in
    get_behind n i xs ∙ ap (λ (k : ℕ). slice_get (x ∷ xs) k) e

behind_so : {A : Type 0} (from at : ℕ) (xs : List A) (x : A) → from ≤ at → slice_get xs at ≡ Some x
    → slice_get (drop from xs) (at - from) ≡ Some x
behind_so from at xs x le is =
    let e : from + (at - from) ≡ at = omega (arith, le) in
    get_behind from (at - from) xs ∙ ap (λ (k : ℕ). slice_get xs k) e ∙ is

behind_more : {A : Type 0} (from at : ℕ) (xs : List A) → from ≤ at
    → drop (at + 1) xs ≡ drop (at - from + 1) (drop from xs)
behind_more from at xs le =
    let e : at + 1 ≡ from + (at - from + 1) = omega (arith, le) in
    ap (λ (k : ℕ). drop k xs) e ∙ sym (drop-drop (at - from + 1) from xs)

shown_part : (others : List Shown) (at : ℕ) (b : Shown) → slice_get others at ≡ Some b
    → slice_get (map part_in others) at ≡ Some (part_in b)
shown_part others at b is =
    slice_get-map part_in others at
    ∙ ap (λ (x : Option Shown). option_map part_in x) is

-- how the places of all blocks are found, once those of the first are
abbrev pub GoesOn : List Place → List BlockPart → List BlockPart → ℕ → List (Option Place)
    → List BlockPart → Type 0
GoesOn held parts blocks from done rest =
    (more : List (Option Place)) → AreFound Same (drop from held) (drop from parts) more rest
    → AreFound Same held parts (done ++ more) blocks

one_found : (held : List Place) (parts blocks : List BlockPart) (from at : ℕ)
    (done : List (Option Place)) (p : Place) (b : BlockPart) (rest : List BlockPart)
    → from ≤ at → slice_get held at ≡ Some p → slice_get parts at ≡ Some b
    → GoesOn held parts blocks from done (b ∷ rest)
    → GoesOn held parts blocks (at + 1) (done ++ Some p ∷ []) rest
one_found held parts blocks from at done p b rest le place part goes = λ more next.
    subst (λ (xs : List (Option Place)). AreFound Same held parts xs blocks)
    (sym (append_assoc done (Some p ∷ []) more))
    (goes (Some p ∷ more) (
      at - from,
      behind_so from at held p le place,
      (b, behind_so from at parts b le part, refl),
      subst₂ (λ (ps : List Place) (bs : List BlockPart). AreFound Same ps bs more rest)
          (behind_more from at held le) (behind_more from at parts le) next,
    ))

none_found : (held : List Place) (parts blocks : List BlockPart) (from : ℕ)
    (done : List (Option Place)) (b : BlockPart) (rest : List BlockPart)
    → GoesOn held parts blocks from done (b ∷ rest)
    → GoesOn held parts blocks from (done ++ None ∷ []) rest
none_found held parts blocks from done b rest goes = λ more next.
    subst (λ (xs : List (Option Place)). AreFound Same held parts xs blocks)
    (sym (append_assoc done (None ∷ []) more)) (goes (None ∷ more) next)

-- of none yet, and of one block more

pub none_yet : (held : List Place) (parts blocks : List BlockPart) (done : List (Option Place))
    → done ≡ [] → GoesOn held parts blocks 0 done blocks
none_yet held parts blocks done is = λ more at.
    subst (λ (xs : List (Option Place)). AreFound Same held parts (xs ++ more) blocks) (sym is) at

pub next_found : (held : List Place) (others : List Shown) (blocks : List BlockPart)
    (from next : ℕ) (done now : List (Option Place)) (place : Option Place) (b : Shown)
    (left rest : List BlockPart) → left ≡ part_in b ∷ rest → now ≡ done ++ place ∷ []
    → IsFoundFrom held others b from place next
    → GoesOn held (map part_in others) blocks from done left
    → GoesOn held (map part_in others) blocks next now rest
next_found held others blocks from next done now None b left rest is more found goes =
    subst₂ (λ (n : ℕ) (xs : List (Option Place)).
    GoesOn held (map part_in others) blocks n xs rest) (sym found) (sym more)
    (none_found held (map part_in others) blocks from done (part_in b) rest
    (subst (λ (bs : List BlockPart). GoesOn held (map part_in others) blocks from done bs) is goes))
next_found held others blocks from next done now (Some p) b left rest is more found goes =
    subst₂ (λ (n : ℕ) (xs : List (Option Place)).
    GoesOn held (map part_in others) blocks n xs rest) (sym found.4) (sym more)
    (one_found held (map part_in others) blocks from found.0 done p (part_in b) rest found.1 found.2
    (shown_part others found.0 b found.3)
    (subst (λ (bs : List BlockPart). GoesOn held (map part_in others) blocks from done bs) is goes))

pub all_found : (held : List Place) (parts blocks : List BlockPart) (from : ℕ)
    (done : List (Option Place)) (rest : List BlockPart)
    → GoesOn held parts blocks from done rest → AreFound Same held parts done blocks
all_found held parts blocks from done rest goes =
    subst (λ (xs : List (Option Place)). AreFound Same held parts xs blocks) (append-nil done)
    (goes [] tt)
