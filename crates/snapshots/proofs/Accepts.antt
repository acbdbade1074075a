-- What logs accept.
use Rattle.std.proofs.Common.{◌≡◌, ℕ, ◌+◌, ◌-◌, ◌≤◌, ◌==◌, Bool, true, false, nat_le, MatchBool, List, [], ◌∷◌, ◌++◌, length, refl, ap, sym, ◌∙◌, subst, arith, append_assoc, length-append}
use Rattle.std.proofs.lemmas.Bool.Decides.{nat_tests}
use Rattle.std.proofs.lemmas.List.{append-nil}
use mathlib.Core.List.{IsPrefix}
use Rattle.snapshots.specs.declared.entry.Entry.{Entry}
use Rattle.snapshots.specs.declared.entry.Mark.{Mark}
use Rattle.snapshots.specs.declared.entry.Mark.TheVariants.{Try, Seal, Done, Void}
use Rattle.snapshots.specs.Tallies.{IsTally}
use Rattle.snapshots.specs.declared.tally.Tally.{Tally}
use Rattle.snapshots.specs.Marks.{accepted_after, accepted, list_of, tried_of, voids_of}
use Rattle.snapshots.proofs.Prefixes.{prefix_shorter, prefix_self, prefix_trans, prefix_whole, prefix_length}

-- what a log leaves sealed
abbrev pub sealed_at : List Entry → List Entry → List Mark → List Entry
sealed_at sealed waiting [] = sealed
sealed_at sealed waiting (Try e ∷ log) = sealed_at sealed (waiting ++ e ∷ []) log
sealed_at sealed waiting (Seal ∷ log) = sealed_at (sealed ++ waiting) [] log
sealed_at sealed waiting (Done ∷ log) = sealed_at [] waiting log
sealed_at sealed waiting (Void ∷ log) = sealed_at [] [] log

-- what a log leaves waiting beside that
abbrev pub waiting_at : List Entry → List Entry → List Mark → List Entry
waiting_at sealed waiting [] = waiting
waiting_at sealed waiting (Try e ∷ log) = waiting_at sealed (waiting ++ e ∷ []) log
waiting_at sealed waiting (Seal ∷ log) = waiting_at (sealed ++ waiting) [] log
waiting_at sealed waiting (Done ∷ log) = waiting_at [] waiting log
waiting_at sealed waiting (Void ∷ log) = waiting_at [] [] log

-- a log goes on from what its beginning left
pub goes_on : (s t : List Entry) (xs more : List Mark)
    → accepted_after s t (xs ++ more)
    ≡ accepted_after s t xs ++ accepted_after (sealed_at s t xs) (waiting_at s t xs) more
goes_on s t [] more = refl
goes_on s t (Try e ∷ xs) more = goes_on s (t ++ e ∷ []) xs more
goes_on s t (Seal ∷ xs) more = goes_on (s ++ t) [] xs more
goes_on s t (Done ∷ xs) more =
    ap (λ (ys : List Entry). s ++ ys) (goes_on [] t xs more)
    ∙ sym (append_assoc s (accepted_after [] t xs) (accepted_after (sealed_at [] t xs) (waiting_at [] t xs) more))
goes_on s t (Void ∷ xs) more = goes_on [] [] xs more

abbrev pub sealed_in : List Mark → List Entry
sealed_in xs = sealed_at [] [] xs

abbrev pub waiting_in : List Mark → List Entry
waiting_in xs = waiting_at [] [] xs

pub goes : (xs more : List Mark) → accepted (xs ++ more) ≡ accepted xs ++ accepted_after (sealed_in xs) (waiting_in xs) more
goes xs more = goes_on [] [] xs more

-- the three lists of a log
pub list_is : (xs : List Mark) → list_of xs ≡ accepted xs ++ sealed_in xs
list_is xs = goes xs (Done ∷ []) ∙ ap (λ (ys : List Entry). accepted xs ++ ys) (append-nil (sealed_in xs))

pub tried_is : (xs : List Mark) → tried_of xs ≡ (accepted xs ++ sealed_in xs) ++ waiting_in xs
tried_is xs =
    goes xs (Seal ∷ Done ∷ [])
    ∙ (ap (λ (ys : List Entry). accepted xs ++ ys) (append-nil (sealed_in xs ++ waiting_in xs))
    ∙ sym (append_assoc (accepted xs) (sealed_in xs) (waiting_in xs)))

-- one mark more
pub goes_two : (xs : List Mark) (m : Mark) (more : List Mark)
    → accepted ((xs ++ m ∷ []) ++ more) ≡ accepted xs ++ accepted_after (sealed_in xs) (waiting_in xs) (m ∷ more)
goes_two xs m more = ap accepted (append_assoc xs (m ∷ []) more) ∙ goes xs (m ∷ more)

pub accepted_try : (xs : List Mark) (e : Entry) → accepted (xs ++ Try e ∷ []) ≡ accepted xs
accepted_try xs e = goes xs (Try e ∷ []) ∙ append-nil (accepted xs)

pub accepted_seal : (xs : List Mark) → accepted (xs ++ Seal ∷ []) ≡ accepted xs
accepted_seal xs = goes xs (Seal ∷ []) ∙ append-nil (accepted xs)

pub accepted_void : (xs : List Mark) → accepted (xs ++ Void ∷ []) ≡ accepted xs
accepted_void xs = goes xs (Void ∷ []) ∙ append-nil (accepted xs)

pub list_try : (xs : List Mark) (e : Entry) → list_of (xs ++ Try e ∷ []) ≡ list_of xs
list_try xs e = goes_two xs (Try e) (Done ∷ []) ∙ sym (goes xs (Done ∷ []))

pub list_seal : (xs : List Mark) → list_of (xs ++ Seal ∷ []) ≡ tried_of xs
list_seal xs = ap accepted (append_assoc xs (Seal ∷ []) (Done ∷ []))

pub list_done : (xs : List Mark) → list_of (xs ++ Done ∷ []) ≡ list_of xs
list_done xs = goes_two xs Done (Done ∷ []) ∙ sym (goes xs (Done ∷ []))

pub list_void : (xs : List Mark) → list_of (xs ++ Void ∷ []) ≡ accepted xs
list_void xs = goes_two xs Void (Done ∷ []) ∙ append-nil (accepted xs)

pub tried_try : (xs : List Mark) (e : Entry) → tried_of (xs ++ Try e ∷ []) ≡ tried_of xs ++ e ∷ []
tried_try xs e =
    goes_two xs (Try e) (Seal ∷ Done ∷ [])
    ∙ (ap (λ (ys : List Entry). accepted xs ++ ys) (append-nil (sealed_in xs ++ (waiting_in xs ++ e ∷ [])))
    ∙ (sym (append_assoc (accepted xs) (sealed_in xs) (waiting_in xs ++ e ∷ []))
    ∙ (sym (append_assoc (accepted xs ++ sealed_in xs) (waiting_in xs) (e ∷ []))
    ∙ ap (λ (ys : List Entry). ys ++ e ∷ []) (sym (tried_is xs)))))

pub tried_seal : (xs : List Mark) → tried_of (xs ++ Seal ∷ []) ≡ tried_of xs
tried_seal xs =
    goes_two xs Seal (Seal ∷ Done ∷ [])
    ∙ (ap (λ (ys : List Entry). accepted xs ++ (ys ++ [])) (append-nil (sealed_in xs ++ waiting_in xs))
    ∙ sym (goes xs (Seal ∷ Done ∷ [])))

pub tried_done : (xs : List Mark) → tried_of (xs ++ Done ∷ []) ≡ tried_of xs
tried_done xs =
    goes_two xs Done (Seal ∷ Done ∷ [])
    ∙ (ap (λ (ys : List Entry). accepted xs ++ ys)
    (ap (λ (ys : List Entry). sealed_in xs ++ ys) (append-nil (waiting_in xs)) ∙ sym (append-nil (sealed_in xs ++ waiting_in xs)))
    ∙ sym (goes xs (Seal ∷ Done ∷ [])))

pub tried_void : (xs : List Mark) → tried_of (xs ++ Void ∷ []) ≡ accepted xs
tried_void xs = goes_two xs Void (Seal ∷ Done ∷ []) ∙ append-nil (accepted xs)

-- what is accepted begins what is listed, and that what was tried
pub accepted_begins : (xs : List Mark) → IsPrefix (accepted xs) (list_of xs)
accepted_begins xs = (sealed_in xs, sym (list_is xs))

pub list_begins : (xs : List Mark) → IsPrefix (list_of xs) (tried_of xs)
list_begins xs = (waiting_in xs, ap (λ (ys : List Entry). ys ++ waiting_in xs) (list_is xs) ∙ sym (tried_is xs))

pub accepted_begins_tried : (xs : List Mark) → IsPrefix (accepted xs) (tried_of xs)
accepted_begins_tried xs = prefix_trans (accepted xs) (list_of xs) (tried_of xs) (accepted_begins xs) (list_begins xs)

-- what a log accepts begins what each longer one does
pub accepted_list : (ys : List Mark) (more : List Mark) → IsPrefix (accepted ys) (accepted (ys ++ more))
accepted_list ys more = (accepted_after (sealed_in ys) (waiting_in ys) more, sym (goes ys more))

pub accepted_prefix : (xs ys : List Mark) → IsPrefix xs ys → IsPrefix (accepted xs) (accepted ys)
accepted_prefix xs ys p =
    subst (λ (z : List Mark). IsPrefix (accepted xs) (accepted z)) p.1 (accepted_list xs p.0)

one_more : (ys : List Mark) (m : Mark) → IsPrefix (accepted (ys ++ m ∷ [])) (list_of ys)
one_more ys Done = prefix_self (list_of ys)
one_more ys (Try e) =
    subst (λ (z : List Entry). IsPrefix z (list_of ys)) (sym (accepted_try ys e)) (accepted_begins ys)
one_more ys Seal =
    subst (λ (z : List Entry). IsPrefix z (list_of ys)) (sym (accepted_seal ys)) (accepted_begins ys)
one_more ys Void =
    subst (λ (z : List Entry). IsPrefix z (list_of ys)) (sym (accepted_void ys)) (accepted_begins ys)

rest_one : (ys rest : List Mark) → length rest ≤ 1 → IsPrefix (accepted (ys ++ rest)) (list_of ys)
rest_one ys [] le =
    subst (λ (z : List Mark). IsPrefix (accepted z) (list_of ys)) (sym (append-nil ys)) (accepted_begins ys)
rest_one ys (m ∷ []) le = one_more ys m
rest_one ys (m ∷ n ∷ rest) le = absurd (omega arith)

-- what a log accepts begins the list of each log that is one mark shorter at most
covers : (xs ys zs : List Mark) → IsPrefix xs zs → IsPrefix ys zs → length xs ≤ length ys + 1
    → (b : Bool) → nat_le (length xs) (length ys) ≡ b → IsPrefix (accepted xs) (list_of ys)
covers xs ys zs p q le true is =
    let r = prefix_shorter xs ys zs p q (grind (arith, nat_tests)) in
    subst (λ (z : List Mark). IsPrefix (accepted xs) (accepted z))
    (sym (append_assoc xs r.0 (Done ∷ [])) ∙ ap (λ z. z ++ Done ∷ []) r.1)
    (accepted_list xs (r.0 ++ Done ∷ []))
covers xs ys zs p q le false is =
    let less : length ys ≤ length xs = grind (arith, nat_tests) in
    let r = prefix_shorter ys xs zs q p less in
    let n : length ys + length r.0 ≡ length xs = sym (length-append ys r.0) ∙ ap length r.1 in
    subst (λ (z : List Mark). IsPrefix (accepted z) (list_of ys)) r.1
    (rest_one ys r.0 (omega arith))

pub covers_when : (xs ys zs : List Mark) → IsPrefix xs zs → IsPrefix ys zs → (b : Bool)
    → nat_le (length xs - length ys) 1 ≡ b
    → MatchBool b (IsPrefix (accepted xs) (list_of ys)) (Unit {0})
covers_when xs ys zs p q true is =
    covers xs ys zs p q (grind (arith, nat_tests)) (nat_le (length xs) (length ys)) refl
covers_when xs ys zs p q false is = tt

-- of two beginnings of one log the one that is not longer begins the other
pub begins_when : (xs ys zs : List Mark) → IsPrefix xs zs → IsPrefix ys zs → (b : Bool)
    → nat_le (length xs) (length ys) ≡ b → MatchBool b (IsPrefix xs ys) (Unit {0})
begins_when xs ys zs p q true is = prefix_shorter xs ys zs p q (grind (arith, nat_tests))
begins_when xs ys zs p q false is = tt

-- what a log accepts begins with what each of its beginnings accepts
pub known : (xs ys : List Mark) (seen : List Entry) → IsPrefix seen (accepted xs) → IsPrefix xs ys
    → IsPrefix seen (accepted ys)
known xs ys seen is p = prefix_trans seen (accepted xs) (accepted ys) is (accepted_prefix xs ys p)

-- no more is tried than there are marks
short : (s t : List Entry) (xs : List Mark)
    → length (accepted_after s t (xs ++ Seal ∷ Done ∷ [])) ≤ (length s + length t) + length xs
short s t [] = omega (arith, length-append s t, length-append (s ++ t) [])
short s t (Try e ∷ xs) = omega (arith, short s (t ++ e ∷ []) xs, length-append t (e ∷ []))
short s t (Seal ∷ xs) = omega (arith, short (s ++ t) [] xs, length-append s t)
short s t (Done ∷ xs) =
    omega (arith, short [] t xs, length-append s (accepted_after [] t (xs ++ Seal ∷ Done ∷ [])))
short s t (Void ∷ xs) = omega (arith, short [] [] xs)

pub tried_short : (xs : List Mark) → length (tried_of xs) ≤ length xs
tried_short xs = omega (arith, short [] [] xs)

pub accepted_short : (xs : List Mark) → length (accepted xs) ≤ length xs
accepted_short xs = omega (arith, tried_short xs, prefix_length (accepted xs) (tried_of xs) (accepted_begins_tried xs))

pub voids_short : (xs : List Mark) → voids_of xs ≤ length xs
voids_short [] = omega arith
voids_short (Try e ∷ xs) = omega (arith, voids_short xs)
voids_short (Seal ∷ xs) = omega (arith, voids_short xs)
voids_short (Done ∷ xs) = omega (arith, voids_short xs)
voids_short (Void ∷ xs) = omega (arith, voids_short xs)

pub voids_append : (xs ys : List Mark) → voids_of (xs ++ ys) ≡ voids_of xs + voids_of ys
voids_append [] ys = omega arith
voids_append (Try e ∷ xs) ys = voids_append xs ys
voids_append (Seal ∷ xs) ys = voids_append xs ys
voids_append (Done ∷ xs) ys = voids_append xs ys
voids_append (Void ∷ xs) ys = omega (arith, voids_append xs ys)

-- what waits stays, while nothing is given up
stays : (s t : List Entry) (more : List Mark) → voids_of more ≡ 0
    → IsPrefix (s ++ t) (accepted_after s t (more ++ Seal ∷ Done ∷ []))
stays s t [] none = ([], refl)
stays s t (Try e ∷ more) none =
    prefix_trans (s ++ t) (s ++ (t ++ e ∷ [])) (accepted_after s (t ++ e ∷ []) (more ++ Seal ∷ Done ∷ []))
    (e ∷ [], append_assoc s t (e ∷ [])) (stays s (t ++ e ∷ []) more none)
stays s t (Seal ∷ more) none =
    subst (λ (z : List Entry). IsPrefix z (accepted_after (s ++ t) [] (more ++ Seal ∷ Done ∷ []))) (append-nil (s ++ t))
    (stays (s ++ t) [] more none)
stays s t (Done ∷ more) none =
    let r = stays [] t more none in
    (r.0, append_assoc s t r.0 ∙ ap (λ (ys : List Entry). s ++ ys) r.1)
stays s t (Void ∷ more) none = absurd (omega arith)

-- what was tried begins what was tried later, while nothing is given up
pub tried_prefix : (xs ys : List Mark) → IsPrefix xs ys → voids_of xs ≡ voids_of ys
    → IsPrefix (tried_of xs) (tried_of ys)
tried_prefix xs ys p same =
    let all : voids_of xs + voids_of p.0 ≡ voids_of ys = sym (voids_append xs p.0) ∙ ap voids_of p.1 in
    let none : voids_of p.0 ≡ 0 = omega arith in
    let r = stays (sealed_in xs) (waiting_in xs) p.0 none in
    let later : tried_of ys ≡ accepted xs ++ accepted_after (sealed_in xs) (waiting_in xs) (p.0 ++ Seal ∷ Done ∷ []) =
    ap tried_of (sym p.1) ∙ (ap accepted (append_assoc xs p.0 (Seal ∷ Done ∷ [])) ∙ goes xs (p.0 ++ Seal ∷ Done ∷ [])) in (
      r.0,
      ap (λ (ys : List Entry). ys ++ r.0) (tried_is xs ∙ append_assoc (accepted xs) (sealed_in xs) (waiting_in xs))
          ∙ (append_assoc (accepted xs) (sealed_in xs ++ waiting_in xs) r.0
          ∙ (ap (λ (ys : List Entry). accepted xs ++ ys) r.1 ∙ sym later)),
    )

-- What was tried is accepted by a log that goes on, while nothing is given up, and accepts as much.
pub tried_accepted : (xs ys : List Mark) → IsPrefix xs ys → voids_of xs ≡ voids_of ys
    → length (tried_of xs) ≤ length (accepted ys) → IsPrefix (tried_of xs) (accepted ys)
tried_accepted xs ys p same le =
    prefix_shorter (tried_of xs) (accepted ys) (tried_of ys) (tried_prefix xs ys p same) (accepted_begins_tried ys) le

-- What is listed is what was tried before, while nothing is given up, if it is as much.
pub list_tried : (xs ys : List Mark) → IsPrefix xs ys → voids_of xs ≡ voids_of ys
    → length (list_of ys) ≡ length (tried_of xs) → list_of ys ≡ tried_of xs
list_tried xs ys p same len =
    prefix_whole (list_of ys) (tried_of xs)
    (prefix_shorter (list_of ys) (tried_of xs) (tried_of ys) (list_begins ys) (tried_prefix xs ys p same) (omega arith))
    (omega arith)

-- nothing waits, if as much was tried as is accepted
pub none_waits : (xs : List Mark) → length (tried_of xs) ≡ length (accepted xs) → accepted xs ≡ tried_of xs
none_waits xs len = prefix_whole (accepted xs) (tried_of xs) (accepted_begins_tried xs) (omega arith)

-- and nothing is sealed, if as much is listed
pub none_sealed : (xs : List Mark) → length (list_of xs) ≡ length (accepted xs) → accepted xs ≡ list_of xs
none_sealed xs len = prefix_whole (accepted xs) (list_of xs) (accepted_begins xs) (omega arith)

-- two logs that accept as much, one of which begins the other, accept the same
pub same_accepted : (xs ys : List Mark) → IsPrefix xs ys → length (accepted xs) ≡ length (accepted ys)
    → accepted xs ≡ accepted ys
same_accepted xs ys p len = prefix_whole (accepted xs) (accepted ys) (accepted_prefix xs ys p) (omega arith)

-- by what the numbers say
pub settled_when : (xs : List Mark) (b : Bool) → (length (tried_of xs) == length (accepted xs)) ≡ b
    → MatchBool b (accepted xs ≡ tried_of xs) (Unit {0})
settled_when xs true is = none_waits xs (grind (arith, nat_tests))
settled_when xs false is = tt

pub unsealed_when : (xs : List Mark) (b : Bool) → (length (list_of xs) == length (accepted xs)) ≡ b
    → MatchBool b (accepted xs ≡ list_of xs) (Unit {0})
unsealed_when xs true is = none_sealed xs (grind (arith, nat_tests))
unsealed_when xs false is = tt

pub accepts_when : (xs ys : List Mark) → IsPrefix xs ys → voids_of xs ≡ voids_of ys → (b : Bool)
    → nat_le (length (tried_of xs)) (length (accepted ys)) ≡ b
    → MatchBool b (IsPrefix (tried_of xs) (accepted ys)) (Unit {0})
accepts_when xs ys p same true is = tried_accepted xs ys p same (grind (arith, nat_tests))
accepts_when xs ys p same false is = tt

pub lists_when : (xs ys : List Mark) → IsPrefix xs ys → voids_of xs ≡ voids_of ys → (b : Bool)
    → (length (list_of ys) == length (tried_of xs)) ≡ b
    → MatchBool b (list_of ys ≡ tried_of xs) (Unit {0})
lists_when xs ys p same true is = list_tried xs ys p same (grind (arith, nat_tests))
lists_when xs ys p same false is = tt

pub accepts_as_when : (xs ys : List Mark) → IsPrefix xs ys → (b : Bool)
    → (length (accepted xs) == length (accepted ys)) ≡ b
    → MatchBool b (accepted xs ≡ accepted ys) (Unit {0})
accepts_as_when xs ys p true is = same_accepted xs ys p (grind (arith, nat_tests))
accepts_as_when xs ys p false is = tt

-- the numbers after one mark more

pub tally_nothing : (a l t v : ℕ) → a ≡ 0 → l ≡ 0 → t ≡ 0 → v ≡ 0
    → IsTally (record { accepted = a; listed = l; tried = t; voids = v }) []
tally_nothing a l t v ea el et ev = record { accepted = ea; listed = el; tried = et; voids = ev }

pub tally_try : (old new : Tally) (xs : List Mark) (e : Entry) → IsTally old xs
    → new.accepted ≡ old.accepted → new.listed ≡ old.listed → new.tried ≡ old.tried + 1 → new.voids ≡ old.voids
    → IsTally new (xs ++ Try e ∷ [])
tally_try old new xs e is ea el et ev = record {
  accepted = ea ∙ (is.accepted ∙ sym (ap length (accepted_try xs e)));
  listed = el ∙ (is.listed ∙ sym (ap length (list_try xs e)));
  tried = omega (arith, et, is.tried, ap length (tried_try xs e), length-append (tried_of xs) (e ∷ []));
  voids = omega (arith, ev, is.voids, voids_append xs (Try e ∷ []));
}

pub tally_seal : (old new : Tally) (xs : List Mark) → IsTally old xs
    → new.accepted ≡ old.accepted → new.listed ≡ old.tried → new.tried ≡ old.tried → new.voids ≡ old.voids
    → IsTally new (xs ++ Seal ∷ [])
tally_seal old new xs is ea el et ev = record {
  accepted = ea ∙ (is.accepted ∙ sym (ap length (accepted_seal xs)));
  listed = el ∙ (is.tried ∙ sym (ap length (list_seal xs)));
  tried = et ∙ (is.tried ∙ sym (ap length (tried_seal xs)));
  voids = omega (arith, ev, is.voids, voids_append xs (Seal ∷ []));
}

pub tally_done : (old new : Tally) (xs : List Mark) → IsTally old xs
    → new.accepted ≡ old.listed → new.listed ≡ old.listed → new.tried ≡ old.tried → new.voids ≡ old.voids
    → IsTally new (xs ++ Done ∷ [])
tally_done old new xs is ea el et ev = record {
  accepted = ea ∙ is.listed;
  listed = el ∙ (is.listed ∙ sym (ap length (list_done xs)));
  tried = et ∙ (is.tried ∙ sym (ap length (tried_done xs)));
  voids = omega (arith, ev, is.voids, voids_append xs (Done ∷ []));
}

pub tally_void : (old new : Tally) (xs : List Mark) → IsTally old xs
    → new.accepted ≡ old.accepted → new.listed ≡ old.accepted → new.tried ≡ old.accepted → new.voids ≡ old.voids + 1
    → IsTally new (xs ++ Void ∷ [])
tally_void old new xs is ea el et ev = record {
  accepted = ea ∙ (is.accepted ∙ sym (ap length (accepted_void xs)));
  listed = el ∙ (is.accepted ∙ sym (ap length (list_void xs)));
  tried = et ∙ (is.accepted ∙ sym (ap length (tried_void xs)));
  voids = omega (arith, ev, is.voids, voids_append xs (Void ∷ []));
}

-- worked rows: two events that are kept together; one more, tried while they were sealed
row : (a b c : Entry) → accepted (Try a ∷ Try b ∷ Seal ∷ Try c ∷ Done ∷ []) ≡ a ∷ b ∷ []
row a b c = refl

row_listed : (a b c : Entry) → list_of (Try a ∷ Try b ∷ Seal ∷ Try c ∷ []) ≡ a ∷ b ∷ []
row_listed a b c = refl

row_tried : (a b c : Entry) → tried_of (Try a ∷ Try b ∷ Seal ∷ Try c ∷ []) ≡ a ∷ b ∷ c ∷ []
row_tried a b c = refl

row_next : (a b c : Entry) → accepted (Try a ∷ Try b ∷ Seal ∷ Try c ∷ Done ∷ Seal ∷ Done ∷ []) ≡ a ∷ b ∷ c ∷ []
row_next a b c = refl

-- the events are given up, and what was tried meanwhile; then one is tried and kept
row_void : (a b c : Entry) → accepted (Try a ∷ Seal ∷ Try b ∷ Void ∷ Try c ∷ Seal ∷ Done ∷ []) ≡ c ∷ []
row_void a b c = refl
