-- What a scan may skip that knows how many atoms an alternative shares with the one before.
use Rattle.std.proofs.Common.{◌≡◌, ℕ, zero, suc, ◌+◌, ◌<◌, ◌≤◌, Bool, true, false, ◌&&◌, ◌||◌, List, [], ◌∷◌, ◌++◌, length, drop, get_or, refl, sym, ap, ◌∙◌, arith, inl, inr, drop-cons, true≢false, subst, Some, slice_get, length-drop, ◌-◌}
use Rattle.std.proofs.lemmas.Bool.{false_from_ne_true}
use Rattle.std.proofs.lemmas.List.{nil_from_length}
use Rattle.std.proofs.lemmas.Option.{none-some, same_Some}
use Rattle.std.proofs.lemmas.Bool.{cases_Bool, cond-true, cond-false, and_parts, and_from, or_left}
use Rattle.std.specs.List.{list_any}
use Rattle.text_choices.specs.Alternatives.{takes, fits}
use Rattle.text_choices.specs.Shared.{Share, AreShared, lead}
use Rattle.text_choices.specs.declared.atom.Atom.{Atom}
use Rattle.text_choices.specs.declared.alternative.Alternative.{Alternative}

lead_true : (a : Atom) (atoms : List Atom) (c : ℕ) (cs : List ℕ) → takes a c ≡ true
    → lead (a ∷ atoms) (c ∷ cs) ≡ suc (lead atoms cs)
lead_true a atoms c cs h = cond-true (takes a c) _ _ h

lead_false : (a : Atom) (atoms : List Atom) (c : ℕ) (cs : List ℕ) → takes a c ≡ false
    → lead (a ∷ atoms) (c ∷ cs) ≡ 0
lead_false a atoms c cs h = cond-false (takes a c) _ _ h

-- where the one before failed within what is shared, this one fails at the same place
pub skips : (s : ℕ) (before atoms : List Atom) (cs : List ℕ) → Share s before atoms
    → lead before cs < s → (fits atoms cs ≡ false) × (lead atoms cs ≡ lead before cs)
skips zero before atoms cs h lt = absurd (omega (arith, lt))
skips (suc s) [] atoms cs h lt = absurd h
skips (suc s) (b ∷ before) [] cs h lt = absurd h
skips (suc s) (b ∷ before) (a ∷ atoms) [] h lt = (refl, refl)
skips (suc s) (b ∷ before) (a ∷ atoms) (c ∷ cs) h lt = elim (cases_Bool (takes b c)) [
  | inl is_so ↦
      let here : takes a c ≡ true = ap (λ x. takes x c) (sym h.0) ∙ is_so in
      let rest = skips s before atoms cs h.1
      (omega (arith, lt, lead_true b before c cs is_so)) in (
        ap (λ x. x && fits atoms cs) here ∙ rest.0,
        lead_true a atoms c cs here ∙ ap suc rest.1 ∙ sym (lead_true b before c cs is_so),
      )
  | inr not_so ↦
      let here : takes a c ≡ false = ap (λ x. takes x c) (sym h.0) ∙ not_so in (
        ap (λ x. x && fits atoms cs) here,
        lead_false a atoms c cs here ∙ sym (lead_false b before c cs not_so),
      )
]

-- where the one before went as far, this one does too
pub goes_as_far : (s : ℕ) (before atoms : List Atom) (cs : List ℕ) → Share s before atoms
    → s ≤ lead before cs → s ≤ lead atoms cs
goes_as_far zero before atoms cs h le = omega arith
goes_as_far (suc s) [] atoms cs h le = absurd h
goes_as_far (suc s) (b ∷ before) [] cs h le = absurd h
goes_as_far (suc s) (b ∷ before) (a ∷ atoms) [] h le = absurd (omega (arith, le))
goes_as_far (suc s) (b ∷ before) (a ∷ atoms) (c ∷ cs) h le = elim (cases_Bool (takes b c)) [
  | inl is_so ↦
      let here : takes a c ≡ true = ap (λ x. takes x c) (sym h.0) ∙ is_so in
      let rest = goes_as_far s before atoms cs h.1
      (omega (arith, le, lead_true b before c cs is_so)) in
      omega (arith, rest, lead_true a atoms c cs here)
  | inr not_so ↦ absurd (omega (arith, le, lead_false b before c cs not_so))
]

pub lead_short : (atoms : List Atom) (cs : List ℕ)
    → (lead atoms cs ≤ length atoms) × (lead atoms cs ≤ length cs)
lead_short [] cs = (omega arith, omega arith)
lead_short (a ∷ atoms) [] = (omega arith, omega arith)
lead_short (a ∷ atoms) (c ∷ cs) = elim (cases_Bool (takes a c)) [
  | inl is_so ↦
      let rest = lead_short atoms cs in
      let e = lead_true a atoms c cs is_so in (omega (arith, e, rest.0), omega (arith, e, rest.1))
  | inr not_so ↦
      let e = lead_false a atoms c cs not_so in (omega (arith, e), omega (arith, e))
]

-- one more character is stood for
pub lead_goes : (i : ℕ) (atoms : List Atom) (cs : List ℕ) (a : Atom) (c : ℕ) → i ≤ lead atoms cs
    → i < length atoms → i < length cs → takes (get_or atoms i a) (get_or cs i c) ≡ true
    → i + 1 ≤ lead atoms cs
lead_goes i [] cs a c le short long h = absurd (omega (arith, short))
lead_goes i (x ∷ atoms) [] a c le short long h = absurd (omega (arith, long))
lead_goes zero (x ∷ atoms) (y ∷ cs) a c le short long h =
    omega (arith, lead_true x atoms y cs h)
lead_goes (suc i) (x ∷ atoms) (y ∷ cs) a c le short long h = elim (cases_Bool (takes x y)) [
  | inl is_so ↦
      let e = lead_true x atoms y cs is_so in
      let rest = lead_goes i atoms cs a c (omega (arith, le, e)) (omega (arith, short))
      (omega (arith, long)) h in omega (arith, e, rest)
  | inr not_so ↦ absurd (omega (arith, le, lead_false x atoms y cs not_so))
]

-- and where none is, this is how far it goes
pub lead_stops : (i : ℕ) (atoms : List Atom) (cs : List ℕ) (a : Atom) (c : ℕ) → i ≤ lead atoms cs
    → i < length atoms → i < length cs → takes (get_or atoms i a) (get_or cs i c) ≡ false
    → i ≡ lead atoms cs
lead_stops i [] cs a c le short long h = absurd (omega (arith, short))
lead_stops i (x ∷ atoms) [] a c le short long h = absurd (omega (arith, long))
lead_stops zero (x ∷ atoms) (y ∷ cs) a c le short long h = sym (lead_false x atoms y cs h)
lead_stops (suc i) (x ∷ atoms) (y ∷ cs) a c le short long h = elim (cases_Bool (takes x y)) [
  | inl is_so ↦
      let e = lead_true x atoms y cs is_so in
      ap suc (lead_stops i atoms cs a c (omega (arith, le, e)) (omega (arith, short))
      (omega (arith, long)) h) ∙ sym e
  | inr not_so ↦ absurd (omega (arith, le, lead_false x atoms y cs not_so))
]

-- it goes to the end of both just if the atoms stand for the whole
pub lead_fits : (atoms : List Atom) (cs : List ℕ) → lead atoms cs ≡ length atoms
    → lead atoms cs ≡ length cs → fits atoms cs ≡ true
lead_fits [] [] all whole = refl
lead_fits [] (c ∷ cs) all whole = absurd (omega (arith, whole))
lead_fits (a ∷ atoms) [] all whole = absurd (omega (arith, all))
lead_fits (a ∷ atoms) (c ∷ cs) all whole = elim (cases_Bool (takes a c)) [
  | inl is_so ↦
      let e = lead_true a atoms c cs is_so in
      and_from (takes a c) (fits atoms cs) is_so
      (lead_fits atoms cs (omega (arith, all, e)) (omega (arith, whole, e)))
  | inr not_so ↦ absurd (omega (arith, all, lead_false a atoms c cs not_so))
]

pub fits_lead : (atoms : List Atom) (cs : List ℕ) → fits atoms cs ≡ true
    → (lead atoms cs ≡ length atoms) × (lead atoms cs ≡ length cs)
fits_lead [] [] f = (refl, refl)
fits_lead [] (c ∷ cs) f = absurd (true≢false (sym f))
fits_lead (a ∷ atoms) [] f = absurd (true≢false (sym f))
fits_lead (a ∷ atoms) (c ∷ cs) f =
    let both = and_parts (takes a c) (fits atoms cs) f in
    let e = lead_true a atoms c cs both.0 in
    let rest = fits_lead atoms cs both.1 in
    (e ∙ ap suc rest.0, e ∙ ap suc rest.1)

pub share_more : (i : ℕ) (xs ys : List Atom) (d e : Atom) → Share i xs ys → i < length xs
    → i < length ys → get_or xs i d ≡ get_or ys i e → Share (i + 1) xs ys
share_more i [] ys d e h long other same = absurd (omega (arith, long))
share_more i (x ∷ xs) [] d e h long other same = absurd (omega (arith, other))
share_more zero (x ∷ xs) (y ∷ ys) d e h long other same = (same, tt)
share_more (suc i) (x ∷ xs) (y ∷ ys) d e h long other same =
    let next : suc i + 1 ≡ suc (i + 1) = omega arith in
    rw next (h.0, share_more i xs ys d e h.1 (omega (arith, long)) (omega (arith, other)) same)

-- the atoms of the last, or others where there is none
abbrev pub last_atoms : List Atom → List Alternative → List Atom
last_atoms before [] = before
last_atoms before (one ∷ others) = last_atoms one.atoms.items others

pub shared_more : (before : List Atom) (alternatives : List Alternative) (one : Alternative)
    → AreShared before alternatives
    → Share one.shared (last_atoms before alternatives) one.atoms.items
    → AreShared before (alternatives ++ one ∷ [])
shared_more before [] one are h = (h, tt)
shared_more before (first ∷ others) one are h =
    (are.0, shared_more first.atoms.items others one are.1 h)

-- what the scan keeps, with the atoms of the one before
pub record Scan (alternatives : List Alternative) (value : List ℕ) (i n : ℕ) : Type 0 where
  pub before : List Atom
  pub far : n ≡ lead before value
  pub shared : AreShared before (drop i alternatives)
  pub none : list_any (λ one. fits one.atoms.items value) (drop i alternatives)
      ≡ list_any (λ one. fits one.atoms.items value) alternatives

abbrev fits_one : List ℕ → Alternative → Bool
fits_one value one = fits one.atoms.items value

at_one : (alternatives : List Alternative) (i : ℕ) (one d : Alternative)
    → i < length alternatives → one ≡ get_or alternatives i d
    → drop i alternatives ≡ one ∷ drop (i + 1) alternatives
at_one alternatives i one d lt is =
    let next : suc i ≡ i + 1 = omega arith in
    drop-cons alternatives i d lt ∙ ap (λ k. get_or alternatives i d ∷ drop k alternatives) next
    ∙ ap (λ x. x ∷ drop (i + 1) alternatives) (sym is)

-- what one shares with the one before
pub scan_shares : (alternatives : List Alternative) (value : List ℕ) (i n : ℕ) (one d : Alternative)
    → i < length alternatives → one ≡ get_or alternatives i d
    → (scan : Scan alternatives value i n) → Share one.shared scan.before one.atoms.items
scan_shares alternatives value i n one d lt is scan =
    (subst (AreShared scan.before) (at_one alternatives i one d lt is) scan.shared).0

-- one that does not fit is passed
pub scan_goes : (alternatives : List Alternative) (value : List ℕ) (i n m : ℕ) (one d : Alternative)
    → i < length alternatives → one ≡ get_or alternatives i d → Scan alternatives value i n
    → fits one.atoms.items value ≡ false → m ≡ lead one.atoms.items value
    → Scan alternatives value (i + 1) m
scan_goes alternatives value i n m one d lt is scan misfit far =
    let rest = at_one alternatives i one d lt is in
    let others = list_any (fits_one value) (drop (i + 1) alternatives) in record {
      before = one.atoms.items;
      far = far;
      shared = (subst (AreShared scan.before) rest scan.shared).1;
      none = sym (ap (λ b. b || others) misfit) ∙ sym (ap (list_any (fits_one value)) rest)
          ∙ scan.none;
    }

-- one that fails where the one before did is passed unread
pub scan_skips : (alternatives : List Alternative) (value : List ℕ) (i n : ℕ) (one d : Alternative)
    → i < length alternatives → one ≡ get_or alternatives i d → Scan alternatives value i n
    → n < one.shared → Scan alternatives value (i + 1) n
scan_skips alternatives value i n one d lt is scan before =
    let p = skips one.shared scan.before one.atoms.items value
    (scan_shares alternatives value i n one d lt is scan) (omega (arith, before, scan.far)) in
    scan_goes alternatives value i n n one d lt is scan p.0 (scan.far ∙ sym p.1)

-- one is read from behind what is shared
pub scan_tries : (alternatives : List Alternative) (value : List ℕ) (i n : ℕ) (one d : Alternative)
    → i < length alternatives → one ≡ get_or alternatives i d → Scan alternatives value i n
    → one.shared ≤ n → one.shared ≤ lead one.atoms.items value
scan_tries alternatives value i n one d lt is scan le =
    goes_as_far one.shared scan.before one.atoms.items value
    (scan_shares alternatives value i n one d lt is scan) (omega (arith, le, scan.far))

pub scan_found : (alternatives : List Alternative) (value : List ℕ) (i n m : ℕ) (one d : Alternative)
    → i < length alternatives → one ≡ get_or alternatives i d → Scan alternatives value i n
    → m ≡ lead one.atoms.items value → m ≡ length one.atoms.items → m ≡ length value
    → true ≡ list_any (fits_one value) alternatives
scan_found alternatives value i n m one d lt is scan far all whole =
    let yes = lead_fits one.atoms.items value (sym far ∙ all) (sym far ∙ whole) in
    sym (sym scan.none ∙ ap (list_any (fits_one value)) (at_one alternatives i one d lt is)
    ∙ or_left (fits_one value one) _ yes)

-- one that was read, and not to the end of both
pub scan_misses : (alternatives : List Alternative) (value : List ℕ) (i n m : ℕ) (one d : Alternative)
    → i < length alternatives → one ≡ get_or alternatives i d → Scan alternatives value i n
    → m ≡ lead one.atoms.items value
    → (m ≡ length one.atoms.items → m ≡ length value → ⊥) → Scan alternatives value (i + 1) m
scan_misses alternatives value i n m one d lt is scan far never =
    let misfit = false_from_ne_true (fits one.atoms.items value) (λ yes. let ends = fits_lead one.atoms.items value yes in
    never (far ∙ ends.0) (far ∙ ends.1)) in
    scan_goes alternatives value i n m one d lt is scan misfit far

pub scan_ends : (alternatives : List Alternative) (value : List ℕ) (i n : ℕ)
    → length alternatives ≤ i → Scan alternatives value i n
    → false ≡ list_any (fits_one value) alternatives
scan_ends alternatives value i n end scan =
    let none : drop i alternatives ≡ [] =
    nil_from_length _ (omega (arith, end, length-drop i alternatives)) in
    sym (ap (list_any (fits_one value)) none) ∙ scan.none

pub scan_starts : (alternatives : List Alternative) (value : List ℕ) → AreShared [] alternatives
    → Scan alternatives value 0 0
scan_starts alternatives value are =
    record { before = []; far = refl; shared = are; none = refl }

-- the last of some
last_is : (before : List Atom) (alternatives : List Alternative) (one : Alternative)
    → Some one ≡ slice_get alternatives (length alternatives - 1)
    → last_atoms before alternatives ≡ one.atoms.items
last_is before [] one e = absurd (none-some one (sym e))
last_is before (first ∷ []) one e = ap (λ (x : Alternative). x.atoms.items) (sym (same_Some one first e))
last_is before (first ∷ second ∷ others) one e =
    let less : length (first ∷ second ∷ others) - 1 ≡ suc (length (second ∷ others) - 1) = omega arith in
    last_is first.atoms.items (second ∷ others) one (rw less at e)

pub add_last : (alternatives : List Alternative) (one last : Alternative)
    → AreShared [] alternatives → Some last ≡ slice_get alternatives (length alternatives - 1)
    → Share one.shared last.atoms.items one.atoms.items → AreShared [] (alternatives ++ one ∷ [])
add_last alternatives one last are is h =
    shared_more [] alternatives one are
    (subst (λ xs. Share one.shared xs one.atoms.items) (sym (last_is [] alternatives last is)) h)

pub add_first : (alternatives : List Alternative) (one : Alternative) → one.shared ≡ 0
    → AreShared [] alternatives → AreShared [] (alternatives ++ one ∷ [])
add_first alternatives one e are =
    shared_more [] alternatives one are
    (subst (λ n. Share n (last_atoms [] alternatives) one.atoms.items) (sym e) tt)
