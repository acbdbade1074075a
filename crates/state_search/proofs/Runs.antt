-- Runs of batches, and the states through which they lead.
use Rattle.std.proofs.Common.{◌≡◌, ℕ, zero, suc, ◌+◌, ◌-◌, ◌<◌, ◌≤◌, List, [], ◌∷◌, ◌++◌, Some, length, take, get_or, refl, sym, ap, subst, ◌∙◌, arith, add-one, append_assoc, length-append}
use Rattle.std.proofs.lemmas.List.{map-append}
use Rattle.labels.specs.Rows.{Row}
use Rattle.kept_walk.specs.Kept.{Event, batch}
use Rattle.kept_world.specs.States.{State, stepped, state_from, state_after, shown}
use Rattle.kept_world.specs.Births.{AreBornBy, batches, came_by, IsPartOf}
use Rattle.kept_world.specs.Changes.{LeadsTo}
use Rattle.kept_world.proofs.Bearing.{born_next}
use Rattle.kept_world.proofs.Growing.{head_at, parts_grow, from-append, next_number, take-map}

-- events led to a state, and batches behind the first `from` of them are all that followed
pub record IsRun (start : State) (events : List Event) (from : ℕ) (last : State) : Type 0 where
  pub first : State
  pub bs : List (List Row)
  pub leads : LeadsTo start events from first
  pub number : first.number ≡ from
  pub born : AreBornBy first.number first.head
  pub order : take last.number events ≡ take from events ++ batches bs
  pub many : last.number ≡ from + length bs
  pub within : last.number ≤ length events
  pub last_is : state_after (batches bs) first ≡ Some last
  pub last_born : AreBornBy last.number last.head

append-nil : {A : Type 0} (xs : List A) → xs ++ [] ≡ xs
append-nil [] = refl
append-nil (x ∷ xs) = ap (λ ys. x ∷ ys) (append-nil xs)

-- a run that begins here
pub run_begins : (start : State) (events : List Event) (now : State) → LeadsTo start events now.number now → now.number ≤ length events → AreBornBy now.number now.head → IsRun start events now.number now
run_begins start events now leads within born = record {
  first = now;
  bs = [];
  leads = leads;
  number = refl;
  born = born;
  order = sym (append-nil (take now.number events));
  many = omega arith;
  within = within;
  last_is = refl;
  last_born = born;
}

length-batches : (bs : List (List Row)) → length (batches bs) ≡ length bs
length-batches [] = refl
length-batches (b ∷ bs) = ap suc (length-batches bs)

next_suc : (events : List Event) (n : ℕ) (e : Event) → n < length events → e ≡ get_or events n e → take (suc n) events ≡ take n events ++ e ∷ []
next_suc [] n e l is = absurd (omega arith)
next_suc (x ∷ xs) zero e l is = ap (λ (y : Event). y ∷ []) (sym is)
next_suc (x ∷ xs) (suc n) e l is = ap (λ ys. x ∷ ys) (next_suc xs n e (omega arith) is)

pub next_events : (events : List Event) (n : ℕ) (e : Event) → n < length events → e ≡ get_or events n e → take (n + 1) events ≡ take n events ++ e ∷ []
next_events events n e l is = ap (λ m. take m events) (add-one n) ∙ next_suc events n e l is

-- one batch more
pub run_goes_on : (start : State) (events : List Event) (from : ℕ) (last next : State) (runs : List Row) → IsRun start events from last → last.number < length events → batch runs ≡ get_or events last.number (batch runs) → stepped last (batch runs) ≡ Some next → IsRun start events from next
run_goes_on start events from last next runs h l is step =
    let n : next.number ≡ last.number + 1 = next_number last next (batch runs) step in
    let more : batches (h.bs ++ runs ∷ []) ≡ batches h.bs ++ batch runs ∷ [] = map-append batch h.bs (runs ∷ []) in
    let len = length-append h.bs (runs ∷ []) in
    record {
      first = h.first;
      bs = h.bs ++ runs ∷ [];
      leads = h.leads;
      number = h.number;
      born = h.born;
      order =
          ap (λ m. take m events) n ∙ next_events events last.number (batch runs) l is
          ∙ ap (λ es. es ++ batch runs ∷ []) h.order ∙ append_assoc (take from events) (batches h.bs) (batch runs ∷ [])
          ∙ ap (λ es. take from events ++ es) (sym more);
      many = let m = h.many in omega (arith, n, m, len);
      within = omega (arith, n, l);
      last_is =
          ap (λ es. state_after es h.first) more
          ∙ from-append (Some h.first) (batches h.bs) (batch runs ∷ [])
          ∙ ap (λ r. state_from r (batch runs ∷ [])) h.last_is ∙ step;
      last_born = born_next last next (batch runs) h.last_born step;
    }

-- the last state of a run
pub leads_last : (start : State) (events : List Event) (from : ℕ) (last : State) → IsRun start events from last → LeadsTo start events last.number last
leads_last start events from last h =
    ap (λ es. state_after es start) h.order
    ∙ from-append (Some start) (take from events) (batches h.bs)
    ∙ ap (λ r. state_from r (batches h.bs)) h.leads ∙ h.last_is

-- a run that begins behind the next event
pub run_anew : (start : State) (events : List Event) (from : ℕ) (last next : State) (e : Event) → IsRun start events from last → last.number < length events → e ≡ get_or events last.number e → stepped last e ≡ Some next → IsRun start events next.number next
run_anew start events from last next e h l is step =
    let n : next.number ≡ last.number + 1 = next_number last next e step in
    run_begins start events next
    (ap (λ m. state_after (take m events) start) n
    ∙ ap (λ es. state_after es start) (next_events events last.number e l is)
    ∙ from-append (Some start) (take last.number events) (e ∷ [])
    ∙ ap (λ r. state_from r (e ∷ [])) (leads_last start events from last h) ∙ step)
    (omega (arith, n, l)) (born_next last next e h.last_born step)

take-both : {A : Type 0} (xs : List A) (p n : ℕ) → p ≤ n → take p (take n xs) ≡ take p xs
take-both xs zero n l = refl
take-both [] (suc p) zero l = refl
take-both [] (suc p) (suc n) l = refl
take-both (x ∷ xs) (suc p) zero l = absurd (omega arith)
take-both (x ∷ xs) (suc p) (suc n) l = ap (λ ys. x ∷ ys) (take-both xs p n (omega arith))

take-over : {A : Type 0} (xs ys : List A) (p : ℕ) → length xs ≤ p → take p (xs ++ ys) ≡ xs ++ take (p - length xs) ys
take-over [] ys p l = ap (λ n. take n ys) (let e : p ≡ p - zero = omega arith in e)
take-over (x ∷ xs) ys zero l = absurd (omega arith)
take-over (x ∷ xs) ys (suc p) l = ap (λ zs. x ∷ zs) (take-over xs ys p (omega arith) ∙ ap (λ n. xs ++ take n ys) (let e : p - length xs ≡ suc p - suc (length xs) = omega arith in e))

length-take : {A : Type 0} (xs : List A) (n : ℕ) → n ≤ length xs → length (take n xs) ≡ n
length-take xs zero l = refl
length-take [] (suc n) l = absurd (omega arith)
length-take (x ∷ xs) (suc n) l = ap suc (length-take xs n (omega arith))

-- a state of a run, whose head is what came by then, and whose blocks are the last state's
pub record IsStateAt (start : State) (events : List Event) (p : ℕ) (last : State) : Type 0 where
  pub state : State
  pub leads : LeadsTo start events p state
  pub head : came_by p last.head ≡ shown state.head
  pub blocks : state.blocks ≡ last.blocks

pub run_state : (start : State) (events : List Event) (from : ℕ) (last : State) (p : ℕ) → IsRun start events from last → from ≤ p → p ≤ last.number → IsStateAt start events p last
run_state start events from last p h a b =
    let m = h.many in
    let q = p - from in
    let few : q ≤ length h.bs = omega (arith, m) in
    let at = head_at h.bs h.first last q h.born h.last_is few in
    let f : length (take from events) ≡ from = length-take events from (let w = h.within in omega (arith, w, m)) in
    let number : h.first.number + q ≡ p = let n = h.number in omega (arith, n) in
    let events_are : take p events ≡ take from events ++ batches (take q h.bs) =
    sym (take-both events p last.number b) ∙ ap (take p) h.order
    ∙ take-over (take from events) (batches h.bs) p (omega (arith, f))
    ∙ ap (λ n. take from events ++ take (p - n) (batches h.bs)) f
    ∙ ap (λ es. take from events ++ es) (take-map batch h.bs q) in
    record {
      state = at.0;
      leads =
          ap (λ es. state_after es start) events_are
          ∙ from-append (Some start) (take from events) (batches (take q h.bs))
          ∙ ap (λ r. state_from r (batches (take q h.bs))) h.leads ∙ at.1;
      head = ap (λ n. came_by n last.head) (sym number) ∙ at.2;
      blocks = at.3;
    }

-- in a run a later head has what an earlier one has
pub run_grows : (start : State) (events : List Event) (from : ℕ) (last : State) (p q : ℕ) → IsRun start events from last → from ≤ p → p ≤ q → q ≤ last.number → IsPartOf (came_by p last.head) (came_by q last.head)
run_grows start events from last p q h a b l =
    let m = h.many in
    let n = h.number in
    let i : h.first.number + (p - from) ≡ p = omega (arith, n) in
    let j : h.first.number + (q - from) ≡ q = omega (arith, n) in
    let w = parts_grow h.first last h.bs (p - from) (q - from) h.born h.last_is (omega (arith, m)) (omega (arith, m)) in
    subst (λ k. IsPartOf (came_by k last.head) (came_by q last.head)) i (subst (λ k. IsPartOf (came_by (h.first.number + (p - from)) last.head) (came_by k last.head)) j w)
