-- What is known once some runs have been looked at.
use Rattle.std.proofs.Common.{◌≡◌, ℕ, ◌+◌, ◌<◌, ◌≤◌, inl, inr, List, length, get_or, take, zero, suc, [], ◌∷◌, Option, Some, None, sym, ap, subst, ◌∙◌, arith}
use Rattle.std.proofs.lemmas.Bool.{cases_lt}
use Rattle.labels.specs.Parts.{Part}
use Rattle.kept_walk.specs.Kept.{Event, event_of, batch, deletion, cut}
use Rattle.kept_walk.specs.declared.journal_state.Change.{Change}
use Rattle.kept_world.specs.States.{State, numbered, stepped, state_from, state_after}
use Rattle.kept_world.specs.Changes.{LeadsTo, IsRefusedAt, events_of}
use Rattle.kept_world.proofs.Growing.{next_number, from-append}
use Rattle.state_search.specs.declared.search.Progress.{Progress}
use Rattle.state_search.specs.Searching.{IsRightBy, IsRightState, IsNoState, IsOfRun, IsLook, IsBefore, newer}
use Rattle.state_search.proofs.Runs.{IsRun, run_state, run_goes_on, run_anew, leads_last, next_events}

-- the newest right state of the runs before this place, or that there is none
abbrev pub IsKnown : (List Part → Type 0) → (Part → Type 0) → ℕ → State → List Event → ℕ → Option ℕ → Type 0
IsKnown right sound since start events from None =
    (n : ℕ) (s : State) → since ≤ n → n < from → LeadsTo start events n s → IsRightBy right sound s → ⊥
IsKnown right sound since start events from (Some at) = IsRightState right sound since start events at

same_state : (start : State) (events : List Event) (n : ℕ) (s t : State) → LeadsTo start events n s → LeadsTo start events n t → s ≡ t
same_state start events n s t h k = let e : Some s ≡ Some t = sym h ∙ k in cc

-- what is found of a run is right of a state, and if nothing is found nothing is right
pub of_run_some : (right : List Part → Type 0) (sound : Part → Type 0) (since : ℕ) (start : State) (events : List Event) (from : ℕ) (last : State) (at : ℕ) → IsRun start events from last → IsOfRun right sound since from last (Some at) → IsRightState right sound since start events at
of_run_some right sound since start events from last at run h =
    let w = run_state start events from last at run h.0 h.2 in
    let l : at ≤ length events = let a = run.within in let b = h.2 in omega (arith, a, b) in
    (h.1, l, (w.state, w.leads, (subst right (sym w.blocks) h.3, subst (λ rows. sound (numbered 1 rows)) w.head h.4)))

pub of_run_none : (right : List Part → Type 0) (sound : Part → Type 0) (since : ℕ) (start : State) (events : List Event) (from : ℕ) (last : State) → IsRun start events from last → IsOfRun right sound since from last None → (n : ℕ) (s : State) → from ≤ n → since ≤ n → n ≤ last.number → LeadsTo start events n s → IsRightBy right sound s → ⊥
of_run_none right sound since start events from last run h n s a b l leads is =
    let w = run_state start events from last n run a l in
    let same : s ≡ w.state = same_state start events n s w.state leads w.leads in
    let there : IsRightBy right sound w.state = subst (IsRightBy right sound) same is in
    h n a b l (subst right w.blocks there.0) (subst (λ rows. sound (numbered 1 rows)) (sym w.head) there.1)

known_by : (right : List Part → Type 0) (sound : Part → Type 0) (since : ℕ) (start : State) (events : List Event) (from : ℕ) (last : State) (mine before : Option ℕ) → IsRun start events from last → IsOfRun right sound since from last mine → IsKnown right sound since start events from before → IsKnown right sound since start events (last.number + 1) (newer mine before)
known_by right sound since start events from last (Some at) before run h known = of_run_some right sound since start events from last at run h
known_by right sound since start events from last None (Some at) run h known = known
known_by right sound since start events from last None None run h known = λ n s a b leads is.
    elim (cases_lt n from) [
      | inl l ↦ known n s a l leads is
      | inr l ↦ of_run_none right sound since start events from last run h n s l a (omega arith) leads is
    ]

-- a run has been looked at
pub looked : (right : List Part → Type 0) (sound : Part → Type 0) (since : ℕ) (start : State) (events : List Event) (last : State) (old : Progress) (found : Option ℕ) → IsRun start events old.from last → IsKnown right sound since start events old.from old.found → IsLook right sound since last old found → IsKnown right sound since start events (last.number + 1) found
looked right sound since start events last old found run known look =
    subst (IsKnown right sound since start events (last.number + 1)) (sym look.2) (known_by right sound since start events old.from last look.0 old.found run look.1 known)

-- what is known behind the next event
pub record IsNext (right : List Part → Type 0) (sound : Part → Type 0) (since : ℕ) (start : State) (events : List Event) (next : State) (new : Progress) : Type 0 where
  pub run : IsRun start events new.from next
  pub known : IsKnown right sound since start events new.from new.found

ended : (right : List Part → Type 0) (sound : Part → Type 0) (since : ℕ) (start : State) (events : List Event) (last next : State) (e : Event) (old new : Progress) → IsRun start events old.from last → IsKnown right sound since start events old.from old.found → last.number < length events → e ≡ get_or events last.number e → stepped last e ≡ Some next → new.from ≡ last.number + 1 → IsLook right sound since last old new.found → IsNext right sound since start events next new
ended right sound since start events last next e old new run known l is step from look =
    let n : next.number ≡ last.number + 1 = next_number last next e step in
    record {
      run = subst (λ k. IsRun start events k next) (n ∙ sym from) (run_anew start events old.from last next e run l is step);
      known = subst (λ k. IsKnown right sound since start events k new.found) (sym from) (looked right sound since start events last old new.found run known look);
    }

pub stepped_on : (right : List Part → Type 0) (sound : Part → Type 0) (since : ℕ) (start : State) (events : List Event) (last next : State) (e : Event) (old new : Progress) → IsRun start events old.from last → IsKnown right sound since start events old.from old.found → last.number < length events → e ≡ get_or events last.number e → stepped last e ≡ Some next → IsBefore right sound since last e old new → IsNext right sound since start events next new
stepped_on right sound since start events last next (batch runs) old new run known l is step same =
    subst (IsNext right sound since start events next) (sym same) (record { run = run_goes_on start events old.from last next runs run l is step; known = known })
stepped_on right sound since start events last next (deletion ms a b) old new run known l is step h =
    ended right sound since start events last next (deletion ms a b) old new run known l is step h.0 h.1
stepped_on right sound since start events last next (cut t) old new run known l is step h =
    ended right sound since start events last next (cut t) old new run known l is step h.0 h.1

-- behind the last event nothing is left to look at
pub at_end : (right : List Part → Type 0) (sound : Part → Type 0) (since : ℕ) (start : State) (events : List Event) (n : ℕ) → n ≡ length events → IsKnown right sound since start events (n + 1) None → IsNoState right sound since start events
at_end right sound since start events n is known = λ m s a b leads h. known m s a (omega (arith, is)) leads h

pub event_at : (changes : List Change) (i : ℕ) (x : Change) → i < length changes → x ≡ get_or changes i x → event_of x ≡ get_or (events_of changes) i (event_of x)
event_at [] i x l is = absurd (omega arith)
event_at (y ∷ ys) zero x l is = ap event_of is
event_at (y ∷ ys) (suc i) x l is = event_at ys i x (omega arith) is

-- the event behind a run is refused
pub refused_behind : (start : State) (events : List Event) (from : ℕ) (last : State) (i : ℕ) (e : Event) → IsRun start events from last → last.number ≡ i → i < length events → e ≡ get_or events i e → stepped last e ≡ None → IsRefusedAt start events i
refused_behind start events from last i e run number l is step =
    let leads : LeadsTo start events i last = subst (λ n. LeadsTo start events n last) number (leads_last start events from last run) in
    record {
      within = l;
      before = (last, leads);
      refused =
          ap (λ es. state_after es start) (next_events events i e l is)
          ∙ from-append (Some start) (take i events) (e ∷ [])
          ∙ ap (λ r. state_from r (e ∷ [])) leads ∙ step;
    }
