-- Each move keeps what every run keeps.
use Rattle.std.proofs.Common.{◌≡◌, inl, inr, List, [], ◌∷◌, ◌++◌, Result, Ok, Err, refl, sym, ap}
use Rattle.std.proofs.Common.{subst, ◌∙◌, append_assoc}
use Rattle.std.proofs.lemmas.List.{append-nil}
use Rattle.head.specs.Refusals.{Refusal}
use Rattle.head.specs.Worlds.{Event, World, stepped, replayed, replayed_from}
use Rattle.store_laws.specs.Machine.{Accept, Answers, AreMerged, Closed, Die, Disk, Down, Fail}
use Rattle.store_laws.specs.Machine.{Finds, HasMore, History, Keeps, Leads, Move, Process, Roll}
use Rattle.store_laws.specs.Machine.{Runs, Start, Store, Taking, Wrote, after, after_all, first}
use Rattle.store_laws.specs.Machine.{history, none, opened, second}

abbrev fine : World → Result World Refusal
fine w = Ok w

same_ok : (a b : World) → fine a ≡ Ok b → a ≡ b
same_ok a b h = cc

-- events after those that made a world
goes_on : (r : Result World Refusal) (es more : List Event) (x : World)
    → replayed_from r es ≡ Ok x → replayed_from r (es ++ more) ≡ replayed x more
goes_on (Ok w) [] more x h = ap (λ (v : World). replayed v more) (same_ok w x h)
goes_on (Err r) [] more x h = absurd cc
goes_on (Ok w) (y ∷ es) more x h = goes_on (stepped w y) es more x h
goes_on (Err r) (y ∷ es) more x h = absurd cc

-- several events more that were not told
merged_more : (xs ys zs more : List Event) → AreMerged xs ys zs
    → AreMerged xs (ys ++ more) (zs ++ more)
merged_more xs ys zs [] m =
    subst (λ (us : List Event). AreMerged xs us (zs ++ [])) (sym (append-nil ys))
    (subst (λ (vs : List Event). AreMerged xs ys vs) (sym (append-nil zs)) m)
merged_more xs ys zs (e ∷ more) m =
    subst (λ (us : List Event). AreMerged xs us (zs ++ e ∷ more)) (append_assoc ys (e ∷ []) more)
    (subst (λ (vs : List Event). AreMerged xs ((ys ++ e ∷ []) ++ more) vs)
    (append_assoc zs (e ∷ []) more)
    (merged_more xs (ys ++ e ∷ []) (zs ++ e ∷ []) more (second e xs ys zs m)))

-- processes

abbrev taking : World → Process
taking w = Taking w

abbrev closed : World → Process
closed w = Closed w

abbrev down : Process
down = Down

same_taking : (a b : World) → taking a ≡ Taking b → a ≡ b
same_taking a b h = cc

not_closed : {X : Type 0} (a b : World) → closed a ≡ Taking b → X
not_closed a b h = absurd cc

not_down : {X : Type 0} (b : World) → down ≡ Taking b → X
not_down b h = absurd cc

answers_taking : (p : Process) (v w : World) → p ≡ Taking v → Answers p w → v ≡ w
answers_taking p v w is a = subst (λ (q : Process). Answers q w) is a

answers_closed : (p : Process) (v w : World) → p ≡ Closed v → Answers p w → v ≡ w
answers_closed p v w is a = subst (λ (q : Process). Answers q w) is a

answers_down : {X : Type 0} (p : Process) (w : World) → p ≡ Down → Answers p w → X
answers_down p w is a = absurd (subst (λ (q : Process). Answers q w) is a)

-- a start finds the events that are there more
finds_more : (old new : Disk) (whole : List Event) (v w : World) → Finds old v
    → replayed v whole ≡ Ok w → HasMore whole old new → Finds new w
finds_more old new whole v w found accepts more =
    ap (λ (b : World). replayed b new.events) more.base
    ∙ (ap (λ (es : List Event). replayed old.base es) more.all
    ∙ (goes_on (Ok old.base) old.events whole v found ∙ accepts))

module _ (opening : World) where
  record Holds (h : History) (s : Store) : Type 0 where
    now : World
    replay : replayed opening (h.seen ++ h.behind) ≡ Ok now
    found : Finds s.disk now
    answered : (w : World) → Answers s.process w → replayed opening h.seen ≡ Ok w
    acknowledged : AreMerged h.told h.untold h.seen
    -- a process that takes events has all of them
    settled : (w : World) → s.process ≡ Taking w → h.behind ≡ []

  -- what a process that takes events answers from
  taken : (h : History) (s : Store) (v : World) → s.process ≡ Taking v → Holds h s
      → replayed opening h.seen ≡ Ok v
  taken h s v is x = x.answered v (subst (λ (p : Process). Answers p v) (sym is) refl)

  -- is what a start would find
  is_found : (h : History) (s : Store) (v : World) → s.process ≡ Taking v → Holds h s
      → Finds s.disk v
  is_found h s v is x =
      let all : h.seen ++ h.behind ≡ h.seen =
      ap (λ (es : List Event). h.seen ++ es) (x.settled v is) ∙ append-nil h.seen in
      let same : v ≡ x.now =
      same_ok v x.now (sym (taken h s v is x)
      ∙ (ap (λ (es : List Event). replayed opening es) (sym all) ∙ x.replay)) in
      x.found ∙ ap fine (sym same)

  at_accept : (h : History) (s t : Store) (e : Event) (v : World) (x : Wrote (e ∷ []) v s t)
      → t.process ≡ Taking x.world → Holds h s → Holds (after (Accept e) h) t
  at_accept h s t e v x next held =
      let one : replayed opening (h.seen ++ e ∷ []) ≡ Ok x.world =
      goes_on (Ok opening) h.seen (e ∷ []) v (taken h s v x.took held) ∙ x.accepts in
      let all : (h.seen ++ e ∷ []) ++ h.behind ≡ h.seen ++ e ∷ [] =
      ap (λ (es : List Event). (h.seen ++ e ∷ []) ++ es) (held.settled v x.took)
      ∙ append-nil (h.seen ++ e ∷ []) in
      record {
        now = x.world;
        replay = ap (λ (es : List Event). replayed opening es) all ∙ one;
        found = finds_more s.disk t.disk (e ∷ []) v x.world (is_found h s v x.took held) x.accepts
            x.more;
        answered = λ w a. one ∙ ap fine (answers_taking t.process x.world w next a);
        acknowledged = first e h.told h.untold h.seen held.acknowledged;
        settled = λ w is. held.settled v x.took;
      }

  -- records of which nobody was told, after which the process takes no event any more
  at_left : (h : History) (s t : Store) (whole : List Event) (v : World) → Wrote whole v s t
      → ((w : World) → Answers t.process w → v ≡ w) → ((w : World) → t.process ≡ Taking w → ⊥)
      → Holds h s → Holds (record h { behind = h.behind ++ whole }) t
  at_left h s t whole v x same ends held =
      let all : h.seen ++ (h.behind ++ whole) ≡ h.seen ++ whole =
      ap (λ (es : List Event). h.seen ++ (es ++ whole)) (held.settled v x.took) in
      record {
        now = x.world;
        replay = ap (λ (es : List Event). replayed opening es) all
            ∙ (goes_on (Ok opening) h.seen whole v (taken h s v x.took held) ∙ x.accepts);
        found = finds_more s.disk t.disk whole v x.world (is_found h s v x.took held) x.accepts
            x.more;
        answered = λ w a. taken h s v x.took held ∙ ap fine (same w a);
        acknowledged = held.acknowledged;
        settled = λ w is. absurd (ends w is);
      }

  -- a process that takes no event any more dies
  at_end : (h : History) (s t : Store) (whole : List Event) → t.process ≡ Down → whole ≡ []
      → t.disk ≡ s.disk → Holds h s → Holds (record h { behind = h.behind ++ whole }) t
  at_end h s t whole dead nothing same held =
      let none_more : h.behind ++ whole ≡ h.behind =
      ap (λ (es : List Event). h.behind ++ es) nothing ∙ append-nil h.behind in
      record {
        now = held.now;
        replay = ap (λ (es : List Event). replayed opening (h.seen ++ es)) none_more ∙ held.replay;
        found = subst (λ (d : Disk). Finds d held.now) (sym same) held.found;
        answered = λ w a. answers_down t.process w dead a;
        acknowledged = held.acknowledged;
        settled = λ w is. not_down w (sym dead ∙ is);
      }

  at_roll : (h : History) (s t : Store) (v : World) → s.process ≡ Taking v → t.process ≡ Taking v
      → Finds t.disk v → Holds h s → Holds h t
  at_roll h s t v took goes found held =
      let same : fine v ≡ Ok held.now = sym (is_found h s v took held) ∙ held.found in
      record {
        now = held.now;
        replay = held.replay;
        found = found ∙ same;
        answered = λ w a. taken h s v took held
            ∙ ap fine (answers_taking t.process v w goes a);
        acknowledged = held.acknowledged;
        settled = λ w is. held.settled v took;
      }

  at_start : (h : History) (s t : Store) (w : World) → Finds s.disk w → t.process ≡ Taking w
      → t.disk ≡ s.disk → Holds h s → Holds (after Start h) t
  at_start h s t w finds goes same held =
      let is : fine held.now ≡ Ok w = sym held.found ∙ finds in
      record {
        now = held.now;
        replay = ap (λ (es : List Event). replayed opening es) (append-nil (h.seen ++ h.behind))
            ∙ held.replay;
        found = subst (λ (d : Disk). Finds d held.now) (sym same) held.found;
        answered = λ v a. held.replay ∙ (is ∙ ap fine (answers_taking t.process w v goes a));
        acknowledged = merged_more h.told h.untold h.seen h.behind held.acknowledged;
        settled = λ v taking_it. refl;
      }

  by_move : (m : Move) (h : History) (s t : Store) → Leads m s t → Holds h s → Holds (after m h) t
  by_move (Accept e) h s t x held = at_accept h s t e x.0 x.1 x.2 held
  by_move (Fail whole) h s t x held =
      at_left h s t whole x.0 x.1 (λ w a. answers_closed t.process x.0 w x.2 a)
      (λ w is. not_closed x.0 w (sym x.2 ∙ is)) held
  by_move (Die whole) h s t (dead, inl x) held =
      at_left h s t whole x.0 x.1 (λ w a. answers_down t.process w dead a)
      (λ w is. not_down w (sym dead ∙ is)) held
  by_move (Die whole) h s t (dead, inr x) held = at_end h s t whole dead x.2 x.3 held
  by_move Roll h s t x held = at_roll h s t x.0 x.1 x.2 x.3 held
  by_move Start h s t x held = at_start h s t x.0 x.2 x.3 x.4 held

  runs : (moves : List Move) (h : History) (s t : Store) → Runs moves s t → Holds h s
      → Holds (after_all moves h) t
  runs [] h s t is held = subst (λ (x : Store). Holds h x) (sym is) held
  runs (m ∷ moves) h s t x held =
      runs moves (after m h) x.0 t x.2 (by_move m h s x.0 x.1 held)

  pub every : (moves : List Move) (s : Store) → Runs moves (opened opening) s
      → Keeps opening (history moves) s
  every moves s x =
      let held = runs moves _ (opened opening) s x (record {
        now = opening;
        replay = refl;
        found = refl;
        answered = λ w a. ap fine a;
        acknowledged = none;
        settled = λ w is. refl;
      }) in
      record {
        answered = held.answered;
        acknowledged = held.acknowledged;
        now = held.now;
        is = held.replay;
        found = held.found;
      }
