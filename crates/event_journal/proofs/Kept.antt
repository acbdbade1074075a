-- Events more.
use Rattle.std.proofs.Common.{◌≡◌, ℕ, ◌≤◌, Bool, true, false, List, [], ◌++◌, length, take, Result}
use Rattle.std.proofs.Common.{Ok, Err, refl, sym, subst, append_assoc, arith}
use Rattle.std.specs.Prelude.{OnOk, OnErr}
use Rattle.std.proofs.lemmas.List.{append-nil, take_all}
use Rattle.head.specs.Worlds.{Event}
use Rattle.journal.specs.Group.{HasSomeMore}
use Rattle.journal.specs.Media.{Keeps, LeavesOnly, MayLeave}
use Rattle.journal.specs.Records.{file_of, Recovers}
use Rattle.journal.proofs.Keeping.{at_rest}
use Rattle.journal.proofs.Moments.{started, weaker}
use Rattle.name_table.specs.Names.{Label}
use Rattle.event_journal.specs.Holding.{AreInFront, Holds, Stands, StandsAndMore, StandsAndSome}
use Rattle.event_journal.specs.Naming.{Spell, SpellFrom}
use Rattle.event_journal.proofs.Naming.{spell_front, spell_joined, spell_taken}

-- what is left with a few contents more stands for a few events more
pub stands_after : (front contents next : List (List ℕ)) (events more : List Event)
    (names after : List Label) (left : List ℕ) → AreInFront front → Spell contents events names
    → SpellFrom names next more after → HasSomeMore (front ++ contents) next left
    → StandsAndSome front events more left
stands_after front contents next events more names after left before spell others s =
    let few = take s.0 next in
    let t = spell_taken s.0 names after next more others in (
      s.0,
      record {
        before = before;
        contents = contents ++ few;
        names = t.0;
        spell = spell_joined [] names t.0 contents few events (take s.0 more) spell t.1;
        recovers = subst (λ (x : List (List ℕ)). Recovers left x)
            (append_assoc front contents few) s.1;
      },
    )

nothing_more : (front : List (List ℕ)) (events : List Event) (left : List ℕ)
    → Stands front left events → StandsAndMore front events left
nothing_more front events left s =
    ([], subst (λ (x : List Event). Stands front left x) (sym (append-nil events)) s)

all_of_them : (front : List (List ℕ)) (events more : List Event) (left : List ℕ)
    → Stands front left (events ++ more) → StandsAndSome front events more left
all_of_them front events more left s = (
  length more,
  subst (λ (x : List Event). Stands front left (events ++ x))
      (sym (take_all (length more) more (omega arith))) s,
)

-- a closed journal is not open
pub not_both : {A : Type 0} (b : Bool) → b ≡ true → b ≡ false → A
not_both true t f = absurd cc
not_both false t f = absurd cc

-- by whether the journal was closed
by_was : (was closed : Bool) (P Q : Type 0) → (was ≡ false → P) → (was ≡ true → closed ≡ true)
    → (P → closed ≡ false → Q) → closed ≡ false → Q
by_was true closed P Q held same k f = not_both closed (same refl) f
by_was false closed P Q held same k f = k (held refl) f

module _ {M : Type 0} (shows : M → List ℕ → Type 0) (kept : M → ℕ → Type 0) (sound : M → Bool)
    (moment : M → ℕ) (left_since : M → ℕ → List ℕ → Type 0)
    (only_now : (m : M) (bytes : List ℕ) (n : ℕ) (left : List ℕ) → shows m bytes → kept m n
    → left_since m (moment m) left → MayLeave n bytes left)
    (earlier : (m : M) (t u : ℕ) (left : List ℕ) → t ≤ u → u ≤ moment m → left_since m u left
    → left_since m t left) where
  abbrev HoldsHere : List (List ℕ) → M → ℕ → Bool → List Label → List Event → Type 0
  HoldsHere front m len closed names events =
      Holds shows kept sound moment left_since front m len closed names events

  resting : (front contents : List (List ℕ)) (m : M) (len : ℕ) (events : List Event)
      (names : List Label) (left : List ℕ) → AreInFront front → Spell contents events names
      → Keeps shows kept sound (front ++ contents) m len
      → left_since m (moment m) left → Stands front left events
  resting front contents m len events names left before spell k had =
      let all = front ++ contents in
      record {
        before = before;
        contents = contents;
        names = names;
        spell = spell;
        recovers = at_rest all left k.each
            (only_now m (file_of all) (length (file_of all)) left k.has.all k.has.durable had);
      }

  -- a journal that keeps contents holds the events that they spell
  pub holds_open : (front contents : List (List ℕ)) (m : M) (len : ℕ) (closed : Bool)
      (names after : List Label) (events : List Event) → AreInFront front
      → Spell contents events after → names ≡ after
      → Keeps shows kept sound (front ++ contents) m len
      → HoldsHere front m len closed names events
  holds_open front contents m len closed names after events before spell same k = record {
    before = before;
    contents = contents;
    after = after;
    spell = spell;
    named = λ _. same;
    keeps = λ _. k;
    survives = λ left may. nothing_more front events left
        (resting front contents m len events after left before spell k may);
  }

  -- after a call that kept events more
  pub holds_more : (front contents next : List (List ℕ)) (m : M) (len : ℕ) (closed : Bool)
      (names after : List Label) (events more : List Event) → AreInFront front
      → Spell contents events names → SpellFrom names next more after
      → Keeps shows kept sound ((front ++ contents) ++ next) m len
      → HoldsHere front m len closed after (events ++ more)
  holds_more front contents next m len closed names after events more before spell others k =
      holds_open front (contents ++ next) m len closed after after (events ++ more) before
      (spell_joined [] names after contents next events more spell others) refl
      (subst (λ (x : List (List ℕ)). Keeps shows kept sound x m len)
      (append_assoc front contents next) k)

  -- what is next is spelled by the names that are held
  pub spelled_next : (front next : List (List ℕ)) (m : M) (len : ℕ) (closed : Bool)
      (names after : List Label) (events more : List Event) → closed ≡ false
      → (h : HoldsHere front m len closed names events) → SpellFrom names next more after
      → SpellFrom h.after next more after
  spelled_next front next m len closed names after events more opened h s =
      subst (λ (ns : List Label). SpellFrom ns next more after) (h.named opened) s

  -- during a call of an open journal
  pub in_flight : (front next : List (List ℕ)) (old new : M) (len : ℕ) (closed : Bool)
      (names after : List Label) (events more : List Event) → closed ≡ false
      → (h : HoldsHere front old len closed names events) → SpellFrom names next more after
      → LeavesOnly moment left_since old new (HasSomeMore (front ++ h.contents) next)
      → LeavesOnly moment left_since old new (StandsAndSome front events more)
  in_flight front next old new len closed names after events more opened h others moments =
      weaker moment left_since old new
      (HasSomeMore (front ++ h.contents) next) (StandsAndSome front events more)
      (λ left s. stands_after front h.contents next events more h.after after left h.before h.spell
      (spelled_next front next old len closed names after events more opened h others) s) moments

  -- during a call, by whether the journal was closed
  pub any_moment : (front : List (List ℕ)) (old new : M) (len : ℕ) (closed : Bool)
      (names : List Label) (events more : List Event) → HoldsHere front old len closed names events
      → (closed ≡ true → new ≡ old)
      → (closed ≡ false → LeavesOnly moment left_since old new (StandsAndSome front events more))
      → LeavesOnly moment left_since old new (StandsAndMore front events)
  any_moment front old new len true names events more h same moments =
      subst (λ (m : M). LeavesOnly moment left_since old m (StandsAndMore front events))
      (sym (same refl))
      (started moment left_since old (StandsAndMore front events) h.survives)
  any_moment front old new len false names events more h same moments =
      weaker moment left_since old new (StandsAndSome front events more)
      (StandsAndMore front events) (λ left s. (take s.0 more, s.1)) (moments refl)

  -- after a call that kept nothing
  pub holds_on : (front : List (List ℕ)) (old new : M) (len more : ℕ) (was closed : Bool)
      (names : List Label) (events : List Event) → (h : HoldsHere front old len was names events)
      → (was ≡ true → closed ≡ true)
      → (Keeps shows kept sound (front ++ h.contents) old len → closed ≡ false
      → Keeps shows kept sound (front ++ h.contents) new more)
      → LeavesOnly moment left_since old new (StandsAndMore front events)
      → HoldsHere front new more closed names events
  holds_on front old new len more was closed names events h same k moments = record {
    before = h.before;
    contents = h.contents;
    after = h.after;
    spell = h.spell;
    named = by_was was closed _ _ h.named same (λ p _. p);
    keeps = by_was was closed _ _ h.keeps same k;
    survives = λ left may. moments.each left
        (earlier new (moment old) (moment new) left moments.later (omega arith) may);
  }

  -- the events that were kept last are given up
  pub given_up : (front : List (List ℕ)) (m : M) (len : ℕ) (was : Bool) (names others : List Label)
      (events more : List Event) → was ≡ false
      → HoldsHere front m len was names (events ++ more)
      → HoldsHere front m len true others events
  given_up front m len was names others events more opened h =
      let p = spell_front [] h.after h.contents events more h.spell in
      record {
        before = h.before;
        contents = p.front;
        after = p.after;
        spell = p.spell;
        named = λ f. not_both true refl f;
        keeps = λ f. not_both true refl f;
        survives = λ left may. (
          more,
          resting front h.contents m len (events ++ more) h.after left h.before h.spell
              (h.keeps opened) may,
        );
      }

  pub giving_up : (front : List (List ℕ)) (m : M) (len : ℕ) (was : Bool) (names : List Label)
      (events more : List Event) → was ≡ false
      → HoldsHere front m len was names (events ++ more)
      → LeavesOnly moment left_since m m (StandsAndSome front events more)
  giving_up front m len was names events more opened h =
      started moment left_since m (StandsAndSome front events more)
      (λ left may. all_of_them front events more left
      (resting front h.contents m len (events ++ more) h.after left h.before h.spell
      (h.keeps opened) may))

pub on_err : {A E : Type 0} (r : Result A E) (P Q : Type 0) → (P → Q) → OnErr r P → OnErr r Q
on_err (Ok x) P Q f p = tt
on_err (Err e) P Q f p = f p

pub on_ok : {A E : Type 0} (r : Result A E) (P Q : Type 0) → ((x : A) → r ≡ Ok x → P → Q)
    → OnOk r P → OnOk r Q
on_ok (Ok x) P Q f p = f x refl p
on_ok (Err e) P Q f p = tt

pub was_open : {A E : Type 0} (b : Bool) (r : Result A E) (x : A) (e : E) → r ≡ Ok x
    → (b ≡ true → r ≡ Err e) → b ≡ false
was_open {A} {E} true r x e h f = absurd (let a : r ≡ Err e = f refl in cc)
was_open false r x e h f = refl
