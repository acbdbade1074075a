-- A connection more, after those that were served.
use Rattle.std.proofs.Common.{◌≡◌, ℕ, Bool, ◌+◌, List, [], ◌∷◌, ◌++◌, Option, None, Some, refl, sym, ap}
use Rattle.std.proofs.Common.{subst, ◌∙◌, map, append_assoc, append-nil, length-append}
use Rattle.std.proofs.lemmas.List.{map-append}
use Rattle.head.specs.Heads.{SnapshotParts}
use Rattle.snapshots.specs.declared.entry.Entry.{Entry}
use Rattle.guard.specs.declared.rules.Rules.{Rules}
use Rattle.query_http.specs.Serving.{Worker}
use Rattle.server.specs.Sessions.{Session, Ending, IsServed, AreServed, Arrives, AreFirstToCome}
use Rattle.server.specs.Sessions.{AreAdded}
use Rattle.server.specs.Working.{Works}

served_more : (rules : Rules) (opening : SnapshotParts) (idle bounded : Bool) (held : List Entry → Type 0)
    (before between after : Worker) (ss : List Session) (s : Session)
    → AreServed rules opening idle bounded held before ss between
    → IsServed rules opening idle bounded held between after s
    → AreServed rules opening idle bounded held before (ss ++ s ∷ []) after
served_more rules opening idle bounded held before between after [] s e one =
    (after, subst (λ (w : Worker). IsServed rules opening idle bounded held w after s) e one, refl)
served_more rules opening idle bounded held before between after (t ∷ ss) s h one =
    (h.0, h.1, served_more rules opening idle bounded held h.0 between after ss s h.2 one)

first_more : (coming mid left : Option (List (List ℕ))) (ss : List Session) (s : Session)
    → AreFirstToCome coming mid ss → Arrives mid left s.input
    → AreFirstToCome coming left (ss ++ s ∷ [])
first_more None mid left ss s h here = tt
first_more (Some old) None left ss s h here = absurd (cc h.1)
first_more (Some old) (Some mid) left ss s h here =
    let inputs = map (λ (t : Session). t.input) in
    let next : map Some mid ≡ s.input ∷ map Some here.1 =
    ap (map Some) here.2 ∙ ap (λ (o : Option (List ℕ)). o ∷ map Some here.1) (sym here.4) in
    let same : map Some h.0 ≡ map Some mid = ap (map Some) (cc h.1) in (
      here.1,
      here.3,
      h.2
          ∙ ap (λ (l : List (Option (List ℕ))). inputs ss ++ l) (same ∙ next)
          ∙ sym (append_assoc (inputs ss) (s.input ∷ []) (map Some here.1))
          ∙ ap (λ (l : List (Option (List ℕ))). l ++ map Some here.1)
          (sym (map-append (λ (t : Session). t.input) ss (s ∷ []))),
    )

pub added_more : (old mid new : Option (List Ending)) (xs ys : List Ending)
    → AreAdded old mid xs → AreAdded mid new ys → AreAdded old new (xs ++ ys)
added_more old mid None xs ys h more = tt
added_more old None (Some new) xs ys h more = absurd more
added_more None (Some mid) (Some new) xs ys h more = absurd h
added_more (Some old) (Some mid) (Some new) xs ys h more =
    more ∙ ap (λ (l : List Ending). l ++ ys) h ∙ append_assoc old xs ys

-- a connection more was served
pub works_more : (rules : Rules) (opening : SnapshotParts) (idle bounded : Bool)
    (held : List Entry → Type 0) (before between after : Worker)
    (coming mid left : Option (List (List ℕ)))
    (past told ended : Option (List Ending)) (count : ℕ) (s : Session)
    → Works rules opening idle bounded held before between coming mid past told count
    → IsServed rules opening idle bounded held between after s
    → Arrives mid left s.input → AreAdded told ended (s.ending ∷ [])
    → Works rules opening idle bounded held before after coming left past ended (count + 1)
works_more rules opening idle bounded held before between after coming mid left past told ended count s done
    one here added = record {
      sessions = done.sessions ++ s ∷ [];
      counted = length-append done.sessions (s ∷ []) ∙ ap (λ (n : ℕ). n + 1) done.counted;
      served =
          served_more rules opening idle bounded held before between after done.sessions s done.served one;
      first = first_more coming mid left done.sessions s done.first here;
      told =
          subst (λ (l : List Ending). AreAdded past ended l)
          (sym (map-append (λ (t : Session). t.ending) done.sessions (s ∷ [])))
          (added_more past told ended (map (λ (t : Session). t.ending) done.sessions)
          (s.ending ∷ []) done.told added);
    }

none_first : (coming : Option (List (List ℕ))) → AreFirstToCome coming coming []
none_first None = tt
none_first (Some old) = (old, refl, refl)

none_added : (past : Option (List Ending)) → AreAdded past past []
none_added None = tt
none_added (Some old) = sym (append-nil old)

-- no connection was served
pub works_none : (rules : Rules) (opening : SnapshotParts) (idle bounded : Bool)
    (held : List Entry → Type 0) (before : Worker)
    (coming : Option (List (List ℕ)))
    (past : Option (List Ending))
    → Works rules opening idle bounded held before before coming coming past past 0
works_none rules opening idle bounded held before coming past = record {
  sessions = [];
  counted = refl;
  served = refl;
  first = none_first coming;
  told = none_added past;
}
