-- Where a loop over the contents of events stops.
use Rattle.std.proofs.Common.{◌≡◌, ℕ, suc, ◌<◌, List, [], ◌∷◌, ◌++◌, map, length, take, drop, get_or}
use Rattle.std.proofs.Common.{Err, sym, ap, ◌∙◌, arith, Vec}
use Rattle.std.specs.declared.alloc.Global.{Global}
use Rattle.std.proofs.Math.Seq.{drop-cons}
use Rattle.std.proofs.lemmas.List.{length-map, map-append, take-append-drop}
use Rattle.journal.specs.Contents.{contents_in}
use Rattle.kept_walk.specs.Contents.{AreFrom}
use Rattle.kept_walk.specs.Kept.{event_of}
use Rattle.kept_walk.specs.Numbered.{Names}
use Rattle.kept_walk.specs.Refusals.{DeniesEvents, FindsChange, StopsAt, refused_at}
use Rattle.kept_walk.proofs.FromNames.{from_long}
use Rattle.kept_walk.specs.declared.fault.EventFault.{EventFault}
use Rattle.kept_walk.specs.declared.fault.EventFault.TheVariants as faults
use Rattle.kept_walk.specs.declared.journal_state.Change.{Change}

abbrev Bytes : Type 0
Bytes = Vec ℕ Global

module _ (vs : List Bytes) (i : ℕ) (d : Bytes) (content : List ℕ) (changes : List Change)
    (names : Names) (at : ℕ) (lt : i < length vs) (is : content ≡ (get_or vs i d).items)
    (so_far : AreFrom [] (contents_in (take i vs)) (map event_of changes) names)
    (counted : at ≡ length changes) where
  stops : (P : Names → List ℕ → Type 0) → P names content → StopsAt P (contents_in vs) at
  stops P p =
      let items = λ (v : Bytes). v.items in
      let front = contents_in (take i vs) in
      let split : vs ≡ take i vs ++ get_or vs i d ∷ drop (suc i) vs =
      sym (take-append-drop i vs) ∙ ap (λ (ws : List Bytes). take i vs ++ ws) (drop-cons vs i d lt) in
      record {
        front = front;
        last = content;
        rest = contents_in (drop (suc i) vs);
        events = map event_of changes;
        names = names;
        whole = ap contents_in split
            ∙ (map-append items (take i vs) (get_or vs i d ∷ drop (suc i) vs)
            ∙ ap (λ (c : List ℕ). front ++ c ∷ contents_in (drop (suc i) vs)) (sym is));
        before = so_far;
        counted = omega (
          arith,
          counted,
          length-map changes event_of,
          from_long [] front (map event_of changes) names so_far,
        );
        stop = p;
      }

  pub denied : (fault : EventFault) (after : Names) → FindsChange names content after (Err fault)
      → DeniesEvents (contents_in vs) (refused_at at fault)
  denied faults.Memory after h = tt
  denied faults.Form after h = stops _ h
  denied faults.Matcher after h = stops _ h
