-- Parts that are published one after another.
use Rattle.std.proofs.Common.{◌≡◌, ◌≤◌, ◌+◌, List, [], ◌∷◌, ◌++◌, length, refl, ap, sym, subst, ◌∙◌, arith, append_assoc, length-append}
use Rattle.std.proofs.lemmas.List.{append-nil, map-append}
use Rattle.std.proofs.Common.{Bool, true, false, inl}
use Rattle.std.specs.Prelude.{MatchBool}
use Rattle.head.specs.Worlds.{Event}
use Rattle.snapshots.specs.declared.entry.Entry.{Entry}
use Rattle.snapshots.specs.Keeping.{AreHeld, PublishesHeld}
use Rattle.snapshots.specs.Seats.{SeatView, HasOneMoreEvent}
use Rattle.snapshots.proofs.Held.{seat_held}
use Rattle.labels.specs.Rows.{Row}
use Rattle.head.specs.BatchRows.{batch_of_rows}
use Rattle.head.specs.Heads.{SnapshotParts}
use Rattle.head.specs.Laws.{all_of}
use Rattle.head.specs.Telling.{total, told_of}
use Rattle.head.specs.Worlds.{Batch}
use Rattle.head.specs.declared.left.Left.{Left}
use Rattle.remote_http.specs.Cutting.{IsCutInto}
use Rattle.remote_http.specs.Filling.{batches_of}
use Rattle.remote_http.specs.Publishing.{IsPublished, PublishesFirst}
use Rattle.remote_http.specs.Told.{then_left}
use Rattle.remote_http.specs.Workers.{Worker}
use Rattle.remote_http.specs.Writing.{ArePublished, IsSiftedPart, PublishesFront}
use Rattle.remote_http.proofs.Sums.{all_left_more, total_then}

module _ (opening : SnapshotParts) where
  one_more : (front : List Batch) (lefts : List Left) (before middle after : Worker) (part : Batch) (left : Left)
      → ArePublished opening front lefts before middle → IsSiftedPart opening part middle after left
      → ArePublished opening (front ++ part ∷ []) (lefts ++ left ∷ []) before after
  one_more [] [] before middle after part left p s =
      (after, subst (λ (w : Worker). IsSiftedPart opening part w after left) p s, refl)
  one_more [] (l ∷ lefts) before middle after part left p s = absurd p
  one_more (q ∷ front) [] before middle after part left p s = absurd p
  one_more (q ∷ front) (l ∷ lefts) before middle after part left p s =
      (p.0, p.1, one_more front lefts p.0 middle after part left p.2 s)

  size_more : (parts : List Batch) (part : Batch) → length (all_of (parts ++ part ∷ [])) ≡ length (all_of parts) + length part
  size_more [] part = let e = ap length (append-nil part) in omega arith
  size_more (q ∷ parts) part =
      let rest = size_more parts part in
      let a = length-append q (all_of (parts ++ part ∷ [])) in
      let b = length-append q (all_of parts) in
      omega arith

  -- none yet
  pub none_published : (w : Worker) → IsPublished opening [] w w (told_of [])
  none_published w = record { lefts = []; each = refl; all = refl; few = omega arith }

  -- one part more
  pub part_published : (yielded all : List (List Row)) (rows : List Row) (before middle after : Worker)
      (left more : Left) → all ≡ yielded ++ rows ∷ [] → IsPublished opening (batches_of yielded) before middle left
      → IsSiftedPart opening (batch_of_rows rows) middle after more → total more ≤ length (batch_of_rows rows)
      → IsPublished opening (batches_of all) before after (then_left left more)
  part_published yielded all rows before middle after left more e p s few =
      let part = batch_of_rows rows in
      let is : batches_of all ≡ batches_of yielded ++ part ∷ [] =
      ap batches_of e ∙ map-append batch_of_rows yielded (rows ∷ []) in
      let size : length (all_of (batches_of all)) ≡ length (all_of (batches_of yielded)) + length part =
      ap (λ (ps : List Batch). length (all_of ps)) is ∙ size_more (batches_of yielded) part in
      let sum = total_then left more in
      let before_few = p.few in
      record {
        lefts = p.lefts ++ more ∷ [];
        each =
            subst (λ (ps : List Batch). ArePublished opening ps (p.lefts ++ more ∷ []) before after) (sym is)
            (one_more (batches_of yielded) p.lefts before middle after part more p.each s);
        all = ap (λ (l : Left). then_left l more) p.all ∙ sym (all_left_more p.lefts more);
        few = omega arith;
      }

  -- those before one that was not kept
  pub first_published : (all yielded rest : List (List Row)) (before after last : Worker) (left : Left)
      → all ≡ yielded ++ rest → last ≡ after → IsPublished opening (batches_of yielded) before after left
      → PublishesFirst opening (batches_of all) before last
  first_published all yielded rest before after last left e same p = record {
    front = batches_of yielded;
    back = batches_of rest;
    whole = ap batches_of e ∙ map-append batch_of_rows yielded rest;
    lefts = p.lefts;
    each = subst (λ (w : Worker). ArePublished opening (batches_of yielded) p.lefts before w) (sym same) p.each;
  }

  pub all_append : (xs ys : List Batch) → all_of (xs ++ ys) ≡ all_of xs ++ all_of ys
  all_append [] ys = refl
  all_append (x ∷ xs) ys =
      ap (λ (zs : Batch). x ++ zs) (all_append xs ys) ∙ sym (append_assoc x (all_of xs) (all_of ys))

  pub front_published : (xs : Batch) (parts : List Batch) (before after : Worker) → IsCutInto xs parts
      → PublishesFirst opening parts before after → PublishesFront opening xs before after
  front_published xs parts before after cut p = record {
    parts = p.front;
    later = all_of p.back;
    whole = sym (all_append p.front p.back) ∙ ap all_of (sym p.whole) ∙ cut.whole;
    lefts = p.lefts;
    published = p.each;
  }

  pub nothing_published : (xs : Batch) (before after : Worker) → after ≡ before → PublishesFront opening xs before after
  nothing_published xs before after same =
      record { parts = []; later = xs; whole = refl; lefts = []; published = same }

  pub whole_published : (xs : Batch) (parts : List Batch) (before after : Worker) (left : Left) → IsCutInto xs parts
      → IsPublished opening parts before after left → PublishesFront opening xs before after
  whole_published xs parts before after left cut p = record {
    parts = parts;
    later = [];
    whole = append-nil (all_of parts) ∙ cut.whole;
    lefts = p.lefts;
    published = p.each;
  }

-- one of the parts is no longer than all of them
pub size_at : (all yielded rest : List (List Row)) (rows : List Row) → all ≡ yielded ++ rows ∷ rest
    → length (all_of (batches_of yielded)) + length (batch_of_rows rows) ≤ length (all_of (batches_of all))
size_at all yielded rest rows e =
    let is : all_of (batches_of all)
    ≡ all_of (batches_of yielded) ++ (batch_of_rows rows ++ all_of (batches_of rest)) =
    ap all_of (ap batches_of e ∙ map-append batch_of_rows yielded (rows ∷ rest))
    ∙ joined (batches_of yielded) (batches_of (rows ∷ rest)) in
    let size = ap length is in
    let a = length-append (all_of (batches_of yielded)) (batch_of_rows rows ++ all_of (batches_of rest)) in
    let b = length-append (batch_of_rows rows) (all_of (batches_of rest)) in
    omega arith
  where
    joined : (xs ys : List Batch) → all_of (xs ++ ys) ≡ all_of xs ++ all_of ys
    joined [] ys = refl
    joined (x ∷ xs) ys = ap (λ (zs : Batch). x ++ zs) (joined xs ys) ∙ sym (append_assoc x (all_of xs) (all_of ys))

-- what a seat has seen after a part is held
pub sift_held : {K S : Type 0} (holds : K → List Event → Type 0) (stays : S → List Event → Type 0) (events : List Event) (old new : SeatView) (entries : List Entry)
    (joined : Bool) → MatchBool joined (HasOneMoreEvent old new entries) (new ≡ old) → AreHeld holds stays events entries
    → PublishesHeld holds stays events old new
sift_held holds stays events old new entries true more held = seat_held holds stays events old new entries more held
sift_held holds stays events old new entries false same held = inl same
