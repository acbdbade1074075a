-- Events more, kept in a folder.
use Rattle.std.proofs.Common.{◌≡◌, ◌≢◌, ◌⊎◌, inl, inr, ⊎_elim, ℕ, zero, suc, ◌≤◌, Bool, true, List}
use Rattle.std.proofs.Common.{[], ◌∷◌, ◌++◌, length, take}
use Rattle.std.proofs.Common.{Option, Some, ap, refl, subst, sym, ◌∙◌, append_assoc}
use Rattle.std.proofs.Common.{arith}
use Rattle.std.proofs.lemmas.List.{append-nil, take_all}
use Rattle.data_folder.specs.declared.journal_file.JournalFile.{JournalFile}
use Rattle.data_folder.specs.Folders.{Left, LeavesOnly, MayLeaveOf}
use Rattle.data_folder.specs.JournalFile.{bytes_in, journal_name, JournalLeft}
use Rattle.data_folder.specs.JournalLaws.{StaysBeside}
use Rattle.data_folder.proofs.Moments.{weaker}
use Rattle.event_journal.specs.Holding.{Holds, StandsAndSome}
use Rattle.head.specs.Heads.{BlockPart}
use Rattle.head.specs.Worlds.{Event}
use Rattle.head_record.specs.Saved.{Place, Saved}
use Rattle.head_record.specs.Spelling.{head_texts, IsSaved}
use Rattle.journal.specs.Media as media
use Rattle.keeper.specs.Finding.{AreAll, AreAllAndSome, StandsForSome}
use Rattle.name_table.specs.Names.{Label}
use Rattle.store_folder.specs.Holding.{AreAt, BytesSince, BytesStandFor, HoldsAfterHead, HoldsLike}
use Rattle.store_folder.specs.Holding.{HoldsOrLost, IsLast, IsLost, KeptLast, LastLike}
use Rattle.store_folder.specs.Holding.{StandsForThese}
use Rattle.store_folder.specs.KeeperLaws.{has_journal, now_found, regrouped, stands_for}
use Rattle.store_folder.specs.Origins.{Origin}
use Rattle.store_folder.specs.Starting.{StartFinds, StartFindsEither}
use Rattle.store_folder.specs.States.{IsAfter, StandsForEither}
use Rattle.store_folder.specs.StoreLaws.{blocks_left, blocks_stay}
use Rattle.store_folder.proofs.Fronts.{stands_more}

-- all of some more are the first few of them

all_more : (events more : List Event) → AreAllAndSome events more (events ++ more)
all_more events more = (
  length more,
  ap (λ (x : List Event). events ++ x) (sym (take_all (length more) more (omega arith))),
)

none_taken : (few : ℕ) (none : List Event) → none ≡ [] → take few none ≡ []
none_taken zero none is = refl
none_taken (suc few) [] is = refl
none_taken (suc few) (e ∷ none) is = absurd cc

all_some : (events more found : List Event) (few : ℕ)
    → found ≡ (events ++ more) ++ take few [] → AreAllAndSome events more found
all_some events more found few is =
    let all : found ≡ events ++ more =
    is ∙ (ap (λ (x : List Event). (events ++ more) ++ x) (none_taken few [] refl)
    ∙ append-nil (events ++ more)) in
    subst (λ (x : List Event). AreAllAndSome events more x) (sym all) (all_more events more)

module _ {F : Type 0} (shows : F → List ℕ → Option (List ℕ) → Type 0)
    (kept : F → List ℕ → ℕ → Type 0) (sound : F → Bool) (moment : F → ℕ)
    (left_since : F → ℕ → Left → Type 0)
    (only_now : (f : F) (name : List ℕ) (x : Option (List ℕ)) (n : ℕ) (left : Left) → shows f name x
    → kept f name n → left_since f (moment f) left → MayLeaveOf n x (left name)) where
  abbrev HoldsBy : List (List ℕ) → JournalFile F → ℕ → Bool → List Label → List Event → Type 0
  HoldsBy front m len closed names events =
      Holds (λ (j : JournalFile F) (bytes : List ℕ). shows j.folder journal_name (Some bytes))
      (λ (j : JournalFile F) (n : ℕ). kept j.folder journal_name n)
      (λ (j : JournalFile F). sound j.folder) (λ (j : JournalFile F). moment j.folder)
      (λ (j : JournalFile F) (t : ℕ) (bytes : List ℕ). JournalLeft left_since j.folder t bytes)
      front m len closed names events

  abbrev HoldsHere : List (List ℕ) → JournalFile F → ℕ → Bool → List Event → Type 0
  HoldsHere front m len closed events = HoldsBy front m len closed m.names events

  -- by the names that the journal has
  pub named_so : (front : List (List ℕ)) (m : JournalFile F) (len : ℕ) (closed : Bool)
      (names : List Label) (events : List Event) → m.names ≡ names
      → HoldsBy front m len closed names events → HoldsHere front m len closed events
  named_so front m len closed names events same h =
      subst (λ (ns : List Label). HoldsBy front m len closed ns events) (sym same) h

  -- the names do not say what is held
  pub named_anew : (front : List (List ℕ)) (m : JournalFile F) (others : List Label) (len : ℕ)
      (closed : Bool) (names : List Label) (events : List Event)
      → HoldsBy front m len closed names events
      → HoldsBy front (record (m) { names = others }) len closed names events
  named_anew front m others len closed names events h = record {
    before = h.before;
    contents = h.contents;
    after = h.after;
    spell = h.spell;
    named = h.named;
    keeps = λ opened. (let k = h.keeps opened in record {
      each = k.each;
      has = record { all = k.has.all; durable = k.has.durable; is_sound = k.has.is_sound };
      counted = k.counted;
    });
    survives = h.survives;
  }

  abbrev HoldsAll : Origin → JournalFile F → ℕ → Bool → List Event → Type 0
  HoldsAll first m len closed events =
      HoldsAfterHead shows kept sound moment left_since first m len closed events

  -- after a call that kept events more
  store_more : (first : Origin) (old new : JournalFile F) (len more_len : ℕ)
      (was closed : Bool) (events more : List Event) (h : HoldsAll first old len was events)
      → StaysBeside shows kept moment left_since old.folder new.folder
      → HoldsHere (head_texts h.saved) new more_len closed (h.late ++ more)
      → HoldsAll first new more_len closed (events ++ more)
  store_more first old new len more_len was closed events more h beside j = record {
    saved = h.saved;
    parts = h.parts;
    early = h.early;
    late = h.late ++ more;
    all = ap (λ (x : List Event). x ++ more) h.all ∙ append_assoc h.early h.late more;
    head = h.head;
    begins = h.begins;
    journal = j;
    blocks = blocks_stay shows kept h.saved.places h.parts old.folder new.folder h.blocks
        beside.same beside.durable;
  }

  -- after a call that kept nothing
  store_stays : (first : Origin) (old new : JournalFile F) (len new_len : ℕ)
      (was closed : Bool) (events : List Event) (h : HoldsAll first old len was events)
      → StaysBeside shows kept moment left_since old.folder new.folder
      → HoldsHere (head_texts h.saved) new new_len closed h.late
      → HoldsAll first new new_len closed events
  store_stays first old new len new_len was closed events h beside j = record {
    saved = h.saved;
    parts = h.parts;
    early = h.early;
    late = h.late;
    all = h.all;
    head = h.head;
    begins = h.begins;
    journal = j;
    blocks = blocks_stay shows kept h.saved.places h.parts old.folder new.folder h.blocks
        beside.same beside.durable;
  }

  last_kept : (first : Origin) (old new : JournalFile F) (len more_len : ℕ)
      (was closed : Bool) (events more : List Event) (h : HoldsAll first old len was events)
      → StaysBeside shows kept moment left_since old.folder new.folder
      → HoldsHere (head_texts h.saved) new more_len closed (h.late ++ more)
      → KeptLast shows kept sound moment left_since first new more_len closed events more
  last_kept first old new len more_len was closed events more h beside j = record {
    saved = h.saved;
    parts = h.parts;
    early = h.early;
    late = h.late;
    all = h.all;
    head = h.head;
    begins = h.begins;
    journal = j;
    blocks = blocks_stay shows kept h.saved.places h.parts old.folder new.folder h.blocks
        beside.same beside.durable;
  }

  -- the events that were kept last are given up
  given_up : (first : Origin) (old new : JournalFile F) (len new_len : ℕ) (was closed : Bool)
      (events more : List Event)
      (h : KeptLast shows kept sound moment left_since first old len was events more)
      → StaysBeside shows kept moment left_since old.folder new.folder
      → HoldsHere (head_texts h.saved) new new_len closed h.late
      → HoldsAll first new new_len closed events
  given_up first old new len new_len was closed events more h beside j = record {
    saved = h.saved;
    parts = h.parts;
    early = h.early;
    late = h.late;
    all = h.all;
    head = h.head;
    begins = h.begins;
    journal = j;
    blocks = blocks_stay shows kept h.saved.places h.parts old.folder new.folder h.blocks
        beside.same beside.durable;
  }

  -- the same with the blocks that the head names

  abbrev Like : Origin → JournalFile F → ℕ → Bool → List Event → List Place → List BlockPart → Type 0
  Like first m len closed events places blocks =
      HoldsLike shows kept sound moment left_since first m len closed events places blocks

  pub like_more : (first : Origin) (old new : JournalFile F) (len more_len : ℕ)
      (was closed : Bool) (events more : List Event) (places : List Place)
      (blocks : List BlockPart) (h : Like first old len was events places blocks)
      → StaysBeside shows kept moment left_since old.folder new.folder
      → HoldsHere (head_texts h.0.saved) new more_len closed (h.0.late ++ more)
      → Like first new more_len closed (events ++ more) places blocks
  unfolding store_more
  like_more first old new len more_len was closed events more places blocks h beside j =
      (store_more first old new len more_len was closed events more h.0 beside j, h.1, h.2)

  pub like_stays : (first : Origin) (old new : JournalFile F) (len new_len : ℕ)
      (was closed : Bool) (events : List Event) (places : List Place) (blocks : List BlockPart)
      (h : Like first old len was events places blocks)
      → StaysBeside shows kept moment left_since old.folder new.folder
      → HoldsHere (head_texts h.0.saved) new new_len closed h.0.late
      → Like first new new_len closed events places blocks
  unfolding store_stays
  like_stays first old new len new_len was closed events places blocks h beside j =
      (store_stays first old new len new_len was closed events h.0 beside j, h.1, h.2)

  pub like_last : (first : Origin) (old new : JournalFile F) (len more_len : ℕ)
      (was closed : Bool) (events more : List Event) (places : List Place)
      (blocks : List BlockPart) (h : Like first old len was events places blocks)
      → StaysBeside shows kept moment left_since old.folder new.folder
      → HoldsHere (head_texts h.0.saved) new more_len closed (h.0.late ++ more)
      → LastLike shows kept sound moment left_since first new more_len closed events more places
      blocks
  unfolding last_kept
  like_last first old new len more_len was closed events more places blocks h beside j =
      (last_kept first old new len more_len was closed events more h.0 beside j, h.1, h.2)

  pub like_given_up : (first : Origin) (old new : JournalFile F) (len new_len : ℕ)
      (was closed : Bool) (events more : List Event) (places : List Place)
      (blocks : List BlockPart)
      (h : LastLike shows kept sound moment left_since first old len was events more places blocks)
      → StaysBeside shows kept moment left_since old.folder new.folder
      → HoldsHere (head_texts h.0.saved) new new_len closed h.0.late
      → Like first new new_len closed events places blocks
  unfolding given_up
  like_given_up first old new len new_len was closed events more places blocks h beside j =
      (given_up first old new len new_len was closed events more h.0 beside j, h.1, h.2)

  -- what is left at a moment of a call

  pub store_leaves : (first : Origin) (old new : JournalFile F) (saved : Saved)
      (parts : List BlockPart) (early late events more : List Event)
      → events ≡ early ++ late → IsSaved saved
      → IsAfter first early saved parts
      → AreAt shows kept saved.places parts old.folder
      → StaysBeside shows kept moment left_since old.folder new.folder
      → media.LeavesOnly (λ (j : JournalFile F). moment j.folder)
      (λ (j : JournalFile F) (t : ℕ) (bytes : List ℕ). JournalLeft left_since j.folder t bytes)
      old new (StandsAndSome (head_texts saved) late more)
      → LeavesOnly moment left_since old.folder new.folder
      (StandsForThese first (AreAllAndSome events more))
  store_leaves first old new saved parts early late events more all head begins at beside moments =
      record {
        later = beside.later;
        each = λ left since. since_then left since
            (λ n x k away shown durable. ⊎_elim
            (λ past. only_now old.folder n x k left shown durable past)
            (λ now. now.1 n x k away shown durable)
            (beside.before (moment old.folder) left (omega arith) since));
        before = λ t left le had. ⊎_elim (λ past. inl past)
            (λ now. inr (since_then left now.0 now.1)) (beside.before t left le had);
      }
    where
      since_then : (left : Left) → left_since new.folder (moment old.folder) left
          → ((n : List ℕ) (x : Option (List ℕ)) (k : ℕ) → n ≢ journal_name
          → shows old.folder n x → kept old.folder n k → MayLeaveOf k x (left n))
          → StandsForThese first (AreAllAndSome events more) left
      since_then left since may =
          let s = moments.each (bytes_in (left journal_name)) (left, since, refl) in
          let few = take s.0 more in (
            events ++ few,
            stands_for first (events ++ few) early (late ++ few) saved parts left
                (regrouped events early late few all) head begins
                (blocks_left shows kept saved.places parts old.folder left at may)
                (has_journal left (head_texts saved) (late ++ few) s.1),
            (s.0, refl),
          )

  -- what was kept last is given up: its records, or what a head says

  none_behind : (front : List (List ℕ)) (m : JournalFile F) (len : ℕ) (closed : Bool)
      (late : List Event) → HoldsHere front m len closed late
      → HoldsHere front m len closed (late ++ [])
  none_behind front m len closed late h =
      subst (λ (es : List Event). HoldsHere front m len closed es) (sym (append-nil late)) h

  saved_given_up : (first : Origin) (old new : JournalFile F) (len new_len : ℕ)
      (was closed : Bool) (events more : List Event) (places : List Place)
      (blocks : List BlockPart) (h : Like first old len was (events ++ more) places blocks)
      → StaysBeside shows kept moment left_since old.folder new.folder
      → HoldsHere (head_texts h.0.saved) new new_len closed h.0.late → closed ≡ true
      → IsLost moment left_since first new closed events
  saved_given_up first old new len new_len was closed events more places blocks h beside j shut =
      record {
        is_closed = shut;
        leaves = λ left had. stands_more first events more left
            (now_found shows kept sound moment left_since only_now first new new_len closed
            (events ++ more) left
            (inl (store_stays first old new len new_len was closed (events ++ more) h.0 beside j))
            had);
      }

  pub last_given_up : (first : Origin) (old new : JournalFile F) (len new_len : ℕ)
      (was closed : Bool) (events more : List Event) (places : List Place)
      (blocks : List BlockPart)
      → IsLast shows kept sound moment left_since first old len was events more places blocks
      → StaysBeside shows kept moment left_since old.folder new.folder → closed ≡ true
      → ((front : List (List ℕ)) (late behind : List Event)
      → HoldsHere front old len was (late ++ behind) → HoldsHere front new new_len closed late)
      → HoldsOrLost shows kept sound moment left_since first new new_len closed events places
      blocks
  last_given_up first old new len new_len was closed events more places blocks (inl last) beside
      shut give =
      inl (like_given_up first old new len new_len was closed events more places blocks last beside
      (give (head_texts last.0.saved) last.0.late more last.0.journal))
  last_given_up first old new len new_len was closed events more places blocks (inr h) beside shut
      give =
      inr (saved_given_up first old new len new_len was closed events more places blocks h beside
      (give (head_texts h.0.saved) h.0.late []
      (none_behind (head_texts h.0.saved) old len was h.0.late h.0.journal)) shut)

  pub last_leaves : (first : Origin) (old new : JournalFile F) (len : ℕ) (was : Bool)
      (events more : List Event) (places : List Place) (blocks : List BlockPart)
      → IsLast shows kept sound moment left_since first old len was events more places blocks
      → StaysBeside shows kept moment left_since old.folder new.folder
      → ((front : List (List ℕ)) (late behind : List Event)
      → HoldsHere front old len was (late ++ behind)
      → media.LeavesOnly (λ (j : JournalFile F). moment j.folder)
      (λ (j : JournalFile F) (t : ℕ) (bytes : List ℕ). JournalLeft left_since j.folder t bytes)
      old new (StandsAndSome front late behind))
      → LeavesOnly moment left_since old.folder new.folder
      (StandsForThese first (AreAllAndSome events more))
  last_leaves first old new len was events more places blocks (inl last) beside leaves =
      let h = last.0 in
      store_leaves first old new h.saved h.parts h.early h.late events more h.all h.head h.begins
      h.blocks beside (leaves (head_texts h.saved) h.late more h.journal)
  last_leaves first old new len was events more places blocks (inr saved) beside leaves =
      let h = saved.0 in
      weaker moment left_since old.folder new.folder
      (StandsForThese first (AreAllAndSome (events ++ more) []))
      (StandsForThese first (AreAllAndSome events more))
      (λ left s. (s.0, s.1, all_some events more s.0 s.2.0 s.2.1))
      (store_leaves first old new h.saved h.parts h.early h.late (events ++ more) [] h.all h.head
      h.begins h.blocks beside
      (leaves (head_texts h.saved) h.late [] (none_behind (head_texts h.saved) old len was h.late
      h.journal)))

-- as a keeper says it
module _ {F : Type 0} (moment : F → ℕ) (left_since : F → ℕ → Left → Type 0) where
  pub each_kept : (first : Origin) (old new : F) (P : List Event → Type 0)
      → LeavesOnly moment left_since old new (StandsForThese first P) → (left : Left)
      → BytesSince left_since new (moment old) left
      → StandsForSome (λ (l : Left) (es : List Event). BytesStandFor first l es) P left
  each_kept first old new P h left had =
      let s = h.each left had.0 in (s.0, (had.1, s.1), s.2)

  pub before_kept : (first : Origin) (old new : F) (P : List Event → Type 0)
      → LeavesOnly moment left_since old new (StandsForThese first P) → (t : ℕ) (left : Left)
      → t ≤ moment old → BytesSince left_since new t left
      → BytesSince left_since old t left
      ⊎ StandsForSome (λ (l : Left) (es : List Event). BytesStandFor first l es) P left
  before_kept first old new P h t left le had =
      ⊎_elim (λ past. inl (past, had.1)) (λ s. inr (s.0, (had.1, s.1), s.2))
      (h.before t left le had.0)

  -- these events, and none of some more
  pub none_more : (first : Origin) (events more : List Event) (old new : F)
      → StartFinds moment left_since old new first events
      → LeavesOnly moment left_since old new (StandsForThese first (AreAllAndSome events more))
  none_more first events more old new h =
      let none : events ≡ events ++ take 0 more = sym (append-nil events) in
      record {
        later = h.later;
        each = λ left had. (events, h.each left had, (0, none));
        before = λ t left le had. ⊎_elim (λ past. inl past) (λ s. inr (events, s, (0, none)))
            (h.before t left le had);
      }

  -- these events, or all of some more as well
  pub none_or_all : (first : Origin) (events more : List Event) (old new : F)
      → StartFindsEither moment left_since old new first events (events ++ more)
      → LeavesOnly moment left_since old new (StandsForThese first (AreAllAndSome events more))
  none_or_all first events more old new h =
      weaker moment left_since old new (StandsForEither first events (events ++ more))
      (StandsForThese first (AreAllAndSome events more))
      (λ left is. ⊎_elim
      (λ s. (events, s, (0, sym (append-nil events))))
      (λ s. (events ++ more, s, all_more events more)) is) h

  -- exactly these events
  pub these_alone : (first : Origin) (events : List Event) (old new : F)
      → StartFinds moment left_since old new first events
      → LeavesOnly moment left_since old new (StandsForThese first (AreAll events))
  these_alone first events old new h = record {
    later = h.later;
    each = λ left had. (events, h.each left had, refl);
    before = λ t left le had. ⊎_elim (λ past. inl past) (λ s. inr (events, s, refl))
        (h.before t left le had);
  }
