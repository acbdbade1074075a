-- What holds of the tip of a store, from one of its steps to the next.
use Rattle.std.proofs.Common.{◌≡◌, ℕ, ◌+◌, ◌<◌, Bool, true, false, not, MatchBool, List, [], ◌∷◌, ◌++◌, length, slice_index, slice_set, refl, sym, ap, subst, ◌∙◌, arith, append_assoc}
use Rattle.std.proofs.lemmas.List.{append-nil, append_cancel_left, map_push}
use mathlib.Core.List.{IsPrefix}
use Rattle.head.specs.Heads.{SnapshotParts}
use Rattle.head.specs.Worlds.{Event}
use Rattle.snapshots.specs.declared.entry.Entry.{Entry}
use Rattle.snapshots.specs.declared.entry.Mark.{Mark}
use Rattle.snapshots.specs.declared.entry.Mark.TheVariants.{Try, Seal, Done, Void}
use Rattle.snapshots.specs.Keeping.{IsGroup, IsSealed, SpellAll, kept_of}
use Rattle.snapshots.specs.Marks.{accepted, list_of, tried_of}
use Rattle.snapshots.specs.Replays.{events_in, IsAfter, Steps}
use Rattle.snapshots.specs.Seats.{AreCounts}
use Rattle.snapshots.specs.Standings.{StandsFor, current}
use Rattle.snapshots.specs.Tips.{IsBehind}
use Rattle.snapshots.specs.Views.{Ledger}
use Rattle.snapshots.proofs.Accepts.{accepted_begins, accepted_begins_tried, accepted_seal, accepted_try, accepted_void, known, list_begins, list_done, list_seal, list_try, tried_done, tried_seal, tried_try}
use Rattle.snapshots.proofs.Counting.{counts_next}
use Rattle.snapshots.proofs.Keeps.{kept_more, spell_nothing}
use Rattle.snapshots.proofs.Prefixes.{prefix_length, prefix_self, prefix_trans, prefix_whole}
use Rattle.snapshots.proofs.Replaying.{after-snoc}

-- the list that the next event is tried after is all that was tried, unless that is given up
pub current_tried : (waits : Bool) (log : List Mark) → MatchBool waits (Unit {0}) (accepted log ≡ tried_of log)
    → current waits log ≡ tried_of log
current_tried true log settled = refl
current_tried false log settled = settled

-- what stands for a list stands for it by another name
pub stands_as : (opening : SnapshotParts) (xs ys : List Entry) (parts : SnapshotParts) (counts : List ℕ) → xs ≡ ys
    → StandsFor opening xs parts counts → StandsFor opening ys parts counts
stands_as opening xs ys parts counts same stands = subst (λ (z : List Entry). StandsFor opening z parts counts) same stands

-- and by other names of the snapshot and of the counts
pub stands_at : (opening : SnapshotParts) (xs : List Entry) (s t : SnapshotParts) (m n : List ℕ) → t ≡ s → n ≡ m
    → StandsFor opening xs s m → StandsFor opening xs t n
stands_at opening xs s t m n same equal stands = record {
  after = subst (λ (z : SnapshotParts). IsAfter opening xs z) (sym same) stands.after;
  counted = subst (λ (z : List ℕ). AreCounts z xs) (sym equal) stands.counted;
}

-- where nothing waits, nothing is sealed
none_listed : (xs : List Mark) → accepted xs ≡ tried_of xs → list_of xs ≡ tried_of xs
none_listed xs settled =
    prefix_whole (list_of xs) (tried_of xs) (list_begins xs)
    (let short = prefix_length (accepted xs) (list_of xs) (accepted_begins xs) in omega (arith, short, ap length settled))

-- what is set aside
pub behind_nothing : (opening : SnapshotParts) (idle : Bool) (log : List Mark) (parts : SnapshotParts) (counts bytes : List ℕ)
    → accepted log ≡ tried_of log → StandsFor opening (accepted log) parts counts → bytes ≡ []
    → IsBehind opening idle log parts counts bytes
behind_nothing opening idle log parts counts bytes settled stands none = record {
  stands = stands;
  waiting = record {
    more = [];
    parts = sym (none_listed log settled) ∙ sym (append-nil (list_of log));
    spelled = subst (λ (z : List ℕ). SpellAll idle [] z) (sym none) (spell_nothing idle);
  };
}

pub behind_set : (opening : SnapshotParts) (idle waits : Bool) (log : List Mark) (ahead base : SnapshotParts) (m n bytes : List ℕ)
    → waits ≡ false → StandsFor opening (current waits log) ahead m → MatchBool waits (Unit {0}) (accepted log ≡ tried_of log)
    → base ≡ ahead → n ≡ m → bytes ≡ [] → IsBehind opening idle log base n bytes
behind_set opening idle true log ahead base m n bytes not_waits stands settled same equal none = absurd (cc not_waits)
behind_set opening idle false log ahead base m n bytes not_waits stands settled same equal none =
    behind_nothing opening idle log base n bytes settled (stands_at opening (accepted log) ahead base m n same equal stands) none

pub behind_kept : (opening : SnapshotParts) (idle waits : Bool) (log : List Mark) (base : SnapshotParts) (n bytes : List ℕ)
    → waits ≡ true → MatchBool waits (IsBehind opening idle log base n bytes) (Unit {0}) → IsBehind opening idle log base n bytes
behind_kept opening idle true log base n bytes is behind = behind
behind_kept opening idle false log base n bytes is behind = absurd (cc is)

-- whether it is behind or not
pub behind_while : (waits : Bool) {P : Type 0} → P → MatchBool waits P (Unit {0})
behind_while true p = p
behind_while false p = tt

-- an event more was tried

pub tried_stands : (opening : SnapshotParts) (waits : Bool) (log tried : List Mark) (e : Entry) (s t : SnapshotParts) (counts : List ℕ) (number n : ℕ)
    → MatchBool waits (Unit {0}) (accepted log ≡ tried_of log) → tried ≡ log ++ Try e ∷ []
    → StandsFor opening (current waits log) s counts → Steps s e.event t
    → e.seat ≡ number → number < length counts → n ≡ slice_index counts number + 1
    → StandsFor opening (tried_of tried) t (slice_set counts number n)
tried_stands opening waits log tried e s t counts number n settled is stands step seat in_range more =
    let here : current waits log ≡ tried_of log = current_tried waits log settled in
    let all : tried_of tried ≡ current waits log ++ e ∷ [] = ap tried_of is ∙ (tried_try log e ∙ ap (λ (z : List Entry). z ++ e ∷ []) (sym here)) in
    record {
      after = subst (λ (z : List Entry). IsAfter opening z t) (sym all) (after-snoc opening (current waits log) e s t stands.after step);
      counted = counts_next counts (current waits log) (tried_of tried) e number n stands.counted all seat in_range more;
    }

pub tried_all : (waits : Bool) (log tried : List Mark) (e : Entry)
    → MatchBool waits (Unit {0}) (accepted log ≡ tried_of log) → tried ≡ log ++ Try e ∷ [] → tried_of tried ≡ current waits log ++ e ∷ []
tried_all waits log tried e settled is =
    ap tried_of is ∙ (tried_try log e ∙ ap (λ (z : List Entry). z ++ e ∷ []) (sym (current_tried waits log settled)))

pub tried_behind : (opening : SnapshotParts) (idle : Bool) (log tried : List Mark) (e : Entry) (s : SnapshotParts) (counts old new : List ℕ)
    → tried ≡ log ++ Try e ∷ [] → IsBehind opening idle log s counts old
    → ((events : List Event) → SpellAll idle events old → SpellAll idle (events ++ e.event ∷ []) new)
    → IsBehind opening idle tried s counts new
tried_behind opening idle log tried e s counts old new is behind spell =
    let w = behind.waiting in
    let events : events_in (w.more ++ e ∷ []) ≡ events_in w.more ++ e.event ∷ [] = map_push (λ (x : Entry). x.event) w.more e in
    record {
      stands = stands_as opening (accepted log) (accepted tried) s counts (sym (ap accepted is ∙ accepted_try log e)) behind.stands;
      waiting = record {
        more = w.more ++ e ∷ [];
        parts = ap tried_of is ∙ (tried_try log e ∙ (ap (λ (z : List Entry). z ++ e ∷ []) w.parts ∙ (append_assoc (list_of log) w.more (e ∷ [])
            ∙ ap (λ (z : List Entry). z ++ (w.more ++ e ∷ [])) (sym (ap list_of is ∙ list_try log e)))));
        spelled = subst (λ (z : List Event). SpellAll idle z new) (sym events) (spell (events_in w.more) w.spelled);
      };
    }

-- all that waits was sealed

sealed_whole : (log sealed : List Mark) → sealed ≡ log ++ Seal ∷ [] → list_of sealed ≡ tried_of sealed
sealed_whole log sealed is = ap list_of is ∙ (list_seal log ∙ sym (ap tried_of is ∙ tried_seal log))

pub sealed_group : (opening : SnapshotParts) (idle : Bool) (log sealed : List Mark) (s t : SnapshotParts) (m n bytes : List ℕ)
    → sealed ≡ log ++ Seal ∷ [] → accepted log ≡ list_of log → StandsFor opening (tried_of log) s m → IsBehind opening idle log t n bytes
    → IsGroup opening idle sealed s m bytes
sealed_group opening idle log sealed s t m n bytes is unsealed stands behind =
    let listed : list_of sealed ≡ tried_of log = ap list_of is ∙ list_seal log in
    let w = behind.waiting in
    record {
      whole = sealed_whole log sealed is;
      stands = stands_as opening (tried_of log) (list_of sealed) s m (sym listed) stands;
      waiting = record {
        more = w.more;
        parts = listed ∙ (w.parts ∙ ap (λ (z : List Entry). z ++ w.more) (sym unsealed ∙ sym (ap accepted is ∙ accepted_seal log)));
        spelled = w.spelled;
      };
    }

pub sealed_stands : (opening : SnapshotParts) (log sealed : List Mark) (s : SnapshotParts) (m : List ℕ)
    → sealed ≡ log ++ Seal ∷ [] → StandsFor opening (tried_of log) s m → StandsFor opening (tried_of sealed) s m
sealed_stands opening log sealed s m is stands =
    stands_as opening (tried_of log) (tried_of sealed) s m (sym (ap tried_of is ∙ tried_seal log)) stands

pub sealed_behind : (opening : SnapshotParts) (idle : Bool) (log sealed : List Mark) (t : SnapshotParts) (n new : List ℕ)
    → sealed ≡ log ++ Seal ∷ [] → StandsFor opening (accepted log) t n → new ≡ [] → IsBehind opening idle sealed t n new
sealed_behind opening idle log sealed t n new is stands none = record {
  stands = stands_as opening (accepted log) (accepted sealed) t n (sym (ap accepted is ∙ accepted_seal log)) stands;
  waiting = record {
    more = [];
    parts = ap tried_of is ∙ (tried_seal log ∙ (sym (ap list_of is ∙ list_seal log) ∙ sym (append-nil (list_of sealed))));
    spelled = subst (λ (z : List ℕ). SpellAll idle [] z) (sym none) (spell_nothing idle);
  };
}

pub sealed_as : (opening : SnapshotParts) (log other : List Mark) (s t : SnapshotParts) (m n : List ℕ)
    → other ≡ log → t ≡ s → n ≡ m → IsSealed opening log s m → IsSealed opening other t n
sealed_as opening log other s t m n a b d is_sealed =
    subst (λ (z : List Mark). IsSealed opening z t n) (sym a)
    (subst (λ (z : SnapshotParts). IsSealed opening log z n) (sym b)
    (subst (λ (z : List ℕ). IsSealed opening log s z) (sym d) is_sealed))

current_rests : (waits : Bool) (log : List Mark) → waits ≡ false → current waits log ≡ accepted log
current_rests true log is = absurd (cc is)
current_rests false log is = refl

-- an event was tried while nothing waited, and sealed at once
module _ (opening : SnapshotParts) (waits : Bool) (log tried sealed : List Mark) (e : Entry) (rests : waits ≡ false)
    (settled : MatchBool waits (Unit {0}) (accepted log ≡ tried_of log)) (is_try : tried ≡ log ++ Try e ∷ []) (is_seal : sealed ≡ tried ++ Seal ∷ []) where
  pub alone_tried : tried_of sealed ≡ current waits log ++ e ∷ []
  alone_tried = ap tried_of is_seal ∙ (tried_seal tried ∙ tried_all waits log tried e settled is_try)

  try_accepted : accepted tried ≡ accepted log
  try_accepted = ap accepted is_try ∙ accepted_try log e

  pub alone_accepted : accepted sealed ≡ accepted log
  alone_accepted = ap accepted is_seal ∙ (accepted_seal tried ∙ try_accepted)

  pub alone_stands : (s t : SnapshotParts) (counts new : List ℕ) (number n : ℕ)
      → StandsFor opening (current waits log) s counts → Steps s e.event t
      → e.seat ≡ number → number < length counts → n ≡ slice_index counts number + 1 → new ≡ slice_set counts number n
      → StandsFor opening (tried_of sealed) t new
  alone_stands s t counts new number n stands step seat in_range more is =
      stands_at opening (tried_of sealed) t t (slice_set counts number n) new refl is
      (sealed_stands opening tried sealed t (slice_set counts number n) is_seal
      (tried_stands opening waits log tried e s t counts number n settled is_try stands step seat in_range more))

  pub alone_behind : (idle : Bool) (s t : SnapshotParts) (m n bytes : List ℕ) → StandsFor opening (current waits log) s m
      → t ≡ s → n ≡ m → bytes ≡ [] → IsBehind opening idle sealed t n bytes
  alone_behind idle s t m n bytes stands same equal none =
      sealed_behind opening idle tried sealed t n bytes is_seal
      (stands_at opening (accepted tried) s t m n same equal
      (stands_as opening (current waits log) (accepted tried) s m (current_rests waits log rests ∙ sym try_accepted) stands)) none

  pub alone_sealed : (t : SnapshotParts) (n : List ℕ) → StandsFor opening (tried_of sealed) t n → IsSealed opening sealed t n
  alone_sealed t n stands =
      let whole = sealed_whole tried sealed is_seal in
      record { whole = whole; stands = stands_as opening (tried_of sealed) (list_of sealed) t n (sym whole) stands }

-- while something waits
pub current_waits : (waits : Bool) (log : List Mark) → waits ≡ true → current waits log ≡ tried_of log
current_waits true log is = refl
current_waits false log is = absurd (cc is)

-- what was sealed is published

module _ (opening : SnapshotParts) (group log : List Mark) (s : SnapshotParts) (counts : List ℕ)
    (is_sealed : IsSealed opening group s counts) (lists : list_of log ≡ tried_of group) where
  pub listed : list_of log ≡ list_of group
  listed = lists ∙ sym is_sealed.whole

  module _ (done : List Mark) (is : done ≡ log ++ Done ∷ []) where
    pub accepted_done : accepted done ≡ list_of group
    accepted_done = ap accepted is ∙ listed

    -- nothing is sealed in it
    pub done_whole : accepted done ≡ list_of done
    done_whole = ap accepted is ∙ sym (ap list_of is ∙ list_done log)

    -- what was published before begins it
    pub done_begins : (entries : List Entry) → entries ≡ accepted group → IsPrefix entries (accepted done)
    done_begins entries same =
        let begins = accepted_begins group in
        (begins.0, ap (λ (z : List Entry). z ++ begins.0) same ∙ (begins.1 ∙ sym accepted_done))

    pub done_stands : (settled : Bool) (t : SnapshotParts) (n : List ℕ) → MatchBool settled (accepted done ≡ tried_of done) (Unit {0})
        → StandsFor opening (tried_of log) t n → StandsFor opening (current (not settled) done) t n
    done_stands true t n all stands =
        stands_as opening (tried_of log) (accepted done) t n (sym (all ∙ (ap tried_of is ∙ tried_done log))) stands
    done_stands false t n all stands = stands_as opening (tried_of log) (tried_of done) t n (sym (ap tried_of is ∙ tried_done log)) stands

    pub done_current : (settled waits : Bool) → MatchBool settled (accepted done ≡ tried_of done) (Unit {0}) → waits ≡ true
        → current (not settled) done ≡ current waits log
    done_current true waits all waiting = all ∙ (ap tried_of is ∙ (tried_done log ∙ sym (current_waits waits log waiting)))
    done_current false waits all waiting = ap tried_of is ∙ (tried_done log ∙ sym (current_waits waits log waiting))

    pub done_behind : (idle : Bool) (t : SnapshotParts) (n records : List ℕ) → IsBehind opening idle log t n records
        → IsBehind opening idle done s counts records
    done_behind idle t n records behind =
        let w = behind.waiting in
        record {
          stands = stands_as opening (list_of group) (accepted done) s counts (sym accepted_done) is_sealed.stands;
          waiting = record {
            more = w.more;
            parts = ap tried_of is ∙ (tried_done log ∙ (w.parts ∙ ap (λ (z : List Entry). z ++ w.more) (sym (ap list_of is ∙ list_done log))));
            spelled = w.spelled;
          };
        }

-- what waits was given up

pub back_stands : {S : Type 0} (parts : S → SnapshotParts) (counts : S → List ℕ) (opening : SnapshotParts) (idle waits : Bool) (log : List Mark) (ahead base new : S) (bytes : List ℕ)
    → MatchBool waits (new ≡ base) (new ≡ ahead)
    → StandsFor opening (current waits log) (parts ahead) (counts ahead) → MatchBool waits (IsBehind opening idle log (parts base) (counts base) bytes) (Unit {0})
    → StandsFor opening (accepted log) (parts new) (counts new)
back_stands parts counts opening idle true log ahead base new bytes is stands behind =
    stands_at opening (accepted log) (parts base) (parts new) (counts base) (counts new) (ap parts is) (ap counts is) behind.stands
back_stands parts counts opening idle false log ahead base new bytes is stands behind =
    stands_at opening (accepted log) (parts ahead) (parts new) (counts ahead) (counts new) (ap parts is) (ap counts is) stands

-- and the log says so
pub void_current : (waits : Bool) (log void : List Mark) → waits ≡ false → void ≡ log ++ Void ∷ [] → current waits void ≡ current waits log
void_current true log void not_waits is = absurd (cc not_waits)
void_current false log void not_waits is = ap accepted is ∙ accepted_void log

-- by whether something waits
pub stands_tried : (opening : SnapshotParts) (waits : Bool) (log : List Mark) (s : SnapshotParts) (counts : List ℕ) → waits ≡ true
    → StandsFor opening (current waits log) s counts → StandsFor opening (tried_of log) s counts
stands_tried opening true log s counts is stands = stands
stands_tried opening false log s counts is stands = absurd (cc is)

pub none_behind : (waits : Bool) (P : Type 0) → waits ≡ false → MatchBool waits P (Unit {0})
none_behind true P is = absurd (cc is)
none_behind false P is = tt

pub sealed_current : (waits : Bool) (log sealed : List Mark) → sealed ≡ log ++ Seal ∷ [] → current waits sealed ≡ current waits log
sealed_current true log sealed is = ap tried_of is ∙ tried_seal log
sealed_current false log sealed is = ap accepted is ∙ accepted_seal log

-- tips that differ in nothing but how their lists are written
pub same_ledger : (us vs xs ys : List Entry) (counts : List ℕ) (parts : SnapshotParts) → us ≡ vs → xs ≡ ys
    → ◌≡◌ {A = Ledger} (record { published = us; entries = xs; counts = counts; parts = parts })
    (record { published = vs; entries = ys; counts = counts; parts = parts })
same_ledger us vs xs ys counts parts d e = λ i. record { published = d i; entries = e i; counts = counts; parts = parts }

-- a group by other names
pub group_as : (opening : SnapshotParts) (idle : Bool) (log other : List Mark) (s t : SnapshotParts) (m n old new : List ℕ)
    → other ≡ log → t ≡ s → n ≡ m → new ≡ old → IsGroup opening idle log s m old → IsGroup opening idle other t n new
group_as opening idle log other s t m n old new a b d e is_group =
    subst (λ (z : List Mark). IsGroup opening idle z t n new) (sym a)
    (subst (λ (z : SnapshotParts). IsGroup opening idle log z n new) (sym b)
    (subst (λ (z : List ℕ). IsGroup opening idle log s z new) (sym d)
    (subst (λ (z : List ℕ). IsGroup opening idle log s m z) (sym e) is_group)))

-- what is accepted begins the list that the next event is tried after
pub seen_begins : (waits : Bool) (xs ys : List Mark) (seen : List Entry) → IsPrefix seen (accepted xs) → IsPrefix xs ys → IsPrefix seen (current waits ys)
seen_begins true xs ys seen is p = prefix_trans seen (accepted ys) (tried_of ys) (known xs ys seen is p) (accepted_begins_tried ys)
seen_begins false xs ys seen is p = known xs ys seen is p

pub published_begins : (waits : Bool) (log : List Mark) → IsPrefix (accepted log) (current waits log)
published_begins true log = accepted_begins_tried log
published_begins false log = prefix_self (accepted log)

-- the events of a group
module _ (group : List Mark) (xs : List Entry) (follows : accepted group ≡ xs) where
  abbrev pub more_of : List Entry
  more_of = (accepted_begins group).0

  pub group_parts : list_of group ≡ xs ++ more_of
  group_parts = sym (accepted_begins group).1 ∙ ap (λ (z : List Entry). z ++ more_of) follows

  pub group_kept : (before : List Event) (entries : List Entry) → entries ≡ list_of group
      → kept_of before entries ≡ kept_of before xs ++ events_in more_of
  group_kept before entries is = ap (kept_of before) (is ∙ group_parts) ∙ kept_more before xs more_of

  pub group_spelled : (opening : SnapshotParts) (idle : Bool) (s : SnapshotParts) (counts bytes : List ℕ) → IsGroup opening idle group s counts bytes
      → (more : List Entry) → list_of group ≡ xs ++ more → SpellAll idle (events_in more) bytes
  group_spelled opening idle s counts bytes is_group more is =
      let w = is_group.waiting in
      subst (λ (z : List Entry). SpellAll idle (events_in z) bytes)
      (append_cancel_left xs w.more more (sym (w.parts ∙ ap (λ (z : List Entry). z ++ w.more) follows) ∙ is)) w.spelled

pub group_sealed : (opening : SnapshotParts) (idle : Bool) (group : List Mark) (s : SnapshotParts) (counts bytes : List ℕ)
    → IsGroup opening idle group s counts bytes → IsSealed opening group s counts
group_sealed opening idle group s counts bytes is_group = record { whole = is_group.whole; stands = is_group.stands }

-- what is not as short as what is accepted does not begin it
pub none_begins : (xs ys : List Entry) (m n : ℕ) → m ≡ length xs → n ≡ length ys → n < m → IsPrefix xs ys → ⊥
none_begins xs ys m n is equal less p = absurd (let short = prefix_length xs ys p in omega (arith, short, is, equal))
