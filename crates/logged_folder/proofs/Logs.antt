-- One entry more in a log.
use Rattle.std.proofs.Common.{◌≡◌, ◌≢◌, inl, inr, ℕ, zero, suc, ◌+◌, ◌≤◌, Bool, true, false, List, []}
use Rattle.std.proofs.Common.{◌∷◌, ◌++◌, Option, None, Some, length, take, refl, sym, ap, subst, ◌∙◌, arith}
use Rattle.std.specs.Prelude.{if◌then◌else◌, slice_get, string_bytes}
use Rattle.std.specs.Str.{bytes_eq}
use Rattle.std.proofs.lemmas.Bool.{cases_lt}
use Rattle.std.proofs.lemmas.List.{length-append, take_all, take_more}
use Rattle.std.proofs.lemmas.Option.{get_or_from_slice_get, slice_get_within}
use Rattle.std.proofs.lemmas.Slice.Eq.{bytes_eq-Decides}
use Rattle.logged_folder.specs.declared.Entry.{Entry}
use Rattle.logged_folder.specs.declared.LoggedFolder.{LoggedFolder}
use Rattle.data_folder.specs.Folders.{Elapses, KeepsAll, KeepsOthers, Left, LeavesOthers}
use Rattle.data_folder.specs.Folders.{MayLeaveOf}
use Rattle.logged_folder.specs.Logged.{IsAt, IsAtAmong, LeftSince, MayLeaveAll, Pushes, State}
use Rattle.logged_folder.specs.Logged.{logged_kept}
use Rattle.logged_folder.specs.Logged.{logged_shows, nothing, state_after, state_in, state_of}
use Rattle.logged_folder.specs.LoggedLaws.{less}

abbrev Log : Type 0
Log = List Entry

pub after_push : (name : List ℕ) (s : State) (log : Log) (e : Entry)
    → state_after name s (log ++ e ∷ [])
    ≡ (if bytes_eq (string_bytes e.name) name then state_in e else state_after name s log)
after_push name s [] e = refl
after_push name s (x ∷ log) e =
    after_push name (if bytes_eq (string_bytes x.name) name then state_in x else s) log e

by_true : (b : Bool) (x y : State) → b ≡ true → (if b then x else y) ≡ x
by_true true x y e = refl
by_true false x y e = absurd cc

by_false : (b : Bool) (x y : State) → b ≡ false → (if b then x else y) ≡ y
by_false true x y e = absurd cc
by_false false x y e = refl

false_unless : (b : Bool) → (b ≡ true → ⊥) → b ≡ false
false_unless true h = absurd (h refl)
false_unless false h = refl

pub own_state : (name : List ℕ) (state : State) (old new : Log) → Pushes name state old new
    → state_of name new ≡ state
own_state name state old new p =
    ap (λ (l : Log). state_of name l) p.pushed
    ∙ (after_push name nothing old p.entry
    ∙ (by_true (bytes_eq (string_bytes p.entry.name) name) (state_in p.entry) (state_of name old)
    ((bytes_eq-Decides (string_bytes p.entry.name) name).1 p.named) ∙ p.says))

pub other_state : (name other : List ℕ) (state : State) (old new : Log)
    → Pushes name state old new → other ≢ name → state_of other new ≡ state_of other old
other_state name other state old new p away =
    ap (λ (l : Log). state_of other l) p.pushed
    ∙ (after_push other nothing old p.entry
    ∙ by_false (bytes_eq (string_bytes p.entry.name) other) (state_in p.entry) (state_of other old)
    (false_unless (bytes_eq (string_bytes p.entry.name) other)
    (λ t. away (sym ((bytes_eq-Decides (string_bytes p.entry.name) other).0 t) ∙ p.named))))

one_longer : (name : List ℕ) (state : State) (old new : Log) → Pushes name state old new
    → length new ≡ length old + 1
one_longer name state old new p =
    ap (λ (l : Log). length l) p.pushed ∙ length-append old (p.entry ∷ [])

front_of : (k : ℕ) (a b : Log) → k ≤ length a → take k (a ++ b) ≡ take k a
front_of zero a b le = refl
front_of (suc k) [] b le = absurd (omega (arith, le))
front_of (suc k) (x ∷ a) b le =
    ap (λ (l : Log). x ∷ l) (front_of k a b (omega (arith, le)))

same_front : (name : List ℕ) (state : State) (old new : Log) (k : ℕ) → Pushes name state old new
    → k ≤ length old → take k new ≡ take k old
same_front name state old new k p le =
    ap (λ (l : Log). take k l) p.pushed ∙ front_of k old (p.entry ∷ []) le

leaves_of : (l : Log) (name : List ℕ) (s : State) (left : Left) → state_of name l ≡ s
    → MayLeaveAll l left → MayLeaveOf s.synced s.bytes (left name)
leaves_of l name s left is all =
    subst (λ (x : State). MayLeaveOf x.synced x.bytes (left name)) is (all name)

pub at_most : (l : Log) (name : List ℕ) (x : Option (List ℕ)) (n : ℕ) (left : Left)
    → (state_of name l).bytes ≡ x → n ≤ (state_of name l).synced
    → MayLeaveOf (state_of name l).synced (state_of name l).bytes (left name)
    → MayLeaveOf n x (left name)
at_most l name x n left shown kept m =
    subst (λ (y : Option (List ℕ)). MayLeaveOf n y (left name)) shown
    (less n (state_of name l).synced (state_of name l).bytes (left name) kept m)

-- names

pub others_kept : (old new : LoggedFolder) (a name : List ℕ) (state : State)
    → Pushes name state old.log.items new.log.items
    → KeepsOthers logged_shows logged_kept a name old new
others_kept old new a name state p = record {
  same = λ other x first second shown.
      ap (λ (s : State). s.bytes)
      (other_state name other state old.log.items new.log.items p second) ∙ shown;
  durable = λ other n first second kept.
      subst (λ (s : State). n ≤ s.synced)
      (sym (other_state name other state old.log.items new.log.items p second)) kept;
}

pub all_same : (old new : LoggedFolder) (a b : List ℕ) → new.log.items ≡ old.log.items
    → KeepsOthers logged_shows logged_kept a b old new
all_same old new a b is = record {
  same = λ other x first second shown.
      ap (λ (l : Log). (state_of other l).bytes) is ∙ shown;
  durable = λ other n first second kept.
      subst (λ (l : Log). n ≤ (state_of other l).synced) (sym is) kept;
}

pub all_kept : (old new : LoggedFolder) → new.log.items ≡ old.log.items
    → KeepsAll logged_shows logged_kept old new
all_kept old new is = record {
  same = λ other x shown. ap (λ (l : Log). (state_of other l).bytes) is ∙ shown;
  durable = λ other n kept. subst (λ (l : Log). n ≤ (state_of other l).synced) (sym is) kept;
}

-- time

abbrev pub record_of : Option (List ℕ) → ℕ → State
record_of bytes synced = record { bytes = bytes; synced = synced }

abbrev left_of : Log → ℕ → Left → Type 0
left_of log t left = LeftSince log t left

pub same_time : (old new : Log) (P : Left → Type 0) → new ≡ old
    → Elapses (length old) (length new) (left_of old) (left_of new) P
same_time old new P is =
    let len : length new ≡ length old = ap (λ (l : Log). length l) is in
    record {
      later = omega (arith, len);
      nothing_else = λ t left le had. inl (subst (λ (l : Log). LeftSince l t left) is had);
      keeps = λ t left le had. subst (λ (l : Log). LeftSince l t left) (sym is) had;
    }

pub time_goes : (old new : Log) (name : List ℕ) (state : State) (P : Left → Type 0)
    → Pushes name state old new → ((left : Left) → MayLeaveAll new left → P left)
    → Elapses (length old) (length new) (left_of old) (left_of new) P
time_goes old new name state P p own =
    let len = one_longer name state old new p in
    record {
      later = omega (arith, len);
      nothing_else = λ t left le had.
          elim (cases_lt (length old) had.0) [
            | inl lt ↦ inr (
              (had.0, omega (arith, lt), had.2, had.3),
              own left (subst (λ (l : Log). MayLeaveAll l left)
                  (take_all had.0 new (omega (arith, len, lt))) had.3),
            )
            | inr ge ↦ inl (
              had.0,
              had.1,
              ge,
              subst (λ (l : Log). MayLeaveAll l left) (same_front name state old new had.0 p ge)
                  had.3,
            )
          ];
      keeps = λ t left le had. (
        had.0,
        had.1,
        omega (arith, had.2, len),
        subst (λ (l : Log). MayLeaveAll l left) (sym (same_front name state old new had.0 p had.2))
            had.3,
      );
    }

pub others_time : (old : LoggedFolder) (new : Log) (a name : List ℕ) (state : State)
    (P : Left → Type 0) → Pushes name state old.log.items new
    → ((left : Left) → MayLeaveOf state.synced state.bytes (left name) → P left)
    → Elapses (length old.log.items) (length new) (left_of old.log.items) (left_of new)
    (LeavesOthers logged_shows logged_kept a name old P)
others_time old new a name state P p own =
    time_goes old.log.items new name state (LeavesOthers logged_shows logged_kept a name old P) p
    (λ left all. record {
      others = λ other x n first second shown kept.
          at_most old.log.items other x n left shown kept
          (leaves_of new other (state_of other old.log.items) left
          (other_state name other state old.log.items new p second) all);
      own = own left (leaves_of new name state left (own_state name state old.log.items new p) all);
    })

-- an entry that is pushed

pub one_pushed : (e : Entry) (name : List ℕ) (old new : Log) → new ≡ old ++ e ∷ []
    → string_bytes e.name ≡ name → Pushes name (state_in e) old new
one_pushed e name old new is named =
    record { entry = e; named = named; says = refl; pushed = is }

pub push_from : (name : List ℕ) (s t : State) (old mid new : Log) → Pushes name s mid new
    → mid ≡ old → s ≡ t → Pushes name t old new
push_from name s t old mid new p is same =
    subst (λ (l : Log). Pushes name t l new) is
    (subst (λ (x : State). Pushes name x mid new) same p)

pub state_with : (a b : Option (List ℕ)) (m n : ℕ) → a ≡ b → m ≡ n
    → record_of a m ≡ record_of b n
state_with a b m n same count =
    ap (λ (x : Option (List ℕ)). record_of x m) same ∙ ap (λ (k : ℕ). record_of b k) count

-- a name by its bytes

pub is_or_not : (A : Type 0) (x y : List ℕ) → (x ≡ y → A) → (x ≢ y → A) → A
is_or_not A x y same other = by_test (bytes_eq x y) refl
  where
    by_test : (b : Bool) → bytes_eq x y ≡ b → A
    by_test true e = same ((bytes_eq-Decides x y).0 e)
    by_test false e =
        other (λ is. let t : bytes_eq x y ≡ true = (bytes_eq-Decides x y).1 is in absurd cc)

-- the last entry of a name, entry by entry

pub one_on : (log : Log) (name : List ℕ) (i : ℕ) (e : Entry) (found : Option ℕ)
    → slice_get log i ≡ Some e → IsAtAmong log name i found
    → IsAtAmong log name (i + 1)
    (if bytes_eq (string_bytes e.name) name then Some i else found)
one_on log name i e found is h =
    step (bytes_eq (string_bytes e.name) name) found
    (ap (λ (l : Log). state_of name l)
    (take_more log i e (slice_get_within log i e is)
    ∙ ap (λ (x : Entry). take i log ++ x ∷ []) (get_or_from_slice_get log i e e is))
    ∙ after_push name nothing (take i log) e) h
  where
    step : (b : Bool) (found : Option ℕ)
        → state_of name (take (i + 1) log)
        ≡ (if b then state_in e else state_of name (take i log))
        → IsAtAmong log name i found
        → IsAtAmong log name (i + 1) (if b then Some i else found)
    step true found next h = (e, is, next)
    step false None next h = next ∙ h
    step false (Some j) next h = (h.0, h.1, next ∙ h.2)

pub at_end : (log : Log) (name : List ℕ) (n : ℕ) (found : Option ℕ) → length log ≤ n
    → IsAtAmong log name n found → IsAt log name found
at_end log name n None le h =
    subst (λ (l : Log). state_of name l ≡ nothing) (take_all n log le) h
at_end log name n (Some i) le h =
    (h.0, h.1, subst (λ (l : Log). state_of name l ≡ state_in h.0) (take_all n log le) h.2)
