-- Calls of a folder that is a log.
use Rattle.std.proofs.Common.{◌≡◌, ◌⊎◌, inr, ℕ, ◌≤◌, List, ◌++◌, Option, Some, length, min, max}
use Rattle.std.proofs.Common.{take, sym, ap, subst, ◌∙◌, arith}
use Rattle.std.proofs.lemmas.List.{take_all}
use Rattle.journal.proofs.Fronts.{front_of_cut}
use Rattle.logged_folder.specs.declared.Entry.{Entry}
use Rattle.logged_folder.specs.declared.LoggedFolder.{LoggedFolder}
use Rattle.data_folder.specs.Folders.{Elapses, HasFile, KeepsAll, Left, LeavesAll, MayLeaveOf}
use Rattle.logged_folder.specs.Logged.{LeftSince, Pushes, State, logged_kept, logged_shows}
use Rattle.logged_folder.specs.Logged.{state_of}
use Rattle.logged_folder.specs.LoggedLaws.{less}
use Rattle.logged_folder.proofs.Logs.{at_most, is_or_not, other_state, own_state, time_goes}

abbrev pub some : List ℕ → Option (List ℕ)
some x = Some x

pub same_some : (a b : List ℕ) → some a ≡ Some b → a ≡ b
same_some a b e = cc

abbrev with : Option (List ℕ) → ℕ → State
with bytes synced = record { bytes = bytes; synced = synced }

pub grown_so : (old new : List Entry) (name more had bytes : List ℕ)
    → (state_of name old).bytes ≡ Some had
    → Pushes name (with (Some (had ++ more)) (state_of name old).synced) old new
    → (state_of name old).bytes ≡ Some bytes → (state_of name new).bytes ≡ Some (bytes ++ more)
grown_so old new name more had bytes is p shown =
    ap (λ (s : State). s.bytes)
    (own_state name (with (Some (had ++ more)) (state_of name old).synced) old new p)
    ∙ ap (λ (x : List ℕ). some (x ++ more)) (same_some had bytes (sym is ∙ shown))

-- what is left of bytes that grow
pub grown : (after : List ℕ → List ℕ) (n synced : ℕ) (had bytes : List ℕ)
    (found : Option (List ℕ)) → some had ≡ Some bytes → n ≤ synced
    → MayLeaveOf synced (Some (after had)) found → MayLeaveOf n (Some (after bytes)) found
grown after n synced had bytes found same le m =
    subst (λ (x : List ℕ). MayLeaveOf n (Some (after x)) found) (same_some had bytes same)
    (less n synced (Some (after had)) found le m)

pub settled : (old new : LoggedFolder) (name had bytes : List ℕ)
    → (state_of name old.log.items).bytes ≡ Some had
    → Pushes name (with (Some had) (max (state_of name old.log.items).synced (length had)))
    old.log.items new.log.items
    → (state_of name old.log.items).bytes ≡ Some bytes
    → HasFile logged_shows logged_kept name bytes new
settled old new name had bytes is p shown =
    let same = same_some had bytes (sym is ∙ shown) in
    let state =
    own_state name (with (Some had) (max (state_of name old.log.items).synced (length had)))
    old.log.items new.log.items p in
    let long : length bytes ≡ length had = ap (λ (x : List ℕ). length x) (sym same) in
    record {
      shown = ap (λ (s : State). s.bytes) state ∙ ap (λ (x : List ℕ). some x) same;
      durable = subst (λ (s : State). length bytes ≤ s.synced) (sym state)
          (omega (arith, long));
    }

pub cut_so : (old new : List Entry) (name : List ℕ) (len : ℕ) (had bytes : List ℕ)
    → (state_of name old).bytes ≡ Some had → Pushes name (with (Some (take len had)) len) old new
    → (state_of name old).bytes ≡ Some bytes
    → (state_of name new).bytes ≡ Some (take len bytes)
cut_so old new name len had bytes is p shown =
    ap (λ (s : State). s.bytes) (own_state name (with (Some (take len had)) len) old new p)
    ∙ ap (λ (x : List ℕ). some (take len x)) (same_some had bytes (sym is ∙ shown))

pub cut_left : (len n : ℕ) (had bytes : List ℕ) (found : Option (List ℕ))
    → some had ≡ Some bytes → MayLeaveOf len (Some (take len had)) found
    → MayLeaveOf (min len n) (Some bytes) found
cut_left len n had bytes found same m =
    subst (λ (x : List ℕ). MayLeaveOf (min len n) (Some x) found) (same_some had bytes same) (
      m.0,
      m.1,
      front_of_cut (min len n) len had m.0 (omega arith) m.2,
    )

pub linked : (old : LoggedFolder) (from bytes had : List ℕ) (found : Option (List ℕ)) (n : ℕ)
    (x : Option (List ℕ)) → some had ≡ Some bytes
    → logged_kept old from (length bytes)
    → MayLeaveOf (state_of from old.log.items).synced (Some had) found
    → MayLeaveOf n x found ⊎ (found ≡ Some bytes)
linked old from bytes had found n x same kept m =
    let is = same_some had bytes same in
    let long : length had ≡ length bytes = ap (λ (x : List ℕ). length x) is in
    inr (m.1
    ∙ (ap (λ (x : List ℕ). some x)
    (m.2.front ∙ (take_all m.2.n had (omega (arith, m.2.kept, kept, long)) ∙ is))))

-- a file is synced and read

pub all_settled : (old new : LoggedFolder) (name had : List ℕ)
    → (state_of name old.log.items).bytes ≡ Some had
    → Pushes name (with (Some had) (max (state_of name old.log.items).synced (length had)))
    old.log.items new.log.items → KeepsAll logged_shows logged_kept old new
all_settled old new name had is p =
    let now = with (Some had) (max (state_of name old.log.items).synced (length had)) in
    let own = own_state name now old.log.items new.log.items p in
    record {
      same = λ other x shown. is_or_not ((state_of other new.log.items).bytes ≡ x) other name
          (λ same. subst (λ (y : List ℕ). (state_of y old.log.items).bytes ≡ x
          → (state_of y new.log.items).bytes ≡ x) (sym same)
          (λ seen. ap (λ (s : State). s.bytes) own ∙ (sym is ∙ seen)) shown)
          (λ away. ap (λ (s : State). s.bytes)
          (other_state name other now old.log.items new.log.items p away) ∙ shown);
      durable = λ other n kept. is_or_not (n ≤ (state_of other new.log.items).synced) other name
          (λ same. subst (λ (y : List ℕ). n ≤ (state_of y old.log.items).synced
          → n ≤ (state_of y new.log.items).synced) (sym same)
          (λ seen. subst (λ (s : State). n ≤ s.synced) (sym own) (omega (arith, seen))) kept)
          (λ away. subst (λ (s : State). n ≤ s.synced)
          (sym (other_state name other now old.log.items new.log.items p away)) kept);
    }

pub read_time : (old new : LoggedFolder) (name had : List ℕ)
    → (state_of name old.log.items).bytes ≡ Some had
    → Pushes name (with (Some had) (max (state_of name old.log.items).synced (length had)))
    old.log.items new.log.items
    → Elapses (length old.log.items) (length new.log.items)
    (λ (t : ℕ) (left : Left). LeftSince old.log.items t left)
    (λ (t : ℕ) (left : Left). LeftSince new.log.items t left)
    (LeavesAll logged_shows logged_kept old)
read_time old new name had is p =
    let now = with (Some had) (max (state_of name old.log.items).synced (length had)) in
    let k = all_settled old new name had is p in
    time_goes old.log.items new.log.items name now (LeavesAll logged_shows logged_kept old) p
    (λ left all other x n shown kept.
    at_most new.log.items other x n left (k.same other x shown) (k.durable other n kept)
    (all other))

pub found_so : (new : LoggedFolder) (old : LoggedFolder) (name had : List ℕ)
    → Pushes name (with (Some had) (max (state_of name old.log.items).synced (length had)))
    old.log.items new.log.items → HasFile logged_shows logged_kept name had new
found_so new old name had p =
    let now = with (Some had) (max (state_of name old.log.items).synced (length had)) in
    let own = own_state name now old.log.items new.log.items p in
    record {
      shown = ap (λ (s : State). s.bytes) own;
      durable = subst (λ (s : State). length had ≤ s.synced) (sym own) (omega arith);
    }
