-- A file that has a front of some bytes more.
use Rattle.std.proofs.Common.{◌≡◌, inl, inr, ℕ, ◌≤◌, List, ◌++◌, Option, Some, length, take}
use Rattle.std.proofs.Common.{sym, ap, subst, ◌∙◌}
use Rattle.std.proofs.lemmas.List.{append-nil}
use Rattle.journal.proofs.Fronts.{front_of_part}
use Rattle.data_folder.specs.Folders.{Elapses, KeepsOthers, Left, LeavesOthers, MayGrow, MayLeaveOf}
use Rattle.logged_folder.specs.declared.Entry.{Entry}
use Rattle.logged_folder.specs.declared.LoggedFolder.{LoggedFolder}
use Rattle.logged_folder.specs.Logged.{LeftSince, MayGrowInPart, State, logged_kept}
use Rattle.logged_folder.specs.Logged.{logged_shows, state_of}
use Rattle.logged_folder.proofs.LogCalls.{grown, grown_so, some}
use Rattle.logged_folder.proofs.Logs.{all_same, others_kept, others_time, own_state, same_time}

pub part_from : (old mid new : List Entry) (name more : List ℕ) → mid ≡ old
    → MayGrowInPart name more mid new → MayGrowInPart name more old new
part_from old mid new name more is may =
    subst (λ (l : List Entry). MayGrowInPart name more l new) is may

pub part_shown : (old new : List Entry) (name more bytes : List ℕ)
    → MayGrowInPart name more old new → (state_of name old).bytes ≡ Some bytes
    → (k : ℕ) × ((state_of name new).bytes ≡ Some (bytes ++ take k more))
part_shown old new name more bytes (inl same) shown = (
  0,
  ap (λ (l : List Entry). (state_of name l).bytes) same
      ∙ (shown ∙ ap some (sym (append-nil bytes))),
)
part_shown old new name more bytes (inr g) shown =
    (g.few, grown_so old new name (take g.few more) g.bytes bytes g.had g.pushes shown)

pub part_kept : (old new : List Entry) (name more : List ℕ) (n : ℕ)
    → MayGrowInPart name more old new → n ≤ (state_of name old).synced
    → n ≤ (state_of name new).synced
part_kept old new name more n (inl same) kept =
    subst (λ (l : List Entry). n ≤ (state_of name l).synced) (sym same) kept
part_kept old new name more n (inr g) kept =
    subst (λ (s : State). n ≤ s.synced) (sym (own_state name _ old new g.pushes)) kept

pub part_others : (old new : LoggedFolder) (name more : List ℕ)
    → MayGrowInPart name more old.log.items new.log.items
    → KeepsOthers logged_shows logged_kept name name old new
part_others old new name more (inl same) = all_same old new name name same
part_others old new name more (inr g) = others_kept old new name name _ g.pushes

-- what is left of a front is left of all
part_left : (n synced few : ℕ) (had more bytes : List ℕ) (found : Option (List ℕ))
    → some had ≡ Some bytes → n ≤ synced → synced ≤ length had
    → MayLeaveOf synced (Some (had ++ take few more)) found
    → MayLeaveOf n (Some (bytes ++ more)) found
part_left n synced few had more bytes found same le within m =
    grown (λ (x : List ℕ). x ++ more) n synced had bytes found same le
    (m.0, m.1, front_of_part synced few had more m.0 within m.2)

pub part_time : (old : LoggedFolder) (new : List Entry) (name more : List ℕ)
    → MayGrowInPart name more old.log.items new
    → Elapses (length old.log.items) (length new)
    (λ (t : ℕ) (left : Left). LeftSince old.log.items t left)
    (λ (t : ℕ) (left : Left). LeftSince new t left)
    (LeavesOthers logged_shows logged_kept name name old
    (MayGrow logged_shows logged_kept old name (λ (x : List ℕ). x ++ more) (λ (n : ℕ). n)))
part_time old new name more (inl same) = same_time old.log.items new _ same
part_time old new name more (inr g) =
    others_time old new name name _
    (MayGrow logged_shows logged_kept old name (λ (x : List ℕ). x ++ more) (λ (n : ℕ). n)) g.pushes
    (λ left m bytes n shown kept. part_left n (state_of name old.log.items).synced g.few g.bytes more
    bytes (left name) (sym g.had ∙ shown) kept g.within m)
