-- A step that only adds to the list keeps the rule of the published versions.
use Rattle.std.proofs.Common.{◌≡◌, ℕ, ◌≢◌, List, [], ◌∷◌, ◌++◌, fold, refl, ap, ◌∙◌, sym, subst, ⊎_elim}
use mathlib.Core.Option.{some}
use mathlib.Core.List.{IsPrefix}
use lib.ListN.{get_elem?}
use Rattle.left_right.specs.Register.{Admits, Turns, TurnsAt}
use Rattle.atomic_table.proofs.Lists.{at_set, at_snoc}
use Rattle.logbook.specs.Pages.{Book}
use Rattle.head.specs.Heads.{SnapshotParts}
use Rattle.head.specs.Worlds.{Event}
use Rattle.snapshots.specs.declared.entry.Entry.{Entry}
use Rattle.snapshots.specs.declared.entry.Mark.{Mark}
use Rattle.snapshots.specs.declared.plate.Plate.{Plate}
use Rattle.snapshots.specs.Asking.{AreAsked}
use Rattle.snapshots.specs.Marks.{accepted, list_of, tried_of}
use Rattle.snapshots.specs.Replays.{IsAfter}
use Rattle.snapshots.specs.Views.{Edition}
use Rattle.snapshots.specs.Grows.{Shows, Keeps, MayFollow, SeesList}
use Rattle.snapshots.specs.Plates.{with_version}
use Rattle.snapshots.proofs.Prefixes.{prefix_self, prefix_trans}

module _ (book : Book) (opening : SnapshotParts) (asked : Event → ℕ → ℕ → Type 0)
    (kept : List Entry → Type 0) where
  pub rises : (seat : ℕ) (v : List Entry) (x y : Plate) → y.right ≡ x.right
      → IsPrefix (list_of x.version.marks) (list_of y.version.marks)
      → Shows book opening asked kept y.version (list_of y.version.marks)
      → TurnsAt (Keeps book opening asked kept) seat v x y (SeesList book opening asked kept)
  rises seat v x y right up of views h at = (
    list_of y.version.marks,
    (
      right ∙ h.0,
      of,
      (λ j u e. ⊎_elim
          (λ (t : (j ≡ seat) × (list_of y.version.marks ≡ u)).
          subst (λ (z : List Entry). IsPrefix z (list_of y.version.marks)) t.1
          (prefix_self (list_of y.version.marks)))
          (λ (t : (j ≢ seat) × (get_elem? views j ≡ some u)).
          prefix_trans u (list_of x.version.marks) (list_of y.version.marks) (h.2 j u t.1) up)
          (at_set views seat j (list_of y.version.marks) u e)),
    ),
    (of, prefix_trans v (list_of x.version.marks) (list_of y.version.marks) (h.2 seat v at) up, right ∙ h.0),
  )

  pub enters : (seat : ℕ) (v : List Entry)
      → Turns (Keeps book opening asked kept) seat v (λ x. x) (SeesList book opening asked kept)
  enters seat v x views h at =
      rises seat v x x refl (prefix_self (list_of x.version.marks)) h.1 views h at

  pub admits : Admits (Keeps book opening asked kept) []
  admits x views h = (
    h.0,
    h.1,
    λ seat v at. ⊎_elim (h.2 seat v)
        (λ (e : [] ≡ v).
        subst (λ (z : List Entry). IsPrefix z (list_of x.version.marks)) e
        (list_of x.version.marks, refl))
        (at_snoc views [] v seat at),
  )

  pub starts : (x : Plate) → x.right ≡ book
      → Shows book opening asked kept x.version (list_of x.version.marks)
      → Keeps book opening asked kept x ([] ∷ [])
  starts x right of = (
    right,
    of,
    λ seat v at. ⊎_elim
        (λ (e : get_elem? [] seat ≡ some v). absurd cc)
        (λ (e : [] ≡ v).
        subst (λ (z : List Entry). IsPrefix z (list_of x.version.marks)) e
        (list_of x.version.marks, refl))
        (at_snoc [] [] v seat at),
  )

  -- a version whose log has accepted all that it sealed shows the list of that log
  pub shows_all : (y : Edition) (log : List Mark) (t : SnapshotParts) (entries : List Entry)
      → y ≡ record { book = book; marks = log; parts = t } → accepted log ≡ list_of log
      → accepted log ≡ entries → IsAfter opening (accepted log) t → AreAsked asked (tried_of log)
      → kept (accepted log) → Shows book opening asked kept y entries
  shows_all y log t entries is whole same after all_asked all_kept =
      subst (λ (z : Edition). Shows book opening asked kept z entries) (sym is) (
        refl,
        sym whole ∙ same,
        subst (λ (z : List Entry). IsAfter opening z t) same after,
        all_asked,
        subst kept same all_kept,
      )

  -- and it may follow one whose list begins that list
  pub follows_all : (x y : Edition) (log : List Mark) (t : SnapshotParts)
      → y ≡ record { book = book; marks = log; parts = t } → accepted log ≡ list_of log
      → IsPrefix (list_of x.marks) (accepted log) → IsAfter opening (accepted log) t
      → AreAsked asked (tried_of log) → kept (accepted log) → MayFollow book opening asked kept x y
  follows_all x y log t is whole begins after all_asked all_kept =
      let named : accepted log ≡ list_of y.marks = whole ∙ sym (ap (λ (z : Edition). list_of z.marks) is) in (
        shows_all y log t (list_of y.marks) is whole named after all_asked all_kept,
        subst (λ (z : List Entry). IsPrefix (list_of x.marks) z) named begins,
      )

-- of operations that are each the whole next version, the last is what is shown, by the same right
pub fold_last : (x : Plate) (xs : List Edition) (y : Edition)
    → fold with_version x (xs ++ y ∷ []) ≡ with_version x y
fold_last x [] y = refl
fold_last x (z ∷ xs) y = fold_last (with_version x z) xs y

pub overtaken : (x next : Plate) (y : Edition) (xs pending : List Edition)
    → next ≡ fold with_version x pending → pending ≡ xs ++ y ∷ [] → next ≡ with_version x y
overtaken x next y xs pending is e = is ∙ (ap (fold with_version x) e ∙ fold_last x xs y)
