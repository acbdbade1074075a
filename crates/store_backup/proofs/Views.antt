-- A copy that is begun again.
use Rattle.std.proofs.Common.{◌≡◌, ℕ, ◌<◌, List, Option, length, arith, sym, subst, ◌≢◌, ◌∙◌}
use Rattle.std.proofs.Common.{get_or, slice_set, ◌+◌, inl, inr}
use Rattle.std.proofs.lemmas.List.{get_or-set_other, get_or-set_same, get_or_read}
use Rattle.data_folder.specs.Folders.{Left, Untouched}
use Rattle.data_folder.proofs.Moments.{untouched}
use Rattle.head.specs.Heads.{BlockPart}
use Rattle.head.specs.Worlds.{Event}
use Rattle.head_record.specs.Saved.{Saved}
use Rattle.labels.proofs.Lists.{below_or_not}
use Rattle.store_backup.specs.declared.copying.Copied.{Copied}
use Rattle.store_backup.specs.Copies.{IsCopied, TellsSome}
use Rattle.store_backup.specs.Tries.{AreLookedAt}

-- what was written at an index, beside what stood there first and still did
pub at_last : {X : Type 0} (P : X → X → Type 0) (old now : List X) (i : ℕ) (x y : X)
    → i < length old → i < length now → x ≡ get_or now i x → get_or now i x ≡ get_or old i x
    → P (get_or now i x) y → (d : X) → P (get_or old i d) (get_or (slice_set now i y) i d)
at_last P old now i x y first last own still p d =
    subst (λ b. P (get_or old i d) b) (sym (get_or-set_same now i y d last))
    (subst (λ a. P a y) (get_or_read old i x first (own ∙ still) d)
    (subst (λ a. P a y) (sym own) p))

-- what was so before an index is so still, and at one index more
pub each_before : {X : Type 0} (P : X → Type 0) (now : List X) (i : ℕ) (y : X)
    → ((k : ℕ) (d : X) → k < i → P (get_or now k d))
    → (k : ℕ) (d : X) → k < i → P (get_or (slice_set now i y) k d)
each_before P now i y before k d low =
    subst P (sym (get_or-set_other now i k y d (omega (arith, low)))) (before k d low)

pub each_more : {X : Type 0} (P : X → Type 0) (now : List X) (i : ℕ) (y : X) → i < length now
    → ((k : ℕ) (d : X) → k < i → P (get_or now k d)) → P y
    → (k : ℕ) (d : X) → k < i + 1 → P (get_or (slice_set now i y) k d)
each_more P now i y last before p k d low = elim (below_or_not k i) [
  | inl less ↦ each_before P now i y before k d less
  | inr most ↦
      let same : i ≡ k = omega (arith, most, low) in
      subst (λ n. P (get_or (slice_set now i y) n d)) same
      (subst P (sym (get_or-set_same now i y d last)) p)
]

module _ {F : Type 0} (shows : F → List ℕ → Option (List ℕ) → Type 0)
    (kept : F → List ℕ → ℕ → Type 0) (moment : F → ℕ) (left_since : F → ℕ → Left → Type 0) where
  -- where no view was used
  pub none_looked : (xs : List (F × F)) → AreLookedAt shows kept moment left_since xs xs
  none_looked xs k d = (
    untouched shows kept moment left_since (get_or xs k d).0,
    untouched shows kept moment left_since (get_or xs k d).1,
  )

  abbrev Looked : F × F → F × F → Type 0
  Looked x y =
      Untouched shows kept moment left_since x.0 y.0 × Untouched shows kept moment left_since x.1 y.1

  looked_beside : (old now : List (F × F)) (i : ℕ) (y : F × F)
      → AreLookedAt shows kept moment left_since old now → (k : ℕ) (d : F × F) → k ≢ i
      → Looked (get_or old k d) (get_or (slice_set now i y) k d)
  looked_beside old now i y before k d away =
      subst (λ (b : F × F). Looked (get_or old k d) b) (sym (get_or-set_other now i k y d away))
      (before k d)

  -- by two views more
  pub looked_more : (old now : List (F × F)) (i : ℕ) (x y : F × F) → i < length old
      → i < length now → x ≡ get_or now i x → get_or now i x ≡ get_or old i x
      → AreLookedAt shows kept moment left_since old now → Looked (get_or now i x) y
      → AreLookedAt shows kept moment left_since old (slice_set now i y)
  looked_more old now i x y first last own still before both k d = elim (below_or_not k i) [
    | inl less ↦ looked_beside old now i y before k d (omega (arith, less))
    | inr most ↦ elim (below_or_not i k) [
      | inl more ↦ looked_beside old now i y before k d (omega (arith, more))
      | inr least ↦
          let same : i ≡ k = omega (arith, most, least) in
          subst (λ n. Looked (get_or old n d) (get_or (slice_set now i y) n d)) same
          (at_last Looked old now i x y first last own still both d)
    ]
  ]

module _ {G : Type 0} (shows : G → List ℕ → Option (List ℕ) → Type 0)
    (kept : G → List ℕ → ℕ → Type 0) (moment : G → ℕ) (left_since : G → ℕ → Left → Type 0) where
  -- a copy tells of some store
  pub tells_some : (R : Saved → List BlockPart → List Event → Type 0) (told : Copied) (old new : G)
      → ((saved : Saved) × (parts : List BlockPart) × (events : List Event) × R saved parts events
      × IsCopied shows kept moment left_since saved parts events told old new)
      → TellsSome told
  tells_some R told old new c =
      (c.0, c.1, c.2, c.4.world, c.4.accepted, c.4.events, c.4.blocks)
