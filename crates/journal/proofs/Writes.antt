-- What a crash may leave of a write.
use Rattle.std.proofs.Common.{◌≡◌, ℕ, Bool, true, List, ◌++◌, length, take, min, sym, subst, arith}
use Rattle.std.proofs.lemmas.List.{take_at}
use Rattle.journal.specs.Media.{Elapses, LeavesOnly, MayLeave, HasAll}
use Rattle.journal.proofs.Fronts.{front_of_more, front_of_part, from_less}
use Rattle.journal.proofs.Moments.{started, goes_on}

module _ {M : Type 0} (shows : M → List ℕ → Type 0) (kept : M → ℕ → Type 0) (sound : M
    → Bool) (moment : M → ℕ) (left_since : M → ℕ → List ℕ → Type 0)
    (only_now : (m : M) (bytes : List ℕ) (n : ℕ) (left : List ℕ) → shows m bytes → kept m n
    → left_since m (moment m) left → MayLeave n bytes left) where
  -- after the append
  pub appended : (old mid : M) (before : List ℕ) (len : ℕ) (bytes : List ℕ)
      → HasAll shows kept sound before old → len ≡ length before
      → ((file : List ℕ) (n : ℕ) → shows old file → kept old n
      → Elapses (moment old) (moment mid) (left_since old) (left_since mid) (MayLeave n (file ++ bytes)))
      → LeavesOnly moment left_since old mid (MayLeave len (before ++ bytes))
  appended old mid before len bytes h e time =
      let P = MayLeave len (before ++ bytes) in
      let here : (c : List ℕ) → left_since old (moment old) c → P c =
      λ c left. from_less len (length before) (before ++ bytes) c (omega (arith, e))
      (front_of_more (length before) before bytes c (omega arith) (only_now old before (length before) c h.all h.durable left)) in
      goes_on moment left_since old old mid P _ (started moment left_since old P here) (time before (length before) h.all h.durable)
      (λ c m. from_less len (length before) (before ++ bytes) c (omega (arith, e)) m)

  -- after the sync
  pub synced_after : (old mid new : M) (before : List ℕ) (len : ℕ) (bytes : List ℕ)
      → HasAll shows kept sound before old → len ≡ length before
      → shows mid (before ++ bytes) → kept mid (length before)
      → LeavesOnly moment left_since old mid (MayLeave len (before ++ bytes))
      → ((file : List ℕ) (n : ℕ) → shows mid file → kept mid n
      → Elapses (moment mid) (moment new) (left_since mid) (left_since new) (MayLeave n file))
      → LeavesOnly moment left_since old new (MayLeave len (before ++ bytes))
  synced_after old mid new before len bytes h e same still so_far time =
      goes_on moment left_since old mid new (MayLeave len (before ++ bytes)) _ so_far (time (before ++ bytes) (length before) same still)
      (λ c m. from_less len (length before) (before ++ bytes) c (omega (arith, e)) m)

  -- after the cut
  pub cut_after : (old mid new : M) (before : List ℕ) (len k : ℕ) (bytes : List ℕ)
      → HasAll shows kept sound before old → len ≡ length before
      → shows mid (before ++ take k bytes) → kept mid (length before)
      → LeavesOnly moment left_since old mid (MayLeave len (before ++ bytes))
      → ((file : List ℕ) (n : ℕ) → shows mid file → kept mid n
      → Elapses (moment mid) (moment new) (left_since mid) (left_since new) (MayLeave (min len n) file))
      → LeavesOnly moment left_since old new (MayLeave len (before ++ bytes))
  cut_after old mid new before len k bytes h e same still so_far time =
      goes_on moment left_since old mid new (MayLeave len (before ++ bytes)) _ so_far (time (before ++ take k bytes) (length before) same still)
      (λ c m. front_of_part len k before bytes c (omega (arith, e)) (from_less len (min len (length before)) (before ++ take k bytes) c (omega (arith, e)) m))

  -- what is cut off is what was written
  pub taken_back : (new : M) (before : List ℕ) (len k : ℕ) (bytes : List ℕ) → len ≡ length before
      → shows new (take len (before ++ take k bytes)) → kept new len → sound new ≡ true
      → HasAll shows kept sound before new
  taken_back new before len k bytes e cut durable sound_is = record {
    all = subst (shows new) (take_at before (take k bytes) len (sym e)) cut;
    durable = subst (kept new) e durable;
    is_sound = sound_is;
  }
