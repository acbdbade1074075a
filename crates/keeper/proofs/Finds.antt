-- What a crash leaves of the events that are kept, after a call.
use Rattle.std.proofs.Common.{◌≡◌, ◌⊎◌, inl, inr, ⊎_elim, ℕ, ◌≤◌, Bool, true, false, List, ◌++◌, take}
use Rattle.std.proofs.Common.{refl, sym, subst, ◌∙◌, arith}
use Rattle.std.proofs.lemmas.List.{append-nil}
use Rattle.head.specs.Worlds.{Event, World}
use Rattle.keeper.specs.Finding.{AreAll, AreAllAndMore, AreAllAndSome, FindsWorld, IsOfAll}
use Rattle.keeper.specs.Finding.{LeavesEvents, StandsForSome}

pub some_is_more : (events more found : List Event) → AreAllAndSome events more found
    → AreAllAndMore events found
some_is_more events more found s = (take s.0 more, s.1)

pub all_is_some : (events more found : List Event) → AreAll events found
    → AreAllAndSome events more found
all_is_some events more found is = (0, is ∙ sym (append-nil events))

module _ {K L : Type 0} (moment : K → ℕ) (left_since : K → ℕ → L → Type 0)
    (stands : L → List Event → Type 0) where
  -- where nothing was done
  pub resting : (k : K) (P : List Event → Type 0)
      → ((left : L) → left_since k (moment k) left → StandsForSome stands P left)
      → LeavesEvents moment left_since stands k k P
  resting k P here = record {
    later = omega arith;
    each = here;
    before = λ t left le had. inl had;
  }

  -- what has P has Q
  pub wider : (old new : K) (P Q : List Event → Type 0) → ((found : List Event) → P found → Q found)
      → LeavesEvents moment left_since stands old new P
      → LeavesEvents moment left_since stands old new Q
  wider old new P Q f h = record {
    later = h.later;
    each = λ left had. widen (h.each left had);
    before = λ t left le had. ⊎_elim (λ past. inl past) (λ s. inr (widen s))
        (h.before t left le had);
  }
    where
      widen : {left : L} → StandsForSome stands P left → StandsForSome stands Q left
      widen s = (s.0, s.1, f s.0 s.2)

  -- two calls, one after the other
  pub joined : (old mid new : K) (P : List Event → Type 0)
      → LeavesEvents moment left_since stands old mid P
      → LeavesEvents moment left_since stands mid new P
      → LeavesEvents moment left_since stands old new P
  joined old mid new P first second = record {
    later = omega (arith, first.later, second.later);
    each = λ left had. ⊎_elim (λ past. first.each left past) (λ s. s)
        (second.before (moment old) left first.later had);
    before = λ t left le had. ⊎_elim (λ past. first.before t left le past) (λ s. inr s)
        (second.before t left (omega (arith, le, first.later)) had);
  }

  -- by whether it was closed
  pub by_was : (old new : K) (was : Bool) (P Q : List Event → Type 0)
      → ((left : L) → left_since old (moment old) left → StandsForSome stands Q left)
      → ((found : List Event) → P found → Q found) → (was ≡ true → new ≡ old)
      → (was ≡ false → LeavesEvents moment left_since stands old new P)
      → LeavesEvents moment left_since stands old new Q
  by_was old new true P Q now f same leaves =
      subst (λ (k : K). LeavesEvents moment left_since stands old k Q) (sym (same refl))
      (resting old Q now)
  by_was old new false P Q now f same leaves = wider old new P Q f (leaves refl)
