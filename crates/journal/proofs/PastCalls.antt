-- One call more of a medium in memory.
use Rattle.std.proofs.Common.{◌≡◌, ◌⊎◌, inl, inr, ⊎_elim, ℕ, zero, suc, ◌≤◌, List, [], ◌∷◌, ◌++◌}
use Rattle.std.proofs.Common.{length, drop, refl, sym, subst, arith, length-append}
use Rattle.journal.specs.Media.{Elapses, MayLeave}
use Rattle.journal.specs.Past.{Image, HadBeen, Since}

keeps : (past : List Image) (i : Image) (left : List ℕ) → HadBeen past left
    → HadBeen (past ++ i ∷ []) left
keeps [] i left had = absurd had
keeps (p ∷ past) i left (inl here) = inl here
keeps (p ∷ past) i left (inr there) = inr (keeps past i left there)

adds : (past : List Image) (i : Image) (left : List ℕ) → HadBeen (past ++ i ∷ []) left
    → HadBeen past left ⊎ MayLeave i.1 i.0.items left
adds [] i left (inl here) = inr here
adds [] i left (inr none) = absurd none
adds (p ∷ past) i left (inl here) = inl (inl here)
adds (p ∷ past) i left (inr there) = ⊎_elim (λ had. inl (inr had)) (λ new. inr new) (adds past i left there)

newest : (past : List Image) (i : Image) (left : List ℕ) → MayLeave i.1 i.0.items left
    → HadBeen (past ++ i ∷ []) left
newest [] i left here = inl here
newest (p ∷ past) i left here = inr (newest past i left here)

drop_push : (t : ℕ) (past : List Image) (i : Image) → t ≤ length past
    → drop t (past ++ i ∷ []) ≡ drop t past ++ i ∷ []
drop_push zero past i le = refl
drop_push (suc t) [] i le = absurd (omega arith)
drop_push (suc t) (p ∷ past) i le = drop_push t past i (omega arith)

pub elapses_same : (past : List Image) (synced : ℕ) (bytes : List ℕ) (P : List ℕ → Type 0)
    → Elapses (length past) (length past) (Since past synced bytes) (Since past synced bytes) P
elapses_same past synced bytes P = record { later = omega arith; nothing_else = λ t c le left. inl left; keeps = λ t c le left. left }

-- during the call a crash leaves what the image says, which is also all that it left before and leaves after
pub elapses_push : (past later : List Image) (i : Image) (s : ℕ) (bytes : List ℕ) (u : ℕ) (more : List ℕ) (low : ℕ) (image : List ℕ)
    → later ≡ past ++ i ∷ [] → i.0.items ≡ image → i.1 ≡ low
    → ((c : List ℕ) → MayLeave s bytes c → MayLeave low image c) → ((c : List ℕ)
    → MayLeave u more c → MayLeave low image c)
    → Elapses (length past) (length later) (Since past s bytes) (Since later u more) (MayLeave low image)
elapses_push past later i s bytes u more low image e is at before after =
    subst (λ (l : List Image). Elapses (length past) (length l) (Since past s bytes) (Since l u more) (MayLeave low image)) (sym e) (record {
      later = omega (arith, length-append past (i ∷ []));
      nothing_else = λ t c le left. ⊎_elim (λ now. inr (after c now)) (λ had. was t c (adds (drop t past) i c (subst (λ (l : List Image). HadBeen l c) (drop_push t past i le) had))) left;
      keeps = λ t c le left. inr (subst (λ (l : List Image). HadBeen l c) (sym (drop_push t past i le)) (⊎_elim (λ now. newest (drop t past) i c (from (before c now))) (keeps (drop t past) i c) left));
    })
  where
    to : {c : List ℕ} → MayLeave i.1 i.0.items c → MayLeave low image c
    to {c} m = subst (λ (n : ℕ). MayLeave n image c) at (subst (λ (x : List ℕ). MayLeave i.1 x c) is m)

    from : {c : List ℕ} → MayLeave low image c → MayLeave i.1 i.0.items c
    from {c} m = subst (λ (n : ℕ). MayLeave n i.0.items c) (sym at) (subst (λ (x : List ℕ). MayLeave low x c) (sym is) m)

    was : (t : ℕ) (c : List ℕ) → HadBeen (drop t past) c ⊎ MayLeave i.1 i.0.items c
        → Since past s bytes t c ⊎ MayLeave low image c
    was t c (inl had) = inl (inr had)
    was t c (inr new) = inr (to new)

pub elapses_weaker : (a b : ℕ) (past since : ℕ → List ℕ → Type 0) (P Q : List ℕ → Type 0)
    → ((c : List ℕ) → P c → Q c) → Elapses a b past since P → Elapses a b past since Q
elapses_weaker a b past since P Q f e = record {
  later = e.later;
  nothing_else = λ t c le left. ⊎_elim (λ old. inl old) (λ p. inr (f c p)) (e.nothing_else t c le left);
  keeps = e.keeps;
}
