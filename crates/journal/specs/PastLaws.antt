-- That a crash might have left the same since a later moment.
use Rattle.std.specs.Prelude.{◌≡◌, ◌≤◌, ℕ, zero, suc, List, [], ◌∷◌, length, drop, take}
use Rattle.std.proofs.Common.{inl, inr, ap, sym, ◌∙◌, arith}
use Rattle.journal.specs.Media.{MayLeave}
use Rattle.journal.specs.Past.{HadBeen, Image, Since}

none_left : (past : List Image) (left : List ℕ) → HadBeen (drop (length past) past) left → ⊥
none_left [] left had = had
none_left (i ∷ past) left had = none_left past left had

-- since the last call there is a front of what is there now
pub only_since : (past : List Image) (synced : ℕ) (now bytes : List ℕ) (n : ℕ) (left : List ℕ)
    → bytes ≡ now → n ≤ synced
    → Since past synced now (length past) left → MayLeave n bytes left
only_since past synced now bytes n left shown le (inl m) =
    record {
      n = m.n;
      kept = omega (arith, m.kept, le);
      front = m.front ∙ ap (take m.n) (sym shown);
    }
only_since past synced now bytes n left shown le (inr had) =
    absurd (none_left past left had)

had_earlier : (past : List Image) (t u : ℕ) (left : List ℕ) → t ≤ u → HadBeen (drop u past) left
    → HadBeen (drop t past) left
had_earlier past zero zero left le had = had
had_earlier past (suc t) zero left le had = absurd (omega arith)
had_earlier [] zero (suc u) left le had = had
had_earlier [] (suc t) (suc u) left le had = had
had_earlier (i ∷ past) zero (suc u) left le had =
    inr (had_earlier past zero u left (omega arith) had)
had_earlier (i ∷ past) (suc t) (suc u) left le had = had_earlier past t u left (omega arith) had

pub since_earlier : (past : List Image) (synced : ℕ) (now : List ℕ) (t u : ℕ) (left : List ℕ)
    → t ≤ u
    → Since past synced now u left → Since past synced now t left
since_earlier past synced now t u left le (inl m) = inl m
since_earlier past synced now t u left le (inr had) = inr (had_earlier past t u left le had)
