use Rattle.std.proofs.Common.{◌≡◌, ℕ, zero, suc, ◌+◌, ◌/◌, ◌%◌, ◌<◌, ◌≤◌, List, [], ◌∷◌, ◌++◌, take}
use Rattle.std.proofs.Common.{set, length, refl, sym, ap, ◌∙◌, append_assoc, arith}
use Rattle.std.proofs.lemmas.Bool.{lt-ltb, le-ltb}
use Rattle.std.proofs.lemmas.List.{take_more_set}
use Rattle.wire.specs.Spelling.{groups, uvarint}
use Rattle.wire.proofs.Laws.{limit}
use Rattle.wire.proofs.put.spell.Goals as goal

last_group : (k n : ℕ) → n < 128 → groups (suc k) n ≡ n ∷ []
unfolding groups
last_group k n lt = rw (lt-ltb n 128 lt) refl

more_groups : (k n : ℕ) → 128 ≤ n → groups (suc k) n ≡ (n % 128 + 128) ∷ groups k (n / 128)
unfolding groups
more_groups k n le = rw (le-ltb n 128 le) refl

next : (k n len : ℕ) (bytes whole : List ℕ) → 128 ≤ n → n < limit k → len + k ≡ 9
    → len < length bytes → take len bytes ++ groups (suc k) n ≡ whole
    → (j : ℕ) × (len + 1 + j ≡ 9) × (n / 128 < limit j)
    × (take (len + 1) (set bytes len (n % 128 + 128)) ++ groups (suc j) (n / 128) ≡ whole)
next zero n len bytes whole le lt at room h = absurd (omega arith)
next (suc k) n len bytes whole le lt at room h =
    let b = n % 128 + 128 in
    let front : take (len + 1) (set bytes len b) ≡ take len bytes ++ b ∷ [] =
    take_more_set bytes len b room in (
      k,
      omega arith,
      omega arith,
      ap (λ (t : List ℕ). t ++ groups (suc k) (n / 128)) front
          ∙ append_assoc (take len bytes) (b ∷ []) (groups (suc k) (n / 128))
          ∙ sym (ap (λ (t : List ℕ). take len bytes ++ t) (more_groups (suc k) n le))
          ∙ h,
    )

pub loop-left-init : goal.loop-left-init
unfolding uvarint
loop-left-init c = (9, omega arith, omega arith, refl)

pub loop-left-preserved : goal.loop-left-preserved
loop-left-preserved c =
    let l = c.loop-left in
    next l.invariant.0 l.left l.len l.bytes _ c.loop-left-test.true l.invariant.2 l.invariant.1
    (omega arith) l.invariant.3

pub returns-clause-spelled : goal.returns-clause-spelled
returns-clause-spelled c =
    let l = c.loop-left in
    take_more_set l.bytes l.len l.left (omega arith)
    ∙ sym (ap (λ t. take l.len l.bytes ++ t)
    (last_group l.invariant.0 l.left c.loop-left-test.false))
    ∙ l.invariant.3
