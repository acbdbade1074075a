-- Buffers that are taken and put back.
use Rattle.std.proofs.Common.{◌≡◌, ℕ, true, false, [], refl, sym, ◌∙◌, ap, arith}
use Rattle.std.specs.Prelude.{nat_eq, if◌then◌else◌}
use Rattle.std.proofs.lemmas.Bool.Decides.{nat_tests}
use Rattle.head.specs.Worlds.{Batch}
use Rattle.history.specs.Machine.{Buffers, with_buffer}

same_number : (a n : ℕ) → nat_eq a n ≡ true → a ≡ n
same_number a n e = grind (arith, nat_tests)

-- the last buffer that is put stands
put_twice : (actor : ℕ) (first second : Batch) (buffers : Buffers)
    → with_buffer actor second (with_buffer actor first buffers) ≡ with_buffer actor second buffers
put_twice actor first second buffers = λ i n.
    (elim (nat_eq actor n) as (λ b. (if b then second else (if b then first else buffers n))
    ≡ (if b then second else buffers n)) [ true ↦ refl | false ↦ refl ]) i

-- an actor's own buffer changes nothing
put_own : (actor : ℕ) (own : Batch) (buffers : Buffers) → own ≡ buffers actor
    → with_buffer actor own buffers ≡ buffers
put_own actor own buffers is = λ i n.
    (elim (nat_eq actor n)
    as (λ b. nat_eq actor n ≡ b → (if b then own else buffers n) ≡ buffers n) [
      | true ↦ λ e. is ∙ ap buffers (same_number actor n e)
      | false ↦ λ e. refl
    ] refl) i

pub replaced : (actor : ℕ) (samples : Batch) (old left new : Buffers)
    → left ≡ with_buffer actor [] old → new ≡ with_buffer actor samples left
    → new ≡ with_buffer actor samples old
replaced actor samples old left new taken put =
    put ∙ ap (with_buffer actor samples) taken ∙ put_twice actor [] samples old

pub put_back : (actor : ℕ) (samples : Batch) (old left new : Buffers) → samples ≡ old actor
    → left ≡ with_buffer actor [] old → new ≡ with_buffer actor samples left → old ≡ new
put_back actor samples old left new own taken put =
    sym (replaced actor samples old left new taken put ∙ put_own actor samples old own)
