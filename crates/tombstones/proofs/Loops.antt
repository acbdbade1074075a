-- The loop that reads one entry after another.
use Rattle.std.proofs.Common.{◌≡◌, ℕ, zero, suc, ◌<◌, ◌≤◌, List, [], ◌∷◌, ◌++◌, length, Result, Ok}
use Rattle.std.proofs.Common.{Err, ltb, refl, sym, ap, ◌∙◌, append_assoc, arith}
use Rattle.std.specs.Prelude.{ℤ}
use Rattle.std.proofs.lemmas.List.{append-nil}
use Rattle.wire.specs.declared.error.WireError.{WireError}
use Rattle.wire.specs.Reading.{uvarint_at, varint_at, signed, unzigzag}
use Rattle.wire.proofs.Laws.{uvarint_shorter}
use Rattle.wire.specs.Outcome.{◌>>=◌, or_refused, Fails}
use Rattle.tombstones.specs.declared.deletion.Deletion.{Deletion}
use Rattle.tombstones.specs.declared.error.TombstoneError.{TombstoneError}
use Rattle.tombstones.specs.declared.error.TombstoneError.TheVariants.{Shape}
use Rattle.tombstones.specs.Grammar.{is_interval}
use Rattle.tombstones.specs.Outcome.{is_memory}
use Rattle.tombstones.specs.Reading.{entry_at, deletions_from}
use Rattle.wire.proofs.Steps.{bind_ok, refused_ok, not_failed, passed, same_value, fails_on, chain}

-- what was read before, and what is still read
abbrev pub with_front : List Deletion → Result (List Deletion) TombstoneError
    → Result (List Deletion) TombstoneError
with_front front read = read >>= λ (x : List Deletion). Ok (front ++ x)

pub with_front_nil : (read : Result (List Deletion) TombstoneError) → with_front [] read ≡ read
with_front_nil (Ok x) = refl
with_front_nil (Err e) = refl

regroup : (front : List Deletion) (d : Deletion) (read : Result (List Deletion) TombstoneError)
    → with_front front (read >>= λ (x : List Deletion). Ok (d ∷ x))
    ≡ with_front (front ++ d ∷ []) read
regroup front d (Ok x) = ap (λ (ds : List Deletion). Ok ds) (simp append_assoc)
regroup front d (Err f) = refl

signed_shorter : (read : Result (ℕ × List ℕ) WireError) (n : ℕ) (x : ℤ × List ℕ)
    → ((y : ℕ × List ℕ) → read ≡ Ok y → length y.1 < n) → signed read ≡ Ok x → length x.1 < n
signed_shorter (Ok y) n x shorter h =
    let made : ℤ × List ℕ = (unzigzag y.0, y.1) in
    let same : made ≡ x = cc in
    let e : length y.1 ≡ length x.1 = ap (λ (p : ℤ × List ℕ). length p.1) same in
    omega (arith, shorter y refl, e)
signed_shorter (Err f) n x shorter h = absurd cc

varint_shorter : (bytes : List ℕ) (x : ℤ × List ℕ) → varint_at bytes ≡ Ok x
    → length x.1 < length bytes
unfolding varint_at
varint_shorter bytes x h =
    signed_shorter (uvarint_at bytes) (length bytes) x (uvarint_shorter bytes) h

-- an entry takes a byte at least
pub entry_shorter : (bytes : List ℕ) (x : Deletion × List ℕ) → entry_at bytes ≡ Ok x
    → length x.1 < length bytes
unfolding entry_at
entry_shorter bytes x h =
    let r = bind_ok (or_refused Shape (uvarint_at bytes)) _ x h in
    let f = bind_ok (or_refused Shape (varint_at r.0.1)) _ x r.2 in
    let t = bind_ok (or_refused Shape (varint_at f.0.1)) _ x f.2 in
    let a = not_failed (ltb 0xFFFF_FFFF r.0.0) Shape _ x t.2 in
    let b = passed (is_interval f.0.0 t.0.0) Shape _ x a.1 in
    let made : Deletion × List ℕ =
    (record { reference = r.0.0; from = f.0.0; to = t.0.0 }, t.0.1) in
    let e : length t.0.1 ≡ length x.1 =
    ap (λ (p : Deletion × List ℕ). length p.1) (same_value made x b.1) in
    omega (
      arith,
      e,
      uvarint_shorter bytes r.0 (refused_ok Shape (uvarint_at bytes) r.0 r.1),
      varint_shorter r.0.1 f.0 (refused_ok Shape (varint_at r.0.1) f.0 f.1),
      varint_shorter f.0.1 t.0 (refused_ok Shape (varint_at f.0.1) t.0 t.1),
    )

pub goes_on : (n : ℕ) (front : List Deletion) (bytes : List ℕ) (d : Deletion) (after : List ℕ)
    (total : Result (List Deletion) TombstoneError) → 0 < length bytes → length bytes ≤ n
    → entry_at bytes ≡ Ok (d, after)
    → with_front front (deletions_from n bytes) ≡ total
    → (m : ℕ) × (suc m ≡ n) × (with_front (front ++ d ∷ []) (deletions_from m after) ≡ total)
unfolding deletions_from
goes_on zero front bytes d after total some le h so_far = absurd (omega arith)
goes_on (suc m) front [] d after total some le h so_far = absurd (omega arith)
goes_on (suc m) front (b ∷ bytes) d after total some le h so_far =
    let one : with_front front (deletions_from (suc m) (b ∷ bytes))
    ≡ with_front (front ++ d ∷ []) (deletions_from m after) =
    rw h (regroup front d (deletions_from m after)) in
    (m, refl, sym one ∙ so_far)

pub stops : (e : TombstoneError) (n : ℕ) (front : List Deletion) (bytes : List ℕ)
    (total : Result (List Deletion) TombstoneError) → 0 < length bytes → length bytes ≤ n
    → Fails is_memory e (entry_at bytes)
    → with_front front (deletions_from n bytes) ≡ total → Fails is_memory e total
unfolding deletions_from
stops e zero front bytes total some le h so_far = absurd (omega arith)
stops e (suc m) front [] total some le h so_far = absurd (omega arith)
stops e (suc m) front (b ∷ bytes) total some le h so_far =
    let others =
    λ (first : Deletion × List ℕ).
    deletions_from m first.1 >>= λ (ds : List Deletion). Ok (first.0 ∷ ds) in
    let last : List Deletion → Result (List Deletion) TombstoneError = λ x. Ok (front ++ x) in
    let one : (entry_at (b ∷ bytes) >>= λ first. (others first >>= last))
    ≡ with_front front (deletions_from (suc m) (b ∷ bytes)) =
    chain (entry_at (b ∷ bytes)) others last in
    fails_on is_memory e (entry_at (b ∷ bytes)) (λ first. others first >>= last)
    total (one ∙ so_far) h

pub is_done : (n : ℕ) (front : List Deletion) (bytes : List ℕ)
    (total : Result (List Deletion) TombstoneError) → length bytes ≡ 0
    → with_front front (deletions_from n bytes) ≡ total → total ≡ Ok front
unfolding deletions_from
is_done n front [] total none so_far =
    sym so_far ∙ ap (λ (ds : List Deletion). Ok ds) (append-nil front)
is_done n front (b ∷ bytes) total none so_far = absurd (omega arith)
