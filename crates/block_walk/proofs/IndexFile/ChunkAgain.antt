-- A chunk that is spelled so is read.
use Rattle.std.proofs.Common.{◌≡◌, ℕ, ◌*◌, ◌+◌, ◌^◌, ◌<◌, true, false, not, cond, eqb, List, ◌++◌, Some, None, refl, ap, subst, ◌∙◌, append_assoc, arith}
use Rattle.std.specs.Prelude.{ℤ, pos, negsuc, int_lt, ◌+ℤ◌}
use Rattle.std.specs.Int.Signed.{◌≤ℤ◌, lt_z_no}
use Rattle.std.proofs.lemmas.Int.{ints}
use Rattle.std.proofs.lemmas.Bool.{lt-ltb, eqb-true, false_from_ne_true}
use Rattle.wire.specs.Spelling.{uvarint, varint, zigzag}
use Rattle.wire.proofs.Laws.{uvarint_again}
use Rattle.wire.proofs.Signed.{varint_again}
use Rattle.block_walk.specs.declared.chunk.Chunk.{Chunk}
use Rattle.labels.specs.Contents.{is_time}
use Rattle.labels.specs.declared.sample.TheConstants.{MIN_TIME, MAX_TIME}
use Rattle.labels.proofs.Times.{first_T, second_T, T_of}
use Rattle.block_walk.specs.IndexFile.Chunks.{is_reference, natural, time_after, reference_after, first_chunk_at, later_chunk_at}
use Rattle.block_walk.specs.IndexFile.Spelled.{IsFirst, IsLater}

time_again : (z : ℤ) (n : ℕ) (t : ℤ) → t ≡ z +ℤ pos n → is_time t ≡ true → time_after z n ≡ Some t
unfolding time_after
time_again z n t e h = subst (λ (w : ℤ). cond (is_time w) (Some w) None ≡ Some t) e (rw h refl)

reference_again : (n : ℕ) (z : ℤ) (m : ℕ) → pos m ≡ pos n +ℤ z → m < 2 ^ 64
    → reference_after n z ≡ Some m
reference_again n z m e lt =
    subst (λ (w : ℤ). cond (is_reference w) (Some (natural w)) None ≡ Some m) e
    (rw (lt-ltb m (2 ^ 64) lt) refl)

no_later : (z : ℤ) → is_time z ≡ true → z ≤ℤ MAX_TIME
no_later z h = lt_z_no (second_T (not (int_lt z MIN_TIME)) (not (int_lt MAX_TIME z)) (T_of _ h))

no_earlier : (z : ℤ) → is_time z ≡ true → MIN_TIME ≤ℤ z
no_earlier z h = lt_z_no (first_T (not (int_lt z MIN_TIME)) (not (int_lt MAX_TIME z)) (T_of _ h))

doubled : (n : ℕ) → pos n ≤ℤ MAX_TIME → n * 2 < 2 ^ 64
doubled n h = omega (arith, ints)

doubled_below : (n : ℕ) → MIN_TIME ≤ℤ negsuc n → n * 2 + 1 < 2 ^ 64
doubled_below n h = omega (arith, ints)

zigzag_time : (z : ℤ) → is_time z ≡ true → zigzag z < 2 ^ 64
zigzag_time (pos n) h = doubled n (no_later (pos n) h)
zigzag_time (negsuc n) h = doubled_below n (no_earlier (negsuc n) h)

not_zero : (n : ℕ) → 0 < n → eqb n 0 ≡ false
not_zero n lt =
    false_from_ne_true (eqb n 0) (λ (h : eqb n 0 ≡ true).
    absurd (omega (arith, lt, eqb-true n 0 h)))

pub first_again : (c : Chunk) (text rest : List ℕ) → IsFirst c text
    → first_chunk_at (text ++ rest) ≡ Some (c, rest)
unfolding first_chunk_at
first_again c text rest f =
    let grouped : text ++ rest
    ≡ varint c.mint ++ (uvarint f.span ++ (uvarint c.reference ++ rest)) =
    ap (λ (x : List ℕ). x ++ rest) f.spelled
    ∙ append_assoc (varint c.mint) (uvarint f.span ++ uvarint c.reference) rest
    ∙ ap (λ (x : List ℕ). varint c.mint ++ x)
    (append_assoc (uvarint f.span) (uvarint c.reference) rest) in
    ap first_chunk_at grouped
    ∙ rw (
      varint_again c.mint (uvarint f.span ++ (uvarint c.reference ++ rest))
          (zigzag_time c.mint f.begins_in_time),
      uvarint_again f.span (uvarint c.reference ++ rest) f.span_fits,
      uvarint_again c.reference rest f.fits,
      f.begins_in_time,
      time_again c.mint f.span c.maxt f.ends f.ends_in_time,
    ) refl

pub later_again : (before c : Chunk) (text rest : List ℕ) → IsLater before c text
    → later_chunk_at before (text ++ rest) ≡ Some (c, rest)
unfolding later_chunk_at
later_again before c text rest l =
    let grouped : text ++ rest ≡ uvarint l.gap ++ (uvarint l.span ++ (varint l.step ++ rest)) =
    ap (λ (x : List ℕ). x ++ rest) l.spelled
    ∙ append_assoc (uvarint l.gap) (uvarint l.span ++ varint l.step) rest
    ∙ ap (λ (x : List ℕ). uvarint l.gap ++ x)
    (append_assoc (uvarint l.span) (varint l.step) rest) in
    ap (later_chunk_at before) grouped
    ∙ rw (
      uvarint_again l.gap (uvarint l.span ++ (varint l.step ++ rest)) l.gap_fits,
      uvarint_again l.span (varint l.step ++ rest) l.span_fits,
      varint_again l.step rest l.step_fits,
      not_zero l.gap l.later,
      time_again before.maxt l.gap c.mint l.begins l.begins_in_time,
      time_again c.mint l.span c.maxt l.ends l.ends_in_time,
      reference_again before.reference l.step c.reference l.refers l.fits,
    ) refl
