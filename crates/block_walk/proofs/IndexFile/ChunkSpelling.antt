-- A chunk that is read is spelled so.
use Rattle.std.proofs.Common.{◌≡◌, ℕ, zero, suc, ◌^◌, ◌<◌, Bool, true, false, cond, eqb, List, ◌++◌, Option, Some, None, Result, Ok, Err, refl, sym, ap, subst, arith}
use Rattle.std.specs.Prelude.{ℤ, pos, negsuc, ◌+ℤ◌, nat_lt}
use Rattle.std.proofs.lemmas.Bool.{ltb-true}
use Rattle.wire.specs.declared.error.WireError.{WireError}
use Rattle.wire.specs.Spelling.{IsBytes, uvarint, varint}
use Rattle.wire.specs.Reading.{uvarint_at, varint_at}
use Rattle.wire.proofs.Laws.{uvarint_takes}
use Rattle.wire.proofs.Signed.{varint_takes}
use Rattle.block_walk.specs.declared.chunk.Chunk.{Chunk}
use Rattle.labels.specs.Contents.{is_time}
use Rattle.block_walk.specs.IndexFile.Chunks.{is_reference, natural, time_after, reference_after, ◌>>=◌, read, first_chunk_at, later_chunk_at}
use Rattle.block_walk.specs.IndexFile.Spelled.{IsFirst, IsLater}
use Rattle.block_walk.proofs.IndexFile.Fields.{Takes, takes, Takes-then}

some_bind : {A B : Type 0} (o : Option A) (f : A → Option B) (y : B) → (o >>= f) ≡ Some y
    → (x : A) × (o ≡ Some x) × (f x ≡ Some y)
some_bind (Some x) f y h = (x, refl, h)
some_bind None f y h = absurd cc

abbrev given : {A : Type 0} → A → Option A
given x = Some x

some_is : {A : Type 0} (x y : A) → given x ≡ given y → x ≡ y
some_is x y h = cc

read_ok : {A : Type 0} (r : Result A WireError) (x : A) → read r ≡ Some x → r ≡ Ok x
read_ok (Ok y) x h = let e : y ≡ x = some_is y x h in ap (λ z. Ok z) e
read_ok (Err e) x h = absurd cc

so : {A : Type 0} (b : Bool) (o : Option A) (y : A) → cond b o None ≡ Some y
    → (b ≡ true) × (o ≡ Some y)
so true o y h = (refl, h)
so false o y h = absurd cc

not_so : {A : Type 0} (b : Bool) (o : Option A) (y : A) → cond b None o ≡ Some y
    → (b ≡ false) × (o ≡ Some y)
not_so true o y h = absurd cc
not_so false o y h = (refl, h)

time_is : (z : ℤ) (n : ℕ) (t : ℤ) → time_after z n ≡ Some t → (t ≡ z +ℤ pos n) × (is_time t ≡ true)
unfolding time_after
time_is z n t h =
    let w = z +ℤ pos n in
    let g = so (is_time w) (Some w) t h in
    let e : w ≡ t = some_is w t g.1 in
    (sym e, subst (λ (x : ℤ). is_time x ≡ true) e g.0)

from_sum : (w : ℤ) (m : ℕ) → cond (is_reference w) (Some (natural w)) None ≡ Some m
    → (pos m ≡ w) × (m < 2 ^ 64)
from_sum (pos k) m h =
    let g = so (nat_lt k (2 ^ 64)) (Some k) m h in
    let e : k ≡ m = some_is k m g.1 in
    let lt = ltb-true k (2 ^ 64) g.0 in
    (ap (λ (x : ℕ). pos x) (sym e), omega (arith, e, lt))
from_sum (negsuc k) m h = absurd cc

reference_is : (n : ℕ) (z : ℤ) (m : ℕ) → reference_after n z ≡ Some m
    → (pos m ≡ pos n +ℤ z) × (m < 2 ^ 64)
reference_is n z m h = from_sum (pos n +ℤ z) m h

above_zero : (n : ℕ) → eqb n 0 ≡ false → 0 < n
above_zero zero h = absurd cc
above_zero (suc n) h = omega arith

pub first_spelled : (bytes : List ℕ) (y : Chunk × List ℕ) → IsBytes bytes → first_chunk_at bytes ≡ Some y
    → (text : List ℕ) × Takes bytes text y.1 × IsFirst y.0 text
unfolding first_chunk_at
first_spelled bytes y fits h =
    let a = some_bind (read (varint_at bytes)) _ y h in
    let b = some_bind (read (uvarint_at a.0.1)) _ y a.2 in
    let c = some_bind (read (uvarint_at b.0.1)) _ y b.2 in
    let ta = varint_takes bytes a.0.0 a.0.1 fits (read_ok (varint_at bytes) a.0 a.1) in
    let t0 = takes bytes (varint a.0.0) a.0.1 fits ta.0 in
    let tb = uvarint_takes a.0.1 b.0.0 b.0.1 t0.rest_fits (read_ok (uvarint_at a.0.1) b.0 b.1) in
    let t1 = takes a.0.1 (uvarint b.0.0) b.0.1 t0.rest_fits tb.0 in
    let tc = uvarint_takes b.0.1 c.0.0 c.0.1 t1.rest_fits (read_ok (uvarint_at b.0.1) c.0 c.1) in
    let t2 = takes b.0.1 (uvarint c.0.0) c.0.1 t1.rest_fits tc.0 in
    let g = so (is_time a.0.0) _ y c.2 in
    let t = some_bind (time_after a.0.0 b.0.0) _ y g.1 in
    let k = time_is a.0.0 b.0.0 t.0 t.1 in
    let made : Chunk × List ℕ = (record { mint = a.0.0; maxt = t.0; reference = c.0.0 }, c.0.1) in
    let text = varint a.0.0 ++ (uvarint b.0.0 ++ uvarint c.0.0) in
    let took =
    Takes-then bytes (varint a.0.0) a.0.1 (uvarint b.0.0 ++ uvarint c.0.0) c.0.1 t0
    (Takes-then a.0.1 (uvarint b.0.0) b.0.1 (uvarint c.0.0) c.0.1 t1 t2) in
    let whole : IsFirst made.0 text = record {
      span = b.0.0;
      spelled = refl;
      span_fits = tb.1;
      fits = tc.1;
      ends = k.0;
      begins_in_time = g.0;
      ends_in_time = k.1;
    } in
    subst (λ (z : Chunk × List ℕ). (x : List ℕ) × Takes bytes x z.1 × IsFirst z.0 x)
    (some_is made y t.2) (text, took, whole)

pub later_spelled : (before : Chunk) (bytes : List ℕ) (y : Chunk × List ℕ) → IsBytes bytes
    → later_chunk_at before bytes ≡ Some y
    → (text : List ℕ) × Takes bytes text y.1 × IsLater before y.0 text
unfolding later_chunk_at
later_spelled before bytes y fits h =
    let a = some_bind (read (uvarint_at bytes)) _ y h in
    let b = some_bind (read (uvarint_at a.0.1)) _ y a.2 in
    let c = some_bind (read (varint_at b.0.1)) _ y b.2 in
    let ta = uvarint_takes bytes a.0.0 a.0.1 fits (read_ok (uvarint_at bytes) a.0 a.1) in
    let t0 = takes bytes (uvarint a.0.0) a.0.1 fits ta.0 in
    let tb = uvarint_takes a.0.1 b.0.0 b.0.1 t0.rest_fits (read_ok (uvarint_at a.0.1) b.0 b.1) in
    let t1 = takes a.0.1 (uvarint b.0.0) b.0.1 t0.rest_fits tb.0 in
    let tc = varint_takes b.0.1 c.0.0 c.0.1 t1.rest_fits (read_ok (varint_at b.0.1) c.0 c.1) in
    let t2 = takes b.0.1 (varint c.0.0) c.0.1 t1.rest_fits tc.0 in
    let g = not_so (eqb a.0.0 0) _ y c.2 in
    let m = some_bind (time_after before.maxt a.0.0) _ y g.1 in
    let t = some_bind (time_after m.0 b.0.0) _ y m.2 in
    let r = some_bind (reference_after before.reference c.0.0) _ y t.2 in
    let i = time_is before.maxt a.0.0 m.0 m.1 in
    let k = time_is m.0 b.0.0 t.0 t.1 in
    let n = reference_is before.reference c.0.0 r.0 r.1 in
    let made : Chunk × List ℕ = (record { mint = m.0; maxt = t.0; reference = r.0 }, c.0.1) in
    let text = uvarint a.0.0 ++ (uvarint b.0.0 ++ varint c.0.0) in
    let took =
    Takes-then bytes (uvarint a.0.0) a.0.1 (uvarint b.0.0 ++ varint c.0.0) c.0.1 t0
    (Takes-then a.0.1 (uvarint b.0.0) b.0.1 (varint c.0.0) c.0.1 t1 t2) in
    let whole : IsLater before made.0 text = record {
      gap = a.0.0;
      span = b.0.0;
      step = c.0.0;
      spelled = refl;
      gap_fits = ta.1;
      span_fits = tb.1;
      step_fits = tc.1;
      later = above_zero a.0.0 g.0;
      begins = i.0;
      ends = k.0;
      refers = n.0;
      begins_in_time = i.1;
      ends_in_time = k.1;
      fits = n.1;
    } in
    subst (λ (z : Chunk × List ℕ). (x : List ℕ) × Takes bytes x z.1 × IsLater before z.0 x)
    (some_is made y r.2) (text, took, whole)
