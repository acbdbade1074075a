-- The deletions that are read are the ones spelled, and spelled deletions are read.
use Rattle.std.proofs.Common.{◌≡◌, ℕ, zero, suc, ◌+◌, ◌-◌, ◌^◌, ◌<◌, ◌≤◌, Bool, true, false, ◌&&◌}
use Rattle.std.proofs.Common.{not, eqb, ltb, List, [], ◌∷◌, ◌++◌, length, Result, Ok, Err, pos}
use Rattle.std.proofs.Common.{negsuc, refl, sym, ap, subst, ◌∙◌, append_assoc, arith}
use Rattle.std.specs.Prelude.{ℤ, int_le, int_lt, IfOk}
use Rattle.std.specs.Int.Signed.{◌≤ℤ◌, lt_z_no}
use Rattle.std.specs.List.{AllByRecursion}
use Rattle.std.specs.List.Sorted.{IsPermutation}
use Rattle.std.proofs.lemmas.Bool.{ltb-false, le-ltb, eqb-true, eqb-false, true_from_ne_false}
use Rattle.std.proofs.lemmas.Int.{ints}
use Rattle.std.proofs.lemmas.List.{length-append, nil_from_length}
use Rattle.std.proofs.lemmas.List.Concat.{flat_map-cons}
use Rattle.byteorder.specs.Endian.{big_bytes}
use Rattle.labels.specs.declared.sample.TheConstants.{MIN_TIME, MAX_TIME}
use Rattle.labels.specs.Contents.{is_time}
use Rattle.labels.proofs.Times.{first_T, second_T, T_of}
use Rattle.wire.specs.Spelling.{uvarint, varint, zigzag, IsBytes}
use Rattle.wire.specs.Reading.{byte_at, bytes_at, number_at, uvarint_at, varint_at}
use Rattle.wire.specs.Checksum.{crc32c}
use Rattle.wire.proofs.ChecksumBound.{crc32c_below}
use Rattle.wire.proofs.Fields.{IsBytes-front, IsBytes-back, number_takes_4, number_again_4}
use Rattle.wire.proofs.Fields.{bytes_takes, bytes_again}
use Rattle.wire.proofs.Laws.{uvarint_takes, uvarint_again, uvarint_long}
use Rattle.wire.proofs.Signed.{varint_takes, varint_again}
use Rattle.wire.specs.Outcome.{◌>>=◌, or_refused}
use Rattle.tombstones.specs.declared.deletion.Deletion.{Deletion}
use Rattle.tombstones.specs.declared.error.TombstoneError.{TombstoneError}
use Rattle.tombstones.specs.declared.error.TombstoneError.TheVariants.{Magic, Version, Crc, Shape}
use Rattle.tombstones.specs.Grammar.{entry_text, entries_text, is_interval, IsDeletion}
use Rattle.tombstones.specs.Grammar.{IsTombstones}
use Rattle.tombstones.specs.Outcome.{GivesAll}
use Rattle.tombstones.specs.Reading.{checked_at, entries_of, entry_at, deletions_from, deletions_of}
use Rattle.wire.proofs.Steps.{bind_ok, refused_ok, not_failed, passed, same_value, rest_fits}

-- an entry

pub record Fronts (bytes : List ℕ) (x : Deletion × List ℕ) : Type 0 where
  pub text : bytes ≡ entry_text x.0 ++ x.1
  pub sound : IsDeletion x.0

pub entry_takes : (bytes : List ℕ) (x : Deletion × List ℕ) → IsBytes bytes
    → entry_at bytes ≡ Ok x → Fronts bytes x
unfolding entry_at
entry_takes bytes x fits h =
    let r = bind_ok (or_refused Shape (uvarint_at bytes)) _ x h in
    let f = bind_ok (or_refused Shape (varint_at r.0.1)) _ x r.2 in
    let t = bind_ok (or_refused Shape (varint_at f.0.1)) _ x f.2 in
    let a = not_failed (ltb 0xFFFF_FFFF r.0.0) Shape _ x t.2 in
    let b = passed (is_interval f.0.0 t.0.0) Shape _ x a.1 in
    let one =
    (uvarint_takes bytes r.0.0 r.0.1 fits (refused_ok Shape (uvarint_at bytes) r.0 r.1)).0 in
    let r_fits = rest_fits bytes (uvarint r.0.0) r.0.1 fits one in
    let two =
    (varint_takes r.0.1 f.0.0 f.0.1 r_fits (refused_ok Shape (varint_at r.0.1) f.0 f.1)).0 in
    let f_fits = rest_fits r.0.1 (varint f.0.0) f.0.1 r_fits two in
    let three =
    (varint_takes f.0.1 t.0.0 t.0.1 f_fits (refused_ok Shape (varint_at f.0.1) t.0 t.1)).0 in
    let made : Deletion × List ℕ =
    (record { reference = r.0.0; from = f.0.0; to = t.0.0 }, t.0.1) in
    let times : r.0.1 ≡ (varint f.0.0 ++ varint t.0.0) ++ t.0.1 =
    two
    ∙ (ap (λ (y : List ℕ). varint f.0.0 ++ y) three
    ∙ sym (append_assoc (varint f.0.0) (varint t.0.0) t.0.1)) in
    let text : bytes ≡ entry_text made.0 ++ t.0.1 =
    one
    ∙ (ap (λ (y : List ℕ). uvarint r.0.0 ++ y) times
    ∙ sym (append_assoc (uvarint r.0.0) (varint f.0.0 ++ varint t.0.0) t.0.1)) in
    subst (Fronts bytes) (same_value made x b.1) (record {
      text = text;
      sound = record { reference = omega (arith, ltb-false _ _ a.0); interval = b.0 };
    })

and_true : (a b : Bool) → (a && b) ≡ true → (a ≡ true) × (b ≡ true)
and_true true b h = (refl, h)
and_true false b h = absurd cc

-- a time is spelled as a number of 64 bits
small : (z : ℤ) → is_time z ≡ true → zigzag z < 2 ^ 64
small (pos n) h =
    let high : pos n ≤ℤ MAX_TIME =
    lt_z_no (second_T (not (int_lt (pos n) MIN_TIME)) (not (int_lt MAX_TIME (pos n))) (T_of _ h)) in
    omega (arith, ints)
small (negsuc n) h =
    let low : MIN_TIME ≤ℤ negsuc n =
    lt_z_no (first_T (not (int_lt (negsuc n) MIN_TIME)) (not (int_lt MAX_TIME (negsuc n))) (T_of _ h)) in
    omega (arith, ints)

record Smalls (d : Deletion) : Type 0 where
  from : zigzag d.from < 2 ^ 64
  to : zigzag d.to < 2 ^ 64

smalls : (d : Deletion) → IsDeletion d → Smalls d
smalls d s =
    let a = and_true (int_le d.from d.to && is_time d.from) (is_time d.to) s.interval in
    let b = and_true (int_le d.from d.to) (is_time d.from) a.0 in
    record { from = small d.from b.1; to = small d.to a.1 }

pub entry_again : (d : Deletion) (rest : List ℕ) → IsDeletion d
    → entry_at (entry_text d ++ rest) ≡ Ok (d, rest)
unfolding entry_at
entry_again d rest s =
    let grouped : entry_text d ++ rest
    ≡ uvarint d.reference ++ (varint d.from ++ (varint d.to ++ rest)) =
    append_assoc (uvarint d.reference) (varint d.from ++ varint d.to) rest
    ∙ ap (λ (y : List ℕ). uvarint d.reference ++ y)
    (append_assoc (varint d.from) (varint d.to) rest) in
    let b = smalls d s in
    let one =
    uvarint_again d.reference (varint d.from ++ (varint d.to ++ rest))
    (omega (arith, s.reference)) in
    let two = varint_again d.from (varint d.to ++ rest) b.from in
    let three = varint_again d.to rest b.to in
    let few : ltb 0xFFFF_FFFF d.reference ≡ false = le-ltb _ _ (omega (arith, s.reference)) in
    ap entry_at grouped ∙ rw (one, two, three, few, s.interval) refl

-- entries up to the end

pub record Spell (bytes : List ℕ) (deletions : List Deletion) : Type 0 where
  pub text : bytes ≡ entries_text deletions
  pub sound : AllByRecursion IsDeletion deletions

pub deletions_take : (n : ℕ) (bytes : List ℕ) (deletions : List Deletion) → IsBytes bytes
    → deletions_from n bytes ≡ Ok deletions → Spell bytes deletions
unfolding deletions_from
deletions_take n [] deletions fits h =
    subst (Spell []) (same_value [] deletions h) (record { text = refl; sound = tt })
deletions_take zero (b ∷ bytes) deletions fits h = absurd cc
deletions_take (suc n) (b ∷ bytes) deletions fits h =
    let first = bind_ok (entry_at (b ∷ bytes)) _ deletions h in
    let others = bind_ok (deletions_from n first.0.1) _ deletions first.2 in
    let front = entry_takes (b ∷ bytes) first.0 fits first.1 in
    let back =
    deletions_take n first.0.1 others.0
    (rest_fits (b ∷ bytes) (entry_text first.0.0) first.0.1 fits front.text) others.1 in
    let made : List Deletion = first.0.0 ∷ others.0 in
    let text : b ∷ bytes ≡ entries_text made =
    front.text
    ∙ (ap (λ (y : List ℕ). entry_text first.0.0 ++ y) back.text
    ∙ sym (flat_map-cons entry_text first.0.0 others.0)) in
    subst (Spell (b ∷ bytes)) (same_value made deletions others.2)
    (record { text = text; sound = (front.sound, back.sound) })

one_more : (n : ℕ) (bytes : List ℕ) (x : Deletion × List ℕ) → 0 < length bytes
    → entry_at bytes ≡ Ok x → deletions_from (suc n) bytes
    ≡ (deletions_from n x.1 >>= λ (ds : List Deletion). Ok (x.0 ∷ ds))
unfolding deletions_from
one_more n [] x some h = absurd (omega arith)
one_more n (b ∷ bytes) x some h = rw h refl

none_left : (n : ℕ) → deletions_from n [] ≡ Ok []
unfolding deletions_from
none_left zero = refl
none_left (suc n) = refl

pub entry_long : (d : Deletion) → 0 < length (entry_text d)
entry_long d = omega (
  arith,
  length-append (uvarint d.reference) (varint d.from ++ varint d.to),
  uvarint_long d.reference,
)

pub deletions_again : (n : ℕ) (deletions : List Deletion) → AllByRecursion IsDeletion deletions
    → length (entries_text deletions) ≤ n → deletions_from n (entries_text deletions) ≡ Ok deletions
deletions_again n [] sound le = none_left n
deletions_again zero (d ∷ deletions) sound le =
    absurd (omega (
      arith,
      ap length (flat_map-cons entry_text d deletions),
      length-append (entry_text d) (entries_text deletions),
      entry_long d,
      le,
    ))
deletions_again (suc n) (d ∷ deletions) sound le =
    let text : entries_text (d ∷ deletions) ≡ entry_text d ++ entries_text deletions =
    flat_map-cons entry_text d deletions in
    let len : length (entry_text d ++ entries_text deletions)
    ≡ length (entry_text d) + length (entries_text deletions) =
    length-append (entry_text d) (entries_text deletions) in
    let le2 : length (entry_text d ++ entries_text deletions) ≤ suc n =
    subst (λ (y : List ℕ). length y ≤ suc n) text le in
    let some = entry_long d in
    let others = deletions_again n deletions sound.1 (omega (arith, le2, len, some)) in
    ap (deletions_from (suc n)) text
    ∙ one_more n (entry_text d ++ entries_text deletions) (d, entries_text deletions)
    (omega (arith, len, some)) (entry_again d (entries_text deletions) sound.0)
    ∙ ap (λ (r : Result (List Deletion) TombstoneError). r
    >>= λ (ds : List Deletion). Ok (d ∷ ds)) others

-- the entries and their checksum

abbrev pub checked : List ℕ → List ℕ
checked entries = entries ++ big_bytes 4 (crc32c entries)

pub checked_takes : (behind entries : List ℕ) → IsBytes behind → checked_at behind ≡ Ok entries
    → behind ≡ checked entries
unfolding checked_at
checked_takes behind entries fits h =
    let k = bind_ok (or_refused Shape (bytes_at (length behind - 4) behind)) _ entries h in
    let s = bind_ok (or_refused Shape (number_at 4 k.0.1)) _ entries k.2 in
    let t = passed (eqb s.0.0 (crc32c k.0.0)) Crc _ entries s.2 in
    let one =
    bytes_takes (length behind - 4) behind k.0.0 k.0.1
    (refused_ok Shape (bytes_at (length behind - 4) behind) k.0 k.1) in
    let two =
    (number_takes_4 k.0.1 s.0.0 s.0.1 (rest_fits behind k.0.0 k.0.1 fits one.0)
    (refused_ok Shape (number_at 4 k.0.1) s.0 s.1)).0 in
    let whole : length behind ≡ length k.0.0 + length k.0.1 =
    ap length one.0 ∙ length-append k.0.0 k.0.1 in
    let four : length k.0.1 ≡ 4 + length s.0.1 =
    ap length two ∙ length-append (big_bytes 4 s.0.0) s.0.1 in
    let nothing : s.0.1 ≡ [] = nil_from_length s.0.1 (omega (arith, whole, four, one.1)) in
    let sum : k.0.1 ≡ big_bytes 4 (crc32c k.0.0) =
    two
    ∙ (ap (λ (y : List ℕ). big_bytes 4 s.0.0 ++ y) nothing
    ∙ ap (λ (n : ℕ). big_bytes 4 n) (eqb-true _ _ t.0)) in
    subst (λ (e : List ℕ). behind ≡ checked e) (same_value k.0.0 entries t.1) (one.0
    ∙ ap (λ (y : List ℕ). k.0.0 ++ y) sum)

equal : (m n : ℕ) → m ≡ n → eqb m n ≡ true
equal m n e = true_from_ne_false (eqb m n) (λ f. eqb-false m n f e)

checked_from : (behind entries sum : List ℕ) (n : ℕ)
    → bytes_at (length behind - 4) behind ≡ Ok (entries, sum) → number_at 4 sum ≡ Ok (n, [])
    → n ≡ crc32c entries → checked_at behind ≡ Ok entries
unfolding checked_at
checked_from behind entries sum n one two e = rw (one, two, equal n (crc32c entries) e) refl

pub checked_again : (entries : List ℕ) → IsBytes entries → checked_at (checked entries) ≡ Ok entries
checked_again entries fits =
    let sum = big_bytes 4 (crc32c entries) in
    let size : length (checked entries) - 4 ≡ length entries =
    omega (arith, length-append entries sum) in
    let one : bytes_at (length (checked entries) - 4) (checked entries) ≡ Ok (entries, sum) =
    ap (λ (n : ℕ). bytes_at n (checked entries)) size ∙ bytes_again entries sum in
    let two : number_at 4 sum ≡ Ok (crc32c entries, []) =
    number_again_4 (crc32c entries) [] (crc32c_below entries fits) in
    checked_from (checked entries) entries sum (crc32c entries) one two refl

-- the file

byte_takes : (bytes : List ℕ) (x : ℕ × List ℕ) → byte_at bytes ≡ Ok x → bytes ≡ x.0 ∷ x.1
byte_takes [] x h = absurd cc
byte_takes (b ∷ bytes) x h =
    let made : ℕ × List ℕ = (b, bytes) in
    let same : made ≡ x = cc in
    ap (λ (p : ℕ × List ℕ). p.0 ∷ p.1) same

pub record IsFile (file entries : List ℕ) : Type 0 where
  pub short : length file ≤ 0x4000_0000
  pub text : file ≡ 0x01 ∷ 0x30 ∷ 0xBA ∷ 0x30 ∷ 1 ∷ checked entries

pub file_takes : (file entries : List ℕ) → IsBytes file → entries_of file ≡ Ok entries
    → IsFile file entries
unfolding entries_of
file_takes file entries fits h =
    let m = bind_ok (or_refused Magic (number_at 4 file)) _ entries h in
    let mt = passed (eqb m.0.0 0x0130_BA30) Magic _ entries m.2 in
    let v = bind_ok (or_refused Version (byte_at m.0.1)) _ entries mt.1 in
    let vt = passed (eqb v.0.0 1) Version _ entries v.2 in
    let s = not_failed (ltb 0x4000_0000 (length file)) Shape _ entries vt.1 in
    let one =
    (number_takes_4 file m.0.0 m.0.1 fits (refused_ok Magic (number_at 4 file) m.0 m.1)).0 in
    let m_fits = rest_fits file (big_bytes 4 m.0.0) m.0.1 fits one in
    let two = byte_takes m.0.1 v.0 (refused_ok Version (byte_at m.0.1) v.0 v.1) in
    let v_fits = rest_fits m.0.1 (v.0.0 ∷ []) v.0.1 m_fits two in
    let three = checked_takes v.0.1 entries v_fits s.1 in
    let head : file ≡ big_bytes 4 0x0130_BA30 ++ m.0.1 =
    one ∙ ap (λ (n : ℕ). big_bytes 4 n ++ m.0.1) (eqb-true _ _ mt.0) in
    let behind : m.0.1 ≡ 1 ∷ checked entries =
    two ∙ (ap (λ (n : ℕ). n ∷ v.0.1) (eqb-true _ _ vt.0) ∙ ap (λ (y : List ℕ). 1 ∷ y) three) in
    record {
      short = ltb-false _ _ s.0;
      text = head ∙ ap (λ (y : List ℕ). big_bytes 4 0x0130_BA30 ++ y) behind;
    }

pub file_again : (file entries : List ℕ) → IsBytes file → IsFile file entries
    → entries_of file ≡ Ok entries
unfolding entries_of
file_again file entries fits f =
    let behind : List ℕ = 1 ∷ checked entries in
    let one : number_at 4 file ≡ Ok (0x0130_BA30, behind) =
    ap (number_at 4) f.text ∙ number_again_4 0x0130_BA30 behind (omega arith) in
    let short : ltb 0x4000_0000 (length file) ≡ false = le-ltb _ _ f.short in
    let behind_fits : IsBytes behind =
    rest_fits file (big_bytes 4 0x0130_BA30) behind fits f.text in
    let entries_fit : IsBytes entries =
    IsBytes-front entries (big_bytes 4 (crc32c entries))
    (IsBytes-back (1 ∷ []) (checked entries) behind_fits) in
    rw (one, short) (checked_again entries entries_fit)

pub tombstones_take : (file : List ℕ) (deletions : List Deletion) → IsBytes file
    → deletions_of file ≡ Ok deletions → IsTombstones file deletions
unfolding deletions_of
tombstones_take file deletions fits h =
    let e = bind_ok (entries_of file) _ deletions h in
    let f = file_takes file e.0 fits e.1 in
    let behind_fits : IsBytes (1 ∷ checked e.0) =
    rest_fits file (big_bytes 4 0x0130_BA30) (1 ∷ checked e.0) fits f.text in
    let entries_fit : IsBytes e.0 =
    IsBytes-front e.0 (big_bytes 4 (crc32c e.0))
    (IsBytes-back (1 ∷ []) (checked e.0) behind_fits) in
    let s = deletions_take (length e.0) e.0 deletions entries_fit e.2 in
    record {
      short = f.short;
      text = f.text ∙ ap (λ (y : List ℕ). 0x01 ∷ 0x30 ∷ 0xBA ∷ 0x30 ∷ 1 ∷ checked y) s.text;
      sound = s.sound;
    }

pub tombstones_again : (file : List ℕ) (deletions : List Deletion) → IsBytes file
    → IsTombstones file deletions → deletions_of file ≡ Ok deletions
unfolding deletions_of
tombstones_again file deletions fits x =
    let entries = entries_text deletions in
    let one : entries_of file ≡ Ok entries =
    file_again file entries fits (record { short = x.short; text = x.text }) in
    let all : length entries ≤ length entries = omega arith in
    rw one (deletions_again (length entries) deletions x.sound all)

-- a call's result by what reading gives

pub is_found : (file : List ℕ) (r : Result (List Deletion) TombstoneError) → IsBytes file
    → GivesAll r (deletions_of file) → IfOk r (λ (held : List Deletion).
    (deletions : List Deletion) × IsTombstones file deletions × IsPermutation deletions held)
is_found file (Ok held) fits h = (h.0, tombstones_take file h.0 fits h.1, h.2)
is_found file (Err e) fits h = tt

pub is_only : (file : List ℕ) (r : Result (List Deletion) TombstoneError)
    (deletions : List Deletion) → IsBytes file → GivesAll r (deletions_of file)
    → IsTombstones file deletions → GivesAll r (Ok deletions)
is_only file r deletions fits h x = subst (GivesAll r) (tombstones_again file deletions fits x) h
