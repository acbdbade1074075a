-- Files: one reading, what a cut leaves of one, and what stands first in one.
use Rattle.std.proofs.Common.{◌≡◌, ◌⊎◌, inl, inr, ℕ, suc, zero, ◌+◌, ◌-◌, ◌<◌, ◌≤◌, Bool, true}
use Rattle.std.proofs.Common.{false, cond, eqb, leb, List, [], ◌∷◌, ◌++◌, length, take, drop}
use Rattle.std.proofs.Common.{Result, Ok, Err, refl, sym, ap, subst, ◌∙◌, append_assoc, arith}
use Rattle.std.specs.List.{AllByRecursion}
use Rattle.std.proofs.lemmas.Bool.{cases_lt, eqb-true, le-leb, lt-leb}
use Rattle.std.proofs.lemmas.List.{length-append, length-take}
use Rattle.byteorder.specs.Endian.{big_bytes}
use Rattle.wire.specs.declared.error.WireError.{WireError}
use Rattle.wire.specs.Spelling.{IsBytes}
use Rattle.wire.specs.Checksum.{checked}
use Rattle.wire.specs.Reading.{byte_at, number_at}
use Rattle.wire.specs.Outcome.{◌>>=◌, or_refused}
use Rattle.wire.proofs.Fields.{number_takes_4, number_again_4}
use Rattle.wire.proofs.Steps.{bind_ok, refused_ok, passed, same_value, rest_fits}
use Rattle.journal.specs.declared.error.JournalError.{JournalError}
use Rattle.journal.specs.declared.error.JournalError.TheVariants.{Magic, Version}
use Rattle.journal.specs.declared.record.Stop.{Stop}
use Rattle.journal.specs.Records.{header, magic, file_of, record_of, records_of, length_text}
use Rattle.journal.specs.Records.{whole_in, IsContent, IsTorn, Recovers}
use Rattle.journal.specs.Reading.{after_header, record_at}
use Rattle.journal.proofs.OneRecord.{record_again}
use Rattle.journal.proofs.Loops.{records_nil, records_cons, length-record}

-- the header

abbrev head_number : ℕ
head_number = 0x465A_4C4A

byte_takes : (bytes : List ℕ) (x : ℕ × List ℕ) → byte_at bytes ≡ Ok x → bytes ≡ x.0 ∷ x.1
byte_takes [] x h = absurd cc
byte_takes (b ∷ bytes) x h =
    let made : ℕ × List ℕ = (b, bytes) in
    let same : made ≡ x = cc in
    ap (λ (p : ℕ × List ℕ). p.0 ∷ p.1) same

abbrev pub after_version : ℕ × List ℕ → Result (List ℕ) JournalError
after_version v = cond (eqb v.0 1) (Ok v.1) (Err Version)

abbrev after_magic : ℕ × List ℕ → Result (List ℕ) JournalError
after_magic m =
    cond (eqb m.0 head_number) (or_refused Version (byte_at m.1) >>= after_version) (Err Magic)

pub header_takes : (file bytes : List ℕ) → IsBytes file → after_header file ≡ Ok bytes
    → (file ≡ header ++ bytes) × IsBytes bytes
unfolding after_header
header_takes file bytes fits h =
    let m = bind_ok (or_refused Magic (number_at 4 file)) after_magic bytes h in
    let mt = passed (eqb m.0.0 head_number) Magic _ bytes m.2 in
    let v = bind_ok (or_refused Version (byte_at m.0.1)) after_version bytes mt.1 in
    let vt = passed (eqb v.0.0 1) Version _ bytes v.2 in
    let one =
    (number_takes_4 file m.0.0 m.0.1 fits (refused_ok Magic (number_at 4 file) m.0 m.1)).0 in
    let two = byte_takes m.0.1 v.0 (refused_ok Version (byte_at m.0.1) v.0 v.1) in
    let first : file ≡ big_bytes 4 head_number ++ m.0.1 =
    one ∙ ap (λ (n : ℕ). big_bytes 4 n ++ m.0.1) (eqb-true _ _ mt.0) in
    let behind : m.0.1 ≡ 1 ∷ bytes =
    two ∙ (ap (λ (n : ℕ). n ∷ v.0.1) (eqb-true _ _ vt.0)
    ∙ ap (λ (y : List ℕ). 1 ∷ y) (same_value v.0.1 bytes vt.1)) in
    let text : file ≡ header ++ bytes =
    first ∙ ap (λ (y : List ℕ). big_bytes 4 head_number ++ y) behind in
    (text, rest_fits file header bytes fits text)

pub at_magic : (behind : List ℕ) → after_header (magic ++ behind)
    ≡ (or_refused Version (byte_at behind) >>= after_version)
unfolding after_header
at_magic behind = rw (number_again_4 head_number behind (omega arith)) refl

pub header_again : (bytes : List ℕ) → after_header (header ++ bytes) ≡ Ok bytes
header_again bytes = at_magic (1 ∷ bytes)

abbrev refused : JournalError → Result (List ℕ) JournalError
refused e = Err e

not_magic : (behind : List ℕ)
    → (or_refused Version (byte_at behind) >>= after_version) ≡ Err Magic → ⊥
not_magic [] h = cc
not_magic (v ∷ behind) h = by_version (eqb v 1) h
  where
    by_version : (b : Bool) → cond b (Ok behind) (refused Version) ≡ Err Magic → ⊥
    by_version true e = cc
    by_version false e = cc

same_refusal : (e f : JournalError) → refused e ≡ Err f → e ≡ f
same_refusal e f h = cc

of_version : (behind : List ℕ) (e : JournalError)
    → (or_refused Version (byte_at behind) >>= after_version) ≡ Err e → e ≡ Version
of_version [] e h = same_refusal e Version (sym h)
of_version (v ∷ behind) e h = by_version (eqb v 1) h
  where
    by_version : (b : Bool) → cond b (Ok behind) (refused Version) ≡ Err e → e ≡ Version
    by_version true g = absurd cc
    by_version false g = same_refusal e Version (sym g)

pub header_magic : (file rest : List ℕ) → after_header file ≡ Err Magic → file ≡ magic ++ rest → ⊥
header_magic file rest h e = not_magic rest (sym (at_magic rest) ∙ (ap after_header (sym e) ∙ h))

pub header_version : (file rest : List ℕ) (e : JournalError) → after_header file ≡ Err e
    → file ≡ header ++ rest → ⊥
header_version file rest e h same =
    let a : refused e ≡ Ok rest = sym h ∙ (ap after_header same ∙ header_again rest) in
    cc

-- no other refusal is of the header
pub header_refusal : (file : List ℕ) (e : JournalError) → after_header file ≡ Err e
    → (e ≡ Magic) ⊎ (e ≡ Version)
unfolding after_header
header_refusal file e h = by_magic (number_at 4 file) h
  where
    by_number : (b : Bool) (v : Result (ℕ × List ℕ) JournalError)
        → ((f : JournalError) → (v >>= after_version) ≡ Err f → f ≡ Version)
        → cond b (v >>= after_version) (refused Magic) ≡ Err e → (e ≡ Magic) ⊎ (e ≡ Version)
    by_number true v later g = inr (later e g)
    by_number false v later g = inl (same_refusal e Magic (sym g))

    by_magic : (r : Result (ℕ × List ℕ) WireError) → (or_refused Magic r >>= after_magic) ≡ Err e
        → (e ≡ Magic) ⊎ (e ≡ Version)
    by_magic (Err f) g = inl (same_refusal e Magic (sym g))
    by_magic (Ok m) g = by_number (eqb m.0 head_number) (or_refused Version (byte_at m.1)) (λ f k. of_version m.1 f k) g

-- the file is the header and the rest
pub joined : (file bytes rest : List ℕ) (cs : List (List ℕ)) → file ≡ header ++ bytes
    → bytes ≡ records_of cs ++ rest → file ≡ file_of cs ++ rest
unfolding file_of
joined file bytes rest cs e f = e ∙ ap (λ (x : List ℕ). header ++ x) f

pub after_file : (file rest : List ℕ) (cs : List (List ℕ)) → file ≡ file_of cs ++ rest
    → after_header file ≡ Ok (records_of cs ++ rest)
unfolding file_of
after_file file rest cs e = ap after_header e ∙ header_again (records_of cs ++ rest)

pub length-file : (cs : List (List ℕ)) → length (file_of cs) ≡ length (records_of cs) + 5
unfolding file_of
length-file cs = omega arith

pub file_bytes : (file rest : List ℕ) (cs : List (List ℕ)) → IsBytes file
    → file ≡ file_of cs ++ rest → IsBytes rest
file_bytes file rest cs fits e = rest_fits file (file_of cs) rest fits e

-- one reading

first_record : (c r : List ℕ) (cs : List (List ℕ))
    → records_of (c ∷ cs) ++ r ≡ record_of c ++ (records_of cs ++ r)
first_record c r cs =
    ap (λ (x : List ℕ). x ++ r) (records_cons c cs) ∙ append_assoc (record_of c) (records_of cs) r

abbrev read : List ℕ → List ℕ → Result (List ℕ × List ℕ) Stop
read c rest = Ok (c, rest)

no_record : (c r s : List ℕ) (cs : List (List ℕ)) (e : Stop) → IsContent c → record_at s ≡ Err e
    → records_of (c ∷ cs) ++ r ≡ s → ⊥
no_record c r s cs e h stop same =
    let a : read c (records_of cs ++ r) ≡ Err e =
    sym (record_again c (records_of cs ++ r) h)
    ∙ (ap record_at (sym (first_record c r cs) ∙ same) ∙ stop) in
    cc

both_read : (c d x y : List ℕ) → read c x ≡ read d y → (c ≡ d) × (x ≡ y)
both_read c d x y e =
    let p : List ℕ × List ℕ = (c, x) in
    let q : List ℕ × List ℕ = (d, y) in
    let same : p ≡ q = cc in
    (ap (λ (z : List ℕ × List ℕ). z.0) same, ap (λ (z : List ℕ × List ℕ). z.1) same)

-- where both begin with a record, it is one
same_first : (c d r s : List ℕ) (cs ds : List (List ℕ)) → IsContent c → IsContent d
    → records_of (c ∷ cs) ++ r ≡ records_of (d ∷ ds) ++ s
    → (c ≡ d) × (records_of cs ++ r ≡ records_of ds ++ s)
same_first c d r s cs ds h i e =
    both_read c d (records_of cs ++ r) (records_of ds ++ s)
    (sym (record_again c (records_of cs ++ r) h)
    ∙ (ap record_at (sym (first_record c r cs) ∙ (e ∙ first_record d s ds))
    ∙ record_again d (records_of ds ++ s) i))

nothing_before : (r : List ℕ) → records_of [] ++ r ≡ r
nothing_before r = ap (λ (x : List ℕ). x ++ r) records_nil

pub one_split : (cs ds : List (List ℕ)) (r s : List ℕ) (e f : Stop) → AllByRecursion IsContent cs
    → AllByRecursion IsContent ds → record_at r ≡ Err e → record_at s ≡ Err f
    → records_of cs ++ r ≡ records_of ds ++ s → (cs ≡ ds) × (r ≡ s)
one_split [] [] r s e f h i a b same = (refl, sym (nothing_before r) ∙ (same ∙ nothing_before s))
one_split [] (d ∷ ds) r s e f h i a b same =
    absurd (no_record d s r ds e i.0 a (sym same ∙ nothing_before r))
one_split (c ∷ cs) [] r s e f h i a b same =
    absurd (no_record c r s cs f h.0 b (same ∙ nothing_before s))
one_split (c ∷ cs) (d ∷ ds) r s e f h i a b same =
    let first = same_first c d r s cs ds h.0 i.0 same in
    let others = one_split cs ds r s e f h.1 i.1 a b first.1 in
    (ap (λ (x : List ℕ). x ∷ cs) first.0 ∙ ap (λ (xs : List (List ℕ)). d ∷ xs) others.0, others.1)

-- whatever follows whole records, they stand first in what is read
pub stands_first : (cs ds : List (List ℕ)) (tail s : List ℕ) (f : Stop)
    → AllByRecursion IsContent cs
    → AllByRecursion IsContent ds → record_at s ≡ Err f
    → records_of cs ++ tail ≡ records_of ds ++ s → (more : List (List ℕ)) × (ds ≡ cs ++ more)
stands_first [] ds tail s f h i b same = (ds, refl)
stands_first (c ∷ cs) [] tail s f h i b same =
    absurd (no_record c tail s cs f h.0 b (same ∙ nothing_before s))
stands_first (c ∷ cs) (d ∷ ds) tail s f h i b same =
    let first = same_first c d tail s cs ds h.0 i.0 same in
    let others = stands_first cs ds tail s f h.1 i.1 b first.1 in (
      others.0,
      ap (λ (x : List ℕ). x ∷ ds) (sym first.0) ∙ ap (λ (xs : List (List ℕ)). c ∷ xs) others.1,
    )

pub same_records : (r s : List ℕ) (cs ds : List (List ℕ)) → file_of cs ++ r ≡ file_of ds ++ s
    → records_of cs ++ r ≡ records_of ds ++ s
unfolding file_of
same_records r s cs ds e = ap (drop 5) e

-- what a cut leaves

pub take_within : (n : ℕ) (a b : List ℕ) → n ≤ length a → take n (a ++ b) ≡ take n a
take_within zero a b le = refl
take_within (suc n) [] b le = absurd (omega arith)
take_within (suc n) (x ∷ a) b le = ap (λ (y : List ℕ). x ∷ y) (take_within n a b (omega arith))

pub take_past : (n : ℕ) (a b : List ℕ) → length a ≤ n → take n (a ++ b) ≡ a ++ take (n - length a) b
take_past n [] b le = let e : n ≡ n - 0 = omega arith in ap (λ (m : ℕ). take m b) e
take_past zero (x ∷ a) b le = absurd (omega arith)
take_past (suc n) (x ∷ a) b le =
    let e : n - length a ≡ suc n - suc (length a) = omega arith in
    ap (λ (y : List ℕ). x ∷ y)
    (take_past n a b (omega arith) ∙ ap (λ (m : ℕ). a ++ take m b) e)

eight_more : (n k : ℕ) (c : List ℕ) → n ≡ 8 + k
    → take n (record_of c) ≡ length_text (length c) ++ take k (checked c)
unfolding record_of
eight_more n k c e =
    ap (λ (m : ℕ). take m (record_of c)) e
    ∙ take_past (8 + k) (length_text (length c)) (checked c) (omega arith)
    ∙ ap (λ (m : ℕ). length_text (length c) ++ take m (checked c)) (omega arith)

torn_front : (n : ℕ) (c : List ℕ) → IsContent c → n < length c + 12 → IsTorn (take n (record_of c))
torn_front n c h lt =
    elim (cases_lt n 8) [
      | inl few ↦ inl (omega (arith, length-take n (record_of c)))
      | inr le ↦
          let part = take (n - 8) (checked c) in
          inr (inl (record {
            len = length c;
            part = part;
            sized = h.sized;
            parts = eight_more n (n - 8) c (omega arith);
            short = omega (arith, length-take (n - 8) (checked c));
          }))
    ]

-- whole records, then a torn end
pub record Cuts (n : ℕ) (cs : List (List ℕ)) : Type 0 where
  pub rest : List ℕ
  pub parts : take n (records_of cs) ≡ records_of (whole_in n cs) ++ rest
  pub each : AllByRecursion IsContent (whole_in n cs)
  pub ends : IsTorn rest

record CutsTo (n : ℕ) (cs kept : List (List ℕ)) : Type 0 where
  rest : List ℕ
  parts : take n (records_of cs) ≡ records_of kept ++ rest
  each : AllByRecursion IsContent kept
  ends : IsTorn rest

cuts_to : (n : ℕ) (cs : List (List ℕ)) → AllByRecursion IsContent cs → CutsTo n cs (whole_in n cs)
cuts_to n [] h =
    record {
      rest = [];
      parts = ap (take n) records_nil ∙ (none n ∙ sym (nothing_before []));
      each = tt;
      ends = inl (omega arith);
    }
  where
    none : (m : ℕ) → take {A = ℕ} m [] ≡ []
    none zero = refl
    none (suc m) = refl
cuts_to n (c ∷ cs) h =
    elim (cases_lt n (length c + 12)) [
      | inl lt ↦
          let no : leb (length c + 12) n ≡ false = lt-leb (length c + 12) n lt in
          let chosen : whole_in n (c ∷ cs) ≡ [] = rw no refl in
          subst (λ (k : List (List ℕ)). CutsTo n (c ∷ cs) k) (sym chosen) (record {
            rest = take n (record_of c);
            parts =
                ap (take n) (records_cons c cs)
                ∙ (take_within n (record_of c) (records_of cs) (omega (arith, length-record c))
                ∙ sym (nothing_before (take n (record_of c))));
            each = tt;
            ends = torn_front n c h.0 lt;
          })
      | inr le ↦
          let yes : leb (length c + 12) n ≡ true = le-leb (length c + 12) n le in
          let m = n - (length c + 12) in
          let chosen : whole_in n (c ∷ cs) ≡ c ∷ whole_in m cs = rw yes refl in
          let others = cuts_to m cs h.1 in
          subst (λ (k : List (List ℕ)). CutsTo n (c ∷ cs) k) (sym chosen) (record {
            rest = others.rest;
            parts =
                ap (take n) (records_cons c cs)
                ∙ (take_past n (record_of c) (records_of cs) (omega (arith, length-record c))
                ∙ (ap (λ (k : ℕ). record_of c ++ take k (records_of cs)) (omega (arith, length-record c))
                ∙ (ap (λ (x : List ℕ). record_of c ++ x) others.parts
                ∙ sym (first_record c others.rest (whole_in m cs)))));
            each = (h.0, others.each);
            ends = others.ends;
          })
    ]

pub cut_recovers : (n : ℕ) (cs : List (List ℕ)) → AllByRecursion IsContent cs → 5 ≤ n
    → Recovers (take n (file_of cs)) (whole_in (n - 5) cs)
unfolding file_of
cut_recovers n cs h le =
    let c = cuts_to (n - 5) cs h in
    record {
      rest = c.rest;
      whole = take_past n header (records_of cs) le ∙ ap (λ (x : List ℕ). header ++ x) c.parts;
      each = c.each;
      ends = c.ends;
    }

-- what is wholly in the first bytes stays
pub kept_whole : (n : ℕ) (cs ds : List (List ℕ)) → length (records_of cs) ≤ n
    → whole_in n (cs ++ ds) ≡ cs ++ whole_in (n - length (records_of cs)) ds
kept_whole n [] ds le = ap (λ (m : ℕ). whole_in m ds) (omega (arith, ap length records_nil))
kept_whole n (c ∷ cs) ds le =
    let size : length (records_of (c ∷ cs)) ≡ length c + 12 + length (records_of cs) =
    omega (arith, ap length (records_cons c cs), length-append (record_of c) (records_of cs), length-record c) in
    let yes : leb (length c + 12) n ≡ true = le-leb (length c + 12) n (omega arith) in
    let m = n - (length c + 12) in
    let others = kept_whole m cs ds (omega arith) in
    let chosen : whole_in n (c ∷ (cs ++ ds)) ≡ c ∷ whole_in m (cs ++ ds) = rw yes refl in
    chosen ∙ (ap (λ (x : List (List ℕ)). c ∷ x) others
    ∙ ap (λ (k : ℕ). c ∷ (cs ++ whole_in k ds)) (omega arith))

-- what reading a whole file gives, by what its parts gave
