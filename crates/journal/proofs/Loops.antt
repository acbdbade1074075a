-- The loop that reads one record after another.
use Rattle.std.proofs.Common.{◌≡◌, ℕ, ◌+◌, ◌<◌, List, [], ◌∷◌, ◌++◌, length, Ok, refl, sym, ap}
use Rattle.std.proofs.Common.{subst, ◌∙◌, append_assoc, arith, Vec}
use Rattle.std.specs.declared.alloc.Global.{Global}
use Rattle.std.specs.List.{AllByRecursion}
use Rattle.std.proofs.lemmas.List.{length-append, append-nil, map-append}
use Rattle.std.proofs.lemmas.List.Concat.{flat_map-cons}
use Rattle.std.proofs.lemmas.Grind.{flat_map-append}
use Rattle.wire.specs.Checksum.{crc32c}
use Rattle.wire.specs.Spelling.{IsBytes}
use Rattle.byteorder.specs.Endian.{big_bytes}
use Rattle.journal.specs.Contents.{contents_in}
use Rattle.journal.specs.Records.{record_of, records_of, IsContent}
use Rattle.journal.specs.Reading.{record_at}
use Rattle.journal.proofs.OneRecord.{record_takes}

-- what was read so far, and what is left
pub record Reads (bytes : List ℕ) (read : List (List ℕ)) (rest : List ℕ) : Type 0 where
  pub split : bytes ≡ records_of read ++ rest
  pub each : AllByRecursion IsContent read
  pub fits : IsBytes rest

pub records_nil : records_of [] ≡ []
unfolding records_of
records_nil = refl

pub records_cons : (c : List ℕ) (cs : List (List ℕ))
    → records_of (c ∷ cs) ≡ record_of c ++ records_of cs
unfolding records_of
records_cons c cs = flat_map-cons record_of c cs

pub records_append : (cs ds : List (List ℕ))
    → records_of (cs ++ ds) ≡ records_of cs ++ records_of ds
unfolding records_of
records_append cs ds = flat_map-append record_of cs ds

pub records_one : (c : List ℕ) → records_of (c ∷ []) ≡ record_of c
records_one c = records_cons c [] ∙ ap (λ (x : List ℕ). record_of c ++ x) records_nil
    ∙ append-nil (record_of c)

pub length-record : (c : List ℕ) → length (record_of c) ≡ length c + 12
unfolding record_of
length-record c = omega (arith, length-append c (big_bytes 4 (crc32c c)))

pub all_last : (cs : List (List ℕ)) (c : List ℕ) → AllByRecursion IsContent cs → IsContent c
    → AllByRecursion IsContent (cs ++ c ∷ [])
all_last [] c h i = (i, tt)
all_last (d ∷ cs) c h i = (h.0, all_last cs c h.1 i)

pub contents_last : (vs : List (Vec ℕ Global)) (v : Vec ℕ Global)
    → contents_in (vs ++ v ∷ []) ≡ contents_in vs ++ v.items ∷ []
contents_last vs v = map-append (λ (w : Vec ℕ Global). w.items) vs (v ∷ [])

pub begun : (bytes : List ℕ) (vs : List (Vec ℕ Global)) → vs ≡ [] → IsBytes bytes
    → Reads bytes (contents_in vs) bytes
begun bytes vs e fits = subst (λ (us : List (Vec ℕ Global)). Reads bytes (contents_in us) bytes) (sym e)
    (record { split = sym (ap (λ (x : List ℕ). x ++ bytes) records_nil); each = tt; fits = fits })

pub shorter : (bytes : List ℕ) (x : List ℕ × List ℕ) → IsBytes bytes → record_at bytes ≡ Ok x
    → length x.1 < length bytes
shorter bytes x fits h =
    let f = record_takes bytes x fits h in
    omega (arith, ap length f.text, length-append (record_of x.0) x.1, length-record x.0)

pub one_more : (bytes : List ℕ) (read : List (List ℕ)) (rest content after : List ℕ)
    → Reads bytes read rest
    → record_at rest ≡ Ok (content, after) → Reads bytes (read ++ content ∷ []) after
one_more bytes read rest content after r h =
    let f = record_takes rest (content, after) r.fits h in
    record {
      split = r.split ∙ ap (λ (x : List ℕ). records_of read ++ x) f.text
          ∙ sym (append_assoc (records_of read) (record_of content) after)
          ∙ ap (λ (x : List ℕ). x ++ after) (ap (λ (x : List ℕ). records_of read ++ x) (sym (records_one content)) ∙ sym (records_append read (content ∷ [])));
      each = all_last read content r.each f.content;
      fits = f.fits;
    }
