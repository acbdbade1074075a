-- What reading a file gives.
use Rattle.std.proofs.Common.{◌≡◌, ◌↔◌, inl, inr, ℕ, ◌-◌, ◌≤◌, List, ◌++◌, length, Result, Ok, Err}
use Rattle.std.proofs.Common.{refl, sym, ap, subst, ◌∙◌, arith, Vec}
use Rattle.std.specs.Prelude.{IfOk, IsErrOf}
use Rattle.std.specs.declared.alloc.Global.{Global}
use Rattle.std.specs.List.{AllByRecursion}
use Rattle.std.proofs.lemmas.List.{length-append}
use Rattle.wire.specs.Spelling.{IsBytes}
use Rattle.journal.specs.declared.error.JournalError.{JournalError}
use Rattle.journal.specs.declared.error.JournalError.TheVariants.{Memory, Magic, Version, Checksum}
use Rattle.journal.specs.declared.error.JournalError.TheVariants.{Length, Size, Medium, Closed}
use Rattle.journal.specs.declared.recovery.Recovered.{Recovered}
use Rattle.journal.specs.declared.record.Stop.{Stop}
use Rattle.journal.specs.declared.record.Stop.TheVariants as stop
use Rattle.journal.specs.Contents.{contents_in}
use Rattle.journal.specs.Outcome.{GivesThese, IsAnswer, IsOfReading, Refuses, Scans, Stops}
use Rattle.journal.specs.Reading.{after_header, record_at}
use Rattle.journal.specs.Records.{header, magic, file_of, records_of, Begins, BeginsOtherwise}
use Rattle.journal.specs.Records.{IsContent, Splits, Recovers, IsDamaged, HasBadLength}
use Rattle.journal.proofs.Headers.{HeaderFront, other, unknown, known, header_front, begins_magic}
use Rattle.journal.proofs.Files.{header_takes, header_refusal, header_magic, header_version}
use Rattle.journal.proofs.Files.{after_file, joined, file_bytes, one_split, same_records}
use Rattle.journal.proofs.Files.{stands_first}
use Rattle.journal.proofs.Stops.{torn_stops, damage_stops, bad_stops, stop_torn, stop_damaged}
use Rattle.journal.proofs.Stops.{stop_bad}

-- the whole answer
pub scanned : (file bytes rest : List ℕ) (contents : Vec (Vec ℕ Global) Global) (len : ℕ) (why : Stop)
    (result : Result Recovered JournalError) → IsBytes file → after_header file ≡ Ok bytes
    → bytes ≡ records_of (contents_in contents.items) ++ rest
    → AllByRecursion IsContent (contents_in contents.items) → record_at rest ≡ Err why
    → len ≡ length file - length rest → IsAnswer contents len why result → Scans file result
scanned file bytes rest contents len why result fits head split each stops size answer =
    by_stop why stops answer
  where
    cs : List (List ℕ)
    cs = contents_in contents.items

    whole : file ≡ file_of cs ++ rest
    whole = joined file bytes rest cs (header_takes file bytes fits head).0 split

    stops_so : (w : Stop) → record_at rest ≡ Err w → Stops w file cs
    stops_so w h = record { rest = rest; whole = whole; each = each; stop = h }

    counted : len ≡ length (file_of cs)
    counted = omega (arith, size, ap length whole, length-append (file_of cs) rest)

    by_stop : (w : Stop) → record_at rest ≡ Err w → IsAnswer contents len w result
        → Scans file result
    by_stop stop.Torn h e = subst (Scans file) (sym e) (stops_so stop.Torn h, counted)
    by_stop stop.Checksum h e = subst (Scans file) (sym e) (cs, stops_so stop.Checksum h, counted)
    by_stop stop.Length h e = subst (Scans file) (sym e) (cs, stops_so stop.Length h, counted)

pub rest_shorter : (file bytes rest : List ℕ) (cs : List (List ℕ)) → IsBytes file
    → after_header file ≡ Ok bytes
    → bytes ≡ records_of cs ++ rest → length rest ≤ length file
rest_shorter file bytes rest cs fits head split =
    let whole = joined file bytes rest cs (header_takes file bytes fits head).0 split in
    omega (arith, ap length whole, length-append (file_of cs) rest)

-- a file that stops for this reason after these contents
abbrev Ends : Stop → List ℕ → List (List ℕ) → Type 0
Ends why file contents = Stops why file contents

abbrev stopped : Stop → Result (List ℕ × List ℕ) Stop
stopped s = Err s

same_stop : (s t : Stop) → stopped s ≡ stopped t → s ≡ t
same_stop s t h = cc

-- one file stops once
one_stop : (file : List ℕ) (cs ds : List (List ℕ)) (e f : Stop) → Ends e file cs → Ends f file ds
    → (cs ≡ ds) × (e ≡ f)
one_stop file cs ds e f a b =
    let one = one_split cs ds a.rest b.rest e f a.each b.each a.stop b.stop
    (same_records a.rest b.rest cs ds (sym a.whole ∙ b.whole)) in
    (one.0, same_stop e f (sym a.stop ∙ (ap record_at one.1 ∙ b.stop)))

from_torn : (file : List ℕ) (cs : List (List ℕ)) → IsBytes file → Recovers file cs
    → Ends stop.Torn file cs
from_torn file cs fits r = record {
  rest = r.rest;
  whole = r.whole;
  each = r.each;
  stop = torn_stops r.rest (file_bytes file r.rest cs fits r.whole) r.ends;
}

from_damaged : (file : List ℕ) (cs : List (List ℕ)) → IsBytes file → Splits IsDamaged file cs
    → Ends stop.Checksum file cs
from_damaged file cs fits r = record {
  rest = r.rest;
  whole = r.whole;
  each = r.each;
  stop = damage_stops r.rest (file_bytes file r.rest cs fits r.whole) r.ends;
}

from_bad : (file : List ℕ) (cs : List (List ℕ)) → IsBytes file → Splits HasBadLength file cs
    → Ends stop.Length file cs
from_bad file cs fits r = record {
  rest = r.rest;
  whole = r.whole;
  each = r.each;
  stop = bad_stops r.rest (file_bytes file r.rest cs fits r.whole) r.ends;
}

pub to_torn : (file : List ℕ) (cs : List (List ℕ)) → IsBytes file → Stops stop.Torn file cs
    → Recovers file cs
to_torn file cs fits r = record {
  rest = r.rest;
  whole = r.whole;
  each = r.each;
  ends = stop_torn r.rest (file_bytes file r.rest cs fits r.whole) r.stop;
}

to_damaged : (file : List ℕ) (cs : List (List ℕ)) → IsBytes file → Stops stop.Checksum file cs
    → Splits IsDamaged file cs
to_damaged file cs fits r = record {
  rest = r.rest;
  whole = r.whole;
  each = r.each;
  ends = stop_damaged r.rest (file_bytes file r.rest cs fits r.whole) r.stop;
}

to_bad : (file : List ℕ) (cs : List (List ℕ)) → IsBytes file → Stops stop.Length file cs
    → Splits HasBadLength file cs
to_bad file cs fits r = record {
  rest = r.rest;
  whole = r.whole;
  each = r.each;
  ends = stop_bad r.rest (file_bytes file r.rest cs fits r.whole) r.stop;
}

abbrev refused : JournalError → Result (List ℕ) JournalError
refused e = Err e

same_refusal : (e f : JournalError) → refused e ≡ Err f → e ≡ f
same_refusal e f h = cc

no_header : (file : List ℕ) (cs : List (List ℕ)) (why : Stop) (e : JournalError) → Ends why file cs
    → after_header file ≡ Err e → ⊥
no_header file cs why e s h =
    let a : refused e ≡ Ok (records_of cs ++ s.rest) = sym h ∙ after_file file s.rest cs s.whole in
    cc

-- the clauses, each by the answer

pub by_found : (file : List ℕ) (result : Result Recovered JournalError) → IsBytes file
    → Scans file result
    → IfOk result (λ (r : Recovered). Recovers file (contents_in r.contents.items))
by_found file (Ok r) fits s = to_torn file _ fits s.0
by_found file (Err e) fits s = tt

pub by_len : (file : List ℕ) (result : Result Recovered JournalError) → Scans file result
    → IfOk result (λ (r : Recovered). r.len ≡ length (file_of (contents_in r.contents.items)))
by_len file (Ok r) s = s.1
by_len file (Err e) s = tt

abbrev view : Recovered → List (List ℕ)
view r = contents_in r.contents.items

torn_else : stop.Torn ≡ stop.Checksum → ⊥
torn_else h = cc

pub by_only : (file : List ℕ) (result : Result Recovered JournalError) (cs : List (List ℕ))
    → IsBytes file
    → Scans file result → Recovers file cs → GivesThese view cs result
by_only file (Ok r) cs fits s h = (one_stop file _ cs stop.Torn stop.Torn s.0 (from_torn file cs fits h)).0
by_only file (Err Memory) cs fits s h = refl
by_only file (Err Magic) cs fits s h = absurd (no_header file cs stop.Torn Magic (from_torn file cs fits h) s)
by_only file (Err Version) cs fits s h = absurd (no_header file cs stop.Torn Version (from_torn file cs fits h) s)
by_only file (Err (Checksum at)) cs fits s h =
    absurd (let e = (one_stop file s.0 cs stop.Checksum stop.Torn s.1 (from_torn file cs fits h)).1 in cc)
by_only file (Err (Length at)) cs fits s h =
    absurd (let e = (one_stop file s.0 cs stop.Length stop.Torn s.1 (from_torn file cs fits h)).1 in cc)
by_only file (Err Size) cs fits s h = absurd s
by_only file (Err Medium) cs fits s h = absurd s
by_only file (Err Closed) cs fits s h = absurd s

-- a fault of this kind, and its place
abbrev pub FoundAt : (List ℕ → Type 0) → List ℕ → ℕ → Type 0
FoundAt P file at =
    (cs : List (List ℕ)) × Splits P file cs × (at ≡ length (file_of cs))

pub by_checksum : (file : List ℕ) (result : Result Recovered JournalError) (at : ℕ) → IsBytes file
    → Scans file result → IsErrOf result (Checksum at) → FoundAt IsDamaged file at
by_checksum file result at fits s e =
    let t = subst (Scans file) e s in (t.0, to_damaged file t.0 fits t.1, t.2)

pub by_length : (file : List ℕ) (result : Result Recovered JournalError) (at : ℕ) → IsBytes file
    → Scans file result → IsErrOf result (Length at) → FoundAt HasBadLength file at
by_length file result at fits s e =
    let t = subst (Scans file) e s in (t.0, to_bad file t.0 fits t.1, t.2)

-- the place after these records
abbrev place : List (List ℕ) → ℕ
place cs = length (file_of cs)

pub by_damaged : (file : List ℕ) (result : Result Recovered JournalError) (cs : List (List ℕ))
    → IsBytes file
    → Scans file result → Splits IsDamaged file cs → Refuses (Checksum (place cs)) result
by_damaged file (Ok r) cs fits s h =
    absurd (let e = (one_stop file _ cs stop.Torn stop.Checksum s.0 (from_damaged file cs fits h)).1 in cc)
by_damaged file (Err Memory) cs fits s h = tt
by_damaged file (Err Magic) cs fits s h = absurd (no_header file cs stop.Checksum Magic (from_damaged file cs fits h) s)
by_damaged file (Err Version) cs fits s h = absurd (no_header file cs stop.Checksum Version (from_damaged file cs fits h) s)
by_damaged file (Err (Checksum at)) cs fits s h =
    let e = (one_stop file s.0 cs stop.Checksum stop.Checksum s.1 (from_damaged file cs fits h)).0 in
    ap (λ (n : ℕ). Checksum n) (s.2 ∙ ap place e)
by_damaged file (Err (Length at)) cs fits s h =
    absurd (let e = (one_stop file s.0 cs stop.Length stop.Checksum s.1 (from_damaged file cs fits h)).1 in cc)
by_damaged file (Err Size) cs fits s h = absurd s
by_damaged file (Err Medium) cs fits s h = absurd s
by_damaged file (Err Closed) cs fits s h = absurd s

pub by_bad : (file : List ℕ) (result : Result Recovered JournalError) (cs : List (List ℕ))
    → IsBytes file
    → Scans file result → Splits HasBadLength file cs → Refuses (Length (place cs)) result
by_bad file (Ok r) cs fits s h =
    absurd (let e = (one_stop file _ cs stop.Torn stop.Length s.0 (from_bad file cs fits h)).1 in cc)
by_bad file (Err Memory) cs fits s h = tt
by_bad file (Err Magic) cs fits s h = absurd (no_header file cs stop.Length Magic (from_bad file cs fits h) s)
by_bad file (Err Version) cs fits s h = absurd (no_header file cs stop.Length Version (from_bad file cs fits h) s)
by_bad file (Err (Checksum at)) cs fits s h =
    absurd (let e = (one_stop file s.0 cs stop.Checksum stop.Length s.1 (from_bad file cs fits h)).1 in cc)
by_bad file (Err (Length at)) cs fits s h =
    let e = (one_stop file s.0 cs stop.Length stop.Length s.1 (from_bad file cs fits h)).0 in
    ap (λ (n : ℕ). Length n) (s.2 ∙ ap place e)
by_bad file (Err Size) cs fits s h = absurd s
by_bad file (Err Medium) cs fits s h = absurd s
by_bad file (Err Closed) cs fits s h = absurd s

-- what refuses the header refuses the file
refused_so : (file : List ℕ) (result : Result Recovered JournalError) (e : JournalError)
    → after_header file ≡ Err e → Scans file result → result ≡ Err e
refused_so file (Ok r) e h s = absurd (no_header file _ stop.Torn e s.0 h)
refused_so file (Err Memory) e h s = absurd (let a : refused e ≡ Ok s.0 = sym h ∙ s.1 in cc)
refused_so file (Err Magic) e h s = ap (λ (f : JournalError). Err f) (same_refusal Magic e (sym s ∙ h))
refused_so file (Err Version) e h s = ap (λ (f : JournalError). Err f) (same_refusal Version e (sym s ∙ h))
refused_so file (Err (Checksum at)) e h s = absurd (no_header file s.0 stop.Checksum e s.1 h)
refused_so file (Err (Length at)) e h s = absurd (no_header file s.0 stop.Length e s.1 h)
refused_so file (Err Size) e h s = absurd s
refused_so file (Err Medium) e h s = absurd s
refused_so file (Err Closed) e h s = absurd s

pub by_magic : (file : List ℕ) (result : Result Recovered JournalError) → IsBytes file
    → Scans file result
    → IsErrOf result Magic ↔ BeginsOtherwise magic file
by_magic file result fits s = (forward, λ begins. backward begins (header_front file fits))
  where
    forward : IsErrOf result Magic → BeginsOtherwise magic file
    forward e begins = header_magic file begins.0 (subst (Scans file) e s) begins.1

    backward : BeginsOtherwise magic file → HeaderFront file → IsErrOf result Magic
    backward begins (other o h) = refused_so file result Magic h s
    backward begins (unknown u h) = absurd (begins u.1)
    backward begins (known k) = absurd (begins (begins_magic file k))

pub by_version : (file : List ℕ) (result : Result Recovered JournalError) → IsBytes file
    → Scans file result
    → IsErrOf result Version ↔ (BeginsOtherwise header file × Begins magic file)
by_version file result fits s = (λ e. forward e (header_front file fits), λ begins. backward begins (header_front file fits))
  where
    forward : IsErrOf result Version → HeaderFront file → BeginsOtherwise header file
        × Begins magic file
    forward e (other o h) =
        absurd (let a = same_refusal Version Magic (sym (subst (Scans file) e s) ∙ h) in cc)
    forward e (unknown u h) = u
    forward e (known k) =
        absurd (header_version file k.0 Version (subst (Scans file) e s) k.1)

    backward : BeginsOtherwise header file × Begins magic file → HeaderFront file
        → IsErrOf result Version
    backward begins (other o h) = absurd (o begins.1)
    backward begins (unknown u h) = refused_so file result Version h s
    backward begins (known k) = absurd (begins.0 k)

pub by_reading : (file : List ℕ) (result : Result Recovered JournalError) → Scans file result
    → IsOfReading result
by_reading file (Ok r) s = tt
by_reading file (Err Memory) s = tt
by_reading file (Err Magic) s = tt
by_reading file (Err Version) s = tt
by_reading file (Err (Checksum at)) s = tt
by_reading file (Err (Length at)) s = tt
by_reading file (Err Size) s = absurd s
by_reading file (Err Medium) s = absurd s
by_reading file (Err Closed) s = absurd s

pub by_kept : (file : List ℕ) (result : Result Recovered JournalError) (cs : List (List ℕ)) (tail : List ℕ) → Scans file result
    → AllByRecursion IsContent cs → file ≡ file_of cs ++ tail
    → IfOk result (λ (r : Recovered). (more : List (List ℕ))
    × (contents_in r.contents.items ≡ cs ++ more))
by_kept file (Ok r) cs tail s h same =
    stands_first cs _ tail s.0.rest stop.Torn h s.0.each s.0.stop
    (same_records tail s.0.rest cs _ (sym same ∙ s.0.whole))
by_kept file (Err e) cs tail s h same = tt

-- the header's refusal
pub header_refused : (file : List ℕ) (e : JournalError) → after_header file ≡ Err e
    → Scans file (Err e)
header_refused file e h =
    elim (header_refusal file e h) [
      | inl m ↦ subst (λ (f : JournalError). Scans file (Err f)) (sym m)
          (subst (λ (f : JournalError). after_header file ≡ Err f) m h)
      | inr v ↦ subst (λ (f : JournalError). Scans file (Err f)) (sym v)
          (subst (λ (f : JournalError). after_header file ≡ Err f) v h)
    ]

-- one file stands for one list
pub one_reading : (file : List ℕ) (a b : List (List ℕ)) → IsBytes file → Recovers file a
    → Recovers file b → a ≡ b
one_reading file a b fits h i =
    (one_stop file a b stop.Torn stop.Torn (from_torn file a fits h) (from_torn file b fits i)).0
