-- Reading series one after the other, as a loop does.
use Rattle.std.proofs.Common.{◌≡◌, Bool, true, false, ℕ, zero, suc, ◌+◌, ◌<◌, List, [], ◌∷◌, ◌++◌}
use Rattle.std.proofs.Common.{Result, Ok, Err, map, length, take, drop, get_or, refl, sym, ap, subst}
use Rattle.std.proofs.Common.{◌∙◌, append_assoc, arith, Vec}
use Rattle.std.specs.Prelude.{⊤, MatchBool}
use Rattle.std.specs.declared.alloc.Global.{Global}
use Rattle.std.specs.List.{AllByRecursion}
use Rattle.std.proofs.lemmas.List.{append-nil, length-append, length-map, map-append}
use Rattle.std.proofs.lemmas.Grind.{take_at_read}
use Rattle.std.proofs.Math.Seq.{drop-cons}
use Rattle.wire.specs.Outcome.{◌>>=◌, Fails}
use Rattle.head.specs.Heads.{HeadSeries}
use Rattle.event_text.specs.declared.error.TextError.{TextError}
use Rattle.event_text.specs.Outcome as text
use Rattle.journal.specs.Contents.{contents_in}
use Rattle.head_record.specs.declared.error.RefusedHead.{RefusedHead}
use Rattle.head_record.specs.Outcome.{is_memory}
use Rattle.head_record.specs.Reading.{each_series, series_of}
use Rattle.head_record.specs.Spelling.{series_content, IsSeries, SpellEach, SpellsSeries}

pub map_fails : (b : Bool) (P Q : Type 0) → (P → Q) → MatchBool b ⊤ P → MatchBool b ⊤ Q
map_fails true P Q f h = tt
map_fails false P Q f h = f h

abbrev Bytes : Type 0
Bytes = Vec ℕ Global

abbrev no_bytes : List Bytes
no_bytes = []

abbrev map_series : List HeadSeries → List (List ℕ)
map_series hs = map series_content hs

-- what was read before, and what is still read
abbrev pub with_front : List HeadSeries → Result (List HeadSeries) RefusedHead
    → Result (List HeadSeries) RefusedHead
with_front front read = read >>= λ hs. Ok (front ++ hs)

regroup : (front : List HeadSeries) (h : HeadSeries)
    (read : Result (List HeadSeries) RefusedHead)
    → with_front front (read >>= λ hs. Ok (h ∷ hs)) ≡ with_front (front ++ h ∷ []) read
regroup front h (Ok hs) = ap (λ (x : List HeadSeries). Ok x) (sym (append_assoc front (h ∷ []) hs))
regroup front h (Err e) = refl

next : (at : ℕ) (vs : List Bytes) (i : ℕ) (d : Bytes) → i < length vs
    → each_series at (contents_in (drop i vs))
    ≡ each_series at ((get_or vs i d).items ∷ contents_in (drop (suc i) vs))
next at vs i d lt = ap (λ (x : List Bytes). each_series at (contents_in x)) (drop-cons vs i d lt)

pub goes_on : (vs : List Bytes) (i : ℕ) (d : Bytes) (content : List ℕ)
    (front new : List HeadSeries) (h : HeadSeries) (total : Result (List HeadSeries) RefusedHead)
    → i < length vs → content ≡ (get_or vs i d).items → series_of content ≡ Ok h
    → new ≡ front ++ h ∷ []
    → with_front front (each_series (length front + 1) (contents_in (drop i vs))) ≡ total
    → with_front new (each_series (length new + 1) (contents_in (drop (i + 1) vs))) ≡ total
unfolding each_series
goes_on vs i d content front new h total lt is read more so_far =
    let at = length front + 1 in
    let k : suc i ≡ i + 1 = omega arith in
    let n : length new + 1 ≡ at + 1 = omega (arith, ap length more, length-append front (h ∷ [])) in
    let here : series_of (get_or vs i d).items ≡ Ok h = ap series_of (sym is) ∙ read in
    let later = each_series (at + 1) (contents_in (drop (suc i) vs)) in
    let one : with_front front (each_series at (contents_in (drop i vs)))
    ≡ with_front (front ++ h ∷ []) later =
    ap (with_front front) (next at vs i d lt) ∙ rw here (regroup front h later) in
    let two : with_front new later ≡ total =
    ap (λ (x : List HeadSeries). with_front x later) more ∙ (sym one ∙ so_far) in
    subst (λ (m : ℕ). with_front new (each_series m (contents_in (drop (i + 1) vs))) ≡ total) (sym n)
    (subst (λ (m : ℕ). with_front new (each_series (at + 1) (contents_in (drop m vs))) ≡ total) k
    two)

stopped : (vs : List Bytes) (i at : ℕ) (d : Bytes) (content : List ℕ) (front : List HeadSeries)
    (f : TextError) (total : Result (List HeadSeries) RefusedHead)
    → i < length vs → content ≡ (get_or vs i d).items → series_of content ≡ Err f
    → with_front front (each_series at (contents_in (drop i vs))) ≡ total
    → total ≡ Err (record { at = at; error = f })
unfolding each_series
stopped vs i at d content front f total lt is read so_far =
    let here : series_of (get_or vs i d).items ≡ Err f = ap series_of (sym is) ∙ read in
    let one : with_front front (each_series at (contents_in (drop i vs)))
    ≡ Err (record { at = at; error = f }) =
    ap (with_front front) (next at vs i d lt) ∙ rw here refl in
    sym so_far ∙ one

pub ends : (vs : List Bytes) (i at : ℕ) (d : Bytes) (content : List ℕ) (front : List HeadSeries)
    (f : TextError) (total : Result (List HeadSeries) RefusedHead)
    → i < length vs → content ≡ (get_or vs i d).items → Fails text.is_memory f (series_of content)
    → with_front front (each_series at (contents_in (drop i vs))) ≡ total
    → Fails is_memory (record { at = at; error = f }) total
ends vs i at d content front f total lt is h so_far =
    map_fails (text.is_memory f) _ _
    (λ read. stopped vs i at d content front f total lt is read so_far) h

nothing_left : (vs : List Bytes) (i : ℕ) → length vs ≡ i → drop i vs ≡ no_bytes
nothing_left [] i e = subst (λ (n : ℕ). drop n no_bytes ≡ no_bytes) e refl
nothing_left (v ∷ vs) zero e = absurd cc
nothing_left (v ∷ vs) (suc i) e = nothing_left vs i (omega (arith, e))

pub is_done : (vs : List Bytes) (i at : ℕ) (front : List HeadSeries)
    (total : Result (List HeadSeries) RefusedHead) → length vs ≡ i
    → with_front front (each_series at (contents_in (drop i vs))) ≡ total → total ≡ Ok front
unfolding each_series
is_done vs i at front total is so_far =
    let one : with_front front (each_series at (contents_in (drop i vs))) ≡ Ok front =
    ap (λ (x : List Bytes). with_front front (each_series at (contents_in x)))
    (nothing_left vs i is)
    ∙ ap (λ (x : List HeadSeries). Ok x) (append-nil front) in
    sym so_far ∙ one

-- and that they are those of the contents

all_last : (hs : List HeadSeries) (h : HeadSeries) → AllByRecursion IsSeries hs → IsSeries h
    → AllByRecursion IsSeries (hs ++ h ∷ [])
all_last [] h all i = (i, tt)
all_last (x ∷ hs) h all i = (all.0, all_last hs h all.1 i)

pub spell_more : (vs : List Bytes) (i : ℕ) (d : Bytes) (content : List ℕ)
    (hs new : List HeadSeries) (h : HeadSeries) → i < length vs
    → content ≡ (get_or vs i d).items → SpellEach (contents_in (take i vs)) hs
    → SpellsSeries content h → new ≡ hs ++ h ∷ []
    → SpellEach (contents_in (take (i + 1) vs)) new
spell_more vs i d content hs new h lt is so_far s more =
    let v = get_or vs i d in
    let texts : contents_in (take (i + 1) vs) ≡ map_series (hs ++ h ∷ []) =
    ap contents_in (take_at_read vs i d lt).1
    ∙ (map-append (λ (w : Bytes). w.items) (take i vs) (v ∷ [])
    ∙ (ap (λ (x : List (List ℕ)). x ++ v.items ∷ []) so_far.texts
    ∙ (ap (λ (x : List ℕ). map_series hs ++ x ∷ []) (sym is ∙ s.text)
    ∙ sym (map-append series_content hs (h ∷ []))))) in
    subst (SpellEach (contents_in (take (i + 1) vs))) (sym more)
    (record { texts = texts; each = all_last hs h so_far.each s.fits })

whole : (vs : List Bytes) (i : ℕ) → length vs ≡ i → take i vs ≡ vs
whole [] i e = subst (λ (n : ℕ). take n no_bytes ≡ no_bytes) e refl
whole (v ∷ vs) zero e = absurd cc
whole (v ∷ vs) (suc i) e = ap (λ (x : List Bytes). v ∷ x) (whole vs i (omega (arith, e)))

pub spell_whole : (vs : List Bytes) (i : ℕ) (hs : List HeadSeries) → length vs ≡ i
    → SpellEach (contents_in (take i vs)) hs → SpellEach (contents_in vs) hs
spell_whole vs i hs is s =
    subst (λ (x : List Bytes). SpellEach (contents_in x) hs) (whole vs i is) s

pub taken : (vs : List Bytes) (n : ℕ) → contents_in (take n vs) ≡ take n (contents_in vs)
taken [] zero = refl
taken [] (suc n) = refl
taken (v ∷ vs) zero = refl
taken (v ∷ vs) (suc n) = ap (λ (x : List (List ℕ)). v.items ∷ x) (taken vs n)

pub sized : (vs : List Bytes) (n : ℕ) → n ≡ length vs + 1 → n ≡ length (contents_in vs) + 1
sized vs n e = omega (arith, e, length-map vs (λ (w : Bytes). w.items))
