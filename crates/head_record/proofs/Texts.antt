-- What is read is the one text of its value, and each text is read.
use Rattle.std.proofs.Common.{◌≡◌, ℕ, Bool, true, false, eqb, List, [], ◌∷◌, ◌++◌, Result, Ok, Err}
use Rattle.std.proofs.Common.{refl, sym, ap}
use Rattle.std.proofs.Common.{subst, ◌∙◌, append_assoc}
use Rattle.std.specs.Prelude.{IfOk, if◌then◌else◌}
use Rattle.std.proofs.lemmas.Bool.{eqb-true}
use Rattle.std.proofs.lemmas.List.{append-nil}
use Rattle.wire.specs.Spelling.{uvarint, varint, IsBytes}
use Rattle.wire.specs.Reading.{byte_at, uvarint_at, varint_at}
use Rattle.wire.specs.Outcome.{or_refused}
use Rattle.wire.proofs.Laws.{uvarint_takes, uvarint_again}
use Rattle.wire.proofs.Signed.{varint_takes, varint_again}
use Rattle.wire.proofs.Steps.{bind_ok, refused_ok, passed, same_value, rest_fits}
use Rattle.block_folder.specs.declared.values.Values.{Values}
use Rattle.block_folder.specs.declared.values.Values.TheVariants.{Whole, Doubles}
use Rattle.head.specs.Heads.{HeadSeries}
use Rattle.event_text.specs.declared.error.TextError.{TextError}
use Rattle.event_text.specs.declared.error.TextError.TheVariants.{Kind, Field}
use Rattle.event_text.specs.Outcome.{Gives}
use Rattle.event_text.specs.Spelling.{many_text, labels_text, sample_text, IsSample}
use Rattle.event_text.specs.Reading.{many_at, labels_at, sample_at}
use Rattle.event_text.proofs.Labelled.{is_label_set, are_labels_when}
use Rattle.event_text.proofs.Texts.{EachAgain, EachTakes, IsSet, Takes, labels_again, labels_takes}
use Rattle.event_text.proofs.Texts.{many_again, many_takes, sample_again, sample_takes}
use Rattle.head_record.specs.declared.parts.OpeningParts.{OpeningParts}
use Rattle.head_record.specs.Reading.{ended, opening_at, opening_of, opening_whole, place_at}
use Rattle.head_record.specs.Reading.{series_at, series_of, series_whole}
use Rattle.head_record.specs.Spelling.{Opening, opening_content, opening_kind, opening_text}
use Rattle.head_record.specs.Spelling.{place_text, series_content, series_text}
use Rattle.head_record.specs.Spelling.{IsOpening, IsPlace, IsSeries, SpellsOpening, SpellsSeries}
use Rattle.head_record.specs.Views.{opening_in}

-- one part more in front
joined : (a b x rest : List ℕ) → x ≡ b ++ rest → a ++ x ≡ (a ++ b) ++ rest
joined a b x rest e = ap (λ (y : List ℕ). a ++ y) e ∙ sym (append_assoc a b rest)

parted : (a b c rest : List ℕ) → (a ++ (b ++ c)) ++ rest ≡ a ++ (b ++ (c ++ rest))
parted a b c rest =
    append_assoc a (b ++ c) rest ∙ ap (λ (y : List ℕ). a ++ y) (append_assoc b c rest)

place_takes : EachTakes place_at place_text IsPlace
unfolding place_at
place_takes bytes x fits h =
    let t = bind_ok (or_refused Field (uvarint_at bytes)) _ x h in
    let v = bind_ok (or_refused Field (uvarint_at t.0.1)) _ x t.2 in
    let one = uvarint_takes bytes t.0.0 t.0.1 fits (refused_ok Field (uvarint_at bytes) t.0 t.1) in
    let t_fits = rest_fits bytes (uvarint t.0.0) t.0.1 fits one.0 in
    let two = uvarint_takes t.0.1 v.0.0 v.0.1 t_fits (refused_ok Field (uvarint_at t.0.1) v.0 v.1) in
    subst (Takes place_text IsPlace bytes) (same_value ((t.0.0, v.0.0), v.0.1) x v.2) (record {
      front = one.0 ∙ joined (uvarint t.0.0) (uvarint v.0.0) t.0.1 v.0.1 two.0;
      fits = record { folder = one.1; tombstones = two.1 };
      behind = rest_fits t.0.1 (uvarint v.0.0) v.0.1 t_fits two.0;
    })

place_again : EachAgain place_at place_text IsPlace
unfolding place_at
place_again p rest h =
    let one = uvarint_again p.0 (uvarint p.1 ++ rest) h.folder in
    let two = uvarint_again p.1 rest h.tombstones in
    ap place_at (append_assoc (uvarint p.0) (uvarint p.1) rest) ∙ rw (one, two) refl

-- what is read of an opening after its kind has the meaning that the kind says
opening_means : (values : Values) (bytes : List ℕ) (x : Opening × List ℕ)
    → opening_at values bytes ≡ Ok x → x.0.values ≡ values
unfolding opening_at
opening_means values bytes x h =
    let f = bind_ok (or_refused Field (varint_at bytes)) _ x h in
    let p = bind_ok (many_at place_at f.0.1) _ x f.2 in
    let n = bind_ok (or_refused Field (uvarint_at p.0.1)) _ x p.2 in
    let made : Opening × List ℕ =
    (record { values = values; floor = f.0.0; places = p.0.0; count = n.0.0 }, n.0.1) in
    sym (ap (λ (y : Opening × List ℕ). y.0.values) (same_value made x n.2))

opening_takes : (values : Values) → EachTakes (opening_at values) opening_text IsOpening
unfolding opening_at opening_text
opening_takes values bytes x fits h =
    let f = bind_ok (or_refused Field (varint_at bytes)) _ x h in
    let p = bind_ok (many_at place_at f.0.1) _ x f.2 in
    let n = bind_ok (or_refused Field (uvarint_at p.0.1)) _ x p.2 in
    let one = varint_takes bytes f.0.0 f.0.1 fits (refused_ok Field (varint_at bytes) f.0 f.1) in
    let f_fits = rest_fits bytes (varint f.0.0) f.0.1 fits one.0 in
    let two = many_takes place_at place_text IsPlace place_takes f.0.1 p.0 f_fits p.1 in
    let three = uvarint_takes p.0.1 n.0.0 n.0.1 two.behind
    (refused_ok Field (uvarint_at p.0.1) n.0 n.1) in
    let made : Opening × List ℕ =
    (record { values = values; floor = f.0.0; places = p.0.0; count = n.0.0 }, n.0.1) in
    let places = many_text place_text p.0.0 in
    subst (Takes opening_text IsOpening bytes) (same_value made x n.2) (record {
      front = one.0 ∙ joined (varint f.0.0) (places ++ uvarint n.0.0) f.0.1 n.0.1
          (two.front ∙ joined places (uvarint n.0.0) p.0.1 n.0.1 three.0);
      fits = record { floor = one.1; places = two.fits; count = three.1 };
      behind = rest_fits p.0.1 (uvarint n.0.0) n.0.1 two.behind three.0;
    })

opening_again : (o : Opening) (rest : List ℕ) → IsOpening o
    → opening_at o.values (opening_text o ++ rest) ≡ Ok (o, rest)
unfolding opening_at opening_text
opening_again o rest h =
    let places = many_text place_text o.places in
    let one = varint_again o.floor (places ++ (uvarint o.count ++ rest)) h.floor in
    let two = many_again place_at place_text IsPlace place_again o.places (uvarint o.count ++ rest)
    h.places in
    let three = uvarint_again o.count rest h.count in
    ap (opening_at o.values) (parted (varint o.floor) places (uvarint o.count) rest)
    ∙ rw (one, two, three) refl

series_takes : EachTakes series_at series_text IsSeries
unfolding series_at series_text
series_takes bytes x fits h =
    let l = bind_ok (labels_at bytes) _ x h in
    let n = bind_ok (sample_at l.0.1) _ x l.2 in
    let s = bind_ok (many_at sample_at n.0.1) _ x n.2 in
    let one = labels_takes bytes l.0 fits l.1 in
    let two = sample_takes l.0.1 n.0 one.behind n.1 in
    let three = many_takes sample_at sample_text IsSample sample_takes n.0.1 s.0 two.behind s.1 in
    let made : HeadSeries × List ℕ =
    (record { labels = l.0.0; samples = s.0.0; newest = n.0.0 }, s.0.1) in
    let samples = many_text sample_text s.0.0 in
    subst (Takes series_text IsSeries bytes) (same_value made x s.2) (record {
      front = one.front ∙ joined (labels_text l.0.0) (sample_text n.0.0 ++ samples) l.0.1 s.0.1
          (two.front ∙ joined (sample_text n.0.0) samples n.0.1 s.0.1 three.front);
      fits = record {
        pairs = one.fits.pairs;
        label_set = is_label_set l.0.0 one.fits.named;
        newest = two.fits;
        samples = three.fits;
      };
      behind = three.behind;
    })

series_again : EachAgain series_at series_text IsSeries
unfolding series_at series_text
series_again h rest i =
    let set : IsSet h.labels =
    record { pairs = i.pairs; named = are_labels_when h.labels i.label_set } in
    let samples = many_text sample_text h.samples in
    let one = labels_again h.labels (sample_text h.newest ++ (samples ++ rest)) set in
    let two = sample_again h.newest (samples ++ rest) i.newest in
    let three = many_again sample_at sample_text IsSample sample_again h.samples rest i.samples in
    ap series_at (parted (labels_text h.labels) (sample_text h.newest) samples rest)
    ∙ rw (one, two, three) refl

-- all of a content

byte_takes : (bytes : List ℕ) (x : ℕ × List ℕ) → byte_at bytes ≡ Ok x → bytes ≡ x.0 ∷ x.1
byte_takes [] x h = absurd cc
byte_takes (b ∷ bytes) x h =
    let made : ℕ × List ℕ = (b, bytes) in
    let same : made ≡ x = cc in
    ap (λ (p : ℕ × List ℕ). p.0 ∷ p.1) same

record Ended {A : Type 0} (a b : A) (rest : List ℕ) : Type 0 where
  same : a ≡ b
  nothing : rest ≡ []

end_takes : {A : Type 0} (a b : A) (rest : List ℕ) → ended a rest ≡ Ok b → Ended a b rest
end_takes a b [] h = record { same = same_value a b h; nothing = refl }
end_takes a b (r ∷ rest) h = absurd cc

-- a content of a kind, by what stands after it
content_is : (kind k : ℕ) (content bytes text rest : List ℕ) → content ≡ k ∷ bytes → k ≡ kind
    → bytes ≡ text ++ rest → rest ≡ [] → content ≡ kind ∷ text
content_is kind k content bytes text rest is e front nothing =
    is ∙ (ap (λ (n : ℕ). n ∷ bytes) e
    ∙ ap (λ (y : List ℕ). kind ∷ y)
    (front ∙ (ap (λ (y : List ℕ). text ++ y) nothing ∙ append-nil text)))

-- the opening of a meaning, behind the kind that says it
whole_found : (values : Values) (kind : ℕ) (content bytes : List ℕ) (o : Opening)
    → IsBytes content → content ≡ kind ∷ bytes → kind ≡ opening_kind values
    → opening_whole values bytes ≡ Ok o → SpellsOpening content o
unfolding opening_whole
whole_found values kind content bytes o fits front is h =
    let x = bind_ok (opening_at values bytes) _ o h in
    let e = end_takes x.0.0 o x.0.1 x.2 in
    let one = opening_takes values bytes x.0 (rest_fits content (kind ∷ []) bytes fits front) x.1 in
    let said : kind ≡ opening_kind x.0.0.values =
    is ∙ ap opening_kind (sym (opening_means values bytes x.0 x.1)) in
    subst (SpellsOpening content) e.same (record {
      text = content_is (opening_kind x.0.0.values) kind content bytes (opening_text x.0.0) x.0.1
          front said one.front e.nothing;
      fits = one.fits;
    })

opening_found : (content : List ℕ) (o : Opening) → IsBytes content
    → opening_of content ≡ Ok o → SpellsOpening content o
unfolding opening_of
opening_found content o fits h =
    let k = bind_ok (or_refused Kind (byte_at content)) _ o h in
    let front = byte_takes content k.0 (refused_ok Kind (byte_at content) k.0 k.1) in
    by_kind (eqb k.0.0 16) (eqb k.0.0 18) (opening_whole Whole k.0.1) (opening_whole Doubles k.0.1)
    o (SpellsOpening content o)
    (λ is read. whole_found Whole k.0.0 content k.0.1 o fits front (eqb-true k.0.0 16 is) read)
    (λ is read. whole_found Doubles k.0.0 content k.0.1 o fits front (eqb-true k.0.0 18 is) read)
    k.2
  where
    by_kind : (a b : Bool) (one two : Result Opening TextError) (o : Opening) (X : Type 0)
        → (a ≡ true → one ≡ Ok o → X) → (b ≡ true → two ≡ Ok o → X)
        → (if a then one else if b then two else Err Kind) ≡ Ok o → X
    by_kind true b one two o X first second h = first refl h
    by_kind false true one two o X first second h = second refl h
    by_kind false false one two o X first second h = absurd cc

whole_read : (o : Opening) → IsOpening o → opening_whole o.values (opening_text o) ≡ Ok o
unfolding opening_whole
whole_read o h =
    let one : opening_at o.values (opening_text o) ≡ Ok (o, []) =
    ap (opening_at o.values) (sym (append-nil (opening_text o))) ∙ opening_again o [] h in
    rw one refl

read_by_kind : (values : Values) (bytes : List ℕ)
    → opening_of (opening_kind values ∷ bytes) ≡ opening_whole values bytes
unfolding opening_of
read_by_kind Whole bytes = refl
read_by_kind Doubles bytes = refl

pub opening_read : (o : Opening) → IsOpening o → opening_of (opening_content o) ≡ Ok o
opening_read o h = read_by_kind o.values (opening_text o) ∙ whole_read o h

series_found : (content : List ℕ) (h : HeadSeries) → IsBytes content
    → series_of content ≡ Ok h → SpellsSeries content h
unfolding series_of series_whole
series_found content o fits h =
    let k = bind_ok (or_refused Kind (byte_at content)) _ o h in
    let p = passed (eqb k.0.0 17) Kind (series_whole k.0.1) o k.2 in
    let x = bind_ok (series_at k.0.1) _ o p.1 in
    let e = end_takes x.0.0 o x.0.1 x.2 in
    let front = byte_takes content k.0 (refused_ok Kind (byte_at content) k.0 k.1) in
    let one = series_takes k.0.1 x.0 (rest_fits content (k.0.0 ∷ []) k.0.1 fits front) x.1 in
    subst (SpellsSeries content) e.same (record {
      text = content_is 17 k.0.0 content k.0.1 (series_text x.0.0) x.0.1 front
          (eqb-true k.0.0 17 p.0) one.front e.nothing;
      fits = one.fits;
    })

pub series_read : (h : HeadSeries) → IsSeries h → series_of (series_content h) ≡ Ok h
unfolding series_of series_whole
series_read h i =
    let one : series_at (series_text h) ≡ Ok (h, []) =
    ap series_at (sym (append-nil (series_text h))) ∙ series_again h [] i in
    rw one refl

-- what a function returned, seen by view, is spelled by the content

found_of : {X Y : Type 0} (view : X → Y) (P : Y → Type 0) (result : Result X TextError)
    (read : Result Y TextError) → ((y : Y) → read ≡ Ok y → P y) → Gives view result read
    → IfOk result (λ (x : X). P (view x))
found_of view P (Ok x) read f g = f (view x) g
found_of view P (Err e) read f g = tt

pub opening_is : (content : List ℕ) (result : Result OpeningParts TextError) → IsBytes content
    → Gives opening_in result (opening_of content)
    → IfOk result (λ (o : OpeningParts). SpellsOpening content (opening_in o))
opening_is content result fits g =
    found_of opening_in (SpellsOpening content) result (opening_of content)
    (λ o h. opening_found content o fits h) g

pub series_is : (content : List ℕ) (result : Result HeadSeries TextError) → IsBytes content
    → Gives (λ (h : HeadSeries). h) result (series_of content)
    → IfOk result (λ (h : HeadSeries). SpellsSeries content h)
series_is content result fits g =
    found_of (λ (h : HeadSeries). h) (SpellsSeries content) result (series_of content)
    (λ h e. series_found content h fits e) g
