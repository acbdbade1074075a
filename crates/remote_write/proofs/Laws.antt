-- What is read is what the bytes mean, and what they mean is read.
use Rattle.std.proofs.Common.{◌≡◌, ℕ, ◌+◌, Bool, true, false, eqb, cond, List, [], ◌∷◌, ◌++◌, length, Result, Ok, refl, sym, ap, subst, ◌∙◌, arith, append_assoc, ℤ}
use Rattle.std.proofs.lemmas.List.{append-nil}
use Rattle.std.proofs.lemmas.Bool.{eqb-true}
use Rattle.std.specs.Int.{w64, cast_signed}
use Rattle.wire.specs.Spelling.{IsBytes}
use Rattle.protobuf_fields.specs.Format.{Value, Number, Eight, Text, Four, EachIs, texts, numbers, eights, last_or}
use Rattle.protobuf_fields.specs.Reading.{Refusal}
use Rattle.protobuf_fields.proofs.Fields.{bind_ok}
use Rattle.protobuf_fields.proofs.Messages.{Steps, steps_once, message_took, message_again, FitTexts}
use Rattle.remote_write.specs.Format.{LabelValue, SampleValue, SeriesValue, IsLabel, IsSample, IsSeries, IsRequest, label_allows, sample_allows, series_allows, request_allows}
use Rattle.remote_write.specs.Reading.{label_step, no_label, label_at, sample_step, no_sample, sample_at, series_step, no_series, series_at, request_step, request_at, with_label, with_sample, with_histogram}

-- a label, by the fields after another
abbrev label_after : LabelValue → List Value → LabelValue
label_after a vs = record { name = last_or a.name (texts 1 vs); value = last_or a.value (texts 2 vs) }

label_text : (a : LabelValue) (n : ℕ) (t : List ℕ) (vs : List Value) (p q : Bool) → eqb n 1 ≡ p → eqb n 2 ≡ q → (p ≡ true → q ≡ true → ⊥)
    → (c : LabelValue) × (label_step a (Text n t) ≡ Ok c) × (label_after a (Text n t ∷ vs) ≡ label_after c vs)
label_text a n t vs true true e f never = absurd (never refl refl)
label_text a n t vs true false e f never = (record { name = t; value = a.value }, rw e refl, rw (e, f) refl)
label_text a n t vs false true e f never = (record { name = a.name; value = t }, rw (e, f) refl, rw (e, f) refl)
label_text a n t vs false false e f never = (a, rw (e, f) refl, rw (e, f) refl)

not_both : (n : ℕ) → eqb n 1 ≡ true → eqb n 2 ≡ true → ⊥
not_both n e f = let a = eqb-true n 1 e in let b = eqb-true n 2 f in omega arith

label_one : (a : LabelValue) (v : Value) (vs : List Value) → (c : LabelValue) × (label_step a v ≡ Ok c) × (label_after a (v ∷ vs) ≡ label_after c vs)
label_one a (Text n t) vs = label_text a n t vs (eqb n 1) (eqb n 2) refl refl (not_both n)
label_one a (Number n v) vs = (a, refl, refl)
label_one a (Eight n v) vs = (a, refl, refl)
label_one a (Four n v) vs = (a, refl, refl)

label_run : (a : LabelValue) (vs : List Value) → Steps label_step a vs (label_after a vs)
label_run a [] = refl
label_run a (v ∷ vs) =
    let o = label_one a v vs in
    (o.0, o.1, subst (λ (b : LabelValue). Steps label_step o.0 vs b) (sym o.2) (label_run o.0 vs))

pub label_took : (bytes : List ℕ) (l : LabelValue) → IsBytes bytes → label_at bytes ≡ Ok l → IsLabel bytes l
unfolding label_at
label_took bytes l fits e =
    let t = message_took label_allows label_step (length bytes) no_label l bytes fits (omega arith) e in
    let s = steps_once label_step no_label l (label_after no_label t.values) t.values t.steps (label_run no_label t.values) in
    record { fields = t.values; spelled = t.fields; known = t.known; name = ap (λ (l : LabelValue). l.name) s; value = ap (λ (l : LabelValue). l.value) s }

pub label_again : (bytes : List ℕ) (l : LabelValue) → IsLabel bytes l → label_at bytes ≡ Ok l
unfolding label_at
label_again bytes l x =
    let same : label_after no_label x.fields ≡ l =
    ap (λ (n : List ℕ). record { name = n; value = last_or [] (texts 2 x.fields) }) (sym x.name) ∙ ap (λ (v : List ℕ). record { name = l.name; value = v }) (sym x.value) in
    message_again label_allows label_step (length bytes) no_label l bytes x.fields (omega arith) x.spelled x.known
    (subst (λ (b : LabelValue). Steps label_step no_label x.fields b) same (label_run no_label x.fields))

-- A sample's fields as they stand: the time is not yet signed.
abbrev sample_after : ℕ → ℕ → List Value → SampleValue
sample_after time value vs = record { time = cast_signed w64 (last_or time (numbers 2 vs)); value = last_or value (eights 1 vs) }

abbrev start : ℕ → ℕ → SampleValue
start time value = record { time = cast_signed w64 time; value = value }

sample_number : (t b n v : ℕ) (vs : List Value) (p : Bool) → eqb n 2 ≡ p
    → (u d : ℕ) × (sample_step (start t b) (Number n v) ≡ Ok (start u d)) × (sample_after t b (Number n v ∷ vs) ≡ sample_after u d vs)
sample_number t b n v vs true e = (v, b, rw e refl, rw e refl)
sample_number t b n v vs false e = (t, b, rw e refl, rw e refl)

sample_eight : (t b n v : ℕ) (vs : List Value) (p : Bool) → eqb n 1 ≡ p
    → (u d : ℕ) × (sample_step (start t b) (Eight n v) ≡ Ok (start u d)) × (sample_after t b (Eight n v ∷ vs) ≡ sample_after u d vs)
sample_eight t b n v vs true e = (t, v, rw e refl, rw e refl)
sample_eight t b n v vs false e = (t, b, rw e refl, rw e refl)

sample_one : (t b : ℕ) (v : Value) (vs : List Value)
    → (u d : ℕ) × (sample_step (start t b) v ≡ Ok (start u d)) × (sample_after t b (v ∷ vs) ≡ sample_after u d vs)
sample_one t b (Text n v) vs = (t, b, refl, refl)
sample_one t b (Number n v) vs = sample_number t b n v vs (eqb n 2) refl
sample_one t b (Eight n v) vs = sample_eight t b n v vs (eqb n 1) refl
sample_one t b (Four n v) vs = (t, b, refl, refl)

sample_run : (t b : ℕ) (vs : List Value) → Steps sample_step (start t b) vs (sample_after t b vs)
sample_run t b [] = refl
sample_run t b (v ∷ vs) =
    let o = sample_one t b v vs in
    (start o.0 o.1, o.2, subst (λ (x : SampleValue). Steps sample_step (start o.0 o.1) vs x) (sym o.3) (sample_run o.0 o.1 vs))

pub sample_took : (bytes : List ℕ) (s : SampleValue) → IsBytes bytes → sample_at bytes ≡ Ok s → IsSample bytes s
unfolding sample_at
sample_took bytes s fits e =
    let t = message_took sample_allows sample_step (length bytes) no_sample s bytes fits (omega arith) e in
    let x = steps_once sample_step no_sample s (sample_after 0 0 t.values) t.values t.steps (sample_run 0 0 t.values) in
    record { fields = t.values; spelled = t.fields; known = t.known; value = ap (λ (s : SampleValue). s.value) x; time = ap (λ (s : SampleValue). s.time) x }

pub sample_again : (bytes : List ℕ) (s : SampleValue) → IsSample bytes s → sample_at bytes ≡ Ok s
unfolding sample_at
sample_again bytes s x =
    let same : sample_after 0 0 x.fields ≡ s =
    ap (λ (t : ℤ). record { time = t; value = last_or 0 (eights 1 x.fields) }) (sym x.time) ∙ ap (λ (v : ℕ). record { time = s.time; value = v }) (sym x.value) in
    message_again sample_allows sample_step (length bytes) no_sample s bytes x.fields (omega arith) x.spelled x.known
    (subst (λ (b : SampleValue). Steps sample_step no_sample x.fields b) same (sample_run 0 0 x.fields))

-- A series: the labels and the samples of its fields are added to those before, and its histograms
-- are counted on.
abbrev series_of : List LabelValue → List SampleValue → ℕ → SeriesValue
series_of ls xs h = record { labels = ls; samples = xs; histograms = h }

same_parts : (ls ls' : List LabelValue) (xs xs' : List SampleValue) (h h' : ℕ) → ls ≡ ls' → xs ≡ xs' → h ≡ h' → series_of ls xs h ≡ series_of ls' xs' h'
same_parts ls ls' xs xs' h h' e f g =
    ap (λ (z : List LabelValue). series_of z xs h) e ∙ ap (λ (z : List SampleValue). series_of ls' z h) f ∙ ap (λ (z : ℕ). series_of ls' xs' z) g

abbrev joined : SeriesValue → List LabelValue → List SampleValue → ℕ → SeriesValue
joined a ls xs h = series_of (a.labels ++ ls) (a.samples ++ xs) (a.histograms + h)

-- the count of the histograms
abbrev count : List Value → ℕ
count vs = length (texts 4 vs)

joined_none : (a : SeriesValue) → a ≡ joined a [] [] 0
joined_none a =
    same_parts a.labels (a.labels ++ []) a.samples (a.samples ++ []) a.histograms (a.histograms + 0)
    (sym (append-nil a.labels)) (sym (append-nil a.samples)) (omega arith)

joined_label : (a : SeriesValue) (l : LabelValue) (ls : List LabelValue) (xs : List SampleValue) (h k : ℕ) → h ≡ k → joined (with_label a l) ls xs h ≡ joined a (l ∷ ls) xs k
joined_label a l ls xs h k e =
    same_parts ((a.labels ++ l ∷ []) ++ ls) (a.labels ++ l ∷ ls) (a.samples ++ xs) (a.samples ++ xs) (a.histograms + h) (a.histograms + k)
    (append_assoc a.labels (l ∷ []) ls) refl (omega arith)

joined_sample : (a : SeriesValue) (x : SampleValue) (ls : List LabelValue) (xs : List SampleValue) (h k : ℕ) → h ≡ k → joined (with_sample a x) ls xs h ≡ joined a ls (x ∷ xs) k
joined_sample a x ls xs h k e =
    same_parts (a.labels ++ ls) (a.labels ++ ls) ((a.samples ++ x ∷ []) ++ xs) (a.samples ++ x ∷ xs) (a.histograms + h) (a.histograms + k)
    refl (append_assoc a.samples (x ∷ []) xs) (omega arith)

joined_histogram : (a : SeriesValue) (ls : List LabelValue) (xs : List SampleValue) (h k : ℕ) → h + 1 ≡ k → joined (with_histogram a) ls xs h ≡ joined a ls xs k
joined_histogram a ls xs h k e =
    same_parts (a.labels ++ ls) (a.labels ++ ls) (a.samples ++ xs) (a.samples ++ xs) (a.histograms + 1 + h) (a.histograms + k) refl refl (omega arith)

joined_pass : (a : SeriesValue) (ls : List LabelValue) (xs : List SampleValue) (h k : ℕ) → h ≡ k → joined a ls xs h ≡ joined a ls xs k
joined_pass a ls xs h k e =
    same_parts (a.labels ++ ls) (a.labels ++ ls) (a.samples ++ xs) (a.samples ++ xs) (a.histograms + h) (a.histograms + k) refl refl (omega arith)

record Adds (a b : SeriesValue) (vs : List Value) : Type 0 where
  labels : List LabelValue
  samples : List SampleValue
  are_labels : EachIs IsLabel (texts 1 vs) labels
  are_samples : EachIs IsSample (texts 2 vs) samples
  meant : b ≡ joined a labels samples (count vs)

adds_none : (a b : SeriesValue) → a ≡ b → Adds a b []
adds_none a b e = record {
  labels = [];
  samples = [];
  are_labels = tt;
  are_samples = tt;
  meant = sym e ∙ joined_none a;
}

-- a field that is none of them
skipped : (a b : SeriesValue) (v : Value) (vs : List Value) → texts 1 (v ∷ vs) ≡ texts 1 vs → texts 2 (v ∷ vs) ≡ texts 2 vs → texts 4 (v ∷ vs) ≡ texts 4 vs → Adds a b vs → Adds a b (v ∷ vs)
skipped a b v vs e f g x = record {
  labels = x.labels;
  samples = x.samples;
  are_labels = rw e x.are_labels;
  are_samples = rw f x.are_samples;
  meant = x.meant ∙ joined_pass a x.labels x.samples (count vs) (count (v ∷ vs)) (sym (ap length g));
}

label_first : (a b : SeriesValue) (l : LabelValue) (t : List ℕ) (v : Value) (vs : List Value) → texts 1 (v ∷ vs) ≡ t ∷ texts 1 vs → texts 2 (v ∷ vs) ≡ texts 2 vs → texts 4 (v ∷ vs) ≡ texts 4 vs
    → IsLabel t l → Adds (with_label a l) b vs → Adds a b (v ∷ vs)
label_first a b l t v vs e f g is x = record {
  labels = l ∷ x.labels;
  samples = x.samples;
  are_labels = rw e (is, x.are_labels);
  are_samples = rw f x.are_samples;
  meant = x.meant ∙ joined_label a l x.labels x.samples (count vs) (count (v ∷ vs)) (sym (ap length g));
}

sample_first : (a b : SeriesValue) (s : SampleValue) (t : List ℕ) (v : Value) (vs : List Value) → texts 1 (v ∷ vs) ≡ texts 1 vs → texts 2 (v ∷ vs) ≡ t ∷ texts 2 vs → texts 4 (v ∷ vs) ≡ texts 4 vs
    → IsSample t s → Adds (with_sample a s) b vs → Adds a b (v ∷ vs)
sample_first a b s t v vs e f g is x = record {
  labels = x.labels;
  samples = s ∷ x.samples;
  are_labels = rw e x.are_labels;
  are_samples = rw f (is, x.are_samples);
  meant = x.meant ∙ joined_sample a s x.labels x.samples (count vs) (count (v ∷ vs)) (sym (ap length g));
}

histogram_first : (a b : SeriesValue) (t : List ℕ) (v : Value) (vs : List Value) → texts 1 (v ∷ vs) ≡ texts 1 vs → texts 2 (v ∷ vs) ≡ texts 2 vs → texts 4 (v ∷ vs) ≡ t ∷ texts 4 vs
    → Adds (with_histogram a) b vs → Adds a b (v ∷ vs)
histogram_first a b t v vs e f g x =
    let more = ap length g in
    record {
      labels = x.labels;
      samples = x.samples;
      are_labels = rw e x.are_labels;
      are_samples = rw f x.are_samples;
      meant = x.meant ∙ joined_histogram a x.labels x.samples (count vs) (count (v ∷ vs)) (omega arith);
    }

abbrev ok_of : {A : Type 0} → A → Result A Refusal
ok_of a = Ok a

same_ok : {A : Type 0} (a b : A) → ok_of a ≡ ok_of b → a ≡ b
same_ok a b e = cc

-- at most one of three tests of a number holds
record Apart (p q r : Bool) : Type 0 where
  not_first_two : p ≡ true → q ≡ true → ⊥
  not_ends : p ≡ true → r ≡ true → ⊥
  not_last_two : q ≡ true → r ≡ true → ⊥

two_apart : (n a b : ℕ) → (a ≡ b → ⊥) → eqb n a ≡ true → eqb n b ≡ true → ⊥
two_apart n a b never e f = never (sym (eqb-true n a e) ∙ eqb-true n b f)

apart : (n : ℕ) → Apart (eqb n 1) (eqb n 2) (eqb n 4)
apart n = record {
  not_first_two = two_apart n 1 2 (λ e. omega arith);
  not_ends = two_apart n 1 4 (λ e. omega arith);
  not_last_two = two_apart n 2 4 (λ e. omega arith);
}

text_adds : (a b c : SeriesValue) (n : ℕ) (t : List ℕ) (vs : List Value) (p q r : Bool) → eqb n 1 ≡ p → eqb n 2 ≡ q → eqb n 4 ≡ r → Apart p q r → IsBytes t
    → series_step a (Text n t) ≡ Ok c → Adds c b vs → Adds a b (Text n t ∷ vs)
unfolding series_step
text_adds a b c n t vs true true r e f g never fits s x = absurd (never.not_first_two refl refl)
text_adds a b c n t vs true false true e f g never fits s x = absurd (never.not_ends refl refl)
text_adds a b c n t vs true false false e f g never fits s x =
    let l = bind_ok (label_at t) (λ l. Ok (with_label a l)) c (rw e at s) in
    let w = same_ok (with_label a l.0) c l.2 in
    label_first a b l.0 t (Text n t) vs (rw e refl) (rw f refl) (rw g refl) (label_took t l.0 fits l.1) (subst (λ (z : SeriesValue). Adds z b vs) (sym w) x)
text_adds a b c n t vs false true true e f g never fits s x = absurd (never.not_last_two refl refl)
text_adds a b c n t vs false true false e f g never fits s x =
    let l = bind_ok (sample_at t) (λ l. Ok (with_sample a l)) c (rw (e, f) at s) in
    let w = same_ok (with_sample a l.0) c l.2 in
    sample_first a b l.0 t (Text n t) vs (rw e refl) (rw f refl) (rw g refl) (sample_took t l.0 fits l.1) (subst (λ (z : SeriesValue). Adds z b vs) (sym w) x)
text_adds a b c n t vs false false true e f g never fits s x =
    let w = same_ok (with_histogram a) c (rw (e, f, g) at s) in
    histogram_first a b t (Text n t) vs (rw e refl) (rw f refl) (rw g refl) (subst (λ (z : SeriesValue). Adds z b vs) (sym w) x)
text_adds a b c n t vs false false false e f g never fits s x =
    let w = same_ok a c (rw (e, f, g) at s) in
    skipped a b (Text n t) vs (rw e refl) (rw f refl) (rw g refl) (subst (λ (z : SeriesValue). Adds z b vs) (sym w) x)

other_adds : (a b c : SeriesValue) (v : Value) (vs : List Value) → texts 1 (v ∷ vs) ≡ texts 1 vs → texts 2 (v ∷ vs) ≡ texts 2 vs → texts 4 (v ∷ vs) ≡ texts 4 vs
    → ok_of a ≡ ok_of c → Adds c b vs → Adds a b (v ∷ vs)
other_adds a b c v vs e f g s x = skipped a b v vs e f g (subst (λ (z : SeriesValue). Adds z b vs) (sym (same_ok a c s)) x)

series_adds : (a b : SeriesValue) (vs : List Value) → FitTexts vs → Steps series_step a vs b → Adds a b vs
unfolding series_step
series_adds a b [] fits s = adds_none a b s
series_adds a b (Text n t ∷ vs) fits s = text_adds a b s.0 n t vs (eqb n 1) (eqb n 2) (eqb n 4) refl refl refl (apart n) fits.0 s.1 (series_adds s.0 b vs fits.1 s.2)
series_adds a b (Number n v ∷ vs) fits s = other_adds a b s.0 (Number n v) vs refl refl refl s.1 (series_adds s.0 b vs fits.1 s.2)
series_adds a b (Eight n v ∷ vs) fits s = other_adds a b s.0 (Eight n v) vs refl refl refl s.1 (series_adds s.0 b vs fits.1 s.2)
series_adds a b (Four n v ∷ vs) fits s = other_adds a b s.0 (Four n v) vs refl refl refl s.1 (series_adds s.0 b vs fits.1 s.2)

pub series_took : (bytes : List ℕ) (s : SeriesValue) → IsBytes bytes → series_at bytes ≡ Ok s → IsSeries bytes s
unfolding series_at
series_took bytes s fits e =
    let t = message_took series_allows series_step (length bytes) no_series s bytes fits (omega arith) e in
    let x = series_adds no_series s t.values t.texts t.steps in
    let h : s.histograms ≡ 0 + count t.values = ap (λ (s : SeriesValue). s.histograms) x.meant in
    record {
      fields = t.values;
      spelled = t.fields;
      known = t.known;
      labels = subst (λ (s : SeriesValue). EachIs IsLabel (texts 1 t.values) s.labels) (sym x.meant) x.are_labels;
      samples = subst (λ (s : SeriesValue). EachIs IsSample (texts 2 t.values) s.samples) (sym x.meant) x.are_samples;
      histograms = omega arith;
    }

-- and what stands there is added
label_by : (a : SeriesValue) (n : ℕ) (t : List ℕ) (l : LabelValue) → eqb n 1 ≡ true → label_at t ≡ Ok l → series_step a (Text n t) ≡ Ok (with_label a l)
unfolding series_step
label_by a n t l e f = rw (e, f) refl

sample_by : (a : SeriesValue) (n : ℕ) (t : List ℕ) (x : SampleValue) → eqb n 1 ≡ false → eqb n 2 ≡ true → sample_at t ≡ Ok x → series_step a (Text n t) ≡ Ok (with_sample a x)
unfolding series_step
sample_by a n t x e g f = rw (e, g, f) refl

histogram_by : (a : SeriesValue) (n : ℕ) (t : List ℕ) → eqb n 1 ≡ false → eqb n 2 ≡ false → eqb n 4 ≡ true → series_step a (Text n t) ≡ Ok (with_histogram a)
unfolding series_step
histogram_by a n t e f g = rw (e, f, g) refl

pass_by : (a : SeriesValue) (n : ℕ) (t : List ℕ) → eqb n 1 ≡ false → eqb n 2 ≡ false → eqb n 4 ≡ false → series_step a (Text n t) ≡ Ok a
unfolding series_step
pass_by a n t e f g = rw (e, f, g) refl

to_joined : (a b c : SeriesValue) (vs : List Value) → b ≡ c → Steps series_step a vs b → Steps series_step a vs c
to_joined a b c vs e s = subst (λ (z : SeriesValue). Steps series_step a vs z) e s

abbrev Runs : List Value → Type 0
Runs vs = (a : SeriesValue) (ls : List LabelValue) (xs : List SampleValue) (h : ℕ) → EachIs IsLabel (texts 1 vs) ls → EachIs IsSample (texts 2 vs) xs → h ≡ count vs
    → Steps series_step a vs (joined a ls xs h)

text_runs : (a : SeriesValue) (n : ℕ) (t : List ℕ) (vs : List Value) (ls : List LabelValue) (xs : List SampleValue) (h : ℕ) (p q r : Bool) → eqb n 1 ≡ p → eqb n 2 ≡ q → eqb n 4 ≡ r → Apart p q r
    → EachIs IsLabel (cond p (t ∷ texts 1 vs) (texts 1 vs)) ls → EachIs IsSample (cond q (t ∷ texts 2 vs) (texts 2 vs)) xs
    → h ≡ length (cond r (t ∷ texts 4 vs) (texts 4 vs)) → Runs vs
    → Steps series_step a (Text n t ∷ vs) (joined a ls xs h)
text_runs a n t vs ls xs h true true r e f g never x y z more = absurd (never.not_first_two refl refl)
text_runs a n t vs ls xs h true false true e f g never x y z more = absurd (never.not_ends refl refl)
text_runs a n t vs [] xs h true false false e f g never x y z more = absurd x
text_runs a n t vs (l ∷ ls) xs h true false false e f g never x y z more = (
  with_label a l,
  label_by a n t l e (label_again t l x.0),
  to_joined (with_label a l) (joined (with_label a l) ls xs h) (joined a (l ∷ ls) xs h) vs (joined_label a l ls xs h h refl) (more (with_label a l) ls xs h x.1 y z),
)
text_runs a n t vs ls xs h false true true e f g never x y z more = absurd (never.not_last_two refl refl)
text_runs a n t vs ls [] h false true false e f g never x y z more = absurd y
text_runs a n t vs ls (s ∷ xs) h false true false e f g never x y z more = (
  with_sample a s,
  sample_by a n t s e f (sample_again t s y.0),
  to_joined (with_sample a s) (joined (with_sample a s) ls xs h) (joined a ls (s ∷ xs) h) vs (joined_sample a s ls xs h h refl) (more (with_sample a s) ls xs h x y.1 z),
)
text_runs a n t vs ls xs h false false true e f g never x y z more =
    let k : h ≡ count vs + 1 = omega arith in (
      with_histogram a,
      histogram_by a n t e f g,
      to_joined (with_histogram a) (joined (with_histogram a) ls xs (count vs)) (joined a ls xs h) vs (joined_histogram a ls xs (count vs) h (sym k)) (more (with_histogram a) ls xs (count vs) x y refl),
    )
text_runs a n t vs ls xs h false false false e f g never x y z more = (a, pass_by a n t e f g, more a ls xs h x y z)

other_runs : (a : SeriesValue) (v : Value) (vs : List Value) (b : SeriesValue) → series_step a v ≡ Ok a → Steps series_step a vs b → Steps series_step a (v ∷ vs) b
other_runs a v vs b e s = (a, e, s)

series_runs : (vs : List Value) → Runs vs
unfolding series_step
series_runs [] a [] [] h x y z = joined_none a ∙ joined_pass a [] [] 0 h (sym z)
series_runs [] a (l ∷ ls) xs h x y z = absurd x
series_runs [] a [] (s ∷ xs) h x y z = absurd y
series_runs (Text n t ∷ vs) a ls xs h x y z = text_runs a n t vs ls xs h (eqb n 1) (eqb n 2) (eqb n 4) refl refl refl (apart n) x y z (series_runs vs)
series_runs (Number n v ∷ vs) a ls xs h x y z = other_runs a (Number n v) vs (joined a ls xs h) refl (series_runs vs a ls xs h x y z)
series_runs (Eight n v ∷ vs) a ls xs h x y z = other_runs a (Eight n v) vs (joined a ls xs h) refl (series_runs vs a ls xs h x y z)
series_runs (Four n v ∷ vs) a ls xs h x y z = other_runs a (Four n v) vs (joined a ls xs h) refl (series_runs vs a ls xs h x y z)

joined_to_none : (s : SeriesValue) → joined no_series s.labels s.samples s.histograms ≡ s
joined_to_none s =
    same_parts s.labels s.labels s.samples s.samples (0 + s.histograms) s.histograms refl refl (omega arith)

pub series_again : (bytes : List ℕ) (s : SeriesValue) → IsSeries bytes s → series_at bytes ≡ Ok s
unfolding series_at
series_again bytes s x =
    message_again series_allows series_step (length bytes) no_series s bytes x.fields (omega arith) x.spelled x.known
    (to_joined no_series (joined no_series s.labels s.samples s.histograms) s x.fields (joined_to_none s)
    (series_runs x.fields no_series s.labels s.samples s.histograms x.labels x.samples x.histograms))

-- A request: the series of its fields.
record AddsSeries (a b : List SeriesValue) (vs : List Value) : Type 0 where
  series : List SeriesValue
  are : EachIs IsSeries (texts 1 vs) series
  meant : b ≡ a ++ series

same_list : {A : Type 0} (a b : List A) → ok_of a ≡ ok_of b → a ≡ b
same_list a b e = cc

text_request : (a b c : List SeriesValue) (n : ℕ) (t : List ℕ) (vs : List Value) (p : Bool) → eqb n 1 ≡ p → IsBytes t
    → request_step a (Text n t) ≡ Ok c → AddsSeries c b vs → AddsSeries a b (Text n t ∷ vs)
unfolding request_step
text_request a b c n t vs true e fits s x =
    let l = bind_ok (series_at t) (λ s. Ok (a ++ s ∷ [])) c (rw e at s) in
    let w = same_list (a ++ l.0 ∷ []) c l.2 in
    record {
      series = l.0 ∷ x.series;
      are = rw e (series_took t l.0 fits l.1, x.are);
      meant = x.meant ∙ ap (λ (z : List SeriesValue). z ++ x.series) (sym w) ∙ append_assoc a (l.0 ∷ []) x.series;
    }
text_request a b c n t vs false e fits s x =
    let w = same_list a c (rw e at s) in
    record { series = x.series; are = rw e x.are; meant = x.meant ∙ ap (λ (z : List SeriesValue). z ++ x.series) (sym w) }

other_request : (a b c : List SeriesValue) (v : Value) (vs : List Value) → texts 1 (v ∷ vs) ≡ texts 1 vs → ok_of a ≡ ok_of c → AddsSeries c b vs → AddsSeries a b (v ∷ vs)
other_request a b c v vs e s x =
    let w = same_list a c s in
    record { series = x.series; are = rw e x.are; meant = x.meant ∙ ap (λ (z : List SeriesValue). z ++ x.series) (sym w) }

request_adds : (a b : List SeriesValue) (vs : List Value) → FitTexts vs → Steps request_step a vs b → AddsSeries a b vs
unfolding request_step
request_adds a b [] fits s = record { series = []; are = tt; meant = sym s ∙ sym (append-nil a) }
request_adds a b (Text n t ∷ vs) fits s = text_request a b s.0 n t vs (eqb n 1) refl fits.0 s.1 (request_adds s.0 b vs fits.1 s.2)
request_adds a b (Number n v ∷ vs) fits s = other_request a b s.0 (Number n v) vs refl s.1 (request_adds s.0 b vs fits.1 s.2)
request_adds a b (Eight n v ∷ vs) fits s = other_request a b s.0 (Eight n v) vs refl s.1 (request_adds s.0 b vs fits.1 s.2)
request_adds a b (Four n v ∷ vs) fits s = other_request a b s.0 (Four n v) vs refl s.1 (request_adds s.0 b vs fits.1 s.2)

pub request_took : (bytes : List ℕ) (all : List SeriesValue) → IsBytes bytes → request_at bytes ≡ Ok all → IsRequest bytes all
unfolding request_at
request_took bytes all fits e =
    let t = message_took request_allows request_step (length bytes) [] all bytes fits (omega arith) e in
    let x = request_adds [] all t.values t.texts t.steps in
    record {
      fields = t.values;
      spelled = t.fields;
      known = t.known;
      series = subst (λ (z : List SeriesValue). EachIs IsSeries (texts 1 t.values) z) (sym x.meant) x.are;
    }

series_by : (a : List SeriesValue) (n : ℕ) (t : List ℕ) (s : SeriesValue) → eqb n 1 ≡ true → series_at t ≡ Ok s → request_step a (Text n t) ≡ Ok (a ++ s ∷ [])
unfolding request_step
series_by a n t s e f = rw (e, f) refl

skip_by : (a : List SeriesValue) (n : ℕ) (t : List ℕ) → eqb n 1 ≡ false → request_step a (Text n t) ≡ Ok a
unfolding request_step
skip_by a n t e = rw e refl

abbrev RequestRuns : List Value → Type 0
RequestRuns vs = (a all : List SeriesValue) → EachIs IsSeries (texts 1 vs) all → Steps request_step a vs (a ++ all)

text_request_runs : (a : List SeriesValue) (n : ℕ) (t : List ℕ) (vs : List Value) (all : List SeriesValue) (p : Bool) → eqb n 1 ≡ p
    → EachIs IsSeries (cond p (t ∷ texts 1 vs) (texts 1 vs)) all → RequestRuns vs → Steps request_step a (Text n t ∷ vs) (a ++ all)
text_request_runs a n t vs [] true e x more = absurd x
text_request_runs a n t vs (s ∷ all) true e x more = (
  a ++ s ∷ [],
  series_by a n t s e (series_again t s x.0),
  subst (λ (z : List SeriesValue). Steps request_step (a ++ s ∷ []) vs z) (append_assoc a (s ∷ []) all) (more (a ++ s ∷ []) all x.1),
)
text_request_runs a n t vs all false e x more = (a, skip_by a n t e, more a all x)

request_runs : (vs : List Value) → RequestRuns vs
unfolding request_step
request_runs [] a [] x = sym (append-nil a)
request_runs [] a (s ∷ all) x = absurd x
request_runs (Text n t ∷ vs) a all x = text_request_runs a n t vs all (eqb n 1) refl x (request_runs vs)
request_runs (Number n v ∷ vs) a all x = (a, refl, request_runs vs a all x)
request_runs (Eight n v ∷ vs) a all x = (a, refl, request_runs vs a all x)
request_runs (Four n v ∷ vs) a all x = (a, refl, request_runs vs a all x)

pub request_again : (bytes : List ℕ) (all : List SeriesValue) → IsRequest bytes all → request_at bytes ≡ Ok all
unfolding request_at
request_again bytes all x =
    message_again request_allows request_step (length bytes) [] all bytes x.fields (omega arith) x.spelled x.known
    (request_runs x.fields [] all x.series)
