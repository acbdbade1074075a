-- What is kept of the samples of a series in a narrower range of times.
use Rattle.std.proofs.Common.{◌≡◌, ◌⊎◌, inl, inr, ℕ, ◌/◌, ◌%◌, ℤ, Bool, true, false, not, cond}
use Rattle.std.proofs.Common.{◌&&◌, List, [], ◌∷◌, ◌++◌, Result, Ok, refl, sym, ap, subst, ◌∙◌}
use Rattle.std.proofs.Common.{append_assoc, arith}
use Rattle.std.specs.Prelude.{◌≤ℤ◌, ◌<ℤ◌, int_le, int_lt}
use Rattle.std.specs.List.{AllByRecursion, filter}
use Rattle.std.proofs.lemmas.Bool.{and_left, and_parts, and_right, not-true}
use Rattle.std.proofs.lemmas.Int.{ints}
use Rattle.std.proofs.lemmas.List.Elements.{filter-append}
use Rattle.labels.specs.Contents.{in_range}
use Rattle.labels.specs.Parts.{within}
use Rattle.labels.specs.Labels.{Labels}
use Rattle.labels.specs.Rows.{Row}
use Rattle.index_reader.specs.declared.chunk.Chunk.{Chunk}
use Rattle.index_reader.specs.Indexes.{Series}
use Rattle.wire.proofs.Steps.{same_value}
use Rattle.xor_reader.specs.Grammar.{Sample}
use Rattle.doubles.specs.Double.{stale_marker}
use Rattle.stored_doubles.proofs.Numbers.{one_number}
use Rattle.imported_values.specs.declared.form.Form.{Form}
use Rattle.imported_values.specs.declared.form.Form.TheVariants.{Parts, Doubles}
use Rattle.imported_values.specs.declared.policy.Policy.{Policy}
use Rattle.imported_values.specs.declared.policy.Reason.TheVariants as reason
use Rattle.imported_values.specs.declared.policy.Rest.{Rest}
use Rattle.imported_values.specs.declared.policy.Rest.TheVariants as rest
use Rattle.imported_values.specs.declared.policy.Stale.{Stale}
use Rattle.imported_values.specs.declared.policy.Stale.TheVariants as stale
use Rattle.imported_values.specs.declared.policy.Verdict.{Verdict}
use Rattle.imported_values.specs.declared.policy.Verdict.TheVariants.{Kept, Rounded, Left, Refused}
use Rattle.imported_values.specs.Forms.{IsVerdictIn}
use Rattle.imported_values.specs.Values.{IsExact, IsVerdict, IsVerdictOfRest, verdict_of_stale}
use Rattle.kept_samples.specs.declared.keeping.Asked.{Asked}
use Rattle.kept_samples.specs.declared.keeping.Fate.{Fate}
use Rattle.kept_samples.specs.declared.keeping.Fate.TheVariants.{Outside, Deleted, Judged}
use Rattle.kept_samples.specs.declared.keeping.Tally.{Tally}
use Rattle.kept_samples.specs.declared.keeping.Times.{Times}
use Rattle.prometheus_block.specs.declared.rows.Wanted.{Wanted}
use Rattle.kept_samples.specs.Keeping.{AreFates, IsFate, is_asked, is_deleted, kept_of}
use Rattle.kept_samples.specs.Keeping.{kept_one}
use Rattle.prometheus_block.specs.Reading.{Held, chunk_read}
use Rattle.prometheus_block.specs.Narrowing.{AreReadAlike, IsPartOf}
use Rattle.prometheus_block.specs.Rows.{AreRowsOf, IsAskedOf, IsRowAfter, row_if, rows_between}
use Rattle.prometheus_block.specs.Series.{Segments, AreHeldBy, AreSamplesIn, AreSamplesOf}
use Rattle.kept_samples.specs.Keeping.{meets}
use Rattle.prometheus_block.specs.declared.error.SourceError.{SourceError}
use Rattle.prometheus_block.proofs.Rising.{LieIn, chunk_lies}

-- a stale marker is never rounded
stale_not : (s : Stale) (x : ℤ) → Rounded x ≡ verdict_of_stale s → ⊥
stale_not stale.Drop x e = absurd cc
stale_not stale.Refuse x e = absurd cc

-- what is rounded once is rounded each time, to the same
rounded_again : (p : Policy) (bits : ℕ) (x : ℤ) (w : Verdict) → IsVerdict p bits (Rounded x)
    → IsVerdict p bits w → w ≡ Rounded x
rounded_again p bits x w v h =
    let r = v.rounded x refl in
    let not_stale : bits ≡ stale_marker → ⊥ = λ e. stale_not p.stale x (v.stale e) in
    let not_exact : (y : ℤ) → IsExact p.digits bits y → ⊥ =
    λ y e. let k : Rounded x ≡ Kept y = v.kept y e in absurd cc in
    let told : IsVerdictOfRest rest.Round p.digits bits w =
    subst (λ (q : Rest). IsVerdictOfRest q p.digits bits w) r.asked (h.rest not_stale not_exact) in
    told.0 x r.nearest

-- two verdicts of a value keep the same
one_verdict : (p : Policy) (bits : ℕ) (t : ℤ) (v w : Verdict) → IsVerdict p bits v
    → IsVerdict p bits w
    → kept_one t (Judged v) ≡ kept_one t (Judged w)
one_verdict p bits t (Kept x) w a b =
    ap (λ (z : Verdict). kept_one t (Judged z)) (sym (b.kept x (a.only x refl)))
one_verdict p bits t (Rounded x) w a b =
    ap (λ (z : Verdict). kept_one t (Judged z)) (sym (rounded_again p bits x w a b))
one_verdict p bits t (Left r) (Kept y) a b =
    ap (λ (z : Verdict). kept_one t (Judged z)) (a.kept y (b.only y refl))
one_verdict p bits t (Left r) (Rounded y) a b =
    ap (λ (z : Verdict). kept_one t (Judged z)) (rounded_again p bits y (Left r) b a)
one_verdict p bits t (Left r) (Left q) a b = refl
one_verdict p bits t (Left r) (Refused q) a b = refl
one_verdict p bits t (Refused r) (Kept y) a b =
    ap (λ (z : Verdict). kept_one t (Judged z)) (a.kept y (b.only y refl))
one_verdict p bits t (Refused r) (Rounded y) a b =
    ap (λ (z : Verdict). kept_one t (Judged z)) (rounded_again p bits y (Refused r) b a)
one_verdict p bits t (Refused r) (Left q) a b = refl
one_verdict p bits t (Refused r) (Refused q) a b = refl

-- the same in each form
one_verdict_in : (f : Form) (bits : ℕ) (t : ℤ) (v w : Verdict) → IsVerdictIn f bits v
    → IsVerdictIn f bits w
    → kept_one t (Judged v) ≡ kept_one t (Judged w)
one_verdict_in (Parts p) bits t v w a b = one_verdict p bits t v w a b
one_verdict_in Doubles bits t v w a b =
    let same : Kept a.number ≡ Kept b.number =
    ap (λ (z : ℤ). Kept z) (one_number bits a.number b.number a.fits b.fits a.stored b.stored) in
    ap (λ (z : Verdict). kept_one t (Judged z)) (a.kept ∙ (same ∙ sym b.kept))

out_low : (a b t : ℤ) → int_lt t a ≡ true → in_range a b t ≡ false
out_low a b t h = and_left (not (int_lt t a)) (not (int_lt b t)) (ap not h)

out_high : (a b t : ℤ) → int_lt b t ≡ true → in_range a b t ≡ false
out_high a b t h = and_right (not (int_lt t a)) (not (int_lt b t)) (ap not h)

-- a time of a range lies in a wider one
range_too : (a b c d t : ℤ) → c ≤ℤ a → b ≤ℤ d → in_range a b t ≡ true → in_range c d t ≡ true
range_too a b c d t low high h =
    let p = and_parts (not (int_lt t a)) (not (int_lt b t)) h in
    let q : int_lt t a ≡ false = not-true (int_lt t a) p.0 in
    let r : int_lt b t ≡ false = not-true (int_lt b t) p.1 in
    let x : int_lt t c ≡ false = grind (arith, ints) in
    let y : int_lt d t ≡ false = grind (arith, ints) in
    rw (x, y) refl

-- the same is asked, of a range and of a wider one
pub record IsNarrower (narrow wide : Asked) : Type 0 where
  pub form : narrow.form ≡ wide.form
  pub deletions : narrow.tombstones.now ≡ wide.tombstones.now
  pub reference : narrow.reference ≡ wide.reference
  pub from : wide.times.from ≤ℤ narrow.times.from
  pub to : narrow.times.to ≤ℤ wide.times.to

differ : (b : Bool) → b ≡ true → b ≡ false → ⊥
differ b t f = absurd cc

module _ (narrow wide : Asked) (n : IsNarrower narrow wide) where
  asked_too : (t : ℤ) → is_asked narrow t ≡ true → is_asked wide t ≡ true
  asked_too t h =
      range_too narrow.times.from narrow.times.to wide.times.from wide.times.to t n.from n.to h

  deleted_too : (t : ℤ) → is_deleted narrow t ≡ is_deleted wide t
  deleted_too t = rw (n.deletions, n.reference) refl

  -- the fate of a sample that the narrower range has
  same_kept : (s : Sample) (f g : Fate) → is_asked narrow s.0 ≡ true → IsFate wide s f
      → IsFate narrow s g → kept_one s.0 g ≡ kept_one s.0 f
  same_kept s f Outside has a b = absurd (differ (is_asked narrow s.0) has b)
  same_kept s Outside Deleted has a b = absurd (differ (is_asked wide s.0) (asked_too s.0 has) a)
  same_kept s Outside (Judged w) has a b = absurd (differ (is_asked wide s.0) (asked_too s.0 has) a)
  same_kept s Deleted Deleted has a b = refl
  same_kept s Deleted (Judged w) has a b =
      absurd (differ (is_deleted wide s.0) a.1 (sym (deleted_too s.0) ∙ b.1))
  same_kept s (Judged v) Deleted has a b =
      absurd (differ (is_deleted wide s.0) (sym (deleted_too s.0) ∙ b.1) a.1)
  same_kept s (Judged v) (Judged w) has a b =
      one_verdict_in wide.form s.1 s.0 w v
      (subst (λ (f : Form). IsVerdictIn f s.1 w) n.form b.2) a.2

  -- of another sample nothing is kept
  none_kept : (s : Sample) (g : Fate) → is_asked narrow s.0 ≡ false → IsFate narrow s g
      → kept_one s.0 g ≡ []
  none_kept s Outside out b = refl
  none_kept s Deleted out b = refl
  none_kept s (Judged w) out b = absurd (differ (is_asked narrow s.0) b.0 out)

  abbrev pub inside : List (ℤ × ℤ) → List (ℤ × ℤ)
  inside = within narrow.times.from narrow.times.to

  -- what is kept of one lies in the narrower range where its time does
  inside_one : (t : ℤ) (f : Fate) (b : Bool) → is_asked narrow t ≡ b
      → inside (kept_one t f) ≡ cond b (kept_one t f) []
  inside_one t (Judged (Kept v)) b e = ap (λ (x : Bool). cond x ((t, v) ∷ []) []) e
  inside_one t (Judged (Rounded v)) b e = ap (λ (x : Bool). cond x ((t, v) ∷ []) []) e
  inside_one t (Judged (Left r)) true e = refl
  inside_one t (Judged (Left r)) false e = refl
  inside_one t (Judged (Refused r)) true e = refl
  inside_one t (Judged (Refused r)) false e = refl
  inside_one t Outside true e = refl
  inside_one t Outside false e = refl
  inside_one t Deleted true e = refl
  inside_one t Deleted false e = refl

  one_kept : (s : Sample) (f g : Fate) → IsFate wide s f → IsFate narrow s g
      → kept_one s.0 g ≡ inside (kept_one s.0 f)
  one_kept s f g a b = go (is_asked narrow s.0) refl
    where
      go : (x : Bool) → is_asked narrow s.0 ≡ x → kept_one s.0 g ≡ inside (kept_one s.0 f)
      go true e = same_kept s f g e a b ∙ sym (inside_one s.0 f true e)
      go false e = none_kept s g e b ∙ sym (inside_one s.0 f false e)

  -- of the same samples
  pub all_kept : (xs : List Sample) (fs gs : List Fate) → AreFates wide xs fs
      → AreFates narrow xs gs
      → kept_of xs gs ≡ inside (kept_of xs fs)
  all_kept [] fs gs a b = refl
  all_kept (x ∷ xs) [] gs a b = absurd a
  all_kept (x ∷ xs) (f ∷ fs) [] a b = absurd b
  all_kept (x ∷ xs) (f ∷ fs) (g ∷ gs) a b =
      ap (λ (k : List (ℤ × ℤ)). k ++ kept_of xs gs) (one_kept x f g a.0 b.0)
      ∙ ap (λ (k : List (ℤ × ℤ)). inside (kept_one x.0 f) ++ k) (all_kept xs fs gs a.1 b.1)
      ∙ sym (filter-append (λ (s : ℤ × ℤ). in_range narrow.times.from narrow.times.to s.0)
      (kept_one x.0 f) (kept_of xs fs))

  -- of samples outside the narrower range
  pub none_inside : (xs : List Sample) (fs : List Fate)
      → AllByRecursion (λ (x : Sample). is_asked narrow x.0 ≡ false) xs
      → inside (kept_of xs fs) ≡ []
  none_inside [] fs h = refl
  none_inside (x ∷ xs) [] h = refl
  none_inside (x ∷ xs) (f ∷ fs) h =
      filter-append (λ (s : ℤ × ℤ). in_range narrow.times.from narrow.times.to s.0)
      (kept_one x.0 f) (kept_of xs fs)
      ∙ ap (λ (k : List (ℤ × ℤ)). k ++ inside (kept_of xs fs)) (inside_one x.0 f false h.0)
      ∙ none_inside xs fs h.1

-- the fates of one chunk's samples, and of those after them
record Parted (asked : Asked) (xs ys : List Sample) (fs : List Fate) : Type 0 where
  first : List Fate
  later : List Fate
  of_first : AreFates asked xs first
  of_later : AreFates asked ys later
  kept : kept_of (xs ++ ys) fs ≡ kept_of xs first ++ kept_of ys later

parted : (asked : Asked) (xs ys : List Sample) (fs : List Fate) → AreFates asked (xs ++ ys) fs
    → Parted asked xs ys fs
parted asked [] ys fs h =
    record { first = []; later = fs; of_first = tt; of_later = h; kept = refl }
parted asked (x ∷ xs) ys [] h = absurd h
parted asked (x ∷ xs) ys (f ∷ fs) h =
    let p = parted asked xs ys fs h.1 in
    record {
      first = f ∷ p.first;
      later = p.later;
      of_first = (h.0, p.of_first);
      of_later = p.of_later;
      kept = ap (λ (k : List (ℤ × ℤ)). kept_one x.0 f ++ k) p.kept
          ∙ sym (append_assoc (kept_one x.0 f) (kept_of xs p.first) (kept_of ys p.later));
    }

held_same : (x y : List Sample) (i j : ℕ) (r : Result Held SourceError) → r ≡ Ok (x, i)
    → r ≡ Ok (y, j) → x ≡ y
held_same x y i j r a b =
    let p : Held = (x, i) in
    let q : Held = (y, j) in
    ap (λ (h : Held). h.0) (same_value p q (sym a ∙ b))

-- a chunk whose times do not meet a range has no sample in it
unmet : (asked : Asked) (c : Chunk) (t : ℤ) → meets asked.times c ≡ false → c.mint ≤ℤ t
    → t ≤ℤ c.maxt → is_asked asked t ≡ false
unmet asked c t m low high =
    go (int_le c.mint asked.times.to) (int_le asked.times.from c.maxt) refl refl
  where
    from : ℤ
    from = asked.times.from

    to : ℤ
    to = asked.times.to

    go : (p q : Bool) → int_le c.mint to ≡ p → int_le from c.maxt ≡ q → in_range from to t ≡ false
    go false q e f = out_high from to t (let x : int_lt to t ≡ true = grind (arith, ints) in x)
    go true false e f = out_low from to t (let x : int_lt t from ≡ true = grind (arith, ints) in x)
    go true true e f =
        let k : (int_le c.mint to && int_le from c.maxt) ≡ true = rw (e, f) refl in
        absurd (differ (int_le c.mint to && int_le from c.maxt) k m)

out_of : (asked : Asked) (c : Chunk) (xs : List Sample) → meets asked.times c ≡ false → LieIn c xs
    → AllByRecursion (λ (x : Sample). is_asked asked x.0 ≡ false) xs
out_of asked c [] m h = tt
out_of asked c (x ∷ xs) m h = (unmet asked c x.0 m h.0.0 h.0.1, out_of asked c xs m h.1)

module _ (reads : Segments) (alike : AreReadAlike reads) (narrow wide : Asked)
    (n : IsNarrower narrow wide) where
  -- a chunk that meets the narrower range meets the other
  meets_too : (c : Chunk) → meets narrow.times c ≡ true → meets wide.times c ≡ true
  meets_too c h =
      let p = and_parts (int_le c.mint narrow.times.to) (int_le narrow.times.from c.maxt) h in
      let t = p.0 in
      let u = p.1 in
      let f = n.from in
      let e = n.to in
      let x : int_le c.mint wide.times.to ≡ true = grind (arith, ints) in
      let y : int_le wide.times.from c.maxt ≡ true = grind (arith, ints) in
      rw (x, y) refl

  one_chunk : (c : Chunk) (xs ys : List Sample) (fs gs : List Fate)
      → AreSamplesOf reads wide.times c [] xs → AreSamplesOf reads narrow.times c [] ys
      → AreFates wide xs fs → AreFates narrow ys gs
      → kept_of ys gs ≡ within narrow.times.from narrow.times.to (kept_of xs fs)
  one_chunk c xs ys fs gs (inl a) (inl b) f g =
      ap (λ (zs : List Sample). kept_of zs gs) b.1
      ∙ sym (ap (λ (zs : List Sample). within narrow.times.from narrow.times.to (kept_of zs fs))
      a.1)
  one_chunk c xs ys fs gs (inl a) (inr b) f g =
      absurd (differ (meets wide.times c) (meets_too c b.0) a.0)
  one_chunk c xs ys fs gs (inr a) (inl b) f g =
      let held = a.1.1 in
      let lie : LieIn c xs =
      subst (LieIn c) (sym a.1.2)
      (chunk_lies held.segment c a.1.0 held.histograms held.held) in
      ap (λ (zs : List Sample). kept_of zs gs) b.1
      ∙ sym (none_inside narrow wide n xs fs (out_of narrow c xs b.0 lie))
  one_chunk c xs ys fs gs (inr a) (inr b) f g =
      let p = a.1.1 in
      let q = b.1.1 in
      let bytes = alike (c.reference / 0x1_0000_0000) q.segment p.segment q.reads_so p.reads_so in
      let again = subst (λ (s : List ℕ). chunk_read s c ≡ Ok (b.1.0, q.histograms)) bytes q.held in
      let same =
      held_same b.1.0 a.1.0 q.histograms p.histograms (chunk_read p.segment c) again p.held in
      let ys_is : ys ≡ xs = b.1.2 ∙ (same ∙ sym a.1.2) in
      let g' = subst (λ (zs : List Sample). AreFates narrow zs gs) ys_is g in
      ap (λ (zs : List Sample). kept_of zs gs) ys_is ∙ all_kept narrow wide n xs fs gs f g'

  -- of the chunks of a series
  pub chunks_kept : (cs : List Chunk) (xs ys : List Sample) (fs gs : List Fate)
      → AreSamplesIn reads wide.times cs xs → AreSamplesIn reads narrow.times cs ys
      → AreFates wide xs fs → AreFates narrow ys gs
      → kept_of ys gs ≡ within narrow.times.from narrow.times.to (kept_of xs fs)
  chunks_kept [] xs ys fs gs a b f g =
      ap (λ (zs : List Sample). kept_of zs gs) b
      ∙ sym (ap (λ (zs : List Sample). within narrow.times.from narrow.times.to (kept_of zs fs)) a)
  chunks_kept (c ∷ cs) xs ys fs gs a b f g =
      let p = parted wide a.0 a.1 fs (subst (λ (zs : List Sample). AreFates wide zs fs) a.2 f) in
      let q =
      parted narrow b.0 b.1 gs (subst (λ (zs : List Sample). AreFates narrow zs gs) b.2 g) in
      let one = one_chunk c a.0 b.0 p.first q.first a.3 b.3 p.of_first q.of_first in
      let more = chunks_kept cs a.1 b.1 p.later q.later a.4 b.4 p.of_later q.of_later in
      let inside = within narrow.times.from narrow.times.to in
      ap (λ (zs : List Sample). kept_of zs gs) b.2 ∙ q.kept
      ∙ ap (λ (k : List (ℤ × ℤ)). k ++ kept_of b.1 q.later) one
      ∙ ap (λ (k : List (ℤ × ℤ)). inside (kept_of a.0 p.first) ++ k) more
      ∙ sym (filter-append (λ (s : ℤ × ℤ). in_range narrow.times.from narrow.times.to s.0)
      (kept_of a.0 p.first) (kept_of a.1 p.later))
      ∙ ap inside (sym (ap (λ (zs : List Sample). kept_of zs fs) a.2 ∙ p.kept))

-- what is asked of a series, in a range and in a wider one
asked_narrower : (s : Series) (narrow wide : Wanted) (an aw : Asked) → IsPartOf narrow wide
    → IsAskedOf narrow s an → IsAskedOf wide s aw → IsNarrower an aw
asked_narrower s narrow wide an aw p a b = record {
  form = a.form ∙ (p.form ∙ sym b.form);
  deletions = a.deletions ∙ (p.deletions ∙ sym b.deletions);
  reference = a.reference ∙ sym b.reference;
  from =
      subst (λ (t : Times). t.from ≤ℤ an.times.from) (sym b.times)
      (subst (λ (t : Times). wide.times.from ≤ℤ t.from) (sym a.times) p.from);
  to =
      subst (λ (t : Times). an.times.to ≤ℤ t.to) (sym b.times)
      (subst (λ (t : Times). t.to ≤ℤ wide.times.to) (sym a.times) p.to);
}

between_row : (from to : ℤ) (l : Labels) (kept : List (ℤ × ℤ)) (rows : List Row)
    → rows_between from to (row_if l kept ++ rows) ≡ row_if l (within from to kept)
    ++ rows_between from to rows
between_row from to l [] rows = refl
between_row from to l (x ∷ kept) rows = refl

-- of one series
kept_between : (reads : Segments) (s : Series) (narrow wide : Wanted) (all rows : List Row)
    (a b c d : Tally) → AreReadAlike reads → IsPartOf narrow wide
    → (x : IsRowAfter reads wide s [] all a b) → (y : IsRowAfter reads narrow s [] rows c d)
    → y.kept ≡ within narrow.times.from narrow.times.to x.kept
kept_between reads s narrow wide all rows a b c d alike p x y =
    let held =
    subst (λ (t : Times). AreSamplesIn reads t s.chunks x.samples) (sym x.of.times) x.held in
    let own =
    subst (λ (t : Times). AreSamplesIn reads t s.chunks y.samples) (sym y.of.times) y.held in
    let n = asked_narrower s narrow wide y.asked x.asked p y.of x.of in
    let inside = λ (t : Times) (k : List (ℤ × ℤ)). within t.from t.to k in
    y.keeps.kept
    ∙ (chunks_kept reads alike y.asked x.asked n s.chunks x.samples y.samples x.keeps.fates
    y.keeps.fates held own x.keeps.each y.keeps.each
    ∙ (ap (λ (t : Times). inside t (kept_of x.samples x.keeps.fates)) y.of.times
    ∙ ap (inside narrow.times) (sym x.keeps.kept)))

pub rows_narrowed : (reads : Segments) (narrow wide : Wanted) → AreReadAlike reads
    → IsPartOf narrow wide → (ss : List Series) (all rows : List Row) (a b c d : Tally)
    → AreRowsOf reads wide ss all a b → AreRowsOf reads narrow ss rows c d
    → rows ≡ rows_between narrow.times.from narrow.times.to all
rows_narrowed reads narrow wide alike p [] all rows a b c d x y =
    y.0 ∙ sym (ap (rows_between narrow.times.from narrow.times.to) x.0)
rows_narrowed reads narrow wide alike p (s ∷ ss) all rows a b c d x y =
    let from = narrow.times.from in
    let to = narrow.times.to in
    let kept = kept_between reads s narrow wide x.0 y.0 a x.2 c y.2 alike p x.4 y.4 in
    let more = rows_narrowed reads narrow wide alike p ss x.1 y.1 x.2 b y.2 d x.5 y.5 in
    y.3 ∙ (ap (λ (r : List Row). r ++ y.1) (y.4.row ∙ ap (row_if s.labels) kept)
    ∙ (ap (λ (r : List Row). row_if s.labels (within from to x.4.kept) ++ r) more
    ∙ (sym (between_row from to s.labels x.4.kept x.1)
    ∙ sym (ap (rows_between from to) (x.3 ∙ ap (λ (r : List Row). r ++ x.1) x.4.row)))))
