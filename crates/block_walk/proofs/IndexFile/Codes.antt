-- Which refusals a reading can answer.
use Rattle.std.proofs.Common.{◌≡◌, ℕ, zero, suc, ◌-◌, Bool, true, false, cond, ltb, List, [], ◌∷◌, Option, Some, None, Result, Ok, Err, refl, ◌∙◌, inl, inr, eqb}
use Rattle.std.specs.Prelude.{slice_range}
use Rattle.wire.specs.declared.error.WireError.{WireError}
use Rattle.wire.specs.Reading.{number_at, bytes_at, uvarint_at}
use Rattle.wire.proofs.KnownReads.{chosen}
use Rattle.block_walk.specs.declared.chunk.Chunk.{Chunk}
use Rattle.block_walk.specs.declared.error.WalkError.{WalkError}
use Rattle.block_walk.specs.declared.error.WalkError.TheVariants.{Symbols, SeriesCrc, Series}
use Rattle.block_walk.specs.IndexFile.Layout.{SeriesEntry}
use Rattle.block_walk.specs.IndexFile.Reading.{checked_at, frame_at, symbol_at, symbols_from, symbols_of, entry_at, entries_from}
use Rattle.wire.specs.Outcome.{◌>>=◌, or_refused}
use Rattle.block_walk.specs.IndexFile.Steps.{steps}
use Rattle.block_walk.specs.IndexFile.Each.{each}
use Rattle.block_walk.specs.IndexFile.Bodies.{label_at, labels_at, or_series, chunk_at, behind, chunks_at, body_at}
use Rattle.block_walk.specs.IndexFile.Chunks.{first_chunk_at, later_chunk_at}
use Rattle.block_walk.specs.IndexFile.Flat.{body_of_entry}

-- a refusal
abbrev pub refused : (A : Type 0) → WalkError → Result A WalkError
refused A e = Err e

-- where a reading is refused, this is the refusal
abbrev pub OnlyErr : {A : Type 0} → WalkError → Result A WalkError → Type 0
OnlyErr d r = (e : WalkError) → r ≡ Err e → d ≡ e

pub same_refusal : (A : Type 0) (c e : WalkError) → refused A c ≡ refused A e → c ≡ e
same_refusal A c e h = cc

not_ok : {A : Type 0} (d e : WalkError) (x : A) → Ok x ≡ refused A e → d ≡ e
not_ok d e x h = absurd cc

of_refused : {A : Type 0} (d : WalkError) (r : Result A WireError) → OnlyErr d (or_refused d r)
of_refused d (Ok x) e h = not_ok d e x h
of_refused {A} d (Err c) e h = same_refusal A d e h

-- a step, and what follows it
of_bind : {A B : Type 0} (d : WalkError) (r : Result A WalkError) (f : A → Result B WalkError)
    (e : WalkError) → (r >>= f) ≡ Err e → OnlyErr d r → ((x : A) → f x ≡ Err e → d ≡ e) → d ≡ e
of_bind d (Ok x) f e h a b = b x h
of_bind {A} {B} d (Err c) f e h a b = a c refl ∙ same_refusal B c e h

of_test : {A : Type 0} (d : WalkError) (b : Bool) (x : A) (e : WalkError)
    → cond b (Ok x) (Err d) ≡ Err e → d ≡ e
of_test d true x e h = not_ok d e x h
of_test {A} d false x e h = same_refusal A d e h

-- ---- frames and symbols

of_checked : (d : WalkError) (len : ℕ × List ℕ) → OnlyErr d (checked_at d len)
of_checked d len e h =
    of_bind d (or_refused d (bytes_at len.0 len.1)) _ e h
    (of_refused d (bytes_at len.0 len.1)) (λ content g.
    of_bind d (or_refused d (number_at 4 content.1)) _ e g (of_refused d (number_at 4 content.1))
    (λ sum k. of_test d _ _ e k))

pub of_frame : (d : WalkError) (bytes : List ℕ) → OnlyErr d (frame_at d bytes)
unfolding frame_at
of_frame d bytes e h =
    of_bind d (or_refused d (number_at 4 bytes)) _ e h (of_refused d (number_at 4 bytes)) (λ len g.
    of_checked d len e g)

of_symbol : (bytes : List ℕ) → OnlyErr Symbols (symbol_at bytes)
unfolding symbol_at
of_symbol bytes e h =
    of_bind Symbols (or_refused Symbols (uvarint_at bytes)) _ e h
    (of_refused Symbols (uvarint_at bytes)) (λ len g.
    of_bind Symbols (or_refused Symbols (bytes_at len.0 len.1)) _ e g
    (of_refused Symbols (bytes_at len.0 len.1)) (λ text k. of_test Symbols _ _ e k))

of_symbols_from : (n : ℕ) (bytes : List ℕ) → OnlyErr Symbols (symbols_from n bytes)
unfolding symbols_from
of_symbols_from zero bytes e h = not_ok Symbols e _ h
of_symbols_from (suc n) bytes e h =
    of_bind Symbols (symbol_at bytes) _ e h (of_symbol bytes) (λ first g. of_bind Symbols
    (symbols_from n first.1) _ e g (of_symbols_from n first.1) (λ others k. not_ok Symbols e _ k))

pub of_symbols : (content : List ℕ) → OnlyErr Symbols (symbols_of content)
unfolding symbols_of
of_symbols content e h =
    of_bind Symbols (or_refused Symbols (number_at 4 content)) _ e h
    (of_refused Symbols (number_at 4 content)) (λ n g. of_bind Symbols (symbols_from n.0 n.1) _ e g
    (of_symbols_from n.0 n.1) (λ found k. of_test Symbols _ _ e k))

-- ---- entries

of_entry : (bytes : List ℕ) → OnlyErr SeriesCrc (entry_at bytes)
unfolding entry_at
of_entry bytes e h =
    of_bind SeriesCrc (or_refused SeriesCrc (uvarint_at bytes)) _ e h
    (of_refused SeriesCrc (uvarint_at bytes)) (λ len g. of_checked SeriesCrc len e g)

pub of_entries : (n : ℕ) (file : List ℕ) (end at : ℕ)
    → OnlyErr SeriesCrc (entries_from n file end at)
unfolding entries_from
of_entries zero file end at e h = not_ok SeriesCrc e _ h
of_entries (suc n) file end at e h =
    elim (chosen (ltb at end) _ _ _ h) [
      | inl x ↦
          of_bind SeriesCrc (entry_at (slice_range file at end)) _ e x.1
          (of_entry (slice_range file at end)) (λ entry g.
          of_bind SeriesCrc (entries_from n file end _) _ e g (of_entries n file end _) (λ others k.
          not_ok SeriesCrc e _ k))
      | inr x ↦ not_ok SeriesCrc e _ x.1
    ]

-- ---- bodies

of_steps : {S X : Type 0} (d : WalkError) (step : S → Result (X × S) WalkError)
    → ((s : S) → OnlyErr d (step s)) → (n : ℕ) (s : S) → OnlyErr d (steps step n s)
unfolding steps
of_steps d step all zero s e h = not_ok d e _ h
of_steps d step all (suc n) s e h =
    of_bind d (step s) _ e h (all s) (λ first g. of_bind d (steps step n first.1) _ e g
    (of_steps d step all n first.1) (λ others k. not_ok d e _ k))

of_label : (symbols : List (List ℕ)) (s : ℕ × List ℕ) → OnlyErr Series (label_at symbols s)
unfolding label_at
of_label symbols s e h =
    of_bind Series (or_refused Series (uvarint_at s.1)) _ e h
    (of_refused Series (uvarint_at s.1)) (λ name g.
    of_bind Series (or_refused Series (uvarint_at name.1)) _ e g
    (of_refused Series (uvarint_at name.1)) (λ value k. of_test Series _ _ e k))

of_labels : (symbols : List (List ℕ)) (bytes : List ℕ) → OnlyErr Series (labels_at symbols bytes)
unfolding labels_at
of_labels symbols bytes e h =
    of_bind Series (or_refused Series (uvarint_at bytes)) _ e h
    (of_refused Series (uvarint_at bytes)) (λ n g.
    of_steps Series (label_at symbols) (of_label symbols) n.0 (0, n.1) e g)

of_series : {A : Type 0} (o : Option A) → OnlyErr Series (or_series o)
of_series (Some x) e h = not_ok Series e x h
of_series {A} None e h = same_refusal A Series e h

of_chunk : (s : Chunk × List ℕ) → OnlyErr Series (chunk_at s)
unfolding chunk_at
of_chunk s e h =
    of_bind Series (or_series (later_chunk_at s.0 s.1)) _ e h (of_series (later_chunk_at s.0 s.1)) (λ next g.
    not_ok Series e _ g)

of_behind : (c : Chunk) (r : Result (List Chunk × (Chunk × List ℕ)) WalkError) → OnlyErr Series r
    → OnlyErr Series (behind c r)
of_behind c (Ok x) all e h = not_ok Series e _ h
of_behind c (Err d) all e h = all d refl ∙ same_refusal (List Chunk × (Chunk × List ℕ)) d e h

of_chunks : (bytes : List ℕ) → OnlyErr Series (chunks_at bytes)
unfolding chunks_at
of_chunks bytes e h =
    of_bind Series (or_refused Series (uvarint_at bytes)) _ e h
    (of_refused Series (uvarint_at bytes)) (λ n g. elim (chosen (eqb n.0 0) _ _ _ g) [
      | inl x ↦ same_refusal (List Chunk × (Chunk × List ℕ)) Series e x.1
      | inr x ↦
          of_bind Series (or_series (first_chunk_at n.1)) _ e x.1 (of_series (first_chunk_at n.1)) (λ first k.
          of_behind first.0 (steps chunk_at (n.0 - 1) first)
          (of_steps Series chunk_at of_chunk (n.0 - 1) first) e k)
    ])

of_body : (symbols : List (List ℕ)) (bytes : List ℕ) → OnlyErr Series (body_at symbols bytes)
unfolding body_at
of_body symbols bytes e h =
    of_bind Series (labels_at symbols bytes) _ e h (of_labels symbols bytes) (λ labels g. of_bind
    Series (chunks_at labels.1.1) _ e g (of_chunks labels.1.1) (λ chunks k. of_test Series _ _ e k))

of_each : {A X : Type 0} (d : WalkError) (step : A → Result X WalkError)
    → ((a : A) → OnlyErr d (step a)) → (as' : List A) → OnlyErr d (each step as')
unfolding each
of_each d step all [] e h = not_ok d e _ h
of_each d step all (a ∷ as') e h =
    of_bind d (step a) _ e h (all a) (λ x g.
    of_bind d (each step as') _ e g (of_each d step all as') (λ xs k. not_ok d e _ k))

pub of_bodies : (symbols : List (List ℕ)) (ps : List SeriesEntry)
    → OnlyErr Series (each (body_of_entry symbols) ps)
of_bodies symbols ps e h =
    of_each Series (body_of_entry symbols) (λ p c g. of_body symbols p.body c g) ps e h
