-- The first check of a block's files that fails.
use Rattle.std.proofs.Common.{◌≡◌, ℕ, ◌≤◌, Bool, true, false, cond, List, [], ◌∷◌, length, Result, Ok, Err, refl, sym, ap, subst, ◌∙◌, inl, inr}
use Rattle.std.specs.Prelude.{ℤ, IfErr}
use Rattle.std.specs.List.{AllByRecursion, list_all}
use Rattle.std.proofs.lemmas.Bool.{le-leb, leb-true}
use Rattle.wire.specs.Spelling.{IsBytes}
use Rattle.wire.proofs.KnownReads.{chosen}
use Rattle.labels.specs.Parts.{Part}
use Rattle.chunk_reader.specs.declared.error.ChunkError.{ChunkError}
use Rattle.chunk_reader.specs.Reading.{opened}
use Rattle.wire.proofs.Steps.{bind_ok}
use Rattle.chunk_reader.proofs.Whole.{segment_takes, segment_again, chunk_takes}
use Rattle.tombstones.specs.declared.deletion.Deletion.{Deletion}
use Rattle.tombstones.specs.declared.error.TombstoneError.{TombstoneError}
use Rattle.tombstones.specs.Reading.{deletions_of}
use Rattle.tombstones.proofs.Whole.{tombstones_take, tombstones_again}
use Rattle.block_walk.specs.declared.chunk.Chunk.{Chunk}
use Rattle.block_walk.specs.declared.error.WalkError.{WalkError}
use Rattle.block_walk.specs.declared.error.WalkError.TheVariants.{Memory, Limit, UnknownSeries}
use Rattle.block_walk.specs.IndexFile.Outcome.{Gives, Fails, of_chunk, of_tombstone}
use Rattle.block_walk.specs.IndexFile.Series.{Series}
use Rattle.block_walk.specs.IndexFile.Whole.{read_of, indexed_of}
use Rattle.block_walk.specs.IndexFile.Spelled.{IsIndex}
use Rattle.block_walk.specs.BlockFiles.Samples.{or_none, chunk_read, chunk_samples, samples_in}
use Rattle.block_walk.specs.BlockFiles.Sound.{IsHeld}
use Rattle.block_walk.specs.BlockFiles.Reading.{or_chunks, or_tombstones, each_check, chunk_check, series_check, is_few, is_known, stored_of, deleted_of, walked_of}
use Rattle.block_walk.specs.BlockFiles.Checks.{Files, Check, FirstFailing, HasSamples, HasFewSamples, checks, IsWalkError}
use Rattle.block_walk.proofs.IndexFile.Again.{index_again}
use Rattle.block_walk.proofs.BlockFiles.Checks.{all_pass, pass_all, each_pass, pass_each, weaken}
use Rattle.block_walk.proofs.BlockFiles.Found.{are_spelled, opened_same}
use Rattle.block_walk.proofs.BlockFiles.Only.{spelled_in, held_passes, walk_again}
use Rattle.block_walk.proofs.BlockFiles.Stages.{tombstones_ok}
use Rattle.block_walk.proofs.BlockFiles.HeadFirst.{not_both, ok_not, is_refusal, same_value, bind_err}
use Rattle.block_walk.proofs.BlockFiles.IndexFirst.{index_passes, index_first, index_found}
use Rattle.block_walk.proofs.IndexFile.Codes.{refused}

-- ---- refusals of the files that are read by others

chunks_refused : {A : Type 0} (r : Result A ChunkError) (e : WalkError) → or_chunks r ≡ Err e
    → (c : ChunkError) × (r ≡ Err c) × (e ≡ of_chunk c)
chunks_refused (Ok x) e h = absurd cc
chunks_refused {A} (Err c) e h = (c, refl, is_refusal A (of_chunk c) e h)

tombstones_refused : {A : Type 0} (r : Result A TombstoneError) (e : WalkError)
    → or_tombstones r ≡ Err e → (d : TombstoneError) × (r ≡ Err d) × (e ≡ of_tombstone d)
tombstones_refused (Ok x) e h = absurd cc
tombstones_refused {A} (Err d) e h = (d, refl, is_refusal A (of_tombstone d) e h)

chunks_given : {A : Type 0} (r : Result A ChunkError) (x : A) → or_chunks r ≡ Ok x → r ≡ Ok x
chunks_given (Ok y) x h = cc
chunks_given (Err c) x h = absurd cc

not_chunks : {A : Type 0} (r : Result A ChunkError) (x : A) (c : ChunkError)
    → r ≡ Ok x → r ≡ Err c → ⊥
not_chunks (Ok y) x c a b = absurd cc
not_chunks (Err d) x c a b = absurd cc

not_tombstones : {A : Type 0} (r : Result A TombstoneError) (x : A) (d : TombstoneError)
    → r ≡ Ok x → r ≡ Err d → ⊥
not_tombstones (Ok y) x d a b = absurd cc
not_tombstones (Err c) x d a b = absurd cc

true_not : (b : Bool) → b ≡ true → b ≡ false → ⊥
true_not true a b = absurd cc
true_not false a b = absurd cc

-- ---- chunks that are read

chunk_held : (file : List ℕ) (c : Chunk) → IsBytes file → chunk_check file c ≡ Ok tt → IsHeld file c
chunk_held file c fits h =
    let a = bind_ok (chunk_read file c) _ tt h in
    let same : chunk_samples file c ≡ a.0 = ap or_none a.1 in
    let read : chunk_read file c ≡ Ok (chunk_samples file c) =
    a.1 ∙ ap (λ (s : List (ℤ × ℤ)). Ok s) (sym same) in
    record {
      reads = read;
      stands = chunk_takes file c.reference c.mint c.maxt (chunk_samples file c) fits read;
    }

series_held : (file : List ℕ) (s : Series) → IsBytes file → series_check file s ≡ Ok tt
    → AllByRecursion (IsHeld file) s.chunks
series_held file s fits h =
    weaken (λ c. chunk_check file c ≡ Ok tt) (IsHeld file) (λ c e. chunk_held file c fits e)
    s.chunks (each_pass (chunk_check file) s.chunks h)

series_sampled : (file : List ℕ) (s : Series) → IsBytes file
    → series_check file s ≡ Ok tt → HasSamples file s
series_sampled file s fits h =
    (samples_in file s.chunks, are_spelled file s.chunks (series_held file s fits h))

samples_pass : (file : List ℕ) (s : Series) → HasSamples file s → series_check file s ≡ Ok tt
samples_pass file s h = held_passes file s (spelled_in file s.chunks h.0 h.1).1

few_pass : (file : List ℕ) (s : Series) → HasFewSamples file s → is_few file s ≡ true
few_pass file s h =
    le-leb (length (samples_in file s.chunks)) 1048576
    (subst (λ (x : List (ℤ × ℤ)). length x ≤ 1048576) (spelled_in file s.chunks h.0 h.1).0 h.2)

few_sampled : (file : List ℕ) (ss : List Series) → IsBytes file
    → each_check (series_check file) ss ≡ Ok tt → list_all (is_few file) ss ≡ true
    → AllByRecursion (HasFewSamples file) ss
few_sampled file ss fits read few =
    both_of ss (each_pass (series_check file) ss read) (all_pass (is_few file) ss few)
  where
    both_of : (xs : List Series) → AllByRecursion (λ s. series_check file s ≡ Ok tt) xs
        → AllByRecursion (λ s. is_few file s ≡ true) xs → AllByRecursion (HasFewSamples file) xs
    both_of [] a b = tt
    both_of (s ∷ xs) a b = (
      (
        samples_in file s.chunks,
        are_spelled file s.chunks (series_held file s fits a.0),
        leb-true (length (samples_in file s.chunks)) 1048576 b.0,
      ),
      both_of xs a.1 b.1,
    )

-- ---- the stages

abbrev IsRead : Files → List Series → Type 0
IsRead f ss = IsIndex f.index ss × (indexed_of f.index ≡ Ok ss)

same_series : (f : Files) (ss other : List Series) → IsBytes f.index → IsRead f ss
    → IsIndex f.index other → other ≡ ss
same_series f ss other fits read i =
    same_value (indexed_of f.index) other ss (index_again f.index other fits i) read.1

stored_first : (f : Files) (e : WalkError) (rest : List Check) (ss : List Series) → IsBytes f.index
    → IsBytes f.chunks → IsRead f ss → stored_of f.chunks ss ≡ Err e
    → FirstFailing (Check.each_chunk ∷ Check.sample_counts ∷ rest) f e
unfolding stored_of
stored_first f e rest ss index_fits fits read h =
    let file = f.chunks in
    let checked = each_check (series_check file) ss in
    elim (bind_err (or_chunks checked) _ e h) [
      | inl a ↦
          let c = chunks_refused checked e a in
          inl (
            λ o.
                let same = same_series f ss o.0 index_fits read o.1 in
                let all = subst (AllByRecursion (HasSamples file)) same o.2 in
                not_chunks checked tt c.0
                (pass_each (series_check file) ss (weaken (HasSamples file)
                (λ s. series_check file s ≡ Ok tt) (λ s x. samples_pass file s x) ss all)) c.1,
            (ss, c.0, read.0, c.1, c.2),
          )
      | inr a ↦
          let passed : checked ≡ Ok tt = chunks_given checked tt a.1 in
          let sampled : AllByRecursion (HasSamples file) ss =
          weaken (λ s. series_check file s ≡ Ok tt) (HasSamples file)
          (λ s x. series_sampled file s fits x) ss (each_pass (series_check file) ss passed) in
          inr (
            (ss, read.0, sampled),
            elim (chosen (list_all (is_few file) ss) _ _ _ a.2) [
              | inl b ↦ absurd (ok_not _ _ b.1)
              | inr b ↦ inl (
                λ o.
                    let same = same_series f ss o.0 index_fits read o.1 in
                    let all = subst (AllByRecursion (HasFewSamples file)) same o.2 in
                    true_not (list_all (is_few file) ss)
                    (pass_all (is_few file) ss (weaken (HasFewSamples file)
                    (λ s. is_few file s ≡ true) (λ s x. few_pass file s x) ss all)) b.0,
                is_refusal (Unit {0}) Limit e b.1,
              )
            ],
          )
    ]

stored_passes : (f : Files) (e : WalkError) (rest : List Check) (ss : List Series)
    → IsBytes f.chunks → IsRead f ss → stored_of f.chunks ss ≡ Ok tt → FirstFailing rest f e
    → FirstFailing (Check.each_chunk ∷ Check.sample_counts ∷ rest) f e
unfolding stored_of
stored_passes f e rest ss fits read h more =
    let file = f.chunks in
    let checked = each_check (series_check file) ss in
    let a = bind_ok (or_chunks checked) _ tt h in
    let passed : checked ≡ Ok tt = chunks_given checked tt a.1 in
    let few = guard_passed (list_all (is_few file) ss) a.2 in
    let sampled : AllByRecursion (HasSamples file) ss =
    weaken (λ s. series_check file s ≡ Ok tt) (HasSamples file)
    (λ s x. series_sampled file s fits x) ss (each_pass (series_check file) ss passed) in
    inr ((ss, read.0, sampled), inr ((ss, read.0, few_sampled file ss fits passed few), more))
  where
    guard_passed : (b : Bool) → cond b (Ok tt) (refused (Unit {0}) Limit) ≡ Ok tt → b ≡ true
    guard_passed true g = refl
    guard_passed false g = absurd cc

deleted_first : (f : Files) (e : WalkError) (ss : List Series) → IsBytes f.index
    → IsBytes f.tombstones → walked_of f.index f.chunks f.tombstones ≡ Err e
    → deleted_of f.tombstones ss ≡ Err e
    → FirstFailing (Check.deletions ∷ Check.known_series ∷ []) f e
unfolding deleted_of
deleted_first f e ss index_fits fits whole h =
    let file = f.tombstones in
    elim (bind_err (or_tombstones (deletions_of file)) _ e h) [
      | inl a ↦
          let d = tombstones_refused (deletions_of file) e a in
          inl (
            λ o.
                not_tombstones (deletions_of file) o.0 d.0 (tombstones_again file o.0 fits o.1) d.1,
            d,
          )
      | inr a ↦
          let read = tombstones_ok (deletions_of file) a.0 a.1 in
          inr (
            (a.0, tombstones_take file a.0 fits read),
            elim (chosen (list_all (is_known ss) a.0) _ _ _ a.2) [
              | inl b ↦ absurd (ok_not _ _ b.1)
              | inr b ↦ inl (
                λ o. not_both (walked_of f.index f.chunks f.tombstones) o.0 e
                    (walk_again f.index f.chunks f.tombstones o.0 index_fits fits o.1) whole,
                is_refusal (List Deletion) UnknownSeries e b.1,
              )
            ],
          )
    ]

-- ---- the whole

read_refused : (file : List ℕ) (e : WalkError) → indexed_of file ≡ Err e → read_of file ≡ Err e
unfolding indexed_of
read_refused file e h =
    elim (bind_err (read_of file) _ e h) [ inl a ↦ a | inr a ↦ absurd (ok_not _ _ a.2) ]

pub walk_first : (f : Files) (e : WalkError) → IsBytes f.index → IsBytes f.chunks
    → IsBytes f.tombstones → walked_of f.index f.chunks f.tombstones ≡ Err e
    → FirstFailing checks f e
unfolding walked_of
walk_first f e index_fits chunks_fit tombstones_fit h =
    let later =
    Check.chunks_head ∷ Check.each_chunk ∷ Check.sample_counts ∷ Check.deletions
    ∷ Check.known_series ∷ [] in
    elim (bind_err (indexed_of f.index) _ e h) [
      | inl a ↦ index_first f e later index_fits (read_refused f.index e a)
      | inr a ↦
          let ss = a.0 in
          let i = index_found f.index ss index_fits a.1 in
          index_passes f e later ss i (elim (bind_err (or_chunks (opened f.chunks)) _ e a.2) [
            | inl b ↦
                let c = chunks_refused (opened f.chunks) e b in
                inl
                (λ o. not_chunks (opened f.chunks) f.chunks c.0 (segment_again f.chunks o) c.1, c)
            | inr b ↦
                let read = chunks_given (opened f.chunks) b.0 b.1 in
                let same : b.0 ≡ f.chunks = opened_same f.chunks b.0 read in
                inr (
                  segment_takes f.chunks b.0 chunks_fit read,
                  elim (bind_err (stored_of b.0 ss) _ e b.2) [
                    | inl c ↦
                        stored_first f e (Check.deletions ∷ Check.known_series ∷ []) ss index_fits
                        chunks_fit (i, a.1)
                        (ap (λ (file : List ℕ). stored_of file ss) (sym same) ∙ c)
                    | inr c ↦
                        stored_passes f e (Check.deletions ∷ Check.known_series ∷ []) ss chunks_fit
                        (i, a.1) (ap (λ (file : List ℕ). stored_of file ss) (sym same)
                        ∙ c.1) (elim (bind_err (deleted_of f.tombstones ss) _ e c.2) [
                          | inl d ↦ deleted_first f e ss index_fits tombstones_fit h d
                          | inr d ↦ absurd (ok_not _ _ d.2)
                        ])
                  ],
                )
          ])
    ]

refusal_of : (f : Files) (e : WalkError) (read : Result Part WalkError) → Fails e read
    → (read ≡ Err e → FirstFailing checks f e) → IsWalkError f e
refusal_of f Memory read h first = tt
refusal_of f e read h first = first h

pub first_failing : (f : Files) (r : Result Part WalkError) → IsBytes f.index → IsBytes f.chunks
    → IsBytes f.tombstones → Gives (λ (t : Part). t) r (walked_of f.index f.chunks f.tombstones)
    → IfErr r (IsWalkError f)
first_failing f (Ok part) a b c h = tt
first_failing f (Err e) a b c h =
    refusal_of f e (walked_of f.index f.chunks f.tombstones) h (λ x. walk_first f e a b c x)
