-- The samples that are asked for, one chunk after another.
use Rattle.std.proofs.Common.{◌≡◌, ℕ, ◌+◌, ◌-◌, ◌<◌, ◌≤◌, ℤ, pos, Bool, true, false, not, ◌&&◌}
use Rattle.std.proofs.Common.{◌||◌, List, [], ◌∷◌, ◌++◌, length, get_or, drop, Some, refl, sym, ap}
use Rattle.std.proofs.Common.{◌∙◌, append_assoc, arith}
use Rattle.std.specs.Prelude.{slice_get, int_lt}
use Rattle.std.specs.Int.Signed.{◌<ℤ◌, ◌≤ℤ◌}
use Rattle.std.specs.List.{filter, list_any, AllByRecursion}
use Rattle.std.proofs.lemmas.Int.{ints}
use Rattle.std.proofs.lemmas.List.{drop_more, drop_all, append-nil}
use Rattle.std.proofs.lemmas.List.Elements.{filter-append}
use Rattle.std.proofs.lemmas.List.Folds.{list_any-append, list_any_at}
use Rattle.std.proofs.lemmas.Option.{get_or_from_slice_get}
use Rattle.labels.specs.Contents.{in_range}
use Rattle.labels.proofs.Times.{true_not_false}
use Rattle.index_reader.specs.declared.chunk.Chunk.{Chunk}
use Rattle.tombstones.specs.declared.deletion.Deletion.{Deletion}
use Rattle.tombstones.specs.Covering.{covered}
use Rattle.block.specs.Samples.{Source, samples_in}
use Rattle.block.specs.Sound.{IsHeldChunk}
use Rattle.block.specs.Wanted.{AreHeldChunks, is_wanted, meets}
use Rattle.block.proofs.Passing.{any_passed, any_found, kept_one, kept_none, and_false, or_true}
use Rattle.block.proofs.Turns.{below, is_below, span_of}

module _ (deletions : List Deletion) (reference : ℕ) (from to : ℤ) where
  abbrev pub is_asked : ℤ × ℤ → Bool
  is_asked s = is_wanted deletions reference from to s.0

  abbrev pub has_end : Chunk → Bool
  has_end c =
      is_wanted deletions reference from to c.mint || is_wanted deletions reference from to c.maxt

  -- what the test of the sample at a place says
  told : (samples : List (ℤ × ℤ)) (i : ℕ) (s : ℤ × ℤ) (b v : Bool) → slice_get samples i ≡ Some s
      → b ≡ is_asked s → b ≡ v → is_asked (get_or samples i s) ≡ v
  told samples i s b v at is h =
      ap is_asked (get_or_from_slice_get samples i s s at) ∙ sym is ∙ h

  pub sample_passed : (samples : List (ℤ × ℤ)) (i : ℕ) (s : ℤ × ℤ) (b : Bool) → i < length samples
      → slice_get samples i ≡ Some s → b ≡ is_asked s → b ≡ false
      → list_any is_asked (drop (i + 1) samples) ≡ list_any is_asked (drop i samples)
  sample_passed samples i s b l at is h =
      any_passed is_asked samples i s l (told samples i s b false at is h)

  pub sample_found : (samples : List (ℤ × ℤ)) (i : ℕ) (s : ℤ × ℤ) (b : Bool) → i < length samples
      → slice_get samples i ≡ Some s → b ≡ is_asked s → b ≡ true
      → list_any is_asked (drop i samples) ≡ true
  sample_found samples i s b l at is h =
      any_found is_asked samples i s l (told samples i s b true at is h)

  pub sample_kept : (samples : List (ℤ × ℤ)) (i : ℕ) (s : ℤ × ℤ) (b : Bool)
      (before after all : List (ℤ × ℤ)) → i < length samples → slice_get samples i ≡ Some s
      → b ≡ is_asked s → b ≡ true
      → after ≡ before ++ s ∷ [] → before ++ filter is_asked (drop i samples) ≡ all
      → after ++ filter is_asked (drop (i + 1) samples) ≡ all
  sample_kept samples i s b before after all l at is h f inv =
      kept_one is_asked samples i s before after all l (told samples i s b true at is h)
      (f ∙ ap (λ (x : ℤ × ℤ). before ++ x ∷ []) (sym (get_or_from_slice_get samples i s s at))) inv

  pub sample_left : (samples : List (ℤ × ℤ)) (i : ℕ) (s : ℤ × ℤ) (b : Bool)
      (before after all : List (ℤ × ℤ)) → i < length samples → slice_get samples i ≡ Some s
      → b ≡ is_asked s → b ≡ false
      → after ≡ before → before ++ filter is_asked (drop i samples) ≡ all
      → after ++ filter is_asked (drop (i + 1) samples) ≡ all
  sample_left samples i s b before after all l at is h f inv =
      ap (λ (xs : List (ℤ × ℤ)). xs ++ filter is_asked (drop (i + 1) samples)) f
      ∙ kept_none is_asked samples i s before all l (told samples i s b false at is h) inv

  pub end_passed : (chunks : List Chunk) (i : ℕ) (d : Chunk) (b : Bool) → i < length chunks
      → b ≡ has_end (get_or chunks i d) → b ≡ false
      → list_any has_end (drop (i + 1) chunks) ≡ list_any has_end (drop i chunks)
  end_passed chunks i d b l is e = any_passed has_end chunks i d l (sym is ∙ e)

  -- at a chunk whose times do not meet the range no sample is asked for
  unmet_time : (c : Chunk) (t : ℤ) → c.mint ≤ℤ t → t ≤ℤ c.maxt → meets from to c ≡ false
      → in_range from to t ≡ false
  unmet_time c t low high e = go (int_lt c.maxt from) refl
    where
      before : c.maxt <ℤ from → in_range from to t ≡ false
      before lt =
          let below_from : t <ℤ from = omega (arith, ints) in
          ap (λ b. not b && not (int_lt to t)) (is_below t from below_from)

      behind : to <ℤ c.mint → in_range from to t ≡ false
      behind lt =
          let above_to : to <ℤ t = omega (arith, ints) in
          ap (λ b. not (int_lt t from) && not b) (is_below to t above_to)
          ∙ and_false (not (int_lt t from))

      last : (b : Bool) → int_lt c.maxt from ≡ false → int_lt to c.mint ≡ b
          → in_range from to t ≡ false
      last true f g = behind (below to c.mint g)
      last false f g =
          absurd (true_not_false (sym (ap (λ b. not b && not (int_lt to c.mint)) f ∙ ap not g) ∙ e))

      go : (b : Bool) → int_lt c.maxt from ≡ b → in_range from to t ≡ false
      go true f = before (below c.maxt from f)
      go false f = last (int_lt to c.mint) f refl

  unmet_each : (c : Chunk) (ss : List (ℤ × ℤ)) → meets from to c ≡ false
      → AllByRecursion (λ (s : ℤ × ℤ). c.mint ≤ℤ s.0) ss
      → AllByRecursion (λ (s : ℤ × ℤ). s.0 ≤ℤ c.maxt) ss
      → AllByRecursion (λ (s : ℤ × ℤ). is_asked s ≡ false) ss
  unmet_each c [] e low high = tt
  unmet_each c (s ∷ ss) e low high = (
    ap (λ b. b && not (covered deletions reference s.0)) (unmet_time c s.0 low.0 high.0 e),
    unmet_each c ss e low.1 high.1,
  )

  pub unmet : (source : Source) (c : Chunk) → IsHeldChunk source c → meets from to c ≡ false
      → AllByRecursion (λ (s : ℤ × ℤ). is_asked s ≡ false) (source c)
  unmet source c held e =
      let span = span_of source c held in
      unmet_each c (source c) e span.begin span.end

  -- one chunk more is read
  pub chunk_kept : (source : Source) (chunks : List Chunk) (i : ℕ) (d : Chunk)
      (before after all : List (ℤ × ℤ)) → i < length chunks
      → after ≡ before ++ filter is_asked (source (get_or chunks i d))
      → before ++ filter is_asked (samples_in source (drop i chunks)) ≡ all
      → after ++ filter is_asked (samples_in source (drop (i + 1) chunks)) ≡ all
  chunk_kept source chunks i d before after all l f h =
      ap (λ (xs : List (ℤ × ℤ)). xs ++ filter is_asked (samples_in source (drop (i + 1) chunks))) f
      ∙ append_assoc before (filter is_asked (source (get_or chunks i d)))
      (filter is_asked (samples_in source (drop (i + 1) chunks)))
      ∙ ap (λ (xs : List (ℤ × ℤ)). before ++ xs)
      (sym (ap (λ cs. filter is_asked (samples_in source cs)) (drop_more chunks i d l)
      ∙ filter-append is_asked (source (get_or chunks i d))
      (samples_in source (drop (i + 1) chunks))))
      ∙ h

  pub chunk_passed : (source : Source) (chunks : List Chunk) (i : ℕ) (d : Chunk) (b : Bool)
      → i < length chunks
      → b ≡ list_any is_asked (source (get_or chunks i d)) → b ≡ false
      → list_any is_asked (samples_in source (drop (i + 1) chunks))
      ≡ list_any is_asked (samples_in source (drop i chunks))
  chunk_passed source chunks i d b l is e =
      sym (ap (λ cs. list_any is_asked (samples_in source cs)) (drop_more chunks i d l)
      ∙ list_any-append is_asked (source (get_or chunks i d))
      (samples_in source (drop (i + 1) chunks))
      ∙ ap (λ v. v || list_any is_asked (samples_in source (drop (i + 1) chunks))) (sym is ∙ e))

  pub chunk_found : (source : Source) (chunks : List Chunk) (i : ℕ) (d : Chunk) (b : Bool)
      → i < length chunks
      → b ≡ list_any is_asked (source (get_or chunks i d)) → b ≡ true
      → list_any is_asked (samples_in source (drop i chunks)) ≡ true
  chunk_found source chunks i d b l is e =
      ap (λ cs. list_any is_asked (samples_in source cs)) (drop_more chunks i d l)
      ∙ list_any-append is_asked (source (get_or chunks i d))
      (samples_in source (drop (i + 1) chunks))
      ∙ ap (λ v. v || list_any is_asked (samples_in source (drop (i + 1) chunks))) (sym is ∙ e)

  pub chunks_ended : (source : Source) (chunks : List Chunk) (i : ℕ) → length chunks ≤ i
      → list_any is_asked (samples_in source (drop i chunks)) ≡ false
  chunks_ended source chunks i l =
      ap (λ cs. list_any is_asked (samples_in source cs)) (drop_all i chunks l)

  pub chunks_kept : (source : Source) (chunks : List Chunk) (i : ℕ) (before all : List (ℤ × ℤ))
      → length chunks ≤ i
      → before ++ filter is_asked (samples_in source (drop i chunks)) ≡ all → before ≡ all
  chunks_kept source chunks i before all l h =
      sym (ap (λ cs. before ++ filter is_asked (samples_in source cs)) (drop_all i chunks l)
      ∙ append-nil before)
      ∙ h

  -- the first or the last sample of a chunk
  end_asked : (source : Source) (c : Chunk) → IsHeldChunk source c → has_end c ≡ true
      → list_any is_asked (source c) ≡ true
  end_asked source c held e = go (is_wanted deletions reference from to c.mint) refl
    where
      some : 0 < length (source c)
      some = held.batch.some

      last_inside : length (source c) - 1 < length (source c)
      last_inside = let s = some in omega arith

      at_first : is_wanted deletions reference from to c.mint ≡ true
          → list_any is_asked (source c) ≡ true
      at_first f =
          list_any_at is_asked (source c) 0 (pos 0, pos 0) some
          (ap (is_wanted deletions reference from to) held.first ∙ f)

      at_last : is_wanted deletions reference from to c.maxt ≡ true
          → list_any is_asked (source c) ≡ true
      at_last f = list_any_at is_asked (source c) (length (source c) - 1) (
        pos 0,
        pos 0,
      ) last_inside (ap (is_wanted deletions reference from to) held.last ∙ f)

      go : (b : Bool) → is_wanted deletions reference from to c.mint ≡ b
          → list_any is_asked (source c) ≡ true
      go true f = at_first f
      go false f = at_last (sym (ap (λ b. b || is_wanted deletions reference from to c.maxt) f) ∙ e)

  pub ends_asked : (source : Source) (chunks : List Chunk) → AreHeldChunks source chunks
      → list_any has_end chunks ≡ true → list_any is_asked (samples_in source chunks) ≡ true
  ends_asked source [] held e = absurd (true_not_false (sym e))
  ends_asked source (c ∷ cs) held e =
      list_any-append is_asked (source c) (samples_in source cs)
      ∙ go (has_end c) refl (ends_asked source cs held.1)
    where
      go : (b : Bool) → has_end c ≡ b
          → (list_any has_end cs ≡ true → list_any is_asked (samples_in source cs) ≡ true)
          → (list_any is_asked (source c) || list_any is_asked (samples_in source cs))
          ≡ true
      go true f ih =
          ap (λ b. b || list_any is_asked (samples_in source cs)) (end_asked source c held.0 f)
      go false f ih =
          or_true (list_any is_asked (source c)) (list_any is_asked
          (samples_in source cs)) (ih (sym (ap (λ b. b || list_any has_end cs) f) ∙ e))
