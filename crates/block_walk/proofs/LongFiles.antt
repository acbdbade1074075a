-- Files that are longer than they may be are walked as their first bytes are.
use Rattle.std.proofs.Common.{◌≡◌, ℕ, suc, ◌+◌, ◌<◌, ◌≤◌, Bool, true, false, cond, eqb, List, [], ◌∷◌, take, length, Err, refl, sym, ap, subst, ◌∙◌, ◌⊎◌, inl, inr, arith}
use Rattle.std.proofs.lemmas.Bool.{cases_lt, le-ltb, lt-ltb}
use Rattle.std.proofs.lemmas.List.{length-take, take_all}
use Rattle.byteorder.specs.Endian.{big_number}
use Rattle.labels.specs.Parts.{Part}
use Rattle.chunk_reader.specs.declared.error.ChunkError.TheVariants as chunk_error
use Rattle.chunk_reader.specs.Reading.{opened}
use Rattle.tombstones.specs.declared.error.TombstoneError.{TombstoneError}
use Rattle.tombstones.specs.declared.error.TombstoneError.TheVariants.{Magic, Version, Shape}
use Rattle.tombstones.specs.Reading.{entries_of, deletions_of}
use Rattle.block_walk.specs.declared.error.WalkError.{WalkError}
use Rattle.block_walk.specs.declared.error.WalkError.TheVariants.{Memory}
use Rattle.block_walk.specs.BlockFiles.Checks.{Files, Check, FirstFailing, checks, IsWalkError}
use Rattle.block_walk.specs.BlockFiles.Spelled.{IsWalked}

still_long : (n : ℕ) (file : List ℕ) → n < length file → n < length (take (n + 1) file)
still_long n file lt = omega (arith, lt, length-take (n + 1) file)

all_short : (n : ℕ) (file : List ℕ) → length file ≤ n → take (n + 1) file ≡ file
all_short n file le = take_all (n + 1) file (omega arith)

was_short : (n : ℕ) (file : List ℕ) → length (take (n + 1) file) ≤ n → take (n + 1) file ≡ file
was_short n file le = all_short n file (omega (arith, le, length-take (n + 1) file))

long_chunks : (file : List ℕ) → 1073741824 < length file → opened file ≡ Err chunk_error.Shape
unfolding opened
long_chunks file lt = rw (lt-ltb 1073741824 (length file) lt) refl

-- the refusal of a long file of deletions, by its first five bytes
head_refusal : (a b c d e : ℕ) → TombstoneError
head_refusal a b c d e =
    cond (eqb (big_number 4 (a ∷ b ∷ c ∷ d ∷ [])) 0x0130_BA30) (cond (eqb e 1) Shape Version) Magic

long_deletions : (a b c d e : ℕ) (rest : List ℕ) → 1073741824 < length (a ∷ b ∷ c ∷ d ∷ e ∷ rest)
    → deletions_of (a ∷ b ∷ c ∷ d ∷ e ∷ rest) ≡ Err (head_refusal a b c d e)
unfolding deletions_of entries_of head_refusal
long_deletions a b c d e rest lt =
    go (eqb (big_number 4 (a ∷ b ∷ c ∷ d ∷ [])) 0x0130_BA30) refl (eqb e 1) refl
  where
    go : (m : Bool) → eqb (big_number 4 (a ∷ b ∷ c ∷ d ∷ [])) 0x0130_BA30 ≡ m → (v : Bool)
        → eqb e 1 ≡ v → deletions_of (a ∷ b ∷ c ∷ d ∷ e ∷ rest) ≡ Err (head_refusal a b c d e)
    go true m true v = rw (
      le-ltb (length (a ∷ b ∷ c ∷ d ∷ e ∷ rest)) 4 (omega arith),
      m,
      v,
      lt-ltb 1073741824 (length (a ∷ b ∷ c ∷ d ∷ e ∷ rest)) lt,
    ) refl
    go true m false v = rw (le-ltb (length (a ∷ b ∷ c ∷ d ∷ e ∷ rest)) 4 (omega arith), m, v) refl
    go false m v h = rw (le-ltb (length (a ∷ b ∷ c ∷ d ∷ e ∷ rest)) 4 (omega arith), m) refl

five_first : (n m a b c d e : ℕ) (rest : List ℕ) → n + 1 ≡ suc (suc (suc (suc (suc m))))
    → take (n + 1) (a ∷ b ∷ c ∷ d ∷ e ∷ rest) ≡ a ∷ b ∷ c ∷ d ∷ e ∷ take m rest
five_first n m a b c d e rest is = ap (λ (k : ℕ). take k (a ∷ b ∷ c ∷ d ∷ e ∷ rest)) is

deletions_alike : (file : List ℕ) → 1073741824 < length file
    → deletions_of (take (1073741824 + 1) file) ≡ deletions_of file
deletions_alike [] lt = absurd (omega arith)
deletions_alike (a ∷ []) lt = absurd (omega arith)
deletions_alike (a ∷ b ∷ []) lt = absurd (omega arith)
deletions_alike (a ∷ b ∷ c ∷ []) lt = absurd (omega arith)
deletions_alike (a ∷ b ∷ c ∷ d ∷ []) lt = absurd (omega arith)
deletions_alike (a ∷ b ∷ c ∷ d ∷ e ∷ rest) lt =
    let front = five_first 1073741824 1073741820 a b c d e rest (omega arith) in
    let size : 1073741824 < length (a ∷ b ∷ c ∷ d ∷ e ∷ take 1073741820 rest) =
    omega (arith, lt, length-take 1073741820 rest) in
    ap deletions_of front
    ∙ long_deletions a b c d e (take 1073741820 rest) size
    ∙ sym (long_deletions a b c d e rest lt)

-- ---- the first check that fails

-- files of a block
abbrev of_files : List ℕ → List ℕ → List ℕ → Files
of_files index chunks tombstones = record {
  index = index;
  chunks = chunks;
  tombstones = tombstones;
}

-- the first check is passed or answered alike, and then the others are
next : {F P Q R : Type 0} → (Q → R) → F ⊎ (P × Q) → F ⊎ (P × R)
next h (inl a) = inl a
next h (inr a) = inr (a.0, h a.1)

-- the checks of deletions
abbrev last : List Check
last = Check.deletions ∷ Check.known_series ∷ []

-- the checks of chunks, and then those of deletions
abbrev later : List Check
later = Check.chunks_head ∷ Check.each_chunk ∷ Check.sample_counts ∷ last

-- the checks of an index look at no other file
past_index : (index c d t u : List ℕ) (e : WalkError)
    → (FirstFailing later (of_files index c t) e → FirstFailing later (of_files index d u) e)
    → FirstFailing checks (of_files index c t) e → FirstFailing checks (of_files index d u) e
past_index index c d t u e h x =
    next (next (next (next (next (next (next (next (next (next (next (next h))))))))))) x

long_index : (index chunks tombstones : List ℕ) (e : WalkError) → 1073741824 < length index
    → FirstFailing checks (of_files (take (1073741824 + 1) index) chunks tombstones) e
    → FirstFailing checks (of_files index chunks tombstones) e
long_index index chunks tombstones e lt (inl a) =
    inl (λ (short : length index ≤ 1073741824). omega (arith, short, lt), a.1)
long_index index chunks tombstones e lt (inr a) =
    let short : length (take (1073741824 + 1) index) ≤ 1073741824 = a.0 in
    absurd (omega (arith, short, still_long 1073741824 index lt))

first_index : (index chunks tombstones : List ℕ) (e : WalkError)
    → FirstFailing checks (of_files (take (1073741824 + 1) index) chunks tombstones) e
    → FirstFailing checks (of_files index chunks tombstones) e
first_index index chunks tombstones e x =
    elim (cases_lt 1073741824 (length index)) [
      | inl lt ↦ long_index index chunks tombstones e lt x
      | inr le ↦
          subst (λ (file : List ℕ). FirstFailing checks (of_files file chunks tombstones) e)
          (all_short 1073741824 index le) x
    ]

long_segment : (index chunks tombstones : List ℕ) (e : WalkError) → 1073741824 < length chunks
    → FirstFailing later (of_files index (take (1073741824 + 1) chunks) tombstones) e
    → FirstFailing later (of_files index chunks tombstones) e
long_segment index chunks tombstones e lt (inl a) =
    let front = long_chunks (take (1073741824 + 1) chunks) (still_long 1073741824 chunks lt) in
    inl (
      λ segment. let short : length chunks ≤ 1073741824 = segment.short in
          omega (arith, short, lt),
      (a.1.0, long_chunks chunks lt ∙ sym front ∙ a.1.1, a.1.2),
    )
long_segment index chunks tombstones e lt (inr a) =
    let short : length (take (1073741824 + 1) chunks) ≤ 1073741824 = a.0.short in
    absurd (omega (arith, short, still_long 1073741824 chunks lt))

first_chunks : (index chunks tombstones : List ℕ) (e : WalkError)
    → FirstFailing checks (of_files index (take (1073741824 + 1) chunks) tombstones) e
    → FirstFailing checks (of_files index chunks tombstones) e
first_chunks index chunks tombstones e x =
    elim (cases_lt 1073741824 (length chunks)) [
      | inl lt ↦
          past_index index (take (1073741824 + 1) chunks) chunks tombstones tombstones e
          (long_segment index chunks tombstones e lt) x
      | inr le ↦
          subst (λ (file : List ℕ). FirstFailing checks (of_files index file tombstones) e)
          (all_short 1073741824 chunks le) x
    ]

long_last : (index chunks tombstones : List ℕ) (e : WalkError) → 1073741824 < length tombstones
    → FirstFailing last (of_files index chunks (take (1073741824 + 1) tombstones)) e
    → FirstFailing last (of_files index chunks tombstones) e
long_last index chunks tombstones e lt (inl a) = inl (
  λ o. let short : length tombstones ≤ 1073741824 = o.1.short in omega (arith, short, lt),
  (a.1.0, sym (deletions_alike tombstones lt) ∙ a.1.1, a.1.2),
)
long_last index chunks tombstones e lt (inr a) =
    let short : length (take (1073741824 + 1) tombstones) ≤ 1073741824 = a.0.1.short in
    absurd (omega (arith, short, still_long 1073741824 tombstones lt))

first_tombstones : (index chunks tombstones : List ℕ) (e : WalkError)
    → FirstFailing checks (of_files index chunks (take (1073741824 + 1) tombstones)) e
    → FirstFailing checks (of_files index chunks tombstones) e
first_tombstones index chunks tombstones e x =
    elim (cases_lt 1073741824 (length tombstones)) [
      | inl lt ↦
          past_index index chunks chunks (take (1073741824 + 1) tombstones) tombstones e
          (next (next (next (long_last index chunks tombstones e lt)))) x
      | inr le ↦
          subst (λ (file : List ℕ). FirstFailing checks (of_files index chunks file) e)
          (all_short 1073741824 tombstones le) x
    ]

-- ---- the files of a block, and the first bytes of each, one more than it may have

abbrev pub first_of : Files → Files
first_of f =
    of_files (take (1073741824 + 1) f.index) (take (1073741824 + 1) f.chunks)
    (take (1073741824 + 1) f.tombstones)

all_first : (f : Files) (e : WalkError) → FirstFailing checks (first_of f) e
    → FirstFailing checks f e
all_first f e x =
    first_tombstones f.index f.chunks f.tombstones e
    (first_chunks f.index f.chunks (take (1073741824 + 1) f.tombstones) e
    (first_index f.index (take (1073741824 + 1) f.chunks) (take (1073741824 + 1) f.tombstones) e x))

-- files are refused as their first bytes are
pub refused_of_first : (f : Files) (e : WalkError) → IsWalkError (first_of f) e → IsWalkError f e
refused_of_first f Memory h = tt
refused_of_first f e h = all_first f e h

-- files that spell a part are no longer than they may be
pub walked_of_first : (f : Files) (part : Part)
    → IsWalked (take (1073741824 + 1) f.index) (take (1073741824 + 1) f.chunks)
    (take (1073741824 + 1) f.tombstones) part → IsWalked f.index f.chunks f.tombstones part
walked_of_first f part w =
    let i = was_short 1073741824 f.index w.indexed.layout.placed.short in
    let c = was_short 1073741824 f.chunks w.segment.short in
    let t = was_short 1073741824 f.tombstones w.deleted.short in
    subst (λ (x : List ℕ). IsWalked f.index f.chunks x part) t
    (subst (λ (x : List ℕ). IsWalked f.index x (take (1073741824 + 1) f.tombstones) part) c
    (subst (λ (x : List ℕ). IsWalked x (take (1073741824 + 1) f.chunks)
    (take (1073741824 + 1) f.tombstones) part) i w))
