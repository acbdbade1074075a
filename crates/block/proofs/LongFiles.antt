-- Files that are longer than they may be are read as their first bytes are.
use Rattle.std.proofs.Common.{◌≡◌, ℕ, suc, ◌+◌, ◌<◌, ◌≤◌, ℤ, Bool, true, false, cond, eqb, List, []}
use Rattle.std.proofs.Common.{◌∷◌, take, length, None, Err, refl, sym, ap, subst, ◌∙◌, inl, inr}
use Rattle.std.proofs.Common.{arith}
use Rattle.std.proofs.lemmas.Bool.{cases_lt, le-ltb, lt-ltb}
use Rattle.std.proofs.lemmas.List.{length-take, take_all}
use Rattle.byteorder.specs.Endian.{big_number}
use Rattle.labels.specs.Parts.{Part}
use Rattle.index_reader.specs.declared.error.IndexError.TheVariants as index_error
use Rattle.index_reader.specs.Reading.Whole.{layout_of, read_of, indexed_of}
use Rattle.index_reader.specs.Reading.Head.{head_of}
use Rattle.chunk_reader.specs.declared.error.ChunkError.TheVariants as chunk_error
use Rattle.chunk_reader.specs.Reading.{opened}
use Rattle.tombstones.specs.declared.error.TombstoneError.{TombstoneError}
use Rattle.tombstones.specs.declared.error.TombstoneError.TheVariants.{Magic, Version, Shape}
use Rattle.tombstones.specs.Reading.{entries_of, deletions_of}
use Rattle.block.specs.Grammar.{IsBlock}
use Rattle.block.specs.Metas.{range_said}
use Rattle.block.specs.Opening.{deleted_of, block_of}

still_long : (n : ℕ) (file : List ℕ) → n < length file → n < length (take (n + 1) file)
still_long n file lt = omega (arith, lt, length-take (n + 1) file)

all_short : (n : ℕ) (file : List ℕ) → length file ≤ n → take (n + 1) file ≡ file
all_short n file le = take_all (n + 1) file (omega arith)

was_short : (n : ℕ) (file : List ℕ) → length (take (n + 1) file) ≤ n → take (n + 1) file ≡ file
was_short n file le = all_short n file (omega (arith, le, length-take (n + 1) file))

-- what reads short files one way and all long ones another reads the first bytes as the whole
alike : {A : Type 0} (n : ℕ) (read : List ℕ → A) (refusal : A)
    → ((file : List ℕ) → n < length file → read file ≡ refusal) → (file : List ℕ)
    → read (take (n + 1) file) ≡ read file
alike n read refusal long file =
    elim (cases_lt n (length file)) [
      | inl lt ↦ long (take (n + 1) file) (still_long n file lt) ∙ sym (long file lt)
      | inr le ↦ ap read (all_short n file le)
    ]

long_meta : (file : List ℕ) → 1048576 < length file → range_said file ≡ None
long_meta file lt = rw (lt-ltb 1048576 (length file) lt) refl

long_index : (file : List ℕ) → 1073741824 < length file → indexed_of file ≡ Err index_error.Limit
unfolding indexed_of read_of layout_of head_of
long_index file lt = rw (lt-ltb 1073741824 (length file) lt) refl

long_chunks : (file : List ℕ) → 1073741824 < length file → opened file ≡ Err chunk_error.Shape
unfolding opened
long_chunks file lt = rw (lt-ltb 1073741824 (length file) lt) refl

-- the refusal of a long file of deletions, by its first five bytes
head_refusal : (a b c d e : ℕ) → TombstoneError
head_refusal a b c d e =
    cond (eqb (big_number 4 (a ∷ b ∷ c ∷ d ∷ [])) 0x0130_BA30) (cond (eqb e 1) Shape Version) Magic

long_deletions : (a b c d e : ℕ) (rest : List ℕ) → 1073741824 < length (a ∷ b ∷ c ∷ d ∷ e ∷ rest)
    → deletions_of (a ∷ b ∷ c ∷ d ∷ e ∷ rest) ≡ Err (head_refusal a b c d e)
unfolding deletions_of entries_of head_refusal
long_deletions a b c d e rest lt =
    go (eqb (big_number 4 (a ∷ b ∷ c ∷ d ∷ [])) 0x0130_BA30) refl (eqb e 1) refl
  where
    go : (m : Bool) → eqb (big_number 4 (a ∷ b ∷ c ∷ d ∷ [])) 0x0130_BA30 ≡ m → (v : Bool)
        → eqb e 1 ≡ v → deletions_of (a ∷ b ∷ c ∷ d ∷ e ∷ rest) ≡ Err (head_refusal a b c d e)
    go true m true v = rw (
      le-ltb (length (a ∷ b ∷ c ∷ d ∷ e ∷ rest)) 4 (omega arith),
      m,
      v,
      lt-ltb 1073741824 (length (a ∷ b ∷ c ∷ d ∷ e ∷ rest)) lt,
    ) refl
    go true m false v = rw (le-ltb (length (a ∷ b ∷ c ∷ d ∷ e ∷ rest)) 4 (omega arith), m, v) refl
    go false m v h = rw (le-ltb (length (a ∷ b ∷ c ∷ d ∷ e ∷ rest)) 4 (omega arith), m) refl

five_first : (n m a b c d e : ℕ) (rest : List ℕ) → n + 1 ≡ suc (suc (suc (suc (suc m))))
    → take (n + 1) (a ∷ b ∷ c ∷ d ∷ e ∷ rest) ≡ a ∷ b ∷ c ∷ d ∷ e ∷ take m rest
five_first n m a b c d e rest is = ap (λ (k : ℕ). take k (a ∷ b ∷ c ∷ d ∷ e ∷ rest)) is

deletions_alike : (file : List ℕ) → deletions_of (take (1073741824 + 1) file) ≡ deletions_of file
deletions_alike file =
    elim (cases_lt 1073741824 (length file)) [
      | inl lt ↦ long file lt
      | inr le ↦ ap deletions_of (all_short 1073741824 file le)
    ]
  where
    long : (file : List ℕ) → 1073741824 < length file
        → deletions_of (take (1073741824 + 1) file) ≡ deletions_of file
    long [] lt = absurd (omega arith)
    long (a ∷ []) lt = absurd (omega arith)
    long (a ∷ b ∷ []) lt = absurd (omega arith)
    long (a ∷ b ∷ c ∷ []) lt = absurd (omega arith)
    long (a ∷ b ∷ c ∷ d ∷ []) lt = absurd (omega arith)
    long (a ∷ b ∷ c ∷ d ∷ e ∷ rest) lt =
        let front = five_first 1073741824 1073741820 a b c d e rest (omega arith) in
        let size : 1073741824 < length (a ∷ b ∷ c ∷ d ∷ e ∷ take 1073741820 rest) =
        omega (arith, lt, length-take 1073741820 rest) in
        ap deletions_of front
        ∙ long_deletions a b c d e (take 1073741820 rest) size
        ∙ sym (long_deletions a b c d e rest lt)

-- ---- the files of a block, and the first bytes of each, one more than it may have

pub meta_first : (file : List ℕ) → range_said (take (1048576 + 1) file) ≡ range_said file
meta_first file = alike 1048576 range_said None long_meta file

pub block_first : (range : ℤ × ℤ) (index chunks tombstones : List ℕ)
    → block_of range (take (1073741824 + 1) index) (take (1073741824 + 1) chunks)
    (take (1073741824 + 1) tombstones) ≡ block_of range index chunks tombstones
unfolding block_of deleted_of
block_first range index chunks tombstones = rw (
  alike 1073741824 indexed_of (Err index_error.Limit) long_index index,
  alike 1073741824 opened (Err chunk_error.Shape) long_chunks chunks,
  deletions_alike tombstones,
) refl

abbrev IsBlockOf : ℤ × ℤ → Part → List ℕ → List ℕ → List ℕ → Type 0
IsBlockOf range part index chunks tombstones = IsBlock range index chunks tombstones part

-- files that spell a block are no longer than they may be
pub spelled_of_first : (range : ℤ × ℤ) (index chunks tombstones : List ℕ) (part : Part)
    → IsBlock range (take (1073741824 + 1) index) (take (1073741824 + 1) chunks)
    (take (1073741824 + 1) tombstones) part → IsBlock range index chunks tombstones part
spelled_of_first range index chunks tombstones part b =
    let i = was_short 1073741824 index b.indexed.layout.placed.short in
    let c = was_short 1073741824 chunks b.segment.short in
    let t = was_short 1073741824 tombstones b.deleted.short in
    subst (IsBlockOf range part index chunks) t
    (subst (λ (x : List ℕ). IsBlockOf range part index x (take (1073741824 + 1) tombstones)) c
    (subst (λ (x : List ℕ). IsBlockOf range part x (take (1073741824 + 1) chunks)
    (take (1073741824 + 1) tombstones)) i b))

pub spelled_first : (range : ℤ × ℤ) (index chunks tombstones : List ℕ) (part : Part)
    → IsBlock range index chunks tombstones part → IsBlock range (take (1073741824 + 1) index)
    (take (1073741824 + 1) chunks) (take (1073741824 + 1) tombstones) part
spelled_first range index chunks tombstones part b =
    let i = sym (all_short 1073741824 index b.indexed.layout.placed.short) in
    let c = sym (all_short 1073741824 chunks b.segment.short) in
    let t = sym (all_short 1073741824 tombstones b.deleted.short) in
    subst (IsBlockOf range part (take (1073741824 + 1) index) (take (1073741824 + 1) chunks)) t
    (subst (λ (x : List ℕ). IsBlockOf range part (take (1073741824 + 1) index) x tombstones) c
    (subst (λ (x : List ℕ). IsBlockOf range part x chunks tombstones) i b))
