-- A body that is spelled so is read.
use Rattle.std.proofs.Common.{◌≡◌, ℕ, suc, ◌+◌, ◌-◌, ◌^◌, ◌<◌, ◌≤◌, true, false, eqb, List, [], ◌∷◌, ◌++◌, length, get_or, Ok, refl, sym, ap, ◌∙◌, append_assoc, arith}
use Rattle.std.specs.List.{flat_map, AllByRecursion}
use Rattle.std.proofs.lemmas.Bool.{lt-ltb, le-leb, eqb-true, false_from_ne_true}
use Rattle.std.proofs.lemmas.List.{append-nil, length-append}
use Rattle.std.proofs.lemmas.List.Concat.{flat_map-cons}
use Rattle.wire.specs.Spelling.{uvarint, varint}
use Rattle.wire.proofs.Laws.{uvarint_again, uvarint_long}
use Rattle.block_walk.specs.declared.chunk.Chunk.{Chunk}
use Rattle.block_walk.specs.IndexFile.Layout.{SeriesEntry, Label, Body}
use Rattle.block_walk.specs.IndexFile.Steps.{steps}
use Rattle.block_walk.specs.IndexFile.Each.{each}
use Rattle.block_walk.specs.IndexFile.Bodies.{is_label, label_at, labels_at, chunk_at, chunks_at, body_at}
use Rattle.block_walk.specs.IndexFile.Flat.{body_of_entry}
use Rattle.block_walk.specs.IndexFile.Labelled.{IsLabel, AreLabels}
use Rattle.block_walk.specs.IndexFile.Spelled.{label_text, AreLater, AreChunks, IsBody, AreBodies}
use Rattle.block_walk.proofs.IndexFile.ChunkAgain.{first_again, later_again}

is_true : (symbols : List (List ℕ)) (low : ℕ) (l : Label) → IsLabel symbols low l
    → is_label symbols low l.0 l.1 ≡ true
unfolding is_label
is_true symbols low l o = rw (
  le-leb low l.0 o.from,
  lt-ltb l.0 (length symbols) o.name_in,
  lt-ltb l.1 (length symbols) o.value_in,
  o.name,
  lt-ltb 0 (length (get_or symbols l.1 [])) o.value,
) refl

label_again : (symbols : List (List ℕ)) (low : ℕ) (l : Label) (rest : List ℕ)
    → length symbols < 2 ^ 32 → IsLabel symbols low l
    → label_at symbols (low, label_text l ++ rest) ≡ Ok (l, (l.0 + 1, rest))
unfolding label_at
label_again symbols low l rest few o =
    let grouped : label_text l ++ rest ≡ uvarint l.0 ++ (uvarint l.1 ++ rest) =
    append_assoc (uvarint l.0) (uvarint l.1) rest in
    ap (λ (b : List ℕ). label_at symbols (low, b)) grouped
    ∙ rw (
      uvarint_again l.0 (uvarint l.1 ++ rest) (omega (arith, o.name_in, few)),
      uvarint_again l.1 rest (omega (arith, o.value_in, few)),
      is_true symbols low l o,
    ) refl

labels_again : (symbols : List (List ℕ)) (low : ℕ) (ls : List Label) (rest : List ℕ)
    → length symbols < 2 ^ 32 → AreLabels symbols low ls
    → (end : ℕ) × (steps (label_at symbols) (length ls) (
      low,
      flat_map label_text ls ++ rest,
    ) ≡ Ok (ls, (end, rest)))
unfolding steps
labels_again symbols low [] rest few h = (low, refl)
labels_again symbols low (l ∷ ls) rest few h =
    let more = labels_again symbols (l.0 + 1) ls rest few h.1 in
    let grouped : flat_map label_text (l ∷ ls) ++ rest
    ≡ label_text l ++ (flat_map label_text ls ++ rest) =
    ap (λ (x : List ℕ). x ++ rest) (flat_map-cons label_text l ls)
    ∙ append_assoc (label_text l) (flat_map label_text ls) rest in (
      more.0,
      ap (λ (b : List ℕ). steps (label_at symbols) (suc (length ls)) (low, b)) grouped
          ∙ rw (label_again symbols low l (flat_map label_text ls ++ rest) few h.0, more.1) refl,
    )

labels_long : (ls : List Label) → length ls ≤ length (flat_map label_text ls)
labels_long [] = omega arith
labels_long (l ∷ ls) =
    let e = ap (λ (x : List ℕ). length x) (flat_map-cons label_text l ls) in
    omega (
      arith,
      labels_long ls,
      e,
      length-append (label_text l) (flat_map label_text ls),
      length-append (uvarint l.0) (uvarint l.1),
      uvarint_long l.0,
    )

all_labels_again : (symbols : List (List ℕ)) (ls : List Label) (rest : List ℕ)
    → length symbols < 2 ^ 32 → length ls < 2 ^ 64 → AreLabels symbols 0 ls
    → (end : ℕ) × (labels_at symbols ((uvarint (length ls) ++ flat_map label_text ls) ++ rest)
    ≡ Ok (ls, (end, rest)))
unfolding labels_at
all_labels_again symbols ls rest few small h =
    let more = labels_again symbols 0 ls rest few h in
    let grouped : (uvarint (length ls) ++ flat_map label_text ls) ++ rest
    ≡ uvarint (length ls) ++ (flat_map label_text ls ++ rest) =
    append_assoc (uvarint (length ls)) (flat_map label_text ls) rest in (
      more.0,
      ap (labels_at symbols) grouped
          ∙ rw (uvarint_again (length ls) (flat_map label_text ls ++ rest) small, more.1) refl,
    )

later_all_again : (before : Chunk) (cs : List Chunk) (text rest : List ℕ) → AreLater before cs text
    → (last : Chunk) × (steps chunk_at (length cs) (before, text ++ rest) ≡ Ok (cs, (last, rest)))
unfolding steps chunk_at
later_all_again before [] text rest h = (before, rw h refl)
later_all_again before (c ∷ cs) text rest h =
    let more = later_all_again c cs h.1 rest h.4 in
    let grouped : text ++ rest ≡ h.0 ++ (h.1 ++ rest) =
    ap (λ (x : List ℕ). x ++ rest) h.2 ∙ append_assoc h.0 h.1 rest in (
      more.0,
      ap (λ (b : List ℕ). steps chunk_at (suc (length cs)) (before, b)) grouped
          ∙ rw (later_again before c h.0 (h.1 ++ rest) h.3, more.1) refl,
    )

later_long : (before : Chunk) (cs : List Chunk) (text : List ℕ) → AreLater before cs text
    → length cs ≤ length text
later_long before [] text h = omega arith
later_long before (c ∷ cs) text h =
    let l = h.3 in
    let a = ap (λ (x : List ℕ). length x) h.2 in
    let b = ap (λ (x : List ℕ). length x) l.spelled in
    omega (
      arith,
      later_long c cs h.1 h.4,
      a,
      b,
      length-append h.0 h.1,
      length-append (uvarint l.gap) (uvarint l.span ++ varint l.step),
      uvarint_long l.gap,
    )

chunks_again : (cs : List Chunk) (text : List ℕ) → length text < 2 ^ 32 → AreChunks cs text
    → (last : Chunk) × (chunks_at text ≡ Ok (cs, (last, [])))
unfolding chunks_at
chunks_again [] text small h = absurd h
chunks_again (c ∷ cs) text small h =
    let more = later_all_again c cs h.1 [] h.4 in
    let a = ap (λ (x : List ℕ). length x) h.2 in
    let count : length cs + 1 < 2 ^ 64 = omega (
      arith,
      small,
      a,
      later_long c cs h.1 h.4,
      length-append (uvarint (length cs + 1)) (h.0 ++ h.1),
      length-append h.0 h.1,
    ) in
    let some : eqb (length cs + 1) 0 ≡ false = not_zero (length cs) in
    let less : length cs + 1 - 1 ≡ length cs = omega arith in
    let ended : steps chunk_at (length cs) (c, h.1) ≡ Ok (cs, (more.0, [])) =
    ap (λ (x : List ℕ). steps chunk_at (length cs) (c, x)) (sym (append-nil h.1)) ∙ more.1 in (
      more.0,
      ap chunks_at h.2
          ∙ rw (
            uvarint_again (length cs + 1) (h.0 ++ h.1) count,
            some,
            first_again c h.0 h.1 h.3,
            less,
            ended,
          ) refl,
    )
  where
    not_zero : (n : ℕ) → eqb (n + 1) 0 ≡ false
    not_zero n =
        false_from_ne_true (eqb (n + 1) 0) (λ (h : eqb (n + 1) 0 ≡ true).
        absurd (omega (arith, eqb-true (n + 1) 0 h)))

body_again : (symbols : List (List ℕ)) (b : Body) (text : List ℕ) → length symbols < 2 ^ 32
    → length text < 2 ^ 32 → IsBody symbols b text → body_at symbols text ≡ Ok b
unfolding body_at
body_again symbols b text few small h =
    let a = ap (λ (x : List ℕ). length x) h.spelled in
    let n =
    length-append (uvarint (length b.labels) ++ flat_map label_text b.labels) h.chunks_text in
    let count : length b.labels < 2 ^ 64 = omega (
      arith,
      small,
      a,
      n,
      length-append (uvarint (length b.labels)) (flat_map label_text b.labels),
      labels_long b.labels,
    ) in
    let ls = all_labels_again symbols b.labels h.chunks_text few count h.labels in
    let cs = chunks_again b.chunks h.chunks_text (omega (arith, small, a, n)) h.chunks in
    ap (body_at symbols) h.spelled ∙ rw (ls.1, cs.1) refl

pub bodies_again : (symbols : List (List ℕ)) (ps : List SeriesEntry) (bs : List Body)
    → length symbols < 2 ^ 32 → AllByRecursion (λ p. length p.body < 2 ^ 32) ps
    → AreBodies symbols ps bs → each (body_of_entry symbols) ps ≡ Ok bs
unfolding each
bodies_again symbols [] [] few small h = refl
bodies_again symbols [] (b ∷ bs) few small h = absurd h
bodies_again symbols (p ∷ ps) [] few small h = absurd h
bodies_again symbols (p ∷ ps) (b ∷ bs) few small h =
    let one = body_again symbols b p.body few small.0 h.0 in
    let more = bodies_again symbols ps bs few small.1 h.1 in
    rw (one, more) refl
