-- What was packed of a file is what a block shows of it.
use Rattle.std.proofs.Common.{◌≡◌, ℕ, zero, suc, ◌+◌, ◌<◌, ◌≤◌, ◌^◌, ℤ, Bool, true, false, cond, ◌&&◌, List, []}
use Rattle.std.proofs.Common.{◌∷◌, ◌++◌, length, get_or, take, map, Some, refl, sym, ap, subst, ◌∙◌}
use Rattle.std.proofs.Common.{◌-◌, Result, Ok, Err, IfOk, append_assoc, eqb, inl, inr, arith}
use Rattle.std.specs.Prelude.{slice_get}
use Rattle.std.specs.Option.{option_map}
use Rattle.std.specs.List.{AllByRecursion, Contains}
use Rattle.std.specs.Ordering.{int_eq}
use Rattle.std.proofs.lemmas.Bool.{eq-eqb, eqb-true, cases_lt}
use Rattle.std.proofs.lemmas.Grind.{flat_map-append}
use Rattle.std.proofs.lemmas.List.{length-append, length-map, get_or_append_left, append-nil, take_all}
use Rattle.std.proofs.lemmas.List.{get_or-append-add, get_or-map, map-append, map_more}
use Rattle.std.proofs.lemmas.List.{take-append-le}
use Rattle.std.proofs.lemmas.List.Concat.{get_or-flat_map}
use Rattle.std.proofs.lemmas.List.Folds.{length-flat_map-take}
use Rattle.std.proofs.lemmas.Option.{slice_get-map, slice_get-get_or, slice_get_within}
use Rattle.std.proofs.lemmas.Option.{get_or_from_slice_get}
use Rattle.std.proofs.Math.Seq.{get_or-append_seam, take-append-add}
use Rattle.labels.proofs.Lists.{here, there, Contains-cases, none_in_nil}
use Rattle.labels.proofs.Times.{true_not_false}
use Rattle.chunk_reader.proofs.Spans.{int_eq-true, int_eq_same}
use Rattle.index_reader.specs.declared.chunk.Chunk.{Chunk}
use Rattle.index_reader.specs.Indexes.{Series, Indexed, chunk_lists}
use Rattle.tombstones.specs.declared.deletion.Deletion.{Deletion}
use Rattle.block.specs.declared.packing.Packed.{Packed}
use Rattle.block.specs.Blocks.{part_of_series}
use Rattle.block.specs.Packing.{flat, all_chunks, is_same_chunk, samples_beside, source_of}
use Rattle.block.specs.Packing.{ArePackedFrom, AreStarts, IsPackOf, IsOpened}
use Rattle.block.specs.Samples.{Source, samples_in, undeleted}
use Rattle.block.specs.Sound.{AreSamplesOf, IsHeldChunk, IsStored, IsSoundBlock}
use Rattle.block.proofs.Parts.{and_true}
use Rattle.block.proofs.Refusals.{facts_of_lists}
use Rattle.block.proofs.Sourcing.{nowhere}
use Rattle.block.proofs.Steps.{take_next}

-- the same chunk

same_chunk : (a b : Chunk) → is_same_chunk a b ≡ true → a ≡ b
same_chunk a b h =
    let p = and_true (eqb a.reference b.reference) _ h in
    let q = and_true (int_eq a.mint b.mint) (int_eq a.maxt b.maxt) p.1 in
    let reference = eqb-true a.reference b.reference p.0 in
    let mint = int_eq-true a.mint b.mint q.0 in
    let maxt = int_eq-true a.maxt b.maxt q.1 in
    λ i. record { mint = mint i; maxt = maxt i; reference = reference i }

itself : (c : Chunk) → is_same_chunk c c ≡ true
itself c =
    ap (λ b. b && (int_eq c.mint c.mint && int_eq c.maxt c.maxt))
    (eq-eqb c.reference c.reference refl)
    ∙ ap (λ b. b && int_eq c.maxt c.maxt) (int_eq_same c.mint c.mint refl)
    ∙ int_eq_same c.maxt c.maxt refl

beside : (f : Source) (xs : List Chunk) (c : Chunk) → Contains xs c
    → samples_beside xs (map f xs) c ≡ f c
beside f [] c h = absurd (none_in_nil c h)
beside f (x ∷ xs) c h = go (is_same_chunk x c) refl (λ rest. beside f xs c rest)
  where
    go : (b : Bool) → is_same_chunk x c ≡ b
        → (Contains xs c → samples_beside xs (map f xs) c ≡ f c)
        → cond b (f x) (samples_beside xs (map f xs) c) ≡ f c
    go true e ih = ap f (same_chunk x c e)
    go false e ih =
        elim (Contains-cases x xs c h) [
          | inl same ↦
              absurd (true_not_false (sym (subst (λ (y : Chunk). is_same_chunk x y ≡ true) same
              (itself x)) ∙ e))
          | inr rest ↦ ih rest
        ]

all_by : {X : Type 0} (P : X → Type 0) (xs : List X) → ((x : X) → Contains xs x → P x)
    → AllByRecursion P xs
all_by P [] h = tt
all_by P (x ∷ xs) h = (h x (here x xs), all_by P xs (λ y c. h y (there x y xs c)))

split : {X : Type 0} (P : X → Type 0) (xs ys : List X) → AllByRecursion P (xs ++ ys)
    → AllByRecursion P xs × AllByRecursion P ys
split P [] ys a = (tt, a)
split P (x ∷ xs) ys a = let rest = split P xs ys a.1 in ((a.0, rest.0), rest.1)

each_list : (P : Chunk → Type 0) (lists : List (List Chunk)) → AllByRecursion P (flat lists)
    → AllByRecursion (AllByRecursion P) lists
each_list P [] a = tt
each_list P (cs ∷ lists) a =
    let both = split P cs (flat lists) a in (both.0, each_list P lists both.1)

pub list_at : (P : List Chunk → Type 0) (lists : List (List Chunk)) (i : ℕ) (cs : List Chunk)
    → AllByRecursion P lists → slice_get lists i ≡ Some cs → P cs
list_at P [] i cs all h = absurd cc
list_at P (x ∷ xs) zero cs all h = let same : x ≡ cs = cc in subst P same all.0
list_at P (x ∷ xs) (suc i) cs all h = list_at P xs i cs all.1 h

-- two sources that agree on the chunks of some series

module _ (g f : Source) where
  abbrev Agree : List Chunk → Type 0
  Agree cs = AllByRecursion (λ (c : Chunk). g c ≡ f c) cs

  same_map : (cs : List Chunk) → Agree cs → map g cs ≡ map f cs
  same_map [] a = refl
  same_map (c ∷ cs) a = λ i. a.0 i ∷ same_map cs a.1 i

  same_samples : (cs : List Chunk) → Agree cs → samples_in g cs ≡ samples_in f cs
  same_samples [] a = refl
  same_samples (c ∷ cs) a = λ i. a.0 i ++ same_samples cs a.1 i

  same_part : (deletions : List Deletion) (ss : List Series)
      → AllByRecursion (λ (s : Series). Agree s.chunks) ss
      → part_of_series g deletions ss ≡ part_of_series f deletions ss
  same_part deletions [] a = refl
  same_part deletions (s ∷ ss) a = λ i.
      (s.reference, (s.labels, undeleted deletions s.reference (same_samples s.chunks a.0 i)))
      ∷ same_part deletions ss a.1 i

  same_held : (cs : List Chunk) → Agree cs → AllByRecursion (IsHeldChunk f) cs
      → AllByRecursion (IsHeldChunk g) cs
  same_held [] a h = tt
  same_held (c ∷ cs) a h = (subst (AreSamplesOf c) (sym a.0) h.0, same_held cs a.1 h.1)

  same_stored : (range : ℤ × ℤ) (ss : List Series)
      → AllByRecursion (λ (s : Series). Agree s.chunks) ss
      → AllByRecursion (IsStored range f) ss → AllByRecursion (IsStored range g) ss
  same_stored range [] a h = tt
  same_stored range (s ∷ ss) a h = (
    record {
      held = same_held s.chunks a.0 h.0.held;
      in_turn = h.0.in_turn;
      few =
          subst (λ (samples : List (ℤ × ℤ)). length samples ≤ 1048576)
          (sym (same_samples s.chunks a.0)) h.0.few;
      inside = h.0.inside;
    },
    same_stored range ss a.1 h.1,
  )

-- the chunks of a list, among those of all

flat_at : (lists : List (List Chunk)) (i k : ℕ) (cs : List Chunk) → slice_get lists i ≡ Some cs
    → k < length cs
    → slice_get (flat lists) (length (flat (take i lists)) + k) ≡ slice_get cs k
flat_at lists i k cs h lt =
    let within = slice_get_within lists i cs h in
    let same : get_or lists i [] ≡ cs = get_or_from_slice_get lists i cs [] h in
    let size : length (get_or lists i []) ≡ length cs = ap length same in
    let all = length-flat_map-take (λ (xs : List Chunk). xs) lists i [] within in
    let inside : length (flat (take i lists)) + k < length (flat lists) =
    omega (arith, all, size, lt) in
    slice_get-get_or (flat lists) (length (flat (take i lists)) + k) nowhere inside
    ∙ ap (λ (c : Chunk). Some c) (get_or-flat_map (λ (xs : List Chunk). xs) lists i k [] nowhere
    within (omega (arith, lt, size)))
    ∙ ap (λ (xs : List Chunk). Some (get_or xs k nowhere)) same
    ∙ sym (slice_get-get_or cs k nowhere lt)

-- what was packed of the chunks of an index

module _ (f : Source) (x : Indexed) (starts : List ℕ) (packed : List (List (ℤ × ℤ)))
    (pack : IsPackOf f (chunk_lists x.series) starts packed) where
  agree : AllByRecursion (Agree (source_of x packed) f) (chunk_lists x.series)
  unfolding source_of
  agree =
      each_list (λ (c : Chunk). source_of x packed c ≡ f c) (chunk_lists x.series)
      (all_by (λ (c : Chunk). source_of x packed c ≡ f c) (all_chunks x) (λ c held.
      ap (λ (lists : List (List (ℤ × ℤ))). samples_beside (all_chunks x) lists c) pack.whole
      ∙ beside f (all_chunks x) c held))

  agree_each : AllByRecursion (λ (s : Series). Agree (source_of x packed) f s.chunks) x.series
  agree_each = facts_of_lists (Agree (source_of x packed) f) x.series agree

  pub part_packed : (deletions : List Deletion)
      → part_of_series (source_of x packed) deletions x.series
      ≡ part_of_series f deletions x.series
  part_packed deletions = same_part (source_of x packed) f deletions x.series agree_each

  packed_at : length packed < 2 ^ 64 → (i first : ℕ) (cs : List Chunk)
      → slice_get starts i ≡ Some first → slice_get (chunk_lists x.series) i ≡ Some cs
      → ArePackedFrom (source_of x packed) packed first cs
  packed_at small i first cs start h =
      let lists = chunk_lists x.series in
      let within = slice_get_within lists i cs h in
      let begun : first ≡ length (flat (take i lists)) =
      sym (get_or_from_slice_get starts i first 0 start) ∙ pack.begun i within in
      let same : get_or lists i [] ≡ cs = get_or_from_slice_get lists i cs [] h in
      let size : length (get_or lists i []) ≡ length cs = ap length same in
      let all = length-flat_map-take (λ (xs : List Chunk). xs) lists i [] within in
      let many : length packed ≡ length (flat lists) =
      ap length pack.whole ∙ length-map (flat lists) f in
      record {
        inside = omega (arith, begun, size, all, many);
        small = small;
        each =
            λ k lt. ap (λ (n : ℕ). slice_get packed (n + k)) begun
            ∙ ap (λ (xs : List (List (ℤ × ℤ))). slice_get xs (length (flat (take i lists)) + k))
            pack.whole
            ∙ slice_get-map f (flat lists) (length (flat (take i lists)) + k)
            ∙ ap (option_map f) (flat_at lists i k cs h lt)
            ∙ sym (slice_get-map f cs k)
            ∙ ap (λ (xs : List (List (ℤ × ℤ))). slice_get xs k)
            (sym (same_map (source_of x packed) f cs
            (list_at (Agree (source_of x packed) f) lists i cs agree h)));
      }

  pub opened_packed : (range : ℤ × ℤ) → length packed < 2 ^ 64 → IsSoundBlock range f x
      → IsOpened range starts packed x
  opened_packed range small sound = record {
    sound = record {
      consistent = sound.consistent;
      stored = same_stored (source_of x packed) f range x.series agree_each sound.stored;
    };
    kept = record {
      counted = pack.counted ∙ length-map x.series (λ (s : Series). s.chunks);
      placed = packed_at small;
    };
  }

-- packing, list by list

pub record IsPackedTo (f : Source) (lists : List (List Chunk)) (i : ℕ) (starts : List ℕ)
    (packed : List (List (ℤ × ℤ)))
    : Type 0 where
  pub counted : length starts ≡ i
  pub whole : packed ≡ map f (flat (take i lists))
  pub begun : (k : ℕ) → k < i → get_or starts k 0 ≡ length (flat (take k lists))

pub list_next : (f : Source) (cs : List Chunk) (i : ℕ) (d : Chunk)
    (old before after : List (List (ℤ × ℤ))) → i < length cs
    → after ≡ before ++ f (get_or cs i d) ∷ [] → before ≡ old ++ map f (take i cs)
    → after ≡ old ++ map f (take (i + 1) cs)
list_next f cs i d old before after lt added h =
    added
    ∙ ap (λ (front : List (List (ℤ × ℤ))). front ++ f (get_or cs i d) ∷ []) h
    ∙ append_assoc old (map f (take i cs)) (f (get_or cs i d) ∷ [])
    ∙ ap (λ (rest : List (List (ℤ × ℤ))). old ++ rest) (sym (map_more f cs i d lt))

pub pack_next : (f : Source) (lists : List (List Chunk)) (i n : ℕ) (cs : List Chunk)
    (starts more : List ℕ) (packed after : List (List (ℤ × ℤ)))
    → IsPackedTo f lists i starts packed → slice_get lists i ≡ Some cs → n ≡ length packed
    → more ≡ starts ++ n ∷ [] → after ≡ packed ++ map f cs
    → IsPackedTo f lists (i + 1) more after
pack_next f lists i n cs starts more packed after h at count pushed added = record {
  counted =
      let size = ap length pushed ∙ length-append starts (n ∷ []) in
      omega (arith, size, h.counted);
  whole =
      let next : flat (take (i + 1) lists) ≡ flat (take i lists) ++ cs =
      ap flat (take_next lists i cs at)
      ∙ flat_map-append (λ (xs : List Chunk). xs) (take i lists) (cs ∷ [])
      ∙ ap (λ (xs : List Chunk). flat (take i lists) ++ xs) (append-nil cs) in
      added
      ∙ ap (λ (front : List (List (ℤ × ℤ))). front ++ map f cs) h.whole
      ∙ sym (map-append f (flat (take i lists)) cs)
      ∙ ap (map f) (sym next);
  begun =
      λ k lt. elim (cases_lt k i) [
        | inl less ↦
            ap (λ (xs : List ℕ). get_or xs k 0) pushed
            ∙ get_or_append_left starts (n ∷ []) 0 k (omega (arith, less, h.counted))
            ∙ h.begun k less
        | inr le ↦
            let here : k ≡ length starts = omega (arith, lt, le, h.counted) in
            let same : i ≡ k = omega (arith, lt, le) in
            ap (λ (xs : List ℕ). get_or xs k 0) pushed
            ∙ ap (λ (m : ℕ). get_or (starts ++ n ∷ []) m 0) here
            ∙ get_or-append_seam starts n [] 0
            ∙ count
            ∙ ap length h.whole
            ∙ length-map (flat (take i lists)) f
            ∙ ap (λ (m : ℕ). length (flat (take m lists))) same
      ];
}

pub pack_whole : (f : Source) (lists : List (List Chunk)) (i : ℕ) (starts : List ℕ)
    (packed : List (List (ℤ × ℤ))) → i ≡ length lists → IsPackedTo f lists i starts packed
    → IsPackOf f lists starts packed
pack_whole f lists i starts packed e h = record {
  counted = h.counted ∙ e;
  whole = h.whole ∙ ap (λ (xs : List (List Chunk)). map f (flat xs)) (take_all i lists (omega (arith, e)));
  begun = λ k lt. h.begun k (omega (arith, lt, e));
}

-- two runs, packed apart

pub starts_within : (f : Source) (lists : List (List Chunk)) (starts : List ℕ)
    (packed : List (List (ℤ × ℤ))) → IsPackOf f lists starts packed → AreStarts starts packed
starts_within f lists starts packed h k lt =
    let within : k < length lists = omega (arith, lt, h.counted) in
    omega (
      arith,
      h.begun k within,
      length-flat_map-take (λ (xs : List Chunk). xs) lists k [] within,
      ap length h.whole,
      length-map (flat lists) f,
    )

pub starts_next : (by : ℕ) (others : List ℕ) (i x : ℕ) (old before after : List ℕ)
    → i < length others → x ≡ get_or others i x → after ≡ before ++ (x + by) ∷ []
    → before ≡ old ++ map (λ s. s + by) (take i others)
    → after ≡ old ++ map (λ s. s + by) (take (i + 1) others)
starts_next by others i x old before after lt at added h =
    added
    ∙ ap (λ (front : List ℕ). front ++ (x + by) ∷ []) h
    ∙ append_assoc old (map (λ s. s + by) (take i others)) ((x + by) ∷ [])
    ∙ ap (λ (y : ℕ). old ++ (map (λ s. s + by) (take i others) ++ (y + by) ∷ [])) at
    ∙ ap (λ (rest : List ℕ). old ++ rest) (sym (map_more (λ s. s + by) others i x lt))

module _ (f : Source) (xs ys : List (List Chunk)) (a b : List ℕ) (p q : List (List (ℤ × ℤ)))
    (front : IsPackOf f xs a p) (back : IsPackOf f ys b q) where
  abbrev further : List ℕ
  further = map (λ s. s + length p) b

  flat_both : (zs : List (List Chunk)) → flat (xs ++ zs) ≡ flat xs ++ flat zs
  flat_both zs = flat_map-append (λ (cs : List Chunk). cs) xs zs

  begun_behind : (j : ℕ) → j < length ys
      → get_or (a ++ further) (length xs + j) 0 ≡ length (flat (take (length xs + j) (xs ++ ys)))
  begun_behind j lt =
      let at : length xs + j ≡ length a + j = omega (arith, front.counted) in
      let within : j < length b = omega (arith, lt, back.counted) in
      let many : length p ≡ length (flat xs) = ap length front.whole ∙ length-map (flat xs) f in
      let sum : get_or b j 0 + length p ≡ length (flat xs) + length (flat (take j ys)) =
      omega (arith, many, back.begun j lt) in
      ap (λ (n : ℕ). get_or (a ++ further) n 0) at
      ∙ get_or-append-add a further j 0
      ∙ get_or-map (λ s. s + length p) b j 0 0 within
      ∙ sum
      ∙ sym (length-append (flat xs) (flat (take j ys)))
      ∙ sym (ap length (flat_both (take j ys)))
      ∙ sym (ap (λ (zs : List (List Chunk)). length (flat zs)) (take-append-add xs ys j))

  pub pack_both : IsPackOf f (xs ++ ys) (a ++ further) (p ++ q)
  pack_both = record {
    counted = omega (
      arith,
      length-append a further,
      length-map b (λ s. s + length p),
      length-append xs ys,
      front.counted,
      back.counted,
    );
    whole =
        ap (λ (zs : List (List (ℤ × ℤ))). zs ++ q) front.whole
        ∙ ap (λ (zs : List (List (ℤ × ℤ))). map f (flat xs) ++ zs) back.whole
        ∙ sym (map-append f (flat xs) (flat ys))
        ∙ ap (map f) (sym (flat_both ys));
    begun =
        λ k lt. elim (cases_lt k (length xs)) [
          | inl less ↦
              get_or_append_left a further 0 k (omega (arith, less, front.counted))
              ∙ front.begun k less
              ∙ sym (ap (λ (zs : List (List Chunk)). length (flat zs))
              (take-append-le k xs ys (omega (arith, less))))
          | inr le ↦
              let j : ℕ = k - length xs in
              let same : length xs + j ≡ k = omega (arith, le) in
              let inside : j < length ys = omega (arith, lt, le, length-append xs ys) in
              subst (λ (n : ℕ). get_or (a ++ further) n 0
              ≡ length (flat (take n (xs ++ ys)))) same (begun_behind j inside)
        ];
  }

pub pack_joined : {E : Type 0} (f : Source) (lists xs ys : List (List Chunk)) (front back : Packed)
    (r : Result Packed E) → lists ≡ xs ++ ys → IsPackOf f xs front.starts.items front.chunks
    → IsPackOf f ys back.starts.items back.chunks
    → IfOk r (λ p. p.chunks ≡ front.chunks ++ back.chunks)
    → IfOk r (λ p. p.starts.items
    ≡ front.starts.items ++ map (λ s. s + length front.chunks) back.starts.items)
    → IfOk r (λ p. IsPackOf f lists p.starts.items p.chunks)
pack_joined f lists xs ys front back (Ok p) e a b chunks starts =
    let both = pack_both f xs ys front.starts.items back.starts.items front.chunks back.chunks
    a b in
    let placed : IsPackOf f (xs ++ ys) p.starts.items (front.chunks ++ back.chunks) =
    subst (λ (s : List ℕ). IsPackOf f (xs ++ ys) s (front.chunks ++ back.chunks)) (sym starts)
    both in
    let packed : IsPackOf f (xs ++ ys) p.starts.items p.chunks =
    subst (λ (c : List (List (ℤ × ℤ))). IsPackOf f (xs ++ ys) p.starts.items c) (sym chunks)
    placed in
    subst (λ (l : List (List Chunk)). IsPackOf f l p.starts.items p.chunks) (sym e) packed
pack_joined f lists xs ys front back (Err x) e a b chunks starts = tt
