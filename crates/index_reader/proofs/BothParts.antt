-- Bodies of some entries behind those of others, and what reading gives of both.
use Rattle.std.proofs.Common.{◌≡◌, ℕ, ◌+◌, ◌-◌, ◌/◌, ◌<◌, ◌^◌, List, [], ◌∷◌, ◌++◌, length}
use Rattle.std.proofs.Common.{take, drop, Result, Ok, Err, refl, sym, ap, ◌∙◌}
use Rattle.std.proofs.Common.{◌*◌, ◌≤◌, arith}
use Rattle.std.proofs.Math.Nat.{le_trans, mul-le-mul_left, div-mul-le_self}
use Rattle.std.specs.Prelude.{slice_range, map}
use Rattle.std.specs.List.{All}
use Rattle.std.proofs.Math.Seq.{drop-append-add}
use Rattle.std.proofs.lemmas.List.{length-append, map-append, take-append-drop}
use Rattle.std.proofs.lemmas.List.Elements.{All-append, All-map, All-take, All-drop}
use Rattle.index_reader.specs.declared.chunk.Chunk.{Chunk}
use Rattle.index_reader.specs.declared.error.IndexError.{IndexError}
use Rattle.index_reader.specs.declared.error.IndexError.TheVariants.{Memory}
use Rattle.index_reader.specs.declared.series.Series.{Series}
use Rattle.index_reader.specs.declared.series_entries.SeriesEntry as declared
use Rattle.index_reader.specs.declared.bodies.Bodies.{Bodies}
use Rattle.index_reader.specs.CheckedFile.{bodies_seen}
use Rattle.index_reader.specs.Layout.{Label, SeriesEntry}
use Rattle.index_reader.specs.Outcome.{Fails}
use Rattle.index_reader.specs.Reading.Agreement.{entry_references}
use Rattle.index_reader.specs.Reading.Flat.{AllIn, IsIn, CanMove, body_in, bodies_in, moved}
use Rattle.index_reader.specs.Reading.Flat.{body_of_entry}
use Rattle.index_reader.specs.Reading.Flat.{references_in_order}
use Rattle.index_reader.specs.Reading.Steps.{each, behind_items}
use Rattle.index_reader.specs.Seen.{entry_seen, entries_seen}
use Rattle.index_reader.specs.Shared.{AreBodiesOf}
use Rattle.wire.specs.Outcome.{◌>>=◌}
use Rattle.index_reader.proofs.Eaches.{items_nil}
use Rattle.index_reader.proofs.Growth.{bodies_grown}

-- ---- parts that stand further on

range_moved : {X : Type 0} (xs ys : List X) (a b : ℕ)
    → slice_range (xs ++ ys) (length xs + a) (length xs + b) ≡ slice_range ys a b
range_moved xs ys a b =
    let n : (length xs + b) - (length xs + a) ≡ b - a = omega arith in
    rw (n, drop-append-add xs ys a) refl

body_moved : (ls ls' : List Label) (cs cs' : List Chunk) (r : Series)
    → body_in (ls ++ ls') (cs ++ cs') (moved (length ls) (length cs) r) ≡ body_in ls' cs' r
body_moved ls ls' cs cs' r =
    let e = range_moved ls ls' r.labels_start r.labels_end in
    let f = range_moved cs cs' r.chunks_start r.chunks_end in
    rw (e, f) refl

bodies_moved : (ls ls' : List Label) (cs cs' : List Chunk) (rs : List Series)
    → bodies_in (ls ++ ls') (cs ++ cs') (map (moved (length ls) (length cs)) rs)
    ≡ bodies_in ls' cs' rs
bodies_moved ls ls' cs cs' [] = refl
bodies_moved ls ls' cs cs' (r ∷ rs) =
    let one = body_moved ls ls' cs cs' r in
    let others = bodies_moved ls ls' cs cs' rs in
    rw (one, others) refl

pub bodies_joined : (ls ls' : List Label) (cs cs' : List Chunk) (rs rs' : List Series)
    → AllIn ls cs rs
    → bodies_in (ls ++ ls') (cs ++ cs') (rs ++ map (moved (length ls) (length cs)) rs')
    ≡ bodies_in ls cs rs ++ bodies_in ls' cs' rs'
bodies_joined ls ls' cs cs' rs rs' h =
    map-append (body_in (ls ++ ls') (cs ++ cs')) rs (map (moved (length ls) (length cs)) rs')
    ∙ (λ i. bodies_grown ls ls' cs cs' rs h i ++ bodies_moved ls ls' cs cs' rs' i)

pub joined_are : (ls ls' both : List Label) (cs cs' both' : List Chunk)
    (rs rs' all : List Series) (n m : ℕ) → AllIn ls cs rs → n ≡ length ls → m ≡ length cs
    → both ≡ ls ++ ls' → both' ≡ cs ++ cs' → all ≡ rs ++ map (moved n m) rs'
    → bodies_in both both' all ≡ bodies_in ls cs rs ++ bodies_in ls' cs' rs'
joined_are ls ls' both cs cs' both' rs rs' all n m h e f g g' p =
    rw (p, e, f, g, g') (bodies_joined ls ls' cs cs' rs rs' h)

same_references : (n m : ℕ) (rs : List Series)
    → references_in_order (map (moved n m) rs) ≡ references_in_order rs
same_references n m [] = refl
same_references n m (r ∷ rs) = ap (λ (xs : List ℕ). r.reference ∷ xs) (same_references n m rs)

pub references_joined : (n m : ℕ) (rs rs' : List Series)
    → references_in_order (rs ++ map (moved n m) rs')
    ≡ references_in_order rs ++ references_in_order rs'
references_joined n m rs rs' =
    map-append (λ (s : Series). s.reference) rs (map (moved n m) rs')
    ∙ ap (λ (xs : List ℕ). references_in_order rs ++ xs) (same_references n m rs')

pub all_joined : (ls ls' : List Label) (cs cs' : List Chunk) (rs rs' : List Series)
    → AllIn ls cs rs → AllIn ls' cs' rs'
    → AllIn (ls ++ ls') (cs ++ cs') (rs ++ map (moved (length ls) (length cs)) rs')
all_joined ls ls' cs cs' rs rs' h h' =
    All-append (IsIn (ls ++ ls') (cs ++ cs')) rs (map (moved (length ls) (length cs)) rs')
    (λ k d lt. let o = h k d lt in record {
      labels_ordered = o.labels_ordered;
      labels_inside = omega (arith, o.labels_inside, length-append ls ls');
      chunks_ordered = o.chunks_ordered;
      chunks_inside = omega (arith, o.chunks_inside, length-append cs cs');
    })
    (All-map (IsIn (ls ++ ls') (cs ++ cs')) (moved (length ls) (length cs)) rs' (λ k d lt.
    let o = h' k d lt in record {
      labels_ordered = omega (arith, o.labels_ordered);
      labels_inside = omega (arith, o.labels_inside, length-append ls ls');
      chunks_ordered = omega (arith, o.chunks_ordered);
      chunks_inside = omega (arith, o.chunks_inside, length-append cs cs');
    }))

pub joined_in : (ls ls' both : List Label) (cs cs' both' : List Chunk)
    (rs rs' all : List Series) (n m : ℕ) → AllIn ls cs rs → AllIn ls' cs' rs' → n ≡ length ls
    → m ≡ length cs → both ≡ ls ++ ls' → both' ≡ cs ++ cs' → all ≡ rs ++ map (moved n m) rs'
    → AllIn both both' all
joined_in ls ls' both cs cs' both' rs rs' all n m h h' e f g g' p =
    rw (p, e, f, g, g') (all_joined ls ls' cs cs' rs rs' h h')

pub joined_references : (rs rs' all : List Series) (n m : ℕ) → all ≡ rs ++ map (moved n m) rs'
    → references_in_order all ≡ references_in_order rs ++ references_in_order rs'
joined_references rs rs' all n m p = ap references_in_order p ∙ references_joined n m rs rs'

pub can_move : (ls ls' : List Label) (cs cs' : List Chunk) (rs : List Series) → AllIn ls' cs' rs
    → length (ls ++ ls') < 2 ^ 64 → length (cs ++ cs') < 2 ^ 64
    → All (CanMove (length ls) (length cs)) rs
can_move ls ls' cs cs' rs h few few' = λ k d lt. let o = h k d lt in record {
  labels_start = omega (arith, o.labels_ordered, o.labels_inside, few, length-append ls ls');
  labels_end = omega (arith, o.labels_inside, few, length-append ls ls');
  chunks_start = omega (arith, o.chunks_ordered, o.chunks_inside, few', length-append cs cs');
  chunks_end = omega (arith, o.chunks_inside, few', length-append cs cs');
}

-- ---- each of both, the first refusal before a later one

grow : {X : Type 0} (x : X) (xs : List X) (r : Result (List X) IndexError)
    → (behind_items xs r >>= λ ys. Ok (x ∷ ys)) ≡ behind_items (x ∷ xs) r
grow x xs (Ok ys) = refl
grow x xs (Err e) = refl

behind_one : {X : Type 0} (x : X) (front back : Result (List X) IndexError)
    → ((front >>= λ xs. behind_items xs back) >>= λ ys. Ok (x ∷ ys))
    ≡ ((front >>= λ xs. Ok (x ∷ xs)) >>= λ ys. behind_items ys back)
behind_one x (Ok xs) back = grow x xs back
behind_one x (Err e) back = refl

behind_step : {X : Type 0} (one : Result X IndexError)
    (front back whole : Result (List X) IndexError)
    → whole ≡ (front >>= λ xs. behind_items xs back)
    → (one >>= λ x. whole >>= λ xs. Ok (x ∷ xs))
    ≡ ((one >>= λ x. front >>= λ xs. Ok (x ∷ xs)) >>= λ ys. behind_items ys back)
behind_step {X} (Ok x) front back whole e =
    ap (λ (r : Result (List X) IndexError). r >>= λ xs. Ok (x ∷ xs)) e ∙ behind_one x front back
behind_step (Err f) front back whole e = refl

each_append : {A X : Type 0} (step : A → Result X IndexError) (xs ys : List A)
    → each step (xs ++ ys) ≡ (each step xs >>= λ zs. behind_items zs (each step ys))
unfolding each
each_append step [] ys = sym (items_nil (each step ys))
each_append step (x ∷ xs) ys =
    behind_step (step x) (each step xs) (each step ys) (each step (xs ++ ys))
    (each_append step xs ys)

fails_early : {A X : Type 0} (step : A → Result X IndexError) (e : IndexError)
    (all xs ys : List A) → all ≡ xs ++ ys → Fails e (each step xs) → Fails e (each step all)
fails_early step Memory all xs ys w f = tt
fails_early {A} {X} step e all xs ys w f =
    ap (each step) w ∙ each_append step xs ys
    ∙ ap (λ (r : Result (List X) IndexError). r >>= λ zs. behind_items zs (each step ys)) f

fails_late : {A X : Type 0} (step : A → Result X IndexError) (e : IndexError)
    (all xs ys : List A) (front : List X) → all ≡ xs ++ ys → each step xs ≡ Ok front
    → Fails e (each step ys) → Fails e (each step all)
fails_late step Memory all xs ys front w g f = tt
fails_late {A} {X} step e all xs ys front w g f =
    ap (each step) w ∙ each_append step xs ys
    ∙ ap (λ (r : Result (List X) IndexError). r >>= λ zs. behind_items zs (each step ys)) g
    ∙ ap (behind_items front) f

gives_both : {A X : Type 0} (step : A → Result X IndexError) (all xs ys : List A)
    (front back whole : List X) → all ≡ xs ++ ys → each step xs ≡ Ok front → each step ys ≡ Ok back
    → whole ≡ front ++ back → each step all ≡ Ok whole
gives_both {A} {X} step all xs ys front back whole w g g' e =
    ap (each step) w ∙ each_append step xs ys
    ∙ ap (λ (r : Result (List X) IndexError). r >>= λ zs. behind_items zs (each step ys)) g
    ∙ ap (behind_items front) g'
    ∙ ap (λ (zs : List X). Ok zs) (sym e)

-- equal shares of so many entries are no more than all of them
pub share_inside : (n threads helpers : ℕ) → helpers ≤ threads → n / threads * helpers ≤ n
share_inside n threads helpers le =
    le_trans (mul-le-mul_left (n / threads) le) (div-mul-le_self n threads)

-- entries in two parts
pub seen_both : (all early late : List declared.SeriesEntry) (n : ℕ) → early ≡ take n all
    → late ≡ drop n all → entries_seen all ≡ entries_seen early ++ entries_seen late
seen_both all early late n e l =
    ap entries_seen (sym ((λ i. e i ++ l i) ∙ take-append-drop n all))
    ∙ map-append entry_seen early late

pub small_early : (all early : List declared.SeriesEntry) (n : ℕ) → early ≡ take n all
    → All (λ (e : declared.SeriesEntry). e.offset < 2 ^ 32) all
    → All (λ (e : declared.SeriesEntry). e.offset < 2 ^ 32) early
small_early all early n e h = rw e (All-take (λ (p : declared.SeriesEntry). p.offset < 2 ^ 32) n all h)

pub small_late : (all late : List declared.SeriesEntry) (n : ℕ) → late ≡ drop n all
    → All (λ (e : declared.SeriesEntry). e.offset < 2 ^ 32) all
    → All (λ (e : declared.SeriesEntry). e.offset < 2 ^ 32) late
small_late all late n e h = rw e (All-drop (λ (p : declared.SeriesEntry). p.offset < 2 ^ 32) n all h)

pub fail_early : (symbols : List (List ℕ)) (all early late : List SeriesEntry) (e : IndexError)
    → all ≡ early ++ late → AreBodiesOf symbols early (Err e) → AreBodiesOf symbols all (Err e)
fail_early symbols all early late e w h = record {
  exact = fails_early (body_of_entry symbols) e all early late w h.exact;
  referred = tt;
}

pub fail_late : (symbols : List (List ℕ)) (all early late : List SeriesEntry) (front : Bodies)
    (e : IndexError) → all ≡ early ++ late → AreBodiesOf symbols early (Ok front)
    → AreBodiesOf symbols late (Err e) → AreBodiesOf symbols all (Err e)
fail_late symbols all early late front e w h h' = record {
  exact =
      fails_late (body_of_entry symbols) e all early late (bodies_seen front) w h.exact h'.exact;
  referred = tt;
}

pub are_both : (symbols : List (List ℕ)) (all early late : List SeriesEntry)
    (front back whole : Bodies) → all ≡ early ++ late → AreBodiesOf symbols early (Ok front)
    → AreBodiesOf symbols late (Ok back)
    → bodies_seen whole ≡ bodies_seen front ++ bodies_seen back
    → references_in_order whole.series.items
    ≡ references_in_order front.series.items ++ references_in_order back.series.items
    → AreBodiesOf symbols all (Ok whole)
are_both symbols all early late front back whole w h h' e r = record {
  exact =
      gives_both (body_of_entry symbols) all early late (bodies_seen front) (bodies_seen back)
      (bodies_seen whole) w h.exact h'.exact e;
  referred =
      r ∙ (λ i. h.referred i ++ h'.referred i)
      ∙ sym (map-append (λ (p : SeriesEntry). p.offset / 16) early late)
      ∙ ap entry_references (sym w);
}
