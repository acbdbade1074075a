-- What the first contents of a journal save.
use Rattle.std.proofs.Common.{◌≡◌, ℕ, zero, suc, ◌+◌, ◌<◌, ◌≤◌, true, false, List, [], ◌∷◌}
use Rattle.std.proofs.Common.{◌++◌, map, length, take, drop, Result, Ok, Err, refl, sym, ap, subst}
use Rattle.std.proofs.Common.{◌∙◌, arith}
use Rattle.std.specs.Prelude.{nat_lt}
use Rattle.std.specs.List.{AllByRecursion}
use Rattle.std.proofs.lemmas.Bool.{false_from_ne_true}
use Rattle.std.proofs.lemmas.Bool.Decides.{nat_tests}
use Rattle.std.proofs.lemmas.List.{length-append, length-map, take-append-drop}
use Rattle.wire.specs.Outcome.{Fails}
use Rattle.head.specs.Heads.{HeadSeries}
use Rattle.event_text.specs.declared.error.TextError.{TextError}
use Rattle.event_text.specs.declared.error.TextError.TheVariants.{Memory, Kind, Field, Labels, Runs}
use Rattle.event_text.specs.declared.error.TextError.TheVariants.{Bounds, Rest}
use Rattle.event_text.specs.Outcome as text
use Rattle.head_record.specs.declared.error.RefusedHead.{RefusedHead}
use Rattle.head_record.specs.Outcome.{Begins, Gives, GivesSaved, is_memory}
use Rattle.head_record.specs.Reading.{each_series, head_of, opening_of, with_series}
use Rattle.head_record.specs.Saved.{Saved}
use Rattle.head_record.specs.Spelling.{Opening, head_texts, opening_content, opening_of_saved}
use Rattle.head_record.specs.Spelling.{series_content, IsOpening, IsSaved, IsSeries, SpellEach}
use Rattle.head_record.specs.Spelling.{SpellsOpening}
use Rattle.head_record.proofs.Loops.{map_fails}
use Rattle.head_record.proofs.Texts.{opening_read, series_read}

-- the refusals, by what stands in front

abbrev refusal : RefusedHead → Result (Saved × ℕ) RefusedHead
refusal r = Err r

abbrev with_count : Opening → ℕ → Opening
with_count o k =
    record { values = o.values; floor = o.floor; places = o.places; count = k }

length_take : (n : ℕ) (xs : List (List ℕ)) → n ≤ length xs → length (take n xs) ≡ n
length_take zero xs le = refl
length_take (suc n) [] le = absurd (omega (arith, le))
length_take (suc n) (x ∷ xs) le = ap suc (length_take n xs (omega (arith, le)))

dropped : (x : List ℕ) (xs : List (List ℕ)) (n : ℕ) → drop (n + 1) (x ∷ xs) ≡ drop n xs
dropped x xs n = let e : n + 1 ≡ suc n = omega arith in rw e refl

long : (others : List (List ℕ)) (o : Opening) → nat_lt (length others) o.count ≡ false
    → o.count ≤ length others
long others o h = grind (arith, nat_tests)

abbrev pub saved_of : Opening → List HeadSeries → Saved
saved_of o hs =
    record { values = o.values; floor = o.floor; places = o.places; head = hs }

abbrev pub saved_ok : Opening → List HeadSeries → ℕ → Result (Saved × ℕ) RefusedHead
saved_ok o hs k = Ok (saved_of o hs, k)

pub first_refused : (first : List ℕ) (others : List (List ℕ)) (f : TextError)
    → Fails text.is_memory f (opening_of first)
    → Fails is_memory (record { at = 0; error = f }) (head_of (first ∷ others))
unfolding head_of
first_refused first others f h =
    map_fails (text.is_memory f) _ _ (λ (read : opening_of first ≡ Err f). rw read refl) h

pub first_read : (first : List ℕ) (others : List (List ℕ)) (o : Opening)
    (result : Result (Saved × ℕ) RefusedHead) → opening_of first ≡ Ok o
    → Gives (λ (x : Saved × ℕ). x) result (with_series o others)
    → Gives (λ (x : Saved × ℕ). x) result (head_of (first ∷ others))
unfolding head_of
first_read first others o result read g =
    let same : head_of (first ∷ others) ≡ with_series o others = rw read refl in
    subst (λ (r : Result (Saved × ℕ) RefusedHead). Gives (λ (x : Saved × ℕ). x) result r)
    (sym same) g

pub too_few : (others : List (List ℕ)) (o : Opening) (at : ℕ)
    → nat_lt (length others) o.count ≡ true → at ≡ length others + 1
    → with_series o others ≡ Err (record { at = at; error = Kind })
unfolding with_series
too_few others o at few is =
    rw few (ap (λ (k : ℕ). refusal (record { at = k; error = Kind })) (sym is))

pub series_refused : (others own : List (List ℕ)) (o : Opening) (r : RefusedHead)
    → nat_lt (length others) o.count ≡ false → own ≡ take o.count others
    → Fails is_memory r (each_series 1 own) → Fails is_memory r (with_series o others)
unfolding with_series
series_refused others own o r enough is h =
    map_fails (is_memory r) _ _ (λ (one : each_series 1 own ≡ Err r).
    let here : each_series 1 (take o.count others) ≡ Err r = ap (each_series 1) (sym is) ∙ one in
    rw (enough, here) refl) h

pub all_read : (others own : List (List ℕ)) (o : Opening) (hs : List HeadSeries) (count : ℕ)
    → nat_lt (length others) o.count ≡ false → own ≡ take o.count others
    → each_series 1 own ≡ Ok hs → count ≡ length own + 1
    → with_series o others ≡ saved_ok o hs count
unfolding with_series
all_read others own o hs count enough is each counted =
    let here : each_series 1 (take o.count others) ≡ Ok hs =
    ap (each_series 1) (sym is) ∙ each in
    let n : o.count + 1 ≡ count =
    omega (arith, counted, ap length is, length_take o.count others (long others o enough)) in
    rw (enough, here) (ap (λ (k : ℕ). saved_ok o hs k) n)

-- series that stand in front are read
each_read : (at : ℕ) (hs : List HeadSeries) → AllByRecursion IsSeries hs
    → each_series at (map series_content hs) ≡ Ok hs
unfolding each_series
each_read at [] h = refl
each_read at (x ∷ hs) h =
    let one = series_read x h.0 in
    let others = each_read (at + 1) hs h.1 in
    rw (one, others) refl

front_taken : (hs : List HeadSeries) (rest : List (List ℕ))
    → take (length hs) (map series_content hs ++ rest) ≡ map series_content hs
front_taken [] rest = refl
front_taken (h ∷ hs) rest =
    ap (λ (x : List (List ℕ)). series_content h ∷ x) (front_taken hs rest)

enough : (hs : List HeadSeries) (rest : List (List ℕ))
    → nat_lt (length (map series_content hs ++ rest)) (length hs) ≡ false
enough hs rest =
    let n : length (map series_content hs ++ rest) ≡ length hs + length rest =
    length-append (map series_content hs) rest
    ∙ ap (λ (k : ℕ). k + length rest) (length-map hs series_content) in
    false_from_ne_true _ (λ t. absurd (
    let lt : length (map series_content hs ++ rest) < length hs = grind (arith, nat_tests) in
    omega (arith, n, lt)
    ))

-- what is saved, and stands in front, is read
pub head_read : (saved : Saved) (rest : List (List ℕ)) → IsSaved saved
    → head_of (head_texts saved ++ rest) ≡ Ok (saved, length saved.head + 1)
unfolding head_of with_series
head_read saved rest h =
    let one = opening_read (opening_of_saved saved) h.opening in
    let all = each_read 1 saved.head h.series in
    let some = enough saved.head rest in
    let front = front_taken saved.head rest in
    rw (one, some, front, all) refl

length-texts : (saved : Saved) → length (head_texts saved) ≡ length saved.head + 1
length-texts saved =
    let n = length-map saved.head series_content in omega (arith, n)

abbrev ok : Saved × ℕ → Result (Saved × ℕ) RefusedHead
ok x = Ok x

abbrev err : RefusedHead → Result (Saved × ℕ) RefusedHead
err e = Err e

same_found : (x y : Saved × ℕ) → ok x ≡ Ok y → x ≡ y
same_found x y e = cc

no_error : {X : Type 0} (q : RefusedHead) (y : Saved × ℕ) → err q ≡ Ok y → X
no_error q y e = absurd cc

only_memory : (read : Result (Saved × ℕ) RefusedHead) (y : Saved × ℕ) (at : ℕ) (e : TextError)
    → read ≡ Ok y → Fails is_memory (record { at = at; error = e }) read → e ≡ Memory
only_memory read y at Memory is g = refl
only_memory read y at Kind is g = no_error (record { at = at; error = Kind }) y (sym g ∙ is)
only_memory read y at Field is g = no_error (record { at = at; error = Field }) y (sym g ∙ is)
only_memory read y at Labels is g = no_error (record { at = at; error = Labels }) y (sym g ∙ is)
only_memory read y at Runs is g = no_error (record { at = at; error = Runs }) y (sym g ∙ is)
only_memory read y at Bounds is g = no_error (record { at = at; error = Bounds }) y (sym g ∙ is)
only_memory read y at Rest is g = no_error (record { at = at; error = Rest }) y (sym g ∙ is)

by_result : (saved : Saved) (result read : Result (Saved × ℕ) RefusedHead)
    → read ≡ Ok (saved, length (head_texts saved))
    → Gives (λ (x : Saved × ℕ). x) result read → GivesSaved saved result
by_result saved (Ok x) read is g =
    same_found x (saved, length (head_texts saved)) (sym g ∙ is)
by_result saved (Err r) read is g =
    only_memory read (saved, length (head_texts saved)) r.at r.error is g

pub only_saved : (contents : List (List ℕ)) (result : Result (Saved × ℕ) RefusedHead)
    (saved : Saved) (rest : List (List ℕ)) → Gives (λ (x : Saved × ℕ). x) result (head_of contents)
    → IsSaved saved → contents ≡ head_texts saved ++ rest → GivesSaved saved result
only_saved contents result saved rest g h is =
    by_result saved result (head_of contents)
    (ap head_of is ∙ (head_read saved rest h
    ∙ ap (λ (n : ℕ). Ok (saved, n)) (sym (length-texts saved)))) g

-- an opening and series that are read stand in front
pub begins : (first : List ℕ) (others own : List (List ℕ)) (o : Opening) (count : ℕ)
    (head : List HeadSeries) → SpellsOpening first o
    → nat_lt (length others) o.count ≡ false → own ≡ take o.count others → SpellEach own head
    → count ≡ length own + 1
    → Begins (first ∷ others) (saved_of o head) count
begins first others own o count head s enough is each counted =
    let saved = saved_of o head in
    let m : length own ≡ o.count =
    ap length is ∙ length_take o.count others (long others o enough) in
    let n : length head ≡ o.count =
    sym (length-map head series_content) ∙ (sym (ap length each.texts) ∙ m) in
    let opening : o ≡ opening_of_saved saved = ap (λ (k : ℕ). with_count o k) (sym n) in
    let last : count ≡ o.count + 1 = omega (arith, counted, m) in
    let texts : first ∷ others ≡ head_texts saved ++ drop o.count others =
    ap (λ (x : List ℕ). x ∷ others) (s.text ∙ ap opening_content opening)
    ∙ ap (λ (x : List (List ℕ)). opening_content (opening_of_saved saved) ∷ x)
    (sym (take-append-drop o.count others)
    ∙ ap (λ (x : List (List ℕ)). x ++ drop o.count others) (sym is ∙ each.texts)) in
    record {
      front = texts ∙ ap (λ (x : List (List ℕ)). head_texts saved ++ x)
          (sym (ap (λ (k : ℕ). drop k (first ∷ others)) last ∙ dropped first others o.count));
      all = last ∙ (ap (λ (k : ℕ). k + 1) (sym n) ∙ sym (length-texts saved));
      fits = record { opening = subst IsOpening opening s.fits; series = each.each };
    }
