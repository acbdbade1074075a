-- Where a sample goes, by the place of its label set.
use Rattle.std.proofs.Common.{◌≡◌, ℕ, ◌<◌, Bool, true, false, List, [], ◌∷◌, ◌++◌, Option, Some, None, length, drop, refl, sym, ap, ◌∙◌, arith, zero, suc, get_or, slice_get, ℤ, ◌+◌, add-one}
use Rattle.std.specs.Prelude.{if◌then◌else◌}
use Rattle.std.proofs.Math.Seq.{drop-cons}
use Rattle.labels.specs.Labels.{Labels, same_labels}
use Rattle.labels.specs.Rows.{Row}
use Rattle.kept_world.specs.States.{HeadSeries, Entry, placed, before_all, behind, grown, new_series, added, added_each, entries_in, entries_of}
use Rattle.kept_world.specs.Sound.{place_in, next_place, label_sets, replaced, begun}

at_front : (r : Option HeadSeries) (y : HeadSeries) (ys : List HeadSeries) → before_all r ys ≡ replaced zero r (y ∷ ys)
at_front None y ys = refl
at_front (Some z) y ys = refl

further : (r : Option HeadSeries) (i : ℕ) (y : HeadSeries) (ys : List HeadSeries) → behind y (replaced i r ys) ≡ replaced (suc i) r (y ∷ ys)
further None i y ys = refl
further (Some z) i y ys = refl

here_at : (n : ℕ) (s : ℤ × ℤ) (y e : HeadSeries) (ys : List HeadSeries) (i : ℕ) → Some zero ≡ Some i → slice_get (y ∷ ys) i ≡ Some e → before_all (grown n s y) ys ≡ replaced i (grown n s e) (y ∷ ys)
here_at n s y e ys zero p g = let z : y ≡ e = cc in at_front (grown n s y) y ys ∙ ap (λ (x : HeadSeries). replaced zero (grown n s x) (y ∷ ys)) z
here_at n s y e ys (suc i) p g = absurd (let z : zero ≡ suc i = cc in omega (arith, z))

later_at : (o : Option ℕ) (i : ℕ) (y e : HeadSeries) (ys : List HeadSeries) (r : Option (List HeadSeries)) (new : Option HeadSeries) → next_place o ≡ Some i → slice_get (y ∷ ys) i ≡ Some e → ((j : ℕ) → o ≡ Some j → slice_get ys j ≡ Some e → r ≡ replaced j new ys) → behind y r ≡ replaced i new (y ∷ ys)
later_at None i y e ys r new p g f = absurd (let z : None ≡ Some i = p in cc)
later_at (Some j) zero y e ys r new p g f = absurd (let z : suc j ≡ zero = cc in omega (arith, z))
later_at (Some j) (suc i) y e ys r new p g f =
    let z : suc j ≡ suc i = cc in
    let k : j ≡ i = omega (arith, z) in
    ap (behind y) (f i (ap Some k) g) ∙ further new i y ys

-- to the series that is there
pub placed_at : (room : Bool) (n : ℕ) (x : Entry) (head : List HeadSeries) (i : ℕ) (e : HeadSeries) → place_in x.0 (label_sets head) ≡ Some i → slice_get head i ≡ Some e → placed room n x head ≡ replaced i (grown n x.1 e) head
placed_at room n x [] i e p g = absurd (let z : None ≡ Some i = p in cc)
placed_at room n x (y ∷ ys) i e p g =
    elim (same_labels x.0 y.labels) as (λ b. (if b then Some zero else next_place (place_in x.0 (label_sets ys))) ≡ Some i → (if b then before_all (grown n x.1 y) ys else behind y (placed room n x ys)) ≡ replaced i (grown n x.1 e) (y ∷ ys)) [
      | true ↦ λ q. here_at n x.1 y e ys i q g
      | false ↦ λ q. later_at (place_in x.0 (label_sets ys)) i y e ys (placed room n x ys) (grown n x.1 e) q g (λ j k h. placed_at room n x ys j e k h)
    ] p

behind_begun : (room : Bool) (y e : HeadSeries) (ys : List HeadSeries) → behind y (begun room e ys) ≡ begun room e (y ∷ ys)
behind_begun true y e ys = refl
behind_begun false y e ys = refl

none_of : (o : Option ℕ) → next_place o ≡ None → o ≡ None
none_of None h = refl
none_of (Some i) h = absurd (let z : Some (suc i) ≡ None = h in cc)

-- to none of them
pub placed_last : (room : Bool) (n : ℕ) (x : Entry) (head : List HeadSeries) → place_in x.0 (label_sets head) ≡ None → placed room n x head ≡ begun room (new_series n x) head
placed_last room n x [] p = refl
placed_last room n x (y ∷ ys) p =
    elim (same_labels x.0 y.labels) as (λ b. (if b then Some zero else next_place (place_in x.0 (label_sets ys))) ≡ None → (if b then before_all (grown n x.1 y) ys else behind y (placed room n x ys)) ≡ begun room (new_series n x) (y ∷ ys)) [
      | true ↦ λ q. absurd (let z : Some zero ≡ None = q in cc)
      | false ↦ λ q. ap (behind y) (placed_last room n x ys (none_of (place_in x.0 (label_sets ys)) q)) ∙ behind_begun room y (new_series n x) ys
    ] p

-- a place is below the length
pub place_below : (l : Labels) (ls : List Labels) (i : ℕ) → place_in l ls ≡ Some i → i < length ls
place_below l [] i p = absurd (let z : None ≡ Some i = p in cc)
place_below l (m ∷ ms) i p =
    elim (same_labels l m) as (λ b. (if b then Some zero else next_place (place_in l ms)) ≡ Some i → i < length (m ∷ ms)) [
      | true ↦ λ q. let z : zero ≡ i = cc in omega (arith, z)
      | false ↦ λ q. below_next (place_in l ms) i (length ms) q (λ j k. place_below l ms j k)
    ] p
  where
    below_next : (o : Option ℕ) (i n : ℕ) → next_place o ≡ Some i → ((j : ℕ) → o ≡ Some j → j < n) → i < suc n
    below_next None i n q f = absurd (let z : None ≡ Some i = q in cc)
    below_next (Some j) i n q f = let z : suc j ≡ i = cc in let k : j < n = f j refl in omega (arith, z, k)

-- a refused batch stays refused
pub refused_stays : (n : ℕ) (floor : ℤ) (xs : List Entry) → added_each n floor None xs ≡ None
refused_stays n floor [] = refl
refused_stays n floor (x ∷ xs) = refl

-- a sample that is refused refuses the batch
pub refused_at : (n : ℕ) (floor : ℤ) (xs : List Entry) (head : List HeadSeries) (i : ℕ) (d : Entry) → i < length xs → added n floor (get_or xs i d) head ≡ None → added_each n floor (Some head) (drop i xs) ≡ None
refused_at n floor [] head i d l h = absurd (omega arith)
refused_at n floor (x ∷ xs) head zero d l h = ap (λ r. added_each n floor r xs) h ∙ refused_stays n floor xs
refused_at n floor (x ∷ xs) head (suc i) d l h = refused_at n floor xs head i d (omega arith) h

-- samples in two portions
pub each-append : (n : ℕ) (floor : ℤ) (r : Option (List HeadSeries)) (xs ys : List Entry) → added_each n floor r (xs ++ ys) ≡ added_each n floor (added_each n floor r xs) ys
each-append n floor r [] ys = refl
each-append n floor None (x ∷ xs) ys = sym (refused_stays n floor ys)
each-append n floor (Some head) (x ∷ xs) ys = each-append n floor (added n floor x head) xs ys

-- one sample of a run more
pub run_step : (n : ℕ) (floor : ℤ) (l : Labels) (ss : List (ℤ × ℤ)) (i : ℕ) (s : ℤ × ℤ) (head : List HeadSeries) (r : Option (List HeadSeries)) → i < length ss → s ≡ get_or ss i s → added n floor (l, s) head ≡ r → added_each n floor (Some head) (entries_in l (drop i ss)) ≡ added_each n floor r (entries_in l (drop (i + 1) ss))
run_step n floor l ss i s head r lt is step =
    ap (λ xs. added_each n floor (Some head) (entries_in l xs)) (drop-cons ss i s lt ∙ ap (λ (x : ℤ × ℤ). x ∷ drop (suc i) ss) (sym is))
    ∙ (λ j. added_each n floor (step j) (entries_in l (drop (sym (add-one i) j) ss)))

-- one run of a batch more
pub runs_step : (n : ℕ) (floor : ℤ) (runs : List Row) (i : ℕ) (run : Row) (head : List HeadSeries) (r : Option (List HeadSeries)) → i < length runs → run ≡ get_or runs i run → added_each n floor (Some head) (entries_in run.0 run.1) ≡ r → added_each n floor (Some head) (entries_of (drop i runs)) ≡ added_each n floor r (entries_of (drop (i + 1) runs))
runs_step n floor runs i run head r lt is step =
    ap (λ xs. added_each n floor (Some head) (entries_of xs)) (drop-cons runs i run lt ∙ ap (λ (x : Row). x ∷ drop (suc i) runs) (sym is))
    ∙ each-append n floor (Some head) (entries_in run.0 run.1) (entries_of (drop (suc i) runs))
    ∙ (λ j. added_each n floor (step j) (entries_of (drop (sym (add-one i) j) runs)))

pub got : (head : List HeadSeries) (i : ℕ) → i < length head → (e : HeadSeries) × (slice_get head i ≡ Some e)
got [] i l = absurd (omega arith)
got (e ∷ es) zero l = (e, refl)
got (e ∷ es) (suc i) l = got es i (omega arith)
