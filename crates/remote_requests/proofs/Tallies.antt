-- What one reason more does to a tally.
use Rattle.std.proofs.Common.{◌≡◌, ◌≢◌, ◌<◌, ◌≤◌, ◌+◌, ◌-◌, ◌^◌, ℕ, zero, suc, List, [], ◌∷◌, ◌++◌}
use Rattle.std.proofs.Common.{length, get_or, sym, ap, ◌∙◌, refl, subst, append_assoc, arith, Bool}
use Rattle.std.proofs.Common.{true, false, Option}
use Rattle.std.specs.Prelude.{◌==◌, if◌then◌else◌, min}
use Rattle.std.proofs.lemmas.Bool.{eqb-true, eqb-false}
use Rattle.std.proofs.lemmas.List.{append-nil, length-append, get_or-set_same, get_or-set_other}
use Rattle.std.proofs.Math.ListN.{set}
use Rattle.remote_requests.specs.declared.left.LeftOut.{LeftOut}
use Rattle.remote_requests.specs.declared.left.Left.{Left}
use Rattle.remote_requests.specs.Left.{place_of, how_many, first_of_reasons, first_after, times}
use Rattle.remote_requests.specs.Left.{IsTally, Adds}

pub adds_nothing : (left : Left) → Adds left left []
adds_nothing left before room tally = subst (IsTally left) (sym (append-nil before)) tally

pub adds_then : (a b c : Left) (xs ys : List LeftOut) → Adds a b xs → Adds b c ys
    → Adds a c (xs ++ ys)
adds_then a b c xs ys p q before room tally =
    let all : length before + (length xs + length ys) < 2 ^ 64 =
    omega (arith, room, length-append xs ys) in
    let first : length before + length xs < 2 ^ 64 = omega (arith, all) in
    let second : length (before ++ xs) + length ys < 2 ^ 64 =
    omega (arith, all, length-append before xs) in
    subst (IsTally c) (append_assoc before xs ys) (q (before ++ xs) second (p before first tally))

pub length-times : (n : ℕ) (why : LeftOut) → length (times n why) ≡ n
length-times zero why = refl
length-times (suc n) why = ap suc (length-times n why)

how_many-append : (place : ℕ) (xs ys : List LeftOut)
    → how_many place (xs ++ ys) ≡ how_many place xs + how_many place ys
how_many-append place [] ys = omega arith
how_many-append place (x ∷ xs) ys =
    let step = how_many-append place xs ys in
    omega (arith, step)

how_many-times : (place n : ℕ) (why : LeftOut) (b : Bool) → (place_of why == place) ≡ b
    → how_many place (times n why) ≡ (if b then n else 0)
how_many-times place zero why true e = refl
how_many-times place zero why false e = refl
how_many-times place (suc n) why true e =
    let step = how_many-times place n why true e in rw e (omega (arith, step))
how_many-times place (suc n) why false e =
    let step = how_many-times place n why false e in rw e (omega (arith, step))

pub how_many-le : (place : ℕ) (xs : List LeftOut) → how_many place xs ≤ length xs
how_many-le place [] = omega arith
how_many-le place (x ∷ xs) = at (place_of x == place) (how_many-le place xs)
  where
    at : (b : Bool) → how_many place xs ≤ length xs
        → (if b then 1 else 0) + how_many place xs ≤ suc (length xs)
    at true le = omega (arith, le)
    at false le = omega (arith, le)

first_at : (before : List LeftOut) (n : ℕ) (why : LeftOut) → 0 < n
    → first_after (first_of_reasons before) why ≡ first_of_reasons (before ++ times n why)
first_at [] zero why some = absurd (omega arith)
first_at [] (suc n) why some = refl
first_at (x ∷ before) n why some = refl

counts_at : (old : List ℕ) (before : List LeftOut) (why : LeftOut) (n v place : ℕ) (b : Bool)
    → (place_of why == place) ≡ b → place_of why < length old
    → length before + n < 2 ^ 64
    → v ≡ min (get_or old (place_of why) 0 + n) (2 ^ 64 - 1)
    → ((p : ℕ) → get_or old p 0 ≡ how_many p before)
    → get_or (set old (place_of why) v) place 0 ≡ how_many place (before ++ times n why)
counts_at old before why n v place true e within room is tally =
    let same : place_of why ≡ place = eqb-true (place_of why) place e in
    let had = tally (place_of why) in
    let few = how_many-le (place_of why) before in
    let all : v ≡ get_or old (place_of why) 0 + n = omega (arith, is, had, few, room) in
    let new = how_many-append place before (times n why) in
    let more = how_many-times place n why true e in
    rw (← same) (get_or-set_same old (place_of why) v 0 within ∙ all
    ∙ omega (arith, had, rw (← same) at new, rw (← same) at more))
counts_at old before why n v place false e within room is tally =
    let other : place ≢ place_of why = λ same. eqb-false (place_of why) place e (sym same) in
    let new = how_many-append place before (times n why) in
    let more = how_many-times place n why false e in
    get_or-set_other old (place_of why) place v 0 other ∙ omega (arith, tally place, new, more)

-- so many more for one reason
pub adds_many : (old new : Left) (why : LeftOut) (n v : ℕ) → 0 < n
    → place_of why < length old.counts
    → v ≡ min (get_or old.counts (place_of why) 0 + n) (2 ^ 64 - 1)
    → new.counts ≡ set old.counts (place_of why) v
    → new.first ≡ first_after old.first why
    → Adds old new (times n why)
adds_many old new why n v some within is counts first before room tally =
    let len : length before + n < 2 ^ 64 = omega (arith, room, length-times n why) in record {
      first =
          first ∙ ap (λ (o : Option LeftOut). first_after o why) tally.first
          ∙ first_at before n why some;
      counts = λ place. rw counts (counts_at old.counts before why n v place
          (place_of why == place) refl within len is tally.counts);
    }

pub adds_none : (old new : Left) (why : LeftOut) (n : ℕ) → n ≡ 0 → new ≡ old
    → Adds old new (times n why)
adds_none old new why n e same = rw (e, same) (adds_nothing old)

pub adds_at : (old : Left) (why : LeftOut) (first : Option LeftOut) (n v place : ℕ) → 0 < n
    → place ≡ place_of why → place < length old.counts
    → v ≡ min (get_or old.counts place 0 + n) (2 ^ 64 - 1) → first ≡ first_after old.first why
    → Adds old (record { first = first; counts = set old.counts place v }) (times n why)
adds_at old why first n v place some at within is begins =
    let new : Left = record { first = first; counts = set old.counts place v } in
    let here : place_of why < length old.counts = omega (arith, at, within) in
    let value : v ≡ min (get_or old.counts (place_of why) 0 + n) (2 ^ 64 - 1) =
    is ∙ ap (λ (p : ℕ). min (get_or old.counts p 0 + n) (2 ^ 64 - 1)) at in
    adds_many old new why n v some here value (ap (λ (p : ℕ). set old.counts p v) at) begins
