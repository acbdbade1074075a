-- Lists that were read have whole references, which ascend.
use Rattle.std.proofs.Common.{◌≡◌, ℕ, zero, suc, ◌+◌, ◌*◌, ◌%◌, ◌<◌, Bool, true, false, ◌&&◌, eqb}
use Rattle.std.proofs.Common.{List, [], ◌∷◌, length, get_or, Ok, refl, ap, subst, arith}
use Rattle.std.specs.Prelude.{nat_lt}
use Rattle.std.specs.List.{All}
use Rattle.std.specs.List.Sorted.{IsStrictlyIncreasing}
use Rattle.std.specs.Borrow.{Bor}
use Rattle.std.proofs.lemmas.Bool.{ltb-true, eqb-true}
use Rattle.wire.specs.Reading.{number_at}
use Rattle.index_reader.specs.declared.error.IndexError.TheVariants.{Postings}
use Rattle.index_reader.specs.declared.offset_table.TableEntry.{TableEntry}
use Rattle.index_reader.specs.Reading.Steps.{each}
use Rattle.wire.specs.Outcome.{or_refused}
use Rattle.index_reader.specs.References.{references_in, IsList}
use Rattle.index_reader.specs.Layout.{rises}
use Rattle.index_reader.specs.Reading.Postings.{references_at, section_at, lists_at}
use Rattle.index_reader.specs.Seen.{bytes_of, table_seen}
use Rattle.index_reader.proofs.WalkLoops.{guard_ended}
use Rattle.wire.proofs.Steps.{bind_ok}
use Rattle.index_reader.proofs.Walks.{ok_is}

both : (p q : Bool) → (p && q) ≡ true → (p ≡ true) × (q ≡ true)
both true q h = (refl, h)
both false q h = absurd cc

rises_up : (xs : List ℕ) → rises nat_lt xs ≡ true → IsStrictlyIncreasing xs
unfolding rises
rises_up [] h k lt = absurd (omega arith)
rises_up (a ∷ []) h k lt = absurd (omega arith)
rises_up (a ∷ b ∷ rest) h zero lt = ltb-true a b (both (nat_lt a b) (rises nat_lt (b ∷ rest)) h).0
rises_up (a ∷ b ∷ rest) h (suc k) lt =
    let e : suc k + 1 ≡ suc (k + 1) = omega arith in
    rw e (rises_up (b ∷ rest) (both (nat_lt a b) (rises nat_lt (b ∷ rest)) h).1 k (omega arith))

list_sound : (content list : List ℕ) → references_at content ≡ Ok list → IsList list
unfolding references_at
list_sound content list h =
    let n = bind_ok (or_refused Postings (number_at 4 content)) _ list h in
    let g =
    guard_ended (eqb (length n.0.1) (4 * n.0.0)
    && rises nat_lt (references_in n.0.1)) Postings n.0.1 list n.2 in
    let p = both (eqb (length n.0.1) (4 * n.0.0)) (rises nat_lt (references_in n.0.1)) g.0 in
    let e = eqb-true _ _ p.0 in
    let whole : length n.0.1 % 4 ≡ 0 = omega (arith, e) in
    subst IsList g.1 (whole, rises_up (references_in n.0.1) p.1)

sound_each : (cs : List (List ℕ)) (ls : List (Bor (List ℕ)))
    → each references_at cs ≡ Ok (bytes_of ls) → (k : ℕ) (d : Bor (List ℕ)) → k < length ls
    → IsList (get_or ls k d).now
unfolding each
sound_each cs [] h k d lt = absurd (omega arith)
sound_each [] (l ∷ ls) h k d lt = absurd cc
sound_each (c ∷ cs) (l ∷ ls) h zero d lt =
    let x = bind_ok (references_at c) _ (bytes_of (l ∷ ls)) h in
    let xs = bind_ok (each references_at cs) _ (bytes_of (l ∷ ls)) x.2 in
    let f : x.0 ∷ xs.0 ≡ l.now ∷ bytes_of ls = ok_is (x.0 ∷ xs.0) (l.now ∷ bytes_of ls) xs.2 in
    let e : x.0 ≡ l.now = cc in
    subst IsList e (list_sound c x.0 x.1)
sound_each (c ∷ cs) (l ∷ ls) h (suc k) d lt =
    let x = bind_ok (references_at c) _ (bytes_of (l ∷ ls)) h in
    let xs = bind_ok (each references_at cs) _ (bytes_of (l ∷ ls)) x.2 in
    let f : x.0 ∷ xs.0 ≡ l.now ∷ bytes_of ls = ok_is (x.0 ∷ xs.0) (l.now ∷ bytes_of ls) xs.2 in
    let e : xs.0 ≡ bytes_of ls = cc in
    sound_each cs ls (rw e at xs.1) k d (omega arith)

pub lists_sound : (file : List ℕ) (to : ℕ) (table : List TableEntry) (lists : List (Bor (List ℕ)))
    → lists_at file to (table_seen table) ≡ Ok (bytes_of lists)
    → All (λ (l : Bor (List ℕ)). IsList l.now) lists
unfolding lists_at
lists_sound file to table lists h =
    let contents = bind_ok (each (section_at file to) (table_seen table)) _ (bytes_of lists) h in
    λ k d lt. sound_each contents.0 lists contents.2 k d lt

pub sound_lists : (cs ls : List (List ℕ)) → each references_at cs ≡ Ok ls → (k : ℕ) (d : List ℕ)
    → k < length ls → IsList (get_or ls k d)
unfolding each
sound_lists [] ls h k d lt = let e : [] ≡ ls = ok_is [] ls h in absurd (omega (arith, ap length e))
sound_lists (c ∷ cs) ls h k d lt =
    let x = bind_ok (references_at c) _ ls h in
    let xs = bind_ok (each references_at cs) _ ls x.2 in
    let e : x.0 ∷ xs.0 ≡ ls = ok_is (x.0 ∷ xs.0) ls xs.2 in
    subst (λ (ys : List (List ℕ)). k < length ys → IsList (get_or ys k d)) e (λ l. at_place x.0 xs.0
    (list_sound c x.0 x.1) (λ j q lj. sound_lists cs xs.0 xs.1 j q lj) k d l) lt
  where
    at_place : (x : List ℕ) (xs : List (List ℕ)) → IsList x
        → ((j : ℕ) (q : List ℕ) → j < length xs → IsList (get_or xs j q)) → (k : ℕ) (d : List ℕ)
        → k < suc (length xs) → IsList (get_or (x ∷ xs) k d)
    at_place x xs one more zero d lt = one
    at_place x xs one more (suc k) d lt = more k d (omega arith)
