-- No reply has a float, so its text is known to the byte.
use Rattle.std.proofs.Common.{◌≡◌, ℕ, Bool, true, false, List, [], ◌∷◌, refl, eqb, nat_cmp, Less, Equal, Greater}
use Rattle.std.specs.Prelude.{◌||◌, fold}
use Rattle.std.specs.declared.cmp.Ordering.{Ordering}
use Rattle.std.specs.Ordering.{match_ordering}
use Rattle.std.specs.Cmp.Lexicographic.{slice_cmp}
use Rattle.serde_json.specs.Data.{Data, number, unsigned, Members, no_members, member, put}
use Rattle.serde_json.specs.Written.{has_float, members_have_float}
use Rattle.remote_http.specs.Text.{build_data}
use Rattle.remote_http.specs.Told.{left_data, with_count}

neither : (a b : Bool) → (a || b) ≡ false → (a ≡ false) × (b ≡ false)
neither false b h = (refl, h)
neither true b h = let no : true ≡ false = h in absurd (cc)

by_order : (o : Ordering) (k : List ℕ) (d : Data) (l : List ℕ) (e : Data) (ms rest : Members) → has_float d ≡ false
    → has_float e ≡ false → members_have_float ms ≡ false → members_have_float rest ≡ false
    → members_have_float (match_ordering o (member k d (member l e ms)) (member l d ms) (member l e rest)) ≡ false
by_order Less k d l e ms rest f g h i = rw (f, g) h
by_order Equal k d l e ms rest f g h i = rw f h
by_order Greater k d l e ms rest f g h i = rw g i

put_has_none : (k : List ℕ) (d : Data) (ms : Members) → has_float d ≡ false → members_have_float ms ≡ false
    → members_have_float (put k d ms) ≡ false
put_has_none k d no_members f h = rw f refl
put_has_none k d (member l e ms) f h =
    let each = neither (has_float e) (members_have_float ms) h in
    by_order (slice_cmp nat_cmp k l) k d l e ms (put k d ms) f each.0 each.1 (put_has_none k d ms f each.1)

with_has_none : (ms : Members) (pair : List ℕ × ℕ) (b : Bool) → eqb pair.1 0 ≡ b → members_have_float ms ≡ false
    → members_have_float (with_count ms pair) ≡ false
with_has_none ms pair true e h = rw e h
with_has_none ms pair false e h = rw e (put_has_none pair.0 (number (unsigned pair.1)) ms refl h)

counts_have_none : (ms : Members) (counts : List (List ℕ × ℕ)) → members_have_float ms ≡ false
    → members_have_float (fold with_count ms counts) ≡ false
counts_have_none ms [] h = h
counts_have_none ms (pair ∷ counts) h =
    counts_have_none (with_count ms pair) counts (with_has_none ms pair (eqb pair.1 0) refl h)

pub no_float_in_left : (cause : List ℕ) (counts : List (List ℕ × ℕ)) (total : ℕ)
    → has_float (left_data cause counts total) ≡ false
no_float_in_left cause counts total = rw (counts_have_none no_members counts refl) refl

pub no_float_in_build : (version : List ℕ) → has_float (build_data version) ≡ false
no_float_in_build version = refl
