-- What the parts of written rows give the whole.
use Rattle.std.proofs.Common.{◌≡◌, ℕ, ℤ, ◌+◌, ◌<◌, add-one, List, [], ◌∷◌, ◌++◌, length, map, drop}
use Rattle.std.proofs.Common.{suc, drop-cons, get_or, true, Option, None, Some, option_map, refl}
use Rattle.std.proofs.Common.{sym}
use Rattle.std.proofs.Common.{ap, ◌∙◌, append_assoc, ne_eqb, String, Global, string_bytes}
use Rattle.std.specs.Prelude.{option_and_then}
use Rattle.std.proofs.lemmas.List.{map-append, length-append, length-map}
use Rattle.labels.specs.Pairs.{pairs_of}
use Rattle.labels.specs.Rows.{Row}
use Rattle.serde_json.specs.Data.{Data, Items, Members}
use Rattle.serde_json.specs.Find.{as_array, as_str}
use Rattle.serde_json.specs.Events.{items_len}
use Rattle.serde_json.specs.View.{view, items_view, members_view}
use Rattle.serde_json.specs.declared.value.Value.{Value}
use Rattle.requests.specs.Json.{has_members}
use Rattle.requests.specs.Rows.{WrittenRow, pair_bytes, text_pair, pairs_in, labels_at, samples_at}
use Rattle.requests.specs.Rows.{sample_in, pair_in, is_labelled, row_in, rows_in, IsRowOf}
use Rattle.requests.specs.Rows.{AreRowsOf, batch_of}

pub sample_unless : (d : Data) (ds : Items) → Some ds ≡ as_array d → (items_len ds ≡ 2 → ⊥)
    → sample_in d ≡ None
sample_unless d ds e n = rw (← e, ne_eqb (items_len ds) 2 n)

pub sample_when : (d : Data) (ds : Items) → Some ds ≡ as_array d → items_len ds ≡ 2 → sample_in d
    ≡ pair_in d
sample_when d ds e n = rw (← e, n)

pub row_when : (d : Data) (pairs : List (List ℕ × List ℕ)) (samples : List (ℤ × ℤ))
    → has_members 2 d ≡ true → Some pairs ≡ labels_at d
    → is_labelled pairs ≡ true → Some samples ≡ samples_at d → row_in d ≡ Some (pairs, samples)
row_when d pairs samples two labels labelled e = rw (two, ← labels, labelled, ← e)

pub zip_more : (written : List WrittenRow) (rows : List Row) (one : WrittenRow) (row : Row)
    → AreRowsOf written rows → IsRowOf one row
    → AreRowsOf (written ++ one ∷ []) (rows ++ row ∷ [])
zip_more [] [] one row p q = (q, tt)
zip_more [] (y ∷ ys) one row p q = absurd p
zip_more (x ∷ xs) [] one row p q = absurd p
zip_more (x ∷ xs) (y ∷ ys) one row p q = (p.0, zip_more xs ys one row p.1 q)

after_one : {A : Type 0} (done : List A) (one : A) (left : Option (List A))
    → option_map (λ rs. done ++ rs) (option_map (λ rs. one ∷ rs) left) ≡ option_map
    (λ rs. (done ++ one ∷ []) ++ rs) left
after_one done one None = refl
after_one done one (Some rs) = ap Some (sym (append_assoc done (one ∷ []) rs))

-- one more row
pub rows_turn : (values : List Value) (i : ℕ) (value : Value) (written : List WrittenRow)
    (rows next : List Row) (one : WrittenRow) (row : Row)
    → i < length values → value ≡ get_or values i value → AreRowsOf written rows
    → rows_in (items_view values) ≡ option_map (λ rs. written ++ rs) (rows_in
    (items_view (drop i values)))
    → row_in (view value) ≡ Some one → IsRowOf one row → next ≡ rows ++ row ∷ []
    → (w : List WrittenRow) × AreRowsOf w next × (rows_in (items_view values)
    ≡ option_map (λ rs. w ++ rs) (rows_in (items_view (drop (i + 1) values))))
rows_turn values i value written rows next one row lt at each so_far is made e =
    let here : rows_in (items_view (drop i values)) ≡ option_map (λ rs. one ∷ rs)
    (rows_in (items_view (drop (i + 1) values))) =
    rw (drop-cons values i value lt, add-one, ← at, is) in (
      written ++ one ∷ [],
      rw e (zip_more written rows one row each made),
      so_far
          ∙ ap (option_map (λ rs. written ++ rs)) here ∙ after_one written one _,
    )

-- how many samples are left before a row, and after it
pub left_turn : (rows : List Row) (i : ℕ) (row : Row) (samples : List (ℤ × ℤ))
    → i < length rows → row ≡ get_or rows i row → samples ≡ row.1
    → length (batch_of (drop i rows)) ≡ length samples + length (batch_of (drop (i + 1) rows))
left_turn rows i row samples lt at s =
    rw (drop-cons rows i row lt, add-one, ← at, s)
    (length-append (map (λ (s : ℤ × ℤ). (row.0, s)) row.1) (batch_of (drop (suc i) rows))
    ∙ ap (λ n. n + length (batch_of (drop (suc i) rows)))
    (length-map row.1 (λ (s : ℤ × ℤ). (row.0, s))))

pairs_head : (o : Option (List ℕ)) (name : List ℕ) (pair : List ℕ × List ℕ)
    (left : Option (List (List ℕ × List ℕ)))
    → Some pair ≡ option_map {U = List ℕ × List ℕ} (λ text. (name, text)) o
    → option_and_then (λ text. option_map (λ ps. (name, text) ∷ ps) left) o
    ≡ option_map (λ ps. pair ∷ ps) left
pairs_head None name pair left e = cc
pairs_head (Some text) name pair left e = let same : pair ≡ (name, text) = cc in rw same

-- one more pair
pub pairs_turn : (all : Members) (s t : List (String Global × Value)) (name : String Global)
    (value : Value) (pair : String Global × String Global)
    (done next : List (String Global × String Global)) → s ≡ (name, value) ∷ t
    → pairs_in all ≡ option_map (λ ps. pairs_of done ++ ps) (pairs_in (members_view s))
    → Some (pair_bytes pair) ≡ text_pair (string_bytes name) (view value)
    → next ≡ done ++ pair ∷ []
    → pairs_in all ≡ option_map (λ ps. pairs_of next ++ ps) (pairs_in (members_view t))
pairs_turn all s t name value pair done next first so_far one e =
    let here = pairs_head (as_str (view value)) (string_bytes name) (pair_bytes pair)
    (pairs_in (members_view t)) one in
    let grown : pairs_of next ≡ pairs_of done ++ pair_bytes pair ∷ [] = rw (e, map-append) in
    rw grown (so_far ∙ ap (λ l. option_map (λ ps. pairs_of done ++ ps) (pairs_in (members_view l)))
    first
    ∙ ap (option_map (λ ps. pairs_of done ++ ps)) here ∙ after_one (pairs_of done) _ _)
