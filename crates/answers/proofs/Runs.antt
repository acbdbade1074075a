-- The text of rows in pieces, and the text of an answer around it.
use Rattle.std.proofs.Common.{◌≡◌, ◌<◌, ◌-◌, ℕ, List, [], ◌∷◌, ◌++◌, Vec, Global, length, take, drop, refl}
use Rattle.std.proofs.Common.{sym, ap, ap₂, ◌∙◌, append_assoc, append-nil, arith, take-append-drop}
use Rattle.std.specs.Prelude.{codes, flat_map, slice_range}
use Rattle.std.proofs.lemmas.Grind.{flat_map-append}
use Rattle.std.proofs.Math.Seq.{take-append_seam}
use Rattle.serde_json.specs.Written.{compact_text}
use Rattle.labels.specs.Rows.{Row}
use Rattle.cover.specs.declared.part_cover.PartAnswer.{PartAnswer}
use Rattle.block_search.specs.declared.answered.AnsweredPart.{AnsweredPart}
use Rattle.block_search.specs.declared.answered.AnsweredPart.TheVariants.{Searched}
use Rattle.answers.specs.Body.{body_text, json_list, part_data, row_data, searched_data}
use Rattle.answers.specs.Body.{interval_data, name_text}
use Rattle.json.specs.Print.{quoted}
use Rattle.answers.specs.AfterCommas.{after_commas, run_text, searched_front, searched_back}
use Rattle.answers.specs.AfterCommas.{with_bracket}
use Rattle.answers.specs.Joined.{joined}
use Rattle.answers.specs.Kept.{whole_of}
use Rattle.answers.specs.declared.text_pieces.AnswerText.{AnswerText}
use Rattle.answers.specs.declared.text_pieces.Spot.{Spot}
use Rattle.answers.proofs.Lists.{opened_later, first_and_rest}
use Rattle.answers.proofs.Objects.{searched_text, whole_text}

run_of_more : (first : ℕ) (xs ys : List Row) → 0 < length xs
    → run_text first (xs ++ ys) ≡ run_text first xs ++ after_commas row_data ys
run_of_more first [] ys some = absurd (omega (arith, some))
run_of_more first (x ∷ xs) ys some =
    ap (λ s. first ∷ (compact_text (row_data x) ++ s))
    (flat_map-append (λ (r : Row). codes "," ++ compact_text (row_data r)) xs ys)
    ∙ ap (λ s. first ∷ s)
    (sym (append_assoc (compact_text (row_data x)) (after_commas row_data xs)
    (after_commas row_data ys)))

run_after_comma : (ys : List Row) → 0 < length ys → run_text 44 ys ≡ after_commas row_data ys
run_after_comma [] some = absurd (omega (arith, some))
run_after_comma (y ∷ ys) some = refl

pub joined_more : (xs ys : List (Vec ℕ Global)) → joined (xs ++ ys) ≡ joined xs ++ joined ys
joined_more xs ys = flat_map-append (λ (piece : Vec ℕ Global). piece.items) xs ys

-- a run of rows, as two runs in pieces
pub run_halves : (first : ℕ) (last : List ℕ) (xs front back : List Row) (n : ℕ)
    (all ps qs : List (Vec ℕ Global)) → all ≡ ps ++ qs → front ≡ take n xs → back ≡ drop n xs
    → 0 < length front → 0 < length back
    → joined ps ≡ run_text first front ++ [] → joined qs ≡ run_text 44 back ++ last
    → joined all ≡ run_text first xs ++ last
run_halves first last xs front back n all ps qs is early late some more p q =
    ap joined is ∙ joined_more ps qs
    ∙ ap₂ (λ (s t : List ℕ). s ++ t) (p ∙ append-nil (run_text first front))
    (q ∙ ap (λ s. s ++ last) (run_after_comma back more))
    ∙ sym (append_assoc (run_text first front) (after_commas row_data back) last)
    ∙ ap (λ s. s ++ last) (sym (run_of_more first front back some))
    ∙ ap (λ rows. run_text first rows ++ last)
    (ap₂ (λ (a b : List Row). a ++ b) early late ∙ take-append-drop n xs)

-- a run between brackets is a list
pub run_is_list : (rows : List Row) → run_text 91 rows ++ 93 ∷ [] ≡ json_list row_data rows
run_is_list rows = opened_later row_data rows

-- what is told of a part, around its rows
pub searched_around : (a : PartAnswer) → compact_text (searched_data a)
    ≡ searched_front a ++ (json_list row_data a.rows.items ++ searched_back a)
searched_around a =
    searched_text a
    ∙ sym (around (codes "{\"intervals\":") (json_list interval_data a.cover.certificate.items)
    (codes ",\"part\":") (quoted (name_text a.part)) (codes ",\"rows\":")
    (json_list row_data a.rows.items ++ searched_back a))
  where
    around : (a b c d e s : List ℕ) → (a ++ (b ++ (c ++ (d ++ e)))) ++ s
        ≡ a ++ (b ++ (c ++ (d ++ (e ++ s))))
    around a b c d e s = simp append_assoc

-- what brackets make of a text does not depend on what stands behind its first byte
kept_behind : (first x : ℕ) (front xs more : List ℕ) → with_bracket first ((front ++ x ∷ xs) ++ more)
    ≡ with_bracket first (front ++ x ∷ xs) ++ more
kept_behind first x [] xs more = refl
kept_behind first x (y ∷ ys) xs more = refl

into_parts : (a f r b l : List ℕ) → a ++ ((44 ∷ (f ++ (r ++ b))) ++ l) ≡ (a ++ 44 ∷ f) ++ ((r ++ b) ++ l)
into_parts a f r b l = simp append_assoc

regroup : (p w r b l m e : List ℕ) → (p ++ w) ++ (r ++ ((b ++ (l ++ 93 ∷ m)) ++ (r ++ e)))
    ≡ p ++ (((w ++ ((r ++ b) ++ l)) ++ 93 ∷ []) ++ (m ++ (r ++ e)))
regroup p w r b l m e = simp append_assoc

-- the list of parts around the rows of one of them
list_around : (before later : List AnsweredPart) (a : PartAnswer)
    → json_list part_data (before ++ Searched a ∷ later)
    ≡ (with_bracket 91 (after_commas part_data before ++ 44 ∷ searched_front a)
    ++ ((json_list row_data a.rows.items ++ searched_back a) ++ after_commas part_data later))
    ++ 93 ∷ []
list_around before later a =
    let rows = json_list row_data a.rows.items in
    sym (opened_later part_data (before ++ Searched a ∷ later))
    ∙ ap (λ s. with_bracket 91 s ++ 93 ∷ [])
    (flat_map-append (λ (part : AnsweredPart). codes "," ++ compact_text (part_data part)) before
    (Searched a ∷ later)
    ∙ ap (λ s. after_commas part_data before ++ ((44 ∷ s) ++ after_commas part_data later))
    (searched_around a)
    ∙ into_parts (after_commas part_data before) (searched_front a) rows (searched_back a)
    (after_commas part_data later))
    ∙ ap (λ s. s ++ 93 ∷ [])
    (kept_behind 91 44 (after_commas part_data before) (searched_front a)
    ((rows ++ searched_back a) ++ after_commas part_data later))

-- the text of an answer whose rows are those of one part
pub one_spelled : (before later : List AnsweredPart) (a : PartAnswer) (front rows between : List ℕ)
    → front ≡ codes "{\"parts\":"
    ++ with_bracket 91 (after_commas part_data before ++ 44 ∷ searched_front a)
    → rows ≡ json_list row_data a.rows.items
    → between ≡ searched_back a ++ (after_commas part_data later ++ codes "],\"rows\":")
    → front ++ (rows ++ (between ++ (rows ++ codes "}")))
    ≡ body_text (before ++ Searched a ∷ later) a.rows.items
one_spelled before later a front rows between f r b =
    rw (f, r, b) (regroup (codes "{\"parts\":")
    (with_bracket 91 (after_commas part_data before ++ 44 ∷ searched_front a))
    (json_list row_data a.rows.items) (searched_back a) (after_commas part_data later)
    (codes ",\"rows\":") (codes "}")
    ∙ ap (λ s. codes "{\"parts\":" ++ (s ++ (codes ",\"rows\":"
    ++ (json_list row_data a.rows.items ++ codes "}")))) (sym (list_around before later a))
    ∙ sym (whole_text (before ++ Searched a ∷ later) a.rows.items))

-- the text of an answer with rows of all parts behind it
pub all_spelled : (parts : List AnsweredPart) (of_all : List Row) (front rows : List ℕ)
    → front ≡ codes "{\"parts\":" ++ (json_list part_data parts ++ codes ",\"rows\":")
    → rows ≡ json_list row_data of_all
    → front ++ (rows ++ codes "}") ≡ body_text parts of_all
all_spelled parts of_all front rows f r =
    rw (f, r) (joined_all (codes "{\"parts\":") (json_list part_data parts) (codes ",\"rows\":")
    (json_list row_data of_all ++ codes "}") ∙ sym (whole_text parts of_all))
  where
    joined_all : (a b c d : List ℕ) → (a ++ (b ++ c)) ++ d ≡ a ++ (b ++ (c ++ d))
    joined_all a b c d = simp append_assoc

-- the text that these pieces make
pub whole_of_new : (text : AnswerText) (pieces : List (Vec ℕ Global)) (spot : Spot)
    → text.pieces.items ≡ pieces → text.again ≡ spot
    → whole_of text ≡ joined pieces ++ (joined (slice_range pieces spot.from spot.until) ++ codes "}")
whole_of_new text pieces spot p s =
    ap₂ (λ (ps : List (Vec ℕ Global)) (at : Spot).
    joined ps ++ (joined (slice_range ps at.from at.until) ++ codes "}")) p s

-- pieces of which nothing comes once more
pub once_spelled : (pieces rows : List (Vec ℕ Global)) (text : Vec ℕ Global)
    → pieces ≡ text ∷ rows
    → joined pieces ++ (joined (slice_range pieces 0 0) ++ codes "}")
    ≡ text.items ++ (joined rows ++ codes "}")
once_spelled pieces rows text is =
    rw is (append_assoc text.items (joined rows) (codes "}"))

told : (t r b e : List ℕ) → (t ++ (r ++ (b ++ []))) ++ (r ++ e) ≡ t ++ (r ++ (b ++ (r ++ e)))
told t r b e = simp (append_assoc, append-nil)

rows_again : (text between : Vec ℕ Global) (rows : List (Vec ℕ Global)) (until : ℕ)
    → until ≡ length (text ∷ rows)
    → slice_range ((text ∷ rows) ++ between ∷ []) 1 until ≡ rows
rows_again text between rows until n =
    let count : until - 1 ≡ length rows = omega (arith, n) in
    ap (λ k. take k (rows ++ between ∷ [])) count ∙ take-append_seam rows (between ∷ [])

-- pieces of which rows come once more
pub twice_spelled : (pieces rows : List (Vec ℕ Global)) (text between : Vec ℕ Global) (until : ℕ)
    → pieces ≡ (text ∷ rows) ++ between ∷ [] → until ≡ length (text ∷ rows)
    → joined pieces ++ (joined (slice_range pieces 1 until) ++ codes "}")
    ≡ text.items ++ (joined rows ++ (between.items ++ (joined rows ++ codes "}")))
twice_spelled pieces rows text between until is n =
    rw is (ap₂ (λ (s : List ℕ) (again : List (Vec ℕ Global)).
    (text.items ++ s) ++ (joined again ++ codes "}")) (joined_more rows (between ∷ []))
    (rows_again text between rows until n)
    ∙ told text.items (joined rows) between.items (codes "}"))

-- one piece more
joined_one : (ps : List (Vec ℕ Global)) (p : Vec ℕ Global)
    → joined (ps ++ p ∷ []) ≡ joined ps ++ p.items
joined_one ps p =
    joined_more ps (p ∷ []) ∙ ap (λ s. joined ps ++ s) (append-nil p.items)

-- what is told of a part that was searched, behind a byte
pub searched_pieces : (first : ℕ) (a : PartAnswer) (front back : Vec ℕ Global)
    (rows all : List (Vec ℕ Global)) → front.items ≡ first ∷ searched_front a
    → joined rows ≡ json_list row_data a.rows.items → back.items ≡ searched_back a
    → all ≡ (front ∷ rows) ++ back ∷ [] → joined all ≡ first ∷ compact_text (searched_data a)
searched_pieces first a front back rows all f r b is =
    ap joined is ∙ joined_one (front ∷ rows) back
    ∙ rw (f, r, b) (ap (λ s. first ∷ s)
    (append_assoc (searched_front a) (json_list row_data a.rows.items) (searched_back a)
    ∙ sym (searched_around a)))

-- pieces more, of which the text is told
pub pieces_more : (ps more all : List (Vec ℕ Global)) (text : List ℕ)
    → all ≡ ps ++ more → joined more ≡ text → joined all ≡ joined ps ++ text
pieces_more ps more all text is t =
    ap joined is ∙ joined_more ps more ∙ ap (λ s. joined ps ++ s) t

listed_again : (o c a : List ℕ) → ((o ++ 91 ∷ c) ++ a) ++ 93 ∷ []
    ≡ o ++ 91 ∷ (c ++ (a ++ 93 ∷ []))
listed_again o c a = simp append_assoc

-- the list of parts behind a text
pub list_more : (old n1 n2 n3 : List ℕ) (one : AnsweredPart) (later parts : List AnsweredPart)
    → parts ≡ one ∷ later → n1 ≡ old ++ 91 ∷ compact_text (part_data one)
    → n2 ≡ n1 ++ after_commas part_data later → n3 ≡ n2 ++ 93 ∷ []
    → n3 ≡ old ++ json_list part_data parts
list_more old n1 n2 n3 one later parts is h1 h2 h3 =
    rw (h3, h2, h1, is) (listed_again old (compact_text (part_data one))
    (after_commas part_data later)
    ∙ ap (λ s. old ++ s) (first_and_rest part_data one later))
