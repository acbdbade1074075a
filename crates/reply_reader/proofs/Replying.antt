-- What the pieces of a reply's tree give the whole.
use Rattle.std.proofs.Common.{◌≡◌, ℕ, ◌+◌, ◌-◌, ◌<◌, ◌≤◌, Bool, true, false, List, [], ◌∷◌, ◌++◌, length, drop, get_or, Option, Some, None, option_map, string_bytes, refl, sym, ap, ◌∙◌, append_assoc, IsUtf8, Bor, arith}
use Rattle.std.specs.Prelude.{option_and_then, if◌then◌else◌, nat_eq}
use Rattle.std.specs.Ordering.{is_lt}
use Rattle.std.specs.FinMap.Entries.{is_sorted}
use Rattle.std.specs.Str.{is_utf8}
use Rattle.std.proofs.lemmas.Cmp.{nat_list_cmp_total}
use Rattle.std.proofs.lemmas.Str.{IsUtf8-from_is_utf8, is_utf8-from_IsUtf8}
use Rattle.std.proofs.lemmas.List.{append-nil, get_or-map, length-map}
use Rattle.serde_json.specs.Data.{Data}
use Rattle.serde_json.specs.Read.{read}
use Rattle.serde_json.specs.Find.{as_object, as_array, as_str}
use Rattle.serde_json.specs.View.{view, items_view, members_view}
use Rattle.serde_json.specs.declared.value.Value.{Value}
use Rattle.serde_json.proofs.Views.{Entry, items_len-items_view, members_len-members_view}
use Rattle.labels.specs.Labels.{Labels, text_cmp}
use Rattle.labels.specs.Pairs.{texts_of}
use Rattle.reply_reader.specs.Replies.{has_members, has_items, each_said, texts_said, tree_of}
use Rattle.reply_reader.proofs.Neighbours.{from_read, goes_on, stops, is_sorted-last}

pub counts_members : (n len : ℕ) (d : Data) (es : List Entry) → Some (members_view es) ≡ as_object d
    → len ≡ length es → nat_eq len n ≡ has_members n d
counts_members n len d es e l = rw (← e, members_len-members_view es, l)

pub counts_items : (n len : ℕ) (d : Data) (vs : List Value) → Some (items_view vs) ≡ as_array d
    → len ≡ length vs → nat_eq len n ≡ has_items n d
counts_items n len d vs e l = rw (← e, items_len-items_view vs, l)

pub tree_when : (bytes : List ℕ) (d : Data) → IsUtf8 bytes → read bytes ≡ Some d
    → tree_of bytes ≡ Some d
tree_when bytes d text e = rw (is_utf8-from_IsUtf8 bytes text, e)

unless_at : (bytes : List ℕ) (text : Bool) → is_utf8 bytes ≡ text
    → (IsUtf8 bytes → read bytes ≡ None) → (if text then read bytes else None) ≡ None
unless_at bytes true e none = none (IsUtf8-from_is_utf8 bytes e)
unless_at bytes false e none = refl

pub tree_unless : (bytes : List ℕ) → (IsUtf8 bytes → read bytes ≡ None) → tree_of bytes ≡ None
tree_unless bytes none = unless_at bytes (is_utf8 bytes) refl none

-- what was read so far, and what is left
abbrev pub with_left : {A : Type 0} → List A → Option (List A) → Option (List A)
with_left done left = option_map (λ xs. done ++ xs) left

with_one : {A : Type 0} (done : List A) (x : A) (left : Option (List A))
    → with_left done (option_map (λ xs. x ∷ xs) left) ≡ with_left (done ++ x ∷ []) left
with_one done x None = refl
with_one done x (Some xs) = ap Some (sym (append_assoc done (x ∷ []) xs))

-- one more item is read
pub item_more : {A : Type 0} (said : Data → Option A) (whole : Option (List A)) (vs : List Value)
    (i : ℕ) (v : Value) (done next : List A) (x : A) → i < length vs → v ≡ get_or vs i v
    → said (view v) ≡ Some x → next ≡ done ++ x ∷ []
    → whole ≡ with_left done (each_said said (items_view (drop i vs)))
    → whole ≡ with_left next (each_said said (items_view (drop (i + 1) vs)))
item_more said whole vs i v done next x lt here is more so_far =
    let left = each_said said (items_view (drop (i + 1) vs)) in
    so_far
    ∙ ap (λ (us : List Value). with_left done (each_said said (items_view us)))
    (from_read vs i v lt here)
    ∙ ap (λ o. with_left done (option_and_then (λ x. option_map (λ xs. x ∷ xs) left) o)) is
    ∙ with_one done x left
    ∙ ap (λ ys. with_left ys left) (sym more)

-- one more member is read
pub member_more : (whole : Option Labels) (es left : List Entry) (e : Entry) (done next : Labels)
    (text : List ℕ) → es ≡ e ∷ left → Some text ≡ as_str (view e.1)
    → next ≡ done ++ (string_bytes e.0, text) ∷ []
    → whole ≡ with_left done (texts_said (members_view es))
    → whole ≡ with_left next (texts_said (members_view left))
member_more whole es left e done next text more is pushed so_far =
    let rest = texts_said (members_view left) in
    so_far
    ∙ ap (λ (us : List Entry). with_left done (texts_said (members_view us))) more
    ∙ ap (λ o. with_left done (option_and_then (λ text. option_map (λ pairs. (
      string_bytes e.0,
      text,
    ) ∷ pairs) rest) o)) (sym is)
    ∙ with_one done (string_bytes e.0, text) rest
    ∙ ap (λ ys. with_left ys rest) (sym pushed)

-- a member that is no text
pub member_unread : (whole : Option Labels) (es left : List Entry) (e : Entry) (done : Labels)
    → es ≡ e ∷ left → None ≡ as_str (view e.1)
    → whole ≡ with_left done (texts_said (members_view es)) → whole ≡ None
member_unread whole es left e done more is so_far =
    let rest = texts_said (members_view left) in
    so_far
    ∙ ap (λ (us : List Entry). with_left done (texts_said (members_view us))) more
    ∙ ap (λ o. with_left done (option_and_then (λ text. option_map (λ pairs. (
      string_bytes e.0,
      text,
    ) ∷ pairs) rest) o)) (sym is)

-- no member is left
pub members_read : (whole : Option Labels) (es : List Entry) (done : Labels) → es ≡ []
    → whole ≡ with_left done (texts_said (members_view es)) → whole ≡ Some done
members_read whole es done none so_far =
    so_far
    ∙ ap (λ (us : List Entry). with_left done (texts_said (members_view us))) none
    ∙ ap Some (append-nil done)

abbrev pub pair_now : Bor (List ℕ) × Bor (List ℕ) → List ℕ × List ℕ
pair_now p = (p.0.now, p.1.now)

-- the texts of the pair at a place
text_at : (ps : List (Bor (List ℕ) × Bor (List ℕ))) (i : ℕ) (d : Bor (List ℕ) × Bor (List ℕ))
    → i < length ps → pair_now (get_or ps i d) ≡ get_or (texts_of ps) i (pair_now (get_or ps i d))
text_at ps i d lt = sym (get_or-map pair_now ps i d (pair_now (get_or ps i d)) lt)

-- how a look at each name and the next goes on, and where it stops
pub names_go_on : (ps : List (Bor (List ℕ) × Bor (List ℕ))) (i : ℕ)
    (d e : Bor (List ℕ) × Bor (List ℕ)) (whole : Bool) → 0 < i → i < length ps
    → true ≡ is_lt (text_cmp (get_or ps (i - 1) d).0.now (get_or ps i e).0.now)
    → is_sorted text_cmp (drop (i - 1) (texts_of ps)) ≡ whole
    → is_sorted text_cmp (drop (i + 1 - 1) (texts_of ps)) ≡ whole
names_go_on ps i d e whole some lt less so_far =
    goes_on text_cmp nat_list_cmp_total (texts_of ps) i (pair_now (get_or ps (i - 1) d))
    (pair_now (get_or ps i e)) whole some (omega (arith, length-map ps pair_now))
    (text_at ps (i - 1) d (omega arith)) (text_at ps i e lt) (sym less) so_far

pub names_stop : (ps : List (Bor (List ℕ) × Bor (List ℕ))) (i : ℕ)
    (d e : Bor (List ℕ) × Bor (List ℕ)) (whole : Bool) → 0 < i → i < length ps
    → false ≡ is_lt (text_cmp (get_or ps (i - 1) d).0.now (get_or ps i e).0.now)
    → is_sorted text_cmp (drop (i - 1) (texts_of ps)) ≡ whole → false ≡ whole
names_stop ps i d e whole some lt less so_far =
    stops text_cmp nat_list_cmp_total (texts_of ps) i (pair_now (get_or ps (i - 1) d))
    (pair_now (get_or ps i e)) whole some (omega (arith, length-map ps pair_now))
    (text_at ps (i - 1) d (omega arith)) (text_at ps i e lt) (sym less) so_far

pub names_end : (ps : List (Bor (List ℕ) × Bor (List ℕ))) (i : ℕ) (whole : Bool) → length ps ≤ i
    → is_sorted text_cmp (drop (i - 1) (texts_of ps)) ≡ whole → true ≡ whole
names_end ps i whole past so_far =
    sym (is_sorted-last text_cmp (texts_of ps) i (omega (arith, length-map ps pair_now))) ∙ so_far
