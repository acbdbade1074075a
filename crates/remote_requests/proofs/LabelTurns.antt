-- What the labels of a series give, one after another, and as a set.
use Rattle.std.proofs.Common.{◌≡◌, ◌<◌, ◌+◌, ℕ, List, [], ◌∷◌, ◌++◌, length, map, take, drop}
use Rattle.std.proofs.Common.{get_or, true, false, Bool, Option, None, Some, Result, Ok, Err, refl}
use Rattle.std.proofs.Common.{IfSome, IfNone, sym, ap, ◌∙◌, subst, codes}
use Rattle.std.specs.Prelude.{◌&&◌, nat_lt, if◌then◌else◌}
use Rattle.std.specs.List.{list_all}
use Rattle.std.proofs.Common.{IsUtf8, String, Global, string_bytes}
use Rattle.labels.specs.Pairs.{pairs_of}
use Rattle.std.proofs.lemmas.List.{map-append}
use Rattle.std.proofs.lemmas.List.Folds.{list_all-append}
use Rattle.labels.specs.declared.error.LabelError.{LabelError}
use Rattle.labels.specs.declared.error.LabelError.TheVariants as labels
use Rattle.labels.specs.Labels.{Labels}
use Rattle.labels.specs.LabelSets.{refusal_of, IsMadeOf}
use Rattle.remote_write.specs.Reading.{label_seen}
use Rattle.remote_write.specs.declared.label.Label.{Label}
use Rattle.remote_requests.specs.declared.left.LeftOut.TheVariants as reasons
use Rattle.remote_requests.specs.Names.{may_name_metric, names_metric}
use Rattle.remote_requests.specs.Series.{is_text_pair, label_pair, label_pairs, bytes_in}
use Rattle.remote_requests.specs.Series.{labels_refused, pairs_refused, label_reason, IsLabelled}
use Rattle.remote_requests.proofs.Lists.{map_turn, parted}
use Rattle.remote_requests.proofs.ReadTurns.{both_texts}

-- one label more
pub pairs_more : (xs : List Label) (i : ℕ) (x d : Label) → i < length xs → x ≡ get_or xs i d
    → label_pairs (map label_seen (take (i + 1) xs))
    ≡ label_pairs (map label_seen (take i xs)) ++ label_pair (label_seen x) ∷ []
pairs_more xs i x d lt at =
    ap label_pairs (map_turn label_seen xs i x d lt at)
    ∙ map-append label_pair (map label_seen (take i xs)) (label_seen x ∷ [])

all_but : {X : Type 0} (p : X → Bool) (front : List X) (x : X) (back : List X) → p x ≡ false
    → list_all p (front ++ x ∷ back) ≡ false
all_but p [] x back e = rw e refl
all_but p (y ∷ front) x back e = at (p y) (all_but p front x back e)
  where
    at : (b : Bool) → list_all p (front ++ x ∷ back) ≡ false
        → (b && list_all p (front ++ x ∷ back)) ≡ false
    at true more = more
    at false more = refl

-- a label that is no UTF-8
pub pairs_fault : (xs : List Label) (i : ℕ) (x d : Label) → i < length xs → x ≡ get_or xs i d
    → is_text_pair (label_pair (label_seen x)) ≡ false
    → list_all is_text_pair (label_pairs (map label_seen xs)) ≡ false
pairs_fault xs i x d lt at e =
    let whole : label_pairs (map label_seen xs)
    ≡ label_pairs (map label_seen (take i xs))
    ++ (label_pair (label_seen x) ∷ label_pairs (map label_seen (drop (i + 1) xs))) =
    ap label_pairs (parted label_seen xs i x d lt at)
    ∙ map-append label_pair (map label_seen (take i xs))
    (label_seen x ∷ map label_seen (drop (i + 1) xs)) in
    rw whole (all_but is_text_pair (label_pairs (map label_seen (take i xs)))
    (label_pair (label_seen x)) (label_pairs (map label_seen (drop (i + 1) xs))) e)

-- a label that is UTF-8
pub texts_more : (front : List (List ℕ × List ℕ)) (pair : List ℕ × List ℕ)
    → list_all is_text_pair front ≡ true → is_text_pair pair ≡ true
    → list_all is_text_pair (front ++ pair ∷ []) ≡ true
texts_more front pair e f = list_all-append is_text_pair front (pair ∷ []) ∙ rw (e, f) refl

-- one pair more
pub pairs_turn : (xs : List Label) (i : ℕ) (x d : Label)
    (old new : List (String Global × String Global)) (name value : String Global)
    → i < length xs → x ≡ get_or xs i d
    → pairs_of old ≡ label_pairs (map label_seen (take i xs))
    → list_all is_text_pair (label_pairs (map label_seen (take i xs))) ≡ true
    → new ≡ old ++ (name, value) ∷ []
    → string_bytes name ≡ x.name.now → string_bytes value ≡ x.value.now
    → IsUtf8 x.name.now → IsUtf8 x.value.now
    → (pairs_of new ≡ label_pairs (map label_seen (take (i + 1) xs)))
    × (list_all is_text_pair (label_pairs (map label_seen (take (i + 1) xs))) ≡ true)
pairs_turn xs i x d old new name value lt at so_far texts e same_name same_value text other =
    let more = pairs_more xs i x d lt at in
    let pair : (string_bytes name, string_bytes value) ≡ label_pair (label_seen x) = cc in
    let grown : pairs_of new ≡ pairs_of old ++ (string_bytes name, string_bytes value) ∷ [] =
    rw (e, map-append) in (
      grown ∙ ap (λ (ps : List (List ℕ × List ℕ)). ps ++ (string_bytes name, string_bytes value)
          ∷ []) so_far
          ∙ ap (λ (p : List ℕ × List ℕ). label_pairs (map label_seen (take i xs)) ++ p ∷ []) pair
          ∙ sym more,
      rw more (texts_more (label_pairs (map label_seen (take i xs))) (label_pair (label_seen x)) texts
          (both_texts x.name.now x.value.now text other)),
    )

at_refusal : (pairs : List (List ℕ × List ℕ)) → nat_lt 65536 (bytes_in pairs) ≡ false
    → list_all is_text_pair pairs ≡ true
    → labels_refused pairs ≡ pairs_refused (refusal_of pairs) pairs
at_refusal pairs short texts = rw (short, texts) refl

-- what a maker of label sets refuses
abbrev RefusedAs : Result Labels LabelError → Option LabelError → Type 0
RefusedAs answer r = IfSome r (λ e. answer ≡ Err e)

set_at : (pairs : List (List ℕ × List ℕ)) (set : Labels) (r : Option LabelError)
    → RefusedAs (Ok set) r → IfNone r (IsMadeOf set pairs)
    → (pairs_refused r pairs ≡ (if names_metric set then None else Some reasons.BadMetric))
    × IsMadeOf set pairs
set_at pairs set (Some e) refused made = absurd (cc)
set_at pairs set None refused made = (
  ap (λ (text : List ℕ). if may_name_metric text then None else Some reasons.BadMetric)
      (sym (made.values (codes "__name__"))),
  made,
)

-- the set of labels that name a metric or none
pub set_made : (texts pairs : List (List ℕ × List ℕ)) (set : Labels) → texts ≡ pairs
    → false ≡ nat_lt 65536 (bytes_in pairs) → list_all is_text_pair pairs ≡ true
    → RefusedAs (Ok set) (refusal_of texts) → IfNone (refusal_of texts) (IsMadeOf set texts)
    → true ≡ names_metric set → IsLabelled pairs (Ok set)
set_made texts pairs set same short all refused made metric =
    let r = subst (λ (q : List (List ℕ × List ℕ)). RefusedAs (Ok set) (refusal_of q)) same refused
    in
    let m = subst (λ (q : List (List ℕ × List ℕ)). IfNone (refusal_of q) (IsMadeOf set q)) same made
    in
    let at = set_at pairs set (refusal_of pairs) r m in (
      at_refusal pairs (sym short) all ∙ at.0
          ∙ ap (λ (b : Bool). if b then None else Some reasons.BadMetric) (sym metric),
      at.1,
    )

-- of labels that name none
pub set_unnamed : (texts pairs : List (List ℕ × List ℕ)) (set : Labels) → texts ≡ pairs
    → false ≡ nat_lt 65536 (bytes_in pairs) → list_all is_text_pair pairs ≡ true
    → RefusedAs (Ok set) (refusal_of texts) → IfNone (refusal_of texts) (IsMadeOf set texts)
    → false ≡ names_metric set → IsLabelled pairs (Err reasons.BadMetric)
set_unnamed texts pairs set same short all refused made metric =
    let r = subst (λ (q : List (List ℕ × List ℕ)). RefusedAs (Ok set) (refusal_of q)) same refused
    in
    let m = subst (λ (q : List (List ℕ × List ℕ)). IfNone (refusal_of q) (IsMadeOf set q)) same made
    in
    let at = set_at pairs set (refusal_of pairs) r m in
    at_refusal pairs (sym short) all ∙ at.0
    ∙ ap (λ (b : Bool). if b then None else Some reasons.BadMetric) (sym metric)

error_at : (pairs : List (List ℕ × List ℕ)) (x : LabelError) (r : Option LabelError)
    → RefusedAs (Err x) r → IfNone r (x ≡ labels.Memory) → (x ≡ labels.Memory → ⊥)
    → pairs_refused r pairs ≡ Some (label_reason x)
error_at pairs x (Some e) refused made other =
    let same : e ≡ x = cc in ap (λ (y : LabelError). Some (label_reason y)) same
error_at pairs x None refused made other = absurd (other made)

pub set_refused : (texts pairs : List (List ℕ × List ℕ)) (x y : LabelError) → texts ≡ pairs
    → false ≡ nat_lt 65536 (bytes_in pairs) → list_all is_text_pair pairs ≡ true → x ≡ y
    → RefusedAs (Err x) (refusal_of texts) → IfNone (refusal_of texts) (x ≡ labels.Memory)
    → (y ≡ labels.Memory → ⊥) → IsLabelled pairs (Err (label_reason y))
set_refused texts pairs x y same short all is refused made other =
    let r = subst (λ (q : List (List ℕ × List ℕ)). RefusedAs (Err x) (refusal_of q)) same refused
    in
    let m = subst (λ (q : List (List ℕ × List ℕ)). IfNone (refusal_of q) (x ≡ labels.Memory)) same
    made in
    at_refusal pairs (sym short) all
    ∙ error_at pairs x (refusal_of pairs) r m (λ e. other (sym is ∙ e))
    ∙ ap (λ (z : LabelError). Some (label_reason z)) is
