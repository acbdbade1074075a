-- What a writer has written of a listing.
use Rattle.std.proofs.Common.{◌≡◌, ◌<◌, ◌+◌, ℕ, List, [], ◌∷◌, ◌++◌, map, length, get_or, take, drop}
use Rattle.std.proofs.Common.{Option, None, Some, append_assoc, refl, sym, ap, ◌∙◌}
use Rattle.std.specs.Prelude.{Bool, flat_map, nat_lt}
use Rattle.std.specs.List.{take-map}
use Rattle.std.proofs.lemmas.List.{at_drop_more, length-map}
use Rattle.json.specs.Print.{print}
use Rattle.json.specs.Token.{Token}
use Rattle.json.specs.Written.{Written}
use Rattle.remote_listings.specs.Texts.{cut_to, is_cut, listing_text, success_tokens}
use Rattle.remote_listings.specs.Writing.{Adds, back_tokens, front_tokens}

-- one more of the items
pub tokens_turn : {X : Type 0} (g : X → List Token) (xs : List X) (i : ℕ) (x d : X)
    (first old new : List Token) → i < length xs → x ≡ get_or xs i d → new ≡ old ++ g x
    → old ++ flat_map g (drop i xs) ≡ first → new ++ flat_map g (drop (i + 1) xs) ≡ first
tokens_turn g xs i x d first old new h is moved before =
    ap (λ (ts : List Token). ts ++ flat_map g (drop (i + 1) xs)) moved
    ∙ append_assoc old (g x) (flat_map g (drop (i + 1) xs))
    ∙ ap (λ (y : _). old ++ (g y ++ flat_map g (drop (i + 1) xs))) is
    ∙ ap (λ (ts : List Token). old ++ ts) (sym (at_drop_more (flat_map g) xs i d h))
    ∙ before

-- a token, and then others
pub then_adds : (a b c : Written) (t : Token) (more : List Token) → b.before ≡ a.before
    → b.tokens ≡ a.tokens ++ t ∷ [] → Adds b c more → Adds a c (t ∷ more)
then_adds a b c t more e f m = record {
  before = m.before ∙ e;
  tokens =
      m.tokens ∙ ap (λ (ts : List Token). ts ++ more) f ∙ append_assoc a.tokens (t ∷ []) more;
}

-- tokens, and then others
pub both_add : (a b c : Written) (xs ys : List Token) → Adds a b xs → Adds b c ys
    → Adds a c (xs ++ ys)
both_add a b c xs ys e f = record {
  before = f.before ∙ e.before;
  tokens = f.tokens ∙ ap (λ (ts : List Token). ts ++ ys) e.tokens ∙ append_assoc a.tokens xs ys;
}

-- the whole text
pub text_written : {X : Type 0} (g : X → List Token) (limit : Option ℕ) (xs : List X)
    (a b c d : Written) (text : List ℕ) → a.before ≡ [] → a.tokens ≡ [] → Adds a b front_tokens
    → Adds b c (flat_map g (cut_to limit xs)) → Adds c d (back_tokens (is_cut limit xs))
    → text ≡ d.before ++ print d.tokens → text ≡ listing_text g limit xs
unfolding listing_text
text_written g limit xs a b c d text empty none front items back is =
    let before : d.before ≡ [] =
    back.before ∙ items.before ∙ front.before ∙ empty in
    let tokens : d.tokens
    ≡ success_tokens (flat_map g (cut_to limit xs)) (is_cut limit xs) =
    back.tokens
    ∙ ap (λ (ts : List Token). ts ++ back_tokens (is_cut limit xs))
    (items.tokens
    ∙ ap (λ (ts : List Token). ts ++ flat_map g (cut_to limit xs))
    (front.tokens ∙ ap (λ (ts : List Token). ts ++ front_tokens) none)) in
    is ∙ ap (λ (ts : List ℕ). ts ++ print d.tokens) before ∙ ap print tokens

flat_seen : {X Y : Type 0} (g : Y → List Token) (f : X → Y) (xs : List X)
    → flat_map (λ (x : X). g (f x)) xs ≡ flat_map g (map f xs)
flat_seen g f [] = refl
flat_seen g f (x ∷ xs) = ap (λ (ts : List Token). g (f x) ++ ts) (flat_seen g f xs)

cut_seen : {X Y : Type 0} (g : Y → List Token) (f : X → Y) (limit : Option ℕ) (xs : List X)
    → flat_map (λ (x : X). g (f x)) (cut_to limit xs) ≡ flat_map g (cut_to limit (map f xs))
cut_seen g f None xs = flat_seen g f xs
cut_seen g f (Some n) xs =
    flat_seen g f (take n xs) ∙ ap (flat_map g) (sym (take-map f n xs))

cut_same : {X Y : Type 0} (f : X → Y) (limit : Option ℕ) (xs : List X)
    → is_cut limit xs ≡ is_cut limit (map f xs)
cut_same f None xs = refl
cut_same f (Some n) xs = ap (nat_lt n) (sym (length-map xs f))

-- items that are seen by f
pub seen_text : {X Y : Type 0} (g : Y → List Token) (f : X → Y) (limit : Option ℕ) (xs : List X)
    → listing_text (λ (x : X). g (f x)) limit xs ≡ listing_text g limit (map f xs)
unfolding listing_text
seen_text g f limit xs =
    ap (λ (ts : List Token). print (success_tokens ts (is_cut limit xs))) (cut_seen g f limit xs)
    ∙ ap (λ (b : Bool). print (success_tokens (flat_map g (cut_to limit (map f xs))) b))
    (cut_same f limit xs)
