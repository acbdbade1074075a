-- What selectors give, one after another.
use Rattle.std.proofs.Common.{◌≡◌, ◌<◌, ◌+◌, ℕ, ℤ, List, [], ◌∷◌, ◌++◌, length, map, take, drop}
use Rattle.std.proofs.Common.{get_or, Option, None, Some, Result, Ok, Err, refl, sym, ap, ◌∙◌, inr, arith, true, cond, string_bytes, subst}
use Rattle.std.specs.List.{AllZip, cons_option, filter_map}
use Rattle.matchers.specs.declared.error.SelectorError.{SelectorError}
use Rattle.matchers.specs.declared.error.SelectorError.TheVariants as errors
use Rattle.matchers.specs.declared.limits.Limits.TheVariants.{Long}
use Rattle.matchers.specs.Limits.{IsAcceptedWithin, IsRefusalWithin}
use Rattle.matchers.specs.Selectors.{OrMemory}
use Rattle.matchers.specs.Views.{MatcherView, QueryView}
use Rattle.std.proofs.lemmas.List.{at_drop_more}
use Rattle.std.specs.List.{filter}
use Rattle.std.specs.Prelude.{IsUtf8}
use Rattle.std.specs.Global.{Global}
use Rattle.std.specs.Str.{bytes_eq, is_utf8}
use Rattle.std.proofs.lemmas.Bool.{false_from_ne_true}
use Rattle.std.proofs.lemmas.Str.{IsUtf8-from_is_utf8, is_utf8-from_IsUtf8}
use Rattle.labels.specs.Names.{is_name}
use Rattle.std.specs.Prelude.{String}
use Rattle.labels.specs.Pairs.{pairs_of}
use Rattle.requests.specs.QueryStrings.{values_named}
use Rattle.remote_requests.specs.declared.asked.ReadError.{ReadError}
use Rattle.remote_requests.specs.declared.listings.Bounds.{Bounds}
use Rattle.remote_requests.specs.declared.refusal.Refusal.{Refusal}
use Rattle.remote_requests.specs.Asking.{AddsSelected, AreQueries, AreSelected, HasSelectorFault}
use Rattle.remote_requests.specs.Asking.{ListMeans, ListingMeans, SelectorsMean, WantedMeans}
use Rattle.remote_requests.specs.Asking.{pairs_asked, selector_error}
use Rattle.remote_requests.specs.Parameters.{Wanted, first_given, given, if_name, not_empty}
use Rattle.remote_requests.specs.Parameters.{bounds, bounds_for, bounds_of, end_in, enough}
use Rattle.remote_requests.specs.Parameters.{limit_in, start_in, wanted_of}
use Rattle.remote_requests.specs.Queries.{query_over}
use Rattle.remote_requests.specs.Writing.{Meaning, Told}
use Rattle.remote_requests.specs.declared.asked.Asked.{Asked}
use Rattle.remote_requests.specs.declared.asked.ReadError.TheVariants.{Closed, Lost, Memory}
use Rattle.remote_requests.specs.declared.asked.ReadError.TheVariants.{Refused}
use Rattle.remote_requests.specs.declared.path.Path.{Path}
use Rattle.remote_requests.proofs.Lists.{map_turn, parted, zip_more}

option_before : {A : Type 0} (o : Option A) (xs ys : List A)
    → cons_option o (xs ++ ys) ≡ cons_option o xs ++ ys
option_before None xs ys = refl
option_before (Some x) xs ys = refl

-- one more item that may give one
filter_more : {A B : Type 0} (g : A → Option B) (xs : List A) (x : A)
    → filter_map g (xs ++ x ∷ []) ≡ filter_map g xs ++ cons_option (g x) []
filter_more g [] x = refl
filter_more g (y ∷ xs) x =
    ap (cons_option (g y)) (filter_more g xs x)
    ∙ option_before (g y) (filter_map g xs) (cons_option (g x) [])

-- no selector yet
pub none_selected : (start end : ℤ) (queries : List QueryView) → queries ≡ []
    → AreSelected [] start end queries
none_selected start end queries e = record { selectors = []; each = tt; are = e }

selected_more : (texts : List (List ℕ)) (text : List ℕ) (start end : ℤ) (old new : List QueryView)
    → AreSelected texts start end old → AddsSelected text start end old new
    → AreSelected (texts ++ text ∷ []) start end new
selected_more texts text start end old new a add = record {
  selectors = a.selectors ++ add.matchers ∷ [];
  each = zip_more (IsAcceptedWithin Long) texts a.selectors text add.matchers a.each add.accepted;
  are =
      add.added
      ∙ ap (λ (queries : List QueryView). queries ++ cons_option (query_over add.matchers start end) [])
      a.are
      ∙ sym (filter_more (λ (matchers : List MatcherView). query_over matchers start end) a.selectors
      add.matchers);
}

-- one more selector
pub selected_turn : {X : Type 0} (f : X → List ℕ) (xs : List X) (i : ℕ) (x d : X) (start end : ℤ)
    (old new : List QueryView) → i < length xs → x ≡ get_or xs i d
    → AreSelected (map f (take i xs)) start end old → AddsSelected (f x) start end old new
    → AreSelected (map f (take (i + 1) xs)) start end new
selected_turn f xs i x d start end old new lt at a add =
    rw (map_turn f xs i x d lt at) (selected_more (map f (take i xs)) (f x) start end old new a add)

fault_at : (texts front back : List (List ℕ)) (first : List ℕ) (selectors : List (List MatcherView))
    (e : SelectorError) → texts ≡ front ++ first ∷ back → AllZip (IsAcceptedWithin Long) front selectors
    → IsRefusalWithin Long first e → HasSelectorFault texts e
fault_at texts front back first selectors e is each p = record {
  front = front;
  first = first;
  back = back;
  is = is;
  selectors = selectors;
  before = each;
  fault = p;
}

selector_fault : (texts front back : List (List ℕ)) (first : List ℕ)
    (selectors : List (List MatcherView)) (e : SelectorError) → texts ≡ front ++ first ∷ back
    → AllZip (IsAcceptedWithin Long) front selectors → OrMemory (IsRefusalWithin Long first) e → OrMemory (HasSelectorFault texts) e
selector_fault texts front back first selectors errors.Memory is each p = tt
selector_fault texts front back first selectors (errors.Syntax at) is each p =
    fault_at texts front back first selectors (errors.Syntax at) is each p
selector_fault texts front back first selectors errors.Empty is each p =
    fault_at texts front back first selectors errors.Empty is each p
selector_fault texts front back first selectors errors.TooMany is each p =
    fault_at texts front back first selectors errors.TooMany is each p
selector_fault texts front back first selectors errors.PatternTooLong is each p =
    fault_at texts front back first selectors errors.PatternTooLong is each p
selector_fault texts front back first selectors errors.PatternRefused is each p =
    fault_at texts front back first selectors errors.PatternRefused is each p

-- the first that is refused
pub fault_turn : {X : Type 0} (f : X → List ℕ) (xs : List X) (i : ℕ) (x d : X) (start end : ℤ)
    (queries : List QueryView) (e : SelectorError) → i < length xs → x ≡ get_or xs i d
    → AreSelected (map f (take i xs)) start end queries → OrMemory (IsRefusalWithin Long (f x)) e
    → OrMemory (HasSelectorFault (map f xs)) e
fault_turn f xs i x d start end queries e lt at a p =
    selector_fault (map f xs) (map f (take i xs)) (map f (drop (i + 1) xs)) (f x) a.selectors e
    (parted f xs i x d lt at) a.each p

-- some selectors are asked for by their queries
pub some_queries : (texts : List (List ℕ)) (start end : ℤ) (queries : List QueryView)
    → 0 < length texts → AreSelected texts start end queries → AreQueries texts start end queries
some_queries [] start end queries h a = absurd (omega (arith, h))
some_queries (text ∷ texts) start end queries h a = a

-- what is told of a selector that is refused
pub told_selector : (wanted : Wanted) (asked : Result Bounds Refusal) (bounds : Bounds)
    (texts : List (List ℕ)) (e : SelectorError) → asked ≡ Ok bounds
    → OrMemory (HasSelectorFault texts) e
    → Told (SelectorsMean wanted asked texts) (Err (selector_error e))
told_selector wanted asked bounds texts errors.Memory is p = tt
told_selector wanted asked bounds texts (errors.Syntax at) is p =
    inr (bounds, errors.Syntax at, is, p, refl)
told_selector wanted asked bounds texts errors.Empty is p =
    inr (bounds, errors.Empty, is, p, refl)
told_selector wanted asked bounds texts errors.TooMany is p =
    inr (bounds, errors.TooMany, is, p, refl)
told_selector wanted asked bounds texts errors.PatternTooLong is p =
    inr (bounds, errors.PatternTooLong, is, p, refl)
told_selector wanted asked bounds texts errors.PatternRefused is p =
    inr (bounds, errors.PatternRefused, is, p, refl)

-- the first value of a name stands here
pub given_at : (name : List ℕ) (pairs : List (String Global × String Global)) (i : ℕ)
    (pair d : String Global × String Global) → i < length pairs → pair ≡ get_or pairs i d
    → bytes_eq (string_bytes pair.0) name ≡ true
    → values_named name (pairs_of pairs) ≡ values_named name (pairs_of (drop i pairs))
    → given name (pairs_of pairs) ≡ not_empty (string_bytes pair.1)
given_at name pairs i pair d h is same before =
    let rest : List (List ℕ × List ℕ) = pairs_of (drop (i + 1) pairs) in
    let others : List (List ℕ × List ℕ) =
    filter (λ (p : List ℕ × List ℕ). bytes_eq p.0 name) rest in
    ap first_given (before
    ∙ at_drop_more (λ (ps : List (String Global × String Global)). values_named name (pairs_of ps))
    pairs i d h)
    ∙ ap (λ (p : String Global × String Global). first_given
    (values_named name (pairs_of (p ∷ drop (i + 1) pairs)))) (sym is)
    ∙ ap (λ (b : _). first_given (map (λ (p : List ℕ × List ℕ). p.1)
    (cond b ((string_bytes pair.0, string_bytes pair.1) ∷ others) others))) same

-- bytes that are no text are no name
pub no_name : (bytes : List ℕ) → (IsUtf8 bytes → ⊥) → None ≡ if_name bytes
no_name bytes never =
    rw (false_from_ne_true (is_utf8 bytes) (λ e. never (IsUtf8-from_is_utf8 bytes e))) refl

-- a text that is one
pub some_name : (bytes text : List ℕ) → text ≡ bytes → IsUtf8 bytes → is_name text ≡ true
    → Some text ≡ if_name bytes
some_name bytes text same utf8 named =
    let here : is_name bytes ≡ true = subst (λ (t : List ℕ). is_name t ≡ true) same named in
    rw (same, is_utf8-from_IsUtf8 bytes utf8, here) refl

module _ (pairs : List (List ℕ × List ℕ)) where
  pub no_start : (refusal : Refusal) → start_in pairs ≡ Err refusal → bounds_of pairs ≡ Err refusal
  unfolding bounds_of
  no_start refusal e = rw e refl

  pub no_end : (start : ℤ) (refusal : Refusal) → start_in pairs ≡ Ok start
      → end_in pairs ≡ Err refusal → bounds_of pairs ≡ Err refusal
  unfolding bounds_of
  no_end start refusal s e = rw (s, e) refl

  pub no_limit : (start end : ℤ) (refusal : Refusal) → start_in pairs ≡ Ok start
      → end_in pairs ≡ Ok end → limit_in pairs ≡ Err refusal → bounds_of pairs ≡ Err refusal
  unfolding bounds_of
  no_limit start end refusal s e l = rw (s, e, l) refl

  pub all_bounds : (start end : ℤ) (limit : Option ℕ) → start_in pairs ≡ Ok start
      → end_in pairs ≡ Ok end → limit_in pairs ≡ Ok limit
      → bounds_of pairs ≡ Ok (bounds start end limit)
  unfolding bounds_of
  all_bounds start end limit s e l = rw (s, e, l) refl

  pub not_enough : (wanted : Wanted) (count : ℕ) (refusal : Refusal)
      → enough wanted count ≡ Err refusal → bounds_for wanted count pairs ≡ Err refusal
  unfolding bounds_for
  not_enough wanted count refusal e = rw e refl

  pub enough_then : (wanted : Wanted) (count : ℕ) (u : Unit {0}) → enough wanted count ≡ Ok u
      → bounds_for wanted count pairs ≡ bounds_of pairs
  unfolding bounds_for
  enough_then wanted count u e = rw e refl

-- what is told, where the path wants this
module _ (path : Path) (target body : List ℕ) (wanted : Wanted) (pairs : List (List ℕ × List ℕ))
    (is : wanted_of path target ≡ Ok wanted) (same : pairs ≡ pairs_asked target body) where
  asked_of : (m : Meaning) → ListMeans wanted pairs m → ListingMeans path target body m
  asked_of m asks =
      subst (λ (w : Result Wanted Refusal). WantedMeans w (pairs_asked target body) m) (sym is)
      (subst (λ (ps : List (List ℕ × List ℕ)). ListMeans wanted ps m) same asks)

  pub told_listing : (result : Result Asked ReadError) → Told (ListMeans wanted pairs) result
      → Told (ListingMeans path target body) result
  told_listing (Ok asked) t = asked_of (Ok asked) t
  told_listing (Err Closed) t = t
  told_listing (Err Lost) t = t
  told_listing (Err Memory) t = tt
  told_listing (Err (Refused refusal)) t = asked_of (Err refusal) t
