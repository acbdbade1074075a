-- The one refusal of postings that are not those of the series.
use Rattle.std.proofs.Common.{◌≡◌, ℕ, Bool, true, false, cond, List, [], ◌∷◌, Option, Some, None}
use Rattle.std.proofs.Common.{Result, Ok, Err, refl, sym, ◌∙◌}
use Rattle.index_reader.specs.declared.error.IndexError.{IndexError}
use Rattle.index_reader.specs.declared.error.IndexError.TheVariants.{PostingsDisagree}
use Rattle.index_reader.specs.Reading.Steps.{each}
use Rattle.wire.specs.Outcome.{◌>>=◌}
use Rattle.index_reader.specs.Layout.{Label, TableEntry, rises}
use Rattle.index_reader.specs.Lookups.{symbol_of, place_of, key_before}
use Rattle.index_reader.specs.Reading.Agreement.{Carrier, or_disagree, key_at, keys_at}
use Rattle.index_reader.specs.Reading.Agreement.{list_of_label, lists_of_series, each_all}
use Rattle.index_reader.proofs.Walks.{done}

abbrev pub OnlyDisagrees : {A : Type 0} → Result A IndexError → Type 0
OnlyDisagrees read = (e : IndexError) → read ≡ Err e → e ≡ PostingsDisagree

pub only_ok : {A : Type 0} (x : A) → OnlyDisagrees (done x)
only_ok x e h = absurd cc

pub only_refused : {A : Type 0} (e : IndexError)
    → ◌≡◌ {A = Result A IndexError} (Err PostingsDisagree) (Err e) → e ≡ PostingsDisagree
only_refused e h = cc

pub only_then : {A B : Type 0} (r : Result A IndexError) (f : A → Result B IndexError)
    → OnlyDisagrees r → ((x : A) → OnlyDisagrees (f x)) → OnlyDisagrees (r >>= f)
only_then (Ok x) f a b e h = b x e h
only_then (Err d) f a b e h = let same : d ≡ e = cc in sym same ∙ a d refl

pub only_found : {A : Type 0} (o : Option A) → OnlyDisagrees (or_disagree o)
only_found (Some x) = only_ok x
only_found None = only_refused

pub only_where : {A : Type 0} (b : Bool) (r : Result A IndexError) → OnlyDisagrees r
    → OnlyDisagrees (cond b r (Err PostingsDisagree))
only_where true r a = a
only_where false r a = only_refused

pub only_each : {A X : Type 0} (step : A → Result X IndexError) (as' : List A)
    → ((a : A) → OnlyDisagrees (step a)) → OnlyDisagrees (each step as')
unfolding each
only_each step [] h = only_ok []
only_each step (a ∷ as') h =
    only_then (step a) _ (h a) (λ x.
    only_then (each step as') _ (only_each step as' h) (λ xs. only_ok (x ∷ xs)))

pub only_each_all : {A X : Type 0} (step : A → Result (List X) IndexError) (as' : List A)
    → ((a : A) → OnlyDisagrees (step a)) → OnlyDisagrees (each_all step as')
unfolding each_all
only_each_all step [] h = only_ok []
only_each_all step (a ∷ as') h =
    only_then (step a) _ (h a) (λ x.
    only_then (each_all step as') _ (only_each_all step as' h) (λ xs. only_ok _))

pub only_key : (symbols : List (List ℕ)) (l : TableEntry) → OnlyDisagrees (key_at symbols l)
unfolding key_at
only_key symbols l =
    only_then (or_disagree (symbol_of symbols l.name)) _ (only_found (symbol_of symbols l.name))
    (λ n. only_then (or_disagree (symbol_of symbols l.value)) _
    (only_found (symbol_of symbols l.value)) (λ v. only_ok (n, v)))

pub only_keys : (symbols : List (List ℕ)) (table : List TableEntry)
    → OnlyDisagrees (keys_at symbols table)
unfolding keys_at
only_keys symbols [] = only_refused
only_keys symbols (l ∷ ls) =
    only_where _ _ (only_then (each (key_at symbols) ls) _ (only_each (key_at symbols) ls
    (only_key symbols)) (λ keys. only_where (rises key_before keys) (done keys) (only_ok keys)))

pub only_place : (keys : List Label) (r : ℕ) (l : Label) → OnlyDisagrees (list_of_label keys r l)
unfolding list_of_label
only_place keys r l =
    only_then (or_disagree (place_of keys l)) _ (only_found (place_of keys l)) (λ at. only_ok _)

pub only_placed : (keys : List Label) (s : Carrier) → OnlyDisagrees (lists_of_series keys s)
unfolding lists_of_series
only_placed keys s =
    only_then (each (list_of_label keys s.0) s.1) _
    (only_each (list_of_label keys s.0) s.1 (only_place keys s.0)) (λ others. only_ok _)
