-- Lists that inputs give, and outputs, one after another.
use Rattle.std.specs.Prelude.{◌≡◌, ◌≢◌, ◌⊎◌, ℕ, ◌+◌, ◌<◌, ◌≤◌, Bool, true, false, List, Vec, []}
use Rattle.std.specs.Prelude.{◌∷◌, ◌++◌, length, take}
use Rattle.std.specs.Prelude.{get_or, refl}
use Rattle.std.proofs.Common.{sym, ap, subst, ◌∙◌, arith, inl, inr}
use Rattle.std.proofs.Common.{Global}
use Rattle.std.proofs.lemmas.Grind.{take_at_read}
use Rattle.std.proofs.lemmas.List.{map-append}
use Rattle.labels.specs.Rows.{Row}
use Rattle.kept_samples.specs.declared.keeping.Tally.{Tally}
use Rattle.block_folder.specs.declared.values.Values.{Values}
use Rattle.block_folder.specs.Steps.{Did}
use Rattle.block_outputs.specs.declared.tiles.Stretch.{Stretch}
use Rattle.block_outputs.specs.Joined.{lists_in}
use Rattle.block_outputs.specs.Writing.{samples_in, IsStill, Writes}
use Rattle.blocktool.specs.declared.conversion.Account.{Account}
use Rattle.blocktool.specs.Conversion.{Gives, AreGiven, IsConverted, AreConvertedFrom}
use Rattle.blocktool.specs.Conversion.{IsJoinedOf}
use Rattle.blocktool.specs.Conversion.{samples_in_all}

given_last : {I : Type 0} (gives : Gives I) (inputs : List I) (input : I) (times : Stretch)
    (lists : List (List Row)) (rows : List Row) (old mid new : Tally)
    → AreGiven gives inputs times lists old mid → gives input times rows mid new
    → AreGiven gives (inputs ++ input ∷ []) times (lists ++ rows ∷ []) old new
given_last gives [] input times [] rows old mid new h g
    = (new, subst (λ (t : Tally). gives input times rows t new) h g, refl)
given_last gives [] input times (x ∷ lists) rows old mid new h g = absurd h
given_last gives (i ∷ inputs) input times [] rows old mid new h g = absurd h
given_last gives (i ∷ inputs) input times (x ∷ lists) rows old mid new h g
    = (h.0, h.1, given_last gives inputs input times lists rows h.0 mid new h.2 g)

-- what one input more gives
pub given_more : {I : Type 0} (gives : Gives I) (inputs : List I) (n : ℕ) (input : I)
    (times : Stretch) (lists new_lists : List (List Row)) (rows : List Row) (old mid new : Tally)
    → n < length inputs → input ≡ get_or inputs n input → new_lists ≡ lists ++ rows ∷ []
    → AreGiven gives (take n inputs) times lists old mid → gives input times rows mid new
    → AreGiven gives (take (n + 1) inputs) times new_lists old new
given_more {I} gives inputs n input times lists new_lists rows old mid new lt at e h g =
    subst (λ (ls : List (List Row)). AreGiven gives (take (n + 1) inputs) times ls old new) (sym e)
    (subst (λ (is : List I). AreGiven gives is times (lists ++ rows ∷ []) old new)
    (sym ((take_at_read inputs n input lt).1 ∙ ap (λ (x : I). take n inputs ++ x ∷ []) (sym at)))
    (given_last gives (take n inputs) input times lists rows old mid new h g))

-- a disk on which nothing was called between
still_first : {D : Type 0} (did : D → List Did → Type 0) (into : List ℕ) (values : Values) (rows : List Row)
    (a b c : D) → IsStill did a b → Writes did into values rows b c → Writes did into values rows a c
still_first did into values rows a b c still (inl h) = inl (h.0, λ log d. h.1 log (still log d))
still_first did into values rows a b c still (inr h) = inr (record {
  place = h.place;
  parent = h.parent;
  is_place = h.is_place;
  range = h.range;
  is_range = h.is_range;
  within = h.within;
  files = h.files;
  said = h.said;
  meaning = h.meaning;
  spelled = h.spelled;
  written = (h.written.0, λ log d. h.written.1 log (still log d), h.written.2);
})

converted_first : {I D : Type 0} (gives : Gives I) (did : D → List Did → Type 0) (inputs : List I)
    (into : List ℕ) (values : Values) (s : Stretch) (rows : List Row) (old new : Account) (a b c : D)
    → IsStill did a b → IsConverted gives did inputs into values s rows old new b c
    → IsConverted gives did inputs into values s rows old new a c
converted_first gives did inputs into values s rows old new a b c still h = record {
  joined = h.joined;
  written = still_first did into values rows a b c still h.written;
}

converted_last : {I D : Type 0} (gives : Gives I) (did : D → List Did → Type 0) (inputs : List I)
    (into : List ℕ) (values : Values) (ss : List Stretch) (s : Stretch) (outputs : List (List Row)) (rows : List Row)
    (old mid new : Account) (a b c : D)
    → AreConvertedFrom gives did inputs into values ss outputs old mid a b
    → IsConverted gives did inputs into values s rows mid new b c
    → AreConvertedFrom gives did inputs into values (ss ++ s ∷ []) (outputs ++ rows ∷ []) old new a c
converted_last gives did inputs into values [] s [] rows old mid new a b c h g =
    let still : IsStill did c c = λ log d. d in
    let own = converted_first gives did inputs into values s rows mid new a b c h.1 g in (
      new,
      c,
      subst (λ (x : Account). IsConverted gives did inputs into values s rows x new a c) h.0 own,
      (refl, still),
    )
converted_last gives did inputs into values [] s (x ∷ outputs) rows old mid new a b c h g = absurd h
converted_last gives did inputs into values (t ∷ ss) s [] rows old mid new a b c h g = absurd h
converted_last gives did inputs into values (t ∷ ss) s (x ∷ outputs) rows old mid new a b c h g = (
  h.0,
  h.1,
  h.2,
  converted_last gives did inputs into values ss s outputs rows h.0 mid new h.1 b c h.3
      g,
)

-- of inputs that were lent
pub converted_by : {I D : Type 0} (gives : Gives I) (did : D → List Did → Type 0)
    (inputs lent : List I) (into : List ℕ) (values : Values) (s : Stretch) (rows : List Row) (old new : Account)
    (a b : D) → lent ≡ inputs → IsJoinedOf gives lent s rows old new → Writes did into values rows a b
    → IsConverted gives did inputs into values s rows old new a b
converted_by {I} gives did inputs lent into values s rows old new a b same joined written = record {
  joined = subst (λ (is : List I). IsJoinedOf gives is s rows old new) same joined;
  written = written;
}

pub converted_as : {I D : Type 0} (gives : Gives I) (did : D → List Did → Type 0)
    (inputs left : List I) (into : List ℕ) (values : Values) (s : Stretch) (rows : List Row) (old new : Account)
    (a b : D) → left ≡ inputs → IsConverted gives did left into values s rows old new a b
    → IsConverted gives did inputs into values s rows old new a b
converted_as {I} gives did inputs left into values s rows old new a b same h =
    subst (λ (is : List I). IsConverted gives did is into values s rows old new a b) same h

pub not_last : (b : Bool) (n m : ℕ) → (b ≡ true → m ≤ n) → n < m → b ≡ false
not_last true n m h lt = absurd (omega (arith, h refl, lt))
not_last false n m h lt = refl

-- the output of one range more
pub converted_more : {I D : Type 0} (gives : Gives I) (did : D → List Did → Type 0)
    (inputs : List I) (into : List ℕ) (values : Values) (ss : List Stretch) (n : ℕ) (d : Stretch)
    (outputs : List (List Row)) (rows : List Row) (old mid new : Account) (a b c : D)
    → n < length ss → AreConvertedFrom gives did inputs into values (take n ss) outputs old mid a b
    → IsConverted gives did inputs into values (get_or ss n d) rows mid new b c
    → AreConvertedFrom gives did inputs into values (take (n + 1) ss) (outputs ++ rows ∷ []) old new a c
converted_more gives did inputs into values ss n d outputs rows old mid new a b c lt h g =
    subst (λ (ts : List Stretch). AreConvertedFrom gives did inputs into values ts (outputs ++ rows ∷ [])
    old new a c)
    (sym (take_at_read ss n d lt).1)
    (converted_last gives did inputs into values (take n ss) (get_or ss n d) outputs rows old mid new a b c
    h g)

samples_in_all-last : (lists : List (List Row)) (rows : List Row)
    → samples_in_all (lists ++ rows ∷ []) ≡ samples_in_all lists + samples_in rows
samples_in_all-last [] rows = omega arith
samples_in_all-last (x ∷ lists) rows = let rest = samples_in_all-last lists rows in omega
    (arith, rest)

-- how many samples one list more has
pub samples_in_all-take : (lists : List (Vec Row Global)) (n : ℕ) (rows : Vec Row Global)
    → n < length lists → rows ≡ get_or lists n rows
    → samples_in_all (lists_in (take (n + 1) lists)) ≡ samples_in_all (lists_in (take n lists)) +
    samples_in rows.items
samples_in_all-take lists n rows lt at =
    ap (λ (ls : List (Vec Row Global)). samples_in_all (lists_in ls))
    ((take_at_read lists n rows lt).1 ∙ ap (λ (x : Vec Row Global). take n lists ++ x ∷ []) (sym
    at))
    ∙ ap samples_in_all (map-append (λ (l : Vec Row Global). l.items) (take n lists) (rows ∷ []))
    ∙ samples_in_all-last (lists_in (take n lists)) rows.items
