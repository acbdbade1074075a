-- The head that contents begin with: one at most.
use Rattle.std.proofs.Common.{◌≡◌, ℕ, zero, suc, ◌<◌, ◌≤◌, List, [], ◌∷◌, ◌++◌, map, length}
use Rattle.std.proofs.Common.{take, drop, refl, sym, ap, subst, ◌∙◌, arith, ℤ}
use Rattle.std.specs.List.{AllZip}
use Rattle.std.proofs.lemmas.List.{length-append, take-append-drop}
use Rattle.std.proofs.lemmas.Slice.Zip.{AllZip-long}
use Rattle.wire.proofs.Steps.{same_value}
use Rattle.kept_walk.specs.Contents.{BeginsWithHead, SpellsOpening, SpellsSeries}
use Rattle.kept_walk.specs.Kept.{Series, Store, Event}
use Rattle.kept_walk.specs.Reading.{Opening}
use Rattle.kept_walk.specs.declared.journal_state.Values.{Values}
use Rattle.kept_walk.proofs.Contents.{opening_read, series_read}
use Rattle.kept_walk.proofs.InTurn.{unique}

abbrev Contents : Type 0
Contents = List (List ℕ)

front_of : (a b : List ℕ) (xs ys : Contents) → a ∷ xs ≡ b ∷ ys → (a ≡ b) × (xs ≡ ys)
front_of a b xs ys e = (let x : a ≡ b = cc in x, let y : xs ≡ ys = cc in y)

taken : (xs ys : Contents) (n : ℕ) → length xs ≡ n → take n (xs ++ ys) ≡ xs
taken [] ys zero e = refl
taken [] ys (suc n) e = absurd cc
taken (x ∷ xs) ys zero e = absurd cc
taken (x ∷ xs) ys (suc n) e = ap (λ (zs : Contents). x ∷ zs) (taken xs ys n (omega (arith, e)))

left : (xs ys : Contents) (n : ℕ) → length xs ≡ n → drop n (xs ++ ys) ≡ ys
left [] ys zero e = refl
left [] ys (suc n) e = absurd cc
left (x ∷ xs) ys zero e = absurd cc
left (x ∷ xs) ys (suc n) e = left xs ys n (omega (arith, e))

abbrev said_of : Store → List (ℕ × ℕ) → Opening
said_of store places = (store.values, (store.floor, (places, length store.head)))

abbrev pub count_of : Opening → ℕ
count_of o = o.1.1.1

-- what follows where the first content is this opening, and a head stands in front
pub record Parted (others : Contents) (o : Opening) (store : Store) (behind : Contents) : Type 0 where
  pub places : List (ℕ × ℕ)
  pub folders : store.folders ≡ map (λ p. p.0) places
  pub same : said_of store places ≡ o
  pub enough : count_of o ≤ length others
  pub series : AllZip SpellsSeries (take (count_of o) others) store.head
  pub behind_is : behind ≡ drop (count_of o) others

pub parted : (first : List ℕ) (others : Contents) (o : Opening) (store : Store) (behind : Contents)
    → SpellsOpening first o.0 o.1 → BeginsWithHead (first ∷ others) store behind
    → Parted others o store behind
parted first others o store behind s h =
    let e = front_of first h.first others (h.others ++ behind) h.whole in
    let said = said_of store h.places in
    let read = opening_read first said
    (subst (λ (c : List ℕ). SpellsOpening c said.0 said.1) (sym e.0) h.opening) in
    let same : said ≡ o = same_value said o (sym read ∙ opening_read first o s) in
    let long : length h.others ≡ count_of o =
    sym (AllZip-long SpellsSeries h.others store.head h.series) ∙ ap count_of same in
    let own : take (count_of o) others ≡ h.others =
    ap (take (count_of o)) e.1 ∙ taken h.others behind (count_of o) long in
    record {
      places = h.places;
      folders = h.folders;
      same = same;
      enough = omega (arith, long, ap length e.1, length-append h.others behind);
      series = subst (λ (cs : Contents). AllZip SpellsSeries cs store.head) (sym own) h.series;
      behind_is = sym (ap (drop (count_of o)) e.1 ∙ left h.others behind (count_of o) long);
    }

pub too_few : (first : List ℕ) (others : Contents) (o : Opening) → SpellsOpening first o.0 o.1
    → length others < count_of o
    → (p : Store × Contents) → BeginsWithHead (first ∷ others) p.0 p.1 → ⊥
too_few first others o s few p h =
    let e = (parted first others o p.0 p.1 s h).enough in omega (arith, e, few)

pub no_series : (first : List ℕ) (others own : Contents) (o : Opening)
    → SpellsOpening first o.0 o.1 → own ≡ take (count_of o) others
    → ((head : List Series) → AllZip SpellsSeries own head → ⊥)
    → (p : Store × Contents) → BeginsWithHead (first ∷ others) p.0 p.1 → ⊥
no_series first others own o s is none p h =
    none p.0.head (subst (λ (cs : Contents). AllZip SpellsSeries cs p.0.head) (sym is)
    (parted first others o p.0 p.1 s h).series)

pub no_opening : (first : List ℕ) (others : Contents)
    → ((o : Opening) → SpellsOpening first o.0 o.1 → ⊥)
    → (p : Store × Contents) → BeginsWithHead (first ∷ others) p.0 p.1 → ⊥
no_opening first others none p h =
    let e = front_of first h.first others (h.others ++ p.1) h.whole in
    let said = said_of p.0 h.places in
    none said (subst (λ (c : List ℕ). SpellsOpening c said.0 said.1) (sym e.0) h.opening)

pub nothing_begins : (p : Store × Contents) → BeginsWithHead [] p.0 p.1 → ⊥
nothing_begins p h = absurd (let e = h.whole in cc)

abbrev pub store_of : Values → ℤ → List ℕ → List Series → List Event → Store
store_of values floor folders head events =
    record { values = values; floor = floor; folders = folders; head = head; events = events }

pub begins : (first : List ℕ) (others own behind : Contents) (o : Opening) (folders : List ℕ)
    (head : List Series) (events : List Event) → SpellsOpening first o.0 o.1
    → count_of o ≤ length others → own ≡ take (count_of o) others
    → behind ≡ drop (count_of o) others → AllZip SpellsSeries own head
    → folders ≡ map (λ p. p.0) o.1.1.0
    → BeginsWithHead (first ∷ others) (store_of o.0 o.1.0 folders head events) behind
begins first others own behind o folders head events s enough is rest series named =
    let split : others ≡ own ++ behind =
    sym (take-append-drop (count_of o) others)
    ∙ (ap (λ (cs : Contents). cs ++ drop (count_of o) others) (sym is)
    ∙ ap (λ (cs : Contents). own ++ cs) (sym rest)) in
    let long : length own ≡ count_of o = ap length is ∙ length_take (count_of o) others enough in
    let many : count_of o ≡ length head =
    sym long ∙ sym (AllZip-long SpellsSeries own head series) in
    record {
      places = o.1.1.0;
      folders = named;
      first = first;
      others = own;
      whole = ap (λ (cs : Contents). first ∷ cs) split;
      opening = subst (λ (n : ℕ). SpellsOpening first o.0 (o.1.0, (o.1.1.0, n))) many s;
      series = series;
    }
  where
    length_take : (n : ℕ) (xs : Contents) → n ≤ length xs → length (take n xs) ≡ n
    length_take zero xs le = refl
    length_take (suc n) [] le = absurd (omega (arith, le))
    length_take (suc n) (x ∷ xs) le = ap suc (length_take n xs (omega (arith, le)))

-- ONE STORE

one_series : (c : List ℕ) (x y : Series) → SpellsSeries c x → SpellsSeries c y → x ≡ y
one_series c x y a b = same_value x y (sym (series_read c x a) ∙ series_read c y b)

-- two heads in front are one
pub record SameHead (a b : Store) (behind other : Contents) : Type 0 where
  pub values : a.values ≡ b.values
  pub floor : a.floor ≡ b.floor
  pub folders : a.folders ≡ b.folders
  pub head : a.head ≡ b.head
  pub rest : behind ≡ other

pub one_head : (contents : Contents) (a b : Store) (behind other : Contents)
    → BeginsWithHead contents a behind → BeginsWithHead contents b other
    → SameHead a b behind other
one_head [] a b behind other h k = absurd (nothing_begins (a, behind) h)
one_head (first ∷ others) a b behind other h k =
    let e = front_of first h.first others (h.others ++ behind) h.whole in
    let o = said_of a h.places in
    let s = subst (λ (c : List ℕ). SpellsOpening c o.0 o.1) (sym e.0) h.opening in
    let one = parted first others o a behind s h in
    let two = parted first others o b other s k in
    record {
      values = sym (ap (λ (p : Opening). p.0) two.same);
      floor = sym (ap (λ (p : Opening). p.1.0) two.same);
      folders = one.folders
          ∙ (ap (λ (p : Opening). map (λ q. q.0) p.1.1.0) (one.same ∙ sym two.same)
          ∙ sym two.folders);
      head = unique SpellsSeries one_series (take (count_of o) others) a.head b.head one.series two.series;
      rest = one.behind_is ∙ sym two.behind_is;
    }

pub one_store : (a b : Store) → a.values ≡ b.values → a.floor ≡ b.floor
    → a.folders ≡ b.folders → a.head ≡ b.head → a.events ≡ b.events → a ≡ b
one_store a b values floor folders head events =
    ap (λ (x : Values). store_of x a.floor a.folders a.head a.events) values
    ∙ (ap (λ (x : ℤ). store_of b.values x a.folders a.head a.events) floor
    ∙ (ap (λ (x : List ℕ). store_of b.values b.floor x a.head a.events) folders
    ∙ (ap (λ (x : List Series). store_of b.values b.floor b.folders x a.events) head
    ∙ ap (λ (x : List Event). store_of b.values b.floor b.folders b.head x) events)))
