-- The laws of the sifted commit.
use Rattle.std.specs.Prelude.{◌≡◌, ℕ, suc, ℤ, ◌+◌, Bool, true, false, not, ◌&&◌, List, [], ◌∷◌, ◌++◌, Option, Result, Ok, Err, refl, length}
use Rattle.std.specs.List.{AllByRecursion}
use Rattle.std.proofs.Common.{sym, ◌∙◌, ap, subst, inl, inr, ⊎_elim, arith, append_assoc, length-append}
use Rattle.head.specs.Worlds.{World, Batch, added, added_each, committed}
use Rattle.head.specs.Refusals.{Refusal}
use Rattle.head.specs.Sifting.{Fate, joins, held, left_out, has, has_value, is_newest, fate, world_after, is_hidden, Sifted, noted, sifted_from, sifted, then_sifted, sifted_parts}
use Rattle.head.specs.Laws.{IsPartOf, IsRefusedAt, places, all_of, IsAlike}
use Rattle.labels.proofs.Times.{true_not_false}
use Rattle.head.proofs.Steps.{Item, after, closed, IsNext, closed_more, value_more, other_more, shown_more, joined_has, joined_closed}
use Rattle.head.proofs.Fates.{joining, taken, holding, leaving, IsLeftOut, IsNoJoin, held_again, out_again, no_join, IsLike, like_fate, IsTaken, taken_fate}

pub by_fate : {P : Type 0} (f : Fate) → ((v : World) → f ≡ joins v → P) → (f ≡ held → P) → ((e : Refusal) → f ≡ left_out e → P) → P
by_fate (joins v) p q r = p v refl
by_fate held p q r = q refl
by_fate (left_out e) p q r = r e refl

-- a sift by the fate of its first sample
pub first_by : (w : World) (at : ℕ) (x : Item) (xs : Batch) (f : Fate) → fate w at x ≡ f → sifted_from w at (x ∷ xs) ≡ noted at x f (sifted_from (world_after w f) (at + 1) xs)
first_by w at x xs f e = ap (λ g. noted at x g (sifted_from (world_after w g) (at + 1) xs)) e

by_first : (P : Sifted → Type 0) (w : World) (at : ℕ) (x : Item) (xs : Batch)
    → ((v : World) → fate w at x ≡ joins v → P (noted at x (joins v) (sifted_from v (at + 1) xs)))
    → (fate w at x ≡ held → P (noted at x held (sifted_from w (at + 1) xs)))
    → ((e : Refusal) → fate w at x ≡ left_out e → P (noted at x (left_out e) (sifted_from w (at + 1) xs)))
    → P (sifted_from w at (x ∷ xs))
by_first P w at x xs p q r = by_fate (fate w at x)
    (λ v e. subst P (sym (first_by w at x xs (joins v) e)) (p v e))
    (λ e. subst P (sym (first_by w at x xs held e)) (q e))
    (λ c e. subst P (sym (first_by w at x xs (left_out c) e)) (r c e))

-- what each sample that joins leaves true, a sift does
stays : (P : World → Type 0) → ((w : World) (y : Item) → IsNext w y → P w → P (after w y)) → (w : World) (at : ℕ) (xs : Batch) → P w → P (sifted_from w at xs).world
stays P keeps w at [] h = h
stays P keeps w at (x ∷ xs) h = by_first (λ s. P s.world) w at x xs
    (λ v e. stays P keeps v (at + 1) xs (let j = joining w v at x e in subst P (sym j.0) (keeps w x j.1 h)))
    (λ e. stays P keeps w (at + 1) xs h)
    (λ c e. stays P keeps w (at + 1) xs h)

-- What is kept is accepted.
pub accepted : (w : World) (at k : ℕ) (xs : Batch) → added_each (Ok w) k (sifted_from w at xs).kept ≡ Ok (sifted_from w at xs).world
accepted w at k [] = refl
accepted w at k (x ∷ xs) = by_first (λ s. added_each (Ok w) k s.kept ≡ Ok s.world) w at x xs
    (λ v e. ap (λ r. added_each r (k + 1) (sifted_from v (at + 1) xs).kept) (taken w v at k x e) ∙ accepted v (at + 1) (k + 1) xs)
    (λ e. accepted w (at + 1) k xs)
    (λ c e. accepted w (at + 1) k xs)

one_more : (ks : Batch) (x : Item) (xs : Batch) → IsPartOf ks xs → IsPartOf ks (x ∷ xs)
one_more [] x xs h = tt
one_more (k ∷ ks) x xs h = inr h

-- what is kept is a part of the batch
pub is_part : (w : World) (at : ℕ) (xs : Batch) → IsPartOf (sifted_from w at xs).kept xs
is_part w at [] = tt
is_part w at (x ∷ xs) = by_first (λ s. IsPartOf s.kept (x ∷ xs)) w at x xs
    (λ v e. inl (refl, is_part v (at + 1) xs))
    (λ e. one_more (sifted_from w (at + 1) xs).kept x xs (is_part w (at + 1) xs))
    (λ c e. one_more (sifted_from w (at + 1) xs).kept x xs (is_part w (at + 1) xs))

-- each sample is kept, held or left out
pub each_told : (w : World) (at : ℕ) (xs : Batch) → length (sifted_from w at xs).kept + length (sifted_from w at xs).held + length (sifted_from w at xs).left ≡ length xs
each_told w at [] = refl
each_told w at (x ∷ xs) = by_first (λ s. length s.kept + length s.held + length s.left ≡ suc (length xs)) w at x xs
    (λ v e. let h = each_told v (at + 1) xs in omega (arith, h))
    (λ e. let h = each_told w (at + 1) xs in omega (arith, h))
    (λ c e. let h = each_told w (at + 1) xs in omega (arith, h))

-- a closed sample that the content has
abbrev Rests : Item → World → Type 0
Rests x w = (closed w x ≡ true) × (has w x ≡ true)

has_more : (w : World) (x y : Item) → IsNext w y → Rests x w → Rests x (after w y)
has_more w x y o h = (
  closed_more w x y o h.0,
  ap (λ (v : Option ℤ). has_value x.1.1 v) (value_more w x y o h.0) ∙ h.1,
)

rests_end : (x : Item) (w : World) (at : ℕ) (xs : Batch) → Rests x w → Rests x (sifted_from w at xs).world
rests_end x = stays (Rests x) (λ w y o h. has_more w x y o h)

-- a closed sample that the store has not
pub record IsNowhere (x : Item) (w : World) : Type 0 where
  pub closed : closed w x ≡ true
  pub other : is_newest w x ≡ false
  pub absent : has w x ≡ false

nowhere_more : (w : World) (x y : Item) → IsNext w y → IsNowhere x w → IsNowhere x (after w y)
nowhere_more w x y o h = record {
  closed = closed_more w x y o h.closed;
  other = other_more w x y o h.closed h.other;
  absent = ap (λ (v : Option ℤ). has_value x.1.1 v) (value_more w x y o h.closed) ∙ h.absent;
}

nowhere_end : (x : Item) (w : World) (at : ℕ) (xs : Batch) → IsNowhere x w → IsNowhere x (sifted_from w at xs).world
nowhere_end x = stays (IsNowhere x) (λ w y o h. nowhere_more w x y o h)

shown_end : (x : Item) (w u : World) (at : ℕ) → fate w at x ≡ joins u → (z : Item) → is_hidden w z ≡ false → is_hidden u z ≡ false
shown_end x w u at e z h = let j = joining w u at x e in subst (λ v. is_hidden v z ≡ false) (sym j.0) (shown_more w z x h)

-- a sample that joins rests
rests_joined : (w v : World) (at : ℕ) (x : Item) → fate w at x ≡ joins v → Rests x v
rests_joined w v at x e = let j = joining w v at x e in subst (Rests x) (sym j.0) (joined_closed w x, joined_has w x)

hidden_by : (a b : Bool) → a ≡ true → (a && not b) ≡ false → b ≡ true
hidden_by a true e f = refl
hidden_by true false e f = absurd (true_not_false f)
hidden_by false false e f = absurd (true_not_false (sym e))

-- a sample that is held rests, unless it is hidden
rests_held : (w : World) (at : ℕ) (x : Item) → fate w at x ≡ held → is_hidden w x ≡ false → Rests x w
rests_held w at x e h = let p = holding w at x e in (p.0, ⊎_elim (λ n. hidden_by (is_newest w x) (has w x) n h) (λ k. k) p.1)

-- Each sample that was kept stands in the content.
pub kept_stands : (w : World) (at : ℕ) (xs : Batch) → AllByRecursion (λ x. has (sifted_from w at xs).world x ≡ true) (sifted_from w at xs).kept
kept_stands w at [] = tt
kept_stands w at (x ∷ xs) = by_first (λ s. AllByRecursion (λ z. has s.world z ≡ true) s.kept) w at x xs
    (λ v e. ((rests_end x v (at + 1) xs (rests_joined w v at x e)).1, kept_stands v (at + 1) xs))
    (λ e. kept_stands w (at + 1) xs)
    (λ c e. kept_stands w (at + 1) xs)

weaker : (w u : World) (P : Item → Type 0) → ((z : Item) → is_hidden w z ≡ false → is_hidden u z ≡ false) → (zs : Batch) → AllByRecursion (λ z. is_hidden u z ≡ false → P z) zs → AllByRecursion (λ z. is_hidden w z ≡ false → P z) zs
weaker w u P f [] h = tt
weaker w u P f (z ∷ zs) h = (λ e. h.0 (f z e), weaker w u P f zs h.1)

-- Each sample that was held stands in the content, unless it is hidden.
pub held_stands : (w : World) (at : ℕ) (xs : Batch) → AllByRecursion (λ x. is_hidden w x ≡ false → has (sifted_from w at xs).world x ≡ true) (sifted_from w at xs).held
held_stands w at [] = tt
held_stands w at (x ∷ xs) = by_first (λ s. AllByRecursion (λ z. is_hidden w z ≡ false → has s.world z ≡ true) s.held) w at x xs
    (λ v e. weaker w v (λ z. has (sifted_from v (at + 1) xs).world z ≡ true) (shown_end x w v at e) (sifted_from v (at + 1) xs).held (held_stands v (at + 1) xs))
    (λ e. ((λ h. (rests_end x w (at + 1) xs (rests_held w at x e h)).1), held_stands w (at + 1) xs))
    (λ c e. held_stands w (at + 1) xs)

-- what is sifted again: nothing joins
no_more : (f : Fate) → IsNoJoin f → (w : World) (at : ℕ) (x : Item) (s : Sifted) → (world_after w f ≡ w) × ((noted at x f s).kept ≡ s.kept) × ((noted at x f s).world ≡ s.world)
no_more (joins v) n w at x s = absurd n
no_more held n w at x s = (refl, refl, refl)
no_more (left_out e) n w at x s = (refl, refl, refl)

closed_end : (x : Item) (w : World) (at : ℕ) (xs : Batch) → closed w x ≡ true → closed (sifted_from w at xs).world x ≡ true
closed_end x = stays (λ w. closed w x ≡ true) (λ w y o h. closed_more w x y o h)

-- each sample of a batch is closed once the batch was sifted
pub all_closed : (w : World) (at : ℕ) (xs : Batch) → AllByRecursion (λ x. closed (sifted_from w at xs).world x ≡ true) xs
all_closed w at [] = tt
all_closed w at (x ∷ xs) = by_first (λ s. AllByRecursion (λ z. closed s.world z ≡ true) (x ∷ xs)) w at x xs
    (λ v e. (closed_end x v (at + 1) xs (rests_joined w v at x e).0, all_closed v (at + 1) xs))
    (λ e. (closed_end x w (at + 1) xs (holding w at x e).0, all_closed w (at + 1) xs))
    (λ c e. (closed_end x w (at + 1) xs (leaving w at x c e).closed, all_closed w (at + 1) xs))

-- closed samples change nothing
pub nothing_new : (w : World) (at : ℕ) (xs : Batch) → AllByRecursion (λ x. closed w x ≡ true) xs → ((sifted_from w at xs).kept ≡ []) × ((sifted_from w at xs).world ≡ w)
nothing_new w at [] h = (refl, refl)
nothing_new w at (x ∷ xs) h = by_first (λ s. (s.kept ≡ []) × (s.world ≡ w)) w at x xs
    (λ v e. absurd (subst IsNoJoin e (no_join w at x h.0)))
    (λ e. nothing_new w (at + 1) xs h.1)
    (λ c e. nothing_new w (at + 1) xs h.1)

-- where the samples were left out that the same world leaves out again
out_end : (G w : World) (at : ℕ) (x : Item) (s : Sifted) (places_before : List ℕ) → IsLeftOut (fate w at x) → places s.left ≡ places_before → places (noted at x (fate w at x) s).left ≡ at ∷ places_before
out_end G w at x s ps o e = by_fate (fate w at x)
    (λ v f. absurd (subst IsLeftOut f o))
    (λ f. absurd (subst IsLeftOut f o))
    (λ c f. ap (λ g. places (noted at x g s).left) f ∙ ap (λ (k : List ℕ). at ∷ k) e)

same_after : (w : World) (at : ℕ) (x : Item) → closed w x ≡ true → world_after w (fate w at x) ≡ w
same_after w at x c = (no_more (fate w at x) (no_join w at x c) w at x (sifted_from w at [])).0

shown_all : (x : Item) (w u : World) (at : ℕ) → fate w at x ≡ joins u → (zs : Batch) → AllByRecursion (λ z. is_hidden w z ≡ false) zs → AllByRecursion (λ z. is_hidden u z ≡ false) zs
shown_all x w u at e [] h = tt
shown_all x w u at e (z ∷ zs) h = (shown_end x w u at e z h.0, shown_all x w u at e zs h.1)

-- A batch sifted again leaves out what it left out the first time, where no sample is hidden.
pub again : (w G : World) (at : ℕ) (xs : Batch) → (sifted_from w at xs).world ≡ G → AllByRecursion (λ x. is_hidden w x ≡ false) xs
    → places (sifted_from G at xs).left ≡ places (sifted_from w at xs).left
again w G at [] g h = refl
again w G at (x ∷ xs) g h = by_first (λ s. s.world ≡ G → places (sifted_from G at (x ∷ xs)).left ≡ places s.left) w at x xs
    (λ v e g.
    let r : Rests x G = subst (Rests x) g (rests_end x v (at + 1) xs (rests_joined w v at x e)) in
    ap (λ s. places s.left) (first_by G at x xs held (held_again G at x r.0 r.1)) ∙ again v G (at + 1) xs g (shown_all x w v at e xs h.1))
    (λ e g.
    let r : Rests x G = subst (Rests x) g (rests_end x w (at + 1) xs (rests_held w at x e h.0)) in
    ap (λ s. places s.left) (first_by G at x xs held (held_again G at x r.0 r.1)) ∙ again w G (at + 1) xs g h.1)
    (λ c e g.
    let l = leaving w at x c e in
    let n : IsNowhere x G = subst (IsNowhere x) g (nowhere_end x w (at + 1) xs (record { closed = l.closed; other = l.other; absent = l.absent })) in
    out_end G G at x (sifted_from (world_after G (fate G at x)) (at + 1) xs) (places (sifted_from w (at + 1) xs).left) (out_again G at x n.closed n.other n.absent)
    (ap (λ u. places (sifted_from u (at + 1) xs).left) (same_after G at x n.closed) ∙ again w G (at + 1) xs g h.1))
    g

-- a batch that is accepted is sifted to the same
pub stuck : (c : Refusal) (at : ℕ) (xs : Batch) → added_each (Err c) at xs ≡ Err c
stuck c at [] = refl
stuck c at (x ∷ xs) = refl

by_result : {P : Type 0} (r : Result World Refusal) → ((u : World) → r ≡ Ok u → P) → ((c : Refusal) → r ≡ Err c → P) → P
by_result (Ok u) p q = p u refl
by_result (Err c) p q = q c refl

pub as_committed : (w v : World) (at : ℕ) (xs : Batch) → added_each (Ok w) at xs ≡ Ok v → ((sifted_from w at xs).world ≡ v) × ((sifted_from w at xs).left ≡ [])
as_committed w v at [] p = (cc, refl)
as_committed w v at (x ∷ xs) p = by_result (added w at x)
    (λ u e.
    let t : IsTaken w u (fate w at x) = taken_fate w u at x e in
    let rest = as_committed u v (at + 1) xs (ap (λ r. added_each r (at + 1) xs) (sym e) ∙ p) in
    by_first (λ s. (s.world ≡ v) × (s.left ≡ [])) w at x xs
    (λ k f. let is : k ≡ u = subst (IsTaken w u) f t in subst (λ z. ((sifted_from z (at + 1) xs).world ≡ v) × ((sifted_from z (at + 1) xs).left ≡ [])) (sym is) rest)
    (λ f. let is : w ≡ u = subst (IsTaken w u) f t in subst (λ z. ((sifted_from z (at + 1) xs).world ≡ v) × ((sifted_from z (at + 1) xs).left ≡ [])) (sym is) rest)
    (λ c f. absurd (subst (IsTaken w u) f t)))
    (λ c e. absurd (cc (p, stuck c (at + 1) xs)))

-- a batch of which all join
pub all_kept : (w : World) (at : ℕ) (xs : Batch) → (sifted_from w at xs).held ≡ [] → (sifted_from w at xs).left ≡ [] → (sifted_from w at xs).kept ≡ xs
all_kept w at [] = λ p q. refl
all_kept w at (x ∷ xs) = by_first (λ s. s.held ≡ [] → s.left ≡ [] → s.kept ≡ x ∷ xs) w at x xs
    (λ v e p q. ap (λ (k : Batch). x ∷ k) (all_kept v (at + 1) xs p q))
    (λ e p q. cc)
    (λ c e p q. cc)

-- one part after another
then_noted : (at : ℕ) (x : Item) (f : Fate) (a b : Sifted) → then_sifted (noted at x f a) b ≡ noted at x f (then_sifted a b)
then_noted at x (joins v) a b = refl
then_noted at x held a b = refl
then_noted at x (left_out c) a b = refl

noted_world : (at : ℕ) (x : Item) (f : Fate) (s : Sifted) → (noted at x f s).world ≡ s.world
noted_world at x (joins v) s = refl
noted_world at x held s = refl
noted_world at x (left_out c) s = refl

one_by_one : (n at : ℕ) → at + 1 + n ≡ at + suc n
one_by_one n at = omega arith

pub in_two : (w : World) (at : ℕ) (xs ys : Batch) → sifted_from w at (xs ++ ys) ≡ then_sifted (sifted_from w at xs) (sifted_from (sifted_from w at xs).world (at + length xs) ys)
in_two w at [] ys = ap (λ n. sifted_from w n ys) (omega arith)
in_two w at (x ∷ xs) ys =
    let f = fate w at x in
    let s = sifted_from (world_after w f) (at + 1) xs in
    ap (noted at x f) (in_two (world_after w f) (at + 1) xs ys)
    ∙ sym (then_noted at x f s (sifted_from s.world (at + 1 + length xs) ys))
    ∙ (λ i. then_sifted (noted at x f s) (sifted_from (sym (noted_world at x f s) i) (one_by_one (length xs) at i) ys))

pub in_parts : (w : World) (at : ℕ) (ps : List Batch) → sifted_parts w at ps ≡ sifted_from w at (all_of ps)
in_parts w at [] = refl
in_parts w at (p ∷ ps) =
    ap (then_sifted (sifted_from w at p)) (in_parts (sifted_from w at p).world (at + length p) ps)
    ∙ sym (in_two w at p (all_of ps))

-- each sample that is left out is refused where it stands
refused_more : (w : World) (xs ys : Batch) (ls : List (ℕ × Refusal)) → xs ≡ ys → AllByRecursion (IsRefusedAt w xs) ls → AllByRecursion (IsRefusedAt w ys) ls
refused_more w xs ys ls e h = subst (λ zs. AllByRecursion (IsRefusedAt w zs) ls) e h

plain : (n : ℕ) → 0 + n ≡ n
plain n = omega arith

snoc_world : (w : World) (before : Batch) (x : Item) → (sifted w (before ++ x ∷ [])).world ≡ world_after (sifted w before).world (fate (sifted w before).world (length before) x)
snoc_world w before x =
    let u = (sifted w before).world in
    ap (λ s. s.world) (in_two w 0 before (x ∷ []))
    ∙ noted_world (0 + length before) x (fate u (0 + length before) x) (sifted_from (world_after u (fate u (0 + length before) x)) (0 + length before + 1) [])
    ∙ ap (λ n. world_after u (fate u n x)) (plain (length before))

one_item : (n : ℕ) → n + 1 ≡ n + 1
one_item n = refl

first_told : (w : World) (before : Batch) (x : Item) (xs : Batch) (f : Fate) → fate (sifted w before).world (length before) x ≡ f → (s : Sifted)
    → AllByRecursion (IsRefusedAt w (before ++ x ∷ xs)) s.left → AllByRecursion (IsRefusedAt w (before ++ x ∷ xs)) (noted (length before) x f s).left
first_told w before x xs (joins v) e s h = h
first_told w before x xs held e s h = h
first_told w before x xs (left_out c) e s h =
    let l = leaving (sifted w before).world (length before) x c e in
    (record { before = before; sample = x; later = xs; is = refl; at = refl; refused = l.refused; absent = l.absent; other = l.other }, h)

pub refused_there : (w : World) (before xs : Batch) → AllByRecursion (IsRefusedAt w (before ++ xs)) (sifted_from (sifted w before).world (length before) xs).left
refused_there w before [] = tt
refused_there w before (x ∷ xs) =
    let u = (sifted w before).world in
    let at = length before in
    let f = fate u at x in
    let rest : AllByRecursion (IsRefusedAt w (before ++ x ∷ xs)) (sifted_from (world_after u f) (at + 1) xs).left =
    subst (λ (v : World). AllByRecursion (IsRefusedAt w (before ++ x ∷ xs)) (sifted_from v (at + 1) xs).left) (snoc_world w before x)
    (subst (λ n. AllByRecursion (IsRefusedAt w (before ++ x ∷ xs)) (sifted_from (sifted w (before ++ x ∷ [])).world n xs).left) (length-append before (x ∷ []) ∙ one_item at)
    (refused_more w ((before ++ x ∷ []) ++ xs) (before ++ x ∷ xs) (sifted_from (sifted w (before ++ x ∷ [])).world (length (before ++ x ∷ [])) xs).left (append_assoc before (x ∷ []) xs)
    (refused_there w (before ++ x ∷ []) xs))) in
    first_told w before x xs f refl (sifted_from (world_after u f) (at + 1) xs) rest

-- numbered from elsewhere, the same is kept, held and left out
like_noted : (at k : ℕ) (x : Item) (f g : Fate) → IsLike f g → (s t : Sifted) → IsAlike s t → IsAlike (noted at x f s) (noted k x g t)
like_noted at k x (joins v) (joins u) l s t h = record { world = h.world; kept = ap (λ (z : Batch). x ∷ z) h.kept; held = h.held; reasons = h.reasons }
like_noted at k x (joins v) held l s t h = absurd l
like_noted at k x (joins v) (left_out d) l s t h = absurd l
like_noted at k x held (joins u) l s t h = absurd l
like_noted at k x held held l s t h = record { world = h.world; kept = h.kept; held = ap (λ (z : Batch). x ∷ z) h.held; reasons = h.reasons }
like_noted at k x held (left_out d) l s t h = absurd l
like_noted at k x (left_out c) (joins u) l s t h = absurd l
like_noted at k x (left_out c) held l s t h = absurd l
like_noted at k x (left_out c) (left_out d) l s t h = record { world = h.world; kept = h.kept; held = h.held; reasons = λ i. l i ∷ h.reasons i }

like_world : (w : World) (f g : Fate) → IsLike f g → world_after w f ≡ world_after w g
like_world w (joins v) (joins u) l = l
like_world w (joins v) held l = absurd l
like_world w (joins v) (left_out d) l = absurd l
like_world w held (joins u) l = absurd l
like_world w held held l = refl
like_world w held (left_out d) l = absurd l
like_world w (left_out c) (joins u) l = absurd l
like_world w (left_out c) held l = absurd l
like_world w (left_out c) (left_out d) l = refl

pub alike : (w : World) (at k : ℕ) (xs : Batch) → IsAlike (sifted_from w at xs) (sifted_from w k xs)
alike w at k [] = record { world = refl; kept = refl; held = refl; reasons = refl }
alike w at k (x ∷ xs) =
    let l = like_fate w at k x in
    like_noted at k x (fate w at x) (fate w k x) l (sifted_from (world_after w (fate w at x)) (at + 1) xs) (sifted_from (world_after w (fate w k x)) (k + 1) xs)
    (subst (λ u. IsAlike (sifted_from (world_after w (fate w at x)) (at + 1) xs) (sifted_from u (k + 1) xs)) (like_world w (fate w at x) (fate w k x) l)
    (alike (world_after w (fate w at x)) (at + 1) (k + 1) xs))

kept_rests : (w : World) (at : ℕ) (xs : Batch) → AllByRecursion (λ x. Rests x (sifted_from w at xs).world) (sifted_from w at xs).kept
kept_rests w at [] = tt
kept_rests w at (x ∷ xs) = by_first (λ s. AllByRecursion (λ z. Rests z s.world) s.kept) w at x xs
    (λ v e. (rests_end x v (at + 1) xs (rests_joined w v at x e), kept_rests v (at + 1) xs))
    (λ e. kept_rests w (at + 1) xs)
    (λ c e. kept_rests w (at + 1) xs)

each_by : (P Q : Item → Type 0) → ((x : Item) → P x → Q x) → (xs : Batch) → AllByRecursion P xs → AllByRecursion Q xs
each_by P Q f [] h = tt
each_by P Q f (x ∷ xs) h = (f x h.0, each_by P Q f xs h.1)

-- Each sample that was kept is held when it comes again, whatever was committed in between.
pub kept_again : (w v : World) (xs ys : Batch) → committed (sifted w xs).world ys ≡ Ok v → AllByRecursion (λ x. (at : ℕ) → fate v at x ≡ held) (sifted w xs).kept
kept_again w v xs ys e =
    each_by (λ x. Rests x (sifted w xs).world) (λ x. (at : ℕ) → fate v at x ≡ held)
    (λ x r at. let later : Rests x v = subst (Rests x) (as_committed (sifted w xs).world v 0 ys e).0 (rests_end x (sifted w xs).world 0 ys r) in held_again v at x later.0 later.1)
    (sifted w xs).kept (kept_rests w 0 xs)

held_rests : (w : World) (at : ℕ) (xs : Batch) → AllByRecursion (λ x. is_hidden w x ≡ false → Rests x (sifted_from w at xs).world) (sifted_from w at xs).held
held_rests w at [] = tt
held_rests w at (x ∷ xs) = by_first (λ s. AllByRecursion (λ z. is_hidden w z ≡ false → Rests z s.world) s.held) w at x xs
    (λ v e. weaker w v (λ z. Rests z (sifted_from v (at + 1) xs).world) (shown_end x w v at e) (sifted_from v (at + 1) xs).held (held_rests v (at + 1) xs))
    (λ e. ((λ h. rests_end x w (at + 1) xs (rests_held w at x e h)), held_rests w (at + 1) xs))
    (λ c e. held_rests w (at + 1) xs)

-- So is each that was held, unless it is hidden.
pub held_later : (w v : World) (xs ys : Batch) → committed (sifted w xs).world ys ≡ Ok v → AllByRecursion (λ x. is_hidden w x ≡ false → (at : ℕ) → fate v at x ≡ held) (sifted w xs).held
held_later w v xs ys e =
    each_by (λ x. is_hidden w x ≡ false → Rests x (sifted w xs).world) (λ x. is_hidden w x ≡ false → (at : ℕ) → fate v at x ≡ held)
    (λ x r h at. let later : Rests x v = subst (Rests x) (as_committed (sifted w xs).world v 0 ys e).0 (rests_end x (sifted w xs).world 0 ys (r h)) in held_again v at x later.0 later.1)
    (sifted w xs).held (held_rests w 0 xs)
