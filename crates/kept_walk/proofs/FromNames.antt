-- Contents that are read one after another, each after the names that those before it gave.
use Rattle.std.proofs.Common.{◌≡◌, ℕ, suc, ◌+◌, ◌<◌, ◌≤◌, true, false, List, [], ◌∷◌, ◌++◌}
use Rattle.std.proofs.Common.{length, take, get_or, refl, sym, ap, subst, ◌∙◌, arith, Vec, Result}
use Rattle.std.proofs.Common.{Ok, Err, inl, inr}
use Rattle.std.specs.Prelude.{IfOk}
use Rattle.std.specs.declared.alloc.Global.{Global}
use Rattle.std.specs.List.{Contains}
use Rattle.std.proofs.lemmas.List.{map-append, take_all}
use Rattle.std.proofs.lemmas.Grind.{take_at_read}
use Rattle.wire.proofs.Steps.{same_value}
use Rattle.labels.specs.Rows.{Row}
use Rattle.journal.specs.Contents.{contents_in}
use Rattle.kept_walk.specs.Contents.{AreFrom, SpellsBy, SpellsEvent, SpellsNumbered}
use Rattle.kept_walk.specs.Kept.{Event, batch, deletion, cut}
use Rattle.kept_walk.specs.Numbered.{Names}
use Rattle.kept_walk.specs.NumberedReading.{numbered_of}
use Rattle.kept_walk.specs.Parts.{is_numbered}
use Rattle.kept_walk.specs.Refusals.{FindsChange, FindsPlain, IsNoEvent}
use Rattle.kept_walk.specs.declared.fault.EventFault.{EventFault}
use Rattle.kept_walk.specs.declared.fault.EventFault.TheVariants as faults
use Rattle.kept_walk.specs.declared.fault.Fault.TheVariants.{Form}
use Rattle.kept_walk.specs.declared.fault.Fault.{Fault}
use Rattle.kept_walk.specs.declared.journal_state.Change.{Change}
use Rattle.kept_walk.proofs.ByNumber.{numbered_again}
use Rattle.kept_walk.proofs.Contents.{event_read}

abbrev Contents : Type 0
Contents = List (List ℕ)

-- ONE CONTENT

pub plain_kind : (content : List ℕ) (e : Event) → SpellsEvent content e
    → is_numbered content ≡ false
plain_kind content (batch runs) s = ap is_numbered s.text
plain_kind content (deletion matchers from to) s = ap is_numbered s.text
plain_kind content (cut time) s = ap is_numbered s.text

numbered_kind : (names : Names) (content : List ℕ) (runs : List Row) (after : Names)
    → SpellsNumbered names content runs after → is_numbered content ≡ true
numbered_kind names content runs after s = ap is_numbered s.text

apart : {X : Type 0} (content : List ℕ) → is_numbered content ≡ true
    → is_numbered content ≡ false → X
apart content t f = absurd (let e : true ≡ false = sym t ∙ f in cc)

abbrev read_pair : List Row → Names → Result (List Row × Names) Fault
read_pair runs after = Ok (runs, after)

one_numbered : (names : Names) (fields : List ℕ) (a b : List Row) (m n : Names)
    → SpellsNumbered names (4 ∷ fields) a m → SpellsNumbered names (4 ∷ fields) b n
    → (a ≡ b) × (m ≡ n)
one_numbered names fields a b m n s t =
    let x : List Row × Names = (a, m) in
    let y : List Row × Names = (b, n) in
    let same : x ≡ y =
    same_value x y (sym (numbered_again names fields a m s) ∙ numbered_again names fields b n t) in
    (ap (λ (p : List Row × Names). p.0) same, ap (λ (p : List Row × Names). p.1) same)

-- a content spells one event, and leaves the same names
pub one_by : (names : Names) (content : List ℕ) (a b : Event) (m n : Names)
    → SpellsBy names content a m → SpellsBy names content b n → (a ≡ b) × (m ≡ n)
one_by names content a b m n (inl s) (inl t) = (
  same_value a b (sym (event_read content a s.0) ∙ event_read content b t.0),
  s.1 ∙ sym t.1,
)
one_by names content a b m n (inl s) (inr t) =
    apart content (numbered_kind names content t.0 n t.2) (plain_kind content a s.0)
one_by names content a b m n (inr s) (inl t) =
    apart content (numbered_kind names content s.0 m s.2) (plain_kind content b t.0)
one_by names content a b m n (inr s) (inr t) =
    let f = s.2.fields in
    let one = subst (λ (c : List ℕ). SpellsNumbered names c s.0 m) s.2.text s.2 in
    let two = subst (λ (c : List ℕ). SpellsNumbered names c t.0 n) s.2.text t.2 in
    let same = one_numbered names f s.0 t.0 m n one two in
    (s.1 ∙ (ap batch same.0 ∙ sym t.1), same.1)

-- what a call found of one

none_plain : (names : Names) (content : List ℕ) → is_numbered content ≡ false
    → ((e : Event) → SpellsEvent content e → ⊥) → (e : Event) (after : Names)
    → SpellsBy names content e after → ⊥
none_plain names content plain none e after (inl s) = none e s.0
none_plain names content plain none e after (inr s) =
    apart content (numbered_kind names content s.0 after s.2) plain

pub plain_finds : (names : Names) (content : List ℕ) (result : Result Change EventFault)
    → is_numbered content ≡ false → FindsPlain content result
    → FindsChange names content names result
plain_finds names content (Ok change) plain h = inl (h, refl)
plain_finds names content (Err faults.Memory) plain h = tt
plain_finds names content (Err faults.Form) plain h =
    λ e after s. none_plain names content plain h e after s
plain_finds names content (Err faults.Matcher) plain h = (h.0, names, inl (h.1, refl), h.2)

pub always : {X E : Type 0} {P : Type 0} (r : Result X E) → P → IfOk r (λ x. P)
always (Ok x) p = p
always (Err e) p = tt

abbrev refused : Result (List Row × Names) Fault
refused = Err Form

differ : {X : Type 0} (runs : List Row) (after : Names) → refused ≡ read_pair runs after → X
differ runs after e = absurd cc

pub none_numbered : (names : Names) (fields : List ℕ) → numbered_of names fields ≡ Err Form
    → IsNoEvent names (4 ∷ fields)
none_numbered names fields failed e after (inl s) =
    apart (4 ∷ fields) refl (plain_kind (4 ∷ fields) e s.0)
none_numbered names fields failed e after (inr s) =
    differ s.0 after (sym failed ∙ numbered_again names fields s.0 after s.2)

-- SEVERAL

from_last : (names : Names) (cs : Contents) (xs : List Event) (mid : Names) (c : List ℕ)
    (x : Event) (after : Names) → AreFrom names cs xs mid → SpellsBy mid c x after
    → AreFrom names (cs ++ c ∷ []) (xs ++ x ∷ []) after
from_last names [] [] mid c x after all s =
    (after, subst (λ (ns : Names). SpellsBy ns c x after) (sym all) s, refl)
from_last names [] (y ∷ xs) mid c x after all s = absurd all
from_last names (d ∷ cs) [] mid c x after all s = absurd all
from_last names (d ∷ cs) (y ∷ xs) mid c x after all s =
    (all.0, all.1, from_last all.0 cs xs mid c x after all.2 s)

abbrev Bytes : Type 0
Bytes = Vec ℕ Global

pub from_turn : (vs : List Bytes) (i : ℕ) (d : Bytes) (content : List ℕ) (xs : List Event)
    (x : Event) (names after : Names) → i < length vs → content ≡ (get_or vs i d).items
    → AreFrom [] (contents_in (take i vs)) xs names → SpellsBy names content x after
    → AreFrom [] (contents_in (take (i + 1) vs)) (xs ++ x ∷ []) after
from_turn vs i d content xs x names after lt is so_far s =
    let v = get_or vs i d in
    let split : contents_in (take (i + 1) vs) ≡ contents_in (take i vs) ++ v.items ∷ [] =
    ap contents_in (take_at_read vs i d lt).1
    ∙ map-append (λ (w : Bytes). w.items) (take i vs) (v ∷ []) in
    subst (λ (cs : Contents). AreFrom [] cs (xs ++ x ∷ []) after) (sym split)
    (from_last [] (contents_in (take i vs)) xs names v.items x after so_far
    (subst (λ (c : List ℕ). SpellsBy names c x after) is s))

pub from_end : (vs : List Bytes) (i : ℕ) (xs : List Event) (after : Names) → length vs ≤ i
    → AreFrom [] (contents_in (take i vs)) xs after → AreFrom [] (contents_in vs) xs after
from_end vs i xs after le all =
    subst (λ (ws : List Bytes). AreFrom [] (contents_in ws) xs after) (take_all i vs le) all

pub from_long : (names : Names) (cs : Contents) (xs : List Event) (after : Names)
    → AreFrom names cs xs after → length cs ≡ length xs
from_long names [] [] after all = refl
from_long names [] (x ∷ xs) after all = absurd all
from_long names (c ∷ cs) [] after all = absurd all
from_long names (c ∷ cs) (x ∷ xs) after all = ap suc (from_long all.0 cs xs after all.2)

-- contents spell one list of events, and leave the same names
pub one_from : (names : Names) (cs : Contents) (xs ys : List Event) (m n : Names)
    → AreFrom names cs xs m → AreFrom names cs ys n → (xs ≡ ys) × (m ≡ n)
one_from names [] [] [] m n a b = (refl, sym a ∙ b)
one_from names [] [] (y ∷ ys) m n a b = absurd b
one_from names [] (x ∷ xs) ys m n a b = absurd a
one_from names (c ∷ cs) [] ys m n a b = absurd a
one_from names (c ∷ cs) (x ∷ xs) [] m n a b = absurd b
one_from names (c ∷ cs) (x ∷ xs) (y ∷ ys) m n a b =
    let first = one_by names c x y a.0 b.0 a.1 b.1 in
    let others = one_from b.0 cs xs ys m n
    (subst (λ (ns : Names). AreFrom ns cs xs m) first.1 a.2) b.2 in (
      ap (λ (z : Event). z ∷ xs) first.0 ∙ ap (λ (zs : List Event). y ∷ zs) others.0,
      others.1,
    )

-- the one behind these, and that it is among them
pub placed_from : (names : Names) (front : Contents) (last : List ℕ) (rest : Contents)
    (xs ys : List Event) (after there : Names) → AreFrom names (front ++ last ∷ rest) xs after
    → AreFrom names front ys there
    → (x : Event) × (mid : Names) × SpellsBy there last x mid × Contains xs x
placed_from names [] last rest [] ys after there all before = absurd all
placed_from names [] last rest (x ∷ xs) [] after there all before = (
  x,
  all.0,
  subst (λ (ns : Names). SpellsBy ns last x all.0) before all.1,
  (0, omega arith, refl),
)
placed_from names [] last rest (x ∷ xs) (y ∷ ys) after there all before = absurd before
placed_from names (c ∷ front) last rest [] ys after there all before = absurd all
placed_from names (c ∷ front) last rest (x ∷ xs) [] after there all before = absurd before
placed_from names (c ∷ front) last rest (x ∷ xs) (y ∷ ys) after there all before =
    let same = one_by names c x y all.0 before.0 all.1 before.1 in
    let later = placed_from before.0 front last rest xs ys after there
    (subst (λ (ns : Names). AreFrom ns (front ++ last ∷ rest) xs after) same.1 all.2) before.2 in (
      later.0,
      later.1,
      later.2,
      (suc later.3.0, omega (arith, later.3.1), later.3.2),
    )
