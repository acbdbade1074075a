-- there is one leftmost certificate
use Rattle.std.proofs.Common.{◌≡◌, ℕ, ◌<◌, ◌≤◌, true, false, ◌⊎◌, inl, inr, List, [], ◌∷◌, map, refl, sym, ◌∙◌, ap, subst, arith}
use Rattle.std.specs.List.{flat_map, Contains}
use Rattle.labels.specs.Ascending.{first_or_end}
use Rattle.labels.proofs.Lists.{here, there, first-least, first-in, below_or_not}
use Rattle.cover.specs.declared.certificate.Interval.{Interval}
use Rattle.cover.specs.declared.certificate.Verdict.{Verdict}
use Rattle.cover.specs.declared.certificate.Verdict.TheVariants.{Match, NoSample, Rejected}
use Rattle.cover.specs.Certificates.{Asked, IsAsked, references_between, IsRun, FitsUnder, IsFittingRun, run_of, next_from, IsChained, IsValidCertificate, NamesSmallest, IsLeftmost}
use Rattle.cover.proofs.Runs.{in_run, of_run, in_between, of_between, AllForward, begins_not_below, ends_in_range, in_some, valid_forward, interval_run}
use Rattle.cover.proofs.Longest.{GoesFarthest, leftmost_far}

-- what each interval of a leftmost certificate is, alone
pub record IsSettled (a : Asked) (i : Interval) : Type 0 where
  pub of_part : Contains a.references i.from
  pub forward : i.from < i.until
  pub fits : FitsUnder a i.verdict (run_of a i)
  pub farthest : GoesFarthest a i
  pub smallest : NamesSmallest a i.verdict (run_of a i)

abbrev pub AllSettled : Asked → List Interval → Type 0
AllSettled a c = (i : Interval) → Contains c i → IsSettled a i

settled_forward : (a : Asked) (c : List Interval) → AllSettled a c → AllForward c
settled_forward a c s = λ i m. (s i m).forward

-- an interval ends at the end of all references, or at the first reference of the next
ends_at : (a : Asked) (i : Interval) (is : List Interval) → IsChained (i ∷ is)
    → AllSettled a (i ∷ is) → (i.until ≡ 4294967296) ⊎ Contains a.references i.until
ends_at a i [] ch s = inl ch.0
ends_at a i (k ∷ ks) ch s =
    inr (subst (λ (n : ℕ). Contains a.references n) (sym ch.0)
    (s k (there i k (k ∷ ks) (here k ks))).of_part)

-- of two intervals with one first reference, none of which could go farther, neither ends before
-- the other
not_sooner : (a : Asked) (i k : Interval) → IsAsked a → IsSettled a i
    → IsSettled a k → i.from ≡ k.from
    → k.until ≤ 4294967296
    → (i.until ≡ 4294967296) ⊎ Contains a.references i.until → k.until ≤ i.until
not_sooner a i k part si sk same top (inl e) = omega (arith, e)
not_sooner a i k part si sk same top (inr c) =
    elim (below_or_not i.until k.until) [
      | inr done ↦ done
      | inl sooner ↦ absurd (
          let r : IsRun a (run_of a k) = interval_run a k part sk.of_part sk.forward in
          let begins : Contains (references_between a r.low r.high) k.from =
          subst (λ (xs : List ℕ). Contains xs k.from) r.is
          (in_run a k k.from sk.of_part (omega arith) sk.forward) in
          let b : Contains a.references k.from × (r.low ≤ k.from) × (k.from ≤ r.high) =
          of_between a r.low r.high k.from begins in
          let lows : Contains a.references r.low × (k.from ≤ r.low) × (r.low < k.until) =
          of_run a k r.low (subst (λ (xs : List ℕ). Contains xs r.low) (sym r.is)
          (in_between a r.low r.high r.low r.has_low (omega arith) r.ordered)) in
          let ends : Contains (references_between a r.low r.high) i.until =
          subst (λ (xs : List ℕ). Contains xs i.until) r.is
          (in_run a k i.until c (omega (arith, same, si.forward)) sooner) in
          let e : Contains a.references i.until × (r.low ≤ i.until) × (i.until ≤ r.high) =
          of_between a r.low r.high i.until ends in
          let low_is : r.low ≡ i.from = omega (arith, b.1, lows.1, same) in
          let run_is : run_of a k ≡ references_between a i.from r.high =
          r.is ∙ ap (λ (l : ℕ). references_between a l r.high) low_is in
          let fit : IsFittingRun a (run_of a k) =
          record { is_run = r; verdict = k.verdict; fits = sk.fits } in
          let far : r.high < i.until =
          si.farthest r.high r.has_high (subst (IsFittingRun a) run_is fit) in
          omega (arith, e.2))
    ]

-- a match is a live reference that no matcher rejects
match_only : (a : Asked) (w : Verdict) (run : List ℕ) → FitsUnder a Match run
    → FitsUnder a w run → Match ≡ w
match_only a Match run f g = refl
match_only a NoSample run f g = absurd (
    let one : Contains run f.0 = subst (λ (xs : List ℕ). Contains xs f.0) (sym f.1) (here f.0 []) in
    let silent : a.live f.0 ≡ false = g f.0 one in
    let lives : a.live f.0 ≡ true = f.2.1 in
    cc)
match_only a (Rejected k) run f g = absurd (
    let one : Contains run f.0 = subst (λ (xs : List ℕ). Contains xs f.0) (sym f.1) (here f.0 []) in
    let rejects : a.accepts k f.0 ≡ false = g.1 f.0 one in
    let takes : a.accepts k f.0 ≡ true = f.2.0 k g.0 in
    cc)

same_verdict : (a : Asked) (v w : Verdict) (run : List ℕ) → FitsUnder a v run → FitsUnder a w run
    → NamesSmallest a v run → NamesSmallest a w run → v ≡ w
same_verdict a Match w run f g s t = match_only a w run f g
same_verdict a NoSample Match run f g s t = sym (match_only a NoSample run g f)
same_verdict a NoSample NoSample run f g s t = refl
same_verdict a NoSample (Rejected k) run f g s t = absurd (s k g)
same_verdict a (Rejected j) Match run f g s t = sym (match_only a (Rejected j) run g f)
same_verdict a (Rejected j) NoSample run f g s t = absurd (t j f)
same_verdict a (Rejected j) (Rejected k) run f g s t =
    let up : j ≤ k = s k g in
    let down : k ≤ j = t j f in
    ap Rejected (omega arith)

abbrev interval : ℕ → ℕ → Verdict → Interval
interval from until verdict = record { from = from; until = until; verdict = verdict }

same_interval : (i k : Interval) → i.from ≡ k.from → i.until ≡ k.until
    → i.verdict ≡ k.verdict → i ≡ k
same_interval i k from until verdict =
    ap (λ (n : ℕ). interval n i.until i.verdict) from
    ∙ ap (λ (n : ℕ). interval k.from n i.verdict) until
    ∙ ap (interval k.from k.until) verdict

same_first : (a : Asked) (i k : Interval) (is ks : List Interval) → IsAsked a → IsChained (i ∷ is)
    → IsChained (k ∷ ks)
    → AllSettled a (i ∷ is) → AllSettled a (k ∷ ks) → i.from ≡ k.from → i ≡ k
same_first a i k is ks part ci ck si sk same =
    let gi : IsSettled a i = si i (here i is) in
    let gk : IsSettled a k = sk k (here k ks) in
    let ti : i.until ≤ 4294967296 =
    ends_in_range (i ∷ is) ci (settled_forward a (i ∷ is) si) i (here i is) in
    let tk : k.until ≤ 4294967296 =
    ends_in_range (k ∷ ks) ck (settled_forward a (k ∷ ks) sk) k (here k ks) in
    let down : k.until ≤ i.until = not_sooner a i k part gi gk same tk (ends_at a i is ci si) in
    let up : i.until ≤ k.until = not_sooner a k i part gk gi (sym same) ti (ends_at a k ks ck sk) in
    let until : i.until ≡ k.until = omega arith in
    let runs : run_of a i ≡ run_of a k =
    ap (λ (n : ℕ). run_of a (interval n i.until i.verdict)) same
    ∙ ap (λ (n : ℕ). run_of a (interval k.from n i.verdict)) until in
    let fits : FitsUnder a i.verdict (run_of a k) =
    subst (λ (run : List ℕ). FitsUnder a i.verdict run) runs gi.fits in
    let smallest : NamesSmallest a i.verdict (run_of a k) =
    subst (λ (run : List ℕ). NamesSmallest a i.verdict run) runs gi.smallest in
    same_interval i k same until
    (same_verdict a i.verdict k.verdict (run_of a k) fits gk.fits smallest gk.smallest)

same_chain : (a : Asked) (c d : List Interval) → IsAsked a → IsChained c → IsChained d
    → AllSettled a c → AllSettled a d → next_from c ≡ next_from d → c ≡ d
same_chain a [] [] part ci ck si sk same = refl
same_chain a [] (k ∷ ks) part ci ck si sk same =
    absurd (let l : k.from < 4294967296 = part.in_range k.from (sk k (here k ks)).of_part in
    omega arith)
same_chain a (i ∷ is) [] part ci ck si sk same =
    absurd (let l : i.from < 4294967296 = part.in_range i.from (si i (here i is)).of_part in
    omega arith)
same_chain a (i ∷ is) (k ∷ ks) part ci ck si sk same =
    let first : i ≡ k = same_first a i k is ks part ci ck si sk same in
    let next : next_from is ≡ next_from ks =
    sym ci.0 ∙ ap (λ (j : Interval). j.until) first ∙ ck.0 in
    let rest : is ≡ ks =
    same_chain a is ks part ci.1 ck.1 (λ j m. si j (there i j is m))
    (λ j m. sk j (there k j ks m)) next in
    ap (λ (j : Interval). j ∷ is) first ∙ ap (λ (js : List Interval). k ∷ js) rest

-- a valid certificate begins at the first reference
valid_first : (a : Asked) (c : List Interval) → IsAsked a → IsValidCertificate a c
    → next_from c ≡ first_or_end a.references
valid_first a [] part v = ap first_or_end v.partition.whole
valid_first a (i ∷ is) part v =
    let forward : AllForward (i ∷ is) = valid_forward a (i ∷ is) v in
    let at : Contains a.references i.from × (i.from ≤ i.from) × (i.from < i.until) =
    of_run a i i.from (v.begins i (here i is)) in
    let up : first_or_end a.references ≤ i.from =
    first-least a.references i.from part.ascending at.0 in
    let within : i.from < 4294967296 = part.in_range i.from at.0 in
    let first : Contains a.references (first_or_end a.references) =
    first-in a.references (omega arith) in
    let inside : Contains (flat_map (λ (run : List ℕ). run) (map (run_of a) (i ∷ is)))
    (first_or_end a.references) =
    subst (λ (xs : List ℕ). Contains xs (first_or_end a.references)) (sym v.partition.whole)
    first in
    let k : (k : Interval)
    × (Contains (i ∷ is) k × Contains (run_of a k) (first_or_end a.references)) =
    in_some a (i ∷ is) (first_or_end a.references) inside in
    let b : Contains a.references (first_or_end a.references)
    × (k.0.from ≤ first_or_end a.references) × (first_or_end a.references < k.0.until) =
    of_run a k.0 (first_or_end a.references) k.1.1 in
    let low : i.from ≤ k.0.from = begins_not_below (i ∷ is) v.chained forward k.0 k.1.0 in
    omega arith

all_settled : (a : Asked) (c : List Interval) → IsAsked a → IsLeftmost a c → AllSettled a c
all_settled a c part left = λ i m.
    let at : Contains a.references i.from × (i.from ≤ i.from) × (i.from < i.until) =
    of_run a i i.from (left.valid.begins i m) in
    record {
      of_part = at.0;
      forward = at.2;
      fits = left.valid.fits i m;
      farthest = leftmost_far a c part left i m;
      smallest = left.smallest i m;
    }

pub leftmost_unique : (a : Asked) (c d : List Interval) → IsAsked a → IsLeftmost a c
    → IsLeftmost a d → c ≡ d
leftmost_unique a c d part lc ld =
    same_chain a c d part lc.valid.chained ld.valid.chained (all_settled a c part lc)
    (all_settled a d part ld) (valid_first a c part lc.valid ∙ sym (valid_first a d part ld.valid))
