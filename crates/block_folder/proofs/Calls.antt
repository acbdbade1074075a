-- Calls after calls.
use Rattle.std.proofs.Common.{◌≡◌, ℕ, suc, ◌+◌, ◌<◌, true, false, List, [], ◌∷◌, ◌++◌, map}
use Rattle.std.proofs.Common.{length, take, drop, get_or, refl, sym, ap, subst, ◌∙◌, append_assoc}
use Rattle.std.proofs.lemmas.List.{append-nil, take-append-drop}
use Rattle.std.proofs.lemmas.Grind.{take_at_read}
use Rattle.std.proofs.Math.Seq.{drop-cons}
use Rattle.std.specs.Prelude.{Result, Ok, Err, OnErr}
use Rattle.block_folder.specs.declared.step.Step.{Step}
use Rattle.block_folder.specs.Steps.{Call, Did, call_of, all_done, FailsWithin, DoesAll}
use Rattle.block_folder.specs.Steps.{DoesUpToOne}

calls_join : (as' bs : List Step) → map call_of (as' ++ bs) ≡ map call_of as' ++ map call_of bs
calls_join [] bs = refl
calls_join (a ∷ as') bs = ap (λ (x : List Call). call_of a ∷ x) (calls_join as' bs)

done_join : (as' bs : List Call) → all_done (as' ++ bs) ≡ all_done as' ++ all_done bs
done_join [] bs = refl
done_join (a ∷ as') bs = ap (λ (x : List Did). (a, true) ∷ x) (done_join as' bs)

-- nothing was called yet
pub does_none : {D : Type 0} (did : D → List Did → Type 0) (d : D) → DoesAll did [] d d
does_none did d log told = subst (did d) (sym (append-nil log)) told

does_next : {D : Type 0} (did : D → List Did → Type 0) (old mid new : D) (cs : List Call)
    (c : Call) → DoesAll did cs old mid → DoesAll did (c ∷ []) mid new
    → DoesAll did (cs ++ c ∷ []) old new
does_next did old mid new cs c first second log told =
    subst (did new)
    (append_assoc log (all_done cs) ((c, true) ∷ [])
    ∙ ap (λ (x : List Did). log ++ x) (sym (done_join cs (c ∷ []))))
    (second (log ++ all_done cs) (first log told))

one_more : (steps : List Step) (i : ℕ) (d : Step) → i < length steps
    → map call_of (take (i + 1) steps)
    ≡ map call_of (take i steps) ++ call_of (get_or steps i d) ∷ []
one_more steps i d lt =
    ap (map call_of) (take_at_read steps i d lt).1
    ∙ calls_join (take i steps) (get_or steps i d ∷ [])

pub does_one_more : {D : Type 0} (did : D → List Did → Type 0) (old mid new : D)
    (steps : List Step) (i : ℕ) (d : Step) → i < length steps
    → DoesAll did (map call_of (take i steps)) old mid
    → DoesAll did (call_of (get_or steps i d) ∷ []) mid new
    → DoesAll did (map call_of (take (i + 1) steps)) old new
does_one_more did old mid new steps i d lt first second =
    subst (λ (x : List Call). DoesAll did x old new) (sym (one_more steps i d lt))
    (does_next did old mid new (map call_of (take i steps)) (call_of (get_or steps i d)) first
    second)

apart : (steps : List Step) (i : ℕ) (d : Step) → i < length steps
    → map call_of steps
    ≡ map call_of (take i steps) ++ call_of (get_or steps i d) ∷ map call_of (drop (suc i) steps)
apart steps i d lt =
    ap (map call_of) (sym (take-append-drop i steps)
    ∙ ap (λ (x : List Step). take i steps ++ x) (drop-cons steps i d lt))
    ∙ calls_join (take i steps) (get_or steps i d ∷ drop (suc i) steps)

fails_after : (cs : List Call) (c : Call) (es : List Call) (more : List Did)
    → FailsWithin (c ∷ []) more → FailsWithin (cs ++ c ∷ es) (all_done cs ++ more)
fails_after cs c es more f = record {
  before = cs ++ f.before;
  call = f.call;
  after = f.after ++ es;
  order = ap (λ (x : List Call). cs ++ (x ++ es)) f.order
      ∙ (ap (λ (x : List Call). cs ++ x) (append_assoc f.before (f.call ∷ f.after) es)
      ∙ sym (append_assoc cs f.before (f.call ∷ (f.after ++ es))));
  told = ap (λ (x : List Did). all_done cs ++ x) f.told
      ∙ (sym (append_assoc (all_done cs) (all_done f.before) ((f.call, false) ∷ []))
      ∙ ap (λ (x : List Did). x ++ (f.call, false) ∷ []) (sym (done_join cs f.before)));
}

pub fails_at_one : {D : Type 0} (did : D → List Did → Type 0) (old mid new : D)
    (steps : List Step) (i : ℕ) (d : Step) → i < length steps
    → DoesAll did (map call_of (take i steps)) old mid
    → DoesUpToOne did (call_of (get_or steps i d) ∷ []) mid new
    → DoesUpToOne did (map call_of steps) old new
fails_at_one did old mid new steps i d lt first second log told =
    let cs = map call_of (take i steps) in
    let c = call_of (get_or steps i d) in
    let es = map call_of (drop (suc i) steps) in
    let s = second (log ++ all_done cs) (first log told) in (
      all_done cs ++ s.0,
      subst (did new) (append_assoc log (all_done cs) s.0) s.1,
      subst (λ (x : List Call). FailsWithin x (all_done cs ++ s.0)) (sym (apart steps i d lt))
          (fails_after cs c es s.0 s.2),
    )

-- what holds after an error
pub on_err : {A E : Type 0} (r : Result A E) (P : Type 0) → P → OnErr r P
on_err (Ok x) P p = tt
on_err (Err e) P p = p
