-- What all of the bytes spell.
use Rattle.std.proofs.Common.{◌≡◌, ℕ, true, List, [], ◌∷◌, ◌++◌}
use Rattle.std.proofs.Common.{Result, Ok, Err, refl, sym, ap, subst, ◌∙◌}
use Rattle.std.specs.Prelude.{IfOk}
use Rattle.std.proofs.lemmas.List.{append-nil}
use Rattle.wire.specs.Outcome.{Fails}
use Rattle.wire.specs.Spelling.{IsBytes}
use Rattle.wire.proofs.Steps.{bind_ok, passed, same_value}
use Rattle.head.specs.Batches.{IsEvent}
use Rattle.head.specs.Worlds.{Event, batch, deletion, cut, joined}
use Rattle.event_text.specs.declared.error.TextError.{TextError}
use Rattle.event_text.specs.declared.error.TextError.TheVariants.{Memory, Kind, Field, Labels, Runs}
use Rattle.event_text.specs.declared.error.TextError.TheVariants.{Bounds, Rest}
use Rattle.event_text.specs.declared.error.EventError.{EventError}
use Rattle.event_text.specs.Outcome.{FollowsFrom, GivesEvent, is_memory}
use Rattle.event_text.specs.Reading.{event_at, event_of, is_event, alone}
use Rattle.event_text.specs.Spelling.{event_text, HasSpelling, Spells}
use Rattle.event_text.proofs.Texts.{event_takes, event_again}

pub is_within : (e : Event) → is_event e ≡ true → IsEvent e
is_within (batch xs) h = h
is_within (deletion ms a b) h = h
is_within (cut t) h = h
is_within (joined at count made) h = h

within_is : (e : Event) → IsEvent e → is_event e ≡ true
within_is (batch xs) h = h
within_is (deletion ms a b) h = h
within_is (cut t) h = h
within_is (joined at count made) h = h

record Alone (c e : Event) (rest : List ℕ) : Type 0 where
  same : c ≡ e
  nothing : rest ≡ []
  within : is_event c ≡ true

alone_ok : (c e : Event) (rest : List ℕ) → alone c rest ≡ Ok e → Alone c e rest
alone_ok c e [] h =
    let p = passed (is_event c) Bounds (Ok c) e h in
    record { same = same_value c e p.1; nothing = refl; within = p.0 }
alone_ok c e (b ∷ rest) h = absurd cc

pub spelled : (bytes : List ℕ) (e : Event) → IsBytes bytes → event_of bytes ≡ Ok e → Spells bytes e
unfolding event_of
spelled bytes e fits h =
    let x = bind_ok (event_at bytes) (λ (y : Event × List ℕ). alone y.0 y.1) e h in
    let one = event_takes bytes x.0 fits x.1 in
    let end = alone_ok x.0.0 e x.0.1 x.2 in
    subst (Spells bytes) end.same (record {
      text = one.front ∙ (ap (λ (y : List ℕ). event_text x.0.0 ++ y) end.nothing
          ∙ append-nil (event_text x.0.0));
      spelled = one.spelled;
      bounded = is_within x.0.0 end.within;
    })

pub read_again : (e : Event) → HasSpelling e → IsEvent e → event_of (event_text e) ≡ Ok e
unfolding event_of
read_again e h within =
    let all : event_at (event_text e) ≡ Ok (e, []) =
    ap event_at (sym (append-nil (event_text e))) ∙ event_again e [] h in
    rw (all, within_is e within) refl

abbrev both : Event → Result (Event × List ℕ) TextError
both e = Ok (e, [])

at_text : (e : Event) → HasSpelling e → event_at (event_text e) ≡ both e
at_text e h = ap event_at (sym (append-nil (event_text e))) ∙ event_again e [] h

pub one_text : (a b : Event) → HasSpelling a → HasSpelling b → event_text a ≡ event_text b → a ≡ b
one_text a b h i e =
    let x : Event × List ℕ = (a, []) in
    let y : Event × List ℕ = (b, []) in
    ap (λ (p : Event × List ℕ). p.0) (same_value x y (sym (at_text a h) ∙ (ap event_at e
    ∙ at_text b i)))

-- the clauses

by_spelling : (bytes : List ℕ) (read : Result Event TextError) (result : Result Event EventError) → IsBytes bytes
    → event_of bytes ≡ read → FollowsFrom read result → IfOk result (λ (e : Event). Spells bytes e)
by_spelling bytes (Ok e) (Ok made) fits h f = spelled bytes made fits (h
    ∙ ap (λ (x : Event). Ok x) (sym f))
by_spelling bytes (Err g) (Ok made) fits h f = absurd f
by_spelling bytes read (Err g) fits h f = tt

pub is_found : (bytes : List ℕ) (result : Result Event EventError) → IsBytes bytes
    → FollowsFrom (event_of bytes) result → IfOk result (λ (e : Event). Spells bytes e)
is_found bytes result fits f = by_spelling bytes (event_of bytes) result fits refl f

pub is_only : (bytes : List ℕ) (result : Result Event EventError) (e : Event)
    → FollowsFrom (event_of bytes) result → Spells bytes e → GivesEvent e result
is_only bytes result e f s =
    subst (λ (r : Result Event TextError). FollowsFrom r result)
    (ap event_of s.text ∙ read_again e s.spelled s.bounded) f

abbrev failed : TextError → Result Event TextError
failed f = Err f

-- where reading fails, no event is spelled, unless memory ran out
pub is_only_memory : (bytes : List ℕ) (f : TextError) (e : Event)
    → Fails is_memory f (event_of bytes)
    → Spells bytes e → f ≡ Memory
is_only_memory bytes f e h s = by_error f h
  where
    reads : event_of bytes ≡ Ok e
    reads = ap event_of s.text ∙ read_again e s.spelled s.bounded

    other : (g : TextError) → event_of bytes ≡ Err g → ⊥
    other g k = let a : failed g ≡ Ok e = sym k ∙ reads in cc

    by_error : (g : TextError) → Fails is_memory g (event_of bytes) → g ≡ Memory
    by_error Memory k = refl
    by_error Kind k = absurd (other Kind k)
    by_error Field k = absurd (other Field k)
    by_error Labels k = absurd (other Labels k)
    by_error Runs k = absurd (other Runs k)
    by_error Bounds k = absurd (other Bounds k)
    by_error Rest k = absurd (other Rest k)
