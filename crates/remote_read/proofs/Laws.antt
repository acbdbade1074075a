-- What is read is what the bytes mean, and what they mean is read.
use Rattle.std.proofs.Common.{◌≡◌, ℕ, Bool, true, false, eqb, cond, List, [], ◌∷◌, ◌++◌, length, Result, Ok, Err, refl, sym, ap, subst, ◌∙◌, arith, append_assoc, ℤ}
use Rattle.std.specs.Prelude.{IfOk}
use Rattle.std.proofs.lemmas.List.{append-nil}
use Rattle.std.proofs.lemmas.Bool.{eqb-true}
use Rattle.std.specs.Int.{w64, cast_signed}
use Rattle.wire.specs.Outcome.{Gives}
use Rattle.wire.specs.Spelling.{IsBytes}
use Rattle.protobuf_fields.specs.Format.{Value, Number, Eight, Text, Four, EachIs, texts, numbers, last_or}
use Rattle.protobuf_fields.specs.Reading.{Refusal}
use Rattle.protobuf_fields.proofs.Fields.{bind_ok}
use Rattle.protobuf_fields.proofs.Messages.{Steps, steps_once, message_took, message_again, FitTexts}
use Rattle.remote_write.specs.declared.error.ReadError.{ReadError}
use Rattle.remote_write.specs.Reading.{is_memory, or_error}
use Rattle.remote_write.proofs.Steps.{given}
use Rattle.remote_read.specs.Format.{MatcherValue, QueryValue, IsMatcher, IsHints, AreHints, IsQuery, IsRequest, matcher_allows, hints_allows, query_allows, request_allows}
use Rattle.remote_read.specs.Reading.{matcher_step, no_matcher, matcher_at, hints_step, hints_at, query_step, no_query, query_at, request_step, request_at, with_matcher, with_func}

-- a matcher, by the fields after another
abbrev matcher_after : MatcherValue → List Value → MatcherValue
matcher_after a vs = record { kind = last_or a.kind (numbers 1 vs); name = last_or a.name (texts 2 vs); value = last_or a.value (texts 3 vs) }

not_both : (n : ℕ) → eqb n 2 ≡ true → eqb n 3 ≡ true → ⊥
not_both n e f = let a = eqb-true n 2 e in let b = eqb-true n 3 f in omega arith

matcher_text : (a : MatcherValue) (n : ℕ) (t : List ℕ) (vs : List Value) (p q : Bool) → eqb n 2 ≡ p → eqb n 3 ≡ q → (p ≡ true → q ≡ true → ⊥)
    → (c : MatcherValue) × (matcher_step a (Text n t) ≡ Ok c) × (matcher_after a (Text n t ∷ vs) ≡ matcher_after c vs)
matcher_text a n t vs true true e f never = absurd (never refl refl)
matcher_text a n t vs true false e f never = (record { kind = a.kind; name = t; value = a.value }, rw e refl, rw (e, f) refl)
matcher_text a n t vs false true e f never = (record { kind = a.kind; name = a.name; value = t }, rw (e, f) refl, rw (e, f) refl)
matcher_text a n t vs false false e f never = (a, rw (e, f) refl, rw (e, f) refl)

matcher_number : (a : MatcherValue) (n v : ℕ) (vs : List Value) (p : Bool) → eqb n 1 ≡ p
    → (c : MatcherValue) × (matcher_step a (Number n v) ≡ Ok c) × (matcher_after a (Number n v ∷ vs) ≡ matcher_after c vs)
matcher_number a n v vs true e = (record { kind = v; name = a.name; value = a.value }, rw e refl, rw e refl)
matcher_number a n v vs false e = (a, rw e refl, rw e refl)

matcher_one : (a : MatcherValue) (v : Value) (vs : List Value) → (c : MatcherValue) × (matcher_step a v ≡ Ok c) × (matcher_after a (v ∷ vs) ≡ matcher_after c vs)
matcher_one a (Text n t) vs = matcher_text a n t vs (eqb n 2) (eqb n 3) refl refl (not_both n)
matcher_one a (Number n v) vs = matcher_number a n v vs (eqb n 1) refl
matcher_one a (Eight n v) vs = (a, refl, refl)
matcher_one a (Four n v) vs = (a, refl, refl)

matcher_run : (a : MatcherValue) (vs : List Value) → Steps matcher_step a vs (matcher_after a vs)
matcher_run a [] = refl
matcher_run a (v ∷ vs) =
    let o = matcher_one a v vs in
    (o.0, o.1, subst (λ (b : MatcherValue). Steps matcher_step o.0 vs b) (sym o.2) (matcher_run o.0 vs))

pub matcher_took : (bytes : List ℕ) (m : MatcherValue) → IsBytes bytes → matcher_at bytes ≡ Ok m → IsMatcher bytes m
unfolding matcher_at
matcher_took bytes m fits e =
    let t = message_took matcher_allows matcher_step (length bytes) no_matcher m bytes fits (omega arith) e in
    let s = steps_once matcher_step no_matcher m (matcher_after no_matcher t.values) t.values t.steps (matcher_run no_matcher t.values) in
    record {
      fields = t.values;
      spelled = t.fields;
      known = t.known;
      kind = ap (λ (m : MatcherValue). m.kind) s;
      name = ap (λ (m : MatcherValue). m.name) s;
      value = ap (λ (m : MatcherValue). m.value) s;
    }

pub matcher_again : (bytes : List ℕ) (m : MatcherValue) → IsMatcher bytes m → matcher_at bytes ≡ Ok m
unfolding matcher_at
matcher_again bytes m x =
    let same : matcher_after no_matcher x.fields ≡ m =
    ap (λ (k : ℕ). record { kind = k; name = last_or [] (texts 2 x.fields); value = last_or [] (texts 3 x.fields) }) (sym x.kind)
    ∙ ap (λ (n : List ℕ). record { kind = m.kind; name = n; value = last_or [] (texts 3 x.fields) }) (sym x.name)
    ∙ ap (λ (v : List ℕ). record { kind = m.kind; name = m.name; value = v }) (sym x.value) in
    message_again matcher_allows matcher_step (length bytes) no_matcher m bytes x.fields (omega arith) x.spelled x.known
    (subst (λ (b : MatcherValue). Steps matcher_step no_matcher x.fields b) same (matcher_run no_matcher x.fields))

-- the function that hints name, by the fields after another
hint_text : (f : List ℕ) (n : ℕ) (t : List ℕ) (vs : List Value) (p : Bool) → eqb n 2 ≡ p
    → (g : List ℕ) × (hints_step f (Text n t) ≡ Ok g) × (last_or f (texts 2 (Text n t ∷ vs)) ≡ last_or g (texts 2 vs))
hint_text f n t vs true e = (t, rw e refl, rw e refl)
hint_text f n t vs false e = (f, rw e refl, rw e refl)

hint_one : (f : List ℕ) (v : Value) (vs : List Value) → (g : List ℕ) × (hints_step f v ≡ Ok g) × (last_or f (texts 2 (v ∷ vs)) ≡ last_or g (texts 2 vs))
hint_one f (Text n t) vs = hint_text f n t vs (eqb n 2) refl
hint_one f (Number n v) vs = (f, refl, refl)
hint_one f (Eight n v) vs = (f, refl, refl)
hint_one f (Four n v) vs = (f, refl, refl)

hint_run : (f : List ℕ) (vs : List Value) → Steps hints_step f vs (last_or f (texts 2 vs))
hint_run f [] = refl
hint_run f (v ∷ vs) =
    let o = hint_one f v vs in
    (o.0, o.1, subst (λ (g : List ℕ). Steps hints_step o.0 vs g) (sym o.2) (hint_run o.0 vs))

hints_took : (bytes f g : List ℕ) → IsBytes bytes → hints_at f bytes ≡ Ok g → IsHints bytes f g
unfolding hints_at
hints_took bytes f g fits e =
    let t = message_took hints_allows hints_step (length bytes) f g bytes fits (omega arith) e in
    let s = steps_once hints_step f g (last_or f (texts 2 t.values)) t.values t.steps (hint_run f t.values) in
    record { fields = t.values; spelled = t.fields; known = t.known; named = s }

hints_again : (bytes f g : List ℕ) → IsHints bytes f g → hints_at f bytes ≡ Ok g
unfolding hints_at
hints_again bytes f g x =
    message_again hints_allows hints_step (length bytes) f g bytes x.fields (omega arith) x.spelled x.known
    (subst (λ (h : List ℕ). Steps hints_step f x.fields h) (sym x.named) (hint_run f x.fields))

-- A query, by the fields after another: its times are not yet signed.
abbrev start : ℕ → ℕ → List MatcherValue → List ℕ → QueryValue
start s e ms f = record { start = cast_signed w64 s; end = cast_signed w64 e; matchers = ms; func = f }

record Adds (s e : ℕ) (ms : List MatcherValue) (f : List ℕ) (b : QueryValue) (vs : List Value) : Type 0 where
  matchers : List MatcherValue
  are : EachIs IsMatcher (texts 3 vs) matchers
  hints : AreHints (texts 4 vs) f b.func
  meant : b ≡ start (last_or s (numbers 1 vs)) (last_or e (numbers 2 vs)) (ms ++ matchers) b.func

abbrev ok_of : {A : Type 0} → A → Result A Refusal
ok_of a = Ok a

same_ok : {A : Type 0} (a b : A) → ok_of a ≡ ok_of b → a ≡ b
same_ok a b e = cc

-- Steps on from another value are those from this one.
moved : (a c b : QueryValue) (vs : List Value) → a ≡ c → Steps query_step c vs b → Steps query_step a vs b
moved a c b vs e s = subst (λ (z : QueryValue). Steps query_step z vs b) (sym e) s

skipped : (s e : ℕ) (ms : List MatcherValue) (f : List ℕ) (b : QueryValue) (v : Value) (vs : List Value) → texts 3 (v ∷ vs) ≡ texts 3 vs → texts 4 (v ∷ vs) ≡ texts 4 vs
    → numbers 1 (v ∷ vs) ≡ numbers 1 vs → numbers 2 (v ∷ vs) ≡ numbers 2 vs → Adds s e ms f b vs → Adds s e ms f b (v ∷ vs)
skipped s e ms f b v vs i j g h x = record { matchers = x.matchers; are = rw i x.are; hints = rw j x.hints; meant = rw (g, h) x.meant }

never_both : (n a b : ℕ) → (a ≡ b → ⊥) → eqb n a ≡ true → eqb n b ≡ true → ⊥
never_both n a b never e f = never (sym (eqb-true n a e) ∙ eqb-true n b f)

number_first : (s e : ℕ) (ms : List MatcherValue) (f : List ℕ) (b : QueryValue) (n v : ℕ) (vs : List Value) → eqb n 1 ≡ true → eqb n 2 ≡ false → Adds v e ms f b vs → Adds s e ms f b (Number n v ∷ vs)
number_first s e ms f b n v vs i g x = record { matchers = x.matchers; are = x.are; hints = x.hints; meant = rw (i, g) x.meant }

number_last : (s e : ℕ) (ms : List MatcherValue) (f : List ℕ) (b : QueryValue) (n v : ℕ) (vs : List Value) → eqb n 1 ≡ false → eqb n 2 ≡ true → Adds s v ms f b vs → Adds s e ms f b (Number n v ∷ vs)
number_last s e ms f b n v vs i g x = record { matchers = x.matchers; are = x.are; hints = x.hints; meant = rw (i, g) x.meant }

number_other : (s e : ℕ) (ms : List MatcherValue) (f : List ℕ) (b : QueryValue) (n v : ℕ) (vs : List Value) → eqb n 1 ≡ false → eqb n 2 ≡ false → Adds s e ms f b vs → Adds s e ms f b (Number n v ∷ vs)
number_other s e ms f b n v vs i g x = record { matchers = x.matchers; are = x.are; hints = x.hints; meant = rw (i, g) x.meant }

-- what the fields after one add
abbrev More : QueryValue → List Value → Type 0
More b vs = (s e : ℕ) (ms : List MatcherValue) (f : List ℕ) → Steps query_step (start s e ms f) vs b → Adds s e ms f b vs

number_adds : (s e : ℕ) (ms : List MatcherValue) (f : List ℕ) (b c : QueryValue) (n v : ℕ) (vs : List Value) (p q : Bool) → eqb n 1 ≡ p → eqb n 2 ≡ q → (p ≡ true → q ≡ true → ⊥)
    → query_step (start s e ms f) (Number n v) ≡ Ok c → Steps query_step c vs b → More b vs → Adds s e ms f b (Number n v ∷ vs)
unfolding query_step
number_adds s e ms f b c n v vs true true i g never h steps more = absurd (never refl refl)
number_adds s e ms f b c n v vs true false i g never h steps more =
    number_first s e ms f b n v vs i g (more v e ms f (moved (start v e ms f) c b vs (same_ok (start v e ms f) c (rw i at h)) steps))
number_adds s e ms f b c n v vs false true i g never h steps more =
    number_last s e ms f b n v vs i g (more s v ms f (moved (start s v ms f) c b vs (same_ok (start s v ms f) c (rw (i, g) at h)) steps))
number_adds s e ms f b c n v vs false false i g never h steps more =
    number_other s e ms f b n v vs i g (more s e ms f (moved (start s e ms f) c b vs (same_ok (start s e ms f) c (rw (i, g) at h)) steps))

matcher_first : (s e : ℕ) (ms : List MatcherValue) (f : List ℕ) (b : QueryValue) (n : ℕ) (t : List ℕ) (m : MatcherValue) (vs : List Value) → eqb n 3 ≡ true → eqb n 4 ≡ false
    → IsMatcher t m → Adds s e (ms ++ m ∷ []) f b vs → Adds s e ms f b (Text n t ∷ vs)
matcher_first s e ms f b n t m vs i j is x = record {
  matchers = m ∷ x.matchers;
  are = rw i (is, x.are);
  hints = rw j x.hints;
  meant = x.meant ∙ ap (λ (z : List MatcherValue). start (last_or s (numbers 1 vs)) (last_or e (numbers 2 vs)) z b.func) (append_assoc ms (m ∷ []) x.matchers);
}

hints_first : (s e : ℕ) (ms : List MatcherValue) (f g : List ℕ) (b : QueryValue) (n : ℕ) (t : List ℕ) (vs : List Value) → eqb n 3 ≡ false → eqb n 4 ≡ true
    → IsHints t f g → Adds s e ms g b vs → Adds s e ms f b (Text n t ∷ vs)
hints_first s e ms f g b n t vs i j is x = record { matchers = x.matchers; are = rw i x.are; hints = rw j (g, is, x.hints); meant = x.meant }

text_other : (s e : ℕ) (ms : List MatcherValue) (f : List ℕ) (b : QueryValue) (n : ℕ) (t : List ℕ) (vs : List Value) → eqb n 3 ≡ false → eqb n 4 ≡ false
    → Adds s e ms f b vs → Adds s e ms f b (Text n t ∷ vs)
text_other s e ms f b n t vs i j x = record { matchers = x.matchers; are = rw i x.are; hints = rw j x.hints; meant = x.meant }

text_adds : (s e : ℕ) (ms : List MatcherValue) (f : List ℕ) (b c : QueryValue) (n : ℕ) (t : List ℕ) (vs : List Value) (p q : Bool) → eqb n 3 ≡ p → eqb n 4 ≡ q → (p ≡ true → q ≡ true → ⊥) → IsBytes t
    → query_step (start s e ms f) (Text n t) ≡ Ok c → Steps query_step c vs b → More b vs → Adds s e ms f b (Text n t ∷ vs)
unfolding query_step
text_adds s e ms f b c n t vs true true i j never fits h steps more = absurd (never refl refl)
text_adds s e ms f b c n t vs true false i j never fits h steps more =
    let m = bind_ok (matcher_at t) (λ m. Ok (with_matcher (start s e ms f) m)) c (rw i at h) in
    let next = start s e (ms ++ m.0 ∷ []) f in
    matcher_first s e ms f b n t m.0 vs i j (matcher_took t m.0 fits m.1)
    (more s e (ms ++ m.0 ∷ []) f (moved next c b vs (same_ok next c m.2) steps))
text_adds s e ms f b c n t vs false true i j never fits h steps more =
    let g = bind_ok (hints_at f t) (λ g. Ok (with_func (start s e ms f) g)) c (rw (i, j) at h) in
    let next = start s e ms g.0 in
    hints_first s e ms f g.0 b n t vs i j (hints_took t f g.0 fits g.1)
    (more s e ms g.0 (moved next c b vs (same_ok next c g.2) steps))
text_adds s e ms f b c n t vs false false i j never fits h steps more =
    text_other s e ms f b n t vs i j (more s e ms f (moved (start s e ms f) c b vs (same_ok (start s e ms f) c (rw (i, j) at h)) steps))

adds_none : (s e : ℕ) (ms : List MatcherValue) (f : List ℕ) (b : QueryValue) → start s e ms f ≡ b → Adds s e ms f b []
adds_none s e ms f b steps =
    let func : b.func ≡ f = ap (λ (q : QueryValue). q.func) (sym steps) in
    record {
      matchers = [];
      are = tt;
      hints = func;
      meant = sym steps ∙ ap (λ (z : List MatcherValue). start s e z f) (sym (append-nil ms)) ∙ ap (start s e (ms ++ [])) (sym func);
    }

query_adds : (s e : ℕ) (ms : List MatcherValue) (f : List ℕ) (b : QueryValue) (vs : List Value) → FitTexts vs → Steps query_step (start s e ms f) vs b → Adds s e ms f b vs
unfolding query_step
query_adds s e ms f b [] fits steps = adds_none s e ms f b steps
query_adds s e ms f b (Text n t ∷ vs) fits steps =
    text_adds s e ms f b steps.0 n t vs (eqb n 3) (eqb n 4) refl refl (never_both n 3 4 (λ e. omega arith)) fits.0 steps.1 steps.2 (λ s e ms f h. query_adds s e ms f b vs fits.1 h)
query_adds s e ms f b (Number n v ∷ vs) fits steps =
    number_adds s e ms f b steps.0 n v vs (eqb n 1) (eqb n 2) refl refl (never_both n 1 2 (λ e. omega arith)) steps.1 steps.2 (λ s e ms f h. query_adds s e ms f b vs fits.1 h)
query_adds s e ms f b (Eight n v ∷ vs) fits steps =
    skipped s e ms f b (Eight n v) vs refl refl refl refl (query_adds s e ms f b vs fits.1 (moved (start s e ms f) steps.0 b vs (same_ok (start s e ms f) steps.0 steps.1) steps.2))
query_adds s e ms f b (Four n v ∷ vs) fits steps =
    skipped s e ms f b (Four n v) vs refl refl refl refl (query_adds s e ms f b vs fits.1 (moved (start s e ms f) steps.0 b vs (same_ok (start s e ms f) steps.0 steps.1) steps.2))

pub query_took : (bytes : List ℕ) (q : QueryValue) → IsBytes bytes → query_at bytes ≡ Ok q → IsQuery bytes q
unfolding query_at
query_took bytes q fits e =
    let t = message_took query_allows query_step (length bytes) no_query q bytes fits (omega arith) e in
    let x = query_adds 0 0 [] [] q t.values t.texts t.steps in
    record {
      fields = t.values;
      spelled = t.fields;
      known = t.known;
      start = ap (λ (q : QueryValue). q.start) x.meant;
      end = ap (λ (q : QueryValue). q.end) x.meant;
      matchers = subst (λ (ms : List MatcherValue). EachIs IsMatcher (texts 3 t.values) ms) (sym (ap (λ (q : QueryValue). q.matchers) x.meant)) x.are;
      func = x.hints;
    }

-- and what stands there is added
abbrev Runs : List Value → Type 0
Runs vs = (s e : ℕ) (ms new : List MatcherValue) (f g : List ℕ) → EachIs IsMatcher (texts 3 vs) new → AreHints (texts 4 vs) f g
    → Steps query_step (start s e ms f) vs (start (last_or s (numbers 1 vs)) (last_or e (numbers 2 vs)) (ms ++ new) g)

number_runs : (s e : ℕ) (ms new : List MatcherValue) (f h : List ℕ) (n v : ℕ) (vs : List Value) (p q : Bool) → eqb n 1 ≡ p → eqb n 2 ≡ q → (p ≡ true → q ≡ true → ⊥)
    → EachIs IsMatcher (texts 3 vs) new → AreHints (texts 4 vs) f h → Runs vs
    → Steps query_step (start s e ms f) (Number n v ∷ vs) (start (last_or s (numbers 1 (Number n v ∷ vs))) (last_or e (numbers 2 (Number n v ∷ vs))) (ms ++ new) h)
unfolding query_step
number_runs s e ms new f h n v vs true true i g never x y more = absurd (never refl refl)
number_runs s e ms new f h n v vs true false i g never x y more = (start v e ms f, rw i refl, rw (i, g) (more v e ms new f h x y))
number_runs s e ms new f h n v vs false true i g never x y more = (start s v ms f, rw (i, g) refl, rw (i, g) (more s v ms new f h x y))
number_runs s e ms new f h n v vs false false i g never x y more = (start s e ms f, rw (i, g) refl, rw (i, g) (more s e ms new f h x y))

matcher_by : (s e : ℕ) (ms : List MatcherValue) (f : List ℕ) (n : ℕ) (t : List ℕ) (m : MatcherValue) → eqb n 3 ≡ true → matcher_at t ≡ Ok m
    → query_step (start s e ms f) (Text n t) ≡ Ok (start s e (ms ++ m ∷ []) f)
unfolding query_step
matcher_by s e ms f n t m i g = rw (i, g) refl

hints_by : (s e : ℕ) (ms : List MatcherValue) (f g : List ℕ) (n : ℕ) (t : List ℕ) → eqb n 3 ≡ false → eqb n 4 ≡ true → hints_at f t ≡ Ok g
    → query_step (start s e ms f) (Text n t) ≡ Ok (start s e ms g)
unfolding query_step
hints_by s e ms f g n t i j h = rw (i, j, h) refl

pass_by : (s e : ℕ) (ms : List MatcherValue) (f : List ℕ) (n : ℕ) (t : List ℕ) → eqb n 3 ≡ false → eqb n 4 ≡ false → query_step (start s e ms f) (Text n t) ≡ Ok (start s e ms f)
unfolding query_step
pass_by s e ms f n t i j = rw (i, j) refl

text_runs : (s e : ℕ) (ms new : List MatcherValue) (f g : List ℕ) (n : ℕ) (t : List ℕ) (vs : List Value) (p q : Bool) → eqb n 3 ≡ p → eqb n 4 ≡ q → (p ≡ true → q ≡ true → ⊥)
    → EachIs IsMatcher (cond p (t ∷ texts 3 vs) (texts 3 vs)) new → AreHints (cond q (t ∷ texts 4 vs) (texts 4 vs)) f g → Runs vs
    → Steps query_step (start s e ms f) (Text n t ∷ vs) (start (last_or s (numbers 1 vs)) (last_or e (numbers 2 vs)) (ms ++ new) g)
text_runs s e ms new f g n t vs true true i j never x y more = absurd (never refl refl)
text_runs s e ms [] f g n t vs true false i j never x y more = absurd x
text_runs s e ms (m ∷ new) f g n t vs true false i j never x y more = (
  start s e (ms ++ m ∷ []) f,
  matcher_by s e ms f n t m i (matcher_again t m x.0),
  subst (λ (z : List MatcherValue). Steps query_step (start s e (ms ++ m ∷ []) f) vs (start (last_or s (numbers 1 vs)) (last_or e (numbers 2 vs)) z g))
      (append_assoc ms (m ∷ []) new) (more s e (ms ++ m ∷ []) new f g x.1 y),
)
text_runs s e ms new f g n t vs false true i j never x y more =
    (start s e ms y.0, hints_by s e ms f y.0 n t i j (hints_again t f y.0 y.1), more s e ms new y.0 g x y.2)
text_runs s e ms new f g n t vs false false i j never x y more = (start s e ms f, pass_by s e ms f n t i j, more s e ms new f g x y)

query_runs : (vs : List Value) → Runs vs
unfolding query_step
query_runs [] s e ms [] f g x y = ap (λ (z : List MatcherValue). start s e z f) (sym (append-nil ms)) ∙ ap (start s e (ms ++ [])) (sym y)
query_runs [] s e ms (m ∷ new) f g x y = absurd x
query_runs (Text n t ∷ vs) s e ms new f g x y = text_runs s e ms new f g n t vs (eqb n 3) (eqb n 4) refl refl (never_both n 3 4 (λ e. omega arith)) x y (query_runs vs)
query_runs (Number n v ∷ vs) s e ms new f g x y = number_runs s e ms new f g n v vs (eqb n 1) (eqb n 2) refl refl (never_both n 1 2 (λ e. omega arith)) x y (query_runs vs)
query_runs (Eight n v ∷ vs) s e ms new f g x y = (start s e ms f, refl, query_runs vs s e ms new f g x y)
query_runs (Four n v ∷ vs) s e ms new f g x y = (start s e ms f, refl, query_runs vs s e ms new f g x y)

pub query_again : (bytes : List ℕ) (q : QueryValue) → IsQuery bytes q → query_at bytes ≡ Ok q
unfolding query_at
query_again bytes q x =
    let made = start (last_or 0 (numbers 1 x.fields)) (last_or 0 (numbers 2 x.fields)) q.matchers q.func in
    let same : made ≡ q =
    ap (λ (s : ℤ). record { start = s; end = cast_signed w64 (last_or 0 (numbers 2 x.fields)); matchers = q.matchers; func = q.func }) (sym x.start)
    ∙ ap (λ (e : ℤ). record { start = q.start; end = e; matchers = q.matchers; func = q.func }) (sym x.end) in
    message_again query_allows query_step (length bytes) no_query q bytes x.fields (omega arith) x.spelled x.known
    (subst (λ (z : QueryValue). Steps query_step no_query x.fields z) same (query_runs x.fields 0 0 [] q.matchers [] q.func x.matchers x.func))

-- A request: the queries of its fields.
record AddsQueries (a b : List QueryValue) (vs : List Value) : Type 0 where
  queries : List QueryValue
  are : EachIs IsQuery (texts 1 vs) queries
  meant : b ≡ a ++ queries

same_list : {A : Type 0} (a b : List A) → ok_of a ≡ ok_of b → a ≡ b
same_list a b e = cc

text_request : (a b c : List QueryValue) (n : ℕ) (t : List ℕ) (vs : List Value) (p : Bool) → eqb n 1 ≡ p → IsBytes t
    → request_step a (Text n t) ≡ Ok c → AddsQueries c b vs → AddsQueries a b (Text n t ∷ vs)
unfolding request_step
text_request a b c n t vs true e fits s x =
    let l = bind_ok (query_at t) (λ s. Ok (a ++ s ∷ [])) c (rw e at s) in
    let w = same_list (a ++ l.0 ∷ []) c l.2 in
    record {
      queries = l.0 ∷ x.queries;
      are = rw e (query_took t l.0 fits l.1, x.are);
      meant = x.meant ∙ ap (λ (z : List QueryValue). z ++ x.queries) (sym w) ∙ append_assoc a (l.0 ∷ []) x.queries;
    }
text_request a b c n t vs false e fits s x =
    let w = same_list a c (rw e at s) in
    record { queries = x.queries; are = rw e x.are; meant = x.meant ∙ ap (λ (z : List QueryValue). z ++ x.queries) (sym w) }

other_request : (a b c : List QueryValue) (v : Value) (vs : List Value) → texts 1 (v ∷ vs) ≡ texts 1 vs → ok_of a ≡ ok_of c → AddsQueries c b vs → AddsQueries a b (v ∷ vs)
other_request a b c v vs e s x =
    let w = same_list a c s in
    record { queries = x.queries; are = rw e x.are; meant = x.meant ∙ ap (λ (z : List QueryValue). z ++ x.queries) (sym w) }

request_adds : (a b : List QueryValue) (vs : List Value) → FitTexts vs → Steps request_step a vs b → AddsQueries a b vs
unfolding request_step
request_adds a b [] fits s = record { queries = []; are = tt; meant = sym s ∙ sym (append-nil a) }
request_adds a b (Text n t ∷ vs) fits s = text_request a b s.0 n t vs (eqb n 1) refl fits.0 s.1 (request_adds s.0 b vs fits.1 s.2)
request_adds a b (Number n v ∷ vs) fits s = other_request a b s.0 (Number n v) vs refl s.1 (request_adds s.0 b vs fits.1 s.2)
request_adds a b (Eight n v ∷ vs) fits s = other_request a b s.0 (Eight n v) vs refl s.1 (request_adds s.0 b vs fits.1 s.2)
request_adds a b (Four n v ∷ vs) fits s = other_request a b s.0 (Four n v) vs refl s.1 (request_adds s.0 b vs fits.1 s.2)

pub request_took : (bytes : List ℕ) (all : List QueryValue) → IsBytes bytes → request_at bytes ≡ Ok all → IsRequest bytes all
unfolding request_at
request_took bytes all fits e =
    let t = message_took request_allows request_step (length bytes) [] all bytes fits (omega arith) e in
    let x = request_adds [] all t.values t.texts t.steps in
    record {
      fields = t.values;
      spelled = t.fields;
      known = t.known;
      queries = subst (λ (z : List QueryValue). EachIs IsQuery (texts 1 t.values) z) (sym x.meant) x.are;
    }

query_by : (a : List QueryValue) (n : ℕ) (t : List ℕ) (s : QueryValue) → eqb n 1 ≡ true → query_at t ≡ Ok s → request_step a (Text n t) ≡ Ok (a ++ s ∷ [])
unfolding request_step
query_by a n t s e f = rw (e, f) refl

skip_by : (a : List QueryValue) (n : ℕ) (t : List ℕ) → eqb n 1 ≡ false → request_step a (Text n t) ≡ Ok a
unfolding request_step
skip_by a n t e = rw e refl

abbrev RequestRuns : List Value → Type 0
RequestRuns vs = (a all : List QueryValue) → EachIs IsQuery (texts 1 vs) all → Steps request_step a vs (a ++ all)

text_request_runs : (a : List QueryValue) (n : ℕ) (t : List ℕ) (vs : List Value) (all : List QueryValue) (p : Bool) → eqb n 1 ≡ p
    → EachIs IsQuery (cond p (t ∷ texts 1 vs) (texts 1 vs)) all → RequestRuns vs → Steps request_step a (Text n t ∷ vs) (a ++ all)
text_request_runs a n t vs [] true e x more = absurd x
text_request_runs a n t vs (s ∷ all) true e x more = (
  a ++ s ∷ [],
  query_by a n t s e (query_again t s x.0),
  subst (λ (z : List QueryValue). Steps request_step (a ++ s ∷ []) vs z) (append_assoc a (s ∷ []) all) (more (a ++ s ∷ []) all x.1),
)
text_request_runs a n t vs all false e x more = (a, skip_by a n t e, more a all x)

request_runs : (vs : List Value) → RequestRuns vs
unfolding request_step
request_runs [] a [] x = sym (append-nil a)
request_runs [] a (s ∷ all) x = absurd x
request_runs (Text n t ∷ vs) a all x = text_request_runs a n t vs all (eqb n 1) refl x (request_runs vs)
request_runs (Number n v ∷ vs) a all x = (a, refl, request_runs vs a all x)
request_runs (Eight n v ∷ vs) a all x = (a, refl, request_runs vs a all x)
request_runs (Four n v ∷ vs) a all x = (a, refl, request_runs vs a all x)

pub request_again : (bytes : List ℕ) (all : List QueryValue) → IsRequest bytes all → request_at bytes ≡ Ok all
unfolding request_at
request_again bytes all x =
    message_again request_allows request_step (length bytes) [] all bytes x.fields (omega arith) x.spelled x.known
    (request_runs x.fields [] all x.queries)

pub is_found : {X : Type 0} (view : X → List QueryValue) (bytes : List ℕ) (r : Result X ReadError) → IsBytes bytes
    → Gives is_memory view r (or_error (request_at bytes)) → IfOk r (λ x. IsRequest bytes (view x))
is_found view bytes (Ok x) fits h = request_took bytes (view x) fits (given (request_at bytes) (view x) h)
is_found view bytes (Err e) fits h = tt
