-- What a start finds in a file of texts.
use Rattle.std.specs.Prelude.{◌≡◌, ℕ, Bool, true, false, List, [], ◌∷◌, ◌++◌, Result, Ok, refl}
use Rattle.std.proofs.Common.{ap, subst, sym, cond, eqb, ◌∙◌}
use Rattle.std.specs.Prelude.{◌&&◌, nat_le}
use Rattle.std.proofs.lemmas.Bool.{eqb-true}
use Rattle.wire.specs.Spelling.{IsBytes}
use Rattle.wire.proofs.Steps.{same_value}
use Rattle.head.specs.Worlds.{Event, batch, deletion, cut, joined}
use Rattle.event_text.specs.Spelling.{event_text}
use Rattle.event_text.proofs.Events.{one_text}
use Rattle.journal.proofs.Scans.{one_reading}
use Rattle.name_table.specs.Names.{Label}
use Rattle.numbered_text.specs.declared.error.NumberError.{NumberError}
use Rattle.numbered_text.specs.Reading.{plain_of, runs_of}
use Rattle.event_journal.specs.Holding.{begins_event, AreInFront, Stands}
use Rattle.event_journal.specs.Naming.{Spell, SpellFrom, SpellsBy}

abbrev plain : List ℕ × List Label → Result (List ℕ × List Label) NumberError
plain x = Ok x

-- a content stands for one event
pub one_event : (names : List Label) (content : List ℕ) (a b : Event) (m n : List Label)
    → SpellsBy names content a m → SpellsBy names content b n → (a ≡ b) × (m ≡ n)
one_event names content a b m n s t =
    let x : List ℕ × List Label = (event_text a, m) in
    let y : List ℕ × List Label = (event_text b, n) in
    let same : x ≡ y = same_value x y (sym s.text ∙ t.text) in (
      one_text a b s.kept.spelled t.kept.spelled (ap (λ (p : List ℕ × List Label). p.0) same),
      ap (λ (p : List ℕ × List Label). p.1) same,
    )

-- contents spell one list of events, and leave the same names
pub same_from : (names : List Label) (contents : List (List ℕ)) (a b : List Event)
    (m n : List Label) → SpellFrom names contents a m → SpellFrom names contents b n
    → (a ≡ b) × (m ≡ n)
same_from names [] [] [] m n h i = (refl, sym h ∙ i)
same_from names [] [] (e ∷ b) m n h i = absurd i
same_from names [] (d ∷ a) b m n h i = absurd h
same_from names (c ∷ cs) [] b m n h i = absurd h
same_from names (c ∷ cs) (d ∷ a) [] m n h i = absurd i
same_from names (c ∷ cs) (d ∷ a) (e ∷ b) m n h i =
    let first = one_event names c d e h.0 i.0 h.1 i.1 in
    let others = same_from i.0 cs a b m n
    (subst (λ (ns : List Label). SpellFrom ns cs a m) first.1 h.2) i.2 in (
      ap (λ (x : Event). x ∷ a) first.0 ∙ ap (λ (xs : List Event). e ∷ xs) others.0,
      others.1,
    )

-- what stands for an event begins by its kind, or as a batch by number

begins : (e : Event) → begins_event (event_text e) ≡ true
unfolding event_text
begins (batch xs) = refl
begins (deletion ms a b) = refl
begins (cut t) = refl
begins (joined at count made) = refl

by_kind : (names : List Label) (kind : ℕ) (rest : List ℕ) (four : Bool) (e : Event)
    (after : List Label) → eqb kind 4 ≡ four
    → cond four (runs_of names rest) (Ok (kind ∷ rest, names)) ≡ Ok (event_text e, after)
    → begins_event (kind ∷ rest) ≡ true
by_kind names kind rest true e after is h =
    ap (λ (k : ℕ). nat_le 1 k && nat_le k 4) (eqb-true kind 4 is)
by_kind names kind rest false e after is h =
    let x : List ℕ × List Label = (kind ∷ rest, names) in
    let y : List ℕ × List Label = (event_text e, after) in
    ap (λ (p : List ℕ × List Label). begins_event p.0) (same_value x y h) ∙ begins e

begins_as : (names : List Label) (content : List ℕ) (e : Event) (after : List Label)
    → plain_of names content ≡ Ok (event_text e, after) → begins_event content ≡ true
begins_as names [] e after h =
    let x : List ℕ × List Label = ([], names) in
    let y : List ℕ × List Label = (event_text e, after) in
    ap (λ (p : List ℕ × List Label). begins_event p.0) (same_value x y h) ∙ begins e
begins_as names (kind ∷ rest) e after h = by_kind names kind rest (eqb kind 4) e after refl h

no_event : {X : Type 0} (names : List Label) (content : List ℕ) (e : Event) (after : List Label)
    → SpellsBy names content e after → begins_event content ≡ false → X
no_event names content e after s h =
    let t = begins_as names content e after s.text in
    absurd (let x : true ≡ false = sym t ∙ h in cc)

no_front : {X : Type 0} (c : List ℕ) (cs : List (List ℕ)) (b : List Event) (n : List Label)
    → begins_event c ≡ false → Spell (c ∷ cs) b n → X
no_front c cs [] n h i = absurd i
no_front c cs (e ∷ b) n h i = no_event [] c e i.0 i.1 h

-- contents part in one way into those in front and those that spell events
pub one_parting : (f g cs ds : List (List ℕ)) (a b : List Event) (m n : List Label) → AreInFront f
    → AreInFront g → Spell cs a m → Spell ds b n → f ++ cs ≡ g ++ ds → (f ≡ g) × (cs ≡ ds)
one_parting [] [] cs ds a b m n h i s t e = (refl, e)
one_parting [] (c ∷ g) cs ds a b m n h i s t e =
    no_front c (g ++ ds) a m i.0 (subst (λ (xs : List (List ℕ)). Spell xs a m) e s)
one_parting (c ∷ f) [] cs ds a b m n h i s t e =
    no_front c (f ++ cs) b n h.0 (subst (λ (xs : List (List ℕ)). Spell xs b n) (sym e) t)
one_parting (c ∷ f) (d ∷ g) cs ds a b m n h i s t e =
    let first : c ≡ d = cc in
    let later : f ++ cs ≡ g ++ ds = cc in
    let r = one_parting f g cs ds a b m n h.1 i.1 s t later in (
      ap (λ (x : List ℕ). x ∷ f) first ∙ ap (λ (x : List (List ℕ)). d ∷ x) r.0,
      r.1,
    )

-- one file stands for one list of events, after the same contents
pub one_list : (file : List ℕ) (f g : List (List ℕ)) (a b : List Event) → IsBytes file
    → Stands f file a → Stands g file b → (f ≡ g) × (a ≡ b)
one_list file f g a b fits h i =
    let p = one_parting f g h.contents i.contents a b h.names i.names h.before i.before h.spell
    i.spell
    (one_reading file (f ++ h.contents) (g ++ i.contents) fits h.recovers i.recovers) in (
      p.0,
      (same_from [] i.contents a b h.names i.names
          (subst (λ (xs : List (List ℕ)). Spell xs a h.names) p.1 h.spell) i.spell).0,
    )
