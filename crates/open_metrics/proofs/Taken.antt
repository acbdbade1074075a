-- What is read is spelled so.
use Rattle.std.proofs.Common.{◌≡◌, ℕ, zero, suc, ◌<◌, ◌≤◌, ℤ, Bool, true, false, eqb}
use Rattle.std.proofs.Common.{List, []}
use Rattle.std.proofs.Common.{◌∷◌, ◌++◌, length, drop, Ok, Option, None, Some}
use Rattle.std.proofs.Common.{refl, sym, ap, subst, ◌∙◌, append_assoc, inl, inr, arith, ◌&&◌}
use Rattle.std.proofs.lemmas.Bool.{and_parts, cases_Bool, eqb-true}
use Rattle.std.proofs.lemmas.List.{take-append-drop}
use Rattle.std.specs.List.{AllByRecursion}
use Rattle.wire.proofs.Steps.{bind_ok, passed, same_value}
use Rattle.open_metrics.specs.declared.comments.Format.{Format}
use Rattle.open_metrics.specs.declared.comments.Format.TheVariants.{OpenMetrics, Prometheus}
use Rattle.open_metrics.specs.declared.error.Fault.TheVariants.{At}
use Rattle.open_metrics.specs.declared.error.Reason.{Reason}
use Rattle.open_metrics.specs.declared.error.Reason.TheVariants as reason
use Rattle.open_metrics.specs.declared.numbers.Value.{Value}
use Rattle.open_metrics.specs.declared.numbers.Value.TheVariants.{Parts, Near, Other}
use Rattle.open_metrics.specs.declared.tokens.Class.{Class}
use Rattle.open_metrics.specs.declared.tokens.Class.TheVariants.{Metric, Label, Word, Blank}
use Rattle.open_metrics.specs.Grammar.{AreBlanks, AreIn, IsGap, IsName}
use Rattle.open_metrics.specs.Grammar.{SpellsChar, SpellsText}
use Rattle.open_metrics.specs.Grammar.{SpellsPair, IsClose, SpellsOthers, SpellsLabels}
use Rattle.open_metrics.specs.Grammar.{IsExemplar, IsTail, IsSample}
use Rattle.open_metrics.specs.Labels.{Pair, pair_at, is_end, may_end, after_comma, comma_at}
use Rattle.open_metrics.specs.Labels.{next_at, others_at, within_at, labels_at}
use Rattle.open_metrics.specs.Lines.{Sampled, or_value, or_time, value_at, time_at, time_places}
use Rattle.open_metrics.specs.Lines.{tail_at, exemplar_at, sample_at}
use Rattle.open_metrics.specs.Numbers.{number_at}
use Rattle.open_metrics.specs.Texts.{char_at, escape_at, escaped, text_at, until_end}
use Rattle.open_metrics.specs.Texts.{goes_with}
use Rattle.open_metrics.specs.Tokens.{after_blanks, blanks_at, byte_at, gap_at, goes_on}
use Rattle.open_metrics.specs.Tokens.{count_front, front, behind, is_begun, name_at}

front_in : (class : Class) (bytes : List ℕ) → AreIn class (front class bytes)
unfolding count_front
front_in class [] = tt
front_in class (c ∷ cs) =
    elim (cases_Bool (goes_on class c)) [
      | inl e ↦ rw e (e, front_in class cs)
      | inr e ↦ rw e tt
    ]

front_cut : (class : Class) (bytes : List ℕ) → bytes ≡ front class bytes ++ behind class bytes
front_cut class bytes = sym (take-append-drop (count_front class bytes) bytes)

pub record Named (class : Class) (bytes : List ℕ) (x : List ℕ × List ℕ) : Type 0 where
  pub text : bytes ≡ x.0 ++ x.1
  pub is : IsName class x.0

name_takes : (class : Class) (why : Reason) (bytes : List ℕ) (x : List ℕ × List ℕ)
    → name_at class why bytes ≡ Ok x → Named class bytes x
unfolding name_at
name_takes class why bytes x h =
    let made : List ℕ × List ℕ = (front class bytes, behind class bytes) in
    let p = passed (is_begun (front class bytes)) (At why (length bytes)) (Ok made) x h in
    subst (Named class bytes) (same_value made x p.1)
    (record {
      text = front_cut class bytes;
      is = record { in_class = front_in class bytes; begun = p.0 };
    })

byte_takes : (c : ℕ) (why : Reason) (bytes rest : List ℕ) → byte_at c why bytes ≡ Ok rest
    → bytes ≡ c ∷ rest
unfolding byte_at
byte_takes c why [] rest h = absurd cc
byte_takes c why (b ∷ bytes) rest h =
    let p = passed (eqb b c) (At why (length (b ∷ bytes))) (Ok bytes) rest h in
    ap (λ (x : ℕ). x ∷ bytes) (eqb-true b c p.0)
    ∙ ap (λ (r : List ℕ). c ∷ r) (same_value bytes rest p.1)

-- what a step of a text found
abbrev pub SpellsStep : List ℕ → Option ℕ × List ℕ → Type 0
SpellsStep bytes x = elim x.0 as (λ _. Type 0) [
  | None ↦ bytes ≡ 34 ∷ x.1
  | Some c ↦ SpellsChar c x.1 bytes
]

-- a backslash, and what it stands for
escape_takes : (rest : List ℕ)
    → SpellsStep (92 ∷ rest) (Some (escape_at rest).0, (escape_at rest).1)
unfolding escape_at
escape_takes [] = inr (refl, refl, tt)
escape_takes (d ∷ rest) =
    elim (cases_Bool (eqb d 92)) [
      | inl e ↦ rw e (inl (ap (λ (y : ℕ). 92 ∷ y ∷ rest) (eqb-true d 92 e)))
      | inr e ↦ elim (cases_Bool (eqb d 34)) [
        | inl f ↦ rw (e, f) (inl (ap (λ (y : ℕ). 92 ∷ y ∷ rest) (eqb-true d 34 f)))
        | inr f ↦ elim (cases_Bool (eqb d 110)) [
          | inl g ↦ rw (e, f, g) (inl (ap (λ (y : ℕ). 92 ∷ y ∷ rest) (eqb-true d 110 g)))
          | inr g ↦
              let none : escaped d ≡ None = rw (e, f, g) refl in
              rw (e, f, g) (inr (refl, refl, none))
        ]
      ]
    ]

char_takes : (bytes : List ℕ) (x : Option ℕ × List ℕ) → char_at bytes ≡ Ok x → SpellsStep bytes x
unfolding char_at
char_takes [] x h = absurd cc
char_takes (c ∷ rest) x h =
    elim (cases_Bool (eqb c 34)) [
      | inl e ↦
          let made : Option ℕ × List ℕ = (None, rest) in
          subst (SpellsStep (c ∷ rest)) (same_value made x (rw e at h))
          (ap (λ (y : ℕ). y ∷ rest) (eqb-true c 34 e))
      | inr e ↦ elim (cases_Bool (eqb c 92)) [
        | inl f ↦
            let made : Option ℕ × List ℕ = (Some (escape_at rest).0, (escape_at rest).1) in
            subst (SpellsStep (c ∷ rest)) (same_value made x (rw (e, f) at h))
            (subst (λ (y : ℕ). SpellsStep (y ∷ rest) made) (sym (eqb-true c 92 f))
            (escape_takes rest))
        | inr f ↦ elim (cases_Bool (eqb c 10)) [
          | inl g ↦ absurd (let k = rw (e, f, g) at h in cc)
          | inr g ↦
              let made : Option ℕ × List ℕ = (Some c, rest) in
              subst (SpellsStep (c ∷ rest)) (same_value made x (rw (e, f, g) at h))
              (inl (rw (f, e, g) refl))
        ]
      ]
    ]

text_goes : (n : ℕ) (bytes : List ℕ) (next : Option ℕ) (rest : List ℕ) (x : List ℕ × List ℕ)
    → ((y : List ℕ × List ℕ) → until_end char_at reason.Text n rest ≡ Ok y
    → SpellsText y.0 y.1 rest)
    → SpellsStep bytes (next, rest)
    → goes_with (λ r. until_end char_at reason.Text n r) next rest ≡ Ok x
    → SpellsText x.0 x.1 bytes
text_goes n bytes None rest x others spelled h =
    let made : List ℕ × List ℕ = ([], rest) in
    subst (λ (y : List ℕ × List ℕ). SpellsText y.0 y.1 bytes) (same_value made x h) spelled
text_goes n bytes (Some c) rest x others spelled h =
    let a = bind_ok (until_end char_at reason.Text n rest) _ x h in
    let made : List ℕ × List ℕ = (c ∷ a.0.0, a.0.1) in
    subst (λ (y : List ℕ × List ℕ). SpellsText y.0 y.1 bytes) (same_value made x a.2)
    (rest, spelled, others a.0 a.1)

text_takes_in : (n : ℕ) (bytes : List ℕ) (x : List ℕ × List ℕ)
    → until_end char_at reason.Text n bytes ≡ Ok x → SpellsText x.0 x.1 bytes
unfolding until_end
text_takes_in zero bytes x h = absurd cc
text_takes_in (suc n) bytes x h =
    let a = bind_ok (char_at bytes) _ x h in
    text_goes n bytes a.0.0 a.0.1 x (text_takes_in n a.0.1) (char_takes bytes a.0 a.1) a.2

text_takes : (bytes : List ℕ) (x : List ℕ × List ℕ) → text_at bytes ≡ Ok x
    → SpellsText x.0 x.1 bytes
unfolding text_at
text_takes bytes x h = text_takes_in (length bytes) bytes x h

-- BLANKS
-- blanks, and what stands behind them
pub record Blanks (format : Format) (bytes : List ℕ) : Type 0 where
  pub blanks : List ℕ
  pub are : AreBlanks format blanks
  pub text : bytes ≡ blanks ++ after_blanks format bytes

pub blanks_take : (format : Format) (bytes : List ℕ) → Blanks format bytes
blanks_take OpenMetrics bytes = record { blanks = []; are = refl; text = refl }
blanks_take Prometheus bytes = record {
  blanks = front Blank bytes;
  are = front_in Blank bytes;
  text = front_cut Blank bytes;
}

-- a gap, and what stands behind it
record Gap (format : Format) (bytes rest : List ℕ) : Type 0 where
  gap : List ℕ
  is : IsGap format gap
  text : bytes ≡ gap ++ rest

gap_takes : (format : Format) (why : Reason) (bytes rest : List ℕ)
    → gap_at format why bytes ≡ Ok rest → Gap format bytes rest
unfolding blanks_at
gap_takes OpenMetrics why bytes rest h =
    record { gap = 32 ∷ []; is = refl; text = byte_takes 32 why bytes rest h }
gap_takes Prometheus why [] rest h = absurd cc
gap_takes Prometheus why (c ∷ cs) rest h =
    let made = behind Blank cs in
    let p = passed (goes_on Blank c) (At why (length (c ∷ cs))) (Ok made) rest h in
    record {
      gap = c ∷ front Blank cs;
      is = (omega arith, (p.0, front_in Blank cs));
      text =
          ap (λ (r : List ℕ). c ∷ r) (front_cut Blank cs)
          ∙ ap (λ (r : List ℕ). c ∷ (front Blank cs ++ r)) (same_value made rest p.1);
    }

-- LABELS
pub record Paired (format : Format) (bytes : List ℕ) (x : Pair × List ℕ) : Type 0 where
  pub text : SpellsPair format x.0 x.1 bytes
  pub is : IsName Label x.0.0

pair_takes : (format : Format) (bytes : List ℕ) (x : Pair × List ℕ) → pair_at format bytes ≡ Ok x
    → Paired format bytes x
unfolding pair_at
pair_takes format bytes x h =
    let before = blanks_take format bytes in
    let name = bind_ok (name_at Label reason.Label (after_blanks format bytes)) _ x h in
    let between = blanks_take format name.0.1 in
    let quote = bind_ok (byte_at 61 reason.Label (after_blanks format name.0.1)) _ x name.2 in
    let behind_it = blanks_take format quote.0 in
    let text = bind_ok (byte_at 34 reason.Text (after_blanks format quote.0)) _ x quote.2 in
    let value = bind_ok (text_at text.0) _ x text.2 in
    let one = name_takes Label reason.Label (after_blanks format bytes) name.0 name.1 in
    let two = byte_takes 61 reason.Label (after_blanks format name.0.1) quote.0 quote.1 in
    let three = byte_takes 34 reason.Text (after_blanks format quote.0) text.0 text.1 in
    let four = text_takes text.0 value.0 value.1 in
    let made : Pair × List ℕ = ((name.0.0, value.0.0), value.0.1) in
    let from_quote : quote.0 ≡ behind_it.blanks ++ (34 ∷ text.0) =
    behind_it.text ∙ ap (λ (r : List ℕ). behind_it.blanks ++ r) three in
    let from_name : name.0.1 ≡ between.blanks ++ (61 ∷ (behind_it.blanks ++ (34 ∷ text.0))) =
    between.text
    ∙ ap (λ (r : List ℕ). between.blanks ++ r) (two ∙ ap (λ (r : List ℕ). 61 ∷ r) from_quote) in
    subst (Paired format bytes) (same_value made x value.2)
    (record {
      text = record {
        before = before.blanks;
        between = between.blanks;
        behind = behind_it.blanks;
        value = text.0;
        before_blank = before.are;
        between_blank = between.are;
        behind_blank = behind_it.are;
        value_is = four;
        text =
            before.text
            ∙ ap (λ (r : List ℕ). before.blanks ++ r)
            (one.text ∙ ap (λ (r : List ℕ). name.0.0 ++ r) from_name);
      };
      is = one.is;
    })

abbrev pub AreNames : List Pair → Type 0
AreNames ps = AllByRecursion (λ (p : Pair). IsName Label p.0) ps

end_takes : (bytes : List ℕ) → is_end bytes ≡ true → bytes ≡ 125 ∷ drop 1 bytes
end_takes [] e = absurd cc
end_takes (c ∷ cs) e = ap (λ (y : ℕ). y ∷ cs) (eqb-true c 125 e)

pub record Others (format : Format) (n : ℕ) (bytes : List ℕ) (x : List Pair × List ℕ) : Type 0
  where
    pub text : SpellsOthers format x.0 x.1 bytes
    pub are : AreNames x.0
    pub few : length x.0 < n

-- what a step of labels found
abbrev pub SpellsNext : Format → List ℕ → Option Pair × List ℕ → Type 0
SpellsNext format bytes x = elim x.0 as (λ _. Type 0) [
  | None ↦ (blanks close : List ℕ) × AreBlanks format blanks × IsClose format close
      × (bytes ≡ blanks ++ (close ++ x.1))
  | Some p ↦ ((blanks more : List ℕ) × AreBlanks format blanks × (bytes ≡ blanks ++ 44 ∷ more)
      × SpellsPair format p x.1 more) × IsName Label p.0
]

one_brace : (format : Format) → IsClose format (125 ∷ [])
one_brace OpenMetrics = refl
one_brace Prometheus = inl refl

closed : (format : Format) (more : List ℕ) → may_end format ≡ true
    → is_end (after_blanks format more) ≡ true
    → (close : List ℕ) × IsClose format close
    × (44 ∷ more ≡ close ++ drop 1 (after_blanks format more))
closed OpenMetrics more may e = absurd cc
closed Prometheus more may e =
    let b = blanks_take Prometheus more in
    let rest = drop 1 (after_blanks Prometheus more) in (
      44 ∷ (b.blanks ++ 125 ∷ []),
      inr (b.blanks, b.are, refl),
      ap (λ (r : List ℕ). 44 ∷ r)
          (b.text
          ∙ (ap (λ (r : List ℕ). b.blanks ++ r) (end_takes (after_blanks Prometheus more) e)
          ∙ sym (append_assoc b.blanks (125 ∷ []) rest))),
    )

comma_takes : (format : Format) (bytes blanks more : List ℕ) (x : Option Pair × List ℕ)
    → AreBlanks format blanks → bytes ≡ blanks ++ 44 ∷ more → after_comma format more ≡ Ok x
    → SpellsNext format bytes x
unfolding after_comma
comma_takes format bytes blanks more x are text h =
    elim (cases_Bool (may_end format && is_end (after_blanks format more))) [
      | inl e ↦
          let parts = and_parts (may_end format) (is_end (after_blanks format more)) e in
          let close = closed format more parts.0 parts.1 in
          let made : Option Pair × List ℕ = (None, drop 1 (after_blanks format more)) in
          subst (SpellsNext format bytes) (same_value made x (rw e at h)) (
            blanks,
            close.0,
            are,
            close.1,
            text ∙ ap (λ (r : List ℕ). blanks ++ r) close.2,
          )
      | inr e ↦
          let a = bind_ok (pair_at format more) _ x (rw e at h) in
          let one = pair_takes format more a.0 a.1 in
          let made : Option Pair × List ℕ = (Some a.0.0, a.0.1) in
          subst (SpellsNext format bytes) (same_value made x a.2)
          ((blanks, more, are, text, one.text), one.is)
    ]

item_takes : (format : Format) (bytes blanks rest : List ℕ) (x : Option Pair × List ℕ)
    → AreBlanks format blanks → bytes ≡ blanks ++ rest → comma_at format rest ≡ Ok x
    → SpellsNext format bytes x
unfolding comma_at
item_takes format bytes blanks [] x are text h = absurd cc
item_takes format bytes blanks (c ∷ rest) x are text h =
    elim (cases_Bool (eqb c 125)) [
      | inl e ↦
          let made : Option Pair × List ℕ = (None, rest) in
          subst (SpellsNext format bytes) (same_value made x (rw e at h)) (
            blanks,
            125 ∷ [],
            are,
            one_brace format,
            text ∙ ap (λ (y : ℕ). blanks ++ y ∷ rest) (eqb-true c 125 e),
          )
      | inr e ↦ elim (cases_Bool (eqb c 44)) [
        | inl f ↦
            let g : after_comma format rest ≡ Ok x = rw (e, f) at h in
            comma_takes format bytes blanks rest x are
            (text ∙ ap (λ (y : ℕ). blanks ++ y ∷ rest) (eqb-true c 44 f)) g
        | inr f ↦ absurd (let k = rw (e, f) at h in cc)
      ]
    ]

next_takes : (format : Format) (bytes : List ℕ) (x : Option Pair × List ℕ)
    → next_at format bytes ≡ Ok x → SpellsNext format bytes x
next_takes format bytes x h =
    let b = blanks_take format bytes in
    item_takes format bytes b.blanks (after_blanks format bytes) x b.are b.text h

others_go : (format : Format) (n : ℕ) (bytes : List ℕ) (next : Option Pair) (rest : List ℕ)
    (x : List Pair × List ℕ)
    → ((y : List Pair × List ℕ) → until_end (next_at format) reason.Many n rest ≡ Ok y
    → Others format n rest y)
    → SpellsNext format bytes (next, rest)
    → goes_with (λ r. until_end (next_at format) reason.Many n r) next rest ≡ Ok x
    → Others format (suc n) bytes x
others_go format n bytes None rest x others spelled h =
    let made : List Pair × List ℕ = ([], rest) in
    subst (Others format (suc n) bytes) (same_value made x h)
    (record { text = spelled; are = tt; few = omega arith })
others_go format n bytes (Some p) rest x others spelled h =
    let a = bind_ok (until_end (next_at format) reason.Many n rest) _ x h in
    let more = others a.0 a.1 in
    let one = spelled.0 in
    let made : List Pair × List ℕ = (p ∷ a.0.0, a.0.1) in
    subst (Others format (suc n) bytes) (same_value made x a.2)
    (record {
      text = (one.0, one.1, rest, one.2, one.3, one.4, more.text);
      are = (spelled.1, more.are);
      few = omega (arith, more.few);
    })

others_take : (format : Format) (n : ℕ) (bytes : List ℕ) (x : List Pair × List ℕ)
    → until_end (next_at format) reason.Many n bytes ≡ Ok x → Others format n bytes x
unfolding until_end
others_take format zero bytes x h = absurd cc
others_take format (suc n) bytes x h =
    let a = bind_ok (next_at format bytes) _ x h in
    others_go format n bytes a.0.0 a.0.1 x (others_take format n a.0.1)
    (next_takes format bytes a.0 a.1) a.2

pub record Labelled (format : Format) (bytes : List ℕ) (x : List Pair × List ℕ) : Type 0 where
  pub text : SpellsLabels format x.0 x.1 bytes
  pub are : AreNames x.0
  pub few : length x.0 ≤ 64

within_takes : (format : Format) (bytes : List ℕ) (x : List Pair × List ℕ)
    → within_at format bytes ≡ Ok x → Labelled format (123 ∷ bytes) x
unfolding within_at others_at
within_takes format bytes x h =
    let b = blanks_take format bytes in
    let after = after_blanks format bytes in
    elim (cases_Bool (is_end after)) [
      | inl e ↦
          let made : List Pair × List ℕ = ([], drop 1 after) in
          subst (Labelled format (123 ∷ bytes)) (same_value made x (rw e at h))
          (record {
            text =
                inl (
                  bytes,
                  refl,
                  (
                    b.blanks,
                    b.are,
                    b.text ∙ ap (λ (r : List ℕ). b.blanks ++ r) (end_takes after e),
                  ),
                );
            are = tt;
            few = omega arith;
          })
      | inr e ↦
          let a = bind_ok (pair_at format bytes) _ x (rw e at h) in
          let c = bind_ok (until_end (next_at format) reason.Many 64 a.0.1) _ x a.2 in
          let one = pair_takes format bytes a.0 a.1 in
          let others = others_take format 64 a.0.1 c.0 c.1 in
          let made : List Pair × List ℕ = (a.0.0 ∷ c.0.0, c.0.1) in
          subst (Labelled format (123 ∷ bytes)) (same_value made x c.2)
          (record {
            text = inl (bytes, refl, (a.0.1, one.text, others.text));
            are = (one.is, others.are);
            few = omega (arith, others.few);
          })
    ]

labels_take : (format : Format) (bytes : List ℕ) (x : List Pair × List ℕ)
    → labels_at format bytes ≡ Ok x → Labelled format bytes x
unfolding labels_at
labels_take format [] x h =
    let made : List Pair × List ℕ = ([], []) in
    subst (Labelled format []) (same_value made x h) (record {
      text = inr (refl, refl);
      are = tt;
      few = omega arith;
    })
labels_take format (c ∷ rest) x h =
    elim (cases_Bool (eqb c 123)) [
      | inl e ↦ subst (λ (y : ℕ). Labelled format (y ∷ rest) x) (sym (eqb-true c 123 e))
          (within_takes format rest x (rw e at h))
      | inr e ↦
          let made : List Pair × List ℕ = ([], c ∷ rest) in
          subst (Labelled format (c ∷ rest)) (same_value made x (rw e at h))
          (record { text = inr (refl, refl); are = tt; few = omega arith })
    ]

pub record Valued (places : ℕ) (bytes : List ℕ) (x : Value × List ℕ) : Type 0 where
  pub text : bytes ≡ front Word bytes ++ x.1
  pub is : number_at (front Word bytes) places ≡ Some x.0

value_of_word : (places : ℕ) (bytes : List ℕ) (read : Option Value) (x : Value × List ℕ)
    → number_at (front Word bytes) places ≡ read
    → or_value (behind Word bytes) (length bytes) read ≡ Ok x → Valued places bytes x
value_of_word places bytes None x e h = absurd cc
value_of_word places bytes (Some v) x e h =
    let made : Value × List ℕ = (v, behind Word bytes) in
    subst (Valued places bytes) (same_value made x h) (record {
      text = front_cut Word bytes;
      is = e;
    })

value_takes : (places : ℕ) (bytes : List ℕ) (x : Value × List ℕ) → value_at places bytes ≡ Ok x
    → Valued places bytes x
unfolding value_at
value_takes places bytes x h =
    value_of_word places bytes (number_at (front Word bytes) places) x refl h

pub record Timed (format : Format) (bytes : List ℕ) (x : ℤ × List ℕ) : Type 0 where
  pub text : bytes ≡ front Word bytes ++ x.1
  pub is : number_at (front Word bytes) (time_places format) ≡ Some (Parts x.0)

time_of_word : (format : Format) (bytes : List ℕ) (read : Option Value) (x : ℤ × List ℕ)
    → number_at (front Word bytes) (time_places format) ≡ read
    → or_time (behind Word bytes) (length bytes) read ≡ Ok x → Timed format bytes x
time_of_word format bytes None x e h = absurd cc
time_of_word format bytes (Some (Near t)) x e h = absurd cc
time_of_word format bytes (Some Other) x e h = absurd cc
time_of_word format bytes (Some (Parts t)) x e h =
    let made : ℤ × List ℕ = (t, behind Word bytes) in
    subst (Timed format bytes) (same_value made x h) (record {
      text = front_cut Word bytes;
      is = e;
    })

time_takes : (format : Format) (bytes : List ℕ) (x : ℤ × List ℕ) → time_at format bytes ≡ Ok x
    → Timed format bytes x
unfolding time_at
time_takes format bytes x h =
    time_of_word format bytes (number_at (front Word bytes) (time_places format)) x refl h

exemplar_takes : (bytes : List ℕ) (b : Bool) → exemplar_at bytes ≡ Ok b
    → IsExemplar bytes × (b ≡ true)
unfolding exemplar_at
exemplar_takes bytes b h =
    let one = bind_ok (byte_at 32 reason.After bytes) _ b h in
    let two = bind_ok (byte_at 35 reason.After one.0) _ b one.2 in
    let three = bind_ok (byte_at 32 reason.After two.0) _ b two.2 in
    let four = bind_ok (byte_at 123 reason.After three.0) _ b three.2 in
    let e = byte_takes 32 reason.After bytes one.0 one.1 in
    let f = byte_takes 35 reason.After one.0 two.0 two.1 in
    let g = byte_takes 32 reason.After two.0 three.0 three.1 in
    let k = byte_takes 123 reason.After three.0 four.0 four.1 in (
      record {
        rest = four.0;
        is = e ∙ ap (λ (r : List ℕ). 32 ∷ r) (f ∙ ap (λ (r : List ℕ). 35 ∷ r) (g ∙ ap (λ (r : List
            ℕ). 32 ∷ r) k));
      },
      sym (same_value true b four.2),
    )

tail_takes : (format : Format) (bytes : List ℕ) (b : Bool) → tail_at format bytes ≡ Ok b
    → IsTail format bytes b
unfolding tail_at
tail_takes format [] b h = sym (same_value false b h)
tail_takes OpenMetrics (c ∷ cs) b h = exemplar_takes (c ∷ cs) b h
tail_takes Prometheus (c ∷ cs) b h = absurd cc

pub sample_takes : (format : Format) (places : ℕ) (line : List ℕ) (s : Sampled)
    → sample_at format places (after_blanks format line) ≡ Ok s → IsSample format places line s
unfolding sample_at
sample_takes format places line s h =
    let lead = blanks_take format line in
    let begun = after_blanks format line in
    let name = bind_ok (name_at Metric reason.Name begun) _ s h in
    let labels = bind_ok (labels_at format name.0.1) _ s name.2 in
    let value_text = bind_ok (gap_at format reason.Value labels.0.1) _ s labels.2 in
    let value = bind_ok (value_at places value_text.0) _ s value_text.2 in
    let time_text = bind_ok (gap_at format reason.Time value.0.1) _ s value.2 in
    let time = bind_ok (time_at format time_text.0) _ s time_text.2 in
    let tail = bind_ok (tail_at format time.0.1) _ s time.2 in
    let one = name_takes Metric reason.Name begun name.0 name.1 in
    let two = labels_take format name.0.1 labels.0 labels.1 in
    let three = gap_takes format reason.Value labels.0.1 value_text.0 value_text.1 in
    let four = value_takes places value_text.0 value.0 value.1 in
    let five = gap_takes format reason.Time value.0.1 time_text.0 time_text.1 in
    let six = time_takes format time_text.0 time.0 time.1 in
    let seven = tail_takes format time.0.1 tail.0 tail.1 in
    let value_word = front Word value_text.0 in
    let time_word = front Word time_text.0 in
    let from_value : value_text.0 ≡ value_word ++ (five.gap ++ (time_word ++ time.0.1)) =
    four.text
    ∙ ap (λ (r : List ℕ). value_word ++ r)
    (five.text ∙ ap (λ (r : List ℕ). five.gap ++ r) six.text) in
    let made : Sampled = record {
      name = name.0.0;
      labels = labels.0.0;
      value = value.0.0;
      time = time.0.0;
      exemplar = tail.0;
      from_value = length value_text.0;
      from_time = length time_text.0;
    } in
    subst (IsSample format places line) (same_value made s tail.2)
    (record {
      lead = lead.blanks;
      from_labels = name.0.1;
      gap = three.gap;
      value = value_word;
      pause = five.gap;
      time = time_word;
      tail = time.0.1;
      line_is = lead.text ∙ ap (λ (r : List ℕ). lead.blanks ++ r) one.text;
      lead_is = lead.are;
      name_is = one.is;
      labels_are =
          subst (λ (r : List ℕ). SpellsLabels format labels.0.0 r name.0.1)
          (three.text ∙ ap (λ (r : List ℕ). three.gap ++ r) from_value) two.text;
      label_names = two.are;
      few = two.few;
      gap_is = three.is;
      value_word = front_in Word value_text.0;
      value_is = four.is;
      pause_is = five.is;
      time_word = front_in Word time_text.0;
      time_is = six.is;
      tail_is = seven;
      value_from = ap length from_value;
      time_from = ap length six.text;
    })
