-- When a reply is right of a state of a store.
use Rattle.std.proofs.Common.{◌≡◌, ◌≤◌, ◌<◌, inl, inr, ℕ, true, false, List, Option, Some, None, refl, sym, subst, ◌∙◌, length, ◌&&◌, arith}
use Rattle.std.specs.Prelude.{is_some}
use Rattle.labels.proofs.Lists.{below_or_not}
use Rattle.matchers.specs.Views.{QueryView}
use Rattle.reply_reader.specs.declared.reply.Reply.{Reply}
use Rattle.kept_walk.specs.Kept.{Event}
use Rattle.kept_world.specs.Changes.{LeadsTo}
use Rattle.kept_world.specs.States.{State, numbered, shown}
use Rattle.whole_audit.specs.StateLines.{are_right_lines}
use Rattle.whole_audit.specs.declared.lines.StateLine.{StateLine}
use Rattle.whole_audit.proofs.AllRight.{whole_of_lines, lines_of_whole}
use Rattle.reply_state.specs.Searches.{AreRightIn}
use Rattle.reply_state.proofs.Rights.{whole_when, listed_when}
use Rattle.store_audit.specs.Reports.{AreLinesAt, IsEarlier, IsFound}
use Rattle.store_command.specs.States.{IsRightAt, IsRightBefore, IsRightSomewhere}

some_same : {X : Type 0} (a b : X) → Some a ≡ Some b → a ≡ b
some_same a b e = cc

module _ (query : QueryView) (reply : Reply) (since : ℕ) (first : State) (events : List Event)
    (told : ℕ) (lines : List StateLine) where
  -- from the lines to the state
  pub of_lines : (found : Option ℕ) → IsFound query reply since first events found told
      → AreLinesAt query reply first events told lines
      → (is_some found && are_right_lines lines) ≡ true
      → IsRightSomewhere query reply since first events
  of_lines None f l right = absurd (let no : false ≡ true = right in cc)
  of_lines (Some at) f l right = record {
    place = told;
    state = l.0;
    low = subst (λ (n : ℕ). since ≤ n) (sym f.0) f.1.0;
    high = subst (λ (n : ℕ). n ≤ length events) (sym f.0) f.1.1;
    there = l.1;
    right = whole_of_lines l.0.blocks (numbered 1 (shown l.0.head)) query reply lines l.2 right;
  }

  -- and back
  pub to_lines : (found : Option ℕ) → IsFound query reply since first events found told
      → AreLinesAt query reply first events told lines
      → IsRightSomewhere query reply since first events
      → (is_some found && are_right_lines lines) ≡ true
  to_lines None f l w =
      absurd (f.1 w.place w.state w.low w.high w.there w.right.parts)
  to_lines (Some at) f l w =
      let same : f.1.2.0 ≡ l.0 =
      some_same f.1.2.0 l.0
      (sym (subst (λ (n : ℕ). LeadsTo first events n f.1.2.0) (sym f.0) f.1.2.1) ∙ l.1) in
      let right : AreRightIn query reply.parts.items l.0 =
      subst (AreRightIn query reply.parts.items) same f.1.2.2 in
      lines_of_whole l.0.blocks (numbered 1 (shown l.0.head)) query reply lines l.2
      (whole_when query reply l.0 right (listed_when query reply w.state w.right))

  -- from the earlier state that is told to one, and to none from there on

  not_here : IsFound query reply since first events None told
      → IsRightSomewhere query reply since first events → ⊥
  not_here f w = f.1 w.place w.state w.low w.high w.there w.right.parts

  pub such_place : (found earlier : Option ℕ) → IsFound query reply since first events found told
      → IsEarlier query reply first events found earlier → (place : ℕ) → earlier ≡ Some place
      → (place < since) × IsRightAt query reply first events place
  such_place (Some at) earlier f e place is = absurd (let no : None ≡ Some place = sym e ∙ is in cc)
  such_place None None f e place is = absurd (let no : None ≡ Some place = is in cc)
  such_place None (Some at) f e place is =
      subst (λ (p : ℕ). (p < since) × IsRightAt query reply first events p)
      (some_same at place is) (
        elim (below_or_not at since) [
          | inl below ↦ below
          | inr not_below ↦ absurd (f.1 at e.2.0 not_below e.1 e.2.1 e.2.2.parts)
        ],
        record { state = e.2.0; there = e.2.1; right = e.2.2 },
      )

  pub of_earlier : (found earlier : Option ℕ) → IsFound query reply since first events found told
      → IsEarlier query reply first events found earlier → is_some earlier ≡ true
      → IsRightBefore query reply since first events
      × (IsRightSomewhere query reply since first events → ⊥)
  of_earlier (Some at) (Some place) f e some = absurd (let no : Some place ≡ None = e in cc)
  of_earlier (Some at) None f e some = absurd (let no : false ≡ true = some in cc)
  of_earlier None None f e some = absurd (let no : false ≡ true = some in cc)
  of_earlier None (Some place) f e some =
      let such = such_place None (Some place) f e place refl in (
        record { place = place; low = such.0; high = e.1; is_right = such.1 },
        not_here f,
      )

  -- and back
  pub to_earlier : (found earlier : Option ℕ) → IsFound query reply since first events found told
      → IsEarlier query reply first events found earlier
      → IsRightBefore query reply since first events
      → (IsRightSomewhere query reply since first events → ⊥) → is_some earlier ≡ true
  to_earlier None (Some place) f e w _ = refl
  to_earlier None None f e w _ =
      absurd (e w.place w.is_right.state (omega arith) w.high w.is_right.there w.is_right.right)
  to_earlier (Some at) earlier f e w nowhere =
      absurd (nowhere (record {
        place = at;
        state = f.1.2.0;
        low = f.1.0;
        high = f.1.1;
        there = f.1.2.1;
        right = whole_when query reply f.1.2.0 f.1.2.2
            (listed_when query reply w.is_right.state w.is_right.right);
      }))
