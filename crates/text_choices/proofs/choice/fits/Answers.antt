use Rattle.std.proofs.Common.{◌+◌, ◌&&◌, chars, drop, sym, ap, ◌∙◌}
use Rattle.std.specs.Str.Iter.{chars_rest}
use Rattle.text_choices.specs.Alternatives.{fits}
use Rattle.text_choices.specs.declared.atom.Atom.TheVariants.{Any}
use Rattle.text_choices.proofs.Steps.{fits_ends, fits_goes, utf8_next}
use Rattle.text_choices.proofs.choice.fits.Goals as goal

pub returns-in_default : goal.returns-in_default
returns-in_default c =
    sym (fits_ends c.args.atoms.now _ c.loop-atom.atom-index Any c.loop-atom-test.true c.in_default.ensures.steps.0.0) ∙ c.loop-atom.invariant.same

pub returns-then-not-takes : goal.returns-then-not-takes
returns-then-not-takes c =
    let rest = fits (drop (c.loop-atom.atom-index + 1) c.args.atoms.now) (chars (chars_rest c.next.new.self)) in
    sym (fits_goes c.args.atoms.now _ _ c.loop-atom.atom-index c.in-Some.c _ c.loop-atom-test.true c.loop-atom.invariant.utf8 c.in-Some.ensures.steps.0 c.in-Some.ensures.steps.2
    ∙ ap (λ b. b && rest) (sym c.takes.ensures ∙ c.if-not-takes.true)) ∙ c.loop-atom.invariant.same

pub loop-atom-preserved : goal.loop-atom-preserved
loop-atom-preserved c =
    let rest = fits (drop (c.loop-atom.atom-index + 1) c.args.atoms.now) (chars (chars_rest c.next.new.self)) in
    record {
      same = sym (fits_goes c.args.atoms.now _ _ c.loop-atom.atom-index c.in-Some.c _ c.loop-atom-test.true c.loop-atom.invariant.utf8 c.in-Some.ensures.steps.0 c.in-Some.ensures.steps.2
          ∙ ap (λ b. b && rest) (sym c.takes.ensures ∙ c.if-not-takes.false)) ∙ c.loop-atom.invariant.same;
      utf8 = utf8_next _ _ _ c.loop-atom.invariant.utf8 c.in-Some.ensures.steps.0;
    }
