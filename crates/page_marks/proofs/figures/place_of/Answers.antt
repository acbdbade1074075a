use Rattle.std.proofs.Common.{ℤ, ap, sym, subst, ◌∙◌, w64}
use Rattle.std.proofs.lemmas.Int.{to_z-of_z}
use Rattle.stored_doubles.specs.Stored.{IsStoredFor}
use Rattle.page_marks.specs.Figures.{rank_of}
use Rattle.page_marks.proofs.figures.place_of.Goals as goal

pub returns-clause-ranked : goal.returns-clause-ranked
returns-clause-ranked c = λ bits are.
    let same = to_z-of_z w64 c.args.number c.ranges.number in
    c.rank_of.ensures
    ∙ ap (rank_of c.args.end)
    (sym (c.restored.ensures.only bits are.fits
    (subst (λ (n : ℤ). IsStoredFor bits n) (sym same) are.stored)))
