use Rattle.std.proofs.Common.{◌≡◌, ◌++◌, ◌∷◌, [], ℕ, List, OnOk, ap, append_assoc, codes, decimal, string_bytes, subst, ◌∙◌}
use Rattle.std.specs.Io.KnownBytes.{Appends}
use Rattle.store_command.specs.Faults.{earlier_text}
use Rattle.store_command.specs.declared.fault.Earlier.{Earlier}
use Rattle.store_command.proofs.fault.tell_earlier.Goals as goal

-- the line as it is written, and as it is told
regrouped : (a b c d e f g : List ℕ)
    → a ++ (b ++ (c ++ (d ++ (e ++ (f ++ (g ++ 10 ∷ []))))))
    ≡ (a ++ b ++ c ++ d ++ e ++ f ++ g) ++ 10 ∷ []
regrouped a b c d e f g = simp append_assoc

line : (earlier : Earlier) (mark : List ℕ) → mark ≡ string_bytes earlier.mark
    → codes "at event " ++ (decimal earlier.at ++ (codes " of " ++ (decimal earlier.events
    ++ (codes ", before mark " ++ (mark ++ (codes ": ask again" ++ 10 ∷ []))))))
    ≡ earlier_text earlier ++ 10 ∷ []
line earlier mark is =
    regrouped (codes "at event ") (decimal earlier.at) (codes " of ") (decimal earlier.events)
    (codes ", before mark ") mark (codes ": ask again")
    ∙ ap (λ (told : List ℕ). (codes "at event " ++ decimal earlier.at ++ codes " of "
    ++ decimal earlier.events ++ codes ", before mark " ++ told ++ codes ": ask again") ++ 10 ∷ [])
    is

pub returns : goal.returns
returns g c =
    subst (λ (bytes : List ℕ). OnOk c.writeln.result (Appends (g.W.Write.contents c.args.to.now)
    (g.W.Write.contents c.writeln.new.self) bytes))
    (line c.args.earlier.now c.as_str-mark.result.now c.as_str-mark.ensures.value)
    c.writeln.ensures.bytes
