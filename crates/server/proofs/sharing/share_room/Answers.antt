use Rattle.std.proofs.Common.{◌≡◌, ◌∷◌, ◌++◌, [], List, ℕ, ◌+◌, true, is_some, length, length-append}
use Rattle.std.proofs.Common.{ap, sym, ◌∙◌}
use Rattle.std.proofs.lemmas.List.Elements.{All-push}
use Rattle.server.specs.declared.place.Place.{Place}
use Rattle.server.proofs.sharing.share_room.Goals as goal

pub loop-place-preserved : goal.loop-place-preserved
loop-place-preserved g c =
    let items : c.push.new.self.items ≡ c.loop-place.shared.items ++ c.in_ok-sharing.field-0 ∷ [] =
    c.in_ok-push.ensures.items in (
      ap (λ (l : List (Place g.row.J.Denot)). length l) items
          ∙ length-append c.loop-place.shared.items (c.in_ok-sharing.field-0 ∷ [])
          ∙ ap (λ (n : ℕ). n + 1) c.loop-place.invariant.0
          ∙ sym (length-append c.loop-place.yielded (c.in-Some-place.place ∷ [])),
      rw items (All-push (λ (p : Place g.row.J.Denot). is_some p.holder ≡ true)
          c.loop-place.shared.items c.in_ok-sharing.field-0 c.loop-place.invariant.1
          c.in_ok-sharing.ensures),
    )
