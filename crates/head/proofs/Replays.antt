-- One event more after a replay.
use Rattle.std.specs.Prelude.{◌≡◌, ◌<◌, ◌+◌, ℕ, List, [], ◌∷◌, ◌++◌, Result, Ok, Err, length, slice_index_or, take, refl}
use Rattle.std.proofs.Common.{⊎_elim, sym, ap, subst, ◌∙◌, append-nil, append_assoc}
use Rattle.std.specs.List.{AllByRecursion}
use Rattle.std.proofs.lemmas.List.{take_more}
use Rattle.std.proofs.lemmas.Option.{slice_get_read}
use Rattle.head.specs.Outcomes.{IsStepRefusal}
use Rattle.head.specs.Refusals.{Refusal}
use Rattle.head.specs.Heads.{BlockPart, SnapshotParts}
use Rattle.head.specs.Kept.{KeepsBlocks}
use Rattle.head.specs.Replaying.{DeleteNothing, IsNoDeletion, RefusesAt, StandFirst}
use Rattle.head.specs.Worlds.{Event, World, batch, cut, deletion, joined, stepped, replayed}
use Rattle.head.specs.Worlds.{replayed_from}
use Rattle.head.specs.declared.error.CommitError.{CommitError}

pub replayed_from-snoc : (r : Result World Refusal) (es : List Event) (e : Event) (v : World) → replayed_from r es ≡ Ok v → replayed_from r (es ++ e ∷ []) ≡ stepped v e
replayed_from-snoc r [] e v is = ap (λ (s : Result World Refusal). replayed_from s (e ∷ [])) is
replayed_from-snoc (Err x) (f ∷ es) e v is = absurd (cc is)
replayed_from-snoc (Ok w) (f ∷ es) e v is = replayed_from-snoc (stepped w f) es e v is

-- the event at a place is accepted
pub replayed_more : (w v next : World) (events : List Event) (at : ℕ) (event : Event) → at < length events → event ≡ slice_index_or events at event → replayed w (take at events) ≡ Ok v
    → stepped v event ≡ Ok next → replayed w (take (at + 1) events) ≡ Ok next
replayed_more w v next events at event inside is before step =
    ap (replayed w) (take_more events at event inside ∙ ap (λ (e : Event). take at events ++ e ∷ []) (sym is))
    ∙ replayed_from-snoc (Ok w) (take at events) event v before
    ∙ step

-- the event at a place is refused
pub refuses_at : (w v : World) (events : List Event) (at : ℕ) (event : Event) (error : CommitError) → at < length events → event ≡ slice_index_or events at event → replayed w (take at events) ≡ Ok v
    → IsStepRefusal error (stepped v event) → RefusesAt w events at error
refuses_at w v events at event error inside is before refusal = record {
  world = v;
  before = before;
  event = event;
  there = slice_get_read events (length events) at event refl inside is;
  refused = refusal;
}

-- the last of events, and those before it
parted : (P : Event → Type 0) (es : List Event) (e : Event) → AllByRecursion P (es ++ e ∷ [])
    → AllByRecursion P es × P e
parted P [] e h = (tt, h.0)
parted P (x ∷ es) e h = let rest = parted P es e h.1 in ((h.0, rest.0), rest.1)

-- an event that is no deletion keeps the blocks, and adds one at most
stand_first : (e : Event) (old : SnapshotParts) (new : List BlockPart) → IsNoDeletion e
    → KeepsBlocks e old new → StandFirst old.blocks new
stand_first (batch xs) old new none kept = ([], kept ∙ sym (append-nil old.blocks))
stand_first (deletion ms from to) old new none kept = absurd none
stand_first (cut t) old new none kept =
    ⊎_elim (λ same. ([], same ∙ sym (append-nil old.blocks))) (λ one. (one.0 ∷ [], one.1)) kept
stand_first (joined at count made) old new none kept = absurd none

then_first : (a b c : List BlockPart) → StandFirst a b → StandFirst b c → StandFirst a c
then_first a b c one two = (
  one.0 ++ two.0,
  two.1 ∙ ap (λ (bs : List BlockPart). bs ++ two.0) one.1 ∙ append_assoc a one.0 two.0,
)

-- the blocks before stand first after one event more
pub first_more : (first : List BlockPart) (old : SnapshotParts) (new : List BlockPart)
    (events : List Event) (at : ℕ) (event : Event) → at < length events
    → event ≡ slice_index_or events at event
    → (DeleteNothing (take at events) → StandFirst first old.blocks) → KeepsBlocks event old new
    → DeleteNothing (take (at + 1) events) → StandFirst first new
first_more first old new events at event inside is before kept none =
    let split = parted IsNoDeletion (take at events) event
    (subst (λ (es : List Event). DeleteNothing es)
    (take_more events at event inside ∙ ap (λ (e : Event). take at events ++ e ∷ []) (sym is)) none)
    in
    then_first first old.blocks new (before split.0) (stand_first event old new split.1 kept)
