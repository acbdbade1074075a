use Rattle.std.specs.Prelude.{◌≡◌, [], pos, true, false}
use Rattle.std.proofs.Common.{sym, ◌∙◌, rules, to_z, of_z, w64}
use Rattle.head.specs.declared.judge.Met.TheVariants.{Joins, Held, Refused}
use Rattle.head.specs.Heads.{HeadSeries}
use Rattle.head.specs.Meeting.{told, judged_at, standing, is_there}
use Rattle.head.specs.OnWay.{with_slots}
use Rattle.head.specs.Slots.{series_in_each}
use Rattle.head.proofs.Steps.{Item}
use Rattle.head.proofs.Ways.{place_within, met_by}
use Rattle.head.proofs.sift.meet.Goals as goal

some : HeadSeries
some = record { labels = []; samples = []; newest = (pos 0, pos 0) }

pub meet-requires : goal.meet-requires
meet-requires c = place_within c.args.labels.now c.args.draft.now c.args.place c.requires

pub returns-in-Joins : goal.returns-in-Joins
returns-in-Joins c =
    let floor : to_z w64 (of_z w64 c.floor.result) ≡ c.args.at.now.floor = search rules in
    let head = series_in_each c.args.draft.now in
    met_by (with_slots c.args.at.now c.args.draft.now) (c.args.labels.now, c.args.sample) c.args.place some Joins c.requires
    (sym c.in-Joins.is ∙ c.meet.ensures some ∙ (λ i. judged_at (floor i) head (standing head c.args.place some) c.args.sample))

pub returns-in-Held : goal.returns-in-Held
returns-in-Held c =
    let floor : to_z w64 (of_z w64 c.floor.result) ≡ c.args.at.now.floor = search rules in
    let head = series_in_each c.args.draft.now in
    met_by (with_slots c.args.at.now c.args.draft.now) (c.args.labels.now, c.args.sample) c.args.place some Held c.requires
    (sym c.in-Held.is ∙ c.meet.ensures some ∙ (λ i. judged_at (floor i) head (standing head c.args.place some) c.args.sample))

pub returns-then-there : goal.returns-then-there
returns-then-there c =
    let floor : to_z w64 (of_z w64 c.floor.result) ≡ c.args.at.now.floor = search rules in
    let head = series_in_each c.args.draft.now in
    let s = with_slots c.args.at.now c.args.draft.now in
    let x : Item = (c.args.labels.now, c.args.sample) in
    let e : true ≡ is_there s x = sym c.if-there.true ∙ c.in_ok-there-in-Refused.ensures in
    (λ i. told (e i) (Refused c.in-Refused.reason))
    ∙ met_by s x c.args.place some (Refused c.in-Refused.reason) c.requires
    (sym c.in-Refused.is ∙ c.meet.ensures some ∙ (λ i. judged_at (floor i) head (standing head c.args.place some) c.args.sample))

pub returns-else-there : goal.returns-else-there
returns-else-there c =
    let floor : to_z w64 (of_z w64 c.floor.result) ≡ c.args.at.now.floor = search rules in
    let head = series_in_each c.args.draft.now in
    let s = with_slots c.args.at.now c.args.draft.now in
    let x : Item = (c.args.labels.now, c.args.sample) in
    let e : false ≡ is_there s x = sym c.if-there.false ∙ c.in_ok-there-in-Refused.ensures in
    (λ i. told (e i) (Refused c.in-Refused.reason))
    ∙ met_by s x c.args.place some (Refused c.in-Refused.reason) c.requires
    (sym c.in-Refused.is ∙ c.meet.ensures some ∙ (λ i. judged_at (floor i) head (standing head c.args.place some) c.args.sample))
