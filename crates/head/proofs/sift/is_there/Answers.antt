use Rattle.std.specs.Prelude.{◌≡◌, [], pos}
use Rattle.std.proofs.Common.{sym, ◌∙◌, ap, rules, to_z, of_z, w64}
use Rattle.head.specs.Heads.{HeadSeries}
use Rattle.head.specs.Meeting.{snapshot_value}
use Rattle.head.specs.Sifting.{has_value}
use Rattle.head.specs.OnWay.{with_slots}
use Rattle.head.proofs.Ways.{place_within, there_newest, there_value}
use Rattle.head.proofs.sift.is_there.Goals as goal

some : HeadSeries
some = record { labels = []; samples = []; newest = (pos 0, pos 0) }

pub is_newest-requires : goal.is_newest-requires
is_newest-requires c = place_within c.args.labels.now c.args.draft.now c.args.place c.requires

pub returns-then-is_newest : goal.returns-then-is_newest
returns-then-is_newest c =
    there_newest (with_slots c.args.at.now c.args.draft.now) (c.args.labels.now, c.args.sample) c.args.place some c.requires
    (sym c.if-is_newest.true ∙ c.is_newest.ensures some)

pub returns : goal.returns
returns c =
    let same : to_z w64 (of_z w64 c.t.result) ≡ c.args.sample.0 = search rules in
    let s = with_slots c.args.at.now c.args.draft.now in
    let value : to_z w64 (of_z w64 c.v.result) ≡ c.args.sample.1 = search rules in
    c.is_value.ensures
    ∙ ap (λ v. has_value v c.in_ok-value.value) value
    ∙ there_value s (c.args.labels.now, c.args.sample) c.args.place some c.in_ok-value.value c.requires
    (sym c.if-is_newest.false ∙ c.is_newest.ensures some)
    (c.in_ok-value.ensures ∙ ap (λ t. snapshot_value s (c.args.labels.now, t)) same)
