use Rattle.std.proofs.Common.{◌≡◌, ℕ, ◌+◌, ◌<◌, ◌≤◌, [], ◌∷◌, ◌++◌, length, slice_index_or, sym, ap, subst, ◌∙◌, arith, length-append}
use Rattle.std.specs.List.{Contains}
use Rattle.labels.specs.Ascending.{not_below, first_or_end, or_end}
use Rattle.labels.proofs.Lists.{or_end-first}
use Rattle.cover.specs.declared.certificate.Interval.{Interval}
use Rattle.cover.specs.Certificates.{Asked}
use Rattle.cover.specs.Walking.{asked_in_walk, accepted_by, alive, begins_at}
use Rattle.cover.proofs.Greedy.{Sofar, reach, sofar_push, sofar_done, IsGood}
use Rattle.cover.proofs.Turns.{Turn, turn, stands_at, starts, starts_stand, not_below_zero, sought, starts_within, turn_within}
use Rattle.cover.proofs.Farthest.{at_map, length_map}
use Rattle.cover.proofs.walk.walk.Given as given
use Rattle.cover.proofs.walk.walk.Goals as goal

pub loop-next-init : goal.loop-next-init
loop-next-init g c =
    let a : Asked =
    asked_in_walk g.P.Postings.remaining g.Q.Postings.remaining g.L.Postings.remaining
    c.args.all.now c.args.lists.now c.args.live.now in
    let begins : c.number_or_end-next.result ≡ first_or_end a.references =
    c.number_or_end-next.ensures
    ∙ ap or_end c.current.ensures
    ∙ or_end-first (g.P.Postings.remaining c.args.all.now.0) in
    record {
      so = rw (c.new-certificate.ensures.items, begins) (starts a c.requires.part);
      stands = λ l.
          let s : Contains a.references (first_or_end a.references)
          × (a.references ≡ not_below (first_or_end a.references) a.references) =
          starts_stand a c.requires.part (omega (arith, begins, l)) in (
            subst (λ (z : ℕ). Contains a.references z) (sym begins) s.0,
            s.1 ∙ ap (λ (z : ℕ). not_below z a.references) (sym begins),
          );
      lists =
          λ j d l. (0, (omega arith, c.requires.accepted j d l ∙ not_below_zero (accepted_by a j)));
      living = (0, (omega arith, c.requires.living ∙ not_below_zero (alive a)));
      count = omega (arith, c.requires.fresh);
      each = λ j d l. omega (arith, c.requires.each_fresh j d l);
      live_count = omega (arith, c.requires.live_fresh);
      within = omega (arith, begins, starts_within a c.requires.part);
    }

-- what one turn of the loop found
the_turn : (g : given.Over) (c : goal.In_ok-push g)
    → Turn (asked_in_walk g.P.Postings.remaining g.Q.Postings.remaining g.L.Postings.remaining
    c.args.all.now c.args.lists.now c.args.live.now) c.new-from.result c.farthest-verdict.result.0
    (g.P.Postings.remaining c.move_on.new.all.0) c.move_on.result
the_turn g c =
    let a : Asked =
    asked_in_walk g.P.Postings.remaining g.Q.Postings.remaining g.L.Postings.remaining
    c.args.all.now c.args.lists.now c.args.live.now in
    let same : c.new-from.result ≡ c.loop-next.next = c.new-from.ensures in
    let stands : Contains a.references c.loop-next.next
    × (g.P.Postings.remaining c.loop-next.all.0 ≡ not_below c.loop-next.next a.references) =
    c.loop-next.invariant.stands c.loop-next-test.true in
    let many : length c.seek_each.new.lists ≡ a.matchers = omega (
      arith,
      length_map (λ x. g.Q.Postings.remaining x.0) c.args.lists.now,
      c.loop-next.auto.lists,
      c.seek_each.auto.lists,
    ) in
    let living : (b : ℕ) × ((b ≤ c.loop-next.next)
    × (g.L.Postings.remaining c.loop-next.live.0 ≡ not_below b (alive a))) =
    c.loop-next.invariant.living in
    let live_is : g.L.Postings.remaining c.seek.new.self.0 ≡ not_below c.new-from.result (alive a) =
    c.seek.ensures.moved
    ∙ sought (alive a) living.0 c.new-from.result (g.L.Postings.remaining c.loop-next.live.0)
    (omega (arith, living.1.0, c.new-from.ensures)) living.1.1 in
    turn a c.new-from.result
    (begins_at g.Q.Postings.remaining c.seek_each.new.lists)
    (length c.seek_each.new.lists) (first_or_end (g.L.Postings.remaining c.seek.new.self.0))
    c.farthest-verdict.result.1 c.farthest-verdict.result.0
    (g.P.Postings.remaining c.loop-next.all.0) (g.P.Postings.remaining c.move_on.new.all.0)
    c.move_on.result
    c.requires.part (rw same stands.0) many (rw same stands.1)
    (λ k l. at_map (λ x. first_or_end (g.Q.Postings.remaining x.0)) c.seek_each.new.lists k
    (λ n. n ≡ reach a c.new-from.result k) l (λ d.
    let old : k < length c.loop-next.lists = omega (arith, l, c.seek_each.auto.lists) in
    let was : (b : ℕ) × ((b ≤ c.loop-next.next) × (g.Q.Postings.remaining
    (slice_index_or c.loop-next.lists k d).0 ≡ not_below b (accepted_by a k))) =
    c.loop-next.invariant.lists k d old in
    ap first_or_end (c.seek_each.ensures.moved k d old
    ∙ sought (accepted_by a k) was.0 c.new-from.result (g.Q.Postings.remaining
    (slice_index_or c.loop-next.lists k d).0) (omega (arith, was.1.0, same)) was.1.1)))
    (ap first_or_end live_is)
    c.farthest-verdict.ensures c.move_on.ensures.moved

pub loop-next-smaller : goal.loop-next-smaller
loop-next-smaller g c = omega (
  arith,
  (the_turn g c).forward,
  c.number_or_end-next-in-loop-next.ensures,
  c.new-from.ensures,
  c.loop-next-test.true,
)

pub loop-next-preserved : goal.loop-next-preserved
loop-next-preserved g c =
    let a : Asked =
    asked_in_walk g.P.Postings.remaining g.Q.Postings.remaining g.L.Postings.remaining
    c.args.all.now c.args.lists.now c.args.live.now in
    let t : Turn a c.new-from.result c.farthest-verdict.result.0
    (g.P.Postings.remaining c.move_on.new.all.0) c.move_on.result = the_turn g c in
    let until : c.number_or_end-next-in-loop-next.result ≡ or_end c.move_on.result =
    c.number_or_end-next-in-loop-next.ensures in
    let here : Interval = record {
      from = c.new-from.result;
      until = c.number_or_end-next-in-loop-next.result;
      verdict = c.farthest-verdict.result.0;
    } in
    let good : IsGood a here = rw until t.good in
    let pushed : c.push.new.self.items ≡ c.loop-next.certificate.items ++ here ∷ [] =
    c.in_ok-push.ensures.items in
    let living : (b : ℕ) × ((b ≤ c.loop-next.next)
    × (g.L.Postings.remaining c.loop-next.live.0 ≡ not_below b (alive a))) =
    c.loop-next.invariant.living in
    let live_is : g.L.Postings.remaining c.seek.new.self.0 ≡ not_below c.new-from.result (alive a) =
    c.seek.ensures.moved
    ∙ sought (alive a) living.0 c.new-from.result (g.L.Postings.remaining c.loop-next.live.0)
    (omega (arith, living.1.0, c.new-from.ensures)) living.1.1 in
    let longer : length c.push.new.self.items ≡ length c.loop-next.certificate.items + 1 =
    rw pushed (length-append c.loop-next.certificate.items (here ∷ [])) in
    record {
      so =
          rw pushed (sofar_push a c.loop-next.certificate.items here c.requires.part
          (rw c.new-from.ensures c.loop-next.invariant.so) good);
      stands =
          λ l. rw until (stands_at a c.new-from.result c.farthest-verdict.result.0
          (g.P.Postings.remaining c.move_on.new.all.0) c.move_on.result t
          (omega (arith, l, until)));
      lists = λ j d l.
          let old : j < length c.loop-next.lists = omega (arith, l, c.seek_each.auto.lists) in
          let was : (b : ℕ) × ((b ≤ c.loop-next.next) × (g.Q.Postings.remaining
          (slice_index_or c.loop-next.lists j d).0 ≡ not_below b (accepted_by a j))) =
          c.loop-next.invariant.lists j d old in (
            c.new-from.result,
            (
              omega (arith, t.forward, until),
              c.seek_each.ensures.moved j d old
                  ∙ sought (accepted_by a j) was.0 c.new-from.result
                  (g.Q.Postings.remaining (slice_index_or c.loop-next.lists j d).0)
                  (omega (arith, was.1.0, c.new-from.ensures)) was.1.1,
            ),
          );
      living = (c.new-from.result, (omega (arith, t.forward, until), live_is));
      count = omega (arith, c.loop-next.invariant.count, c.move_on.ensures.counted, longer);
      each = λ j d l.
          let old : j < length c.loop-next.lists = omega (arith, l, c.seek_each.auto.lists) in
          omega
          (arith, c.loop-next.invariant.each j d old, c.seek_each.ensures.counted j d old, longer);
      live_count = omega (arith, c.loop-next.invariant.live_count, c.seek.ensures.counted, longer);
      within = omega (
        arith,
        until,
        turn_within a c.new-from.result c.farthest-verdict.result.0
            (g.P.Postings.remaining c.move_on.new.all.0) c.move_on.result c.requires.part t,
      );
    }

pub returns-clause-leftmost : goal.returns-clause-leftmost
returns-clause-leftmost g c =
    let a : Asked =
    asked_in_walk g.P.Postings.remaining g.Q.Postings.remaining g.L.Postings.remaining
    c.args.all.now c.args.lists.now c.args.live.now in
    let low : c.loop-next.next ≡ 4294967296 =
    omega (arith, c.loop-next.invariant.within, c.loop-next-test.false) in
    sofar_done a c.loop-next.certificate.items c.requires.part
    (subst (λ (n : ℕ). Sofar a c.loop-next.certificate.items n) low c.loop-next.invariant.so)
