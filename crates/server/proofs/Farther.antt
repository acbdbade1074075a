-- What a connection makes of its worker.
use Rattle.std.proofs.Common.{◌≡◌, ℕ, Bool, ◌+◌, List, Option, refl, sym, ap, subst, ◌∙◌, arith, inl, inr}
use mathlib.Core.List.{IsPrefix}
use Rattle.head.specs.Heads.{SnapshotParts}
use Rattle.head.specs.Worlds.{Event}
use Rattle.snapshots.specs.declared.entry.Entry.{Entry}
use Rattle.snapshots.proofs.Prefixes.{prefix_self, prefix_trans}
use Rattle.guard.specs.declared.rules.Rules.{Rules}
use Rattle.requests.specs.Admitting.{MeansUnder}
use Rattle.requests.specs.declared.request.Request.{Request}
use Rattle.requests.specs.declared.request.Request.TheVariants as asks
use Rattle.requests.specs.declared.status.Status.{Status}
use Rattle.query_http.specs.Serving.{Worker, IsIdle, IsEventReply, IsRequestReply, IsReply, Serves}
use Rattle.query_http.specs.declared.engine.Served.{Served}
use Rattle.query_http.specs.declared.engine.Served.TheVariants as served
use Rattle.server.specs.Sessions.{Session, IsServed}
use Rattle.server.specs.Working.{IsFarther}

-- a list begins with one that is the same
same_prefix : (xs ys : List Entry) → ys ≡ xs → IsPrefix xs ys
same_prefix xs ys e = subst (λ (l : List Entry). IsPrefix xs l) (sym e) (prefix_self xs)

pub none_farther : (w : Worker) → IsFarther w w 0
none_farther w = record {
  seen = prefix_self w.known.seen;
  told = prefix_self w.known.told;
  number = refl;
  least = omega arith;
  most = omega arith;
}

-- a connection more
pub farther_more : (before between after : Worker) (count : ℕ) → IsFarther before between count
    → IsFarther between after 1
    → IsFarther before after (count + 1)
farther_more before between after count h one = record {
  seen = prefix_trans before.known.seen between.known.seen after.known.seen h.seen one.seen;
  told = prefix_trans before.known.told between.known.told after.known.told h.told one.told;
  number = one.number ∙ h.number;
  least = omega (arith, h.least, one.least);
  most = omega (arith, h.most, one.most);
}

same_farther : (before after : Worker) → after ≡ before → IsFarther before after 1
same_farther before after e = subst (λ (w : Worker). IsFarther before w 1) (sym e) (record {
  seen = prefix_self before.known.seen;
  told = prefix_self before.known.told;
  number = refl;
  least = omega arith;
  most = omega arith;
})

idle_farther : (before after : Worker) → IsIdle before after → IsFarther before after 1
idle_farther before after h =
    let number : after.seat.number ≡ before.seat.number = ap (λ p. p.number) h.seat in
    let count : after.seat.count ≡ before.seat.count = ap (λ p. p.count) h.seat in
    record {
      seen = h.seen;
      told = same_prefix before.known.told after.known.told h.told;
      number = number;
      least = omega (arith, count);
      most = omega (arith, count);
    }

event_farther : (opening : SnapshotParts) (idle : Bool) (held : List Entry → Type 0)
    (event : Event) (before after : Worker) (status : Status) (text : List ℕ)
    → IsEventReply opening idle held event before after status text → IsFarther before after 1
event_farther opening idle held event before after status text (inl h) =
    let number : after.seat.number ≡ before.seat.number = ap (λ p. p.number) h.counted.0 in
    let count : after.seat.count ≡ before.seat.count + 1 = ap (λ p. p.count) h.counted.0 in
    record {
      seen = same_prefix before.known.seen after.known.seen h.seen;
      told = h.told;
      number = number;
      least = omega (arith, count);
      most = omega (arith, count);
    }
event_farther opening idle held event before after status text (inr (inl h)) =
    same_farther before after h.same
event_farther opening idle held event before after status text (inr (inr h)) =
    same_farther before after h.same

asked_farther : (opening : SnapshotParts) (idle bounded : Bool) (held : List Entry → Type 0)
    (request : Request) (before after : Worker) (status : Status) (text : List ℕ)
    → IsRequestReply opening idle bounded held request before after status text → IsFarther before after 1
asked_farther opening idle bounded held (asks.Select query) before after status text h =
    idle_farther before after h.1
asked_farther opening idle bounded held (asks.Write samples) before after status text h =
    event_farther opening idle held _ before after status text h
asked_farther opening idle bounded held (asks.Delete matchers from to) before after status text h =
    event_farther opening idle held _ before after status text h
asked_farther opening idle bounded held (asks.Cut t) before after status text h =
    event_farther opening idle held _ before after status text h

reply_farther : (rules : Rules) (opening : SnapshotParts) (idle bounded : Bool)
    (held : List Entry → Type 0) (input : Option (List ℕ)) (before after : Worker)
    (status : Status) (text : List ℕ)
    → IsReply (MeansUnder rules) opening idle bounded held input before after status text
    → IsFarther before after 1
reply_farther rules opening idle bounded held input before after status text (inl h) =
    same_farther before after h.same
reply_farther rules opening idle bounded held input before after status text (inr h) =
    asked_farther opening idle bounded held h.request before after status text h.done

serves_farther : (rules : Rules) (opening : SnapshotParts) (idle bounded : Bool)
    (held : List Entry → Type 0) (input : Option (List ℕ)) (before after : Worker)
    (old new : Option (List ℕ)) (s : Served)
    → Serves (MeansUnder rules) opening idle bounded held input before after old new s
    → IsFarther before after 1
serves_farther rules opening idle bounded held input before after old new (served.Replied status) h =
    reply_farther rules opening idle bounded held input before after status h.text h.reply
serves_farther rules opening idle bounded held input before after old new served.WriteFault h =
    reply_farther rules opening idle bounded held input before after h.status h.text h.reply
serves_farther rules opening idle bounded held input before after old new served.Closed h =
    same_farther before after h.1
serves_farther rules opening idle bounded held input before after old new served.ReadFault h =
    same_farther before after h
serves_farther rules opening idle bounded held input before after old new served.NoMemory h =
    idle_farther before after h

-- a connection takes its worker no farther than one event
pub served_farther : (rules : Rules) (opening : SnapshotParts) (idle bounded : Bool)
    (held : List Entry → Type 0) (before after : Worker) (s : Session)
    → IsServed rules opening idle bounded held before after s → IsFarther before after 1
served_farther rules opening idle bounded held before after s h =
    serves_farther rules opening idle bounded held s.input before after h.output s.ending.written
    s.ending.served h.serves
