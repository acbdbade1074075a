-- A store over every schedule: what is on the disk, the process that answers, and what leads from
-- one to another.
use Rattle.std.specs.Prelude.{◌≡◌, ◌⊎◌, List, [], ◌∷◌, ◌++◌, Ok}
use Rattle.head.specs.Worlds.{Event, World, replayed}

-- what outlives a crash: the world that the head of the journal says, and the events of the whole
-- records after it
pub record Disk : Type 0 where
  pub base : World
  pub events : List Event

-- a start finds this world
abbrev pub Finds : Disk → World → Type 0
Finds d w = replayed d.base d.events ≡ Ok w

-- the new disk has these events more, after the same head
pub record HasMore (events : List Event) (old new : Disk) : Type 0 where
  pub base : new.base ≡ old.base
  pub all : new.events ≡ old.events ++ events

-- no process runs; one answers from this world, and takes no event any more; one takes events
pub data Process : Type 0 where
  Down : Process
  Closed : (w : World) → Process
  Taking : (w : World) → Process

-- a process answers from this world
abbrev pub Answers : Process → World → Type 0
Answers Down w = ⊥
Answers (Closed v) w = v ≡ w
Answers (Taking v) w = v ≡ w

pub record Store : Type 0 where
  pub disk : Disk
  pub process : Process

-- what happens to a store
pub data Move : Type 0 where
  -- an event comes, its record is there for good, and then it is acknowledged
  Accept : (event : Event) → Move
  -- a write or a sync of records fails, or a process dies on the way, and the records of these
  -- events are whole; none of them was acknowledged
  Fail : (whole : List Event) → Move
  Die : (whole : List Event) → Move
  -- the journal is begun anew
  Roll : Move
  -- a process starts
  Start : Move

-- The process took events, and its world is this. The disk has records of these events more, each
-- of which it accepts after those before it.
pub record Wrote (whole : List Event) (v : World) (s t : Store) : Type 0 where
  pub took : s.process ≡ Taking v
  pub world : World
  pub accepts : replayed v whole ≡ Ok world
  pub more : HasMore whole s.disk t.disk

-- A move may lead from one store to another. What lies beside the journal counts for nothing: so a
-- journal that is begun anew is the one before, until it is the new one, which says the world that
-- the process answers from.
abbrev pub Leads : Move → Store → Store → Type 0
Leads (Accept e) s t = (v : World) × (x : Wrote (e ∷ []) v s t) × (t.process ≡ Taking x.world)
Leads (Fail whole) s t = (v : World) × Wrote whole v s t × (t.process ≡ Closed v)
Leads (Die whole) s t =
    (t.process ≡ Down)
    × (((v : World) × Wrote whole v s t)
    ⊎ ((v : World) × (s.process ≡ Closed v) × (whole ≡ []) × (t.disk ≡ s.disk)))
Leads Roll s t =
    (v : World) × (s.process ≡ Taking v) × (t.process ≡ Taking v) × Finds t.disk v
Leads Start s t =
    (w : World) × (s.process ≡ Down) × Finds s.disk w × (t.process ≡ Taking w)
    × (t.disk ≡ s.disk)

-- moves lead from one store to another, one after another
abbrev pub Runs : List Move → Store → Store → Type 0
Runs [] s t = t ≡ s
Runs (m ∷ moves) s t = (u : Store) × Leads m s u × Runs moves u t

-- a process over a new journal, whose head says this world
abbrev pub opened : World → Store
opened w = record { disk = record { base = w; events = [] }; process = Taking w }

-- What can be told of moves: the events that processes answered from; those after them that the
-- next start will find, though nobody was told of them; and, of those that were answered from, the
-- ones that were acknowledged, and the ones that a start found so.
pub record History : Type 0 where
  pub seen : List Event
  pub behind : List Event
  pub told : List Event
  pub untold : List Event

abbrev pub after : Move → History → History
after (Accept e) h = record h { seen = h.seen ++ e ∷ []; told = h.told ++ e ∷ [] }
after (Fail whole) h = record h { behind = h.behind ++ whole }
after (Die whole) h = record h { behind = h.behind ++ whole }
after Roll h = h
after Start h =
    record h { seen = h.seen ++ h.behind; behind = []; untold = h.untold ++ h.behind }

abbrev pub after_all : List Move → History → History
after_all [] h = h
after_all (m ∷ moves) h = after_all moves (after m h)

abbrev pub history : List Move → History
history moves = after_all moves (record { seen = []; behind = []; told = []; untold = [] })

-- whole records that a move leaves, of which nobody was told
abbrev pub left_by : Move → List Event
left_by (Accept e) = []
left_by (Fail whole) = whole
left_by (Die whole) = whole
left_by Roll = []
left_by Start = []

-- the third list has the entries of the first, those of the second, and no others, each of the two
-- in its order
pub data AreMerged : List Event → List Event → List Event → Type 0 where
  none : AreMerged [] [] []
  first : (x : Event) (xs ys zs : List Event) → AreMerged xs ys zs
      → AreMerged (xs ++ x ∷ []) ys (zs ++ x ∷ [])
  second : (y : Event) (xs ys zs : List Event) → AreMerged xs ys zs
      → AreMerged xs (ys ++ y ∷ []) (zs ++ y ∷ [])

-- the second list begins with the first
abbrev pub Begins : List Event → List Event → Type 0
Begins xs ys = (more : List Event) × (ys ≡ xs ++ more)

-- what every run keeps
pub record Keeps (opening : World) (h : History) (s : Store) : Type 0 where
  -- a process answers from the world that the events make of the opening's
  pub answered : (w : World) → Answers s.process w → replayed opening h.seen ≡ Ok w
  -- each acknowledged event is among them, in order; of each other a start found the record, which
  -- was whole when a process failed or died on the way to acknowledge it
  pub acknowledged : AreMerged h.told h.untold h.seen
  -- a start finds the world that they and those behind them make, and is not refused
  pub now : World
  pub is : replayed opening (h.seen ++ h.behind) ≡ Ok now
  pub found : Finds s.disk now
