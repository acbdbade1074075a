-- Outputs of several inputs.
use Rattle.std.specs.Prelude.{◌≡◌, ℕ, ◌+◌, ◌-◌, ◌^◌, min, ℤ, ◌≤ℤ◌, List, [], ◌∷◌, map}
use Rattle.labels.specs.Contents.{Content}
use Rattle.labels.specs.Rows.{Row, points_of}
use Rattle.labels.specs.Parts.{laid_over}
use Rattle.prometheus_block.specs.declared.chunk.Counted.{Counted}
use Rattle.kept_samples.specs.declared.keeping.Tally.{Tally}
use Rattle.block_folder.specs.declared.values.Values.{Values}
use Rattle.block_folder.specs.Steps.{Did}
use Rattle.block_outputs.specs.declared.tiles.Stretch.{Stretch}
use Rattle.block_outputs.specs.Contents.{restricted, HoldAll}
use Rattle.block_outputs.specs.Tiles.{AreTiles}
use Rattle.block_outputs.specs.Joined.{IsJoined}
use Rattle.block_outputs.specs.Writing.{samples_in, IsStill, Writes}
use Rattle.blocktool.specs.declared.conversion.Account.{Account}
use Rattle.blocktool.specs.declared.summary.Summary.{Summary}

-- a number, up to the greatest
abbrev pub capped : ℕ → ℕ
capped n = min n (2 ^ 64 - 1)

-- how many samples lists of rows have
abbrev pub samples_in_all : List (List Row) → ℕ
samples_in_all [] = 0
samples_in_all (rows ∷ lists) = samples_in rows + samples_in_all lists

-- what an input may give of a range of times, and how counts go on
abbrev pub Gives : Type 0 → Type 1
Gives I = I → Stretch → List Row → Tally → Tally → Type 0

-- each input gives its list of rows of a range, one after another
abbrev pub AreGiven : {I : Type 0} → Gives I → List I → Stretch → List (List Row)
    → Tally → Tally → Type 0
AreGiven gives [] times [] old new = new ≡ old
AreGiven gives [] times (rows ∷ lists) old new = ⊥
AreGiven gives (input ∷ inputs) times [] old new = ⊥
AreGiven gives (input ∷ inputs) times (rows ∷ lists) old new =
    (mid : Tally) × gives input times rows old mid × AreGiven gives inputs times lists mid new

-- the rows of what inputs give of a range, in which the later input wins; what each counted is
-- told,
-- and how many samples of it are hidden by later inputs
pub record IsJoinedOf {I : Type 0} (gives : Gives I) (inputs : List I) (times : Stretch)
    (rows : List Row) (old new : Account) : Type 0 where
  pub lists : List (List Row)
  pub given : AreGiven gives inputs times lists old.tally new.tally
  pub joined : IsJoined lists rows
  pub hidden : new.hidden
      ≡ capped (old.hidden + (capped (samples_in_all lists) - capped (samples_in rows)))

-- the output of a range is written: a block with exactly the rows of what inputs give of it, none
-- where they give nothing
pub record IsConverted {I D : Type 0} (gives : Gives I) (did : D → List Did → Type 0)
    (inputs : List I) (into : List ℕ) (values : Values) (times : Stretch) (rows : List Row)
    (old new : Account) (before after : D) : Type 0 where
  pub joined : IsJoinedOf gives inputs times rows old new
  pub written : Writes did into values rows before after

-- the outputs of ranges are written, one after another
abbrev pub AreConvertedFrom : {I D : Type 0} → Gives I → (D → List Did → Type 0) → List I
    → List ℕ → Values → List Stretch → List (List Row) → Account → Account → D → D → Type 0
AreConvertedFrom gives did inputs into values [] [] old new before after =
    (new ≡ old) × IsStill did before after
AreConvertedFrom gives did inputs into values [] (rows ∷ outputs) old new before after = ⊥
AreConvertedFrom gives did inputs into values (s ∷ ss) [] old new before after = ⊥
AreConvertedFrom {I} {D} gives did inputs into values (s ∷ ss) (rows ∷ outputs) old new before
    after =
    (mid : Account) × (between : D)
    × IsConverted gives did inputs into values s rows old mid before between
    × AreConvertedFrom gives did inputs into values ss outputs mid new between after

-- no sample
abbrev pub nothing : Account
nothing = record {
  tally = record { kept = 0; rounded = 0; stale = 0; rest = 0; deleted = 0; outside = 0 };
  hidden = 0;
}

-- each input gives of each part of a range exactly what its content has in it
abbrev pub GiveContents : {I : Type 0} → Gives I → (I → Content) → ℤ → ℤ → Type 0
GiveContents {I} gives content from to =
    (input : I) (s : Stretch) → from ≤ℤ s.from → s.to ≤ℤ to
    → (rows : List Row) (old new : Tally) → gives input s rows old new
    → laid_over (points_of rows) [] ≡ restricted s.from s.to (content input)

-- the outputs of ranges, which are written one after another; where each input has a content in a
-- range and the ranges are its tiles, the outputs hold together exactly what the contents have in
-- it, in which the later input wins
pub record AreConverted {I D : Type 0} (gives : Gives I) (did : D → List Did → Type 0)
    (inputs : List I) (into : List ℕ) (values : Values) (ss : List Stretch) (account : Account)
    (before after : D) : Type 0 where
  pub outputs : List (List Row)
  pub each : AreConvertedFrom gives did inputs into values ss outputs nothing account before after
  pub whole : (content : I → Content) (from to : ℤ) → GiveContents gives content from to
      → AreTiles from to ss → HoldAll (map content inputs) from to outputs

-- what became of so many samples that were counted: each is told in exactly one count; those that
-- were rounded are among the kept and the hidden
pub record IsSummaryOf (counted : Counted) (account : Account) (s : Summary) : Type 0 where
  pub all : s.read ≡ s.kept + s.hidden + s.stale + s.rest + s.deleted + s.outside
  pub read : s.read ≡ counted.samples
  pub kept : s.kept + s.hidden ≡ account.tally.kept
  pub hidden : s.hidden ≡ account.hidden
  pub rounded : s.rounded ≡ account.tally.rounded
  pub stale : s.stale ≡ account.tally.stale
  pub rest : s.rest ≡ account.tally.rest
  pub deleted : s.deleted ≡ account.tally.deleted
  pub histograms : s.histograms ≡ counted.histograms

-- the outputs of ranges are written, and each sample that was counted is told once
pub record Makes {I D : Type 0} (gives : Gives I) (did : D → List Did → Type 0) (inputs : List I)
    (into : List ℕ) (values : Values) (ss : List Stretch) (counted : Counted) (summary : Summary)
    (before after : D) : Type 0 where
  pub account : Account
  pub converted : AreConverted gives did inputs into values ss account before after
  pub told : IsSummaryOf counted account summary
