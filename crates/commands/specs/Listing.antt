-- What `journal` lists of a journal.
use Rattle.std.specs.Prelude.{◌≡◌, ◌⊎◌, ℕ, ◌+◌, ◌-◌, ℤ, List, [], ◌∷◌, ◌++◌, Option, None, length}
use Rattle.std.specs.Prelude.{false, true}
use Rattle.std.specs.Prelude.{codes, decimal, map, min, string_bytes, sum, ◌^◌}
use Rattle.std.specs.Fmt.{signed_decimal}
use Rattle.std.specs.Int.Signed.{◌≤ℤ◌}
use Rattle.std.specs.Io.KnownBytes.{Appends}
use Rattle.std.specs.List.{All, Contains}
use Rattle.block_writer.specs.InUse.{HoldsEachOnce}
use Rattle.labels.specs.Labels.{Labels, labels_cmp}
use Rattle.matchers.specs.Grammar.{op_text, written}
use Rattle.matchers.specs.Views.{MatcherView}
use Rattle.head.specs.Worlds.{Event, batch, deletion, cut, joined}
use Rattle.head.specs.Heads.{HeadSeries}
use Rattle.head_record.specs.Saved.{Saved}
use Rattle.head_record.specs.Spelling.{head_texts}
use Rattle.journal.specs.Records.{file_of}
use Rattle.event_journal.specs.Holding.{Stands}
use Rattle.store_folder.specs.Journals.{DeniesJournal, IsJournalOf}
use Rattle.store_folder.specs.Plain.{DeniesPlain, StandsAlone, begins_plain}
use Rattle.store_folder.specs.declared.error.StartError.TheVariants as start
use Rattle.commands.specs.Keeping.{path_in}
use Rattle.commands.specs.Reading.{Host, AreFirstBytes}
use Rattle.commands.specs.declared.fault.Fault.{Fault}
use Rattle.commands.specs.declared.fault.Fault.TheVariants.{Refused, CannotRead, CannotWrite}
use Rattle.commands.specs.declared.fault.Fault.TheVariants.{Memory}
use Rattle.commands.specs.declared.fault.Refusal.TheVariants.{Start}

-- a matcher, as a selector writes it
abbrev pub matcher_text : MatcherView → List ℕ
matcher_text m = m.name ++ (op_text m.op ++ (34 ∷ (written m.text ++ 34 ∷ [])))

-- further matchers, each after a comma
abbrev pub further_text : List MatcherView → List ℕ
further_text [] = []
further_text (m ∷ ms) = 44 ∷ (matcher_text m ++ further_text ms)

abbrev pub inner_text : List MatcherView → List ℕ
inner_text [] = []
inner_text (m ∷ ms) = matcher_text m ++ further_text ms

-- matchers in braces
abbrev pub matchers_text : List MatcherView → List ℕ
matchers_text ms = 123 ∷ (inner_text ms ++ 125 ∷ [])

-- the line of a batch: how many samples it has, of how many series, from a time to a time
abbrev pub batch_start : ℕ → ℕ → ℕ → List ℕ
batch_start number count series =
    decimal number ++ (codes " batch " ++ (decimal count ++ (codes " samples of "
    ++ (decimal series ++ codes " series, "))))

abbrev pub batch_end : ℤ → ℤ → List ℕ
batch_end from to =
    signed_decimal from ++ (codes " to " ++ (signed_decimal to ++ codes "\n"))

abbrev pub batch_line : ℕ → ℕ → ℕ → ℤ → ℤ → List ℕ
batch_line number count series from to = batch_start number count series ++ batch_end from to

-- the line of a batch without a sample
abbrev pub empty_batch_line : ℕ → List ℕ
empty_batch_line number = decimal number ++ codes " batch 0 samples\n"

-- how many label sets the samples have, each counted once
abbrev pub IsSeriesCount : List (Labels × (ℤ × ℤ)) → ℕ → Type 0
IsSeriesCount xs n =
    (sets : List Labels) × HoldsEachOnce labels_cmp (map (λ (x : Labels × (ℤ × ℤ)). x.0) xs) sets
    × (n ≡ length sets)

abbrev pub times_in : List (Labels × (ℤ × ℤ)) → List ℤ
times_in xs = map (λ (x : Labels × (ℤ × ℤ)). x.1.0) xs

-- the least and the greatest time of the samples
pub record IsSpan (xs : List (Labels × (ℤ × ℤ))) (from to : ℤ) : Type 0 where
  pub least : All (λ t. from ≤ℤ t) (times_in xs)
  pub greatest : All (λ t. t ≤ℤ to) (times_in xs)
  pub first : Contains (times_in xs) from
  pub last : Contains (times_in xs) to

-- the line of a batch of these samples
abbrev pub IsBatchLine : ℕ → List (Labels × (ℤ × ℤ)) → List ℕ → Type 0
IsBatchLine number [] line = line ≡ empty_batch_line number
IsBatchLine number (x ∷ xs) line =
    (series : ℕ) × (from : ℤ) × (to : ℤ) × IsSeriesCount (x ∷ xs) series
    × IsSpan (x ∷ xs) from to × (line ≡ batch_line number (length (x ∷ xs)) series from to)

-- the line of a deletion: its matchers, from a time to a time
abbrev pub deletion_start : ℕ → List ℕ
deletion_start number = decimal number ++ codes " deletion "

abbrev pub deletion_end : ℤ → ℤ → List ℕ
deletion_end from to =
    codes " " ++ (signed_decimal from ++ (codes " to " ++ (signed_decimal to ++ codes "\n")))

abbrev pub deletion_line : ℕ → List MatcherView → ℤ → ℤ → List ℕ
deletion_line number ms from to =
    deletion_start number ++ (matchers_text ms ++ deletion_end from to)

-- the line of a cut
abbrev pub cut_line : ℕ → ℤ → List ℕ
cut_line number at =
    decimal number ++ (codes " cut at " ++ (signed_decimal at ++ codes "\n"))

-- the line of an event with its number; a join has none, and no journal has one
abbrev pub IsEventLine : ℕ → Event → List ℕ → Type 0
IsEventLine number (batch xs) line = IsBatchLine number xs line
IsEventLine number (deletion ms from to) line = line ≡ deletion_line number ms from to
IsEventLine number (cut t) line = line ≡ cut_line number t
IsEventLine number (joined at count made) line = ⊥

-- the lines of events, in their order, that are numbered after a number
abbrev pub AreLines : ℕ → List Event → List ℕ → Type 0
AreLines n [] lines = lines ≡ []
AreLines n (e ∷ es) lines =
    (line rest : List ℕ) × IsEventLine (n + 1) e line × AreLines (n + 1) es rest
    × (lines ≡ line ++ rest)

-- how many events there are, how many bytes they take, and how many stand behind them
abbrev pub summary_line : ℕ → ℕ → ℕ → List ℕ
summary_line count len size =
    decimal count ++ (codes " events, " ++ (decimal len ++ (codes " bytes, "
    ++ (decimal (size - len) ++ codes " bytes of a torn record\n"))))

-- the bytes are those of the file at a path, or of the journal in the folder that stands there
abbrev pub IsFileAt : Host → List ℕ → List ℕ → Type 0
IsFileAt reads path bytes =
    AreFirstBytes reads (path_in path (codes "journal")) 4611686018427387904 bytes
    ⊎ AreFirstBytes reads path 4611686018427387904 bytes

-- nothing can be read at a path, or memory failed
abbrev pub IsUnreadFile : Host → List ℕ → Fault → Type 0
IsUnreadFile reads path (CannotRead file) = (string_bytes file ≡ path) × reads path None
IsUnreadFile reads path Memory = Unit {0}
IsUnreadFile reads path other = ⊥

-- nothing can be read at a path, nor a journal in a folder there; or memory failed
abbrev pub IsUnreadJournal : Host → List ℕ → Fault → Type 0
IsUnreadJournal reads path (CannotRead file) =
    (string_bytes file ≡ path) × reads path None × reads (path_in path (codes "journal")) None
IsUnreadJournal reads path Memory = Unit {0}
IsUnreadJournal reads path other = ⊥

-- how many samples the series of a head have; a sum above 2^64 - 1 is that number
abbrev pub saved_samples : List HeadSeries → ℕ
saved_samples series = min (sum (map (λ (h : HeadSeries). length h.samples) series)) (2 ^ 64 - 1)

-- the line of a head: its floor, and how many blocks, series and samples it has
abbrev pub head_start : ℤ → ℕ → List ℕ
head_start floor blocks =
    codes "head: floor " ++ (signed_decimal floor ++ (codes ", "
    ++ (decimal blocks ++ codes " blocks, ")))

abbrev pub head_end : ℕ → ℕ → List ℕ
head_end series samples =
    decimal series ++ (codes " series, " ++ (decimal samples ++ codes " samples\n"))

abbrev pub head_line : Saved → List ℕ
head_line saved =
    head_start saved.floor (length saved.places)
    ++ head_end (length saved.head) (saved_samples saved.head)

-- the lines of these events behind these contents, and the line that sums the file up
pub record AreEventLines (front : List (List ℕ)) (file text : List ℕ) (events : List Event)
    : Type 0 where
  pub lines : List ℕ
  pub each : AreLines 0 events lines
  pub stands : Stands front file events
  pub is : text
      ≡ lines ++ summary_line (length events) (length (file_of (front ++ stands.contents)))
      (length file)

-- the text lists what a file stands for: a head and the events after it, or events alone, of which
-- there are some
abbrev pub IsListing : List ℕ → List ℕ → Type 0
IsListing file text =
    ((saved : Saved) × (events : List Event) × IsJournalOf file saved events
    × ((rest : List ℕ) × AreEventLines (head_texts saved) file rest events
    × (text ≡ head_line saved ++ rest)))
    ⊎ ((events : List Event) × StandsAlone file events × AreEventLines [] file text events)

-- what a file stands for was listed
pub record IsListed (reads : Host) (path : List ℕ) (old new : Option (List ℕ)) : Type 0 where
  pub file : List ℕ
  pub found : IsFileAt reads path file
  pub text : List ℕ
  pub listing : IsListing file text
  pub written : Appends old new text

-- a file is not listed: it is refused by the first check that fails, or memory failed
abbrev pub IsListingFault : List ℕ → Fault → Type 0
IsListingFault file (Refused (Start (start.Journal error))) =
    ((begins_plain file ≡ false) × DeniesJournal file error)
    ⊎ ((begins_plain file ≡ true) × DeniesPlain file error)
IsListingFault file Memory = Unit {0}
IsListingFault file other = ⊥

-- why a journal is not listed: it can't be read, it is refused by the first check that fails, or
-- memory or the writer failed
abbrev pub IsListFault : Host → List ℕ → Fault → Type 0
IsListFault reads path (CannotRead file) = IsUnreadJournal reads path (CannotRead file)
IsListFault reads path (Refused (Start error)) =
    (file : List ℕ) × IsFileAt reads path file × IsListingFault file (Refused (Start error))
IsListFault reads path CannotWrite = Unit {0}
IsListFault reads path Memory = Unit {0}
IsListFault reads path other = ⊥
