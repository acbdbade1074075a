-- The lines of a journal, put together.
use Rattle.std.proofs.Common.{◌≡◌, ◌+◌, ℕ, List, [], ◌∷◌, ◌++◌, length, refl, sym, ap, ap₂, subst, ◌∙◌}
use Rattle.std.proofs.Common.{append_assoc, append-nil, arith, ℤ, Result, Ok, Err, OnOk}
use Rattle.std.proofs.Common.{◌⊎◌, inl, inr, ◌<◌, take, get_or, subst₂}
use Rattle.std.proofs.lemmas.Grind.{take_at_read}
use Rattle.std.proofs.lemmas.Int.{fold-int_min_bounds, fold-int_min_reached}
use Rattle.std.proofs.lemmas.Int.{fold-int_max_bounds, fold-int_max_reached}
use Rattle.std.proofs.lemmas.List.{length-take-le, map-append}
use Rattle.std.proofs.lemmas.List.Sums.{fold-append}
use Rattle.std.specs.Int.{int_min, int_max}
use Rattle.std.specs.List.{Contains, fold}
use Rattle.std.specs.Prelude.{is_ok, true, false, if◌then◌else◌, IfOk, IsErrAnd, MatchResult}
use Rattle.labels.specs.Labels.{Labels}
use Rattle.head.specs.Worlds.{Event}
use Rattle.head_record.specs.Saved.{Saved}
use Rattle.head_record.specs.Spelling.{head_texts}
use Rattle.journal.specs.Records.{file_of}
use Rattle.store_folder.specs.Codes.{read_cause}
use Rattle.store_folder.specs.Journals.{DeniesJournal, IsJournalOf}
use Rattle.store_folder.specs.Plain.{DeniesPlain, StandsAlone, begins_plain}
use Rattle.store_folder.specs.declared.error.ReadError.{ReadError as JournalFault}
use Rattle.store_folder.specs.declared.error.StartCause.{StartCause}
use Rattle.store_folder.specs.declared.error.StartCause.TheVariants as causes
use Rattle.store_folder.specs.declared.error.StartError.TheVariants as start
use Rattle.commands.specs.Faults.{read_fault, start_fault}
use Rattle.commands.specs.Listing.{IsBatchLine, IsEventLine, AreLines, batch_line, IsFileAt}
use Rattle.commands.specs.Listing.{IsListFault, IsListingFault, IsUnreadJournal, batch_start}
use Rattle.commands.specs.Listing.{batch_end, head_line, summary_line, IsListing}
use Rattle.commands.specs.Listing.{empty_batch_line, times_in, IsSeriesCount, IsSpan}
use Rattle.commands.specs.Reading.{Host}
use Rattle.commands.specs.declared.fault.Fault.{Fault}
use Rattle.commands.specs.declared.fault.Fault.TheVariants.{Words, Refused, CannotRead, CannotWrite}
use Rattle.commands.specs.declared.fault.Fault.TheVariants.{CannotWriteAt, Locked}
use Rattle.commands.specs.declared.fault.Fault.TheVariants.{CannotListen, NoListener, NoThread}
use Rattle.commands.specs.declared.fault.Fault.TheVariants.{Memory}
use Rattle.commands.specs.declared.fault.Refusal.TheVariants as refusal

-- a line more
pub lines_more : (n m : ℕ) (es : List Event) (e : Event) (lines line : List ℕ)
    → m ≡ n + length es + 1 → AreLines n es lines → IsEventLine m e line
    → AreLines n (es ++ e ∷ []) (lines ++ line)
lines_more n m [] e lines line is each one =
    let next : m ≡ n + 1 = omega (arith, is) in (
      line,
      [],
      subst (λ (k : ℕ). IsEventLine k e line) next one,
      refl,
      ap (λ (l : List ℕ). l ++ line) each ∙ sym (append-nil line),
    )
lines_more n m (x ∷ es) e lines line is each one =
    let counted : m ≡ (n + 1) + length es + 1 = omega (arith, is) in (
      each.0,
      each.1 ++ line,
      each.2,
      lines_more (n + 1) m es e each.1 line counted each.3 one,
      ap (λ (l : List ℕ). l ++ line) each.4 ∙ append_assoc each.0 each.1 line,
    )

-- what is appended is a line, if it is appended
pub line_added : {T E : Type 0} (r : Result T E) (P : List ℕ → Type 0)
    (old new line bytes : List ℕ) → P line → bytes ≡ line → OnOk r (new ≡ old ++ bytes)
    → OnOk r ((l : List ℕ) × P l × (new ≡ old ++ l))
line_added (Ok x) P old new line bytes p is h =
    (line, p, h ∙ ap (λ (b : List ℕ). old ++ b) is)
line_added (Err e) P old new line bytes p is h = tt

abbrev Taken : Type 0
Taken = Labels × (ℤ × ℤ)

-- the least and the greatest time, with one sample more
pub fold_next : (f : ℤ → ℤ → ℤ) (a : ℤ) (xs : List Taken) (i : ℕ) (x : Taken) → i < length xs
    → x ≡ get_or xs i x
    → fold f a (times_in (take (i + 1) xs)) ≡ f (fold f a (times_in (take i xs))) x.1.0
fold_next f a xs i x within is =
    ap (λ (ys : List Taken). fold f a (times_in ys))
    ((take_at_read xs i x within).1 ∙ ap (λ (y : Taken). take i xs ++ y ∷ []) (sym is))
    ∙ (ap (fold f a) (map-append (λ (y : Taken). y.1.0) (take i xs) (x ∷ []))
    ∙ fold-append f a (times_in (take i xs)) (x.1.0 ∷ []))

reached : (xs : List ℤ) (a r : ℤ) → Contains xs a → (r ≡ a) ⊎ Contains xs r → Contains xs r
reached xs a r has (inl e) = subst (Contains xs) (sym e) has
reached xs a r has (inr there) = there

pub span_of : (xs : List Taken) (a from to : ℤ) → Contains (times_in xs) a
    → from ≡ fold int_min a (times_in xs) → to ≡ fold int_max a (times_in xs) → IsSpan xs from to
span_of xs a from to has least greatest = record {
  least = (fold-int_min_bounds a (times_in xs) from least).1;
  greatest = (fold-int_max_bounds a (times_in xs) to greatest).1;
  first = reached (times_in xs) a from has (fold-int_min_reached a (times_in xs) from least);
  last = reached (times_in xs) a to has (fold-int_max_reached a (times_in xs) to greatest);
}

-- the line of a batch that has samples
some_batch : (number series : ℕ) (xs : List Taken) (from to : ℤ) (line : List ℕ)
    → (length xs ≡ 0 → ⊥) → IsSeriesCount xs series → IsSpan xs from to
    → line ≡ batch_line number (length xs) series from to → IsBatchLine number xs line
some_batch number series [] from to line some count span is = absurd (some refl)
some_batch number series (x ∷ xs) from to line some count span is =
    (series, from, to, count, span, is)

-- the line of an event that is known otherwise
pub line_of_event : {T E : Type 0} (r : Result T E) (number : ℕ) (seen event : Event)
    (old new : List ℕ) → seen ≡ event
    → OnOk r ((l : List ℕ) × IsEventLine number seen l × (new ≡ old ++ l))
    → OnOk r ((l : List ℕ) × IsEventLine number event l × (new ≡ old ++ l))
line_of_event (Ok x) number seen event old new is h =
    (h.0, subst (λ (e : Event). IsEventLine number e h.0) is h.1, h.2)
line_of_event (Err e) number seen event old new is h = tt

-- the line of a batch that has samples, where it is appended
pub batch_added : {T E : Type 0} (r : Result T E) (number : ℕ) (xs : List Taken)
    (old new : List ℕ) → (length xs ≡ 0 → ⊥)
    → OnOk r ((series : ℕ) × (from : ℤ) × (to : ℤ) × IsSeriesCount xs series × IsSpan xs from to
    × (new ≡ old ++ batch_line number (length xs) series from to))
    → OnOk r ((l : List ℕ) × IsBatchLine number xs l × (new ≡ old ++ l))
batch_added (Ok x) number xs old new some h = (
  batch_line number (length xs) h.0 h.1 h.2,
  some_batch number h.0 xs h.1 h.2 (batch_line number (length xs) h.0 h.1 h.2) some h.3 h.4 refl,
  h.5,
)
batch_added (Err e) number xs old new some h = tt

-- a file that is not listed
pub list_refused : (reads : Host) (path file : List ℕ) (fault : Fault) → IsFileAt reads path file
    → IsListingFault file fault → IsListFault reads path fault
list_refused reads path file (Refused (refusal.Start error)) found h = (file, found, h)
list_refused reads path file Memory found h = tt
list_refused reads path file (Refused (refusal.Labels error)) found h = absurd h
list_refused reads path file (Refused (refusal.Matcher error)) found h = absurd h
list_refused reads path file (Refused (refusal.Selector error)) found h = absurd h
list_refused reads path file (Refused (refusal.Query error)) found h = absurd h
list_refused reads path file (Refused (refusal.Commit error)) found h = absurd h
list_refused reads path file (Refused (refusal.Block error)) found h = absurd h
list_refused reads path file (Refused (refusal.Open error)) found h = absurd h
list_refused reads path file (Refused (refusal.Snapshot error)) found h = absurd h
list_refused reads path file (Refused refusal.WholeNumbers) found h = absurd h
list_refused reads path file (Refused refusal.NotEmpty) found h = absurd h
list_refused reads path file (Refused refusal.Unsettled) found h = absurd h
list_refused reads path file (CannotRead at) found h = absurd h
list_refused reads path file CannotWrite found h = absurd h
list_refused reads path file (CannotWriteAt at) found h = absurd h
list_refused reads path file (Locked at holder) found h = absurd h
list_refused reads path file (CannotListen port) found h = absurd h
list_refused reads path file NoListener found h = absurd h
list_refused reads path file NoThread found h = absurd h
list_refused reads path file (Words error) found h = absurd h

-- the fault of a journal that is refused, by what is wrong with its file
fault_of : (cause : StartCause) (file : List ℕ) (error : JournalFault)
    → ((begins_plain file ≡ false) × DeniesJournal file error)
    ⊎ ((begins_plain file ≡ true) × DeniesPlain file error)
    → IsListingFault file (start_fault cause (start.Journal error))
fault_of causes.Memory file error h = tt
fault_of causes.Folder file error h = tt
fault_of causes.Refused file error h = h

pub not_listed : (file : List ℕ) (error : JournalFault) (fault : Fault) → fault ≡ read_fault error
    → ((begins_plain file ≡ false) × DeniesJournal file error)
    ⊎ ((begins_plain file ≡ true) × DeniesPlain file error) → IsListingFault file fault
not_listed file error fault is h =
    subst (IsListingFault file) (sym is) (fault_of (read_cause error) file error h)

-- a journal that is not read
pub list_unread : (reads : Host) (path : List ℕ) (fault : Fault)
    → IsUnreadJournal reads path fault → IsListFault reads path fault
list_unread reads path (CannotRead file) h = h
list_unread reads path Memory h = tt
list_unread reads path (Words error) h = absurd h
list_unread reads path (Refused refusal) h = absurd h
list_unread reads path CannotWrite h = absurd h
list_unread reads path (CannotWriteAt at) h = absurd h
list_unread reads path (Locked at holder) h = absurd h
list_unread reads path (CannotListen port) h = absurd h
list_unread reads path NoListener h = absurd h
list_unread reads path NoThread h = absurd h

-- the line of a batch, of its two parts
pub parts_added : {T E : Type 0} (r : Result T E) (number series : ℕ) (xs : List Taken)
    (from to : ℤ) (old mid new start end : List ℕ) → IsSeriesCount xs series → IsSpan xs from to
    → mid ≡ old ++ start → start ≡ batch_start number (length xs) series → end ≡ batch_end from to
    → new ≡ (if is_ok r then mid ++ end else mid)
    → OnOk r ((series : ℕ) × (from : ℤ) × (to : ℤ) × IsSeriesCount xs series × IsSpan xs from to
    × (new ≡ old ++ batch_line number (length xs) series from to))
parts_added (Ok x) number series xs from to old mid new start end count span is_mid is_start is_end h = (
  series,
  from,
  to,
  count,
  span,
  h ∙ (ap (λ (m : List ℕ). m ++ end) is_mid ∙ (append_assoc old start end
      ∙ ap₂ (λ (s e : List ℕ). old ++ (s ++ e)) is_start is_end)),
)
parts_added (Err e) number series xs from to old mid new start end count span is_mid is_start is_end h = tt

-- the line of a batch without a sample
pub none_batch : (number : ℕ) (xs : List Taken) → length xs ≡ 0
    → IsBatchLine number xs (empty_batch_line number)
none_batch number [] none = refl
none_batch number (x ∷ xs) none = absurd (omega (arith, none))

-- the line of the next event
pub lines_next : (es : List Event) (i number : ℕ) (e : Event) (lines new line : List ℕ)
    → i < length es → e ≡ get_or es i e → number ≡ i → AreLines 0 (take i es) lines
    → IsEventLine (number + 1) e line → new ≡ lines ++ line → AreLines 0 (take (i + 1) es) new
lines_next es i number e lines new line within is same each one made =
    let counted : number + 1 ≡ 0 + length (take i es) + 1 =
    omega (arith, same, within, length-take-le i es (omega (arith, within))) in
    subst₂ (λ (xs : List Event) (ls : List ℕ). AreLines 0 xs ls)
    (ap (λ (x : Event). take i es ++ x ∷ []) is ∙ sym (take_at_read es i e within).1) (sym made)
    (lines_more 0 (number + 1) (take i es) e lines line counted each one)

-- the listing of a journal that begins with a head
pub summed_up : (file : List ℕ) (saved : Saved) (events : List Event) (len : ℕ)
    (lines front text : List ℕ) (is : IsJournalOf file saved events)
    → len ≡ length (file_of (head_texts saved ++ is.stands.contents)) → AreLines 0 events lines
    → front ≡ head_line saved
    → text ≡ front ++ (lines ++ summary_line (length events) len (length file))
    → IsListing file text
summed_up file saved events len lines front text is counted each head made =
    let rest = lines ++ summary_line (length events) len (length file) in
    inl (
      saved,
      events,
      is,
      (
        rest,
        record {
          lines = lines;
          each = each;
          stands = is.stands;
          is = ap (λ (n : ℕ). lines ++ summary_line (length events) n (length file)) counted;
        },
        made ∙ ap (λ (f : List ℕ). f ++ rest) head,
      ),
    )

-- the listing of a journal of events alone
pub plain_summed_up : (file : List ℕ) (events : List Event) (len : ℕ) (lines text : List ℕ)
    (stands : StandsAlone file events) → len ≡ length (file_of stands.0.contents)
    → AreLines 0 events lines → text ≡ lines ++ summary_line (length events) len (length file)
    → IsListing file text
plain_summed_up file events len lines text stands counted each made =
    inr (
      events,
      stands,
      record {
        lines = lines;
        each = each;
        stands = stands.0;
        is = made
            ∙ ap (λ (n : ℕ). lines ++ summary_line (length events) n (length file)) counted;
      },
    )

same_read : {T D : Type 0} (x y : T) (s : Result T D) → s ≡ Ok y → s ≡ Ok x → y ≡ x
same_read x y s so is = let same = sym so ∙ is in cc

-- what is said of what was read, if only its fault is told in another way
pub read_so : {T E D : Type 0} (P : T → Type 0) (r : Result T E) (s : Result T D) (x : T)
    (Q : E → D → Type 0) → MatchResult r (λ y. s ≡ Ok y) (λ e. IsErrAnd s (Q e)) → s ≡ Ok x
    → IfOk r P → P x
read_so P (Ok y) s x Q mapped is held = subst P (same_read x y s mapped is) held
read_so P (Err e) s x Q mapped is held = absurd (subst (λ t. IsErrAnd t (Q e)) is mapped)
