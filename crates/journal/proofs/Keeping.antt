-- Contents more.
use Rattle.std.proofs.Common.{◌≡◌, inl, inr, ℕ, zero, suc, ◌+◌, ◌-◌, ◌<◌, ◌≤◌, Bool, leb}
use Rattle.std.proofs.Common.{List, [], ◌∷◌, ◌++◌, length, take, get_or, Vec, refl, sym, ap, subst}
use Rattle.std.proofs.Common.{◌∙◌, append_assoc, arith}
use Rattle.std.specs.declared.alloc.Global.{Global}
use Rattle.std.specs.List.{AllByRecursion}
use Rattle.std.proofs.lemmas.Bool.{cases_Bool}
use Rattle.std.proofs.lemmas.Grind.{take_at_read}
use Rattle.std.proofs.lemmas.List.{length-append, append-nil, take_all}
use Rattle.journal.specs.Contents.{contents_in}
use Rattle.journal.specs.Group.{AreRecords, HasSomeMore, IsJournalText}
use Rattle.journal.specs.Media.{MayLeave, HasAll, Keeps, LeavesOnly, IsBeforeOrAfter}
use Rattle.journal.specs.Records.{header, file_of, records_of, record_of, whole_in, IsContent}
use Rattle.journal.specs.Records.{Recovers}
use Rattle.journal.proofs.Files.{cut_recovers, kept_whole, length-file}
use Rattle.journal.proofs.Loops.{all_last, contents_last, records_append, records_one, records_nil}
use Rattle.journal.proofs.Moments.{started}

pub all_joined : (cs ds : List (List ℕ)) → AllByRecursion IsContent cs
    → AllByRecursion IsContent ds → AllByRecursion IsContent (cs ++ ds)
all_joined [] ds h i = i
all_joined (c ∷ cs) ds h i = (h.0, all_joined cs ds h.1 i)

pub file_joined : (cs ds : List (List ℕ)) → file_of cs ++ records_of ds ≡ file_of (cs ++ ds)
unfolding file_of
file_joined cs ds =
    append_assoc header (records_of cs) (records_of ds)
    ∙ ap (λ (x : List ℕ). header ++ x) (sym (records_append cs ds))

file_more : (cs : List (List ℕ)) (c : List ℕ)
    → file_of cs ++ record_of c ≡ file_of (cs ++ c ∷ [])
file_more cs c =
    ap (λ (x : List ℕ). file_of cs ++ x) (sym (records_one c)) ∙ file_joined cs (c ∷ [])

pub file_none : file_of [] ≡ header
unfolding file_of
file_none = ap (λ (x : List ℕ). header ++ x) records_nil

-- a record after records
pub record_more : (cs : List (List ℕ)) (c old new : List ℕ) → IsContent c → AreRecords cs old
    → new ≡ old ++ record_of c → AreRecords (cs ++ c ∷ []) new
record_more cs c old new one are e = record {
  each = all_last cs c are.each one;
  whole =
      e
      ∙ (ap (λ (x : List ℕ). x ++ record_of c) are.whole
      ∙ (ap (λ (x : List ℕ). records_of cs ++ x) (sym (records_one c))
      ∙ sym (records_append cs (c ∷ []))));
}

-- the record of one content, after nothing
pub one_record : (c old new text : List ℕ) → old ≡ [] → text ≡ new
    → ((cs : List (List ℕ)) → AreRecords cs old → AreRecords (cs ++ c ∷ []) new)
    → AreRecords (c ∷ []) text
one_record c old new text none is more =
    subst (AreRecords (c ∷ [])) (sym is)
    (more [] (subst (AreRecords []) (sym none) (record { each = tt; whole = sym records_nil })))

-- a whole file, as it is written one record after another

abbrev Bytes : Type 0
Bytes = Vec ℕ Global

pub text_begun : (old new : List ℕ) → old ≡ [] → new ≡ old ++ header → IsJournalText [] new
text_begun old new none e = record {
  each = tt;
  whole = e ∙ (ap (λ (x : List ℕ). x ++ header) none ∙ sym file_none);
}

pub text_more : (vs : List Bytes) (i : ℕ) (d : Bytes) (c old new : List ℕ) → i < length vs
    → c ≡ (get_or vs i d).items → IsContent c → new ≡ old ++ record_of c
    → IsJournalText (contents_in (take i vs)) old
    → IsJournalText (contents_in (take (i + 1) vs)) new
text_more vs i d c old new lt is one e so_far =
    let cs = contents_in (take i vs) in
    let v = get_or vs i d in
    let all : contents_in (take (i + 1) vs) ≡ cs ++ c ∷ [] =
    ap contents_in (take_at_read vs i d lt).1
    ∙ (contents_last (take i vs) v ∙ ap (λ (x : List ℕ). cs ++ x ∷ []) (sym is)) in
    subst (λ (x : List (List ℕ)). IsJournalText x new) (sym all) (record {
      each = all_last cs c so_far.each one;
      whole = e ∙ (ap (λ (x : List ℕ). x ++ record_of c) so_far.whole ∙ file_more cs c);
    })

pub text_whole : (vs : List Bytes) (i : ℕ) (text : List ℕ) → length vs ≤ i
    → IsJournalText (contents_in (take i vs)) text → IsJournalText (contents_in vs) text
text_whole vs i text past s =
    subst (λ (x : List Bytes). IsJournalText (contents_in x) text) (take_all i vs past) s

pub content_at : (vs : List Bytes) (i : ℕ) (d : Bytes) → i < length vs
    → AllByRecursion IsContent (contents_in vs) → IsContent (get_or vs i d).items
content_at [] i d lt h = absurd (omega (arith, lt))
content_at (v ∷ vs) zero d lt h = h.0
content_at (v ∷ vs) (suc i) d lt h = content_at vs i d (omega (arith, lt)) h.1

-- a file is a file of its contents
pub itself : (cs : List (List ℕ)) → AllByRecursion IsContent cs → Recovers (file_of cs) cs
itself cs each = record {
  rest = [];
  whole = sym (append-nil (file_of cs));
  each = each;
  ends = inl (omega arith);
}

-- a crash while all of a file is there for good leaves it
pub at_rest : (cs : List (List ℕ)) (left : List ℕ) → AllByRecursion IsContent cs
    → MayLeave (length (file_of cs)) (file_of cs) left → Recovers left cs
at_rest cs left each l =
    let same : left ≡ file_of cs = l.front ∙ take_all l.n (file_of cs) l.kept in
    subst (λ (f : List ℕ). Recovers f cs) (sym same) (itself cs each)

-- what lies whole in some bytes are the first few
whole_take : (k : ℕ) (ds : List (List ℕ)) → (n : ℕ) × (whole_in k ds ≡ take n ds)
whole_take k [] = (0, refl)
whole_take k (d ∷ ds) =
    elim (cases_Bool (leb (length d + 12) k)) [
      | inl t ↦
          let r = whole_take (k - (length d + 12)) ds in
          (suc r.0, rw t (ap (λ (x : List (List ℕ)). d ∷ x) r.1))
      | inr f ↦ (0, rw f refl)
    ]

-- during the write of some records
pub some_more : (len : ℕ) (cs ds : List (List ℕ)) (bytes left : List ℕ)
    → AllByRecursion IsContent cs → AreRecords ds bytes → len ≡ length (file_of cs)
    → MayLeave len (file_of cs ++ bytes) left → HasSomeMore cs ds left
some_more len cs ds bytes left each are e m =
    let all = cs ++ ds in
    let text : file_of cs ++ bytes ≡ file_of all =
    ap (λ (x : List ℕ). file_of cs ++ x) are.whole ∙ file_joined cs ds in
    let front : left ≡ take m.n (file_of all) = m.front ∙ ap (take m.n) text in
    let r : Recovers left (whole_in (m.n - 5) all) =
    subst (λ (f : List ℕ). Recovers f (whole_in (m.n - 5) all)) (sym front)
    (cut_recovers m.n all (all_joined cs ds each are.each)
    (omega (arith, m.kept, e, length-file cs))) in
    let few : length (records_of cs) ≤ m.n - 5 = omega (arith, m.kept, e, length-file cs) in
    let w = whole_take (m.n - 5 - length (records_of cs)) ds in (
      w.0,
      subst (λ (x : List (List ℕ)). Recovers left x)
          (kept_whole (m.n - 5) cs ds few ∙ ap (λ (x : List (List ℕ)). cs ++ x) w.1) r,
    )

-- none of them is a few of them
pub none_more : (cs ds : List (List ℕ)) (left : List ℕ) → Recovers left cs
    → HasSomeMore cs ds left
none_more cs ds left r =
    (0, subst (λ (x : List (List ℕ)). Recovers left x) (sym (append-nil cs)) r)

none : (n : ℕ) → take {A = List ℕ} n [] ≡ []
none zero = refl
none (suc n) = refl

-- a few of one are that one, or none
by_few : (few : ℕ) (cs : List (List ℕ)) (c left : List ℕ)
    → Recovers left (cs ++ take few (c ∷ [])) → IsBeforeOrAfter cs c left
by_few zero cs c left r = inl (subst (λ (x : List (List ℕ)). Recovers left x) (append-nil cs) r)
by_few (suc n) cs c left r =
    inr (subst (λ (x : List (List ℕ)). Recovers left (cs ++ c ∷ x)) (none n) r)

pub one_or_none : (cs : List (List ℕ)) (c left : List ℕ) → HasSomeMore cs (c ∷ []) left
    → IsBeforeOrAfter cs c left
one_or_none cs c left h = by_few h.0 cs c left h.1

module _ {M : Type 0} (shows : M → List ℕ → Type 0) (kept : M → ℕ → Type 0) (sound : M → Bool) where
  pub keeps_some : (new : M) (len more : ℕ) (cs ds : List (List ℕ)) (bytes : List ℕ)
      → AreRecords ds bytes → more ≡ length bytes → AllByRecursion IsContent cs
      → len ≡ length (file_of cs) → HasAll shows kept sound (file_of cs ++ bytes) new
      → Keeps shows kept sound (cs ++ ds) new (len + more)
  keeps_some new len more cs ds bytes are size each e h =
      let text : file_of cs ++ bytes ≡ file_of (cs ++ ds) =
      ap (λ (x : List ℕ). file_of cs ++ x) are.whole ∙ file_joined cs ds in
      record {
        each = all_joined cs ds each are.each;
        has = subst (λ (x : List ℕ). HasAll shows kept sound x new) text h;
        counted = omega (arith, e, size, ap length text, length-append (file_of cs) bytes);
      }

  pub keeps_none : (m : M) → HasAll shows kept sound header m → Keeps shows kept sound [] m 5
  keeps_none m h = record {
    each = tt;
    has = subst (λ (x : List ℕ). HasAll shows kept sound x m) (sym file_none) h;
    counted = omega (arith, ap length file_none);
  }

module _ {M : Type 0} (shows : M → List ℕ → Type 0) (kept : M → ℕ → Type 0) (sound : M
    → Bool) (moment : M → ℕ) (left_since : M → ℕ → List ℕ → Type 0)
    (only_now : (m : M) (bytes : List ℕ) (n : ℕ) (left : List ℕ) → shows m bytes → kept m n
    → left_since m (moment m) left → MayLeave n bytes left) where
  -- where nothing was written
  pub untouched : (m : M) (len : ℕ) (cs : List (List ℕ)) (P : List ℕ → Type 0)
      → ((left : List ℕ) → Recovers left cs → P left) → Keeps shows kept sound cs m len
      → LeavesOnly moment left_since m m P
  untouched m len cs P same k =
      started moment left_since m P (λ left had. same left (at_rest cs left k.each
      (only_now m (file_of cs) (length (file_of cs)) left k.has.all k.has.durable had)))
