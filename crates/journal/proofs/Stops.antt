-- Why no record stands in front.
use Rattle.std.proofs.Common.{◌≡◌, ◌≢◌, inl, inr, ℕ, ◌+◌, ◌^◌, ◌<◌, ◌≤◌, true, false}
use Rattle.std.proofs.Common.{eqb, List, [], ◌∷◌, ◌++◌, length, take, drop, Result, Ok, Err, refl}
use Rattle.std.proofs.Common.{sym, ap, subst, ◌∙◌, arith}
use Rattle.std.proofs.lemmas.Bool.{lt-ltb, eqb-true, false_from_ne_true, cases_lt, cases_eq}
use Rattle.std.proofs.lemmas.List.{length-append, take-append-drop, length-take-le, take_at}
use Rattle.std.proofs.lemmas.List.{drop_at}
use Rattle.byteorder.specs.Endian.{big_bytes}
use Rattle.wire.specs.Spelling.{IsBytes}
use Rattle.wire.specs.Reading.{bytes_at, number_at}
use Rattle.wire.specs.Checksum.{crc32c}
use Rattle.wire.proofs.ChecksumBound.{crc32c_below}
use Rattle.wire.proofs.Fields.{IsBytes-front, IsBytes-back, bytes_again}
use Rattle.wire.proofs.Steps.{rest_fits}
use Rattle.journal.specs.declared.record.Stop.{Stop}
use Rattle.journal.specs.declared.record.Stop.TheVariants.{Torn, Checksum, Length}
use Rattle.journal.specs.Records.{is_length, length_text, record_of}
use Rattle.journal.specs.Records.{IsContent, IsCutShort, HasWrongSum, IsTorn, IsDamaged}
use Rattle.journal.specs.Records.{HasBadLength}
use Rattle.journal.specs.Reading.{length_at, sum_stop, record_at}
use Rattle.journal.proofs.Lengths.{LengthFront, stands, none, wrong, length_front, length_again}
use Rattle.journal.proofs.Lengths.{few_stop, blank_stop, bad_stop, number_in, one_number}
use Rattle.journal.proofs.OneRecord.{after_length, after_content, after_sum, parts, record_again}

-- what reading a record gives, by what reading its parts gives
no_length : (bytes : List ℕ) (s : Stop) → length_at bytes ≡ Err s → record_at bytes ≡ Err s
unfolding record_at
no_length bytes s h = rw h refl

at_length : (bytes : List ℕ) (n : ℕ) (behind : List ℕ) → length_at bytes ≡ Ok (n, behind)
    → record_at bytes ≡ after_length (n, behind)
unfolding record_at
at_length bytes n behind h = rw h refl

no_content : (n : ℕ) (behind : List ℕ) → length behind < n → after_length (n, behind) ≡ Err Torn
no_content n behind lt = rw (lt-ltb (length behind) n lt) refl

at_content : (n : ℕ) (content behind : List ℕ) → length content ≡ n
    → after_length (n, content ++ behind) ≡ after_content (content, behind)
at_content n content behind e =
    let two : bytes_at n (content ++ behind) ≡ Ok (content, behind) =
    ap (λ (m : ℕ). bytes_at m (content ++ behind)) (sym e) ∙ bytes_again content behind in
    rw two refl

no_sum : (content behind : List ℕ) → length behind < 4 → after_content (content, behind) ≡ Err Torn
no_sum content behind lt = rw (lt-ltb (length behind) 4 lt) refl

at_sum : (content behind : List ℕ) (s : ℕ) (after : List ℕ) → number_at 4 behind ≡ Ok (s, after)
    → after_content (content, behind) ≡ after_sum content (s, after)
at_sum content behind s after h = rw h refl

bad_sum : (content : List ℕ) (s : ℕ) (after : List ℕ) → eqb s (crc32c content) ≡ false
    → after_sum content (s, after) ≡ Err (sum_stop after)
bad_sum content s after h = rw h refl

-- a record that is cut short
cut_short : (n : ℕ) (behind : List ℕ) → length behind < n + 4 → after_length (n, behind) ≡ Err Torn
cut_short n behind short =
    elim (cases_lt (length behind) n) [
      | inl lt ↦ no_content n behind lt
      | inr le ↦
          let content = take n behind in
          let rest = drop n behind in
          let split : behind ≡ content ++ rest = sym (take-append-drop n behind) in
          let long : length content ≡ n = length-take-le n behind le in
          let few : length rest < 4 = omega (arith, ap length split, length-append content rest) in
          ap (λ (x : List ℕ). after_length (n, x)) split
          ∙ (at_content n content rest long ∙ no_sum content rest few)
    ]

-- what stands in front
pub data Front (bytes : List ℕ) : Type 0 where
  whole : (content after : List ℕ) → IsContent content → bytes ≡ record_of content ++ after
      → Front bytes
  torn : IsTorn bytes → record_at bytes ≡ Err Torn → Front bytes
  damaged : IsDamaged bytes → record_at bytes ≡ Err Checksum → Front bytes
  bad : HasBadLength bytes → record_at bytes ≡ Err Length → Front bytes

unequal : (m n : ℕ) → m ≢ n → eqb m n ≡ false
unequal m n e = false_from_ne_true (eqb m n) (λ t. e (eqb-true m n t))

by_after : (bytes after : List ℕ) → HasWrongSum bytes after
    → record_at bytes ≡ Err (sum_stop after) → Front bytes
by_after bytes [] w h = torn (inr (inr (inl w))) h
by_after bytes (b ∷ after) w h = damaged (record { after = b ∷ after; more = omega arith; wrong = w }) h

by_sum : (bytes content : List ℕ) (after : List ℕ) (s : ℕ) → IsBytes content
    → is_length (length content) ≡ true
    → s < 2 ^ 32
    → bytes ≡ length_text (length content) ++ (content ++ (big_bytes 4 s ++ after))
    → record_at bytes ≡ after_sum content (s, after) → Front bytes
by_sum bytes content after s fits sized s_lt text h =
    elim (cases_eq s (crc32c content)) [
      | inl e ↦
          whole content after (record { bytes = fits; sized = sized })
          (text
          ∙ (ap (λ (m : ℕ). length_text (length content) ++ (content ++ (big_bytes 4 m ++ after))) e
          ∙ sym (parts content after)))
      | inr e ↦
          by_after bytes after (record {
            content = content;
            sum = big_bytes 4 s;
            sized = sized;
            four = refl;
            wrong = λ same. e (one_number s (crc32c content) s_lt (crc32c_below content fits) same);
            parts = text;
          }) (h ∙ bad_sum content s after (unequal s (crc32c content) e))
    ]

by_length : (bytes behind : List ℕ) (n : ℕ) → is_length n ≡ true → IsBytes behind
    → bytes ≡ length_text n ++ behind → record_at bytes ≡ after_length (n, behind) → Front bytes
by_length bytes behind n sized fits text h =
    elim (cases_lt (length behind) (n + 4)) [
      | inl short ↦
          torn (inr (inl (record { len = n; part = behind; sized = sized; parts = text; short = short })))
          (h ∙ cut_short n behind short)
      | inr le ↦
          let content = take n behind in
          let rest = drop n behind in
          let split : behind ≡ content ++ rest = sym (take-append-drop n behind) in
          let long : length content ≡ n = length-take-le n behind (omega arith) in
          let rest_long : 4 ≤ length rest =
          omega (arith, ap length split, length-append content rest) in
          let rest_bytes = rest_fits behind content rest fits split in
          let content_bytes = IsBytes-front content rest (subst IsBytes split fits) in
          let s = number_in rest rest_bytes rest_long in
          by_sum bytes content s.behind s.n content_bytes (ap is_length long ∙ sized) s.small
          (text
          ∙ (ap (λ (m : ℕ). length_text m ++ behind) (sym long)
          ∙ ap (λ (x : List ℕ). length_text (length content) ++ x)
          (split ∙ ap (λ (x : List ℕ). content ++ x) s.text)))
          (h
          ∙ (ap (λ (x : List ℕ). after_length (n, x)) split
          ∙ (at_content n content rest long
          ∙ at_sum content rest s.n s.behind s.read)))
    ]

pub front : (bytes : List ℕ) → IsBytes bytes → Front bytes
front bytes fits = by_front (length_front bytes fits)
  where
    by_front : LengthFront bytes → Front bytes
    by_front (stands n behind sized text behind_fits read) =
        by_length bytes behind n sized behind_fits text (at_length bytes n behind read)
    by_front (none (inl few) e) = torn (inl few) (no_length bytes Torn e)
    by_front (none (inr blank) e) = torn (inr (inr (inr blank))) (no_length bytes Torn e)
    by_front (wrong b e) = bad b (no_length bytes Length e)

-- and what stands there says why

wrong_stops : (bytes after : List ℕ) → IsBytes bytes → HasWrongSum bytes after
    → record_at bytes ≡ Err (sum_stop after)
wrong_stops bytes after fits w =
    let tail = w.sum ++ after in
    let n = length w.content in
    let behind_fits : IsBytes (w.content ++ tail) =
    rest_fits bytes (length_text n) (w.content ++ tail) fits w.parts in
    let tail_fits : IsBytes tail = IsBytes-back w.content tail behind_fits in
    let s = number_in tail tail_fits (omega (arith, length-append w.sum after, w.four)) in
    let sum : w.sum ≡ big_bytes 4 s.n =
    sym (take_at w.sum after 4 w.four)
    ∙ (ap (take 4) s.text ∙ take_at (big_bytes 4 s.n) s.behind 4 refl) in
    let rest : s.behind ≡ after =
    sym (drop_at (big_bytes 4 s.n) s.behind 4 refl)
    ∙ (ap (drop 4) (sym s.text) ∙ drop_at w.sum after 4 w.four) in
    let no : eqb s.n (crc32c w.content) ≡ false =
    unequal s.n (crc32c w.content) (λ e. w.wrong (sum ∙ ap (big_bytes 4) e)) in
    let one : length_at bytes ≡ Ok (n, w.content ++ tail) =
    ap length_at w.parts ∙ length_again n (w.content ++ tail) w.sized in
    at_length bytes n (w.content ++ tail) one
    ∙ (at_content n w.content tail refl
    ∙ (at_sum w.content tail s.n s.behind s.read
    ∙ (bad_sum w.content s.n s.behind no
    ∙ ap (λ (x : List ℕ). Err (sum_stop x)) rest)))

cut_stops : (bytes : List ℕ) → IsCutShort bytes → record_at bytes ≡ Err Torn
cut_stops bytes c =
    at_length bytes c.len c.part (ap length_at c.parts ∙ length_again c.len c.part c.sized)
    ∙ cut_short c.len c.part c.short

pub torn_stops : (bytes : List ℕ) → IsBytes bytes → IsTorn bytes → record_at bytes ≡ Err Torn
torn_stops bytes fits (inl lt) = no_length bytes Torn (few_stop bytes fits lt)
torn_stops bytes fits (inr (inl cut)) = cut_stops bytes cut
torn_stops bytes fits (inr (inr (inl w))) = wrong_stops bytes [] fits w
torn_stops bytes fits (inr (inr (inr blank))) = no_length bytes Torn (blank_stop bytes fits blank)

more_after : (after : List ℕ) → 0 < length after → sum_stop after ≡ Checksum
more_after [] lt = absurd (omega arith)
more_after (b ∷ after) lt = refl

pub damage_stops : (bytes : List ℕ) → IsBytes bytes → IsDamaged bytes
    → record_at bytes ≡ Err Checksum
damage_stops bytes fits d =
    wrong_stops bytes d.after fits d.wrong
    ∙ ap (λ (s : Stop). Err s) (more_after d.after d.more)

pub bad_stops : (bytes : List ℕ) → IsBytes bytes → HasBadLength bytes → record_at bytes ≡ Err Length
bad_stops bytes fits b = no_length bytes Length (bad_stop bytes fits b)

abbrev stopped : Stop → Result (List ℕ × List ℕ) Stop
stopped s = Err s

not_whole : (content after : List ℕ) (s : Stop) (bytes : List ℕ) → IsContent content
    → bytes ≡ record_of content ++ after → record_at bytes ≡ Err s → ⊥
not_whole content after s bytes h text e =
    let a : stopped s ≡ Ok (content, after) =
    sym e ∙ (ap record_at text ∙ record_again content after h) in
    cc

pub stop_torn : (bytes : List ℕ) → IsBytes bytes → record_at bytes ≡ Err Torn → IsTorn bytes
stop_torn bytes fits e = by_torn (front bytes fits)
  where
    by_torn : Front bytes → IsTorn bytes
    by_torn (whole content after h text) = absurd (not_whole content after Torn bytes h text e)
    by_torn (torn t h) = t
    by_torn (damaged d h) = absurd (let a : stopped Torn ≡ Err Checksum = sym e ∙ h in cc)
    by_torn (bad b h) = absurd (let a : stopped Torn ≡ Err Length = sym e ∙ h in cc)

pub stop_damaged : (bytes : List ℕ) → IsBytes bytes → record_at bytes ≡ Err Checksum
    → IsDamaged bytes
stop_damaged bytes fits e = by_damaged (front bytes fits)
  where
    by_damaged : Front bytes → IsDamaged bytes
    by_damaged (whole content after h text) = absurd (not_whole content after Checksum bytes h text e)
    by_damaged (torn t h) = absurd (let a : stopped Checksum ≡ Err Torn = sym e ∙ h in cc)
    by_damaged (damaged d h) = d
    by_damaged (bad b h) = absurd (let a : stopped Checksum ≡ Err Length = sym e ∙ h in cc)

pub stop_bad : (bytes : List ℕ) → IsBytes bytes → record_at bytes ≡ Err Length → HasBadLength bytes
stop_bad bytes fits e = by_bad (front bytes fits)
  where
    by_bad : Front bytes → HasBadLength bytes
    by_bad (whole content after h text) = absurd (not_whole content after Length bytes h text e)
    by_bad (torn t h) = absurd (let a : stopped Length ≡ Err Torn = sym e ∙ h in cc)
    by_bad (damaged d h) = absurd (let a : stopped Length ≡ Err Checksum = sym e ∙ h in cc)
    by_bad (bad b h) = b
