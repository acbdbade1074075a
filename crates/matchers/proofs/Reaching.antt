-- How the machine goes on, character by character, and where it stops.
use Rattle.std.proofs.Common.{◌≡◌, ℕ, ◌+◌, ◌-◌, ◌<◌, ◌≤◌, false, ◌||◌, ◌==◌, ◌⊎◌, inl, inr, List, [], ◌∷◌, ◌++◌, length, take, Option, None, Some, option_map, codes, refl, sym, ap, subst, ◌∙◌, append_assoc, append-nil, arith, length-append, suc, ltb}
use Rattle.std.specs.Prelude.{encode_utf8}
use Rattle.std.proofs.lemmas.Str.{encode_ascii}
use Rattle.std.proofs.lemmas.Bool.Decides.{nat_tests}
use Rattle.std.proofs.Math.Seq.{take-append-add, take-append_seam}
use Rattle.regex_hir.proofs.Utf8Lemmas.{encode_two, encode_three, encode_four}
use Rattle.labels.specs.Names.{starts_name, continues_name}
use Rattle.matchers.specs.declared.matcher.Op.{Op}
use Rattle.matchers.specs.declared.matcher.Op.TheVariants as op
use Rattle.matchers.specs.declared.scanner.State.{State}
use Rattle.matchers.specs.declared.scanner.State.TheVariants.{Start, Metric, AfterMetric, Open, Comma, Label, AfterLabel, Equals, Bang, BeforeText, Text, Escape, AfterText, End}
use Rattle.matchers.specs.declared.scanner.Mark.{Mark}
use Rattle.matchers.specs.declared.scanner.Mark.TheVariants as mark
use Rattle.matchers.specs.Grammar.{is_space, starts_metric, continues_metric, IsSelector, BeginsSelector, IsNoSelector, HasOneReading}
use Rattle.matchers.specs.Scanner.{Move, step, end_mark, marked, reads, Progress, nothing_read, taken, begun_by, forward, Reached, ReadUpTo}
use Rattle.matchers.specs.Views.{MatcherView}
use Rattle.matchers.proofs.Branches.{cond_false, by_cases, never, same_some}
use Rattle.matchers.proofs.Residues.{read_on, move}
use Rattle.matchers.proofs.Sound.{sound}
use Rattle.matchers.proofs.Complete.{complete}

-- one character

reads_step : (s : State) (b : ℕ) (bs : List ℕ) (o : Move) → step s b ≡ o → reads (b ∷ bs) s ≡ read_on b bs o
unfolding reads
reads_step s b bs o e = let P : Move → Type 0 = λ x. reads (b ∷ bs) s ≡ read_on b bs x in subst P e refl

forward_taken : (m : Mark) (b : ℕ) (p : Progress) (ms : List MatcherView) → forward (taken m (b ∷ []) p) ms ≡ forward p (marked b m ms)
forward_taken mark.Skip b p ms = refl
forward_taken mark.Name b p [] = refl
forward_taken mark.Name b p (m ∷ ms) = rw (append_assoc p.name (b ∷ []) m.name) refl
forward_taken mark.Text b p [] = refl
forward_taken mark.Text b p (m ∷ ms) = rw (append_assoc p.text (b ∷ []) m.text) refl
forward_taken mark.LineFeed b p [] = refl
forward_taken mark.LineFeed b p (m ∷ ms) = rw (append_assoc p.text (10 ∷ []) m.text) refl
forward_taken mark.Metric b p ms = closes op.Equal (p.name ++ codes "__name__") p.text p.done ms ∙ sym (ends_metric p ms)
  where
    ends_metric : (p : Progress) (ms : List MatcherView) → forward p (marked b mark.Metric ms) ≡ p.done ++ record { name = p.name ++ codes "__name__"; op = op.Equal; text = p.text } ∷ ms
    ends_metric p ms = rw (append-nil p.text) refl

    closes : (op : Op) (name text : List ℕ) (done ms : List MatcherView) → (done ++ record { name = name; op = op; text = text } ∷ []) ++ begun_by [] [] ms ≡ done ++ record { name = name; op = op; text = text } ∷ ms
    closes op name text done [] = append-nil _
    closes op name text done (m ∷ ms) = append_assoc done _ (m ∷ ms)
forward_taken (mark.Matcher op) b p ms = closes op p.name p.text p.done ms ∙ sym (ends_matcher p ms)
  where
    ends_matcher : (p : Progress) (ms : List MatcherView) → forward p (marked b (mark.Matcher op) ms) ≡ p.done ++ record { name = p.name; op = op; text = p.text } ∷ ms
    ends_matcher p ms = rw (append-nil p.name, append-nil p.text) refl

    closes : (op : Op) (name text : List ℕ) (done ms : List MatcherView) → (done ++ record { name = name; op = op; text = text } ∷ []) ++ begun_by [] [] ms ≡ done ++ record { name = name; op = op; text = text } ∷ ms
    closes op name text done [] = append-nil _
    closes op name text done (m ∷ ms) = append_assoc done _ (m ∷ ms)

map_taken : (m : Mark) (b : ℕ) (p : Progress) (o : Option (List MatcherView)) →
    option_map (forward p) (option_map (marked b m) o) ≡ option_map (forward (taken m (b ∷ []) p)) o
map_taken m b p None = refl
map_taken m b p (Some ms) = ap Some (sym (forward_taken m b p ms))

begun_by_nothing : (ms : List MatcherView) → begun_by [] [] ms ≡ ms
begun_by_nothing [] = refl
begun_by_nothing (m ∷ ms) = refl

map_nothing : (o : Option (List MatcherView)) → o ≡ option_map (forward nothing_read) o
map_nothing None = refl
map_nothing (Some ms) = ap Some (sym (begun_by_nothing ms))

pub starts : (text : List ℕ) → ReadUpTo text text Start nothing_read 0
starts text = record { front = []; whole = refl; place = refl; reached = record { each = λ more. map_nothing (reads more Start) } }

by_byte : (front : List ℕ) (s next : State) (m : Mark) (b : ℕ) (p : Progress) → Reached front s p → step s b ≡ Some (move next m) →
    Reached (front ++ b ∷ []) next (taken m (b ∷ []) p)
by_byte front s next m b p r e = record {
  each = λ more. ap (λ x. reads x Start) (append_assoc front (b ∷ []) more) ∙ r.each (b ∷ more)
      ∙ ap (option_map (forward p)) (reads_step s b more (Some (move next m)) e) ∙ map_taken m b p (reads more next);
}

-- a character of several bytes

abbrev AreWide : List ℕ → Type 0
AreWide [] = Unit {0}
AreWide (b ∷ bs) = (128 ≤ b) × AreWide bs

wide_space : (c : ℕ) → 128 ≤ c → is_space c ≡ false
wide_space c h = grind (arith, nat_tests)

wide_begin : (c : ℕ) → 128 ≤ c → starts_name c ≡ false
wide_begin c h = grind (arith, nat_tests)

wide_follow : (c : ℕ) → 128 ≤ c → continues_name c ≡ false
wide_follow c h = grind (arith, nat_tests)

wide_begin_metric : (c : ℕ) → 128 ≤ c → starts_metric c ≡ false
wide_begin_metric c h = grind (arith, nat_tests)

wide_follow_metric : (c : ℕ) → 128 ≤ c → continues_metric c ≡ false
wide_follow_metric c h = grind (arith, nat_tests)

wide_other : (c k : ℕ) → 128 ≤ c → k < 128 → (c == k) ≡ false
wide_other c k h l = grind (arith, nat_tests)

-- a byte or a character past ASCII may come in a quoted text alone
abbrev StopsOrStays : State → ℕ → Type 0
StopsOrStays s c = (step s c ≡ None) ⊎ ((o : Op) × (s ≡ Text o))

wide : (s : State) (c : ℕ) → 128 ≤ c → StopsOrStays s c
unfolding step
wide Start c h = inl (cond_false _ _ _ (wide_space c h) ∙ cond_false _ _ _ (wide_begin_metric c h) ∙ cond_false _ _ _ (wide_other c 123 h (omega arith)))
wide Metric c h = inl (cond_false _ _ _ (wide_follow_metric c h) ∙ cond_false _ _ _ (wide_space c h) ∙ cond_false _ _ _ (wide_other c 123 h (omega arith)))
wide AfterMetric c h = inl (cond_false _ _ _ (wide_space c h) ∙ cond_false _ _ _ (wide_other c 123 h (omega arith)))
wide Open c h = inl (cond_false _ _ _ (wide_space c h) ∙ cond_false _ _ _ (wide_begin c h) ∙ cond_false _ _ _ (wide_other c 125 h (omega arith)))
wide Comma c h = inl (cond_false _ _ _ (wide_space c h) ∙ cond_false _ _ _ (wide_begin c h))
wide Label c h = inl (cond_false _ _ _ (wide_follow c h) ∙ cond_false _ _ _ (wide_space c h)
    ∙ cond_false _ _ _ (wide_other c 61 h (omega arith)) ∙ cond_false _ _ _ (wide_other c 33 h (omega arith)))
wide AfterLabel c h = inl (cond_false _ _ _ (wide_space c h)
    ∙ cond_false _ _ _ (wide_other c 61 h (omega arith)) ∙ cond_false _ _ _ (wide_other c 33 h (omega arith)))
wide Equals c h = inl (cond_false _ _ _ (wide_other c 126 h (omega arith)) ∙ cond_false _ _ _ (wide_space c h) ∙ cond_false _ _ _ (wide_other c 34 h (omega arith)))
wide Bang c h = inl (cond_false _ _ _ (wide_other c 61 h (omega arith)) ∙ cond_false _ _ _ (wide_other c 126 h (omega arith)))
wide (BeforeText o) c h = inl (cond_false _ _ _ (wide_space c h) ∙ cond_false _ _ _ (wide_other c 34 h (omega arith)))
wide (Text o) c h = inr (o, refl)
wide (Escape o) c h = inl (cond_false _ _ _ (escapes c h) ∙ cond_false _ _ _ (wide_other c 110 h (omega arith)))
  where
    escapes : (c : ℕ) → 128 ≤ c → ((c == 34) || (c == 92)) ≡ false
    escapes c h = rw (wide_other c 34 h (omega arith), wide_other c 92 h (omega arith)) refl
wide AfterText c h = inl (cond_false _ _ _ (wide_space c h)
    ∙ cond_false _ _ _ (wide_other c 44 h (omega arith)) ∙ cond_false _ _ _ (wide_other c 125 h (omega arith)))
wide End c h = inl (cond_false _ _ _ (wide_space c h))

text_stays : (o : Op) (c : ℕ) → 128 ≤ c → step (Text o) c ≡ Some (move (Text o) mark.Text)
unfolding step
text_stays o c h = cond_false _ _ _ (wide_other c 34 h (omega arith))
    ∙ cond_false _ _ _ (wide_other c 92 h (omega arith)) ∙ cond_false _ _ _ (wide_other c 10 h (omega arith))

by_wide : (us front : List ℕ) (o : Op) (p : Progress) → AreWide us → Reached front (Text o) p → Reached (front ++ us) (Text o) (taken mark.Text us p)
by_wide [] front o p a r = rw (append-nil front, append-nil p.text) r
by_wide (u ∷ us) front o p a r =
    rw (← append_assoc front (u ∷ []) us, ← append_assoc p.text (u ∷ []) us)
    (by_wide us (front ++ u ∷ []) o (taken mark.Text (u ∷ []) p) a.1
    (by_byte front (Text o) (Text o) mark.Text u p r (text_stays o u a.0)))

-- the bytes of a character past ASCII: a first one, and others, all past ASCII
record WideBytes (bytes : List ℕ) : Type 0 where
  first : ℕ
  others : List ℕ
  is : bytes ≡ first ∷ others
  wide : AreWide bytes

first_wide : (bytes : List ℕ) (first : ℕ) (others : List ℕ) → bytes ≡ first ∷ others → AreWide bytes → 128 ≤ first
first_wide bytes first others e a = let all : AreWide (first ∷ others) = rw e at a in all.0

wide_bytes : (c : ℕ) → 128 ≤ c → WideBytes (encode_utf8 c)
wide_bytes c h =
    by_cases (ltb c 0x800)
    (λ t. let e = encode_two c h (grind (arith, nat_tests)) in
    record { first = _; others = _; is = e; wide = rw e (omega arith, (omega arith, tt)) })
    (λ f. by_cases (ltb c 0x1_0000)
    (λ t. let e = encode_three c (grind (arith, nat_tests)) (grind (arith, nat_tests)) in
    record { first = _; others = _; is = e; wide = rw e (omega arith, (omega arith, (omega arith, tt))) })
    (λ g. let e = encode_four c (grind (arith, nat_tests)) in
    record { first = _; others = _; is = e; wide = rw e (omega arith, (omega arith, (omega arith, (omega arith, tt)))) }))

by_wide_char : (front : List ℕ) (o : Op) (next : State) (m : Mark) (c : ℕ) (p : Progress) → 128 ≤ c → Reached front (Text o) p →
    step (Text o) c ≡ Some (move next m) → Reached (front ++ encode_utf8 c) next (taken m (encode_utf8 c) p)
by_wide_char front o next m c p h r e =
    let P : State × Mark → Type 0 = λ v. Reached (front ++ encode_utf8 c) v.0 (taken v.1 (encode_utf8 c) p) in
    subst P (same_some (move (Text o) mark.Text) (move next m) (sym (text_stays o c h) ∙ e))
    (by_wide (encode_utf8 c) front o p (wide_bytes c h).wide r)

by_char : (front : List ℕ) (s next : State) (m : Mark) (c : ℕ) (p : Progress) → Reached front s p → step s c ≡ Some (move next m) →
    Reached (front ++ encode_utf8 c) next (taken m (encode_utf8 c) p)
by_char front s next m c p r e =
    by_cases (ltb c 128)
    (λ t. rw (encode_ascii c (grind (arith, nat_tests))) (by_byte front s next m c p r e))
    (λ f. let past : 128 ≤ c = grind (arith, nat_tests) in
    elim (wide s c past) [
      | inl stops ↦ never (move next m) (sym stops ∙ e)
      | inr stays ↦
          (let P : State → Type 0 = λ x. Reached front x p → step x c ≡ Some (move next m) → Reached (front ++ encode_utf8 c) next (taken m (encode_utf8 c) p) in
          subst P (sym stays.1) (λ r e. by_wide_char front stays.0 next m c p past r e) r e)
    ])

pub goes_on : (text rest after : List ℕ) (s next : State) (m : Mark) (c at now : ℕ) (p : Progress) → ReadUpTo text rest s p at →
    rest ≡ encode_utf8 c ++ after → step s c ≡ Some (move next m) → now ≡ length text - length after →
    ReadUpTo text after next (taken m (encode_utf8 c) p) now
goes_on text rest after s next m c at now p r e taking place =
    let whole : text ≡ (r.front ++ encode_utf8 c) ++ after = r.whole ∙ ap (λ x. r.front ++ x) e ∙ sym (append_assoc r.front (encode_utf8 c) after) in
    record {
      front = r.front ++ encode_utf8 c;
      whole = whole;
      place = omega (arith, place, ap length whole, length-append (r.front ++ encode_utf8 c) after);
      reached = by_char r.front s next m c p r.reached taking;
    }

-- each state has an end that makes a selector
record Completion (s : State) : Type 0 where
  rest : List ℕ
  ms : List MatcherView
  read : reads rest s ≡ Some ms

abbrev view : List ℕ → Op → List ℕ → MatcherView
view name op text = record { name = name; op = op; text = text }

completes : (s : State) → Completion s
unfolding reads step
completes Start = record { rest = codes "a"; ms = view (codes "__name__") op.Equal (97 ∷ []) ∷ []; read = refl }
completes Metric = record { rest = []; ms = view (codes "__name__") op.Equal [] ∷ []; read = refl }
completes AfterMetric = record { rest = []; ms = []; read = refl }
completes Open = record { rest = codes "}"; ms = []; read = refl }
completes Comma = record { rest = codes "a=\"\"}"; ms = view (97 ∷ []) op.Equal [] ∷ []; read = refl }
completes Label = record { rest = codes "=\"\"}"; ms = view [] op.Equal [] ∷ []; read = refl }
completes AfterLabel = record { rest = codes "=\"\"}"; ms = view [] op.Equal [] ∷ []; read = refl }
completes Equals = record { rest = codes "\"\"}"; ms = view [] op.Equal [] ∷ []; read = refl }
completes Bang = record { rest = codes "=\"\"}"; ms = view [] op.NotEqual [] ∷ []; read = refl }
completes (BeforeText o) = record { rest = codes "\"\"}"; ms = view [] o [] ∷ []; read = refl }
completes (Text o) = record { rest = codes "\"}"; ms = view [] o [] ∷ []; read = refl }
completes (Escape o) = record { rest = codes "n\"}"; ms = view [] o (10 ∷ []) ∷ []; read = refl }
completes AfterText = record { rest = codes "}"; ms = []; read = refl }
completes End = record { rest = []; ms = []; read = refl }

begins : (front : List ℕ) (s : State) (p : Progress) → Reached front s p → BeginsSelector front
begins front s p r =
    let c = completes s in
    (c.rest, forward p c.ms, sound (front ++ c.rest) Start (forward p c.ms) (r.each c.rest ∙ ap (option_map (forward p)) c.read))

-- the byte at which the machine stops

record FirstStops (bytes : List ℕ) (s : State) : Type 0 where
  first : ℕ
  others : List ℕ
  is : bytes ≡ first ∷ others
  stops : step s first ≡ None

wide_stops : (s : State) (c first : ℕ) → 128 ≤ c → 128 ≤ first → step s c ≡ None → step s first ≡ None
wide_stops s c first h g e =
    elim (wide s first g) [
      | inl stops ↦ stops
      | inr stays ↦
          (let P : State → Type 0 = λ x. step x c ≡ None → step s first ≡ None in
          subst P (sym stays.1) (λ e. never (move (Text stays.0) mark.Text) (sym e ∙ text_stays stays.0 c h)) e)
    ]

first_stops : (s : State) (c : ℕ) → step s c ≡ None → FirstStops (encode_utf8 c) s
first_stops s c e =
    by_cases (ltb c 128)
    (λ t. record { first = c; others = []; is = encode_ascii c (grind (arith, nat_tests)); stops = e })
    (λ f. let past : 128 ≤ c = grind (arith, nat_tests) in
    let bytes = wide_bytes c past in
    record {
      first = bytes.first;
      others = bytes.others;
      is = bytes.is;
      stops = wide_stops s c bytes.first past (first_wide (encode_utf8 c) bytes.first bytes.others bytes.is bytes.wide) e;
    })

read_none : (front : List ℕ) (s : State) (p : Progress) (b : ℕ) (bs : List ℕ) → Reached front s p → step s b ≡ None → reads (front ++ (b ∷ bs)) Start ≡ None
read_none front s p b bs r e = r.each (b ∷ bs) ∙ ap (option_map (forward p)) (reads_step s b bs None e)

no_beginning : (front : List ℕ) (s : State) (p : Progress) (b : ℕ) (bs : List ℕ) → Reached front s p → step s b ≡ None → BeginsSelector (front ++ (b ∷ bs)) → ⊥
no_beginning front s p b bs r e found =
    never found.1 (sym (ap (λ x. reads x Start) (append_assoc front (b ∷ bs) found.0) ∙ read_none front s p b (bs ++ found.0) r e)
    ∙ complete ((front ++ (b ∷ bs)) ++ found.0) found.1 found.2)

no_longer : (front : List ℕ) (s : State) (p : Progress) (b : ℕ) (bs : List ℕ) (n : ℕ) → Reached front s p → step s b ≡ None → length front < n →
    BeginsSelector (take n (front ++ (b ∷ bs))) → ⊥
no_longer front s p b bs n r e lt found =
    let k = n - length front - 1 in
    let is : n ≡ length front + suc k = omega arith in
    let same : take n (front ++ (b ∷ bs)) ≡ front ++ (b ∷ take k bs) = ap (λ x. take x (front ++ (b ∷ bs))) is ∙ take-append-add front (b ∷ bs) (suc k) in
    no_beginning front s p b (take k bs) r e (subst BeginsSelector same found)

take_front : (front bs text : List ℕ) (at : ℕ) → text ≡ front ++ bs → at ≡ length front → take at text ≡ front
take_front front bs text at whole place = rw (whole, place) (take-append_seam front bs)

pub refused_at : (text rest after : List ℕ) (s : State) (c at : ℕ) (p : Progress) → ReadUpTo text rest s p at → rest ≡ encode_utf8 c ++ after →
    step s c ≡ None → IsNoSelector text at
refused_at text rest after s c at p r e stops =
    let f = first_stops s c stops in
    let whole : text ≡ r.front ++ (f.first ∷ (f.others ++ after)) = r.whole ∙ ap (λ x. r.front ++ x) (e ∙ ap (λ x. x ++ after) f.is) in
    record {
      none = λ ms selector. never ms (sym (ap (λ x. reads x Start) whole ∙ read_none r.front s p f.first (f.others ++ after) r.reached f.stops) ∙ complete text ms selector);
      longest = record {
        within = omega (arith, r.place, ap length r.whole, length-append r.front rest);
        begins = subst BeginsSelector (sym (take_front r.front rest text at r.whole r.place)) (begins r.front s p r.reached);
        longest = λ n lt le found. no_longer r.front s p f.first (f.others ++ after) n r.reached f.stops (omega (arith, lt, r.place))
            (subst BeginsSelector (ap (take n) whole) found);
      };
    }

reads_end : (s : State) (o : Option Mark) → end_mark s ≡ o → reads [] s ≡ option_map (λ end. marked 0 end []) o
unfolding reads
reads_end s o e = ap (option_map (λ end. marked 0 end [])) e

pub refused_end : (text rest : List ℕ) (s : State) (at : ℕ) (p : Progress) → ReadUpTo text rest s p at → rest ≡ [] → end_mark s ≡ None → IsNoSelector text (length text)
refused_end text rest s at p r e ends =
    let whole : text ≡ r.front ++ [] = r.whole ∙ ap (λ x. r.front ++ x) e in
    let same : text ≡ r.front = whole ∙ append-nil r.front in
    record {
      none = λ ms selector. never ms (sym (ap (λ x. reads x Start) whole ∙ r.reached.each [] ∙ ap (option_map (forward p)) (reads_end s None ends)) ∙ complete text ms selector);
      longest = record {
        within = omega arith;
        begins = subst BeginsSelector (sym (take_front r.front [] text (length text) whole (ap length same))) (begins r.front s p r.reached);
        longest = λ n lt le found. absurd (omega (arith, lt, le));
      };
    }

forward_nothing : (p : Progress) → forward p [] ≡ p.done
forward_nothing p = append-nil p.done

pub accepted : (text rest : List ℕ) (s : State) (m : Mark) (at : ℕ) (p q : Progress) → ReadUpTo text rest s p at → rest ≡ [] → end_mark s ≡ Some m →
    q ≡ taken m (encode_utf8 0) p → IsSelector text q.done
accepted text rest s m at p q r e ends is =
    let whole : text ≡ r.front ++ [] = r.whole ∙ ap (λ x. r.front ++ x) e in
    let same : q ≡ taken m (0 ∷ []) p = is ∙ ap (λ x. taken m x p) (encode_ascii 0 (omega arith)) in
    sound text Start q.done (ap (λ x. reads x Start) whole ∙ r.reached.each [] ∙ ap (option_map (forward p)) (reads_end s (Some m) ends)
    ∙ ap Some (sym (forward_taken m 0 p []) ∙ forward_nothing (taken m (0 ∷ []) p) ∙ ap (λ x. x.done) (sym same)))

pub one_reading : HasOneReading
one_reading text ms ns a b = same_some ms ns (sym (complete text ms a) ∙ complete text ns b)

pub no_bytes : (bs : List ℕ) → length bs ≡ 0 → bs ≡ []
no_bytes [] e = refl
no_bytes (b ∷ bs) e = absurd (omega (arith, e))
