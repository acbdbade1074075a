-- Symbols and entries, one after another.
use Rattle.std.proofs.Common.{◌≡◌, ℕ, zero, suc, ◌+◌, ◌-◌, ◌^◌, ◌≤◌, ◌<◌, Bool, true, false, ◌&&◌, cond, ltb, eqb, List, [], ◌∷◌, ◌++◌, length, drop, Result, Ok, Err, refl, sym, ap, subst, ◌∙◌, inl, inr, append_assoc, arith}
use Rattle.std.specs.Prelude.{slice_range}
use Rattle.std.specs.List.{flat_map, AllByRecursion}
use Rattle.std.specs.Str.{is_utf8, IsUtf8}
use Rattle.std.proofs.lemmas.Bool.{lt-ltb, le-ltb, ltb-true, ltb-false, eqb-true}
use Rattle.std.proofs.lemmas.Str.{IsUtf8-from_is_utf8, is_utf8-from_IsUtf8}
use Rattle.std.proofs.lemmas.List.{append-nil, length-append, length-drop, length-take, nil_from_length}
use Rattle.std.proofs.lemmas.List.Concat.{flat_map-cons}
use Rattle.byteorder.specs.Endian.{big_bytes}
use Rattle.wire.specs.Checksum.{checked, crc32c}
use Rattle.wire.specs.Spelling.{uvarint}
use Rattle.wire.specs.Reading.{number_at, bytes_at, uvarint_at}
use Rattle.wire.specs.Spelling.{IsBytes}
use Rattle.wire.proofs.Fields.{IsBytes-take, IsBytes-drop, IsBytes-front, IsBytes-back, number_takes_4, number_again_4, bytes_takes, bytes_again}
use Rattle.wire.proofs.KnownReads.{chosen}
use Rattle.wire.proofs.Laws.{uvarint_takes, uvarint_again, uvarint_long}
use Rattle.block_walk.specs.declared.error.WalkError.{WalkError}
use Rattle.block_walk.specs.declared.error.WalkError.TheVariants.{Symbols}
use Rattle.block_walk.specs.IndexFile.Layout.{ascending, SeriesEntry, rounded}
use Rattle.block_walk.specs.IndexFile.Reading.{symbol_at, symbols_from, symbols_of, entry_at, entries_from}
use Rattle.wire.specs.Outcome.{◌>>=◌, or_refused}
use Rattle.block_walk.specs.IndexFile.Grammar.{entry, symbol, IsSymbolTable, IsWalk}
use Rattle.block_walk.proofs.IndexFile.WalkLoops.{guard_ended, entry_shorter}
use Rattle.wire.proofs.Steps.{bind_ok, refused_ok}
use Rattle.block_walk.proofs.IndexFile.Fields.{Takes, takes, Takes-then, entry_takes, entry_again}

abbrev pub done : {A : Type 0} → A → Result A WalkError
done x = Ok x

pub ok_is : {A : Type 0} (x y : A) → done x ≡ done y → x ≡ y
ok_is x y e = cc

-- ---- symbols

symbol_takes : (bytes : List ℕ) (x : List ℕ × List ℕ) → IsBytes bytes → symbol_at bytes ≡ Ok x
    → Takes bytes (symbol x.0) x.1 × IsUtf8 x.0
unfolding symbol_at
symbol_takes bytes x fits h =
    let a = bind_ok (or_refused Symbols (uvarint_at bytes)) _ x h in
    let b = bind_ok (or_refused Symbols (bytes_at a.0.0 a.0.1)) _ x a.2 in
    let ta = uvarint_takes bytes a.0.0 a.0.1 fits (refused_ok Symbols (uvarint_at bytes) a.0 a.1) in
    let t0 = takes bytes (uvarint a.0.0) a.0.1 fits ta.0 in
    let tb =
    bytes_takes a.0.0 a.0.1 b.0.0 b.0.1 (refused_ok Symbols (bytes_at a.0.0 a.0.1) b.0 b.1) in
    let t1 = takes a.0.1 b.0.0 b.0.1 t0.rest_fits tb.0 in
    let g = guard_ended (is_utf8 b.0.0) Symbols b.0 x b.2 in
    let whole : Takes bytes (symbol b.0.0) b.0.1 =
    subst (λ (n : ℕ). Takes bytes (uvarint n ++ b.0.0) b.0.1) (sym tb.1)
    (Takes-then bytes (uvarint a.0.0) a.0.1 b.0.0 b.0.1 t0 t1) in
    subst (λ (y : List ℕ × List ℕ). Takes bytes (symbol y.0) y.1 × IsUtf8 y.0) g.1
    (whole, IsUtf8-from_is_utf8 b.0.0 g.0)

symbol_again : (s rest : List ℕ) → IsUtf8 s → length s < 2 ^ 64
    → symbol_at (symbol s ++ rest) ≡ Ok (s, rest)
unfolding symbol_at
symbol_again s rest text lt =
    ap symbol_at (append_assoc (uvarint (length s)) s rest)
    ∙ rw (uvarint_again (length s) (s ++ rest) lt, bytes_again s rest, is_utf8-from_IsUtf8 s text)
    refl

symbols_take : (n : ℕ) (bytes : List ℕ) (x : List (List ℕ) × List ℕ) → IsBytes bytes
    → symbols_from n bytes ≡ Ok x
    → Takes bytes (flat_map symbol x.0) x.1 × (length x.0 ≡ n) × AllByRecursion IsUtf8 x.0
unfolding symbols_from
symbols_take zero bytes x fits e =
    subst (λ (y : List (List ℕ) × List ℕ). Takes bytes (flat_map symbol y.0) y.1 × (length y.0 ≡ 0)
    × AllByRecursion IsUtf8 y.0) (ok_is ([], bytes) x e)
    (record { parts = refl; rest_fits = fits }, refl, tt)
symbols_take (suc n) bytes x fits e =
    let a =
    bind_ok (symbol_at bytes)
    (λ first. symbols_from n first.1 >>= λ others. Ok (first.0 ∷ others.0, others.1)) x e in
    let b = bind_ok (symbols_from n a.0.1) (λ others. Ok (a.0.0 ∷ others.0, others.1)) x a.2 in
    let first = symbol_takes bytes a.0 fits a.1 in
    let second = symbols_take n a.0.1 b.0 first.0.rest_fits b.1 in
    let both =
    Takes-then bytes (symbol a.0.0) a.0.1 (flat_map symbol b.0.0) b.0.1 first.0 second.0 in
    let made : List (List ℕ) × List ℕ = (a.0.0 ∷ b.0.0, b.0.1) in
    subst (λ (y : List (List ℕ) × List ℕ). Takes bytes (flat_map symbol y.0) y.1
    × (length y.0 ≡ suc n) × AllByRecursion IsUtf8 y.0) (ok_is made x b.2)
    (rw flat_map-cons both, ap suc second.1, (first.1, second.2))

symbols_again : (ss : List (List ℕ)) (rest : List ℕ) → AllByRecursion IsUtf8 ss
    → length (flat_map symbol ss) < 2 ^ 64
    → symbols_from (length ss) (flat_map symbol ss ++ rest) ≡ Ok (ss, rest)
unfolding symbols_from
symbols_again [] rest texts small = refl
symbols_again (s ∷ ss) rest texts small =
    let split : flat_map symbol (s ∷ ss) ≡ symbol s ++ flat_map symbol ss =
    flat_map-cons symbol s ss in
    let regrouped : flat_map symbol (s ∷ ss) ++ rest ≡ symbol s ++ (flat_map symbol ss ++ rest) =
    ap (λ (x : List ℕ). x ++ rest) split ∙ append_assoc (symbol s) (flat_map symbol ss) rest in
    let size : length (symbol s) + length (flat_map symbol ss) < 2 ^ 64 =
    omega (arith, small, ap length split, length-append (symbol s) (flat_map symbol ss)) in
    let size2 = length-append (uvarint (length s)) s in
    ap (symbols_from (suc (length ss))) regrouped
    ∙ rw (
      symbol_again s (flat_map symbol ss ++ rest) texts.0 (omega (arith, size, size2)),
      symbols_again ss rest texts.1 (omega (arith, size)),
    ) refl

both : (p q : Bool) → (p && q) ≡ true → (p ≡ true) × (q ≡ true)
both true q h = (refl, h)
both false q h = absurd cc

pub table_takes : (content : List ℕ) (ss : List (List ℕ)) → IsBytes content
    → symbols_of content ≡ Ok ss → IsSymbolTable content ss
unfolding symbols_of
table_takes content ss fits e =
    let a =
    bind_ok (or_refused Symbols (number_at 4 content)) (λ n. symbols_from n.0 n.1
    >>= λ x. cond (eqb (length x.1) 0 && ascending x.0) (Ok x.0) (Err Symbols)) ss e in
    let b =
    bind_ok (symbols_from a.0.0 a.0.1)
    (λ x. cond (eqb (length x.1) 0 && ascending x.0) (Ok x.0) (Err Symbols)) ss a.2 in
    let g = guard_ended (eqb (length b.0.1) 0 && ascending b.0.0) Symbols b.0.0 ss b.2 in
    let p = both _ _ g.0 in
    let ta =
    number_takes_4 content a.0.0 a.0.1 fits (refused_ok Symbols (number_at 4 content) a.0 a.1) in
    let t0 = takes content (big_bytes 4 a.0.0) a.0.1 fits ta.0 in
    let second = symbols_take a.0.0 a.0.1 b.0 t0.rest_fits b.1 in
    let nothing : b.0.1 ≡ [] = nil_from_length b.0.1 (eqb-true _ _ p.0) in
    let whole =
    (Takes-then content (big_bytes 4 a.0.0) a.0.1 (flat_map symbol b.0.0) b.0.1
    t0 second.0).parts in
    let text : content ≡ big_bytes 4 (length b.0.0) ++ flat_map symbol b.0.0 =
    whole
    ∙ ap (λ (r : List ℕ). (big_bytes 4 a.0.0 ++ flat_map symbol b.0.0) ++ r) nothing
    ∙ append-nil (big_bytes 4 a.0.0 ++ flat_map symbol b.0.0)
    ∙ ap (λ (k : ℕ). big_bytes 4 k ++ flat_map symbol b.0.0) (sym second.1) in
    subst (λ (v : List (List ℕ)). IsSymbolTable content v) g.1
    (record { text = text; order = p.1; texts = second.2 })

pub flat_long : (ss : List (List ℕ)) → length ss ≤ length (flat_map symbol ss)
flat_long [] = omega arith
flat_long (s ∷ ss) =
    let split : flat_map symbol (s ∷ ss) ≡ symbol s ++ flat_map symbol ss =
    flat_map-cons symbol s ss in
    omega (
      arith,
      flat_long ss,
      ap length split,
      length-append (symbol s) (flat_map symbol ss),
      length-append (uvarint (length s)) s,
      uvarint_long (length s),
    )

pub table_again : (content : List ℕ) (ss : List (List ℕ)) → length content < 2 ^ 32
    → IsSymbolTable content ss → symbols_of content ≡ Ok ss
unfolding symbols_of
table_again content ss small t =
    let size = ap length t.text ∙ length-append (big_bytes 4 (length ss)) (flat_map symbol ss) in
    let few = flat_long ss in
    let nilled : symbols_from (length ss) (flat_map symbol ss) ≡ Ok (ss, []) =
    ap (symbols_from (length ss)) (sym (append-nil (flat_map symbol ss)))
    ∙ symbols_again ss [] t.texts (omega (arith, size)) in
    ap symbols_of t.text
    ∙ rw (
      number_again_4 (length ss) (flat_map symbol ss) (omega (arith, size, few)),
      nilled,
      t.order,
    ) refl

-- ---- entries

IsBytes-range : (file : List ℕ) (at end : ℕ) → IsBytes file → IsBytes (slice_range file at end)
IsBytes-range file at end fits = IsBytes-take (end - at) (drop at file) (IsBytes-drop at file fits)

pub range_length : (file : List ℕ) (at end : ℕ) → end ≤ length file
    → length (slice_range file at end) ≡ end - at
range_length file at end le =
    omega (arith, length-take (end - at) (drop at file), length-drop at file)

pub walk_takes : (n : ℕ) (file : List ℕ) (end at : ℕ) (ps : List SeriesEntry) → IsBytes file
    → end ≤ length file → end - at ≤ n → entries_from n file end at ≡ Ok ps → IsWalk file end at ps
unfolding entries_from
walk_takes zero file end at ps fits inside enough h =
    subst (λ (y : List SeriesEntry). IsWalk file end at y) (ok_is [] ps h) (omega arith)
walk_takes (suc n) file end at ps fits inside enough h =
    elim (chosen (ltb at end) _ _ _ h) [
      | inr t ↦
          subst (λ (y : List SeriesEntry). IsWalk file end at y) (ok_is [] ps t.1) (ltb-false _ _ t.0)
      | inl t ↦
          let bytes = slice_range file at end in
          let a =
          bind_ok (entry_at bytes)
          (λ e. entries_from n file end (rounded (end - length e.1)) >>= λ others. Ok ((record {
            offset = at;
            body = e.0;
            end = end - length e.1;
          }) ∷ others)) ps t.1 in
          let b =
          bind_ok (entries_from n file end (rounded (end - length a.0.1)))
          (λ (others : List SeriesEntry). Ok ((record {
            offset = at;
            body = a.0.0;
            end = end - length a.0.1;
          }) ∷ others)) ps a.2 in
          let took = entry_takes bytes a.0 (IsBytes-range file at end fits) a.1 in
          let lt : at < end = ltb-true _ _ t.0 in
          let size : length (entry a.0.0) + length a.0.1 ≡ end - at = omega (
            arith,
            ap length took.parts,
            length-append (entry a.0.0) a.0.1,
            range_length file at end inside,
          ) in
          let shorter = entry_shorter bytes a.0 a.1 in
          let stop : end - length a.0.1 ≡ at + length (entry a.0.0) =
          omega (arith, size, shorter, range_length file at end inside) in
          let others : IsWalk file end (rounded (end - length a.0.1)) b.0 =
          walk_takes n file end (rounded (end - length a.0.1)) b.0 fits inside
          (omega (arith, stop, size, shorter, range_length file at end inside)) b.1 in
          let p : SeriesEntry = record { offset = at; body = a.0.0; end = end - length a.0.1 } in
          subst (λ (y : List SeriesEntry). IsWalk file end at y) (ok_is (p ∷ b.0) ps b.2)
          (refl, lt, (a.0.1, took.parts), rw (← stop) others, stop)
    ]

pub walk_again : (n : ℕ) (file : List ℕ) (end at : ℕ) (ps : List SeriesEntry) → IsBytes file
    → end ≤ length file → end < 2 ^ 32 → end - at ≤ n → IsWalk file end at ps
    → entries_from n file end at ≡ Ok ps
unfolding entries_from
walk_again zero file end at [] fits inside small enough w = refl
walk_again zero file end at (p ∷ ps) fits inside small enough w = absurd (omega (arith, w.1))
walk_again (suc n) file end at [] fits inside small enough w = rw (le-ltb at end w) refl
walk_again (suc n) file end at (p ∷ ps) fits inside small enough w =
    let bytes = slice_range file at end in
    let rest = w.2.0 in
    let text : bytes ≡ entry p.body ++ rest = w.2.1 in
    let body_fits : IsBytes p.body =
    IsBytes-front p.body (big_bytes 4 (crc32c p.body)) (IsBytes-back (uvarint (length p.body)) _
    (IsBytes-front (entry p.body) rest (subst IsBytes text (IsBytes-range file at end fits)))) in
    let size : length (entry p.body) + length rest ≡ end - at =
    omega
    (arith, ap length text, length-append (entry p.body) rest, range_length file at end inside) in
    let long = length-append (uvarint (length p.body)) (checked p.body) in
    let long2 = length-append p.body (big_bytes 4 (crc32c p.body)) in
    let some = uvarint_long (length p.body) in
    let read : entry_at bytes ≡ Ok (p.body, rest) =
    ap entry_at text ∙ entry_again p.body rest body_fits (omega (arith, size, long, long2)) in
    let stop : end - length rest ≡ at + length (entry p.body) = omega (arith, size, w.1) in
    let others =
    walk_again n file end (rounded (at + length (entry p.body))) ps fits inside small
    (omega (arith, size, long, some, w.1)) w.3 in
    let made : SeriesEntry = record { offset = at; body = p.body; end = end - length rest } in
    let same : made ≡ p =
    ap (λ (o : ℕ). record { offset = o; body = p.body; end = end - length rest }) (sym w.0)
    ∙ ap (λ (o : ℕ). record { offset = p.offset; body = p.body; end = o }) (stop ∙ sym w.4) in
    let next : entries_from n file end (rounded (end - length rest)) ≡ Ok ps =
    ap (λ (o : ℕ). entries_from n file end (rounded o)) stop ∙ others in
    rw (lt-ltb at end w.1, read, next) (ap (λ (q : SeriesEntry). done (q ∷ ps)) same)
