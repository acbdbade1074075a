-- The first check of an index that fails, up to its series entries.
use Rattle.std.proofs.Common.{◌≡◌, ℕ, ◌-◌, ◌^◌, ◌≤◌, ◌<◌, Bool, true, false, ◌&&◌, cond, ltb, eqb, List, [], ◌∷◌, ◌++◌, length, get_or, take, drop, Result, Ok, Err, refl, sym, ap, subst, ◌∙◌, ◌⊎◌, inl, inr, arith}
use Rattle.std.specs.Prelude.{slice_range, slice_index}
use Rattle.std.proofs.lemmas.Bool.{ltb-true, ltb-false, eqb-true}
use Rattle.std.proofs.lemmas.List.{length-drop, get_or-take}
use Rattle.byteorder.specs.Endian.{big_number, big_bytes}
use Rattle.byteorder.specs.Numbers.{big_number-reads_back}
use Rattle.wire.specs.Spelling.{IsBytes}
use Rattle.wire.specs.Checksum.{checked, crc32c}
use Rattle.wire.proofs.ChecksumBound.{crc32c_below}
use Rattle.wire.proofs.Fields.{IsBytes-take, IsBytes-drop, IsBytes-front, IsBytes-back}
use Rattle.wire.proofs.KnownReads.{chosen}
use Rattle.block_walk.specs.declared.contents.Contents.{Contents}
use Rattle.block_walk.specs.declared.error.WalkError.{WalkError}
use Rattle.block_walk.specs.declared.error.WalkError.TheVariants.{TooShort, Magic, Version, ContentsCrc, ContentsOrder, SymbolsCrc, Limit}
use Rattle.block_walk.specs.IndexFile.Layout.{IsPlaced, rounded, series_end}
use Rattle.block_walk.specs.IndexFile.Reading.{in_order, has_magic, table_of, head_of, frame_at, symbols_of, entries_from, layout_of}
use Rattle.wire.specs.Outcome.{◌>>=◌}
use Rattle.block_walk.specs.IndexFile.Grammar.{frame, contents_text}
use Rattle.block_walk.specs.BlockFiles.Checks.{Files, Check, FirstFailing, HasContents, HasFrame}
use Rattle.block_walk.proofs.IndexFile.Fields.{eqb_same, frame_takes, frame_again}
use Rattle.block_walk.proofs.IndexFile.Head.{head_placed}
use Rattle.block_walk.proofs.IndexFile.Walks.{ok_is, table_takes, table_again}
use Rattle.block_walk.proofs.IndexFile.Whole.{starts, contents_takes, head_takes, head_again, omega_length, parts_again}
use Rattle.block_walk.proofs.IndexFile.Codes.{refused, of_frame, of_symbols, of_entries}

-- ---- refusals

pub not_both : {A : Type 0} (r : Result A WalkError) (x : A) (e : WalkError)
    → r ≡ Ok x → r ≡ Err e → ⊥
not_both (Ok y) x e a b = absurd cc
not_both (Err d) x e a b = absurd cc

pub ok_not : {A : Type 0} (x : A) (e : WalkError) → Ok x ≡ refused A e → ⊥
ok_not x e h = absurd cc

pub is_refusal : (A : Type 0) (d e : WalkError) → refused A d ≡ refused A e → e ≡ d
is_refusal A d e h = cc

pub same_value : {A : Type 0} (r : Result A WalkError) (x y : A) → r ≡ Ok x → r ≡ Ok y → x ≡ y
same_value (Ok z) x y a b = ok_is x y (sym a ∙ b)
same_value (Err d) x y a b = absurd cc

-- a reading that was refused: its first step was, or what follows
pub bind_err : {A B : Type 0} (r : Result A WalkError) (f : A → Result B WalkError) (e : WalkError)
    → (r >>= f) ≡ Err e → (r ≡ Err e) ⊎ ((x : A) × (r ≡ Ok x) × (f x ≡ Err e))
bind_err (Ok x) f e h = inr (x, refl, h)
bind_err {A} {B} (Err d) f e h =
    inl (ap (λ (c : WalkError). refused A c) (sym (is_refusal B d e h)))

-- ---- the first bytes

true_not : (b : Bool) → b ≡ true → b ≡ false → ⊥
true_not true a b = absurd cc
true_not false a b = absurd cc

four : (xs : List ℕ) → take 4 (take 5 xs) ≡ take 4 xs
four [] = refl
four (a ∷ []) = refl
four (a ∷ b ∷ []) = refl
four (a ∷ b ∷ c ∷ []) = refl
four (a ∷ b ∷ c ∷ d ∷ xs) = refl

pub four_of : (xs : List ℕ) → take 5 xs ≡ 0xBA ∷ 0xAA ∷ 0xD7 ∷ 0 ∷ 2 ∷ []
    → take 4 xs ≡ 0xBA ∷ 0xAA ∷ 0xD7 ∷ 0 ∷ []
four_of xs e = sym (four xs) ∙ ap (take 4) e

magic_of : (xs : List ℕ) → take 4 xs ≡ 0xBA ∷ 0xAA ∷ 0xD7 ∷ 0 ∷ [] → has_magic xs ≡ true
magic_of xs e =
    let at =
    λ (i : ℕ).
    λ (lt : i < 4). sym (get_or-take 4 xs i 0 lt) ∙ ap (λ (ys : List ℕ). get_or ys i 0) e in
    rw (at 0 (omega arith), at 1 (omega arith), at 2 (omega arith), at 3 (omega arith)) refl

version_of : (xs : List ℕ) → take 5 xs ≡ 0xBA ∷ 0xAA ∷ 0xD7 ∷ 0 ∷ 2 ∷ []
    → eqb (slice_index xs 4) 2 ≡ true
version_of xs e =
    rw (sym (get_or-take 5 xs 4 0 (omega arith)) ∙ ap (λ (ys : List ℕ). get_or ys 4 0) e) refl

both : (p q : Bool) → (p && q) ≡ true → (p ≡ true) × (q ≡ true)
both true q h = (refl, h)
both false q h = absurd cc

four_from : (xs : List ℕ) → 5 ≤ length xs
    → take 4 xs ≡ slice_index xs 0 ∷ slice_index xs 1 ∷ slice_index xs 2 ∷ slice_index xs 3 ∷ []
four_from [] le = absurd (omega arith)
four_from (a ∷ []) le = absurd (omega arith)
four_from (a ∷ b ∷ []) le = absurd (omega arith)
four_from (a ∷ b ∷ c ∷ []) le = absurd (omega arith)
four_from (a ∷ b ∷ c ∷ d ∷ xs) le = refl

magic_is : (xs : List ℕ) → 5 ≤ length xs → has_magic xs ≡ true
    → take 4 xs ≡ 0xBA ∷ 0xAA ∷ 0xD7 ∷ 0 ∷ []
magic_is xs le m =
    let a3 = both _ _ m in
    let a2 = both _ _ a3.0 in
    let a1 = both _ _ a2.0 in
    let e0 : slice_index xs 0 ≡ 0xBA = eqb-true _ _ a1.0 in
    let e1 : slice_index xs 1 ≡ 0xAA = eqb-true _ _ a1.1 in
    let e2 : slice_index xs 2 ≡ 0xD7 = eqb-true _ _ a2.1 in
    let e3 : slice_index xs 3 ≡ 0 = eqb-true _ _ a3.1 in
    rw (four_from xs le, e0, e1, e2, e3) refl

-- ---- the table of contents

sum_right : (t : Contents) → IsBytes (contents_text t)
    → eqb (big_number 4 (drop 48 (checked (contents_text t))))
    (crc32c (take 48 (checked (contents_text t)))) ≡ true
sum_right t fits =
    let sum = crc32c (contents_text t) in
    let back : big_number 4 (big_bytes 4 sum ++ []) ≡ sum =
    big_number-reads_back 4 sum [] (crc32c_below (contents_text t) fits) in
    rw back (eqb_same sum)

contents_fit : (table : List ℕ) (t : Contents) → IsBytes table → table ≡ checked (contents_text t)
    → IsBytes (contents_text t)
contents_fit table t fits e =
    IsBytes-front (contents_text t) (big_bytes 4 (crc32c (contents_text t))) (subst IsBytes e fits)

contents_first : (f : Files) (e : WalkError) (rest : List Check) → IsBytes f.index
    → 57 ≤ length f.index → take 5 f.index ≡ 0xBA ∷ 0xAA ∷ 0xD7 ∷ 0 ∷ 2 ∷ []
    → head_of f.index ≡ Err e
    → (table_of (drop (length f.index - 52) f.index)
    >>= λ t. cond (in_order t (length f.index - 52)) (Ok t) (Err ContentsOrder)) ≡ Err e
    → FirstFailing (Check.contents_sum ∷ Check.contents_order ∷ rest) f e
unfolding table_of
contents_first f e rest fits long start whole h =
    let file = f.index in
    let table = drop (length file - 52) file in
    let table_fits = IsBytes-drop (length file - 52) file fits in
    elim (bind_err (table_of table)
    (λ t. cond (in_order t (length file - 52)) (Ok t) (Err ContentsOrder)) e h) [
      | inl a ↦
          elim (chosen (eqb (big_number 4 (drop 48 table)) (crc32c (take 48 table))) _ _ _ a) [
            | inl x ↦ absurd (ok_not _ _ x.1)
            | inr x ↦ inl (
              λ o.
                  let right = sum_right o.0 (contents_fit table o.0 table_fits o.1) in
                  let moved =
                  subst (λ (y : List ℕ). eqb (big_number 4 (drop 48 y)) (crc32c (take 48 y))
                  ≡ true) (sym o.1) right in
                  true_not _ moved x.0,
              is_refusal Contents ContentsCrc e x.1,
            )
          ]
      | inr a ↦
          let t = a.0 in
          let held : HasContents file t =
          contents_takes table t table_fits
          (omega (arith, long, length-drop (length file - 52) file)) a.1 in
          inr (
            (t, held),
            elim (chosen (in_order t (length file - 52)) _ _ _ a.2) [
              | inl x ↦ absurd (ok_not _ _ x.1)
              | inr x ↦ inl (
                λ o. not_both (head_of file) o.0 e (head_again file o.0 fits (record {
                  start = start;
                  contents = o.1;
                }) o.2) whole,
                is_refusal Contents ContentsOrder e x.1,
              )
            ],
          )
    ]

pub head_first : (f : Files) (e : WalkError) (rest : List Check) → IsBytes f.index
    → head_of f.index ≡ Err e
    → FirstFailing (Check.index_size ∷ Check.head_room ∷ Check.magic ∷ Check.version
    ∷ Check.contents_sum ∷ Check.contents_order ∷ rest) f e
unfolding head_of
head_first f e rest fits h =
    let file = f.index in
    elim (chosen (ltb 0x4000_0000 (length file)) _ _ _ h) [
      | inl a ↦
          let lt = ltb-true 0x4000_0000 (length file) a.0 in
          inl (λ le. omega (arith, lt, le), is_refusal Contents Limit e a.1)
      | inr a ↦ inr (
        ltb-false _ _ a.0,
        elim (chosen (ltb (length file) 57) _ _ _ a.1) [
          | inl b ↦
              let lt = ltb-true (length file) 57 b.0 in
              inl (λ le. omega (arith, lt, le), is_refusal Contents TooShort e b.1)
          | inr b ↦
              let long : 57 ≤ length file = ltb-false _ _ b.0 in
              inr (
                long,
                elim (chosen (has_magic file) _ _ _ b.1) [
                  | inr m ↦ inl (
                    λ o. true_not (has_magic file) (magic_of file o) m.0,
                    is_refusal Contents Magic e m.1,
                  )
                  | inl m ↦ inr (
                    magic_is file (omega (arith, long)) m.0,
                    elim (chosen (eqb (slice_index file 4) 2) _ _ _ m.1) [
                      | inr v ↦ inl (
                        λ o. true_not _ (version_of file o) v.0,
                        is_refusal Contents Version e v.1,
                      )
                      | inl v ↦
                          let start = starts file (omega (arith, long)) m.0 v.0 in
                          inr (start, contents_first f e rest fits long start h v.1)
                    ],
                  )
                ],
              )
        ],
      )
    ]

-- a head that was read passes its checks
pub head_passes : (f : Files) (e : WalkError) (rest : List Check) (t : Contents)
    → take 5 f.index ≡ 0xBA ∷ 0xAA ∷ 0xD7 ∷ 0 ∷ 2 ∷ [] → HasContents f.index t
    → IsPlaced t (length f.index) → FirstFailing rest f e
    → FirstFailing (Check.index_size ∷ Check.head_room ∷ Check.magic ∷ Check.version
    ∷ Check.contents_sum ∷ Check.contents_order ∷ rest) f e
head_passes f e rest t start contents placed more =
    inr (
      placed.short,
      inr (
        placed.long,
        inr (
          four_of f.index start,
          inr (start, inr ((t, contents), inr ((t, contents, placed), more))),
        ),
      ),
    )

-- ---- symbols and entries

content_fits : (file : List ℕ) (t : Contents) (content rest : List ℕ) → IsBytes file
    → slice_range file 5 t.series ≡ frame content ++ rest → IsBytes content
content_fits file t content rest fits text =
    let range = IsBytes-take (t.series - 5) (drop 5 file) (IsBytes-drop 5 file fits) in
    IsBytes-front content (big_bytes 4 (crc32c content))
    (IsBytes-back (big_bytes 4 (length content)) (checked content)
    (IsBytes-front (frame content) rest (subst IsBytes text range)))

-- what a frame of symbols is read as
frame_read : (file content : List ℕ) (t : Contents) → IsBytes file → head_of file ≡ Ok t
    → (h : HasFrame file content)
    → (rest : List ℕ) × (frame_at SymbolsCrc (slice_range file 5 t.series) ≡ Ok (content, rest))
    × (length content < 2 ^ 31)
frame_read file content t fits read h =
    let same : h.t ≡ t = same_value (head_of file) h.t t (head_again file h.t fits (record {
      start = h.start;
      contents = h.contents;
    }) h.placed) read in
    let size = omega_length file h.t content h.stands.0 h.stands.1 h.placed in
    let inside = content_fits file h.t content h.stands.0 fits h.stands.1 in
    let here : frame_at SymbolsCrc (slice_range file 5 h.t.series) ≡ Ok (content, h.stands.0) =
    ap (frame_at SymbolsCrc) h.stands.1
    ∙ frame_again SymbolsCrc content h.stands.0 inside (omega (arith, size)) in (
      h.stands.0,
      subst (λ (u : Contents). frame_at SymbolsCrc (slice_range file 5 u.series) ≡ Ok (
        content,
        h.stands.0,
      )) same here,
      size,
    )

pub parts_first : (f : Files) (e : WalkError) (rest : List Check) → IsBytes f.index
    → layout_of f.index ≡ Err e
    → FirstFailing (Check.index_size ∷ Check.head_room ∷ Check.magic ∷ Check.version
    ∷ Check.contents_sum ∷ Check.contents_order ∷ Check.symbols_frame ∷ Check.symbols
    ∷ Check.entries ∷ rest) f e
unfolding layout_of
parts_first f e rest fits h =
    let file = f.index in
    elim (bind_err (head_of file) _ e h) [
      | inl a ↦ head_first f e (Check.symbols_frame ∷ Check.symbols ∷ Check.entries ∷ rest) fits a
      | inr a ↦
          let t = a.0 in
          let head = head_takes file t fits a.1 in
          let placed = head_placed file t a.1 in
          let bytes = slice_range file 5 t.series in
          head_passes f e (Check.symbols_frame ∷ Check.symbols ∷ Check.entries ∷ rest) t head.start
          head.contents placed (elim (bind_err (frame_at SymbolsCrc bytes) _ e a.2) [
            | inl b ↦ inl (
              λ o. let r = frame_read file o.0 t fits a.1 o.1 in
                  not_both (frame_at SymbolsCrc bytes) (o.0, r.0) e r.1 b,
              sym (of_frame SymbolsCrc bytes e b),
            )
            | inr b ↦
                let took =
                frame_takes SymbolsCrc bytes b.0
                (IsBytes-take (t.series - 5) (drop 5 file) (IsBytes-drop 5 file fits)) b.1 in
                let framed : HasFrame file b.0.0 = record {
                  start = head.start;
                  t = t;
                  contents = head.contents;
                  placed = placed;
                  stands = (b.0.1, took.parts);
                } in
                inr (
                  (b.0.0, framed),
                  elim (bind_err (symbols_of b.0.0) _ e b.2) [
                    | inl c ↦ inl (
                      λ o.
                          let r = frame_read file o.0 t fits a.1 o.2 in
                          let same : o.0 ≡ b.0.0 =
                          ap (λ (x : List ℕ × List ℕ). x.0)
                          (same_value (frame_at SymbolsCrc bytes) (o.0, r.0) b.0 r.1 b.1) in
                          let read = table_again o.0 o.1 (omega (arith, r.2)) o.3 in
                          not_both (symbols_of b.0.0) o.1 e (ap symbols_of (sym same) ∙ read) c,
                      sym (of_symbols b.0.0 e c),
                    )
                    | inr c ↦
                        let table =
                        table_takes b.0.0 c.0
                        (content_fits file t b.0.0 b.0.1 fits took.parts) c.1 in
                        inr (
                          (b.0.0, c.0, framed, table),
                          elim (bind_err (entries_from (length file) file (series_end t)
                              (rounded t.series)) _ e c.2) [
                                | inl d ↦ inl (
                                  λ o.
                                      not_both (layout_of file) o.0 e
                                      (parts_again file o.0 fits o.1) h,
                                  sym (of_entries (length file) file (series_end t)
                                      (rounded t.series) e d),
                                )
                                | inr d ↦ absurd (ok_not _ _ d.2)
                              ],
                        )
                  ],
                )
          ])
    ]
