-- A torn end that is cut shorter is one.
use Rattle.std.proofs.Common.{◌≡◌, inl, inr, ℕ, zero, suc, ◌+◌, ◌-◌, ◌<◌, ◌≤◌, Bool, true, eqb}
use Rattle.std.proofs.Common.{List, [], ◌∷◌, ◌++◌, length, take, min, refl, sym, ap, subst, ◌∙◌}
use Rattle.std.proofs.Common.{arith}
use Rattle.std.proofs.lemmas.Bool.{cases_lt}
use Rattle.std.proofs.lemmas.List.{length-append, length-take, take_all, take_at}
use Rattle.journal.specs.Media.{Elapses, HasAll, Keeps, LeavesOnly, MayLeave}
use Rattle.journal.specs.Records.{file_of, is_blank, is_length, length_text, IsTorn, Recovers}
use Rattle.journal.proofs.Files.{take_past}
use Rattle.journal.proofs.Moments.{started, goes_on}
use Rattle.journal.proofs.Lengths.{both}

in_part : (n len : ℕ) (part rest : List ℕ) → is_length len ≡ true → rest ≡ length_text len ++ part
    → n < len + 12 → IsTorn (take n rest)
in_part n len part rest sized e lt =
    elim (cases_lt n 8) [
      | inl few ↦ inl (omega (arith, length-take n rest))
      | inr le ↦ inr (inl (record {
        len = len;
        part = take (n - 8) part;
        sized = sized;
        parts = ap (take n) e ∙ take_past n (length_text len) part (omega arith);
        short = omega (arith, length-take (n - 8) part);
      }))
    ]

blank_front : (n : ℕ) (rest : List ℕ) → is_blank rest ≡ true → is_blank (take n rest) ≡ true
blank_front zero rest h = refl
blank_front (suc n) [] h = refl
blank_front (suc n) (b ∷ rest) h =
    let p = both (eqb b 0) (is_blank rest) h in
    rw p.0 (blank_front n rest p.1)

pub torn_front : (n : ℕ) (rest : List ℕ) → IsTorn rest → IsTorn (take n rest)
torn_front n rest t =
    elim (cases_lt n (length rest)) [
      | inr all ↦ subst IsTorn (sym (take_all n rest all)) t
      | inl lt ↦ by_case lt t
    ]
  where
    by_case : n < length rest → IsTorn rest → IsTorn (take n rest)
    by_case lt (inl few) = inl (omega (arith, length-take n rest))
    by_case lt (inr (inl c)) = in_part n c.len c.part rest c.sized c.parts (omega (arith, ap length c.parts, length-append (length_text c.len) c.part, c.short))
    by_case lt (inr (inr (inl w))) =
        in_part n (length w.content) (w.content ++ (w.sum ++ [])) rest w.sized w.parts
        (omega (arith, ap length w.parts, length-append w.content (w.sum ++ []), length-append w.sum [], w.four))
    by_case lt (inr (inr (inr b))) = inr (inr (inr (blank_front n rest b)))

-- what is left of a file keeps its contents, where its records are left
pub front_recovers : (n : ℕ) (file : List ℕ) (cs : List (List ℕ)) → Recovers file cs
    → length (file_of cs) ≤ n → Recovers (take n file) cs
front_recovers n file cs r le = record {
  rest = take (n - length (file_of cs)) r.rest;
  whole = ap (take n) r.whole ∙ take_past n (file_of cs) r.rest le;
  each = r.each;
  ends = torn_front (n - length (file_of cs)) r.rest r.ends;
}

pub shorter : (file : List ℕ) (cs : List (List ℕ)) → Recovers file cs
    → length (file_of cs) ≤ length file
shorter file cs r = omega (arith, ap length r.whole, length-append (file_of cs) r.rest)

module _ {M : Type 0} (shows : M → List ℕ → Type 0) (kept : M → ℕ → Type 0) (sound : M
    → Bool) (moment : M → ℕ) (left_since : M → ℕ → List ℕ → Type 0)
    (only_now : (m : M) (bytes : List ℕ) (n : ℕ) (left : List ℕ) → shows m bytes → kept m n
    → left_since m (moment m) left → MayLeave n bytes left) where
  pub cut_keeps : (new : M) (file : List ℕ) (cs : List (List ℕ)) (len : ℕ) → Recovers file cs
      → len ≡ length (file_of cs)
      → shows new (take len file) → kept new len → sound new ≡ true
      → Keeps shows kept sound cs new len
  cut_keeps new file cs len r e w s o = record {
    each = r.each;
    has = record {
      all = subst (shows new) (ap (take len) r.whole ∙ take_at (file_of cs) r.rest len (sym e)) w;
      durable = subst (kept new) e s;
      is_sound = o;
    };
    counted = e;
  }

  pub cut_moments : (old new : M) (file : List ℕ) (cs : List (List ℕ)) (len : ℕ)
      → Recovers file cs → HasAll shows kept sound file old → len ≡ length (file_of cs)
      → ((bytes : List ℕ) (n : ℕ) → shows old bytes → kept old n
      → Elapses (moment old) (moment new) (left_since old) (left_since new) (MayLeave (min len n) bytes))
      → LeavesOnly moment left_since old new (λ left. Recovers left cs)
  cut_moments old new file cs len r h e time =
      let P : List ℕ → Type 0 = λ left. Recovers left cs in
      let front : (left : List ℕ) (n : ℕ) → len ≤ n → left ≡ take n file → P left =
      λ left n le is. subst P (sym is) (front_recovers n file cs r (omega (arith, e))) in
      let size = shorter file cs r in
      goes_on moment left_since old old new P _
      (started moment left_since old P (λ left had. let m = only_now old file (length file) left h.all h.durable had in front left m.n (omega (arith, m.kept, e, size)) m.front))
      (time file (length file) h.all h.durable)
      (λ left m. front left m.n (omega (arith, m.kept, e, size)) m.front)
