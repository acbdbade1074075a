-- The members of a label set, in the order of its labels, and their text.
use Rattle.std.proofs.Common.{◌≡◌, ℕ, ◌+◌, suc, List, [], ◌∷◌, ◌++◌, true, refl, sym, ap, ◌∙◌}
use Rattle.std.proofs.Common.{append_assoc, arith, nat_cmp, Less, Greater}
use Rattle.std.specs.Prelude.{fold, codes, decimal}
use Rattle.std.specs.Cmp.Lexicographic.{slice_cmp}
use Rattle.std.specs.Ordering.{ordering_reverse}
use Rattle.std.specs.List.{AllByRecursion}
use Rattle.std.proofs.lemmas.Cmp.{nat_list_cmp_total}
use Rattle.json.specs.Print.{quoted, escape_byte}
use Rattle.serde_json.specs.Data.{string, object, Members, no_members, member, put}
use Rattle.serde_json.specs.Written.{compact_text, members_text}
use Rattle.labels.specs.Labels.{Labels, IsByName}
use Rattle.labels.specs.Rows.{Row}
use Rattle.cover.specs.declared.certificate.Interval.{Interval}
use Rattle.cover.specs.declared.part_cover.PartAnswer.{PartAnswer}
use Rattle.postings.specs.declared.part_name.PartName.{PartName}
use Rattle.block_search.specs.declared.answered.AnsweredPart.{AnsweredPart}
use Rattle.answers.specs.Body.{label_members, row_data, list_data, sample_data, interval_data}
use Rattle.answers.specs.Body.{verdict_data, searched_data, skipped_data, part_data, name_text}
use Rattle.answers.specs.Body.{natural, body_text}
use Rattle.answers.specs.AfterCommas.{labels_after_commas, with_bracket}

abbrev in_order : Labels → Members
in_order [] = no_members
in_order (p ∷ ps) = member p.0 (string p.1) (in_order ps)

abbrev put_all : Members → Labels → Members
put_all ms ps = fold (λ members pair. put pair.0 (string pair.1) members) ms ps

-- each name before a name
abbrev AreBelow : List ℕ → Labels → Type 0
AreBelow name ps = AllByRecursion (λ p. slice_cmp nat_cmp p.0 name ≡ Less) ps

put_last : (done : Labels) (p : List ℕ × List ℕ) → AreBelow p.0 done
    → put p.0 (string p.1) (in_order done) ≡ in_order (done ++ p ∷ [])
put_last [] p h = refl
put_last (first ∷ done) p h =
    let above : slice_cmp nat_cmp p.0 first.0 ≡ Greater =
    nat_list_cmp_total.antisymm p.0 first.0 ∙ ap ordering_reverse h.0 in
    rw above (ap (member first.0 (string first.1)) (put_last done p h.1))

-- the names rise, from a name on
abbrev Rise : Labels → Type 0
Rise [] = Unit {0}
Rise (p ∷ []) = Unit {0}
Rise (p ∷ q ∷ ps) = (slice_cmp nat_cmp p.0 q.0 ≡ Less) × Rise (q ∷ ps)

rise : (ps : Labels) → IsByName ps → Rise ps
rise [] h = tt
rise (p ∷ []) h = tt
rise (p ∷ q ∷ ps) h = (
  h 0 p (omega arith),
  rise (q ∷ ps) (λ k d lt.
      let e : suc k + 1 ≡ suc (k + 1) = omega arith in rw e at (h (suc k) d (omega arith))),
)

below_more : (done : Labels) (p q : List ℕ × List ℕ) → AreBelow p.0 done
    → slice_cmp nat_cmp p.0 q.0 ≡ Less → AreBelow q.0 (done ++ p ∷ [])
below_more [] p q h less = (less, tt)
below_more (first ∷ done) p q h less =
    (nat_list_cmp_total.trans first.0 p.0 q.0 h.0 less, below_more done p q h.1 less)

put_rest : (ps done : Labels) (p : List ℕ × List ℕ) → AreBelow p.0 done → Rise (p ∷ ps)
    → put_all (in_order done) (p ∷ ps) ≡ in_order (done ++ p ∷ ps)
put_rest [] done p below rising = put_last done p below
put_rest (q ∷ ps) done p below rising =
    ap (λ ms. put_all ms (q ∷ ps)) (put_last done p below)
    ∙ put_rest ps (done ++ p ∷ []) q (below_more done p q below rising.0) rising.1
    ∙ ap in_order (append_assoc done (p ∷ []) (q ∷ ps))

members_rise : (ps : Labels) → Rise ps → label_members ps ≡ in_order ps
members_rise [] h = refl
members_rise (p ∷ ps) h = put_rest ps [] p tt h

later_in_order : (ps : Labels)
    → members_text true (in_order ps) ≡ labels_after_commas ps ++ 125 ∷ []
later_in_order [] = refl
later_in_order (p ∷ ps) =
    ap (λ s. 44 ∷ (quoted p.0 ++ 58 ∷ (quoted p.1 ++ s))) (later_in_order ps)
    ∙ ap (λ s. 44 ∷ (quoted p.0 ++ 58 ∷ s))
    (sym (append_assoc (quoted p.1) (labels_after_commas ps) (125 ∷ [])))
    ∙ ap (λ s. 44 ∷ s)
    (sym (append_assoc (quoted p.0) (58 ∷ (quoted p.1 ++ labels_after_commas ps)) (125 ∷ [])))
    ∙ ap (λ s. 44 ∷ (s ++ 125 ∷ []))
    (sym (append_assoc (quoted p.0) (58 ∷ quoted p.1) (labels_after_commas ps)))

opened_in_order : (ps : Labels)
    → with_bracket 123 (labels_after_commas ps) ++ 125 ∷ [] ≡ compact_text (object (in_order ps))
opened_in_order [] = refl
opened_in_order (p ∷ ps) =
    sym (ap (λ s. 123 ∷ (quoted p.0 ++ 58 ∷ (quoted p.1 ++ s))) (later_in_order ps)
    ∙ ap (λ s. 123 ∷ (quoted p.0 ++ 58 ∷ s))
    (sym (append_assoc (quoted p.1) (labels_after_commas ps) (125 ∷ [])))
    ∙ ap (λ s. 123 ∷ s)
    (sym (append_assoc (quoted p.0) (58 ∷ (quoted p.1 ++ labels_after_commas ps)) (125 ∷ [])))
    ∙ ap (λ s. 123 ∷ (s ++ 125 ∷ []))
    (sym (append_assoc (quoted p.0) (58 ∷ quoted p.1) (labels_after_commas ps))))

-- the object of a label set
pub opened_labels : (ps : Labels) → IsByName ps
    → with_bracket 123 (labels_after_commas ps) ++ 125 ∷ []
    ≡ compact_text (object (label_members ps))
opened_labels ps h =
    opened_in_order ps ∙ sym (ap (λ ms. compact_text (object ms)) (members_rise ps (rise ps h)))

-- the texts of objects
pub row_text : (r : Row) → 44 ∷ compact_text (row_data r)
    ≡ codes ",{\"labels\":" ++ (compact_text (object (label_members r.0))
    ++ (codes ",\"samples\":" ++ (compact_text (list_data sample_data r.1) ++ 125 ∷ [])))
unfolding escape_byte
row_text r = refl

pub interval_text : (i : Interval) → 44 ∷ compact_text (interval_data i)
    ≡ codes ",{\"from\":" ++ (decimal i.from ++ (codes ",\"until\":" ++ (decimal i.until
    ++ (codes ",\"verdict\":" ++ (compact_text (verdict_data i.verdict) ++ 125 ∷ [])))))
unfolding escape_byte
interval_text i = refl

pub searched_text : (a : PartAnswer) → compact_text (searched_data a)
    ≡ codes "{\"intervals\":" ++ (compact_text (list_data interval_data a.cover.certificate.items)
    ++ (codes ",\"part\":" ++ (quoted (name_text a.part)
    ++ (codes ",\"rows\":"
    ++ (compact_text (list_data row_data a.rows.items) ++ (codes ",\"separators\":"
    ++ (compact_text (list_data natural a.cover.separators.items) ++ 125 ∷ [])))))))
unfolding escape_byte
searched_text a = refl

pub skipped_text : (name : PartName) → compact_text (skipped_data name)
    ≡ codes "{\"part\":" ++ (quoted (name_text name) ++ codes ",\"skipped\":true}")
unfolding escape_byte
skipped_text name = refl

pub whole_text : (parts : List AnsweredPart) (rows : List Row)
    → body_text parts rows ≡ codes "{\"parts\":" ++ (compact_text (list_data part_data parts)
    ++ (codes ",\"rows\":" ++ (compact_text (list_data row_data rows) ++ 125 ∷ [])))
unfolding escape_byte
whole_text parts rows = refl

-- three parts, one after another
pub joined_3 : (old a b c n1 n2 n3 : List ℕ) → n1 ≡ old ++ a → n2 ≡ n1 ++ b → n3 ≡ n2 ++ c
    → n3 ≡ old ++ (a ++ (b ++ c))
joined_3 old a b c n1 n2 n3 h1 h2 h3 = rw (h3, h2, h1) (simp append_assoc)

-- four parts, one after another
pub joined_4 : (old a b c d n1 n2 n3 n4 : List ℕ) → n1 ≡ old ++ a → n2 ≡ n1 ++ b → n3 ≡ n2 ++ c
    → n4 ≡ n3 ++ d → n4 ≡ old ++ (a ++ (b ++ (c ++ d)))
joined_4 old a b c d n1 n2 n3 n4 h1 h2 h3 h4 = rw (h4, h3, h2, h1) (simp append_assoc)

-- five parts, one after another
pub joined_5 : (old a b c d e n1 n2 n3 n4 n5 : List ℕ) → n1 ≡ old ++ a → n2 ≡ n1 ++ b → n3 ≡ n2 ++ c
    → n4 ≡ n3 ++ d → n5 ≡ n4 ++ e
    → n5 ≡ old ++ (a ++ (b ++ (c ++ (d ++ e))))
joined_5 old a b c d e n1 n2 n3 n4 n5 h1 h2 h3 h4 h5 = rw (h5, h4, h3, h2, h1) (simp append_assoc)

-- seven parts, one after another
pub joined_7 : (old a b c d e f g n1 n2 n3 n4 n5 n6 n7 : List ℕ) → n1 ≡ old ++ a → n2 ≡ n1 ++ b
    → n3 ≡ n2 ++ c → n4 ≡ n3 ++ d → n5 ≡ n4 ++ e → n6 ≡ n5 ++ f → n7 ≡ n6 ++ g
    → n7 ≡ old ++ (a ++ (b ++ (c ++ (d ++ (e ++ (f ++ g))))))
joined_7 old a b c d e f g n1 n2 n3 n4 n5 n6 n7 h1 h2 h3 h4 h5 h6 h7 =
    rw (h7, h6, h5, h4, h3, h2, h1) (simp append_assoc)

-- nine parts, one after another
pub joined_9 : (old a b c d e f g h i n1 n2 n3 n4 n5 n6 n7 n8 n9 : List ℕ) → n1 ≡ old ++ a
    → n2 ≡ n1 ++ b → n3 ≡ n2 ++ c → n4 ≡ n3 ++ d → n5 ≡ n4 ++ e → n6 ≡ n5 ++ f → n7 ≡ n6 ++ g
    → n8 ≡ n7 ++ h → n9 ≡ n8 ++ i
    → n9 ≡ old ++ (a ++ (b ++ (c ++ (d ++ (e ++ (f ++ (g ++ (h ++ i))))))))
joined_9 old a b c d e f g h i n1 n2 n3 n4 n5 n6 n7 n8 n9 h1 h2 h3 h4 h5 h6 h7 h8 h9 =
    rw (h9, h8, h7, h6, h5, h4, h3, h2, h1) (simp append_assoc)
