-- The first check of an index that fails, of its offset table and the lists that it names.
use Rattle.std.proofs.Common.{◌≡◌, ℕ, ◌^◌, ◌<◌, ◌≤◌, List, ◌∷◌, length, Ok, Err}
use Rattle.std.proofs.Common.{sym, subst, inl, inr, arith}
use Rattle.std.specs.List.{AllByRecursion}
use Rattle.wire.specs.Spelling.{IsBytes}
use Rattle.index_reader.specs.declared.error.IndexError.{IndexError}
use Rattle.index_reader.specs.Layout.{Layout, TableEntry, postings_end}
use Rattle.index_reader.specs.Grammar.{IsLayout}
use Rattle.index_reader.specs.Reading.Steps.{each}
use Rattle.index_reader.specs.Reading.Whole.{layout_of, postings_of}
use Rattle.index_reader.specs.Reading.Postings.{section_at, references_at, lists_at}
use Rattle.index_reader.specs.Reading.Table.{table_content_at, table_at}
use Rattle.index_reader.specs.Spelled.{table_text, AreSections}
use Rattle.index_reader.specs.Checks.{Check, FirstFailing, HasTable, HasFrame}
use Rattle.index_reader.proofs.Whole.{parts_take, parts_again}
use Rattle.index_reader.proofs.Spelling.{is_tabled, frames_spelled}
use Rattle.index_reader.proofs.Again.{end_small}
use Rattle.index_reader.proofs.TableAgain.{tabled_again, frames_again, sections_again}
use Rattle.index_reader.proofs.OnlyErr.{of_table_content, of_table, of_sections, of_lists}
use Rattle.index_reader.proofs.HeadFirst.{not_both, ok_not, same_value, bind_err}

module _ (file : List ℕ) (p : Layout) (fits : IsBytes file) (parts : layout_of file ≡ Ok p) where
  abbrev end : ℕ
  end = postings_end p.contents

  laid : IsLayout file p
  laid = parts_take file p fits parts

  small : length file < 2 ^ 32
  small = omega (arith, laid.placed.short)

  layout_is : (q : Layout) → IsLayout file q → q ≡ p
  layout_is q l = same_value (layout_of file) q p (parts_again file q fits l) parts

  -- what a table is read as
  table_read : (q : Layout) (table : List TableEntry) → HasTable file q table
      → (table_content_at file p.contents ≡ Ok (table_text table))
      × (table_at p.contents.postings end (table_text table) ≡ Ok table)
  table_read q table h =
      let moved = subst (λ (x : Layout). HasTable file x table) (layout_is q h.layout) h in
      let end_is : end ≤ 2 ^ 64 =
      omega (arith, end_small p.contents (length file) laid.placed, small) in
      tabled_again file p.contents table fits small end_is moved.tabled

  module _ (content : List ℕ) (table : List TableEntry)
      (content_is : table_content_at file p.contents ≡ Ok content)
      (table_is : table_at p.contents.postings end content ≡ Ok table) where
    -- there is no other table
    pub one_table : (q : Layout) (other : List TableEntry) → HasTable file q other → other ≡ table
    one_table q other h =
        let r = table_read q other h in
        let same : table_text other ≡ content =
        same_value (table_content_at file p.contents) (table_text other) content r.0 content_is in
        same_value (table_at p.contents.postings end content) other table
        (subst (λ (c : List ℕ). table_at p.contents.postings end c ≡ Ok other) same r.1) table_is

    lists_first : (e : IndexError) (rest : List Check) → HasTable file p table
        → lists_at file end table ≡ Err e
        → FirstFailing (Check.list_frames ∷ Check.lists ∷ rest) file e
    unfolding lists_at
    lists_first e rest tabled h =
        elim (bind_err (each (section_at file end) table) _ e h) [
          | inl a ↦ inl (
            λ o.
                let below =
                subst (λ (x : Layout). AllByRecursion (HasFrame file (postings_end x.contents)) o.1)
                (layout_is o.0 o.2.layout) o.3 in
                let moved =
                subst (λ (x : List TableEntry). AllByRecursion (HasFrame file end) x)
                (one_table o.0 o.1 o.2) below in
                let r = frames_again file end table fits small moved in
                not_both (each (section_at file end) table) r.0 e r.1 a,
            sym (of_sections file end table e a),
          )
          | inr a ↦ inr (
            (p, table, tabled, frames_spelled file end table a.0 fits a.1),
            inl (
              λ o.
                  let below =
                  subst (λ (x : Layout). AreSections file (postings_end x.contents) o.1 o.2)
                  (layout_is o.0 o.3.table_is.layout) o.3.stand in
                  let moved =
                  subst (λ (x : List TableEntry). AreSections file end x o.2)
                  (one_table o.0 o.1 o.3.table_is) below in
                  let r = sections_again file end table o.2 fits small o.3.small moved in
                  let same : r.0 ≡ a.0 =
                  same_value (each (section_at file end) table) r.0 a.0 r.2 a.1 in
                  not_both (each references_at a.0) r.1 e
                  (subst (λ (cs : List (List ℕ)). each references_at cs ≡ Ok r.1) same r.3) a.2,
              sym (of_lists a.0 e a.2),
            ),
          )
        ]

  pub postings_first : (e : IndexError) (rest : List Check) → postings_of file p.contents ≡ Err e
      → FirstFailing (Check.offset_table ∷ Check.list_frames ∷ Check.lists ∷ rest) file e
  unfolding postings_of
  postings_first e rest h =
      let t = p.contents in
      elim (bind_err (table_content_at file t) _ e h) [
        | inl a ↦ inl (
          λ o. not_both (table_content_at file t) (table_text o.1) e (table_read o.0 o.1 o.2).0 a,
          sym (of_table_content file t e a),
        )
        | inr a ↦ elim (bind_err (table_at t.postings end a.0) _ e a.2) [
          | inl b ↦ inl (
            λ o.
                let r = table_read o.0 o.1 o.2 in
                let same : table_text o.1 ≡ a.0 =
                same_value (table_content_at file t) (table_text o.1) a.0 r.0 a.1 in
                not_both (table_at t.postings end a.0) o.1 e
                (subst (λ (c : List ℕ). table_at t.postings end c ≡ Ok o.1) same r.1) b,
            sym (of_table t.postings end a.0 e b),
          )
          | inr b ↦
              let tabled : HasTable file p b.0 = record {
                layout = laid;
                tabled = is_tabled file t a.0 b.0 fits a.1 b.1;
              } in
              inr (
                (p, b.0, tabled),
                elim (bind_err (lists_at file end b.0) _ e b.2) [
                  | inl c ↦ lists_first a.0 b.0 a.1 b.1 e rest tabled c
                  | inr c ↦ absurd (ok_not _ _ c.2)
                ],
              )
        ]
      ]
