-- Blocks that are taken or added, one after another.
use Rattle.std.proofs.Common.{◌≡◌, ◌+◌, ◌<◌, ◌≤◌, ℕ, suc, List, [], ◌∷◌, ◌++◌, Option, None, Some, arith}
use Rattle.std.proofs.Common.{append_assoc, drop, get_or, length, refl, subst, sym, ap, ◌∙◌}
use Rattle.std.proofs.lemmas.List.{append-nil, drop_all}
use Rattle.std.proofs.Math.Seq.{drop-cons}
use Rattle.std.specs.Borrow.{Bor}
use Rattle.block.specs.Blocks.{Shown}
use Rattle.block_folder.specs.declared.values.Values.{Values}
use Rattle.blocktool.specs.declared.own_blocks.Opened.{Opened}
use Rattle.blocktool.specs.Opening.{AreAdded, AreTaken, HasDigits, HasValues, MayOpen, Taken}
use Rattle.blocktool.specs.Opening.{Takes, names_in}

-- the directory at a place, and those behind it
next_name : (all : List (Bor (List ℕ))) (at : ℕ) (d : Bor (List ℕ)) → at < length all
    → names_in (drop at all) ≡ (get_or all at d).now ∷ names_in (drop (at + 1) all)
next_name all at d within =
    let next : suc at ≡ at + 1 = omega arith in
    ap names_in (drop-cons all at d within)
    ∙ ap (λ (k : ℕ). (get_or all at d).now ∷ names_in (drop k all)) next

module _ {B : Type 0} (may_open : MayOpen B) (own : B) where
  pub take_more : (asked : Option Values) (all : List (Bor (List ℕ))) (at : ℕ) (d : Bor (List ℕ))
      (opened : Opened) (old mid new : Taken) → at < length all
      → may_open own (get_or all at d).now opened → Takes asked opened old mid
      → AreTaken may_open own asked (names_in (drop (at + 1) all)) mid new
      → AreTaken may_open own asked (names_in (drop at all)) old new
  take_more asked all at d opened old mid new within may takes rest =
      subst (λ (names : List (List ℕ)). AreTaken may_open own asked names old new)
      (sym (next_name all at d within)) (opened, mid, may, takes, rest)

  pub add_more : (all : List (Bor (List ℕ))) (at : ℕ) (d : Bor (List ℕ)) (opened : Opened)
      (digits : Option ℕ) (values : Option Values) (count : ℕ) (meant : Values)
      (before after rest : List Shown) (end : Option Values)
      → at < length all → may_open own (get_or all at d).now opened
      → HasDigits opened digits count → HasValues opened values meant
      → after ≡ before ++ opened.block ∷ []
      → ((more : List Shown) (last : Option Values)
      → AreAdded may_open own (names_in (drop at all)) digits values more last
      → AreAdded may_open own (names_in all) None None (before ++ more) last)
      → AreAdded may_open own (names_in (drop (at + 1) all)) (Some count) (Some meant) rest end
      → AreAdded may_open own (names_in all) None None (after ++ rest) end
  add_more all at d opened digits values count meant before after rest end within may has means is
      so_far added =
      let later : AreAdded may_open own (names_in (drop (at + 1) all)) (Some opened.digits)
      (Some opened.values) rest end =
      subst (λ (v : Values). AreAdded may_open own (names_in (drop (at + 1) all)) (Some opened.digits)
      (Some v) rest end) means.0
      (subst (λ (n : ℕ). AreAdded may_open own (names_in (drop (at + 1) all)) (Some n) (Some meant)
      rest end) has.0 added) in
      let same : HasDigits opened digits opened.digits =
      subst (λ (n : ℕ). HasDigits opened digits n) has.0 has in
      let alike : HasValues opened values opened.values =
      subst (λ (v : Values). HasValues opened values v) means.0 means in
      let here : AreAdded may_open own (names_in (drop at all)) digits values (opened.block ∷ rest)
      end =
      subst (λ (names : List (List ℕ)). AreAdded may_open own names digits values
      (opened.block ∷ rest) end) (sym (next_name all at d within))
      (opened, may, refl, same, alike, later) in
      subst (λ (bs : List Shown). AreAdded may_open own (names_in all) None None bs end)
      (sym (ap (λ (bs : List Shown). bs ++ rest) is
      ∙ append_assoc before (opened.block ∷ []) rest))
      (so_far (opened.block ∷ rest) end here)

  pub add_none : (all : List (Bor (List ℕ))) (at : ℕ) (digits : Option ℕ) (values : Option Values)
      (before : List Shown) → length all ≤ at
      → ((more : List Shown) (last : Option Values)
      → AreAdded may_open own (names_in (drop at all)) digits values more last
      → AreAdded may_open own (names_in all) None None (before ++ more) last)
      → AreAdded may_open own (names_in all) None None before values
  add_none all at digits values before end so_far =
      subst (λ (bs : List Shown). AreAdded may_open own (names_in all) None None bs values)
      (append-nil before)
      (so_far [] values (subst (λ (names : List (Bor (List ℕ))). AreAdded may_open own
      (names_in names) digits values [] values) (sym (drop_all at all end)) refl))
