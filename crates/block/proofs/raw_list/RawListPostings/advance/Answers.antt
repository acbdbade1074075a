use Rattle.std.proofs.Common.{◌≡◌, ℕ, ◌+◌, ◌<◌, ◌≤◌, List, [], length, drop, Option, refl, sym, ap}
use Rattle.std.proofs.Common.{◌∙◌, arith}
use Rattle.std.specs.Prelude.{slice_get}
use Rattle.std.specs.List.Sorted.{IsStrictlyIncreasing}
use Rattle.std.proofs.lemmas.List.{drop_all}
use Rattle.labels.specs.Ascending.{rest_of}
use Rattle.block.specs.Remaining.{IsAtPlace}
use Rattle.block.proofs.Places.{rest_at}
use Rattle.block.proofs.raw_list.RawListPostings.advance.Goals as goal

stepped : (refs read found old : List ℕ) (at : ℕ) → read ≡ refs → found ≡ read → drop at refs ≡ old
    → drop (at + 1) found ≡ rest_of old
stepped refs read found old at e f v =
    ap (drop (at + 1)) (f ∙ e) ∙ sym (rest_at refs at) ∙ ap rest_of v

stayed : (refs read old : List ℕ) (at : ℕ) → read ≡ refs → drop at refs ≡ old → length read ≤ at
    → drop at read ≡ rest_of old
stayed refs read old at e v le =
    let none : drop at read ≡ [] = drop_all at read le in
    let none2 : old ≡ [] = sym v ∙ ap (drop at) (sym e) ∙ none in
    none ∙ sym (ap rest_of none2)

next_place : (refs read found : List ℕ) (at : ℕ) (head : Option ℕ) → read ≡ refs → found ≡ read
    → IsStrictlyIncreasing refs → at < length read → head ≡ slice_get read (at + 1)
    → IsAtPlace found (at + 1) head
next_place refs read found at head e f up lt h =
    let up2 : IsStrictlyIncreasing found = rw (f, e) up in
    let size : length found ≡ length read = ap length f in
    record {
      within = omega arith;
      increasing = up2;
      head_is = h ∙ ap (λ (xs : List ℕ). slice_get xs (at + 1)) (sym f);
    }

pub returns-then-self-len-clause-list : goal.returns-then-self-len-clause-list
returns-then-self-len-clause-list c =
    stepped c.args.self.now.entries.0 _ _ _ c.args.self.now.at refl c.head_of-self.ensures.same refl
