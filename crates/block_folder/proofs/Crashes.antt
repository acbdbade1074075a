-- What a crash leaves of the directory of a block.
use Rattle.std.proofs.Common.{◌≡◌, ◌≢◌, ◌⊎◌, inl, inr, ⊎_elim, ℕ, Bool, true, false, List, [], ◌∷◌}
use Rattle.std.proofs.Common.{◌++◌, refl, sym, ap, subst, ◌∙◌, append_assoc, arith}
use Rattle.std.proofs.Common.{get_or, drop}
use Rattle.std.proofs.lemmas.List.{append-nil}
use Rattle.std.specs.Prelude.{codes, ◌&&◌, ◌==◌, not}
use Rattle.std.specs.List.{list_all}
use Rattle.block_folder.specs.declared.folder.Place.{Place}
use Rattle.block_folder.specs.declared.folder.Files.{Files}
use Rattle.block_folder.specs.Steps.{Call, Make, Write, Sync, Rename, Did, all_done, whole}
use Rattle.block_folder.specs.Trees.{AreSame, File, Happens, IsAt, IsBehind, IsCutOff, IsFree}
use Rattle.block_folder.specs.Trees.{IsName, IsSyncedBy, MayBeLost, MayLeave, Moves, Puts, Tree, path_in}
use Rattle.block_folder.specs.declared.folder.Paths.{Paths}
use Rattle.block_folder.specs.declared.folder.FolderError.TheVariants.{Disk}
use Rattle.block_folder.specs.Steps.{DoesAll, DoesUpToOne}
use Rattle.block_folder.specs.Blocks.{FailsSo, HasBlock, IsNeverHalf, IsPlace, IsWholeAtLast}
use Rattle.block_folder.specs.Blocks.{WritesWhole, calls_at}

-- paths

same_behind : (top xs ys : List ℕ) → top ++ xs ≡ top ++ ys → xs ≡ ys
same_behind [] xs ys e = e
same_behind (x ∷ top) xs ys e = same_behind top xs ys (ap (drop 1) e)

other_paths : (top xs ys : List ℕ) → get_or xs 1 0 ≢ get_or ys 1 0 → top ++ xs ≢ top ++ ys
other_paths top xs ys unlike e =
    unlike (ap (λ (z : List ℕ). get_or z 1 0) (same_behind top xs ys e))

first_same : (x y : ℕ) (xs ys : List ℕ) → x ∷ xs ≡ y ∷ ys → x ≡ y
first_same x y xs ys e = ap (λ (z : List ℕ). get_or z 0 0) e

-- names of entries are told apart, whatever stands behind them
names_same : (a b r s : List ℕ) → IsName a → IsName b → IsBehind r → IsBehind s
    → a ++ r ≡ b ++ s → a ≡ b
names_same [] [] r s a b behind too e = refl
names_same [] (y ∷ ys) [] s a b behind too e = absurd cc
names_same [] (y ∷ ys) (c ∷ cs) s a b behind too e =
    absurd (b.0 (sym (first_same c y cs (ys ++ s) e) ∙ behind))
names_same (x ∷ xs) [] r [] a b behind too e = absurd cc
names_same (x ∷ xs) [] r (c ∷ cs) a b behind too e =
    absurd (a.0 (first_same x c (xs ++ r) cs e ∙ too))
names_same (x ∷ xs) (y ∷ ys) r s a b behind too e =
    let first : x ≡ y = first_same x y (xs ++ r) (ys ++ s) e in
    let rest : xs ≡ ys = names_same xs ys r s a.1 b.1 behind too (ap (drop 1) e) in
    ap (λ (z : ℕ). z ∷ xs) first ∙ ap (λ (zs : List ℕ). y ∷ zs) rest

-- no path lies below two names of one directory
not_both : (p a b path : List ℕ) → IsName a → IsName b → a ≢ b → IsAt (path_in p a) path
    → IsAt (path_in p b) path → ⊥
not_both p a b path is_a is_b two one other =
    let r = one.0 in
    let s = other.0 in
    let e : p ++ (codes "/" ++ (a ++ r)) ≡ p ++ (codes "/" ++ (b ++ s)) =
    sym (append_assoc p (codes "/" ++ a) r) ∙ (sym one.2 ∙ (other.2
    ∙ append_assoc p (codes "/" ++ b) s)) in
    two (names_same a b r s is_a is_b one.1 other.1
    (ap (drop 1) (same_behind p (codes "/" ++ (a ++ r)) (codes "/" ++ (b ++ s)) e)))

both_true : (a b : Bool) → (a && b) ≡ true → (a ≡ true) × (b ≡ true)
both_true true true e = (refl, refl)
both_true true false e = absurd cc
both_true false b e = absurd cc

no_slash : (c : ℕ) → not (c == 47) ≡ true → c ≢ 47
no_slash c e is =
    absurd (let n : not (47 == 47) ≡ true = subst (λ (x : ℕ). not (x == 47) ≡ true) is e in cc)

pub named : (xs : List ℕ) → list_all (λ (c : ℕ). not (c == 47)) xs ≡ true → IsName xs
named [] e = tt
named (x ∷ xs) e =
    let both = both_true (not (x == 47)) (list_all (λ (c : ℕ). not (c == 47)) xs) e in
    (no_slash x both.0, named xs both.1)

-- steps

abbrev Step : Call → Bool → List Did → Tree → Tree → Type 0
Step call done later old mid =
    Happens call done old mid ⊎ (MayBeLost call done later × AreSame old mid)

-- a file that was written lies there, if its directory is synced later
wrote : (path bytes folder name : List ℕ) (later : List Did) (old mid : Tree)
    → Step (Write path bytes) true later old mid → path ≡ path_in folder name → IsName name
    → IsSyncedBy later folder → Puts path (File bytes) old mid
wrote path bytes folder name later old mid step enters is synced =
    ⊎_elim (λ does. does) (λ lost. absurd (lost.0 folder name enters is synced)) step

synced_same : (path : List ℕ) (done : Bool) (later : List Did) (old mid : Tree)
    → Step (Sync path) done later old mid → AreSame old mid
synced_same path done later old mid step = ⊎_elim (λ does. does) (λ lost. lost.1) step

-- the call leaves all that is not at a path
abbrev IsInside : List ℕ → Call → Type 0
IsInside u (Make path) = IsAt u path
IsInside u (Write path bytes) = IsAt u path
IsInside u (Sync path) = Unit {0}
IsInside u (Rename from to) = ⊥

put_elsewhere : (u path x : List ℕ) → IsAt u path → (IsAt u x → ⊥) → x ≢ path
put_elsewhere u path x at away e = away (at.0, at.1, e ∙ at.2)

inside_keeps : (u : List ℕ) (call : Call) (done : Bool) (later : List Did) (old mid : Tree)
    → IsInside u call → Step call done later old mid → (x : List ℕ) → (IsAt u x → ⊥)
    → mid x ≡ old x
inside_keeps u (Make path) done later old mid at step x away =
    ⊎_elim (λ does. does.others x (put_elsewhere u path x at away)) (λ lost. lost.1 x) step
inside_keeps u (Write path bytes) true later old mid at step x away =
    ⊎_elim (λ does. does.others x (put_elsewhere u path x at away)) (λ lost. lost.1 x) step
inside_keeps u (Write path bytes) false later old mid at step x away =
    ⊎_elim (λ does. does.1.others x (put_elsewhere u path x at away)) (λ lost. lost.1 x) step
inside_keeps u (Sync path) done later old mid at step x away =
    synced_same path done later old mid step x
inside_keeps u (Rename from to) done later old mid at step x away = absurd at

abbrev AreInside : List ℕ → List Call → Type 0
AreInside u [] = Unit {0}
AreInside u (call ∷ calls) = IsInside u call × AreInside u calls

leaves_as : (log other : List Did) (old new : Tree) → log ≡ other → MayLeave log old new
    → MayLeave other old new
leaves_as log other old new e leaves = subst (λ (l : List Did). MayLeave l old new) e leaves

-- so a cut off run of such calls leaves all that is not at this path
cut_keeps : (u : List ℕ) (calls : List Call) (log : List Did) (old new : Tree)
    → AreInside u calls → IsCutOff calls log → MayLeave log old new → (x : List ℕ)
    → (IsAt u x → ⊥) → new x ≡ old x
cut_keeps u [] log old new at cut leaves x away =
    let h : AreSame old new = leaves_as log [] old new cut leaves in h x
cut_keeps u (call ∷ calls) log old new at cut leaves x away =
    ⊎_elim
    (λ none. let h : AreSame old new = leaves_as log [] old new none leaves in h x)
    (λ some. ⊎_elim
    (λ last.
    let h : MayLeave ((call, false) ∷ []) old new =
    leaves_as log ((call, false) ∷ []) old new last leaves in
    h.2 x ∙ inside_keeps u call false [] old h.0 at.0 h.1 x away)
    (λ goes.
    let h : MayLeave ((call, true) ∷ goes.0) old new =
    leaves_as log ((call, true) ∷ goes.0) old new goes.1 leaves in
    cut_keeps u calls goes.0 h.0 new at.1 goes.2 h.2 x away
    ∙ inside_keeps u call true goes.0 old h.0 at.0 h.1 x away)
    some)
    cut

-- a run is cut off among the first calls, or after them
cut_apart : (early late : List Call) (log : List Did) → IsCutOff (early ++ late) log
    → IsCutOff early log ⊎ ((more : List Did) × (log ≡ all_done early ++ more) × IsCutOff late more)
cut_apart [] late log cut = inr (log, refl, cut)
cut_apart (call ∷ early) late log cut =
    ⊎_elim
    (λ none. inl (inl none))
    (λ some. ⊎_elim
    (λ last. inl (inr (inl last)))
    (λ goes. ⊎_elim
    (λ before. inl (inr (inr (goes.0, goes.1, before))))
    (λ after. inr (
      after.0,
      goes.1 ∙ ap (λ (l : List Did). (call, true) ∷ l) after.1,
      after.2,
    ))
    (cut_apart early late goes.0 goes.2))
    some)
    cut

-- the calls before the new name

abbrev pub early_calls : List ℕ → List ℕ → List ℕ → List ℕ → List ℕ → List Call
early_calls u chunks index tombstones meta =
    Make u
    ∷ Make (path_in u (codes "chunks"))
    ∷ Write (path_in u (codes "chunks/000001")) chunks
    ∷ Write (path_in u (codes "index")) index
    ∷ Write (path_in u (codes "tombstones")) tombstones
    ∷ Write (path_in u (codes "meta.json")) meta
    ∷ Sync (path_in u (codes "chunks"))
    ∷ Sync u
    ∷ []

abbrev pub late_calls : List ℕ → List ℕ → List ℕ → List Call
late_calls p u b = Rename u b ∷ Sync p ∷ []

are_inside : (u chunks index tombstones meta : List ℕ)
    → AreInside u (early_calls u chunks index tombstones meta)
are_inside u chunks index tombstones meta =
    let in_it = λ (name : List ℕ). codes "/" ++ name in (
      ([], tt, sym (append-nil u)),
      (
        (in_it (codes "chunks"), refl, refl),
        (
          (in_it (codes "chunks/000001"), refl, refl),
          (
            (in_it (codes "index"), refl, refl),
            (
              (in_it (codes "tombstones"), refl, refl),
              ((in_it (codes "meta.json"), refl, refl), (tt, (tt, tt))),
            ),
          ),
        ),
      ),
    )

module _ (u : List ℕ) (files : Files) where
  abbrev Early : List Call
  Early =
      early_calls u (whole files.chunks.now) files.index.now files.tombstones.now files.meta.now

  -- once all of them are done, the files lie there
  pub record IsBuilt (more : List Did) (old new : Tree) : Type 0 where
    pub mid : Tree
    pub has : HasBlock u files mid
    pub beside : (x : List ℕ) → (IsAt u x → ⊥) → mid x ≡ old x
    pub rest : MayLeave more mid new

  built : (more : List Did) (old new : Tree) → MayLeave (all_done Early ++ more) old new
      → IsBuilt more old new
  built more old new h1 =
      let at = are_inside u (whole files.chunks.now) files.index.now files.tombstones.now
      files.meta.now in
      let t1 = h1.0 in
      let h2 = h1.2 in
      let t2 = h2.0 in
      let h3 = h2.2 in
      let t3 = h3.0 in
      let h4 = h3.2 in
      let t4 = h4.0 in
      let h5 = h4.2 in
      let t5 = h5.0 in
      let h6 = h5.2 in
      let t6 = h6.0 in
      let h7 = h6.2 in
      let t7 = h7.0 in
      let h8 = h7.2 in
      let t8 = h8.0 in
      let chunks_folder = path_in u (codes "chunks") in
      let chunks = path_in u (codes "chunks/000001") in
      let index = path_in u (codes "index") in
      let tombstones = path_in u (codes "tombstones") in
      let meta = path_in u (codes "meta.json") in
      let l7 : List Did = (Sync u, true) ∷ more in
      let l6 : List Did = (Sync chunks_folder, true) ∷ l7 in
      let l5 : List Did = (Write meta files.meta.now, true) ∷ l6 in
      let l4 : List Did = (Write tombstones files.tombstones.now, true) ∷ l5 in
      let l3 : List Did = (Write index files.index.now, true) ∷ l4 in
      let l2 : List Did = (Write chunks (whole files.chunks.now), true) ∷ l3 in
      let l1 : List Did = (Make chunks_folder, true) ∷ l2 in
      let c : Puts chunks (File (whole files.chunks.now)) t2 t3 =
      wrote chunks (whole files.chunks.now) chunks_folder (codes "000001") l3 t2 t3 h3.1
      (sym (append_assoc u (codes "/chunks") (codes "/000001"))) (named (codes "000001") refl)
      (inr (inr (inr (inl refl)))) in
      let i : Puts index (File files.index.now) t3 t4 =
      wrote index files.index.now u (codes "index") l4 t3 t4 h4.1 refl (named (codes "index") refl)
      (inr (inr (inr (inl refl)))) in
      let t : Puts tombstones (File files.tombstones.now) t4 t5 =
      wrote tombstones files.tombstones.now u (codes "tombstones") l5 t4 t5 h5.1 refl
      (named (codes "tombstones") refl) (inr (inr (inl refl))) in
      let m : Puts meta (File files.meta.now) t5 t6 =
      wrote meta files.meta.now u (codes "meta.json") l6 t5 t6 h6.1 refl
      (named (codes "meta.json") refl) (inr (inl refl)) in
      let s : AreSame t6 t7 = synced_same chunks_folder true l7 t6 t7 h7.1 in
      let l : AreSame t7 t8 = synced_same u true more t7 t8 h8.1 in
      let on = λ (x : List ℕ). l x ∙ s x in
      let unlike = λ (xs ys : List ℕ) (n : get_or xs 1 0 ≢ get_or ys 1 0). other_paths u xs ys n in
      record {
        mid = t8;
        has = record {
          meta = on meta ∙ m.there;
          index = on index
              ∙ (m.others index (unlike (codes "/index") (codes "/meta.json")
              (λ e. absurd (omega (arith, e))))
              ∙ (t.others index (unlike (codes "/index") (codes "/tombstones")
              (λ e. absurd (omega (arith, e)))) ∙ i.there));
          chunks = on chunks
              ∙ (m.others chunks (unlike (codes "/chunks/000001") (codes "/meta.json")
              (λ e. absurd (omega (arith, e))))
              ∙ (t.others chunks (unlike (codes "/chunks/000001") (codes "/tombstones")
              (λ e. absurd (omega (arith, e))))
              ∙ (i.others chunks (unlike (codes "/chunks/000001") (codes "/index")
              (λ e. absurd (omega (arith, e)))) ∙ c.there)));
          tombstones = on tombstones
              ∙ (m.others tombstones (unlike (codes "/tombstones") (codes "/meta.json")
              (λ e. absurd (omega (arith, e)))) ∙ t.there);
        };
        beside = λ x away.
            l x ∙ (s x
            ∙ (inside_keeps u (Write meta files.meta.now) true l6 t5 t6 at.1.1.1.1.1.0 h6.1 x away
            ∙ (inside_keeps u (Write tombstones files.tombstones.now) true l5 t4 t5 at.1.1.1.1.0
            h5.1 x away
            ∙ (inside_keeps u (Write index files.index.now) true l4 t3 t4 at.1.1.1.0 h4.1 x away
            ∙ (inside_keeps u (Write chunks (whole files.chunks.now)) true l3 t2 t3 at.1.1.0 h3.1
            x away
            ∙ (inside_keeps u (Make chunks_folder) true l2 t1 t2 at.1.0 h2.1 x away
            ∙ inside_keeps u (Make u) true l1 old t1 at.0 h1.1 x away))))));
        rest = h8.2;
      }

-- the new name

moved_whole : (u b : List ℕ) (files : Files) (old new : Tree) → HasBlock u files old
    → Moves u b old new → HasBlock b files new
moved_whole u b files old new has m = record {
  meta = m.moved (codes "/meta.json") refl ∙ has.meta;
  index = m.moved (codes "/index") refl ∙ has.index;
  chunks = m.moved (codes "/chunks/000001") refl ∙ has.chunks;
  tombstones = m.moved (codes "/tombstones") refl ∙ has.tombstones;
}

same_whole : (b : List ℕ) (files : Files) (old new : Tree) → AreSame old new
    → HasBlock b files old → HasBlock b files new
same_whole b files old new same has = record {
  meta = same (path_in b (codes "meta.json")) ∙ has.meta;
  index = same (path_in b (codes "index")) ∙ has.index;
  chunks = same (path_in b (codes "chunks/000001")) ∙ has.chunks;
  tombstones = same (path_in b (codes "tombstones")) ∙ has.tombstones;
}

same_free : (b : List ℕ) (old new : Tree) → AreSame old new → IsFree b old → IsFree b new
same_free b old new same free behind is = same (b ++ behind) ∙ free behind is

same_either : (b : List ℕ) (files : Files) (old new : Tree) → AreSame old new
    → IsFree b old ⊎ HasBlock b files old → IsFree b new ⊎ HasBlock b files new
same_either b files old new same it =
    ⊎_elim (λ free. inl (same_free b old new same free))
    (λ has. inr (same_whole b files old new same has)) it

-- a sync that is cut off
cut_sync : (p : List ℕ) (log : List Did) (old new : Tree) → IsCutOff (Sync p ∷ []) log
    → MayLeave log old new → AreSame old new
cut_sync p log old new cut leaves =
    ⊎_elim
    (λ none. leaves_as log [] old new none leaves)
    (λ some. ⊎_elim
    (λ last x.
    let h : MayLeave ((Sync p, false) ∷ []) old new =
    leaves_as log ((Sync p, false) ∷ []) old new last leaves in
    h.2 x ∙ synced_same p false [] old h.0 h.1 x)
    (λ goes x.
    let h : MayLeave ((Sync p, true) ∷ goes.0) old new =
    leaves_as log ((Sync p, true) ∷ goes.0) old new goes.1 leaves in
    let rest : AreSame h.0 new = leaves_as goes.0 [] h.0 new goes.2 h.2 in
    rest x ∙ synced_same p true goes.0 old h.0 h.1 x)
    some)
    cut

-- what is left after the files were built: the name was given, or not
pub record IsNamed (u b : List ℕ) (old new : Tree) : Type 0 where
  pub mid : Tree
  pub either : Moves u b old mid ⊎ AreSame old mid
  pub rest : AreSame mid new

step_names : (u b : List ℕ) (done : Bool) (later : List Did) (old mid : Tree)
    → Step (Rename u b) done later old mid → Moves u b old mid ⊎ AreSame old mid
step_names u b done later old mid step =
    ⊎_elim (λ does. inl does) (λ lost. inr lost.1) step

cut_name : (p u b : List ℕ) (log : List Did) (old new : Tree) → IsCutOff (late_calls p u b) log
    → MayLeave log old new → IsNamed u b old new
cut_name p u b log old new cut leaves =
    ⊎_elim
    (λ none. record {
      mid = old;
      either = inr (λ x. refl);
      rest = leaves_as log [] old new none leaves;
    })
    (λ some. ⊎_elim
    (λ last.
    let h : MayLeave ((Rename u b, false) ∷ []) old new =
    leaves_as log ((Rename u b, false) ∷ []) old new last leaves in
    record {
      mid = h.0;
      either = step_names u b false [] old h.0 h.1;
      rest = h.2;
    })
    (λ goes.
    let h : MayLeave ((Rename u b, true) ∷ goes.0) old new =
    leaves_as log ((Rename u b, true) ∷ goes.0) old new goes.1 leaves in
    record {
      mid = h.0;
      either = step_names u b true goes.0 old h.0 h.1;
      rest = cut_sync p goes.0 h.0 new goes.2 h.2;
    })
    some)
    cut

-- the law

abbrev pub law_calls : Place → List ℕ → List ℕ → Files → List Call
law_calls place u b files =
    early_calls u (whole files.chunks.now) files.index.now files.tombstones.now files.meta.now
    ++ late_calls place.parent.now u b

module _ (place : Place) (files : Files) (is : IsPlace place) where
  abbrev U : List ℕ
  U = place.unfinished.now

  abbrev B : List ℕ
  B = place.block.now

  abbrev E : List Call
  E = early_calls U (whole files.chunks.now) files.index.now files.tombstones.now files.meta.now

  apart : (path : List ℕ) → IsAt B path → IsAt U path → ⊥
  apart path one other =
      not_both place.parent.now is.own is.other path is.own_is is.other_is is.are_two
      (subst (λ (top : List ℕ). IsAt top path) is.block one)
      (subst (λ (top : List ℕ). IsAt top path) is.unfinished other)

  stays_free : (old new : Tree) → ((x : List ℕ) → (IsAt U x → ⊥) → new x ≡ old x)
      → IsFree B old → IsFree B new
  stays_free old new keeps free behind is_behind =
      keeps (B ++ behind) (apart (B ++ behind) (behind, is_behind, refl)) ∙ free behind is_behind

  pub never_half : IsNeverHalf place files (law_calls place U B files)
  never_half = record {
    whole = λ log old new cut leaves free.
        ⊎_elim
        (λ early. inl (stays_free old new
        (cut_keeps U E log old new
        (are_inside U (whole files.chunks.now) files.index.now files.tombstones.now files.meta.now)
        early leaves) free))
        (λ late.
        let h = leaves_as log (all_done E ++ late.0) old new late.1 leaves in
        let b = built U files late.0 old new h in
        let n = cut_name place.parent.now U B late.0 b.mid new late.2 b.rest in
        same_either B files n.mid new n.rest
        (⊎_elim
        (λ moved. inr (moved_whole U B files b.mid n.mid b.has moved))
        (λ same. inl (same_free B b.mid n.mid same (stays_free old b.mid b.beside free)))
        n.either))
        (cut_apart E (late_calls place.parent.now U B) log cut);
    beside = λ log old new cut leaves path away aside.
        ⊎_elim
        (λ early.
        cut_keeps U E log old new
        (are_inside U (whole files.chunks.now) files.index.now files.tombstones.now files.meta.now)
        early leaves path aside)
        (λ late.
        let h = leaves_as log (all_done E ++ late.0) old new late.1 leaves in
        let b = built U files late.0 old new h in
        let n = cut_name place.parent.now U B late.0 b.mid new late.2 b.rest in
        n.rest path
        ∙ (⊎_elim (λ moved. moved.others path aside away) (λ same. same path) n.either
        ∙ b.beside path aside))
        (cut_apart E (late_calls place.parent.now U B) log cut);
  }

  lasting : (old new : Tree) → MayLeave (all_done (law_calls place U B files)) old new
      → HasBlock B files new
  lasting old new leaves =
      let b = built U files (all_done (late_calls place.parent.now U B)) old new leaves in
      let h : MayLeave ((Rename U B, true) ∷ (Sync place.parent.now, true) ∷ []) b.mid new =
      b.rest in
      let moved : Moves U B b.mid h.0 =
      ⊎_elim (λ does. does)
      (λ lost. absurd (lost.0 place.parent.now is.own is.block is.own_is (inl refl))) h.1 in
      let synced = synced_same place.parent.now true [] h.0 h.2.0 h.2.1 in
      same_whole B files h.2.0 new h.2.2
      (same_whole B files h.0 h.2.0 synced (moved_whole U B files b.mid h.0 b.has moved))

  pub whole_at_last : IsWholeAtLast place files (law_calls place U B files)
  whole_at_last = record { any_moment = never_half; lasting = lasting }

-- the calls at these paths

-- these paths are those of the files of a block in a directory
pub record ArePathsIn (folder : List ℕ) (paths : Paths) : Type 0 where
  pub chunks_folder : paths.chunks_folder.now ≡ path_in folder (codes "chunks")
  pub chunks : paths.chunks.now ≡ path_in folder (codes "chunks/000001")
  pub index : paths.index.now ≡ path_in folder (codes "index")
  pub tombstones : paths.tombstones.now ≡ path_in folder (codes "tombstones")
  pub meta : paths.meta.now ≡ path_in folder (codes "meta.json")

calls_with : Place → Files → List ℕ → List ℕ → List ℕ → List ℕ → List ℕ → List Call
calls_with place files folder chunks index tombstones meta =
    Make place.unfinished.now
    ∷ Make folder
    ∷ Write chunks (whole files.chunks.now)
    ∷ Write index files.index.now
    ∷ Write tombstones files.tombstones.now
    ∷ Write meta files.meta.now
    ∷ Sync folder
    ∷ Sync place.unfinished.now
    ∷ late_calls place.parent.now place.unfinished.now place.block.now

at_paths : (place : Place) (paths : Paths) (files : Files)
    → ArePathsIn place.unfinished.now paths
    → calls_at place paths files ≡ law_calls place place.unfinished.now place.block.now files
unfolding calls_with
at_paths place paths files are =
    let u = place.unfinished.now in
    ap (λ (x : List ℕ). calls_with place files x paths.chunks.now paths.index.now
    paths.tombstones.now paths.meta.now) are.chunks_folder
    ∙ (ap (λ (x : List ℕ). calls_with place files (path_in u (codes "chunks")) x paths.index.now
    paths.tombstones.now paths.meta.now) are.chunks
    ∙ (ap (λ (x : List ℕ). calls_with place files (path_in u (codes "chunks"))
    (path_in u (codes "chunks/000001")) x paths.tombstones.now paths.meta.now) are.index
    ∙ (ap (λ (x : List ℕ). calls_with place files (path_in u (codes "chunks"))
    (path_in u (codes "chunks/000001")) (path_in u (codes "index")) x paths.meta.now)
    are.tombstones
    ∙ ap (λ (x : List ℕ). calls_with place files (path_in u (codes "chunks"))
    (path_in u (codes "chunks/000001")) (path_in u (codes "index"))
    (path_in u (codes "tombstones")) x) are.meta)))

pub written : {D : Type 0} (did : D → List Did → Type 0) (place : Place) (paths : Paths)
    (files : Files) (old new : D) → ArePathsIn place.unfinished.now paths
    → DoesAll did (calls_at place paths files) old new → WritesWhole did place files old new
written did place paths files old new are done = (
  calls_at place paths files,
  done,
  λ is. subst (λ (calls : List Call). IsWholeAtLast place files calls)
      (sym (at_paths place paths files are)) (whole_at_last place files is),
)

pub failed : {D : Type 0} (did : D → List Did → Type 0) (place : Place) (paths : Paths)
    (files : Files) (old new : D) → ArePathsIn place.unfinished.now paths
    → DoesUpToOne did (calls_at place paths files) old new
    → FailsSo did Disk place files old new
failed did place paths files old new are done = (
  calls_at place paths files,
  done,
  λ is. subst (λ (calls : List Call). IsNeverHalf place files calls)
      (sym (at_paths place paths files are)) (never_half place files is),
)
