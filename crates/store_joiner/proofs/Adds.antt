-- A world with blocks beneath it.
use Rattle.std.proofs.Common.{◌≡◌, ◌+◌, ℕ, ℤ, List, [], ◌∷◌, ◌++◌, Result, Ok, Err, IfErr, IfOk, ap}
use Rattle.std.proofs.Common.{length, length-append, subst, sym, ◌∙◌}
use Rattle.std.specs.Int.{int_max}
use Rattle.head.specs.Heads.{BlockPart, HeadSeries, SnapshotParts, head_part, newest_in, world_of}
use Rattle.head.specs.Resuming.{Denies, MayStand, resumed}
use Rattle.head.specs.Worlds.{World}
use Rattle.head.specs.declared.error.ResumeError.{ResumeError}
use Rattle.head_record.specs.Saved.{Saved}
use Rattle.labels.specs.Contents.{Content}
use Rattle.labels.specs.Parts.{Part, laid_over, over}
use Rattle.labels.proofs.ContentLaws.{is_sorted-over}
use Rattle.store_folder.specs.Origins.{Origin}
use Rattle.store_folder.specs.States.{origin_of, started}
use Rattle.store_joiner.specs.Adds.{beneath, with_beneath}
use Rattle.head.specs.Joins.{parts_in}
use Rattle.block_joiner.proofs.Held.{over_beneath, over_both}
use Rattle.store_joiner.proofs.Joins.{over_joined}

-- what all make is what the own ones make, laid over what the others make
content_beneath : (others own : List BlockPart) (rest : List Part)
    → over [] (parts_in (others ++ own) ++ rest) ≡ laid_over (over [] (parts_in own ++ rest)) (over []
    (parts_in others))
content_beneath others own rest =
    let under = over [] (parts_in others) in
    over_joined [] (others ++ own) rest
    ∙ ap (λ (c : Content). over c rest) (over_both [] others own)
    ∙ sym (over_joined under own rest)
    ∙ over_beneath under (parts_in own ++ rest) (is_sorted-over (parts_in others) [] tt)

abbrev world_from : Content → List HeadSeries → ℤ → ℕ → World
world_from content head floor n =
    record { content = content; newest = newest_in head; floor = floor; blocks = n }

pub beneath_world : (others : List BlockPart) (floor : ℤ) (saved : Saved) (own : List BlockPart)
    → world_of (beneath others floor saved own) ≡ with_beneath others floor (world_of (started saved
    own))
unfolding world_of
beneath_world others floor saved own =
    ap (λ (c : Content). world_from c saved.head (int_max saved.floor floor) (length (others ++ own)))
    (content_beneath others own (head_part saved.head ∷ []))
    ∙ ap (world_from (laid_over (over [] (parts_in own ++ head_part saved.head ∷ [])) (over []
    (parts_in others))) saved.head (int_max saved.floor floor)) (length-append others own)

same_parts : (old new : List BlockPart) (floor other : ℤ) (head series : List HeadSeries)
    → old ≡ new → floor ≡ other → head ≡ series → resumed old floor head ≡ resumed new other series
same_parts old new floor other head series blocks at is =
    ap (λ (x : List BlockPart). resumed x floor head) blocks
    ∙ ap (λ (x : ℤ). resumed new x head) at
    ∙ ap (λ (x : List HeadSeries). resumed new other x) is

pub made_so : {E : Type 0} (r : Result SnapshotParts E) (old new : List BlockPart) (floor other : ℤ)
    (head series : List HeadSeries) → IfOk r (λ s. s ≡ resumed old floor head) → old ≡ new
    → floor ≡ other → head ≡ series → IfOk r (λ s. s ≡ resumed new other series)
made_so (Ok s) old new floor other head series made blocks at is =
    made ∙ same_parts old new floor other head series blocks at is
made_so (Err e) old new floor other head series made blocks at is = tt

pub denied_so : {V : Type 0} (r : Result V ResumeError) (old new : List BlockPart) (floor other : ℤ)
    (head series : List HeadSeries) → IfErr r (λ e. Denies e (MayStand (resumed old floor head)))
    → old ≡ new → floor ≡ other → head ≡ series
    → IfErr r (λ e. Denies e (MayStand (resumed new other series)))
denied_so (Ok v) old new floor other head series denies blocks at is = tt
denied_so (Err e) old new floor other head series denies blocks at is =
    subst (λ (x : SnapshotParts). Denies e (MayStand x))
    (same_parts old new floor other head series blocks at is) denies

pub if_beneath : {E : Type 0} (r : Result SnapshotParts E) (x : SnapshotParts) (w : World)
    → world_of x ≡ w → IfOk r (λ s. s ≡ x) → IfOk r (λ s. world_of s ≡ w)
if_beneath (Ok s) x w is made = ap world_of made ∙ is
if_beneath (Err e) x w is made = tt

-- how many blocks it has
pub counted : (others own : List BlockPart) (floor : ℤ) (first : Origin) (saved : Saved)
    (s : SnapshotParts) (n : ℕ) → n ≡ length s.blocks
    → world_of s ≡ with_beneath others floor (world_of (started saved own))
    → first ≡ origin_of saved own → n ≡ length others + first.world.blocks
unfolding world_of
counted others own floor first saved s n is made begins =
    is
    ∙ (ap (λ (w : World). w.blocks) made
    ∙ ap (λ (o : Origin). length others + o.world.blocks) (sym begins))
