-- What the parts that were read make together.
use Rattle.std.proofs.Common.{◌≡◌, ◌+◌, ◌-◌, ◌<◌, ◌≤◌, ℕ, List, [], ◌++◌, length, take, drop}
use Rattle.std.proofs.Common.{Option, Ok, Err, refl, sym, ap, ◌∙◌, subst, arith, inl, inr}
use Rattle.std.proofs.Common.{append_assoc, append-nil, length-append, length-drop, take-append-drop}
use Rattle.std.proofs.Math.Seq.{take-append-add}
use lib.Seq.{length-take-le}
use Rattle.std.specs.Io.KnownBytes.{Consumes}
use Rattle.std.proofs.KnownBytes.{Consumes-trans}
use Rattle.httparse.specs.Grammar.{RequestHead, print_request}
use Rattle.waiting_room.specs.declared.frame.Frame.{Frame}
use Rattle.waiting_room.specs.declared.frame.LengthFault.{LengthFault}
use Rattle.waiting_room.specs.declared.source.Missed.{Missed}
use Rattle.waiting_room.specs.declared.reading.End.{End}
use Rattle.waiting_room.specs.declared.reading.End.TheVariants.{Whole, Astray, Closed, CutShort}
use Rattle.waiting_room.specs.declared.reading.End.TheVariants.{Silent, Late, Failed}
use Rattle.waiting_room.specs.Fields.{IsHeadIn}
use Rattle.waiting_room.specs.Framing.{HasHead, IsRequest, IsBegun}
use Rattle.waiting_room.specs.Coming.{Comes, HeadEnds, IsStop, IsTold, IsHanded}

-- the head's bytes, where it ends
head_end : (most : ℕ) (come : List ℕ) (frame : Frame) (h : RequestHead)
    → IsHeadIn most come frame h → length (print_request h) ≡ frame.end
head_end most come frame h is =
    let whole : length come ≡ length (print_request h) + length (drop frame.end come) =
    ap length is.reads.1 ∙ length-append (print_request h) (drop frame.end come) in
    let rest : length (drop frame.end come) ≡ length come - frame.end =
    length-drop frame.end come in
    let within = is.within in
    omega (arith, whole, rest, within)

-- all that came, by its head
grown : (most : ℕ) (come more : List ℕ) (frame : Frame) (h : RequestHead)
    → IsHeadIn most come frame h
    → come ++ more ≡ print_request h ++ (drop frame.end come ++ more)
grown most come more frame h is =
    ap (λ l. l ++ more) is.reads.1 ∙ append_assoc (print_request h) (drop frame.end come) more

has_head : (most : ℕ) (come more : List ℕ) (frame : Frame) (h : RequestHead)
    → IsHeadIn most come frame h → length come ≤ 8192
    → HasHead (come ++ more) h (drop frame.end come ++ more)
has_head most come more frame h is fits =
    let ends = head_end most come frame h is in
    let within = is.within in
    record {
      reads = (is.reads.0, grown most come more frame h is);
      few = is.few;
      short = omega (arith, ends, within, fits);
    }

rest_length : (come more : List ℕ) (frame : Frame) → frame.end ≤ length come
    → length (drop frame.end come ++ more) + frame.end ≡ length (come ++ more)
rest_length come more frame within =
    let a = length-append (drop frame.end come) more in
    let b = length-append come more in
    let c = length-drop frame.end come in
    omega (arith, a, b, c, within)

comes_early : (most : ℕ) (bytes : List ℕ) (end : End) → HeadEnds bytes end → Comes most bytes end
comes_early most bytes Whole p = absurd p
comes_early most bytes Astray (inl bad) = inl bad
comes_early most bytes Astray (inr long) = inr (inl long)
comes_early most bytes Closed p = p
comes_early most bytes CutShort p = (p.0, inl p.1)
comes_early most bytes Silent (inl none) = inl none
comes_early most bytes Silent (inr begun) = inr (inl begun)
comes_early most bytes Late (inl none) = inl none
comes_early most bytes Late (inr begun) = inr (inl begun)
comes_early most bytes Failed (inl none) = inl none
comes_early most bytes Failed (inr begun) = inr (inl begun)

-- nothing came behind what is handed over
handed_all : (most : ℕ) (a b : Option (List ℕ)) (last : Option Missed) (bytes : List ℕ) (end : End)
    → Comes most bytes end → Consumes a b bytes → IsTold b last end
    → IsHanded most a b last bytes end
handed_all most a b last bytes end comes taken told = record {
  comes = comes;
  more = [];
  front = subst (Consumes a b) (sym (append-nil bytes)) taken;
  all = λ other. refl;
  told = told;
}

pub handed_early : (most : ℕ) (a b : Option (List ℕ)) (last : Option Missed) (bytes : List ℕ)
    (end : End) → HeadEnds bytes end → Consumes a b bytes → IsTold b last end
    → IsHanded most a b last bytes end
handed_early most a b last bytes end ends taken told =
    handed_all most a b last bytes end (comes_early most bytes end ends) taken told

pub handed_astray : (most : ℕ) (a b : Option (List ℕ)) (last : Option Missed) (come : List ℕ)
    (frame : Frame) (h : RequestHead) (fault : LengthFault) → IsHeadIn most come frame h
    → length come ≤ 8192 → frame.length ≡ Err fault → Consumes a b come
    → IsHanded most a b last come Astray
handed_astray most a b last come frame h fault is fits told taken =
    let head : HasHead come h (drop frame.end come) = subst (λ l. HasHead l h (drop frame.end come))
    (append-nil come) (subst (HasHead (come ++ []) h) (append-nil (drop frame.end come))
    (has_head most come [] frame h is fits)) in
    handed_all most a b last come Astray
    (inr (inr (h, fault, (drop frame.end come, head, sym is.length_is ∙ told)))) taken tt

begun : (most : ℕ) (come bs all : List ℕ) (frame : Frame) (h : RequestHead) (n : ℕ)
    → IsHeadIn most come frame h → length come ≤ 8192 → frame.length ≡ Ok n
    → all ≡ come ++ bs → length all < frame.end + n → IsBegun most all
begun most come bs all frame h n is fits told same less =
    let there : length (come ++ bs) < frame.end + n =
    subst (λ l. length l < frame.end + n) same less in
    let size = rest_length come bs frame is.within in
    subst (IsBegun most) (sym same) (inr (
      h,
      drop frame.end come ++ bs,
      n,
      has_head most come bs frame h is fits,
      sym is.length_is ∙ told,
      omega (arith, size, there),
    ))

comes_later : (most : ℕ) (all : List ℕ) (end : End) → 0 < length all → IsBegun most all
    → IsStop all end → Comes most all end
comes_later most all Whole some part stop = absurd stop
comes_later most all Astray some part stop = absurd stop
comes_later most all Closed some part stop = stop
comes_later most all CutShort some part stop = (some, part)
comes_later most all Silent some part stop = inr part
comes_later most all Late some part stop = inr part
comes_later most all Failed some part stop = inr part

pub handed_part : (most : ℕ) (a b c : Option (List ℕ)) (last : Option Missed)
    (come bs all : List ℕ) (frame : Frame) (h : RequestHead) (n : ℕ) (end : End)
    → IsHeadIn most come frame h → 0 < length come → length come ≤ 8192 → frame.length ≡ Ok n
    → all ≡ come ++ bs → length all < frame.end + n → IsStop all end
    → Consumes a b come → Consumes b c bs → IsTold c last end → IsHanded most a c last all end
handed_part most a b c last come bs all frame h n end is some fits told same less stop first then why =
    let size : length all ≡ length come + length bs = ap length same ∙ length-append come bs in
    let here : 0 < length all = omega (arith, size, some) in
    handed_all most a c last all end
    (comes_later most all end here (begun most come bs all frame h n is fits told same less) stop)
    (subst (Consumes a c) (sym same) (Consumes-trans a b c come bs first then)) why

cut_request : (most : ℕ) (come bs all : List ℕ) (frame : Frame) (h : RequestHead) (n : ℕ)
    → IsHeadIn most come frame h → length come ≤ 8192 → frame.length ≡ Ok n
    → all ≡ come ++ bs → frame.end + n ≤ length all → IsRequest most (take (frame.end + n) all)
cut_request most come bs all frame h n is fits told same whole =
    let rest = drop frame.end come ++ bs in
    let there : frame.end + n ≤ length (come ++ bs) = subst (λ l. frame.end + n ≤ length l) same whole in
    let size = rest_length come bs frame is.within in
    let room : n ≤ length rest = omega (arith, size, there) in
    let count : length (take n rest) ≡ n = length-take-le n rest room in
    let spelled : take (frame.end + n) all ≡ print_request h ++ take n rest =
    ap (take (frame.end + n)) (same ∙ grown most come bs frame h is)
    ∙ ap (λ k. take (k + n) (print_request h ++ rest)) (sym (head_end most come frame h is))
    ∙ take-append-add (print_request h) rest n in
    record {
      h = h;
      body = take n rest;
      head = record {
        reads = (is.reads.0, spelled);
        few = is.few;
        short = (has_head most come bs frame h is fits).short;
      };
      length_is = sym is.length_is ∙ told ∙ ap Ok (sym count);
    }

pub handed_whole : (most : ℕ) (a b c : Option (List ℕ)) (last : Option Missed)
    (come bs all : List ℕ) (frame : Frame) (h : RequestHead) (n : ℕ)
    → IsHeadIn most come frame h → length come ≤ 8192 → frame.length ≡ Ok n
    → all ≡ come ++ bs → frame.end + n ≤ length all → Consumes a b come → Consumes b c bs
    → IsHanded most a c last (take (frame.end + n) all) Whole
handed_whole most a b c last come bs all frame h n is fits told same whole first then = record {
  comes = cut_request most come bs all frame h n is fits told same whole;
  more = drop (frame.end + n) all;
  front = subst (Consumes a c) (sym same ∙ sym (take-append-drop (frame.end + n) all))
      (Consumes-trans a b c come bs first then);
  all = λ other. absurd (other refl);
  told = tt;
}
