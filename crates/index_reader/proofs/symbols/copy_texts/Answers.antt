use Rattle.std.proofs.Common.{◌≡◌, ℕ, List, [], ◌∷◌, ◌++◌, string_bytes, refl, arith}
use Rattle.std.specs.Borrow.{Bor}
use Rattle.std.proofs.lemmas.List.{map_push, length-map, length_push}
use Rattle.index_reader.specs.Seen.{bytes_of, strings_of}
use Rattle.index_reader.proofs.Sound.{moved, ended}
use Rattle.index_reader.proofs.symbols.copy_texts.Goals as goal

pub loop-at-init : goal.loop-at-init
loop-at-init c = record {
  counted = rw c.in_ok-copy.ensures.items refl;
  so_far = rw c.in_ok-copy.ensures.items refl;
}

pub loop-at-preserved : goal.loop-at-preserved
loop-at-preserved c =
    let l = c.loop-at in
    let e : strings_of c.push.new.self.items
    ≡ strings_of l.copy.items ++ string_bytes c.in_ok-text.text ∷ [] =
    rw c.in_ok-push.ensures.items (map_push (λ s. string_bytes s) l.copy.items _) in
    record {
      counted =
          rw c.in_ok-push.ensures.items
          (omega (arith, length_push l.copy.items c.in_ok-text.text, l.invariant.counted));
      so_far =
          rw e (moved (strings_of l.copy.items) (bytes_of c.args.symbols.now) l.at _ _
          c.text_at-symbol.ensures c.in_ok-text.ensures.ok l.invariant.so_far);
    }

pub returns-clause-texts : goal.returns-clause-texts
returns-clause-texts c =
    ended (strings_of c.loop-at.copy.items) (bytes_of c.args.symbols.now) c.loop-at.at (omega (
      arith,
      length-map c.args.symbols.now (λ (s : Bor (List ℕ)). s.now),
    )) c.loop-at.invariant.so_far
