use Rattle.std.proofs.Common.{refl, arith}
use Rattle.std.proofs.lemmas.Result.{err_from_is_err_and}
use Rattle.std.proofs.lemmas.List.{length-map, length_push}
use Rattle.index_reader.specs.Seen.{strings_of, table_entry_seen, table_seen}
use Rattle.index_reader.specs.Reading.Agreement.{key_at}
use Rattle.index_reader.proofs.Eaches.{items_nil, each_on, each_fails, each_done}
use Rattle.index_reader.proofs.pairs.keys_of_entries.Goals as goal

pub loop-at-init : goal.loop-at-init
loop-at-init c = record {
  counted = rw c.in_ok-keys.ensures.items refl;
  so_far = rw c.in_ok-keys.ensures.items (items_nil _);
}

pub returns-in_err-key-clause-exact : goal.returns-in_err-key-clause-exact
returns-in_err-key-clause-exact c =
    let p =
    err_from_is_err_and c.from_residual-in_err-key.result c.from_residual-in_err-key.ensures.1 in
    rw (p.1, p.2) (each_fails (key_at (strings_of c.args.symbols.now.texts.items))
    c.in_err-key.field-0.0 (table_seen c.args.table.now) c.loop-at.at _ c.loop-at.keys.items _
    c.table_entry_at-listed.ensures.seen c.in_err-key.ensures c.loop-at.invariant.so_far)

pub loop-at-preserved : goal.loop-at-preserved
loop-at-preserved c =
    record {
      counted = rw c.in_ok-push.ensures.items (omega (
        arith,
        length_push c.loop-at.keys.items c.in_ok-key.key,
        c.loop-at.invariant.counted,
      ));
      so_far =
          rw c.in_ok-push.ensures.items
          (each_on (key_at (strings_of c.args.symbols.now.texts.items))
          (table_seen c.args.table.now) c.loop-at.at _ c.in_ok-key.key c.loop-at.keys.items _
          c.table_entry_at-listed.ensures.seen c.in_ok-key.ensures c.loop-at.invariant.so_far);
    }

pub returns-clause-exact : goal.returns-clause-exact
returns-clause-exact c =
    each_done (key_at (strings_of c.args.symbols.now.texts.items)) (table_seen c.args.table.now)
    c.loop-at.at c.loop-at.keys.items _
    (omega (arith, length-map c.args.table.now table_entry_seen)) c.loop-at.invariant.so_far
