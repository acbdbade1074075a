use Rattle.std.proofs.Common.{arith}
use Rattle.data_folder.specs.Sweeping.{names_in}
use Rattle.data_folder.proofs.Sweeps.{nothing_removed, then_kept}
use Rattle.data_folder.proofs.sweeping.sweep.Goals as goal

pub loop-name-init : goal.loop-name-init
loop-name-init g c =
    let f = g.F.Folder in
    record {
      sound = c.requires;
      lasting = λ failed. failed;
      few = omega arith;
      kept = nothing_removed f.shows f.kept f.sound f.moment f.left_since g.met.F.Folder.only_now
          (names_in c.args.kept.now) c.args.folder.now;
    }

pub loop-name-preserved : goal.loop-name-preserved
loop-name-preserved g c =
    let f = g.F.Folder in
    let l = c.loop-name in
    record {
      sound = c.remove_litter-left.ensures.sound;
      lasting = λ failed. c.remove_litter-left.ensures.lasting (l.invariant.lasting failed);
      few = omega (arith, l.invariant.few, c.remove_litter-left.ensures.few);
      kept = then_kept f.shows f.kept f.sound f.moment f.left_since g.met.F.Folder.only_now
          (names_in c.args.kept.now) c.args.folder.now l.folder c.remove_litter-left.new.folder
          l.invariant.kept c.remove_litter-left.ensures.kept;
    }
