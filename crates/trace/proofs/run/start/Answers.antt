-- `run::start` meets its contract. Assumes nothing.
use mathlib.Core.Path.{ap}
use native.Mathlib.Omega.{arith}
use lib.ListN.{replicate}
use Rattle.rules.specs.declared.Setting.TheVariants.{Board}
use Rattle.rules.specs.Sizes.{slots, image_bytes}
use Rattle.rules.specs.Settings.{undo_bytes}
use Rattle.rules.specs.Calls.{Opening}
use Rattle.rules.proofs.OneAnswer.{open_one}
use Rattle.rules.proofs.Steps.{open_row}
use Rattle.trace.specs.declared.types.Phase.TheVariants as phase
use Rattle.trace.specs.Run.{begun}
use Rattle.trace.proofs.run.start.Goals as goal

pub returns : goal.returns
unfolding begun
returns c =
    let opened-at-1 = open_one Board 1 _ _ c.open.ensures (open_row Board 1 (λ e. absurd (omega arith)) (omega arith)) in
    ap (λ (o : Opening). record {
      phase = phase.Unopened;
      place = 1;
      table = o.table;
      image = replicate image_bytes 0;
      undo = replicate (undo_bytes Board) 0;
      changes = replicate slots 0;
      committed = 0;
    }) opened-at-1
