-- The floor of each client that is made or kept.
use Rattle.std.proofs.Common.{arith}
use Rattle.ft_laws_compaction.proofs.FloorSteps.{entry-above, floor-never-falls, floor-stays}
use Rattle.ft_laws_compaction.proofs.numbers.floor.Goals as goal

pub returns-clause-stays : goal.returns-clause-stays
returns-clause-stays c = λ start kept after step h e fits. floor-stays start kept after step h e fits

pub returns-clause-never_falls : goal.returns-clause-never_falls
returns-clause-never_falls c = λ start kept after steps h s fits. floor-never-falls start h s fits

pub returns-clause-above : goal.returns-clause-above
returns-clause-above c = λ start kept after steps entry h s fits e op. (
    let l = floor-never-falls start h s fits in
    let m = entry-above after entry e op in
    omega arith)
