-- Theorem 1 holds.
-- Assumes nothing.
use Rattle.theory.specs.Demand.{demand_of}
use Rattle.schedules.specs.Schedule.{UnderPIP}
use Rattle.schedules.specs.Theorem.{Closed, NoneLonger, Theorem1, finer}
use Rattle.schedules.proofs.FactLaws.{obeys}
use Rattle.schedules.proofs.FinerLaws.{whole_unit, constrained_finer, closed_finer, covers_finer}
use Rattle.schedules.proofs.MeetLaws.{in_time}
use Rattle.schedules.proofs.NeededHolds.{needed_holds, kernels_holds, terms_holds, all_read_holds}

bounds : NoneLonger demand_of Closed UnderPIP
bounds v fit X c R u k pos J o S E p =
    in_time (finer k v) J S E (constrained_finer k pos v fit) o (obeys (finer k v) J S E p) X (closed_finer k pos v X c) _ (covers_finer k pos v X R fit.some u)

pub theorem1_holds : Theorem1
theorem1_holds = record { bounds = bounds; whole = whole_unit; needed = needed_holds; kernels = kernels_holds; terms = terms_holds; all_read = all_read_holds }
