-- Request 1/12 holds.
-- Assumes nothing.
use lib.ListN.{length}
use Rattle.field.specs.Number.{first}
use Rattle.field.proofs.Spelled.{time_states, states_time}
use Rattle.field.proofs.AsBefore.{time_before, time_seven}
use Rattle.meaning.proofs.FieldBack.{time_back}
use Rattle.meaning.proofs.Sides.{sides}
use Rattle.promises.specs.Decimals.{Decimals}

pub decimals_hold : Decimals
decimals_hold =
    record {
      entry = λ κs a r x p. p.0;
      reads = λ way s v. (λ e. let t = time_states way s v e.0 e.1 in (t.typed, t.states), λ e. (length (first s), states_time way s _ e.1));
      seven = time_seven;
      as_before = time_before;
      back = time_back;
      sides = sides;
    }
