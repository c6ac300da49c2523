-- `rounds::outcome_of` meets its contract. Assumes nothing.
use Rattle.std.proofs.Common.{◌≡◌, true, false, Some, ap, arith}
use Rattle.theory.specs.Rounds.{counted_from}
use Rattle.rounds.specs.Outcome.{is_sound, outcome_of}
use Rattle.rounds.proofs.SoundLaws.{test_sound}
use Rattle.rounds.proofs.outcome_of.Goals as goal

pub returns-then-not-is_sound : goal.returns-then-not-is_sound
unfolding outcome_of
returns-then-not-is_sound c =
    let unsound : is_sound c.args.s c.args.deadline ≡ false = cc in
    rw unsound

-- none allowed
pub returns-then-allowance-eq0 : goal.returns-then-allowance-eq0
unfolding outcome_of counted_from
returns-then-allowance-eq0 c =
    let sound : is_sound c.args.s c.args.deadline ≡ true = cc in
    rw (sound, c.if-allowance-eq0.true)

pub iterate-requires : goal.iterate-requires
iterate-requires c = (test_sound c.args.s c.args.deadline cc, omega arith)

pub returns : goal.returns
unfolding outcome_of
returns c =
    let sound : is_sound c.args.s c.args.deadline ≡ true = cc in
    rw sound (ap Some c.iterate.ensures)
