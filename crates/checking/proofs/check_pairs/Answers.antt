use Rattle.std.proofs.Common.{◌≡◌, refl, sym, ◌∙◌, arith, rules}
use Rattle.basics.specs.Over.{sum_to}
use Rattle.basics.proofs.SumLaws.{sum_more}
use Rattle.table.specs.Faults.{first_fault}
use Rattle.table.specs.Rules.{pair_fault_of, pairs_fault}
use Rattle.table.proofs.FirstLaws.{first_more, first_at}
use Rattle.checking.proofs.check_pairs.Goals as goal
use Rattle.checking.proofs.check_pairs.Goals.{After-pair}

pub loop-p-init : goal.loop-p-init
unfolding sum_to first_fault
loop-p-init c = record { small = omega arith; summed = refl; fine = refl }

-- what the call found is the fault of this pair, whose sum is the code's
said : (c : goal.After-pair) → pair_fault_of c.args.place c.args.x c.loop-p.p-index ≡ c.pair.result
said c = rw (sum_more, ← c.loop-p.invariant.summed) (search (rules, sym c.pair.ensures))

pub loop-p-preserved : goal.loop-p-preserved
loop-p-preserved c =
    let l = c.loop-p in
    record {
      small = omega arith;
      summed = rw (sum_more, ← l.invariant.summed) (search rules);
      fine = rw (first_more, l.invariant.fine) (said (goal.at.loop-p-preserved c).After-pair ∙ c.in_ok-pair.was);
    }

pub returns-in_err-pair : goal.returns-in_err-pair
unfolding pairs_fault
returns-in_err-pair c =
    let l = c.loop-p in
    let e : c.from_residual.result ≡ c.pair.result = search rules in
    e ∙ c.in_err-pair.was ∙ sym (first_at 16 l.p-index _ _ (omega arith) l.invariant.fine (said (goal.at.returns-in_err-pair c).After-pair ∙ c.in_err-pair.was))

pub returns : goal.returns
unfolding pairs_fault
returns c =
    let l = c.loop-p in
    let e : l.p-index ≡ 16 = omega arith in
    cc
