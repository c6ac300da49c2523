-- Runs in which a job takes longer than a length that covers a demand that is too small. No fact about the kernel is broken in them.
use Rattle.std.specs.Prelude.{[], ◌∷◌}
use Rattle.schedules.specs.Wrong.{WrongDemand, no_DB, no_S, no_O, no_F, no_L, once_a_lock, divided_S, next_short, next_ceiling, one_less}
use Rattle.schedules.specs.Broken.{LateRun, drawn, on_cpus}

-- the first runs before the second
abbrev higher_runs : LateRun
higher_runs =
    on_cpus 1 1
    (drawn 0 9 "-" "r"
    ∷ drawn 0 1 "-" "."
    ∷ [])

-- the third runs at the priority of the first, and then the first, before the second
abbrev lower_raised : LateRun
lower_raised =
    on_cpus 1 1
    (drawn 0 9 "1" "aR"
    ∷ drawn 0 2 "-" ".."
    ∷ drawn 0 9 "1" "R."
    ∷ [])

unfoldable pub small_run : WrongDemand → LateRun
-- the first waits for the second
small_run no_DB =
    on_cpus 1 0
    (drawn 0 1 "1" "a"
    ∷ drawn 0 9 "1" "R"
    ∷ [])
-- the second waits for the first, and the other processor is free
small_run no_S =
    on_cpus 2 1
    (drawn 0 9 "1" "R"
    ∷ drawn 0 1 "1" "a"
    ∷ [])
-- the first runs before the second, with a lock that the second does not use
small_run no_O =
    on_cpus 1 1
    (drawn 0 9 "1" "R"
    ∷ drawn 0 1 "-" "."
    ∷ [])
small_run no_F = higher_runs
small_run no_L = lower_raised
-- the first waits for the second at its first request, and for the third at its second
small_run once_a_lock =
    on_cpus 1 0
    (drawn 0 4 "1-1" "aRra"
    ∷ drawn 0 9 "1" "R..."
    ∷ drawn 0 9 "1" "...R"
    ∷ [])
-- the second waits for the first as long as that has the lock, and not half as long
small_run divided_S =
    on_cpus 2 1
    (drawn 0 9 "11" "RR"
    ∷ drawn 0 2 "1" "aa"
    ∷ [])
small_run next_short = higher_runs
small_run next_ceiling = lower_raised
-- nobody is in the way
small_run one_less = on_cpus 1 0 (drawn 0 1 "--" "r" ∷ [])
