-- The workload of one task: document 01, "The analysis" (equations 4 and 5), and from request 3/12 on at most t. The quotient of equation 11.
use Rattle.std.specs.Prelude.{ℕ, zero, suc, ◌+◌, ◌-◌, ◌*◌, ◌/◌, min}

-- "with a = .., q = a divided by T rounded down, it is q × x + the smaller of x and a − q × T"
unfoldable pub jobs : ℕ → ℕ → ℕ → ℕ
jobs T x a = a / T * x + min x (a - a / T * T)

-- document 01's workload, uncapped T D t x: "0 if t is 0; else with a = t − x + D", which is t + D − x, since x ≤ C ≤ D
unfoldable pub uncapped : ℕ → ℕ → ℕ → ℕ → ℕ
uncapped T D zero x = 0
uncapped T D (suc t) x = jobs T x (suc t + D - x)

-- request 3/12: "One task cannot run more than t in a window of t. From now on the workload is the smaller of t and the old one."
-- What it presumes: by the D in "a = t − x + D" the job that is carried into the window comes as late as its deadline and no later (the report's Figure 3). So it bounds what the task runs in a window
-- only if the task meets that deadline, and then it does (`windows`). A bound whose demand has this workload presumes that the task meets it; the tasks whose workloads a demand has are `Reads` of `promises`.
unfoldable pub workload : ℕ → ℕ → ℕ → ℕ → ℕ
workload T D t x = min t (uncapped T D t x)

-- n / m "rounded up to a whole number"
unfoldable pub ceil_div : ℕ → ℕ → ℕ
ceil_div n m = (n + (m - 1)) / m

-- "the three are added first and the one quotient is rounded up"
abbrev pub quotient : ℕ → ℕ → ℕ → ℕ → ℕ
quotient O F L m = ceil_div (O + F + L) m
