-- Schedules under global fixed priorities with priority inheritance (the report's section II-A from "Multiprocessor scheduling" on, and III-A), by what holds at each instant, and not by how a kernel brings it about; a kernel takes no time for it.
-- Some things are left open, since the theorem needs none of them: that no more than m run; whether a lock is handed over at once, or taken when its next holder is scheduled; whether a job asks for it before it is scheduled,
-- or even before its release; whether who holds a lock has asked for it; which of two that ask at one instant gets it.
use Rattle.std.specs.Prelude.{ℕ, zero, suc, ◌+◌, ◌≤◌, ◌<◌, ◌≡◌, Bool, true, false, not, ◌&&◌, ◌||◌, leb, ltb, eqb}
use Rattle.basics.specs.Choice.{pick}
use Rattle.basics.specs.Over.{count_to, first_to}
use Rattle.theory.specs.View.{View}
use Rattle.schedules.specs.Jobs.{JobSet}

-- of an instant and a task
pub record Schedule : Type 0 where
  -- it runs a unit
  pub runs : ℕ → ℕ → Bool
  -- it holds the lock that its next unit needs; it has asked for it, whether it has got it or not
  pub holds : ℕ → ℕ → Bool
  pub asked : ℕ → ℕ → Bool

-- ---- how far each task has come, by what it ran: its jobs run one at a time, in order

-- the job that a task is at, the first that is not finished, and how many of that job's units it has run
pub record Progress : Type 0 where
  pub job : ℕ
  pub unit : ℕ

-- where it is one instant later, if it runs or does not
unfoldable pub onward : JobSet → ℕ → Bool → Progress → Progress
onward J l false p = p
onward J l true p = pick (ltb (suc p.unit) (J.cost l p.job)) record { job = p.job; unit = suc p.unit } record { job = suc p.job; unit = 0 }

unfoldable pub progress : JobSet → Schedule → ℕ → ℕ → Progress
progress J S zero l = record { job = 0; unit = 0 }
progress J S (suc s) l = onward J l (S.runs s l) (progress J S s l)

-- one of the "jobs which have arrived but whose execution have not finished" is there
abbrev pub pending : JobSet → Schedule → ℕ → ℕ → Bool
pending J S s l = leb (J.release l (progress J S s l).job) s

-- the resource that its next unit needs, 0 for none; and a stretch starts with that unit
abbrev pub needs : JobSet → Schedule → ℕ → ℕ → ℕ
needs J S s l = J.lock l (progress J S s l).job (progress J S s l).unit

abbrev pub begins : JobSet → Schedule → ℕ → ℕ → Bool
begins J S s l = J.starts l (progress J S s l).job (progress J S s l).unit

-- ---- who waits, and at which priority a task is

-- w "made a request .. and this request has not been granted", and l holds the lock. Of the report's other conditions of being "directly blocked" one, that w is among the m highest, is left out: kernels that go by it break bounds. So is the
-- other, that l is lower: who waits for a higher one takes no place either
abbrev pub waits_for : JobSet → Schedule → ℕ → ℕ → ℕ → Bool
waits_for J S s w l = (S.asked s w && not (S.holds s w)) && (S.holds s l && eqb (needs J S s w) (needs J S s l))

abbrev pub waits : View → JobSet → Schedule → ℕ → ℕ → Bool
waits v J S s w = ltb (first_to v.n (waits_for J S s w)) v.n

-- "the effective-priority of the job that is holding [the] resource .. is raised to i": it is the highest of its own and of those that wait for its lock
abbrev pub lends : JobSet → Schedule → ℕ → ℕ → ℕ → Bool
lends J S s l w = eqb w l || waits_for J S s w l

unfoldable pub priority : View → JobSet → Schedule → ℕ → ℕ → ℕ
priority v J S s l = first_to v.n (lends J S s l)

-- h runs, and at a priority no lower than l's
abbrev pub ahead : View → JobSet → Schedule → ℕ → ℕ → ℕ → Bool
ahead v J S s l h = S.runs s h && leb (priority v J S s h) (priority v J S s l)

-- one that holds its lock at the instant after s got it then: at s it did not have it, or was in an earlier stretch
unfoldable pub got_after : JobSet → Schedule → ℕ → ℕ → Bool
got_after J S s l = pick (S.runs s l) (begins J S (suc s) l) (not (S.holds s l))

-- ---- what holds at an instant

pub data KernelFact : Type 0 where
  runs_pending : KernelFact
  runs_locked : KernelFact
  conserves : KernelFact
  one_holder : KernelFact
  holds_pending : KernelFact
  holds_lock : KernelFact
  keeps : KernelFact
  goes_on : KernelFact
  asked_on : KernelFact
  not_past : KernelFact

-- At the instant s; where r comes in, it is the instant before. `Broken` has for each a run in which it alone is broken and a bound is passed, and the tests have kernels: with queues in the order of arrival they break `not_past`, without
-- inheritance, with jobs that spin while they wait, and by section II to the letter `conserves`
unfoldable pub FactAt : View → JobSet → Schedule → ℕ → KernelFact → Type 0
-- only a job that is there runs,
FactAt v J S s runs_pending = (l : ℕ) → l < v.n → S.runs s l ≡ true → pending J S s l ≡ true
-- and only with the lock that its unit needs
FactAt v J S s runs_locked = (l : ℕ) → l < v.n → S.runs s l ≡ true → 0 < needs J S s l → S.holds s l ≡ true
-- "global fixed-priority preemptive scheduling": if a job is there and neither runs nor waits, then m run whose effective priorities are no lower than its own. One that waits takes none of the m places
FactAt v J S s conserves =
    (l : ℕ) → l < v.n → pending J S s l ≡ true → waits v J S s l ≡ false → S.runs s l ≡ false → v.cpus ≤ count_to v.n (ahead v J S s l)
-- "at every moment, at most one job holds a shared resource"
FactAt v J S s one_holder = (l w : ℕ) → l < v.n → w < v.n → S.holds s l ≡ true → S.holds s w ≡ true → needs J S s l ≡ needs J S s w → l ≡ w
-- its job is there, and at a unit that needs it: "once [it] has executed for the amount of time it requires [the resource] .. the resource is said to be released"
FactAt v J S s holds_pending = (l : ℕ) → l < v.n → S.holds s l ≡ true → pending J S s l ≡ true
FactAt v J S s holds_lock = (l : ℕ) → l < v.n → S.holds s l ≡ true → 0 < needs J S s l
-- "a task holding a resource may be preempted .. but the task still holds the resource",
FactAt v J S s keeps = (r l : ℕ) → s ≡ suc r → l < v.n → S.holds r l ≡ true → S.runs r l ≡ false → S.holds s l ≡ true
-- and from one unit of a request to the next
FactAt v J S s goes_on = (r l : ℕ) → s ≡ suc r → l < v.n → S.runs r l ≡ true → 0 < needs J S s l → begins J S s l ≡ false → S.holds s l ≡ true
-- The report does not say who gets a lock. Its (6), by which a request waits for one lower request at most, presumes the last two: who has asked for a lock does not take that back;
FactAt v J S s asked_on = (r l : ℕ) → s ≡ suc r → l < v.n → S.asked r l ≡ true → S.runs r l ≡ false → S.asked s l ≡ true
-- and a lock goes to nobody who is lower than one that had asked for it before and is still without it. Of those that ask at one instant any may get it
FactAt v J S s not_past =
    (r l w : ℕ) → s ≡ suc r → l < v.n → w < v.n → got_after J S r l ≡ true → S.asked r w ≡ true → S.runs r w ≡ false → waits_for J S s w l ≡ true → l < w

-- the facts hold at each instant of the run, which begins at 0 with nothing left from before, and ends at E
abbrev pub UnderPIP : View → JobSet → Schedule → ℕ → Type 0
UnderPIP v J S E = (s : ℕ) → s < E → (f : KernelFact) → FactAt v J S s f

-- ---- section III-B: "the response time of a job be the time from when the job arrives until its execution has finished"

-- job j of task l is finished by the instant s
abbrev pub Finished : JobSet → Schedule → ℕ → ℕ → ℕ → Type 0
Finished J S l j s = j < (progress J S s l).job

-- up to the run's end no job of the task at slot l takes longer than R
abbrev pub RespondsWithin : JobSet → Schedule → ℕ → ℕ → ℕ → Type 0
RespondsWithin J S E l R = (j s : ℕ) → J.release l j + R ≤ s → s ≤ E → Finished J S l j s
