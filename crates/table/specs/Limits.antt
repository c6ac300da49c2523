-- The limits of document 01, "Quantities", and of requests 8/12 and 9/12 of document 02. The function `limits` ties each to the constant of `Table`.
use Rattle.std.specs.Prelude.{ℕ}

-- processors
abbrev pub max_cpus : ℕ
max_cpus = 64

abbrev pub max_tasks : ℕ
max_tasks = 32

abbrev pub max_resources : ℕ
max_resources = 16

-- the group of a resource, "1 to 16"
abbrev pub max_group : ℕ
max_group = 16

-- any time, in microseconds
abbrev pub max_time : ℕ
max_time = 10_000_000

-- request counts
abbrev pub max_count : ℕ
max_count = 1_000

-- alpha, "from 1 to 64"
abbrev pub max_alpha : ℕ
max_alpha = 64

-- bytes of a listing
abbrev pub max_listing : ℕ
max_listing = 65_536
