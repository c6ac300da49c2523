-- Document 01, "Refusals by number", and requests 2/12, 5/12, 6/12, 8/12 and 9/12 of document 02: the number of each refusal, and how the first fault decides.
use Rattle.std.specs.Prelude.{ℕ, zero, suc, ◌≡◌, Bool, true, false, Result, Ok, Err}
use Rattle.table.specs.declared.Fault.{Fault}
use Rattle.table.specs.declared.Fault.TheVariants.{TooLong, BadForm, BadField, OutOfRange, BadTimes, NotRising, BadTotals, TooManyTasks, NoTask, UnknownTask, TooShort, BadLength, BadBlock, Mismatch, BadCard, NoRounds, AlphaMissing, AlphaRises, GroupNotRising, HasGroup}
use Rattle.table.specs.declared.Refusal.{Refusal}

abbrev pub number_of : Fault → ℕ
-- listing longer than 65,536 bytes
number_of TooLong = 1
-- line not of its form or place
number_of BadForm = 2
-- a field badly formed
number_of BadField = 3
-- a number outside its range, or an unused pair with a non-zero c or CT
number_of OutOfRange = 4
-- C above D, or D above T
number_of BadTimes = 5
-- K not above the K before it in the task
number_of NotRising = 6
-- c ≤ CT ≤ N × c fails, or the CT so far sum above C
number_of BadTotals = 7
-- more than 32 tasks
number_of TooManyTasks = 8
-- no task
number_of NoTask = 9
-- the task asked about is 0 or above n
number_of UnknownTask = 10
-- output, list, or row of verdicts, too short
number_of TooShort = 11
-- an archive's length not 1 to 32 whole blocks
number_of BadLength = 12
-- a block with a wrong check, mark, version or zero
number_of BadBlock = 13
-- a block's processors or n not block 1's, n not the number of blocks, or its task number not its position; of a card with bad blocks, no complete archive
number_of Mismatch = 14
-- a card with bad blocks whose length is not 1 to 64 whole blocks
number_of BadCard = 15
-- an allowance of no rounds
number_of NoRounds = 16
-- alpha given for some tasks only
number_of AlphaMissing = 17
-- alpha above that of the last task before with one
number_of AlphaRises = 18
-- K of a `group` line not above the K of the one before
number_of GroupNotRising = 19
-- a table that has a group, written as an archive of version 1
number_of HasGroup = 20

-- what a check answers: that it is fine, or the refusal; in code `Result<(), Refusal>`
abbrev pub Checked : Type 0
Checked = Result Unit Refusal

-- a refusal told by its number and its place
pub record Told (r : Refusal) (k p : ℕ) : Type 0 where
  pub number : number_of r.fault ≡ k
  pub place : r.place ≡ p

-- an answer, be it of a check or of what gives something where nothing is refused, that refuses with the number k, at a place
abbrev pub Refuses : {A : Type 0} → Result A Refusal → ℕ → ℕ → Type 0
Refuses c k p = (r : Refusal) × (c ≡ Err r) × Told r k p

infixr 20 ◌then◌
-- the first fault decides
abbrev pub ◌then◌ : Checked → Checked → Checked
Ok _ then b = b
Err r then b = Err r

abbrev pub at : Fault → ℕ → Checked
at fault place = Err (record { fault = fault; place = place })

-- the fault at the place, unless the test holds
abbrev pub unless : Bool → Fault → ℕ → Checked
unless true fault place = Ok tt
unless false fault place = at fault place

-- the first fault of f 0, f 1, .., f (n − 1)
unfoldable pub first_fault : ℕ → (ℕ → Checked) → Checked
first_fault zero f = Ok tt
first_fault (suc n) f = first_fault n f then f n
