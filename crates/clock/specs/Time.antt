-- UTC, service local time and the life of a message (document 01, "The message table"; ISO 14819-1, clause 6.5.2).
use Rattle.std.specs.Prelude.{ℕ, suc, ◌+◌, ◌-◌, ◌*◌, ◌%◌, Bool, cond, ℤ, pos, negsuc, eqb, leb}

-- the minutes of a day
abbrev pub day : ℕ
day = 1440

-- local minutes count from three days before the midnight from which UTC minutes count, so that none is negative
abbrev pub before : ℕ
before = 3 * day

-- local time is UTC plus 30 minutes for each half hour of offset
unfoldable pub local_of : ℕ → ℤ → ℕ
local_of minute (pos n) = minute + before + 30 * n
local_of minute (negsuc n) = minute + before - 30 * suc n

-- the minutes until the next midnight: a whole day at midnight itself
unfoldable pub to_midnight : ℕ → ℕ
to_midnight local = day - local % day

-- when a message ends: its life after the minute; life 0 is until the next midnight of the service
unfoldable pub expiry_of : ℕ → ℤ → ℕ → ℕ
expiry_of minute lto life = minute + cond (eqb life 0) (to_midnight (local_of minute lto)) life

-- the half hours of offset, either way
abbrev pub half_hours : ℤ → ℕ
half_hours (pos n) = n
half_hours (negsuc n) = suc n

-- an offset is at most 31 half hours either way
unfoldable pub offset_fits : ℤ → Bool
offset_fits lto = leb (half_hours lto) 31

-- an offset counted from -128
unfoldable pub shifted : ℤ → ℕ
shifted (pos n) = n + 128
shifted (negsuc n) = 128 - suc n

-- the largest minute of a call, and the longest life in minutes
abbrev pub largest : ℕ
largest = 4000000000

abbrev pub longest_life : ℕ
longest_life = 10080
