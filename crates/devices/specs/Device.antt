-- What contracts see of a counted device, and which calls count as failed.
use Rattle.std.specs.Prelude.{ℕ, ◌+◌, ◌-◌, ◌^◌, ◌==◌, ◌&&◌, Bool, true, min, nat_lt, Result, Ok, Err, if◌then◌else◌}
use Rattle.devices.specs.declared.device.Counted.{Counted}

-- The reader or writer itself.
abbrev pub device_of : {D : Type 0} → Counted D → D
device_of c = c.device

-- The number of its calls that have failed.
abbrev pub failures_of : {D : Type 0} → Counted D → ℕ
failures_of c = c.failed

-- The count after one more call, by whether the call has failed. The count stops at `2^64 - 1`.
abbrev pub count_failure : Bool → ℕ → ℕ
count_failure has_failed n = if has_failed then min (n + 1) (2 ^ 64 - 1) else n

-- Whether a write has failed, for a buffer of this length: it returned an error, or took no byte
-- although the length is not 0.
abbrev pub is_failed_write : {E : Type 0} → ℕ → Result ℕ E → Bool
is_failed_write len (Ok taken) = (taken == 0) && nat_lt 0 len
is_failed_write len (Err e) = true
