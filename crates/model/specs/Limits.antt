-- 01, 'Packets, slots and room': the table of what is accepted, and the port's limits. The code has these numbers once more, as associated constants
-- of `Record` and of `Port`, whose functions `limits` show the two equal.
use Rattle.std.specs.Prelude.{ℕ, ◌-◌, ◌^◌, Bool, ◌&&◌, leb}
use Rattle.model.specs.declared.RecordLimits.{RecordLimits}

-- packets in a trace 0 to 2,048; a slot 1 to 1,000,000; a value 1 to 65,535; r 0 to 255
abbrev pub record_limits : RecordLimits
record_limits = record { packets = 2048; slot = 1000000; value = 65535; r = 255 }

pub record PortLimits : Type 0 where
  pub room : ℕ
  pub beta : ℕ
  pub number : ℕ

-- room 1 to 256; beta's num and den 1 to 65,535; packet numbers to 4,294,967,295
abbrev pub port_limits : PortLimits
port_limits = record { room = 256; beta = record_limits.value; number = 2 ^ 32 - 1 }

-- n is one of low, .., high
unfoldable pub within : ℕ → ℕ → ℕ → Bool
within low high n = leb low n && leb n high
