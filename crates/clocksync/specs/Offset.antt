-- Document 01, "src/clocksync.rs": the offset that a clock message measures, each operation IEEE 754's in the Rust's order. Its exact value is RFC 5905's
-- offset with T2 = T3, the server's time. Definitions only. Assumes nothing.
use Rattle.std.specs.Prelude.{Float}
use Rattle.std.specs.Float.{binary64}
use Rattle.std.specs.Float.Ieee.{add, sub, div}
use Rattle.timestamp.specs.Floats.{two64}
use Rattle.float_laws.specs.Fractions.{Q, add_q, sub_q}
use Rattle.clocksync.specs.Rfc5905.{half_q}

-- the server's time, less half of the sum of the client's send time and its time of receipt
unfoldable pub offset_of : Float → Float → Float → Float
offset_of send server received = sub binary64 server (div binary64 (add binary64 send received) two64)

-- the same operations in the same order on exact fractions, each result handed to `r`
unfoldable pub offset_by : (Q → Q) → Q → Q → Q → Q
offset_by r send server received = r (sub_q server (r (half_q (r (add_q send received)))))
