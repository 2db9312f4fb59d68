-- What inner functions of the code give of a message. No contract of a call cites this module: proofs/Steps ties it to Inbox.
-- Definitions only. Assumes nothing.
use Rattle.std.specs.Prelude.{ℕ, List, drop, slice_index, Result, Ok}
use Rattle.refusals.specs.declared.Refusal.{Refusal}
use Rattle.inbox.specs.declared.Step.{Step}
use Rattle.inbox.specs.Inbox.{and_then, head_of, by_head, step_by}

-- the step from a place of an inbox, or why nothing after the message has a place
abbrev pub step_of : List ℕ → ℕ → Result Step Refusal
step_of ws at = and_then (head_of (slice_index ws at)) (λ d. and_then (by_head d (drop at ws)) (λ f. Ok (step_by at f)))
