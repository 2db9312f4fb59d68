-- What an inbox is refused for: refusals 3 to 6 of document 01's "Turned down by the input". Definitions only. Assumes nothing.
use Rattle.std.specs.Prelude.{ℕ, Bool, cond, List, length, ltb, eqb, Ok, Err}
use Rattle.refusals.specs.Limits.{most_words}
use Rattle.refusals.specs.declared.Refusal.{Refusal}
use Rattle.refusals.specs.declared.Refusal.TheVariants.{Length, Word, Cut, ClockTime}
use Rattle.refusals.specs.Refusals.{Verdict, accepted, number_of, number_in}
use Rattle.inbox.specs.Inbox.{Reading, messages_of, some}

-- the verdict on what words say: a message is accepted, and of words that say none the refusal stands: a word of wrong kind, place or spare bits, the inbox
-- that ends inside a message, or a clock time not finite or beyond 2 ^ 32
abbrev pub verdict_of : Reading → Verdict
verdict_of (Ok m) = accepted
verdict_of (Err e) = Err e

-- the verdict of the lower number, where one that accepts has none
abbrev pub lowest_of : Verdict → Verdict → Verdict
lowest_of (Ok x) b = b
lowest_of (Err e) (Ok x) = Err e
lowest_of (Err e) (Err f) = cond (ltb (number_of f) (number_of e)) (Err f) (Err e)

-- the lower of a verdict and that on a message
abbrev pub lowest_with : Verdict → Reading → Verdict
lowest_with found m = lowest_of found (verdict_of m)

-- whether a message stands for the refusal e, by its number
abbrev pub is_refused : Refusal → Reading → Bool
is_refused e m = eqb (number_in (verdict_of m)) (number_of e)

-- the lowest number of a list's messages: 4 anywhere, then 5, then 6, or none
unfoldable pub refusal_in : List Reading → Verdict
refusal_in ms =
    cond (some (is_refused Word) ms) (Err Word)
    (cond (some (is_refused Cut) ms) (Err Cut) (cond (some (is_refused ClockTime) ms) (Err ClockTime) accepted))

-- the refusal of an inbox: 3 over 4,096 words, then that of its messages; none where it is accepted
unfoldable pub refusal_of : List ℕ → Verdict
refusal_of ws = cond (ltb most_words (length ws)) (Err Length) (refusal_in (messages_of ws))
