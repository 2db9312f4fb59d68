-- `move_timer` meets its contract: above the period, and not. Assumes nothing.
use lib.Ieee.{of_bits}
use Rattle.clocksync.proofs.Tests.{ticked_over, ticked_under}
use Rattle.clocksync.proofs.Clock.move_timer.Goals as goal

pub returns-then-timer-settings : goal.returns-then-timer-settings
unfolding of_bits
returns-then-timer-settings c =
    let a = c.args in
    ticked_over a.self.now a.settings.period a.delta c.if-timer-settings.true

pub returns : goal.returns
returns c =
    let a = c.args in
    ticked_under a.self.now a.settings.period a.delta c.if-timer-settings.false
