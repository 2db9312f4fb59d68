-- `publish_both` meets its contract: the weight decides. Assumes nothing.
use lib.Ieee.{of_bits}
use mathlib.Core.Path.{refl}
use Rattle.client_publish.proofs.Showing.{both_old, both_new, both_mix}
use Rattle.client_publish.proofs.publish_both.Goals as goal

pub returns-then-t : goal.returns-then-t
unfolding of_bits
returns-then-t c =
    both_old _ refl c.if-t.true c.old_side.ensures c.publish_side.ensures

pub returns-then-is_near_one : goal.returns-then-is_near_one
unfolding of_bits
returns-then-is_near_one c =
    both_new _ refl c.if-t.false c.is_near_one.ensures c.if-is_near_one.true c.new_side.ensures c.publish_side-then-is_near_one.ensures

pub returns : goal.returns
unfolding of_bits
returns c =
    both_mix _ refl c.if-t.false c.is_near_one.ensures c.if-is_near_one.false c.publish_mix.ensures
