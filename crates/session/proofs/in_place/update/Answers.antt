-- `update` meets its contract: what is told of it, or a zeroed tape. Assumes nothing.
use Rattle.session.proofs.Answering.{decided_told, decided_refused}
use Rattle.session.proofs.in_place.update.Goals as goal

pub returns-in-Ok : goal.returns-in-Ok
returns-in-Ok c = decided_told _ _ c.decide.ensures c.in-Ok.is

pub returns-in-Err : goal.returns-in-Err
returns-in-Err c = decided_refused _ c.decide.new.session _ c.decide.new.tape c.decide.ensures c.in-Err.is c.refuse.ensures
