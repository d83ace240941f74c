use Rattle.up_canon.proofs.Days.{epoch_day-first}
use Rattle.up_canon.proofs.calendar.epoch.Goals as goal

pub returns : goal.returns
returns c = epoch_day-first c.date.result c.date.ensures
