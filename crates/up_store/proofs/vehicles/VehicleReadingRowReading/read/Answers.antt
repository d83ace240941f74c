use Rattle.up_store.proofs.Common.{handed_on}
use Rattle.up_store.proofs.LineSays.{vehicle_says}
use Rattle.up_store.proofs.vehicles.VehicleReadingRowReading.read.Goals as goal

pub returns-in_err-number_at-clause-fault : goal.returns-in_err-number_at-clause-fault
returns-in_err-number_at-clause-fault c = handed_on c.from_residual.result c.in_err-number_at.field-0.0 _ c.from_residual.ensures.1 (λ is y fit same. c.in_err-number_at.ensures.fault.1 y.version (vehicle_says c.args.row.now y fit same).version)

pub returns-in_err-number_at-clause-damaged : goal.returns-in_err-number_at-clause-damaged
returns-in_err-number_at-clause-damaged c = handed_on c.from_residual.result c.in_err-number_at.field-0.0 _ c.from_residual.ensures.1 (λ is y fit says. c.in_err-number_at.ensures.fault.1 y.version says.version)

pub returns-in_err-count_at-clause-fault : goal.returns-in_err-count_at-clause-fault
returns-in_err-count_at-clause-fault c = handed_on c.from_residual-in_err-count_at.result c.in_err-count_at.field-0.0 _ c.from_residual-in_err-count_at.ensures.1 (λ is y fit same. c.in_err-count_at.ensures.fault.1 y.last fit.last (vehicle_says c.args.row.now y fit same).last)

pub returns-in_err-count_at-clause-damaged : goal.returns-in_err-count_at-clause-damaged
returns-in_err-count_at-clause-damaged c = handed_on c.from_residual-in_err-count_at.result c.in_err-count_at.field-0.0 _ c.from_residual-in_err-count_at.ensures.1 (λ is y fit says. c.in_err-count_at.ensures.fault.1 y.last fit.last says.last)

pub returns-in_err-ident_at-clause-fault : goal.returns-in_err-ident_at-clause-fault
returns-in_err-ident_at-clause-fault c = handed_on c.from_residual-in_err-ident_at.result c.in_err-ident_at.field-0.0 _ c.from_residual-in_err-ident_at.ensures.1 (λ is y fit same. c.in_err-ident_at.ensures.fault is y.vehicle fit.vehicle (vehicle_says c.args.row.now y fit same).vehicle.0)

pub returns-in_err-ident_at-clause-damaged : goal.returns-in_err-ident_at-clause-damaged
returns-in_err-ident_at-clause-damaged c = handed_on c.from_residual-in_err-ident_at.result c.in_err-ident_at.field-0.0 _ c.from_residual-in_err-ident_at.ensures.1 (λ is y fit says. c.in_err-ident_at.ensures.fault is y.vehicle fit.vehicle says.vehicle.0)

pub returns-in_err-ident_at-2-clause-fault : goal.returns-in_err-ident_at-2-clause-fault
returns-in_err-ident_at-2-clause-fault c = handed_on c.from_residual-in_err-ident_at-2.result c.in_err-ident_at-2.field-0.0 _ c.from_residual-in_err-ident_at-2.ensures.1 (λ is y fit same. c.in_err-ident_at-2.ensures.fault is y.primary fit.primary (vehicle_says c.args.row.now y fit same).primary.0)

pub returns-in_err-ident_at-2-clause-damaged : goal.returns-in_err-ident_at-2-clause-damaged
returns-in_err-ident_at-2-clause-damaged c = handed_on c.from_residual-in_err-ident_at-2.result c.in_err-ident_at-2.field-0.0 _ c.from_residual-in_err-ident_at-2.ensures.1 (λ is y fit says. c.in_err-ident_at-2.ensures.fault is y.primary fit.primary says.primary.0)
