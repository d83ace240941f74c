-- What is told of an error of the database.
use Rattle.sqlite.specs.declared.error.Error.{Error}
use Rattle.sqlite.specs.declared.error.Error.TheVariants.{SqliteFailure}
use Rattle.sqlite.specs.declared.error.ErrorCode.TheVariants.{OutOfMemory}
use Rattle.up_tables.specs.declared.open.OpenFault.{OpenFault}
use Rattle.up_tables.specs.declared.open.OpenFault.TheVariants as opening
use Rattle.up_tables.specs.declared.values.StoreFault.{StoreFault}
use Rattle.up_tables.specs.declared.values.StoreFault.TheVariants.{Memory, Store}

-- want of memory by itself, everything else alike
abbrev pub store_fault : Error → StoreFault
store_fault (SqliteFailure OutOfMemory) = Memory
store_fault _ = Store

-- the same where a database is opened, or its tables are made or taken
abbrev pub open_fault : Error → OpenFault
open_fault (SqliteFailure OutOfMemory) = opening.Memory
open_fault _ = opening.Store
