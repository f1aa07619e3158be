-- The keeper may go to another thread.
use Rattle.keeper_sqlite.proofs.sql_keeper.SqlKeeper.TheSendSync.{the_send as keeper_send}
use Rattle.serve_command.specs.contracts.file_keeper.FileKeeper as FileKeeper
use Rattle.sqlite_disk.proofs.modelled.Modelled.TheSendSync.{the_send as modelled_send}
use Rattle.sqlite_std_file.specs.contracts.host.Host as Host
use Rattle.sqlite_std_file.specs.contracts.record.Record as Record
use Rattle.sqlite_store.proofs.store.FileStore.TheSendSync.{the_send as store_send}
use Rattle.std.proofs.Crossing.{crosses}
use denote.Param.Send.{IsSend, owning_send, sendable}

-- a record of calls is read by proofs alone, and owns nothing
record_send : IsSend Record.the_row
record_send = owning_send Record.the_type (search sendable, tt) (λ d. tt) (λ k x w. tt)

host_send : IsSend Host.the_row
host_send = search (sendable, crosses, record_send) depth 30

pub file_keeper : IsSend FileKeeper.the_row
file_keeper = search (sendable, crosses, host_send, modelled_send, store_send, keeper_send) depth 30
