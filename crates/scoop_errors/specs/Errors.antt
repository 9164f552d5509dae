-- The error of a party that each error of the calls below becomes.
use Rattle.scoop_reserve.specs.declared.error.ReserveError.TheVariants as reserve
use Rattle.scoop_client.specs.declared.error.ClientError.TheVariants as client
use Rattle.scoop_driver.specs.declared.error.DriverError.{DriverError}
use Rattle.scoop_driver.specs.declared.error.DriverError.TheVariants as driver
use Rattle.scoop_link.specs.declared.udp_link.OpenLinkError.{OpenLinkError}
use Rattle.scoop_link.specs.declared.udp_link.OpenLinkError.TheVariants as link
use Rattle.scoop_book.specs.declared.error.CloseRefusal.{CloseRefusal}
use Rattle.scoop_book.specs.declared.error.CloseRefusal.TheVariants as close
use Rattle.scoop_netloop.specs.declared.stop.ServeEnd.{ServeEnd}
use Rattle.scoop_netloop.specs.declared.stop.ServeEnd.TheVariants as served
use Rattle.scoop_keeper.specs.declared.keeper.KeeperError.{KeeperError}
use Rattle.scoop_keeper.specs.declared.keeper.KeeperError.TheVariants as keeper
use Rattle.scoop_errors.specs.declared.party_error.PartyError.{PartyError}
use Rattle.scoop_errors.specs.declared.party_error.PartyError.TheVariants.{NoLink, NoThread, Driver, Loop, NotClosed, Store, OutOfMemory}

-- out of memory stays so, whichever call reports it

abbrev pub driver_told : DriverError → PartyError
driver_told (driver.Client client.OutOfMemory) = OutOfMemory
driver_told (driver.Client (client.Reserve reserve.OutOfMemory)) = OutOfMemory
driver_told e = Driver e

abbrev pub loop_told : ServeEnd → PartyError
loop_told served.OutOfMemory = OutOfMemory
loop_told served.NoThread = NoThread
loop_told end = Loop end

abbrev pub close_told : CloseRefusal → PartyError
close_told close.OutOfMemory = OutOfMemory
close_told cause = NotClosed cause

abbrev pub keeper_told : KeeperError → PartyError
keeper_told keeper.OutOfMemory = OutOfMemory
keeper_told refusal = Store refusal

abbrev pub link_told : OpenLinkError → PartyError
link_told link.Fault = NoLink
link_told link.OutOfMemory = OutOfMemory
