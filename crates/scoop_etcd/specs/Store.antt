-- A store over an etcd.
use Rattle.std.specs.Prelude.{List, [], Option, Some, None}
use Rattle.scoop_handler.specs.State.{HandlerState}
use Rattle.scoop_etcd.specs.Owning.{StoreKeys}
use Rattle.scoop_etcd.specs.declared.fault.StoreFault.{StoreFault}

-- the etcd, the store's keys, the states that were put since the last commit, and why the last call was refused
pub record EtcdRecord (E : Type 0) : Type 0 where
  pub etcd : E
  pub keys : StoreKeys
  pub pending : List HandlerState
  pub fault : Option StoreFault

abbrev pub etcd_record : {E : Type 0} → E → StoreKeys → List HandlerState → Option StoreFault → EtcdRecord E
etcd_record etcd keys pending fault = record { etcd = etcd; keys = keys; pending = pending; fault = fault }

-- a store that has just been opened
abbrev pub fresh : {E : Type 0} → E → StoreKeys → EtcdRecord E
fresh etcd keys = etcd_record etcd keys [] None

-- the last fault is forgotten
abbrev pub cleared : {E : Type 0} → EtcdRecord E → EtcdRecord E
cleared r = etcd_record r.etcd r.keys r.pending None

-- why the call was refused
abbrev pub faulted : {E : Type 0} → EtcdRecord E → StoreFault → EtcdRecord E
faulted r fault = etcd_record r.etcd r.keys r.pending (Some fault)
