-- The faults that faults of inner calls become: each the one of that kind.
use Rattle.ring_etcd.specs.declared.engine.EngineFault.{EngineFault}
use Rattle.ring_etcd.specs.declared.engine.EngineFault.TheVariants as engine
use Rattle.ring_etcd.specs.declared.place.EtcdFault.{EtcdFault}
use Rattle.ring_etcd.specs.declared.place.EtcdFault.TheVariants as etcd
use Rattle.ring_etcd.specs.declared.store.AskFault.{AskFault}
use Rattle.ring_etcd.specs.declared.store.AskFault.TheVariants as ask

abbrev pub engine_fault_of : AskFault → EngineFault
engine_fault_of ask.NoMemory = engine.NoMemory
engine_fault_of ask.NoAnswer = engine.NoAnswer

abbrev pub fault_of_ask : AskFault → EtcdFault
fault_of_ask ask.NoMemory = etcd.NoMemory
fault_of_ask ask.NoAnswer = etcd.NoAnswer

abbrev pub fault_of_engine : EngineFault → EtcdFault
fault_of_engine engine.NoMemory = etcd.NoMemory
fault_of_engine engine.NoAnswer = etcd.NoAnswer
fault_of_engine engine.TakenOver = etcd.TakenOver
