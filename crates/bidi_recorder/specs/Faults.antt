-- The fault of a host for a fault of the remote end. Defined by this project.
use Rattle.bidi_remote.specs.declared.remote_end.RemoteFault.{RemoteFault}
use Rattle.bidi_remote.specs.declared.remote_end.RemoteFault.TheVariants as remote
use Rattle.bidi_recorder.specs.declared.host.HostFault.{HostFault}
use Rattle.bidi_recorder.specs.declared.host.HostFault.TheVariants as host

-- the fault of a host for a fault of the remote end
abbrev pub host_fault_of : RemoteFault → HostFault
host_fault_of remote.NoMemory = host.NoMemory
host_fault_of remote.WornOut = host.WornOut
