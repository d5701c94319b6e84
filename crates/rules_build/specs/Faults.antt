-- The faults of building that faults of adding nodes are.
use Rattle.syntax_tree.specs.declared.trees.faults.PoolFault.{PoolFault}
use Rattle.syntax_tree.specs.declared.trees.faults.PoolFault.TheVariants as pool
use Rattle.rules_build.specs.declared.fault.BuildFault.{BuildFault}
use Rattle.rules_build.specs.declared.fault.BuildFault.TheVariants as fault

abbrev pub fault_of : PoolFault → BuildFault
fault_of pool.Full = fault.Full
fault_of pool.Memory = fault.Memory
