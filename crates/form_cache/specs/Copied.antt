-- What a macro use tells, wherever it lies in memory.
use Rattle.std.specs.Prelude.{List}
use Rattle.core_tree.specs.declared.cores.Target.{Target}
use Rattle.core_tree.specs.declared.traces.MacroUse.{MacroUse}

-- its keyword, and the leaves that met a literal
abbrev pub use_told : MacroUse → Target × List Target
use_told u = (u.keyword, u.literals.items)
