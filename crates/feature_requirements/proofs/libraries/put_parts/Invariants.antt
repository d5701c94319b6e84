use Rattle.std.proofs.Common.{string_bytes}
use Rattle.scheme_model.specs.Trees.{Trees}
use Rattle.scheme_model.specs.Ident.{Ident as Identifier}
use Rattle.syntax_tree.specs.Looks.{PartsStand}
use Rattle.feature_requirements.proofs.JudgeLaws.{PutsUpTo}
use Rattle.feature_requirements.proofs.libraries.put_parts.Given as goal

abbrev pub invariant-loop-part : goal.invariant-loop-part
invariant-loop-part l = (ts : Trees Identifier) → PartsStand l.work l.parts ts → PutsUpTo ts l.part-index (string_bytes l.initial.text) (string_bytes l.text)
