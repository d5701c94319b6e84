use Rattle.std.proofs.Common.{ℕ, string_bytes}
use Rattle.scheme_model.specs.declared.Occ.{Occ}
use Rattle.known_libraries.proofs.TreeRows.{PutsUpTo}
use Rattle.known_libraries.proofs.library_names.put_parts.Given as goal

abbrev pub invariant-loop-part : goal.invariant-loop-part
invariant-loop-part l = (place : ℕ → Occ) → PutsUpTo place l.parts l.part-index (string_bytes l.initial.text) (string_bytes l.text)
