use Rattle.std.proofs.Common.{◌≡◌, ℕ, ◌<◌, ◌++◌, List, map, reverse, vec_len}
use Rattle.scheme_model.specs.Diagnostics.{clash_diagnostics}
use Rattle.read_documents.specs.Findings.{all_told, errors_in}
use Rattle.read_documents.specs.Places.{AreFoundIn}
use Rattle.unit_imports.proofs.GivenLaws.{seen_at}
use Rattle.unit_imports.proofs.entries.add_clashes.Given as goal

-- what is told so far, and the clashes that are left
abbrev pub invariant-loop-name : goal.invariant-loop-name
invariant-loop-name l = record {
  inside : (count : ℕ) → l.set.document < count → AreFoundIn count l.initial.findings.items → AreFoundIn count l.findings.items;
  told : all_told l.findings.items ++ clash_diagnostics (seen_at l.set.document l.set.spec.now.span) (reverse l.clashes.items)
      ≡ all_told l.initial.findings.items ++ clash_diagnostics (seen_at l.set.document l.set.spec.now.span) (reverse l.initial.clashes.items);
  errors : errors_in l.findings.items ++ map (λ (s : List ℕ). (52, l.set.form)) (reverse l.clashes.items) ≡ errors_in l.initial.findings.items ++ map (λ (s : List ℕ). (52, l.set.form)) (reverse l.initial.clashes.items);
}

abbrev pub decreases-loop-name : goal.decreases-loop-name
decreases-loop-name l = vec_len l.clashes
