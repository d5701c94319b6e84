use Rattle.std.specs.Prelude.{◌≡◌, ◌&&◌, nat_lt}
use Rattle.read_documents.specs.declared.heads.WholeFault.TheVariants as fault
use Rattle.read_documents.specs.Changed.{Changes}
use Rattle.read_documents.specs.Broken.{broken_if, has_standard}
use Rattle.document_units.proofs.breaking.break_standard.Given as goal

-- the libraries so far that have a standard name are broken
abbrev pub invariant-loop-place : goal.invariant-loop-place
invariant-loop-place l = Changes (λ n h g. g ≡ broken_if (nat_lt n l.place && has_standard h.name) fault.DefinedTwice h) l.initial.heads.items l.heads.items
