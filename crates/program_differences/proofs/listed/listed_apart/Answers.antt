use Rattle.std.proofs.Common.{ℕ, sym, ◌∙◌, subst}
use Rattle.std.specs.Prelude.{Option, max, length}
use Rattle.rename_model.specs.SameProgram.{listed_stretches}
use Rattle.program_differences.specs.Apart.{FindsFirst}
use Rattle.program_differences.proofs.ListedLaws.{found_at, listed_law, are_alike}
use Rattle.program_differences.proofs.listed.listed_apart.Goals as goal

pub returns-in-None-clause-first : goal.returns-in-None-clause-first
returns-in-None-clause-first c = λ work text uris before after p q live tells apart h g.
    subst (λ (o : Option ℕ). FindsFirst work.symbols live (listed_stretches p q 0 (max (length p.units) (length q.units))) (found_at o)) c.in-None.is
    (listed_law work.symbols live work text uris before after p q c.args.old.now c.args.new.now c.first_unlike.result tells apart h g c.first_unlike.ensures)

pub returns-in-Some-clause-first : goal.returns-in-Some-clause-first
returns-in-Some-clause-first c = λ work text uris before after p q live tells apart h g.
    subst (λ (o : Option ℕ). FindsFirst work.symbols live (listed_stretches p q 0 (max (length p.units) (length q.units))) (found_at o)) c.in-Some.is
    (listed_law work.symbols live work text uris before after p q c.args.old.now c.args.new.now c.first_unlike.result tells apart h g c.first_unlike.ensures)

pub returns-in-None-clause-alike : goal.returns-in-None-clause-alike
returns-in-None-clause-alike c = λ none. are_alike 0 c.args.old.now c.args.new.now (sym c.first_unlike.ensures ∙ c.in-None.is)
