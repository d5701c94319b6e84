use Rattle.std.proofs.Common.{◌<◌, ◌≤◌, ◌-◌, ℕ, pos, List, length, refl, sym, ap, ◌∙◌, subst, arith}
use Rattle.std.specs.FinMap.{insert, len}
use Rattle.ls_base.specs.Limits.{max_text}
use Rattle.document_store.specs.Texts.{Texts}
use Rattle.generated_workspace.specs.Generated.{selfrun_texts}
use Rattle.generated_workspace.specs.Selfrun.{opening_uses, uses_of}
use Rattle.generated_workspace.proofs.OpenLaws.{both_counted}
use Rattle.generated_workspace.proofs.TextLaws.{few_libraries, main_short, with_main}
use Rattle.generated_workspace.proofs.opening.open_all.Goals as goal

pub open-requires : goal.open-requires
open-requires g c =
    let n = c.args.libraries in
    let last : n - 1 < 60 = omega (arith, c.requires.few) in
    record {
      room = omega (arith, few_libraries n, ap (λ (t : Texts). len t) c.in_ok-open_libraries.ensures.texts, c.requires.few);
      short = subst (λ (t : List ℕ). length t ≤ max_text) (sym c.in_ok-text.ensures) (main_short (n - 1) last);
      encoding = c.open_libraries.ensures.encoding;
      known = c.in_ok-open_libraries.ensures.known;
    }

pub returns-clause-texts : goal.returns-clause-texts
returns-clause-texts g c =
    c.in_ok-open.ensures.texts ∙ (λ i. insert (c.in_ok-open_libraries.ensures.texts i) (c.in_ok-uri.ensures i) (pos 0, c.in_ok-text.ensures i))
    ∙ with_main c.args.libraries (c.args.libraries - 1) c.requires.some refl

pub returns-clause-steps : goal.returns-clause-steps
returns-clause-steps g c = λ r is.
    let n = c.args.libraries in
    both_counted c.args.steps.now (opening_uses r n) (uses_of r c.open.new.workspace.texts) c.open_libraries.new.steps c.open.new.steps (uses_of r (selfrun_texts n)) (c.in_ok-open_libraries.ensures.steps r is)
    (ap (uses_of r) (returns-clause-texts g c)) (c.in_ok-open.ensures.steps r is)
