-- One library more is opened.
use Rattle.std.proofs.Common.{◌≡◌, ◌<◌, ◌≤◌, ◌+◌, ℕ, suc, pos, List, length, sym, ap, ◌∙◌, subst, arith, add-one}
use Rattle.std.specs.FinMap.{insert, len}
use Rattle.ls_base.specs.Limits.{max_text}
use Rattle.document_store.specs.Texts.{Texts}
use Rattle.generated_workspace.specs.Generated.{libraries}
use Rattle.generated_workspace.specs.Selfrun.{opening_uses, uses_of}
use Rattle.generated_workspace.proofs.OpenLaws.{one_more}
use Rattle.generated_workspace.proofs.TextLaws.{few_libraries, library_short}
use Rattle.generated_workspace.proofs.opening.open_libraries.Goals as goal

pub loop-number-init : goal.loop-number-init
loop-number-init g c = record { texts = c.requires.none; encoding = c.requires.encoding; known = c.requires.known; steps = λ r is. omega arith }

pub open-requires : goal.open-requires
open-requires g c =
    let n = c.loop-number.number in
    let below : n < c.args.libraries = omega arith in
    let few : n < 60 = omega (arith, c.requires.few) in
    record {
      room = omega (arith, few_libraries n, ap (λ (t : Texts). len t) c.loop-number.invariant.texts);
      short = subst (λ (t : List ℕ). length t ≤ max_text) (sym c.in_ok-text.ensures) (library_short n few);
      encoding = c.loop-number.invariant.encoding;
      known = c.loop-number.invariant.known;
    }

pub loop-number-preserved : goal.loop-number-preserved
loop-number-preserved g c =
    let n = c.loop-number.number in
    let now = c.open.new.workspace.texts in
    let texts : now ≡ libraries (suc n) = c.in_ok-open.ensures.texts ∙ (λ i. insert (c.loop-number.invariant.texts i) (c.in_ok-uri.ensures i) (pos 0, c.in_ok-text.ensures i)) in
    record {
      texts = subst (λ (k : ℕ). now ≡ libraries k) (sym (add-one n)) texts;
      encoding = c.open.ensures.encoding;
      known = c.in_ok-open.ensures.known;
      steps = λ r is. subst (λ (k : ℕ). c.open.new.steps ≡ c.args.steps.now + opening_uses r k) (sym (add-one n))
          (one_more c.args.steps.now (opening_uses r n) (uses_of r now) c.loop-number.steps c.open.new.steps (uses_of r (libraries (suc n))) (c.loop-number.invariant.steps r is) (ap (uses_of r) texts) (c.in_ok-open.ensures.steps r is));
    }

pub returns-clause-texts : goal.returns-clause-texts
returns-clause-texts g c =
    let all : c.loop-number.number ≡ c.args.libraries = omega arith in
    c.loop-number.invariant.texts ∙ ap libraries all

pub returns-clause-known : goal.returns-clause-known
returns-clause-known g c = c.loop-number.invariant.known

pub returns-clause-steps : goal.returns-clause-steps
returns-clause-steps g c = λ r is.
    let all : c.loop-number.number ≡ c.args.libraries = omega arith in
    c.loop-number.invariant.steps r is ∙ ap (λ (n : ℕ). c.args.steps.now + opening_uses r n) all
