use Rattle.std.proofs.Common.{List, [], ℕ, ◌+◌, take, refl, sym, ap, ◌∙◌, subst, arith}
use denote.Text.{Utf8}
use denote.Shadow.{shadow}
use Rattle.std.proofs.lemmas.List.{take_all}
use Rattle.arrow_index.specs.declared.classes.ClassPart.{ClassPart}
use Rattle.program_answers.specs.AskedOf.{own_prefixes}
use Rattle.program_answers.specs.Classed.{IsLongest}
use Rattle.program_answers.proofs.LongestLaws.{longer, not_longer}
use Rattle.program_answers.proofs.classes.longest.Goals as goal
use Rattle.program_answers.proofs.classes.longest.Goals.{then-is_longer, else-is_longer}

pub loop-part-init : goal.loop-part-init
loop-part-init c = (([], (refl, refl)), refl)

pub loop-part-preserved : goal.loop-part-preserved
loop-part-preserved c =
    let ps = c.args.parts.now in
    let i = c.loop-part.part-index in
    let p = c.part-item.result in
    let o = c.args.occ in
    let s = c.loop-part.longest.now in
    let next = take (i + 1) ps in
    elim c.if-is_longer.branch [
      | then-is_longer w ↦ (
        subst (λ (t : List ℕ). shadow (Utf8 t)) (sym (ap (λ b. b.now) w.longest-is)) w.as_str-longest.utf8,
        subst (λ (t : List ℕ). IsLongest (own_prefixes next o) t) (sym (ap (λ b. b.now) w.longest-is ∙ w.as_str-longest.ensures)) (longer ps i p o s (omega arith) c.part-item.is c.loop-part.invariant.1 (sym c.is_longer.ensures ∙ w.if-is_longer.true)),
      )
      | else-is_longer w ↦ (
        subst (λ (t : List ℕ). shadow (Utf8 t)) (sym (ap (λ b. b.now) w.longest-is)) c.loop-part.invariant.0,
        subst (λ (t : List ℕ). IsLongest (own_prefixes next o) t) (sym (ap (λ b. b.now) w.longest-is)) (not_longer ps i p o s (omega arith) c.part-item.is c.loop-part.invariant.1 (sym c.is_longer.ensures ∙ w.if-is_longer.false)),
      )
    ]

pub returns : goal.returns
returns c = subst (λ (ps : List ClassPart). IsLongest (own_prefixes ps c.args.occ) c.loop-part.longest.now) (take_all c.loop-part.part-index c.args.parts.now (omega arith)) c.loop-part.invariant.1
