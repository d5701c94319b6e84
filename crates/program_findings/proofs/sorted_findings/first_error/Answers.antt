-- The first so far is one of the findings.
use Rattle.std.proofs.Common.{◌≡◌, ◌<◌, ◌+◌, ◌++◌, ◌∙◌, [], ◌∷◌, take, IfSome, subst, sym, ap, refl, length}
use Rattle.std.proofs.lemmas.List.{take_more}
use Rattle.std.proofs.lemmas.Option.{slice_get_read}
use Rattle.read_documents.specs.declared.findings.Finding.{Finding}
use Rattle.program_findings.proofs.FirstLaws.{turn_skips, turn_leaves, turn_takes}
use Rattle.program_findings.proofs.sorted_findings.first_error.Goals as goal
use Rattle.program_findings.proofs.sorted_findings.first_error.Goals.{in-Some+then-stands_first, in-Some+else-stands_first, in_default}

pub loop-finding-preserved : goal.loop-finding-preserved
loop-finding-preserved c =
    let fs = c.args.findings.now in
    let f = c.finding-item.result in
    let l = c.loop-finding in
    let more : take l.finding-index fs ++ f ∷ [] ≡ take (l.finding-index + 1) fs =
    ap (λ (g : Finding). take l.finding-index fs ++ g ∷ []) c.finding-item.is ∙ sym (take_more fs l.finding-index f c.loop-finding-test.true) in
    let turn = take l.finding-index fs in
    elim c.match-error_at.branch [
      | in-Some+then-stands_first w ↦ (
        turn_takes turn (take (l.finding-index + 1) fs) f more l.first c.match-error_at.first l.invariant.0 _ w.in-Some.at w.first-is refl (sym w.in-Some.is ∙ c.error_at.ensures.exact) (sym w.if-stands_first.true ∙ w.stands_first.ensures),
        λ count found. rw w.first-is (found l.finding-index f w.in-Some.at (slice_get_read fs (length fs) l.finding-index f refl c.loop-finding-test.true c.finding-item.is) (c.error_at.ensures.place w.in-Some.at w.in-Some.is)),
      )
      | in-Some+else-stands_first w ↦ (
        turn_leaves turn (take (l.finding-index + 1) fs) f more l.first c.match-error_at.first l.invariant.0 w.in-Some.at (sym w.in-Some.is ∙ c.error_at.ensures.exact) (sym w.if-stands_first.false ∙ w.stands_first.ensures) w.first-is,
        λ count found. rw w.first-is (l.invariant.1 count found),
      )
      | in_default w ↦
          (turn_skips turn (take (l.finding-index + 1) fs) f more l.first c.match-error_at.first l.invariant.0 (sym w.in_default.is ∙ c.error_at.ensures.exact) w.first-is, λ count found. rw w.first-is (l.invariant.1 count found))
    ]

pub returns-clause-inside : goal.returns-clause-inside
returns-clause-inside c = λ count found. subst (λ x. IfSome x (λ f. f.0.document < count)) c.in_ok-at.was (c.loop-finding.invariant.1 count found)
