use Rattle.std.proofs.Common.{◌≡◌, ◌+◌, List, ℕ, Some, Bool, true, false, cond, length, drop, map, sym, ap, ◌∙◌, subst, arith}
use Rattle.std.specs.Prelude.{nat_lt}
use Rattle.std.specs.FinMap.{entries}
use Rattle.document_store.specs.Texts.{Document}
use Rattle.program_answers.specs.ToldAnswers.{document_at, text_of}
use Rattle.ls_base.specs.Limits.{max_text}
use Rattle.text_edits.specs.Edits.{edited}
use Rattle.text_edits.specs.Views.{CanEdit, edit_of}
use Rattle.class_edits.specs.DocumentEdits.{seen, too_long}
use Rattle.class_edits.proofs.DocumentLaws.{all_gone, as_many, can_one, next_long}
use Rattle.class_edits.proofs.texts.first_too_long.Goals as goal

pub text-requires : goal.text-requires
text-requires c = omega (arith, as_many (entries c.args.texts.now) c.args.all.now c.requires)

pub is_too_long-requires : goal.is_too_long-requires
is_too_long-requires c =
    let ds = entries c.args.texts.now in
    let i = c.loop-number.number in
    subst (λ (t : List ℕ). CanEdit t c.as_slice.result.now) (sym c.text.ensures)
    (subst (CanEdit (text_of ds i)) (sym c.as_slice.ensures) (can_one ds c.args.all.now i c.index-all-number.result c.requires (omega arith) c.index-all-number.is))

pub document-requires : goal.document-requires
document-requires c = omega (arith, as_many (entries c.args.texts.now) c.args.all.now c.requires)

pub returns-then-is_too_long : goal.returns-then-is_too_long
returns-then-is_too_long c =
    let ds = entries c.args.texts.now in
    let all = c.args.all.now in
    let i = c.loop-number.number in
    let es = c.index-all-number.result in
    let test : nat_lt max_text (length (edited (map edit_of es) (text_of ds i))) ≡ true =
    sym (c.is_too_long.ensures ∙ (λ j. nat_lt max_text (length (edited (map edit_of (c.as_slice.ensures j)) (c.text.ensures j))))) ∙ c.if-is_too_long.true in
    ap Some (c.as_str.ensures ∙ c.document.ensures.uri)
    ∙ sym (next_long ds all i es c.requires (omega arith) c.index-all-number.is ∙ ap (λ (b : Bool). cond b (Some (document_at ds i).0) (too_long (drop (i + 1) ds) (seen (drop (i + 1) all)))) test) ∙ c.loop-number.invariant

pub loop-number-preserved : goal.loop-number-preserved
loop-number-preserved c =
    let ds = entries c.args.texts.now in
    let all = c.args.all.now in
    let i = c.loop-number.number in
    let es = c.index-all-number.result in
    let test : nat_lt max_text (length (edited (map edit_of es) (text_of ds i))) ≡ false =
    sym (c.is_too_long.ensures ∙ (λ j. nat_lt max_text (length (edited (map edit_of (c.as_slice.ensures j)) (c.text.ensures j))))) ∙ c.if-is_too_long.false in
    sym (next_long ds all i es c.requires (omega arith) c.index-all-number.is ∙ ap (λ (b : Bool). cond b (Some (document_at ds i).0) (too_long (drop (i + 1) ds) (seen (drop (i + 1) all)))) test) ∙ c.loop-number.invariant

pub returns : goal.returns
returns c =
    sym (ap (λ (ds : List (List ℕ × Document)). too_long ds (seen (drop c.loop-number.number c.args.all.now))) (all_gone (entries c.args.texts.now) c.args.all.now c.loop-number.number c.requires (omega arith)))
    ∙ c.loop-number.invariant
