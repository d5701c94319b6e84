-- Each turn adds one document more, edited, and there are no more than turns.
use Rattle.std.proofs.Common.{◌≡◌, ◌≤◌, ℕ, suc, List, slice_get, option_map, sym, ap, ◌∙◌, take, length, arith, add-one, nat_cmp}
use Rattle.std.specs.FinMap.{entries, len-entries, len-empty, empty}
use Rattle.std.specs.Cmp.Lexicographic.{slice_cmp}
use Rattle.std.proofs.lemmas.List.{length-map, nil_from_length}
use Rattle.std.proofs.lemmas.Option.{slice_get-map}
use Rattle.document_store.specs.Texts.{Document, Texts}
use Rattle.read_documents.proofs.Copies.{copied_more, copied_all}
use Rattle.document_changes.specs.Edited.{edited_document, edited_texts}
use Rattle.document_changes.proofs.EditedLaws.{edited_entries}
use Rattle.document_changes.proofs.edited.edited_store.Goals as goal

pub loop-n-init : goal.loop-n-init
loop-n-init c = record {
  front = ap (λ (m : Texts). entries m) c.new-store.ensures ∙ nil_from_length (entries (empty {X = Document} {R = slice_cmp nat_cmp})) (sym (len-entries (empty {X = Document} {R = slice_cmp nat_cmp})) ∙ len-empty (slice_cmp nat_cmp) Document);
  few = λ h. absurd (omega arith);
}

pub loop-n-preserved : goal.loop-n-preserved
loop-n-preserved c =
    let e = c.args.encoding in let ds = c.args.edits.now in let m = c.args.texts.now in let l = c.loop-n in
    let all = edited_entries e ds m in
    let at : slice_get (entries (edited_texts e ds m)) l.n ≡ option_map (edited_document e ds) (slice_get (entries m) l.n) =
    ap (λ (es : List (List ℕ × Document)). slice_get es l.n) all ∙ slice_get-map (edited_document e ds) (entries m) l.n in
    let more = copied_more (edited_texts e ds m) l.store c.add_edited.new.store l.n _ (l.invariant.front ∙ ap (λ (es : List (List ℕ × Document)). take l.n es) (sym all)) at c.in_ok-add_edited.ensures.copies in
    record {
      front = rw add-one (more ∙ ap (λ (es : List (List ℕ × Document)). take (suc l.n) es) all);
      few = λ _. c.in_ok-add_edited.ensures.few;
    }

pub returns : goal.returns
returns c =
    let e = c.args.encoding in let ds = c.args.edits.now in let m = c.args.texts.now in let l = c.loop-n in
    let all = edited_entries e ds m in
    let few : length (entries m) ≤ l.n = omega (arith, l.invariant.few) in
    let same : length (entries (edited_texts e ds m)) ≡ length (entries m) = ap (λ (es : List (List ℕ × Document)). length es) all ∙ length-map (entries m) (edited_document e ds) in
    copied_all (edited_texts e ds m) l.store l.n (l.invariant.front ∙ ap (λ (es : List (List ℕ × Document)). take l.n es) (sym all)) (omega (arith, few, same))
