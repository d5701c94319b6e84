use Rattle.std.proofs.Common.{◌≡◌, ◌+◌, ◌∷◌, [], ◌++◌, ℕ, List, take, get_or, sym, ap, ◌∙◌}
use Rattle.std.specs.BTreeMap.{BTreeMap, get}
use Rattle.std.specs.Ordering.{nat_cmp}
use Rattle.std.proofs.lemmas.List.{take_more}
use Rattle.core_forms.specs.declared.shape.QuasiMark.{QuasiMark}
use Rattle.core_forms.specs.declared.shape.CoreKeyword as code
use Rattle.core_forms.specs.declared.shape.CoreKeyword.TheVariants as word
use Rattle.core_forms.specs.Marks.{keyword_by_number}
use Rattle.core_forms.proofs.Marking.{none_is, some_is, mark_added, mark_kept}
use Rattle.core_forms.proofs.quasi.by_number.Goals as goal
use Rattle.core_forms.proofs.quasi.by_number.Goals.{then-not-contains_key+in_ok-insert, else-not-contains_key}

pub loop-mark-preserved : goal.loop-mark-preserved
loop-mark-preserved c = λ n.
    let i = c.loop-mark.mark-index in
    let all = c.args.marks.now in
    let old = c.loop-mark.told in
    let v : QuasiMark = get_or all i (record { ident = 0; keyword = word.Quote }) in
    let vs = take i all in
    let more : take (i + 1) all ≡ vs ++ v ∷ [] = take_more all i (record { ident = 0; keyword = word.Quote }) c.loop-mark-test.true in
    let whole = ap (λ (xs : List QuasiMark). keyword_by_number xs n) (sym more) in
    elim c.if-not-contains_key.branch [
      | then-not-contains_key+in_ok-insert w ↦
          ap (λ (d : BTreeMap ℕ code.CoreKeyword). get nat_cmp d n) w.told-is
          ∙ mark_added vs v n (get nat_cmp old n) (get nat_cmp w.insert.new.self n) (c.loop-mark.invariant n)
          (sym (c.loop-mark.invariant v.ident) ∙ none_is (get nat_cmp old v.ident) (sym c.contains_key.ensures ∙ w.if-not-contains_key.true)) (w.in_ok-insert.ensures.updates.0 n) ∙ whole
      | else-not-contains_key w ↦
          let d = some_is (get nat_cmp old v.ident) (sym c.contains_key.ensures ∙ w.if-not-contains_key.false) in
          ap (λ (d : BTreeMap ℕ code.CoreKeyword). get nat_cmp d n) w.told-is ∙ c.loop-mark.invariant n ∙ mark_kept vs v n d.0 (sym (c.loop-mark.invariant v.ident) ∙ d.1) ∙ whole
    ]
