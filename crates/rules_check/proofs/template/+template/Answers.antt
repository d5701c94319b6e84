use Rattle.std.proofs.Common.{◌≡◌, length, ◌+◌, ◌-◌, ◌||◌, ◌&&◌, ℕ, suc, true, false, not, Bool, refl, sym, ap, ◌∙◌, subst, rules, arith}
use Rattle.std.specs.Prelude.{nat_lt, Option, None, is_some}
use Rattle.scheme_model.specs.Trees.{Tree, Trees, tree, proper, Tail}
use Rattle.scheme_model.specs.Matching.{behind}
use Rattle.scheme_model.specs.Measures.{tree_size, tree_depth}
use Rattle.scheme_model.specs.RulesShape.{dots_of, is_dots, starts_dots, ends_dots, leading, escape_of}
use Rattle.scheme_model.specs.Ident.{Ident as Identifier}
use Rattle.std.specs.BTreeMap.{get}
use Rattle.std.specs.Ordering.{nat_cmp}
use Rattle.syntax_tree.specs.Looks.{EndStands}
use Rattle.syntax_tree.specs.Placed.{tree_place}
use Rattle.syntax_tree.specs.Macros.{identifiers}
use Rattle.syntax_tree.specs.declared.trees.nodes.Tree as number
use Rattle.syntax_tree.proofs.Looking.{part_there, behind_past, count_stands, split_depth, no_end}
use Rattle.rules_check.specs.declared.template.Seen.{Seen}
use Rattle.rules_check.specs.Templates.{dots_where, of_template, of_parts, Sees}
use Rattle.rules_check.proofs.Faults.{none_is}
use Rattle.rules_check.proofs.Contents.{or_true, or_false, end_tree}
use Rattle.rules_check.proofs.Sights.{unseen, sees_name, and_true, and_false, or_parts, marked, unmarked, no_dots, no_start, no_end as no_dots_end, no_escape, sees_none, sees_more, of_end, end_none, sees_list, sees_vector, sees_plain, sees_escape, leading_dots, leading_none, count_size, size_there, count_behind, back_one, see_end}
use Rattle.rules_check.proofs.template.+template.Goals as goal
use Rattle.rules_check.proofs.template.+template.Goals.{see-else-not-escaped-via-then-not-escaped+else-is_escape, see-else-not-escaped-via-else-not-escaped, see_list-in-None, see_list-in-Some, see_list-then-dots_at, see_list-else-dots_at, see_list-else-not-escaped-via-then-not-escaped+else-is_dots_end, see_list-else-not-escaped-via-else-not-escaped, see_parts-then-not-escaped, see_parts-else-not-escaped, see_parts-then-not-dots, see_parts-else-not-dots, see_parts-then-behind-gt0, see_parts-else-behind-gt0, see_parts-then-seen, see_parts-else-seen}

-- ---- one template

pub see-returns-in-Name : goal.see-returns-in-Name
see-returns-in-Name t c = λ r depth u tells has h.
    let w = c.args.work.now in
    let dots = dots_where c.args.escaped r in
    let l = c.in-Name.ensures.look u h in
    let occ = c.place_of-occ.ensures u h ∙ ap tree_place l.2 in
    let id = c.in-Name.ident in
    subst (λ (x : Tree Identifier). Sees w c.see_name.result (of_template dots depth x c.args.level)) (sym l.2)
    (sees_name w dots depth (record { ident = id; occ = c.place_of-occ.result }) l.0 l.1 c.args.level (get nat_cmp c.args.depths.now id) c.see_name.result (l.3, occ) (has id l.0 l.3) c.see_name.ensures)

pub see-see_list-requires : goal.see-see_list-requires
see-see_list-requires t c =
    let h = c.requires in
    let l = c.in-Vector.ensures.look h.0 h.1 in
    let deep = ap (λ (x : Tree Identifier). tree_depth x) l.2 in
    let size = ap (λ (x : Tree Identifier). tree_size x) l.2 in
    (first_of (search rules, omega (arith, deep, h.2)), ((l.0, l.3, omega (arith, deep, h.2), omega (arith, size, h.3)), (proper, tt, omega arith, omega (arith, h.3))))

pub see-returns-in-Vector : goal.see-returns-in-Vector
see-returns-in-Vector t c = λ r depth u tells has h.
    let w = c.args.work.now in
    let dots = dots_where c.args.escaped r in
    let l = c.in-Vector.ensures.look u h in
    subst (λ (x : Tree Identifier). Sees w c.see_list.result (of_template dots depth x c.args.level)) (sym l.2)
    (sees_vector w dots depth l.0 l.1 c.args.level c.see_list.result (c.see_list.ensures r depth l.0 proper tells has l.3 tt))

pub see-returns-then-is_escape : goal.see-returns-then-is_escape
see-returns-then-is_escape t c = λ r depth u tells has h.
    let w = c.args.work.now in
    let l = c.in-List.ensures.look u h in
    let s = c.see_list-then-is_escape.result in
    let both = c.inside.result in
    let e = c.inside.ensures in
    let whole = sees_escape w (dots_of identifiers r) depth l.0 l.1 l.2 c.args.level s both (sym (c.is_escape.ensures r l.0 l.1 tells l.4 l.5) ∙ c.if-is_escape.true) (c.see_list-then-is_escape.ensures r depth l.0 l.1 tells has l.4 l.5)
    (ap (λ (x : Seen). x.misplaced) e) (ap (λ (x : Seen). x.idle) e) (ap (λ (x : Seen). x.deepest) e) (ap (λ (x : Seen). x.shallow) e) in
    subst (λ (b : Bool). Sees w both (of_template (dots_where b r) depth u c.args.level)) (sym c.if-not-escaped.true)
    (subst (λ (x : Tree Identifier). Sees w both (of_template (dots_of identifiers r) depth x c.args.level)) (sym l.3) whole)

pub see-returns-else-not-escaped : goal.see-returns-else-not-escaped
see-returns-else-not-escaped t c = λ r depth u tells has h.
    let w = c.args.work.now in
    let dots = dots_where c.args.escaped r in
    let l = c.in-List.ensures.look u h in
    let s = c.see_list-else-not-escaped.result in
    let none : escape_of dots l.0 l.1 ≡ None = elim c.else-not-escaped.branch [
      | see-else-not-escaped-via-then-not-escaped+else-is_escape x ↦
          ap (λ (b : Bool). escape_of (dots_where b r) l.0 l.1) x.if-not-escaped.true
          ∙ none_is (escape_of (dots_of identifiers r) l.0 l.1) (sym (x.is_escape.ensures r l.0 l.1 tells l.4 l.5) ∙ x.if-is_escape.false)
      | see-else-not-escaped-via-else-not-escaped x ↦ ap (λ (b : Bool). escape_of (dots_where b r) l.0 l.1) x.if-not-escaped.false ∙ no_escape l.0 l.1
    ] in
    subst (λ (x : Tree Identifier). Sees w s (of_template dots depth x c.args.level)) (sym l.3)
    (sees_plain w dots depth l.0 l.1 l.2 c.args.level s none (c.see_list-else-not-escaped.ensures r depth l.0 l.1 tells has l.4 l.5))

-- ---- lists

pub see_list-see-last-requires : goal.see_list-see-last-requires
see_list-see-last-requires t c = (first_of (search rules, omega arith), see_end c.args.work.now c.args.end c.in-Some.tail c.args.level c.args.left c.in-Some.is c.requires.tail)

pub see_list-returns-then-is_dots_end : goal.see_list-returns-then-is_dots_end
see_list-returns-then-is_dots_end t c = λ r depth ts tail tells has parts ends.
    let w = c.args.work.now in
    let dots = dots_where c.args.escaped r in
    let first = c.see_parts-parts.result in
    let last = c.match-end.last in
    let j = c.join-seen in
    let starts = starts_dots (dots_of identifiers r) ts in
    let stops = ends_dots (dots_of identifiers r) tail in
    let here : c.match-end.end ≡ c.args.end = elim c.match-end.branch [ see_list-in-None x ↦ (cc) | see_list-in-Some x ↦ (cc) ] in
    let tails = subst (λ (e : Option number.Tree). EndStands w e tail) (sym here) ends in
    let sight : Sees w last (of_end dots depth tail c.args.level) = elim c.match-end.branch [
      | see_list-in-None x ↦
          subst (λ (s : Seen). Sees w s (of_end dots depth tail c.args.level)) (sym x.last-is)
          (subst (λ (q : Tail Identifier). Sees w unseen (of_end dots depth q c.args.level)) (sym (no_end w c.args.end tail (ap is_some x.in-None.is) ends)) (end_none w dots depth c.args.level unseen refl refl refl refl))
      | see_list-in-Some x ↦
          let d = end_tree w c.args.end x.in-Some.tail tail x.in-Some.is ends in
          subst (λ (s : Seen). Sees w s (of_end dots depth tail c.args.level)) (sym x.last-is)
          (subst (λ (q : Tail Identifier). Sees w x.see-last.result (of_end dots depth q c.args.level)) (sym d.1) (x.see-last.ensures r depth d.0 tells has d.2))
    ] in
    let mark : c.if-dots_at.value ≡ (starts || stops) = elim c.if-dots_at.branch [
      | see_list-then-dots_at x ↦ or_true starts stops c.if-dots_at.value (sym (c.dots_at.ensures r ts tells parts) ∙ x.if-dots_at.true) (cc)
      | see_list-else-dots_at x ↦ or_false starts stops c.if-dots_at.value (sym (c.dots_at.ensures r ts tells parts) ∙ x.if-dots_at.false) (x.value-is ∙ x.is_dots_end.ensures r tail tells tails)
    ] in
    let rest = first.misplaced || last.misplaced in
    let bad : true ≡ (starts_dots dots ts || (ends_dots dots tail || rest)) =
    marked starts stops rest (sym mark ∙ c.if-is_dots_end.true) ∙ sym (ap (λ (b : Bool). starts_dots (dots_where b r) ts || (ends_dots (dots_where b r) tail || rest)) c.if-not-escaped.true) in
    sees_list w dots depth ts tail c.args.level first last _ (c.see_parts-parts.ensures r depth ts tells has parts) sight bad j.ensures.idle j.ensures.deepest j.ensures.shallow

pub see_list-returns-else-not-escaped : goal.see_list-returns-else-not-escaped
see_list-returns-else-not-escaped t c = λ r depth ts tail tells has parts ends.
    let w = c.args.work.now in
    let dots = dots_where c.args.escaped r in
    let first = c.see_parts-parts.result in
    let last = c.match-end.last in
    let j = c.join-seen in
    let starts = starts_dots (dots_of identifiers r) ts in
    let stops = ends_dots (dots_of identifiers r) tail in
    let here : c.match-end.end ≡ c.args.end = elim c.match-end.branch [ see_list-in-None x ↦ (cc) | see_list-in-Some x ↦ (cc) ] in
    let tails = subst (λ (e : Option number.Tree). EndStands w e tail) (sym here) ends in
    let sight : Sees w last (of_end dots depth tail c.args.level) = elim c.match-end.branch [
      | see_list-in-None x ↦
          subst (λ (s : Seen). Sees w s (of_end dots depth tail c.args.level)) (sym x.last-is)
          (subst (λ (q : Tail Identifier). Sees w unseen (of_end dots depth q c.args.level)) (sym (no_end w c.args.end tail (ap is_some x.in-None.is) ends)) (end_none w dots depth c.args.level unseen refl refl refl refl))
      | see_list-in-Some x ↦
          let d = end_tree w c.args.end x.in-Some.tail tail x.in-Some.is ends in
          subst (λ (s : Seen). Sees w s (of_end dots depth tail c.args.level)) (sym x.last-is)
          (subst (λ (q : Tail Identifier). Sees w x.see-last.result (of_end dots depth q c.args.level)) (sym d.1) (x.see-last.ensures r depth d.0 tells has d.2))
    ] in
    let clean : (starts_dots dots ts ≡ false) × (ends_dots dots tail ≡ false) = elim c.else-not-escaped.branch [
      | see_list-else-not-escaped-via-then-not-escaped+else-is_dots_end x ↦
          let mark : x.if-dots_at.value ≡ (starts || stops) = elim x.if-dots_at.branch [
            | see_list-then-dots_at y ↦ or_true starts stops x.if-dots_at.value (sym (x.dots_at.ensures r ts tells parts) ∙ y.if-dots_at.true) (cc)
            | see_list-else-dots_at y ↦ or_false starts stops x.if-dots_at.value (sym (x.dots_at.ensures r ts tells parts) ∙ y.if-dots_at.false) (y.value-is ∙ y.is_dots_end.ensures r tail tells tails)
          ] in
          let none = or_parts starts stops (sym mark ∙ x.if-is_dots_end.false) in
          (ap (λ (b : Bool). starts_dots (dots_where b r) ts) x.if-not-escaped.true ∙ none.0, ap (λ (b : Bool). ends_dots (dots_where b r) tail) x.if-not-escaped.true ∙ none.1)
      | see_list-else-not-escaped-via-else-not-escaped x ↦
          (ap (λ (b : Bool). starts_dots (dots_where b r) ts) x.if-not-escaped.false ∙ no_start ts, ap (λ (b : Bool). ends_dots (dots_where b r) tail) x.if-not-escaped.false ∙ no_dots_end tail)
    ] in
    let bad = unmarked (starts_dots dots ts) (ends_dots dots tail) (first.misplaced || last.misplaced) j.result.misplaced clean.0 clean.1 j.ensures.misplaced in
    sees_list w dots depth ts tail c.args.level first last j.result (c.see_parts-parts.ensures r depth ts tells has parts) sight bad j.ensures.idle j.ensures.deepest j.ensures.shallow

-- ---- parts

pub see_parts-loop-k-init : goal.see_parts-loop-k-init
see_parts-loop-k-init t c = (
  omega arith,
  λ r depth ts tells has stands.
      let w = c.args.work.now in
      let dots = dots_where c.args.escaped r in
      let gone = behind_past w (length c.args.items.now) c.args.items.now ts stands (omega arith) in
      (sym (ap (leading dots) gone), subst (λ (us : Trees Identifier). Sees w unseen (of_parts dots depth us c.args.level)) (sym gone) (sees_none w dots depth c.args.level unseen refl refl refl refl)),
)

pub see_parts-overflow_add-level : goal.see_parts-overflow_add-level
see_parts-overflow_add-level t c =
    let h = c.requires.parts in
    record { fits = omega (arith, count_size h.0, count_stands c.args.work.now c.args.items.now h.0 h.1, h.3, c.loop-k.invariant.0) }

pub see_parts-see-part-requires : goal.see_parts-see-part-requires
see_parts-see-part-requires t c =
    let w = c.args.work.now in
    let k = c.loop-k.k in
    let h = c.requires.parts in
    let p = part_there w (k - 1) c.args.items.now h.0 (record { number = 0 }) h.1 (omega (arith, c.loop-k.auto.k, c.loop-k-test.true)) in
    let us = behind (suc (k - 1)) h.0 in
    let deep = split_depth (k - 1) h.0 p.part us p.split in
    let big = size_there (k - 1) h.0 p.part us p.split in
    let many = count_behind (suc (k - 1)) h.0 in
    let all = count_stands w c.args.items.now h.0 h.1 in
    (first_of (search rules, omega arith), (p.part, p.stands, omega (arith, deep, h.2), omega (arith, big, many, all, h.3, c.loop-k.invariant.0, c.loop-k-test.true)))

pub see_parts-is_dots-dots-requires : goal.see_parts-is_dots-dots-requires
see_parts-is_dots-dots-requires t c =
    let h = c.requires.parts in
    let p = part_there c.args.work.now (c.loop-k.k - 1) c.args.items.now h.0 (record { number = 0 }) h.1 (omega (arith, c.loop-k.auto.k, c.loop-k-test.true)) in
    (p.part, p.stands)

pub see_parts-overflow_add-idle : goal.see_parts-overflow_add-idle
see_parts-overflow_add-idle t c =
    let h = c.requires.parts in
    record { fits = omega (arith, count_size h.0, count_stands c.args.work.now c.args.items.now h.0 h.1, h.3, c.loop-k.invariant.0) }

pub see_parts-overflow_add-behind : goal.see_parts-overflow_add-behind
see_parts-overflow_add-behind t c =
    let h = c.requires.parts in
    record { fits = omega (arith, count_size h.0, count_stands c.args.work.now c.args.items.now h.0 h.1, h.3, c.loop-k.invariant.0, c.loop-k-test.true) }

pub see_parts-loop-k-preserved-then-dots : goal.see_parts-loop-k-preserved-then-dots
see_parts-loop-k-preserved-then-dots t c = (
  omega (arith, c.loop-k.invariant.0, c.loop-k-test.true),
  λ r depth ts tells has stands.
      let w = c.args.work.now in
      let k = c.loop-k.k in
      let n = c.loop-k.behind in
      let dots = dots_where c.args.escaped r in
      let p = part_there w (k - 1) c.args.items.now ts (record { number = 0 }) stands (omega (arith, c.loop-k.auto.k, c.loop-k-test.true)) in
      let us = behind k ts in
      let split = p.split ∙ ap (λ (j : ℕ). tree p.part (behind j ts)) (back_one k c.loop-k-test.true) in
      let inv = c.loop-k.invariant.1 r depth ts tells has stands in
      let first = c.see-part.result in
      let rest = c.loop-k.seen in
      let j = c.join-seen in
      let both : Seen = record { misplaced = j.result.misplaced; idle = c.if-seen.seen; deepest = j.result.deepest; shallow = j.result.shallow } in
      let found : c.if-not-escaped.dots ≡ is_dots dots p.part = elim c.if-not-escaped.branch [
        | see_parts-then-not-escaped x ↦ x.dots-is ∙ x.is_dots-dots.ensures r p.part tells p.stands ∙ sym (ap (λ (b : Bool). is_dots (dots_where b r) p.part) x.if-not-escaped.true)
        | see_parts-else-not-escaped x ↦ x.dots-is ∙ ap not x.if-not-escaped.false ∙ sym (no_dots p.part) ∙ sym (ap (λ (b : Bool). is_dots (dots_where b r) p.part) x.if-not-escaped.false)
      ] in
      let some = nat_lt 0 n in
      let other = not (is_dots dots p.part) in
      let value : c.if-not-dots.value ≡ (other && some) = elim c.if-not-dots.branch [
        | see_parts-then-not-dots x ↦ and_true other some c.if-not-dots.value (ap not (sym found ∙ x.if-not-dots.true)) x.value-is
        | see_parts-else-not-dots x ↦ and_false other some c.if-not-dots.value (ap not (sym found ∙ x.if-not-dots.false)) (x.value-is ∙ ap not x.if-not-dots.false)
      ] in
      let shallow = nat_lt first.deepest (c.args.level + n) in
      let idle : c.if-behind-gt0.idle ≡ ((other && some) && shallow) = elim c.if-behind-gt0.branch [
        | see_parts-then-behind-gt0 x ↦ and_true (other && some) shallow c.if-behind-gt0.idle (sym value ∙ x.if-behind-gt0.true) x.idle-is
        | see_parts-else-behind-gt0 x ↦ and_false (other && some) shallow c.if-behind-gt0.idle (sym value ∙ x.if-behind-gt0.false) (cc)
      ] in
      let whole : c.if-seen.seen ≡ (j.result.idle || c.if-behind-gt0.idle) = elim c.if-seen.branch [
        | see_parts-then-seen x ↦ or_true j.result.idle c.if-behind-gt0.idle c.if-seen.seen x.if-seen.true (cc)
        | see_parts-else-seen x ↦ or_false j.result.idle c.if-behind-gt0.idle c.if-seen.seen x.if-seen.false x.seen-is
      ] in
      let sees = sees_more w dots depth p.part us c.args.level n first rest both c.if-behind-gt0.idle inv.0 (c.see-part.ensures r depth p.part tells has p.stands) inv.1 j.ensures.misplaced
      (whole ∙ ap (λ (b : Bool). b || c.if-behind-gt0.idle) j.ensures.idle) j.ensures.deepest j.ensures.shallow idle in
      (leading_dots dots p.part us n (sym found ∙ c.if-dots.true) inv.0 ∙ sym (ap (leading dots) split), subst (λ (x : Trees Identifier). Sees w both (of_parts dots depth x c.args.level)) (sym split) sees),
)

pub see_parts-loop-k-preserved : goal.see_parts-loop-k-preserved
see_parts-loop-k-preserved t c = (
  omega (arith, c.loop-k.invariant.0, c.loop-k-test.true),
  λ r depth ts tells has stands.
      let w = c.args.work.now in
      let k = c.loop-k.k in
      let n = c.loop-k.behind in
      let dots = dots_where c.args.escaped r in
      let p = part_there w (k - 1) c.args.items.now ts (record { number = 0 }) stands (omega (arith, c.loop-k.auto.k, c.loop-k-test.true)) in
      let us = behind k ts in
      let split = p.split ∙ ap (λ (j : ℕ). tree p.part (behind j ts)) (back_one k c.loop-k-test.true) in
      let inv = c.loop-k.invariant.1 r depth ts tells has stands in
      let first = c.see-part.result in
      let rest = c.loop-k.seen in
      let j = c.join-seen in
      let both : Seen = record { misplaced = j.result.misplaced; idle = c.if-seen.seen; deepest = j.result.deepest; shallow = j.result.shallow } in
      let found : c.if-not-escaped.dots ≡ is_dots dots p.part = elim c.if-not-escaped.branch [
        | see_parts-then-not-escaped x ↦ x.dots-is ∙ x.is_dots-dots.ensures r p.part tells p.stands ∙ sym (ap (λ (b : Bool). is_dots (dots_where b r) p.part) x.if-not-escaped.true)
        | see_parts-else-not-escaped x ↦ x.dots-is ∙ ap not x.if-not-escaped.false ∙ sym (no_dots p.part) ∙ sym (ap (λ (b : Bool). is_dots (dots_where b r) p.part) x.if-not-escaped.false)
      ] in
      let some = nat_lt 0 n in
      let other = not (is_dots dots p.part) in
      let value : c.if-not-dots.value ≡ (other && some) = elim c.if-not-dots.branch [
        | see_parts-then-not-dots x ↦ and_true other some c.if-not-dots.value (ap not (sym found ∙ x.if-not-dots.true)) x.value-is
        | see_parts-else-not-dots x ↦ and_false other some c.if-not-dots.value (ap not (sym found ∙ x.if-not-dots.false)) (x.value-is ∙ ap not x.if-not-dots.false)
      ] in
      let shallow = nat_lt first.deepest (c.args.level + n) in
      let idle : c.if-behind-gt0.idle ≡ ((other && some) && shallow) = elim c.if-behind-gt0.branch [
        | see_parts-then-behind-gt0 x ↦ and_true (other && some) shallow c.if-behind-gt0.idle (sym value ∙ x.if-behind-gt0.true) x.idle-is
        | see_parts-else-behind-gt0 x ↦ and_false (other && some) shallow c.if-behind-gt0.idle (sym value ∙ x.if-behind-gt0.false) (cc)
      ] in
      let whole : c.if-seen.seen ≡ (j.result.idle || c.if-behind-gt0.idle) = elim c.if-seen.branch [
        | see_parts-then-seen x ↦ or_true j.result.idle c.if-behind-gt0.idle c.if-seen.seen x.if-seen.true (cc)
        | see_parts-else-seen x ↦ or_false j.result.idle c.if-behind-gt0.idle c.if-seen.seen x.if-seen.false x.seen-is
      ] in
      let sees = sees_more w dots depth p.part us c.args.level n first rest both c.if-behind-gt0.idle inv.0 (c.see-part.ensures r depth p.part tells has p.stands) inv.1 j.ensures.misplaced
      (whole ∙ ap (λ (b : Bool). b || c.if-behind-gt0.idle) j.ensures.idle) j.ensures.deepest j.ensures.shallow idle in
      (leading_none dots p.part us (sym found ∙ c.if-dots.false) ∙ sym (ap (leading dots) split), subst (λ (x : Trees Identifier). Sees w both (of_parts dots depth x c.args.level)) (sym split) sees),
)

pub see_parts-returns : goal.see_parts-returns
see_parts-returns t c = λ r depth ts tells has stands.
    let dots = dots_where c.args.escaped r in
    let none : c.loop-k.k ≡ 0 = omega (arith, c.loop-k-test.false) in
    subst (λ (j : ℕ). Sees c.args.work.now c.loop-k.seen (of_parts dots depth (behind j ts) c.args.level)) none (c.loop-k.invariant.1 r depth ts tells has stands).1
