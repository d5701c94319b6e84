use Rattle.std.specs.Prelude.{Option, IfSome}
use Rattle.std.proofs.Common.{rules, arith, ◌≡◌, ℕ, ◌+◌, ◌-◌, ◌≤◌, length, drop, ◌++◌, Some, refl, sym, ap, ◌∙◌, subst, nat_eq}
use Rattle.std.proofs.lemmas.Bool.Decides.{nat_tests}
use Rattle.scheme_model.specs.Trees.{proper}
use Rattle.scheme_model.specs.TreeParts.{count}
use Rattle.scheme_model.specs.RulesShape.{role_of}
use Rattle.scheme_model.specs.Matching.{matcher, behind, front, rest_of, names_in, match_tree, match_parts, match_rest, match_each, at_end, match_atom, match_name, taken}
use Rattle.syntax_tree.specs.Macros.{identifiers}
use Rattle.syntax_tree.specs.Standing.{is_list}
use Rattle.syntax_tree.specs.Works.{StandsFor}
use Rattle.syntax_tree.specs.Looks.{EndNamed}
use Rattle.syntax_tree.proofs.Looking.{count_stands, behind_stands, part_standing, part_there, part_within, split_one, behind_past, part_named}
use Rattle.rules_match.specs.Found.{FindsParts}
use Rattle.rules_match.specs.declared.matching.Found.{Found}
use Rattle.rules_match.proofs.Parts.{behind_behind, count_behind, front_stands, rest_parts, rest_list, end_dotted, end_proper, tail_within}
use Rattle.rules_match.proofs.RuleLaws.{rest_is}
use Rattle.rules_match.proofs.Adding.{finds_same, finds_true, finds_false, parts_then, end_found, atom_found}
use Rattle.rules_match.proofs.Steps.{step_alone, fail_alone, fail_short, step_repeated, fail_repeated, fail_few, taken_some, taken_none, up_to_none, up_to_more, up_to_fail, up_to_all}
use Rattle.rules_match.proofs.Naming.{front_named, behind_named, added_named, none_named, spread_named, collected_named}
use Rattle.rules_match.proofs.EachLaws.{places_none, places_more, places_fail, places_all, places_count}
use Rattle.rules_match.proofs.matching.Matcher.+matching.Goals as goal

-- ---- one tree

pub tree-returns-in_ok-name-in-Name-clause-finds : goal.tree-returns-in_ok-name-in-Name-clause-finds
tree-returns-in_ok-name-in-Name-clause-finds t c = λ r same p u knows ps fs.
    let w = c.args.self.now.work.now in
    let m = matcher identifiers r same in
    let q = c.in-Name.ensures.look p ps in
    finds_same w c.args.found.now c.name.new.found (match_name same (role_of identifiers r q.0) q.0 u) (match_tree m p u) c.in_ok-name-in-Name.field-0 (ap (λ x. match_tree m x u) (sym q.2))
    (c.in_ok-name-in-Name.ensures.finds r same q.0 u knows q.3 fs)

pub tree-returns-in-Atom-clause-finds : goal.tree-returns-in-Atom-clause-finds
tree-returns-in-Atom-clause-finds t c = λ r same p u knows ps fs.
    let w = c.args.self.now.work.now in
    let m = matcher identifiers r same in
    let q = c.in-Atom.ensures.look p ps in
    finds_same w c.args.found.now c.args.found.now (match_atom q.0 u) (match_tree m p u) c.atom.result (ap (λ x. match_tree m x u) (sym q.2))
    (atom_found w c.args.found.now q.0 u c.atom.result (c.atom.ensures q.0 q.1 u q.3 fs))

pub tree-returns-in_ok-rest-in-Some-clause-finds : goal.tree-returns-in_ok-rest-in-Some-clause-finds
tree-returns-in_ok-rest-in-Some-clause-finds t c = λ r same p u knows ps fs.
    let w = c.args.self.now.work.now in
    let m = matcher identifiers r same in
    let q = c.in-List.ensures.look p ps in
    let f = c.in-List-look_at.ensures.look u fs in
    let b = c.in_ok-rest-in-Some.field-0 in
    let a = subst (FindsParts w m q.0 f.0 0 c.args.found.now c.parts.new.found) c.in-Some.is (c.in_ok-at-in-List-look_at.ensures.finds r same q.0 f.0 knows q.4 f.4) in
    let e = c.in_ok-rest-in-Some.ensures.finds r same q.1 f.0 f.1 knows q.5 (record { place = f.2; whole = subst (StandsFor w c.args.form) f.3 fs; stands = record { parts = f.4; tail = f.5 } }) in
    finds_same w c.args.found.now c.rest.new.found (match_parts m q.0 (match_rest m q.1) f.0 f.1) (match_tree m p u) b (λ i. match_tree m (sym q.3 i) (sym f.3 i))
    (parts_then w m q.0 f.0 0 c.in-Some.at c.args.found.now c.parts.new.found c.rest.new.found (match_rest m q.1) f.1 b a e)

pub tree-returns-in-None-clause-finds : goal.tree-returns-in-None-clause-finds
tree-returns-in-None-clause-finds t c = λ r same p u knows ps fs.
    let w = c.args.self.now.work.now in
    let m = matcher identifiers r same in
    let q = c.in-List.ensures.look p ps in
    let f = c.in-List-look_at.ensures.look u fs in
    let a = subst (FindsParts w m q.0 f.0 0 c.args.found.now c.parts.new.found) c.in-None.is (c.in_ok-at-in-List-look_at.ensures.finds r same q.0 f.0 knows q.4 f.4) in
    (λ i. match_tree m (q.3 i) (f.3 i)) ∙ a (match_rest m q.1) f.1

pub tree-returns-in-Some-2-clause-finds : goal.tree-returns-in-Some-2-clause-finds
tree-returns-in-Some-2-clause-finds t c = λ r same p u knows ps fs.
    let w = c.args.self.now.work.now in
    let m = matcher identifiers r same in
    let q = c.in-Vector.ensures.look p ps in
    let f = c.in-Vector-look_at-2.ensures.look u fs in
    let at = c.in-Some-2.at in
    let len = length c.in-Vector-look_at-2.items.now in
    let new = c.parts-in-Vector-look_at-2.new.found in
    let a = subst (FindsParts w m q.0 f.0 0 c.args.found.now new) c.in-Some-2.is (c.in_ok-at-in-Vector-look_at-2.ensures.finds r same q.0 f.0 knows q.3 f.3) in
    let within : at ≤ len = subst (λ (o : Option ℕ). IfSome o (λ n. n ≤ len)) c.in-Some-2.is c.in_ok-at-in-Vector-look_at-2.ensures.within in
    let n = count_stands w c.in-Vector-look_at-2.items.now f.0 f.3 in
    let b = count_behind at f.0 in
    let test = nat_eq at len in
    finds_same w c.args.found.now new (match_parts m q.0 at_end f.0 proper) (match_tree m p u) test (λ i. match_tree m (sym q.2 i) (sym f.2 i))
    (parts_then w m q.0 f.0 0 at c.args.found.now new new at_end proper test a (end_found w new (behind at f.0) test (λ h. grind (arith, nat_tests)) (λ h. grind (arith, nat_tests))))

pub tree-returns-in-None-2-clause-finds : goal.tree-returns-in-None-2-clause-finds
tree-returns-in-None-2-clause-finds t c = λ r same p u knows ps fs.
    let w = c.args.self.now.work.now in
    let m = matcher identifiers r same in
    let q = c.in-Vector.ensures.look p ps in
    let f = c.in-Vector-look_at-2.ensures.look u fs in
    let a = subst (FindsParts w m q.0 f.0 0 c.args.found.now c.parts-in-Vector-look_at-2.new.found) c.in-None-2.is (c.in_ok-at-in-Vector-look_at-2.ensures.finds r same q.0 f.0 knows q.3 f.3) in
    (λ i. match_tree m (q.2 i) (f.2 i)) ∙ a at_end proper

-- ---- parts

pub parts-loop-k-init : goal.parts-loop-k-init
parts-loop-k-init t c = (c.requires.there, λ r same ps ts knows pr fr. up_to_none c.args.self.now.work.now (matcher identifiers r same) ps ts c.args.from c.args.found.now, λ region fr h. h)

pub parts-each-requires : goal.parts-each-requires
parts-each-requires t c =
    let w = c.args.self.now.work.now in
    let f = c.requires.form in
    let j = c.loop-k.j in
    let n = j + (length c.args.form.now - j - c.saturating_sub-after.result) - j in (
      first_of (omega arith, search rules, grind arith),
      (
        c.requires.knows,
        (
          part_within w c.args.pattern.now c.args.left c.loop-k.k _ c.requires.pattern c.loop-k-test.true,
          (front n (behind j f.0), front_stands w n (drop j c.args.form.now) (behind j f.0) (behind_stands w j c.args.form.now f.0 f.1)),
        ),
      ),
    )

pub parts-tree-requires : goal.parts-tree-requires
parts-tree-requires t c =
    let w = c.args.self.now.work.now in (
      first_of (omega arith, search rules, grind arith),
      (c.requires.knows, (part_within w c.args.pattern.now c.args.left c.loop-k.k _ c.requires.pattern c.loop-k-test.true, part_standing w c.loop-k.j c.args.form.now _ c.requires.form (omega arith))),
    )

pub parts-loop-k-preserved : goal.parts-loop-k-preserved
parts-loop-k-preserved t c = (
  omega arith,
  λ r same ps ts knows pr fr.
      let w = c.args.self.now.work.now in
      let m = matcher identifiers r same in
      let k = c.loop-k.k in
      let j = c.loop-k.j in
      let p = part_there w k c.args.pattern.now ps (record { number = 0 }) pr c.loop-k-test.true in
      let q = part_there w j c.args.form.now ts (record { number = 0 }) fr (omega arith) in
      let d = sym c.if-dots_at.false ∙ c.dots_at.ensures r ps knows.tells pr in
      let a = finds_true w c.loop-k.found c.tree.new.found (match_tree m p.part q.part) c.in_ok-tree.field-0 c.if-not-branch-2.false (c.in_ok-tree.ensures.finds r same p.part q.part knows p.stands q.stands) in
      up_to_more w m ps ts c.args.from k j (k + 1) (j + 1) c.args.found.now c.loop-k.found c.tree.new.found a.0 (c.loop-k.invariant.1 r same ps ts knows pr fr) a.2
      (λ rest end. step_alone m rest ps ts end k j p.part (split_one w k ps _ p) q.part a.0 (split_one w j ts _ q) d a.1),
  λ region fr h. c.in_ok-tree.ensures.named region (part_named c.args.self.now.work.now region c.loop-k.j c.args.form.now (record { number = 0 }) fr (omega arith)) (c.loop-k.invariant.2 region fr h),
)

pub parts-loop-k-preserved-then-dots_at : goal.parts-loop-k-preserved-then-dots_at
parts-loop-k-preserved-then-dots_at t c = (
  omega arith,
  λ r same ps ts knows pr fr.
      let w = c.args.self.now.work.now in
      let m = matcher identifiers r same in
      let k = c.loop-k.k in
      let j = c.loop-k.j in
      let n = length c.args.form.now - j - c.saturating_sub-after.result in
      let p = part_there w k c.args.pattern.now ps (record { number = 0 }) pr c.loop-k-test.true in
      let d = sym c.if-dots_at.true ∙ c.dots_at.ensures r ps knows.tells pr in
      let pc = count_stands w c.args.pattern.now ps pr in
      let tc = count_stands w c.args.form.now ts fr in
      let pb = count_behind (k + 2) ps in
      let tb = count_behind j ts in
      let stands = front_stands w (j + n - j) (drop j c.args.form.now) (behind j ts) (behind_stands w j c.args.form.now ts fr) in
      let same_count : j + n - j ≡ n = omega arith in
      let us = front (j + n - j) (behind j ts) in
      let a = finds_true w c.loop-k.found c.each.new.found (match_each (match_tree m p.part) (names_in m.role p.part) us) c.in_ok-each.field-0 c.if-not-branch.false (c.in_ok-each.ensures.finds r same p.part us knows p.stands stands) in
      let e : taken (count (behind (k + 2) ps)) (behind j ts) ≡ Some (us, behind (j + n) ts) =
      taken_some (count (behind (k + 2) ps)) n (behind j ts) (omega arith) (omega arith) ∙ (λ i. Some (front (sym same_count i) (behind j ts), behind_behind j n ts i)) in
      up_to_more w m ps ts c.args.from k j (k + 2) (j + n) c.args.found.now c.loop-k.found c.each.new.found a.0 (c.loop-k.invariant.1 r same ps ts knows pr fr) a.2
      (λ rest end. step_repeated m rest ps ts end k j p.part (split_one w k ps _ p) (j + n) us a.0 d e a.1),
  λ region fr h.
      let w = c.args.self.now.work.now in
      let j = c.loop-k.j in
      let n = length c.args.form.now - j - c.saturating_sub-after.result in
      c.in_ok-each.ensures.named region (front_named w region (j + n - j) (drop j c.args.form.now) (behind_named w region j c.args.form.now fr)) (c.loop-k.invariant.2 region fr h),
)

pub parts-returns-then-rest-after-clause-finds : goal.parts-returns-then-rest-after-clause-finds
parts-returns-then-rest-after-clause-finds t c = λ r same ps ts knows pr fr.
    let w = c.args.self.now.work.now in
    let m = matcher identifiers r same in
    let k = c.loop-k.k in
    let j = c.loop-k.j in
    let p = part_there w k c.args.pattern.now ps (record { number = 0 }) pr c.loop-k-test.true in
    let d = sym c.if-dots_at.true ∙ c.dots_at.ensures r ps knows.tells pr in
    let pc = count_stands w c.args.pattern.now ps pr in
    let tc = count_stands w c.args.form.now ts fr in
    let pb = count_behind (k + 2) ps in
    let tb = count_behind j ts in
    let e = taken_none (count (behind (k + 2) ps)) (behind j ts) (omega arith) in
    up_to_fail w m ps ts c.args.from k j c.args.found.now c.loop-k.found c.loop-k.found (c.loop-k.invariant.1 r same ps ts knows pr fr)
    (λ rest end. fail_few m rest ps ts end k j p.part (split_one w k ps _ p) d e)

pub parts-returns-then-not-branch-clause-finds : goal.parts-returns-then-not-branch-clause-finds
parts-returns-then-not-branch-clause-finds t c = λ r same ps ts knows pr fr.
    let w = c.args.self.now.work.now in
    let m = matcher identifiers r same in
    let k = c.loop-k.k in
    let j = c.loop-k.j in
    let n = length c.args.form.now - j - c.saturating_sub-after.result in
    let p = part_there w k c.args.pattern.now ps (record { number = 0 }) pr c.loop-k-test.true in
    let d = sym c.if-dots_at.true ∙ c.dots_at.ensures r ps knows.tells pr in
    let pc = count_stands w c.args.pattern.now ps pr in
    let tc = count_stands w c.args.form.now ts fr in
    let pb = count_behind (k + 2) ps in
    let tb = count_behind j ts in
    let stands = front_stands w (j + n - j) (drop j c.args.form.now) (behind j ts) (behind_stands w j c.args.form.now ts fr) in
    let same_count : j + n - j ≡ n = omega arith in
    let us = front (j + n - j) (behind j ts) in
    let a = finds_false w c.loop-k.found c.each.new.found (match_each (match_tree m p.part) (names_in m.role p.part) us) c.in_ok-each.field-0 c.if-not-branch.true (c.in_ok-each.ensures.finds r same p.part us knows p.stands stands) in
    let e : taken (count (behind (k + 2) ps)) (behind j ts) ≡ Some (us, behind n (behind j ts)) =
    taken_some (count (behind (k + 2) ps)) n (behind j ts) (omega arith) (omega arith) ∙ (λ i. Some (front (sym same_count i) (behind j ts), behind n (behind j ts))) in
    up_to_fail w m ps ts c.args.from k j c.args.found.now c.loop-k.found c.each.new.found (c.loop-k.invariant.1 r same ps ts knows pr fr)
    (λ rest end. fail_repeated m rest ps ts end k j p.part (split_one w k ps _ p) us (behind n (behind j ts)) d e a)

pub parts-returns-then-rest-eq0-clause-finds : goal.parts-returns-then-rest-eq0-clause-finds
parts-returns-then-rest-eq0-clause-finds t c = λ r same ps ts knows pr fr.
    let w = c.args.self.now.work.now in
    let m = matcher identifiers r same in
    let k = c.loop-k.k in
    let j = c.loop-k.j in
    let p = part_there w k c.args.pattern.now ps (record { number = 0 }) pr c.loop-k-test.true in
    let d = sym c.if-dots_at.false ∙ c.dots_at.ensures r ps knows.tells pr in
    let gone = behind_past w j c.args.form.now ts fr (omega arith) in
    up_to_fail w m ps ts c.args.from k j c.args.found.now c.loop-k.found c.loop-k.found (c.loop-k.invariant.1 r same ps ts knows pr fr)
    (λ rest end. fail_short m rest ps ts end k j p.part (split_one w k ps _ p) gone d)

pub parts-returns-then-not-branch-2-clause-finds : goal.parts-returns-then-not-branch-2-clause-finds
parts-returns-then-not-branch-2-clause-finds t c = λ r same ps ts knows pr fr.
    let w = c.args.self.now.work.now in
    let m = matcher identifiers r same in
    let k = c.loop-k.k in
    let j = c.loop-k.j in
    let p = part_there w k c.args.pattern.now ps (record { number = 0 }) pr c.loop-k-test.true in
    let q = part_there w j c.args.form.now ts (record { number = 0 }) fr (omega arith) in
    let d = sym c.if-dots_at.false ∙ c.dots_at.ensures r ps knows.tells pr in
    let a = finds_false w c.loop-k.found c.tree.new.found (match_tree m p.part q.part) c.in_ok-tree.field-0 c.if-not-branch-2.true (c.in_ok-tree.ensures.finds r same p.part q.part knows p.stands q.stands) in
    up_to_fail w m ps ts c.args.from k j c.args.found.now c.loop-k.found c.tree.new.found (c.loop-k.invariant.1 r same ps ts knows pr fr)
    (λ rest end. fail_alone m rest ps ts end k j p.part (split_one w k ps _ p) q.part (split_one w j ts _ q) d a)

pub parts-returns-clause-finds : goal.parts-returns-clause-finds
parts-returns-clause-finds t c = λ r same ps ts knows pr fr.
    let w = c.args.self.now.work.now in
    up_to_all w (matcher identifiers r same) ps ts c.args.from c.loop-k.k c.loop-k.j c.args.found.now c.loop-k.found (c.loop-k.invariant.1 r same ps ts knows pr fr) (behind_past w c.loop-k.k c.args.pattern.now ps pr c.loop-k-test.false)

-- ---- tails

pub rest-list-requires : goal.rest-list-requires
rest-list-requires t c =
    let w = c.args.self.now.work.now in
    let q = tail_within w c.args.tail c.in-Some.pattern c.args.left c.in-Some.is c.requires.tail in
    let f = c.requires.form in
    let e = end_proper w c.args.row.end f.1.0 c.in-None-end-2.is f.1.1.stands.tail in
    let n = count_stands w c.args.row.items.now f.0 f.1.1.stands.parts in
    let own = ap (λ x. is_list (rest_of (behind c.args.from f.0) x)) e ∙ rest_list (behind c.args.from f.0) in
    record { knows = c.requires.knows; pattern = (q.0, q.1); list = (rest_of (behind c.args.from f.0) f.1.0, rest_is w c.args.form c.args.row f.0 f.1.0 c.args.from f.1.1 (omega arith) own) }

pub rest-list-requires-then-from-row : goal.rest-list-requires-then-from-row
rest-list-requires-then-from-row t c =
    let w = c.args.self.now.work.now in
    let q = tail_within w c.args.tail c.in-Some.pattern c.args.left c.in-Some.is c.requires.tail in
    let f = c.requires.form in
    let n = count_stands w c.args.row.items.now f.0 f.1.1.stands.parts in
    let b = count_behind c.args.from f.0 in
    record {
      knows = c.requires.knows;
      pattern = (q.0, q.1);
      list = (rest_of (behind c.args.from f.0) f.1.0, rest_is w c.args.form c.args.row f.0 f.1.0 c.args.from f.1.1 (omega arith) (rest_parts (behind c.args.from f.0) f.1.0 (omega arith)));
    }

pub rest-tree-requires : goal.rest-tree-requires
rest-tree-requires t c =
    let w = c.args.self.now.work.now in
    let q = tail_within w c.args.tail c.in-Some.pattern c.args.left c.in-Some.is c.requires.tail in
    let f = c.requires.form in
    let e = end_dotted w c.args.row.end f.1.0 c.in-Some-end-2.end c.in-Some-end-2.is f.1.1.stands.tail in
    (first_of (omega arith, search rules, grind arith), (c.requires.knows, (q, (e.0, e.3))))

pub rest-returns-in-None-end-clause-finds : goal.rest-returns-in-None-end-clause-finds
rest-returns-in-None-end-clause-finds t c = λ r same q ts end knows qs row.
    let w = c.args.self.now.work.now in
    let m = matcher identifiers r same in
    let f = c.args.found.now in
    let e = end_proper w c.args.tail q c.in-None.is qs in
    let g = end_proper w c.args.row.end end c.in-None-end.is row.stands.tail in
    let n = count_stands w c.args.row.items.now ts row.stands.parts in
    let b = count_behind c.args.from ts in
    let test = nat_eq c.args.from (length c.args.row.items.now) in
    finds_same w f f (at_end (behind c.args.from ts) proper) (match_rest m q (behind c.args.from ts) end) test (λ i. match_rest m (sym e i) (behind c.args.from ts) (sym g i))
    (end_found w f (behind c.args.from ts) test (λ h. grind (arith, nat_tests)) (λ h. grind (arith, nat_tests)))

pub rest-returns-in_ok-list-in-None-end-2-clause-finds : goal.rest-returns-in_ok-list-in-None-end-2-clause-finds
rest-returns-in_ok-list-in-None-end-2-clause-finds t c = λ r same q ts end knows qs row.
    let w = c.args.self.now.work.now in
    let m = matcher identifiers r same in
    let p = end_dotted w c.args.tail q c.in-Some.pattern c.in-Some.is qs in
    let g = end_proper w c.args.row.end end c.in-None-end-2.is row.stands.tail in
    let n = count_stands w c.args.row.items.now ts row.stands.parts in
    let own = ap (λ x. is_list (rest_of (behind c.args.from ts) x)) g ∙ rest_list (behind c.args.from ts) in
    let is = rest_is w c.args.form c.args.row ts end c.args.from row (omega arith) own in
    finds_same w c.args.found.now c.list.new.found (match_tree m p.0 (rest_of (behind c.args.from ts) end)) (match_rest m q (behind c.args.from ts) end) c.in_ok-list-in-None-end-2.field-0
    (λ i. match_rest m (sym p.1 i) (behind c.args.from ts) end) (c.in_ok-list-in-None-end-2.ensures.finds r same p.0 (rest_of (behind c.args.from ts) end) knows p.3 p.2 is)

pub rest-returns-then-from-row-clause-finds : goal.rest-returns-then-from-row-clause-finds
rest-returns-then-from-row-clause-finds t c = λ r same q ts end knows qs row.
    let w = c.args.self.now.work.now in
    let m = matcher identifiers r same in
    let p = end_dotted w c.args.tail q c.in-Some.pattern c.in-Some.is qs in
    let n = count_stands w c.args.row.items.now ts row.stands.parts in
    let b = count_behind c.args.from ts in
    let is = rest_is w c.args.form c.args.row ts end c.args.from row (omega arith) (rest_parts (behind c.args.from ts) end (omega arith)) in
    finds_same w c.args.found.now c.list-then-from-row.new.found (match_tree m p.0 (rest_of (behind c.args.from ts) end)) (match_rest m q (behind c.args.from ts) end) c.in_ok-list-in-Some-end-2.field-0
    (λ i. match_rest m (sym p.1 i) (behind c.args.from ts) end) (c.in_ok-list-in-Some-end-2.ensures.finds r same p.0 (rest_of (behind c.args.from ts) end) knows p.3 p.2 is)

pub rest-returns-in_ok-tree-in-Some-end-2-clause-finds : goal.rest-returns-in_ok-tree-in-Some-end-2-clause-finds
rest-returns-in_ok-tree-in-Some-end-2-clause-finds t c = λ r same q ts end knows qs row.
    let w = c.args.self.now.work.now in
    let m = matcher identifiers r same in
    let p = end_dotted w c.args.tail q c.in-Some.pattern c.in-Some.is qs in
    let e = end_dotted w c.args.row.end end c.in-Some-end-2.end c.in-Some-end-2.is row.stands.tail in
    let gone = behind_past w c.args.from c.args.row.items.now ts row.stands.parts (omega arith) in
    finds_same w c.args.found.now c.tree.new.found (match_tree m p.0 e.0) (match_rest m q (behind c.args.from ts) end) c.in_ok-tree-in-Some-end-2.field-0
    (λ i. match_rest m (sym p.1 i) (sym gone i) (sym e.1 i)) (c.in_ok-tree-in-Some-end-2.ensures.finds r same p.0 e.0 knows p.3 e.3)

-- ---- each tree

pub each-tree-requires : goal.each-tree-requires
each-tree-requires t c = (
  first_of (omega arith, search rules, grind arith),
  (c.requires.knows, (c.requires.pattern, part_standing c.args.self.now.work.now c.loop-form.form-index c.args.forms.now _ c.requires.forms c.loop-form-test.true)),
)

pub each-loop-form-init : goal.each-loop-form-init
each-loop-form-init t c = (
  λ r same p ts knows ps fs.
      places_none c.args.self.now.work.now (matcher identifiers r same) p (λ i. refl) ts c.args.found.now c.new-columns.result c.columns.new.columns c.new-columns.ensures.items (c.in_ok-columns.ensures r same p knows ps),
  λ region fr h.
      let r = c.requires.knows.0 in
      let same = c.requires.knows.1.0 in
      let p = c.requires.pattern.0 in
      let is = names_in (role_of identifiers r) p in
      (h, added_named c.args.self.now.work.now region c.new-columns.result c.columns.new.columns is c.new-columns.ensures.items (c.in_ok-columns.ensures r same p c.requires.knows.1.1 c.requires.pattern.1)),
)

pub each-returns-then-not-branch-clause-finds : goal.each-returns-then-not-branch-clause-finds
each-returns-then-not-branch-clause-finds t c = λ r same p ts knows ps fs.
    let w = c.args.self.now.work.now in
    let m = matcher identifiers r same in
    let k = c.loop-form.form-index in
    let n = part_there w k c.args.forms.now ts (record { number = 0 }) fs c.loop-form-test.true in
    let a = finds_false w (record { bindings = c.new.result; leaves = c.new-in-loop-form.result }) c.tree.new.found (match_tree m p n.part) c.in_ok-tree.field-0 c.if-not-branch.true (c.in_ok-tree.ensures.finds r same p n.part knows ps n.stands) in
    places_fail w m p ts k c.args.found.now c.loop-form.found c.loop-form.columns.items n.part (c.loop-form.invariant.0 r same p ts knows ps fs) (split_one w k ts _ n) a

pub each-loop-form-preserved : goal.each-loop-form-preserved
each-loop-form-preserved t c = (
  λ r same p ts knows ps fs.
      let w = c.args.self.now.work.now in
      let m = matcher identifiers r same in
      let k = c.loop-form.form-index in
      let n = part_there w k c.args.forms.now ts (record { number = 0 }) fs c.loop-form-test.true in
      let none : Found = record { bindings = c.new.result; leaves = c.new-in-loop-form.result } in
      let a = finds_true w none c.tree.new.found (match_tree m p n.part) c.in_ok-tree.field-0 c.if-not-branch.false (c.in_ok-tree.ensures.finds r same p n.part knows ps n.stands) in
      places_more w m p (λ i. refl) c.told_apart.ensures.idents ts k c.args.found.now c.loop-form.found (record { bindings = c.loop-form.found.bindings; leaves = c.extend_from_slice.new.self }) none c.tree.new.found
      c.loop-form.columns.items c.spread.new.columns.items n.part a.0 (c.loop-form.invariant.0 r same p ts knows ps fs) (split_one w k ts _ n) a.1 c.new.ensures.items c.new-in-loop-form.ensures.items a.2 c.in_ok-spread.ensures refl (c.in_ok-extend_from_slice.ensures.items ∙ ap (λ x. c.loop-form.found.leaves.items ++ x) c.as_slice.ensures.value),
  λ region fr h.
      let w = c.args.self.now.work.now in
      let i = c.loop-form.invariant.1 region fr h in
      let n = part_named w region c.loop-form.form-index c.args.forms.now (record { number = 0 }) fr c.loop-form-test.true in
      let p = c.in_ok-tree.ensures.named region n (none_named w region c.new.result.items c.new.ensures.items) in
      (i.0, spread_named w region c.tree.new.found.bindings.items c.loop-form.columns.items c.spread.new.columns.items c.in_ok-spread.ensures p i.1),
)

pub each-spread-requires : goal.each-spread-requires
each-spread-requires t c =
    let w = c.args.self.now.work.now in
    let r = c.requires.knows.0 in
    let same = c.requires.knows.1.0 in
    let knows = c.requires.knows.1.1 in
    let m = matcher identifiers r same in
    let p = c.requires.pattern.0 in
    let ts = c.requires.forms.0 in
    let k = c.loop-form.form-index in
    let n = part_there w k c.args.forms.now ts (record { number = 0 }) c.requires.forms.1 c.loop-form-test.true in
    let none : Found = record { bindings = c.new.result; leaves = c.new-in-loop-form.result } in
    let a = finds_true w none c.tree.new.found (match_tree m p n.part) c.in_ok-tree.field-0 c.if-not-branch.false (c.in_ok-tree.ensures.finds r same p n.part knows c.requires.pattern.1 n.stands) in
    places_count w m p (λ i. refl) ts k c.args.found.now c.loop-form.found none c.tree.new.found c.loop-form.columns.items n.part a.0 (c.loop-form.invariant.0 r same p ts knows c.requires.pattern.1 c.requires.forms.1) a.1
    c.new.ensures.items a.2

pub each-returns-clause-finds : goal.each-returns-clause-finds
each-returns-clause-finds t c = λ r same p ts knows ps fs.
    let w = c.args.self.now.work.now in
    let k = c.loop-form.form-index in
    places_all w (matcher identifiers r same) p ts k c.args.found.now c.loop-form.found (record { bindings = c.collect.new.bindings; leaves = c.loop-form.found.leaves }) c.loop-form.columns.items
    (c.loop-form.invariant.0 r same p ts knows ps fs) (behind_past w k c.args.forms.now ts fs c.loop-form-test.false) c.in_ok-collect.ensures refl

-- ---- what nodes of a region may name

pub tree-returns-in_ok-name-in-Name-clause-named : goal.tree-returns-in_ok-name-in-Name-clause-named
tree-returns-in_ok-name-in-Name-clause-named t c = λ region can h. c.in_ok-name-in-Name.ensures.named region can h

pub tree-returns-in_ok-rest-in-Some-clause-named : goal.tree-returns-in_ok-rest-in-Some-clause-named
tree-returns-in_ok-rest-in-Some-clause-named t c = λ region can h.
    let l = c.in-List-look_at.ensures.named region can in
    c.in_ok-rest-in-Some.ensures.named region can l (c.in_ok-at-in-List-look_at.ensures.named region l.0 h)

pub tree-returns-in-None-clause-named : goal.tree-returns-in-None-clause-named
tree-returns-in-None-clause-named t c = λ region can h. c.in_ok-at-in-List-look_at.ensures.named region (c.in-List-look_at.ensures.named region can).0 h

pub tree-returns-in-Some-2-clause-named : goal.tree-returns-in-Some-2-clause-named
tree-returns-in-Some-2-clause-named t c = λ region can h. c.in_ok-at-in-Vector-look_at-2.ensures.named region (c.in-Vector-look_at-2.ensures.named region can) h

pub tree-returns-in-None-2-clause-named : goal.tree-returns-in-None-2-clause-named
tree-returns-in-None-2-clause-named t c = λ region can h. c.in_ok-at-in-Vector-look_at-2.ensures.named region (c.in-Vector-look_at-2.ensures.named region can) h

pub parts-returns-then-rest-after-clause-named : goal.parts-returns-then-rest-after-clause-named
parts-returns-then-rest-after-clause-named t c = λ region fr h. c.loop-k.invariant.2 region fr h

pub parts-returns-then-not-branch-clause-named : goal.parts-returns-then-not-branch-clause-named
parts-returns-then-not-branch-clause-named t c = λ region fr h.
    let w = c.args.self.now.work.now in
    let j = c.loop-k.j in
    let n = length c.args.form.now - j - c.saturating_sub-after.result in
    c.in_ok-each.ensures.named region (front_named w region (j + n - j) (drop j c.args.form.now) (behind_named w region j c.args.form.now fr)) (c.loop-k.invariant.2 region fr h)

pub parts-returns-then-rest-eq0-clause-named : goal.parts-returns-then-rest-eq0-clause-named
parts-returns-then-rest-eq0-clause-named t c = λ region fr h. c.loop-k.invariant.2 region fr h

pub parts-returns-then-not-branch-2-clause-named : goal.parts-returns-then-not-branch-2-clause-named
parts-returns-then-not-branch-2-clause-named t c = λ region fr h.
    c.in_ok-tree.ensures.named region (part_named c.args.self.now.work.now region c.loop-k.j c.args.form.now (record { number = 0 }) fr (omega arith)) (c.loop-k.invariant.2 region fr h)

pub parts-returns-clause-named : goal.parts-returns-clause-named
parts-returns-clause-named t c = λ region fr h. c.loop-k.invariant.2 region fr h

pub rest-returns-in_ok-list-in-None-end-2-clause-named : goal.rest-returns-in_ok-list-in-None-end-2-clause-named
rest-returns-in_ok-list-in-None-end-2-clause-named t c = λ region can row h. c.in_ok-list-in-None-end-2.ensures.named region can h

pub rest-returns-then-from-row-clause-named : goal.rest-returns-then-from-row-clause-named
rest-returns-then-from-row-clause-named t c = λ region can row h. c.in_ok-list-in-Some-end-2.ensures.named region can h

pub rest-returns-in_ok-tree-in-Some-end-2-clause-named : goal.rest-returns-in_ok-tree-in-Some-end-2-clause-named
rest-returns-in_ok-tree-in-Some-end-2-clause-named t c = λ region can row h.
    c.in_ok-tree-in-Some-end-2.ensures.named region (subst (EndNamed c.args.self.now.work.now region) c.in-Some-end-2.is row.1) h

pub each-returns-then-not-branch-clause-named : goal.each-returns-then-not-branch-clause-named
each-returns-then-not-branch-clause-named t c = λ region fr h. (c.loop-form.invariant.1 region fr h).0

pub each-returns-clause-named : goal.each-returns-clause-named
each-returns-clause-named t c = λ region fr h.
    let i = c.loop-form.invariant.1 region fr h in
    collected_named c.args.self.now.work.now region c.loop-form.found.bindings.items c.collect.new.bindings.items c.loop-form.columns.items c.in_ok-collect.ensures i.0 i.1
